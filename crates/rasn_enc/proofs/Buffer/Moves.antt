-- Octets moved up, block by block.
use Rattle.std.proofs.Common.{◌≡◌, ◌≤◌, ◌+◌, ◌-◌, ◌++◌, ℕ, List, [], drop, take, length, refl, sym, ap, ◌∙◌, arith}
use Rattle.std.proofs.lemmas.List.{append_assoc, take-append-le, take-take, length-take-le, drop_at, drop_all, drop-take, drop-drop, take-append-drop}
use Rattle.std.proofs.lemmas.Simd.{put_chunk_is, length-chunk}
use Rattle.std.proofs.Math.Seq.{paste}
use lib.Lanes.{chunk, put_chunk}
use Rattle.rasn_enc.specs.Buffer.Moves.{Moves}
use Rattle.rasn_enc.proofs.Buffer.Rendered.{drop-split}

pub moves-none : (xs : List ℕ) (hi by : ℕ) → hi + by ≤ length xs → Moves xs xs hi hi by
moves-none xs hi by h =
    let n : drop hi (take hi xs) ≡ [] = drop_all hi (take hi xs) (omega (arith, length-take-le hi xs (omega arith))) in
    record { is = sym (take-append-drop (hi + by) xs) ∙ rw n refl }

module _ (xs ys zs : List ℕ) (lo mid hi by : ℕ) (low : lo ≤ mid) (high : mid ≤ hi) (within : hi + by ≤ length xs) (first : Moves xs ys mid hi by) where
  front-len : length (take (mid + by) xs) ≡ mid + by
  front-len = length-take-le (mid + by) xs (omega arith)

  -- what isn't moved yet
  front : (n : ℕ) → n ≤ mid + by → take n ys ≡ take n xs
  front n h =
      let l = front-len in
      rw first.is (take-append-le n (take (mid + by) xs) (drop mid (take hi xs) ++ drop (hi + by) xs) (omega (arith, l, h)) ∙ take-take n (mid + by) xs h)

  behind : drop (mid + by) ys ≡ drop mid (take hi xs) ++ drop (hi + by) xs
  behind = rw first.is (drop_at (take (mid + by) xs) (drop mid (take hi xs) ++ drop (hi + by) xs) (mid + by) front-len)

  run : drop lo (take hi xs) ≡ drop lo (take mid xs) ++ drop mid (take hi xs)
  run =
      let l = length-take-le hi xs (omega arith) in
      drop-split lo mid (take hi xs) low (omega (arith, l)) ∙ ap (λ z. drop lo z ++ drop mid (take hi xs)) (take-take mid hi xs high)

  pub moves-then : Moves ys zs lo mid by → Moves xs zs lo hi by
  moves-then more = record {
    is = more.is ∙ (rw (front (lo + by) (omega arith), front mid (omega arith), behind, run)
        (ap (λ z. take (lo + by) xs ++ z) (sym (append_assoc (drop lo (take mid xs)) (drop mid (take hi xs)) (drop (hi + by) xs)))));
  }

-- one block
pub moves-block : (xs : List ℕ) (left n by : ℕ) → left + n + by ≤ length xs → Moves xs (put_chunk (left + by) xs (chunk left n xs)) left (left + n) by
moves-block xs left n by h =
    let l : length (chunk left n xs) ≡ n = length-chunk left n xs (omega arith) in
    let e : left + n + by ≡ left + by + n = omega arith in
    let r : drop left (take (left + n) xs) ≡ chunk left n xs = drop-take left n xs in
    record {
      is = put_chunk_is (left + by) xs (chunk left n xs) (omega (arith, l))
          ∙ rw (l, drop-drop n (left + by) xs, r, e) refl;
    }

-- the rest
pub moves-paste : (xs : List ℕ) (lo hi by : ℕ) → lo ≤ hi → Moves xs (paste xs (lo + by) (drop lo xs) (hi - lo)) lo hi by
moves-paste xs lo hi by h =
    let a : lo + by + (hi - lo) ≡ hi + by = omega arith in
    let b : lo + (hi - lo) ≡ hi = omega arith in
    let r : take (hi - lo) (drop lo xs) ≡ drop lo (take hi xs) = sym (drop-take lo (hi - lo) xs) ∙ ap (λ i. drop lo (take i xs)) b in
    record { is = rw (a, r) (append_assoc (take (lo + by) xs) (drop lo (take hi xs)) (drop (hi + by) xs)) }

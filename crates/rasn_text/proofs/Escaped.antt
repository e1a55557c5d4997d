-- The characters of a value, one after the other.
use Rattle.std.proofs.Common.{◌≡◌, ℕ, ◌+◌, ◌<◌, Bool, true, false, List, [], ◌∷◌, ◌++◌, length, sym, ap, ◌∙◌, append_assoc, arith, length-append}
use Rattle.std.specs.Prelude.{chars, IsUtf8, encode_utf8, encode_utf8_all, ◌==◌, ◌&&◌}
use Rattle.std.proofs.lemmas.Str.{chars-nil, chars-encodes, encode_same, length-encode, len_utf8_bounds}
use Rattle.std.proofs.lemmas.List.{append-nil}
use Rattle.rasn_text.specs.Escapes.{written, written_from}
use lib.Utf8.{scalars, scalar}

both_second : (a b : Bool) → (a && b) ≡ true → b ≡ true
both_second true b e = e
both_second false b e = cc

-- A text that begins with a character: its characters are this one and those after it.
pub first_of : (bs rest : List ℕ) (c : ℕ) → IsUtf8 bs → bs ≡ encode_utf8 c ++ rest → IsUtf8 rest × (chars bs ≡ c ∷ chars rest)
first_of bs rest c ([], (s, e)) f =
    let k = length-encode c in let b = len_utf8_bounds c in let n : 0 ≡ length (encode_utf8 c) + length rest = ap length (e ∙ f) ∙ length-append (encode_utf8 c) rest in absurd (omega (arith, k, b, n))
first_of bs rest c (d ∷ ds, (s, e)) f =
    let same = encode_same d c (encode_utf8_all ds) rest (e ∙ f) in
    let more : scalars ds ≡ true = both_second (scalar d) (scalars ds) s in (
      (ds, (more, same.1)),
      ap chars (sym e) ∙ (chars-encodes (d ∷ ds) s ∙ (ap (λ x. x ∷ ds) same.0 ∙ ap (λ l. c ∷ l) (sym (chars-encodes ds more) ∙ ap chars same.1))),
    )

-- There are no more characters exactly if there are no more octets.
pub none_left : (rest : List ℕ) → IsUtf8 rest → (length (chars rest) == 0) ≡ (length rest == 0)
none_left rest ([], (s, e)) = ap (λ l. length (chars l) == 0) (sym e) ∙ (ap (λ l. length l == 0) (chars-encodes [] s) ∙ ap (λ l. length l == 0) e)
none_left rest (d ∷ ds, (s, e)) =
    let k = length-encode d in let b = len_utf8_bounds d in let n : length rest ≡ length (encode_utf8 d) + length (encode_utf8_all ds) = ap length (sym e) ∙ length-append (encode_utf8 d) (encode_utf8_all ds) in
    ap (λ l. length (chars l) == 0) (sym e) ∙ (ap (λ l. length l == 0) (chars-encodes (d ∷ ds) s) ∙ (not_none (length (d ∷ ds)) (omega arith) ∙ sym (not_none (length rest) (omega (arith, k, b, n)))))
  where
    not_none : (n : ℕ) → 0 < n → (n == 0) ≡ false
    not_none n h = grind arith

pub one_more_written : (old after whole : List ℕ) (f last : Bool) (c : ℕ) (bs rest : List ℕ) → IsUtf8 bs → bs ≡ encode_utf8 c ++ rest → last ≡ (length rest == 0) → after ≡ old ++ written f last c
    → old ++ written_from f (chars bs) ≡ whole → IsUtf8 rest × (after ++ written_from false (chars rest) ≡ whole)
one_more_written old after whole f last c bs rest u e l a w =
    let o = first_of bs rest c u e in
    let t : written f (length (chars rest) == 0) c ≡ written f last c = ap (λ b. written f b c) (none_left rest o.0 ∙ sym l) in (
      o.0,
      ap (λ l. l ++ written_from false (chars rest)) (a ∙ ap (λ l. old ++ l) (sym t))
          ∙ (append_assoc old _ (written_from false (chars rest)) ∙ (ap (λ l. old ++ written_from f l) (sym o.1) ∙ w)),
    )

pub all_written : (old whole rest : List ℕ) (f : Bool) → length rest ≡ 0 → old ++ written_from f (chars rest) ≡ whole → old ≡ whole
all_written old whole [] f e w = sym (append-nil old) ∙ (ap (λ l. old ++ written_from f l) (sym chars-nil) ∙ w)
all_written old whole (b ∷ rest) f e w = absurd (omega arith)

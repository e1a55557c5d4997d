-- Bits that are filled with 0 bits up to a size.
use Rattle.std.proofs.Common.{◌≡◌, ◌⊎◌, ℕ, zero, suc, ◌+◌, ◌-◌, ◌*◌, ◌/◌, ◌<◌, ◌≤◌, List, [], ◌∷◌, ◌++◌, Bool, true, false, cond, take, length, length-append, Option, Some, None, inl, inr, refl, sym, ap, ◌∙◌, subst, append_assoc, arith}
use Rattle.std.proofs.Math.ListN.{replicate}
use Rattle.std.proofs.Math.Seq.{take_all}
use Rattle.std.proofs.lemmas.List.{append-nil, replicate-append-replicate, length-replicate}
use Rattle.std.specs.Int.{div_ceil}
use Rattle.json.specs.Json.{Json}
use Rattle.rasn_types.specs.BitString.{Packs, bits_in, zeros}
use Rattle.rasn_types.proofs.BitString.Bits.{bits_in-append, length-bits_in}
use Rattle.rasn_schema.specs.declared.types.LeafKind.{LeafKind}
use Rattle.rasn_schema.specs.declared.types.LeafKind.TheVariants.{NamedBits}
use Rattle.rasn_json.specs.Json.{DigitsJson, BitsJson, IsSize}

zero_octets : (r : ℕ) → bits_in (replicate r 0) ≡ zeros (8 * r)
zero_octets zero = refl
zero_octets (suc r) = ap (λ l. zeros 8 ++ l) (zero_octets r) ∙ (replicate-append-replicate 8 (8 * r) _ ∙ ap zeros (omega arith))

-- Octets that hold bits, and octets that are 0 up to as many as a size takes.
pub filled : (bs : List Bool) (o new : List ℕ) (n r : ℕ) → Packs bs o → length bs ≤ n → new ≡ o ++ replicate r 0 → length o + r ≡ (n + 7) / 8 → Packs (bs ++ zeros (n - length bs)) new
filled bs o new n r p le e s =
    let k = n - length bs in
    let size : 8 * length o ≡ length bs + p.unused = omega (arith, sym (length-bits_in o) ∙ (ap length p.all ∙ length-append bs (zeros p.unused)), length-replicate p.unused false) in
    let rest : p.unused + 8 * r ≡ k + (8 * ((n + 7) / 8) - n) = omega (arith, size, s, le) in
    record {
      unused = 8 * ((n + 7) / 8) - n;
      few = omega arith;
      all = ap bits_in e ∙ (bits_in-append o (replicate r 0) ∙ (ap (λ l. bits_in o ++ l) (zero_octets r) ∙ (ap (λ l. l ++ zeros (8 * r)) p.all ∙ (append_assoc bs (zeros p.unused) (zeros (8 * r))
          ∙ (ap (λ l. bs ++ l) (replicate-append-replicate p.unused (8 * r) false ∙ (ap zeros rest ∙ sym (replicate-append-replicate k (8 * ((n + 7) / 8) - n) false)))
          ∙ sym (append_assoc bs (zeros k) (zeros (8 * ((n + 7) / 8) - n))))))));
    }

pub octets_taken : (n : ℕ) → div_ceil n 8 ≡ (n + 7) / 8
octets_taken n = omega arith

-- The same of octets that are cut to as many, or are filled up.
pub filled_up : (bs : List Bool) (o new : List ℕ) (n m len : ℕ) (ok : Bool) → Packs bs o → len ≡ length o → length bs ≤ n → m ≡ (n + 7) / 8 → ok ≡ true → new ≡ cond ok (take m o ++ replicate (m - len) 0) o → Packs (bs ++ zeros (n - length bs)) new
filled_up bs o new n m len ok p at le d t e =
    let size : 8 * length o ≡ length bs + p.unused = omega (arith, sym (length-bits_in o) ∙ (ap length p.all ∙ length-append bs (zeros p.unused)), length-replicate p.unused false) in
    let few = p.few in
    let short : length o ≤ m = omega (arith, size, few, le, d) in
    filled bs o new n (m - length o) p le
    (e ∙ (ap (λ b. cond b (take m o ++ replicate (m - len) 0) o) t ∙ (ap (λ k. take m o ++ replicate (m - k) 0) at ∙ ap (λ l. l ++ replicate (m - length o) 0) (take_all m o short))))
    (omega (arith, short, d))

module _ (n : ℕ) (bs : List Bool) (j : Json) where
  filled_length : length bs ≤ n → length (bs ++ zeros (n - length bs)) ≡ n
  filled_length le = omega (arith, length-append bs (zeros (n - length bs)), length-replicate (n - length bs) false)

  none_filled : length bs ≡ n → bs ++ zeros (n - length bs) ≡ bs
  none_filled e = let z : n - length bs ≡ 0 = omega arith in ap (λ k. bs ++ zeros k) z ∙ append-nil bs

  -- The digits of bits that are as many as the size, or of named bits that are filled.
  bits_named : length bs ≤ n → DigitsJson (bs ++ zeros (n - length bs)) j → BitsJson NamedBits (Some n) bs j
  bits_named le d = (bs ++ zeros (n - length bs), (n - length bs, refl, filled_length le), d)

  bits_sized : (kind : LeafKind) → length bs ≡ n → DigitsJson (bs ++ zeros (n - length bs)) j → BitsJson kind (Some n) bs j
  bits_sized NamedBits e d = bits_named (omega arith) d
  bits_sized kind e d = (bs, (refl, e), subst (λ l. DigitsJson l j) (none_filled e) d)

  pub bits_written : (kind : LeafKind) → IsSize kind n (length bs) → DigitsJson (bs ++ zeros (n - length bs)) j → BitsJson kind (Some n) bs j
  bits_written kind (inl e) d = bits_sized kind e d
  bits_written kind (inr (e, lt)) d = subst (λ k. BitsJson k (Some n) bs j) (sym e) (bits_named (omega arith) d)

-- Bits as the contents of a BIT STRING.
use Rattle.std.proofs.Common.{◌≡◌, ℕ, zero, suc, ◌+◌, ◌*◌, ◌/◌, ◌%◌, ◌<◌, ◌≤◌, Bool, false, List, [], ◌∷◌, ◌++◌, length, Result, Ok, Err, OnOk, refl, sym, ap, ap₂, ◌∙◌, subst, arith}
use Rattle.std.specs.Prelude.{min}
use Rattle.std.proofs.lemmas.List.{append_assoc, length-append, length-replicate}
use Rattle.std.proofs.lemmas.Result.{on_ok_weaker}
use Rattle.rasn_types.specs.Tags.{in_universal}
use Rattle.rasn_types.specs.Framing.{AreOctets}
use Rattle.rasn_types.specs.Shapes.{bits, leaf, bit_string, Admits}
use Rattle.rasn_types.specs.BitString.{zeros, Pushes}
use Rattle.rasn_types.specs.Bytes.{IsUntaggedOpen, AllFalse, WrittenBits, WritesString, Bytes}
use Rattle.rasn_types.specs.declared.types.tag.Tag.{Tag}
use Rattle.rasn_types.specs.declared.types.constraints.Constraints.{Constraints}
use Rattle.rasn_types.proofs.BitString.Bits.{length-bits_in}
use Rattle.rasn_types.proofs.Headers.Digits.{front_octets}
use Rattle.rasn_enc.specs.View.{View}
use Rattle.rasn_enc.specs.Primitive.{Appends}
use Rattle.rasn_enc.specs.Buffer.Contents.{AppendsOctets}
use Rattle.rasn_enc.specs.Encoding.{AppendsEncoding}
use Rattle.rasn_enc.proofs.Leaves.Primitive.{encoded_one}
use Rattle.rasn_enc.proofs.Leaves.Segments.{str_begins}

-- ---- one piece
all_false : (n : ℕ) → AllFalse (zeros n)
all_false zero = tt
all_false (suc n) = (refl, all_false n)

same_count : (n u v a : ℕ) → n + u ≡ 8 * a → (n + v) % 8 ≡ 0 → u < 8 → v < 8 → u ≡ v
same_count n u v a h k i j = omega arith

-- A count and the octets after it are the contents of bits.
bits_written : (bs : List Bool) (unused : ℕ) (counted contents : List ℕ) → unused < 8 → (length bs + unused) % 8 ≡ 0 → counted ≡ unused ∷ [] → Pushes bs counted contents → AreOctets contents → WrittenBits bs contents
bits_written bs unused counted contents few whole e p o =
    let q = p.packs in
    let z : length (zeros q.unused) ≡ q.unused = length-replicate q.unused false in
    let a = ap length q.all in
    let c : q.unused ≡ unused = same_count (length bs) q.unused unused (length p.octets) (omega (arith, a, z, length-append bs (zeros q.unused), length-bits_in p.octets)) whole q.few few in
    record {
      is = record {
        octets = p.octets;
        unused = zeros q.unused;
        is = p.is ∙ ap₂ (λ x y. x ++ y) (e ∙ ap (λ n. n ∷ []) (sym c ∙ sym z)) refl;
        few = omega (arith, z, q.few);
        all = sym q.all;
      };
      zeros = all_false q.unused;
      octets = o;
    }

-- A count and octets put after others are too.
bits_put : (bs : List Bool) (unused : ℕ) (old counted new : List ℕ) → unused < 8 → (length bs + unused) % 8 ≡ 0 → counted ≡ old ++ unused ∷ [] → Pushes bs counted new → AreOctets new
    → AppendsOctets (WrittenBits bs) old new
bits_put bs unused old counted new few whole e p o =
    let l : List ℕ = unused ∷ p.octets in
    let eq : new ≡ old ++ l = p.is ∙ (ap (λ (x : List ℕ). x ++ p.octets) e ∙ append_assoc old (unused ∷ []) p.octets) in
    let q : Pushes bs (unused ∷ []) l = record { octets = p.octets; is = refl; packs = p.packs } in
    record { octets = l; written = bits_written bs unused (unused ∷ []) l few whole refl q (front_octets old l (subst AreOctets eq o)).1; is = eq }

pub bits_appended : {R E : Type 0} (result : Result R E) (bs : List Bool) (unused : ℕ) (old counted new : List ℕ) → unused < 8 → (length bs + unused) % 8 ≡ 0 → counted ≡ old ++ unused ∷ []
    → OnOk result (Pushes bs counted new) → OnOk result (AreOctets new) → OnOk result (AppendsOctets (WrittenBits bs) old new)
bits_appended (Ok x) bs unused old counted new few whole e p o = bits_put bs unused old counted new few whole e p o
bits_appended (Err x) bs unused old counted new few whole e p o = tt

-- How many contents octets bits take.
pub length-written : (bs : List Bool) (l : List ℕ) → WrittenBits bs l → length l ≡ 1 + (length bs / 8 + min 1 (length bs % 8))
length-written bs l w =
    let e = ap length w.is.is in
    let a = ap length w.is.all in
    let few = w.is.few in
    omega (arith, e, a, few, length-append bs w.is.unused, length-bits_in w.is.octets)

-- ---- a whole string
pub bits_encoded : {R E : Type 0} (result : Result R E) (tag : Tag) (c : Constraints) (bs : List Bool) (v w : View) → Admits ◌≤◌ c.size (length bs)
    → OnOk result (Appends (WritesString v.rule WrittenBits 7992 (in_universal 3) tag bs) tag v w) → OnOk result (AppendsEncoding (leaf bit_string tag c) (bits bs) v w)
unfolding Bytes IsUntaggedOpen
bits_encoded result tag c bs v w m h = on_ok_weaker result (λ a.
    encoded_one (WritesString v.rule WrittenBits 7992 (in_universal 3) tag bs) tag (leaf bit_string tag c) (bits bs) v w a (λ n. n)
    (λ o d. str_begins WrittenBits 7992 (in_universal 3) v.rule tag bs o d)
    (λ b d. (m, (bs, refl, d)))) h

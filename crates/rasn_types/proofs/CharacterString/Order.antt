-- The order of strings of 16-bit units.
use Rattle.std.proofs.Common.{◌≡◌, ℕ, ◌+◌, ◌*◌, ◌<◌, List, [], ◌∷◌, refl, arith}
use Rattle.std.proofs.lemmas.Bool.Decides.{nat_tests}
use Rattle.std.specs.declared.cmp.Ordering.{Ordering}
use Rattle.std.specs.Ordering.{nat_cmp, ordering_then}
use Rattle.std.specs.Cmp.Lexicographic.{slice_cmp}
use Rattle.rasn_types.specs.Framing.{AreOctets}
use Rattle.rasn_types.specs.CharacterString.{ArePaired, units_of}

-- Two units have the order of their octets, the high one first.
unit_ordered : (a b c d : ℕ) (o : Ordering) → b < 256 → d < 256
    → ordering_then (nat_cmp a c) (ordering_then (nat_cmp b d) o) ≡ ordering_then (nat_cmp (256 * a + b) (256 * c + d)) o
unit_ordered a b c d o p q = grind (arith, nat_tests)

pub units_ordered : (k l : List ℕ) → ArePaired k → ArePaired l → AreOctets k → AreOctets l → slice_cmp nat_cmp k l ≡ slice_cmp nat_cmp (units_of k) (units_of l)
units_ordered [] [] p q o u = refl
units_ordered [] (c ∷ []) p q o u = absurd (omega arith)
units_ordered [] (c ∷ d ∷ l) p q o u = refl
units_ordered (a ∷ []) l p q o u = absurd (omega arith)
units_ordered (a ∷ b ∷ k) [] p q o u = refl
units_ordered (a ∷ b ∷ k) (c ∷ []) p q o u = absurd (omega arith)
units_ordered (a ∷ b ∷ k) (c ∷ d ∷ l) p q o u =
    let e = units_ordered k l (omega arith) (omega arith) o.1.1 u.1.1 in rw e (unit_ordered a b c d (slice_cmp nat_cmp (units_of k) (units_of l)) o.1.0 u.1.0)

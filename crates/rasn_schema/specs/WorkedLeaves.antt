-- Contents octets that were worked out by hand: of REAL, RELATIVE-OID, UniversalString and times.
use Rattle.std.specs.Prelude.{ℕ, List, [], ◌∷◌}
use Rattle.rasn_types.specs.Contents.{IsTimeText, AreTimeDigits}
use Rattle.rasn_types.specs.Grammar.{quads}
use Rattle.rasn_schema.specs.Reals.{IsRealOctets, IsCanonicalReal}
use Rattle.rasn_schema.specs.Relative.{IsRelativeOid, AreTheSameOctets}

pub record WorkedLeaves : Type 0 where
  -- 5 * 2^-5, and 8^1, which is 2^3; 15 * 10^-1
  pub a_fraction : IsCanonicalReal (128 ∷ (251 ∷ (5 ∷ [])))
  pub a_power : IsRealOctets (144 ∷ (1 ∷ (1 ∷ []))) (128 ∷ (3 ∷ (1 ∷ [])))
  pub a_decimal : IsCanonicalReal (3 ∷ (49 ∷ (53 ∷ (46 ∷ (69 ∷ (45 ∷ (49 ∷ [])))))))
  pub a_zero : IsCanonicalReal []
  pub nothing_special : IsCanonicalReal (68 ∷ []) → ⊥
  pub no_base : (octets : List ℕ) → IsRealOctets (176 ∷ (1 ∷ (1 ∷ []))) octets → ⊥
  -- the example of X.690 8.20.5
  pub relative : IsRelativeOid (194 ∷ (123 ∷ (3 ∷ (2 ∷ [])))) (8571 ∷ (3 ∷ (2 ∷ [])))
  pub no_arcs : (l : List ℕ) → IsRelativeOid l [] → ⊥
  pub same_octets : AreTheSameOctets
  pub a_character : quads (0 ∷ (0 ∷ (0 ∷ (97 ∷ [])))) (97 ∷ [])
  pub no_surrogate : (ns : List ℕ) → quads (0 ∷ (0 ∷ (216 ∷ (0 ∷ [])))) ns → ⊥
  pub beyond_all : (ns : List ℕ) → quads (0 ∷ (17 ∷ (0 ∷ (0 ∷ [])))) ns → ⊥
  pub not_three : (ns : List ℕ) → quads (65 ∷ (66 ∷ (67 ∷ []))) ns → ⊥
  pub no_space : IsTimeText (32 ∷ []) → ⊥
  pub no_text : IsTimeText [] → ⊥
  pub not_five : AreTimeDigits 6 (49 ∷ (51 ∷ (52 ∷ (53 ∷ (51 ∷ []))))) → ⊥

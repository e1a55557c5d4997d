-- Normal encodings, worked out by hand.
use Rattle.std.specs.Prelude.{◌≡◌, ℕ, List, [], ◌∷◌}
use Rattle.rasn_types.specs.declared.types.codec.Codec.TheVariants.{Ber}
use Rattle.rasn.specs.WorkedShapes.{named, octets_in_set_of}
use Rattle.rasn.specs.Normal.{IsNormal}

-- SEQUENCE { IA5String, BOOLEAN } with Smith and TRUE: indefinite lengths, the string in two segments, and TRUE as 01
abbrev pub smith_in_segments : List ℕ
smith_in_segments = 48 ∷ 128 ∷ 54 ∷ 128 ∷ 4 ∷ 2 ∷ 83 ∷ 109 ∷ 4 ∷ 3 ∷ 105 ∷ 116 ∷ 104 ∷ 0 ∷ 0 ∷ 1 ∷ 1 ∷ 1 ∷ 0 ∷ 0 ∷ []

abbrev pub smith : List ℕ
smith = 48 ∷ 10 ∷ 22 ∷ 5 ∷ 83 ∷ 109 ∷ 105 ∷ 116 ∷ 104 ∷ 1 ∷ 1 ∷ 255 ∷ []

-- SET OF OCTET STRING with 02 before 01
abbrev pub falling_set_of : List ℕ
falling_set_of = 49 ∷ 6 ∷ 4 ∷ 1 ∷ 2 ∷ 4 ∷ 1 ∷ 1 ∷ []

pub record WorkedNormals : Type 0 where
  pub joined : IsNormal Ber named smith_in_segments smith
  pub not_kept : IsNormal Ber named smith_in_segments smith_in_segments → ⊥
  pub falls : (octets : List ℕ) → IsNormal Ber octets_in_set_of falling_set_of octets → ⊥

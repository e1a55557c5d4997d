-- Tag numbers and lengths in the fewest octets, and in one octet more.
use Rattle.std.specs.Prelude.{◌≡◌, ℕ, List, [], ◌∷◌, length, pos}
use Rattle.rasn_types.specs.Tags.{in_universal}
use Rattle.rasn_types.specs.declared.types.codec.Codec.{Codec}
use Rattle.rasn_types.specs.Framing.{IsShortestIdentifier, IsShortestLength, AreOctets}
use Rattle.rasn_types.specs.Shapes.{number, numbers, boolean, octet_string}
use Rattle.rasn.specs.Worked.{IsReadAs, IsLenient, plain}
use Rattle.rasn.specs.WorkedShapes.{tagged}

pub record WorkedHeaders : Type 0 where
  pub number_30 : IsShortestIdentifier (30 ∷ []) (in_universal 30)
  pub long_number_30 : IsShortestIdentifier (31 ∷ 30 ∷ []) (in_universal 30) → ⊥
  pub number_31 : IsShortestIdentifier (31 ∷ 31 ∷ []) (in_universal 31)
  pub padded_number_31 : IsShortestIdentifier (31 ∷ 128 ∷ 31 ∷ []) (in_universal 31) → ⊥
  pub length_127 : IsShortestLength (127 ∷ []) 127
  pub long_length_127 : IsShortestLength (129 ∷ 127 ∷ []) 127 → ⊥
  pub length_128 : IsShortestLength (129 ∷ 128 ∷ []) 128
  pub padded_length_128 : IsShortestLength (130 ∷ 0 ∷ 128 ∷ []) 128 → ⊥
  pub tag_31 : (rule : Codec) → IsReadAs rule (tagged boolean 31) (159 ∷ 31 ∷ 1 ∷ 255 ∷ []) (number (pos 1)) []
  pub padded_tag_31 : IsLenient (tagged boolean 31) (159 ∷ 128 ∷ 31 ∷ 1 ∷ 255 ∷ []) (number (pos 1))
  pub octets_128 : (rule : Codec) (octets : List ℕ) → length octets ≡ 128 → IsReadAs rule (plain octet_string 4) (4 ∷ 129 ∷ 128 ∷ octets) (numbers octets) []
  pub padded_octets_128 : (octets : List ℕ) → length octets ≡ 128 → AreOctets octets → IsLenient (plain octet_string 4) (4 ∷ 130 ∷ 0 ∷ 128 ∷ octets) (numbers octets)

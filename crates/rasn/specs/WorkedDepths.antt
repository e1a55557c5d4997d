-- Values nested as deeply as a decoder allows, and values nested one level deeper.
use Rattle.std.specs.Prelude.{ℕ, zero, suc, List, [], ◌∷◌, ◌++◌, length, pos, None}
use Rattle.rasn_types.specs.Tags.{in_universal}
use Rattle.rasn_types.specs.declared.types.codec.Codec.TheVariants.{Ber}
use Rattle.rasn_types.specs.Shapes.{Tree, number, numbers, items, integer, every, null, octet_string, Shape, prefix, seq, set, list, part, required}
use Rattle.rasn_types.specs.Shapes.Parts.{none}
use Rattle.rasn.specs.Worked.{IsRefusedBy, IsReadAs}
use Rattle.rasn.specs.WorkedShapes.{plain, contextual}

-- `n` encodings of the indefinite form, one inside the other: each begins with the octet `first` and `80`, and ends in
-- `00 00`. The innermost contents are `inner`.
unfoldable pub nested_in : ℕ → List ℕ → ℕ → List ℕ
nested_in first inner zero = inner
nested_in first inner (suc n) = first ∷ 128 ∷ (nested_in first inner n ++ (0 ∷ 0 ∷ []))

-- `n` constructed segments, one inside the other, that hold no octets.
abbrev pub segments : ℕ → List ℕ
segments n = nested_in 36 [] n

-- An empty SEQUENCE inside `n` others, an empty SET inside `n` others, and NULL under `n` explicit tags.
unfoldable pub sequences : ℕ → Shape
sequences zero = seq (in_universal 16) none
sequences (suc n) = seq (in_universal 16) (part required (sequences n) none)

unfoldable pub sets : ℕ → Shape
sets zero = set (in_universal 17) none
sets (suc n) = set (in_universal 17) (part required (sets n) none)

unfoldable pub prefixes : ℕ → Shape
prefixes zero = plain null 5
prefixes (suc n) = prefix (contextual 0) (prefixes n)

-- A SEQUENCE OF INTEGER inside `n` other SEQUENCE OF; below it, the octets (`30 00`, `30 02 30 00`, ..) and the tree of
-- an empty one inside `n` others.
unfoldable pub lists : ℕ → Shape
lists zero = list (in_universal 16) (plain (integer every) 2) None
lists (suc n) = list (in_universal 16) (lists n) None

unfoldable pub nested_lists : ℕ → List ℕ
nested_lists zero = 48 ∷ 0 ∷ []
nested_lists (suc n) = 48 ∷ length (nested_lists n) ∷ nested_lists n

unfoldable pub empty_in : ℕ → Tree
empty_in zero = items []
empty_in (suc n) = items (empty_in n ∷ [])

pub record WorkedDepths : Type 0 where
  pub segments_128 : IsReadAs Ber (plain octet_string 4) (segments 128) (numbers []) []
  pub segments_129 : IsRefusedBy Ber (plain octet_string 4) (segments 129)
  pub lists_64 : IsReadAs Ber (lists 63) (nested_lists 63) (empty_in 63) []
  pub lists_65 : IsRefusedBy Ber (lists 64) (48 ∷ 129 ∷ 128 ∷ nested_lists 63)
  pub sequences_128 : IsReadAs Ber (sequences 127) (nested_in 48 [] 128) (empty_in 127) []
  pub sequences_129 : IsRefusedBy Ber (sequences 128) (nested_in 48 [] 129)
  pub sets_128 : IsReadAs Ber (sets 127) (nested_in 49 [] 128) (empty_in 127) []
  pub sets_129 : IsRefusedBy Ber (sets 128) (nested_in 49 [] 129)
  pub prefixes_128 : IsReadAs Ber (prefixes 128) (nested_in 160 (5 ∷ 0 ∷ []) 128) (number (pos 0)) []
  pub prefixes_129 : IsRefusedBy Ber (prefixes 129) (nested_in 160 (5 ∷ 0 ∷ []) 129)

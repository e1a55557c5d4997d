-- Types of whole messages.
use Rattle.std.specs.Prelude.{◌≢◌, Bool, true, false, not, ◌&&◌, ℕ, List, ◌++◌}
use Rattle.rasn_types.specs.declared.types.codec.Codec.{Codec}
use Rattle.rasn_types.specs.declared.types.codec.Codec.TheVariants.{Cer, Der}
use Rattle.rasn_types.specs.Shapes.{Shape, Tree, option}
use Rattle.rasn_types.specs.Grammar.{Reads, top}
use Rattle.rasn_types.specs.Bytes.{Same}
use Rattle.rasn_types.specs.Carried.{IsWithinLimits}
use Rattle.rasn_types.specs.LawfulTest.{is_lawful}
use Rattle.rasn.specs.Carries.{carries_all}

abbrev pub is_optional : Shape → Bool
is_optional (option tag s) = true
is_optional _ = false

-- The shape is lawful, everything that DER reads of it is carried, and a value is never left out.
abbrev pub is_whole : Shape → Bool
is_whole s = is_lawful s && (carries_all s && not (is_optional s))

-- If the value is within limits, DER and BER read its DER octets as the same value, and leave everything after them as the rest.
abbrev pub IsReadBack : Shape → Tree → List ℕ → Type 0
IsReadBack s t octets = IsWithinLimits Der s 128 t → (rule : Codec) → rule ≢ Cer → (rest : List ℕ)
    → (u : Tree) × Same t u × Reads rule s 128 (top rule) (octets ++ rest) u rest

-- A value that is all of the octets, or the status of a refusal.
use Rattle.std.specs.Prelude.{ℕ, List, []}
use Rattle.rasn_types.specs.declared.types.codec.Codec.{Codec}
use Rattle.rasn_types.specs.Shapes.{Shape, Tree}
use Rattle.rasn_types.specs.Grammar.{Reads, top}
use Rattle.rasn_c.specs.declared.status.Status.{Status}
use Rattle.rasn_c.specs.declared.status.Status.TheVariants.{Refused, OutOfMemory}

-- The octets are no value of the shape; or there is no memory for one.
abbrev pub IsNoWhole : Codec → Shape → List ℕ → Status → Type 0
IsNoWhole rule s octets Refused = (t : Tree) → Reads rule s 128 (top rule) octets t [] → ⊥
IsNoWhole rule s octets OutOfMemory = Unit {0}
IsNoWhole rule s octets _ = ⊥

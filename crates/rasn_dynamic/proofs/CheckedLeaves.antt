-- Values that hold no others and are checked.
use Rattle.std.proofs.Common.{Result, Ok, Err}
use Rattle.rasn_types.specs.declared.types.tag.Tag.{Tag}
use Rattle.rasn_types.specs.declared.types.constraints.Constraints.{Constraints}
use Rattle.rasn_types.specs.declared.error.decode.DecodeError.{DecodeError}
use Rattle.rasn_types.specs.Shapes.{leaf, object_identifier}
use Rattle.rasn_types.specs.Trees.{unconstrained}
use Rattle.rasn_types.specs.Grammar.{Reads}
use Rattle.rasn_de.specs.State.{State}
use Rattle.rasn_de.specs.Checks.{Checks}

-- No constraint bounds an OBJECT IDENTIFIER.
pub checks_object : (tag : Tag) (bounds : Constraints) (old new : State) (r : Result (Unit {0}) DecodeError) → Checks (leaf object_identifier tag unconstrained) old r new → Checks (leaf object_identifier tag bounds) old r new
unfolding Reads
checks_object tag bounds old new (Ok u) h = (h.0, h.1)
checks_object tag bounds old new (Err e) h = h

use Rattle.std.proofs.Common.{◌≡◌, ◌≤◌, List, length}
use Rattle.rasn_types.specs.Shapes.{Tree}
use Rattle.rasn_de.specs.SequenceOf.{DecodesInTurn}
use Rattle.rasn_schema.specs.Shapes.{shape_of_type}
use Rattle.rasn_dynamic.specs.Inside.{DecodesTree}
use Rattle.rasn_dynamic.proofs.find.go_to_element.Given as goal

abbrev pub invariant-loop-element : goal.invariant-loop-element
invariant-loop-element l = (l.number ≤ l.index) × (ts : List Tree) × (length ts ≡ l.number) × DecodesInTurn (DecodesTree (shape_of_type l.types l.below l.element.0)) l.fn.decoder ts l.decoder

abbrev pub decreases-loop-element : goal.decreases-loop-element
decreases-loop-element l = length l.decoder.rest

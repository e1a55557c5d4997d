use Rattle.std.proofs.Common.{◌+◌, ◌*◌, map, length}
use Rattle.rasn_enc.proofs.Constructed.SequenceOf.{ElementsSoFar}
use Rattle.rasn_enc.proofs.Constructed.SetOf.{SetOfSoFar}
use Rattle.rasn_schema.specs.Trees.{tree_of}
use Rattle.rasn_schema.specs.Shapes.{shape_of_type}
use Rattle.rasn_enc.specs.View.{LeavesOthers}
use Rattle.rasn_schema.specs.Fitting.{Fits}
use Rattle.rasn_schema.proofs.Fitted.{FitSoFar, EachSoFar}
use Rattle.rasn_dynamic.proofs.SetWritten.{HoldsFrom}
use Rattle.rasn_dynamic.proofs.WrittenInside.{WrittenSoFar}
use Rattle.rasn_dynamic.proofs.writer.+encode.Given as goal

abbrev pub decreases-encode_at : goal.decreases-encode_at
decreases-encode_at l = 16 * l.levels

abbrev pub decreases-encode_type : goal.decreases-encode_type
decreases-encode_type l = 16 * l.below + 15

abbrev pub decreases-encode_inside : goal.decreases-encode_inside
decreases-encode_inside l = 16 * l.below + 14

abbrev pub decreases-encode_contents : goal.decreases-encode_contents
decreases-encode_contents l = 16 * l.below + 13

abbrev pub decreases-encode_components : goal.decreases-encode_components
decreases-encode_components l = 16 * l.below + 4

abbrev pub decreases-encode_elements : goal.decreases-encode_elements
decreases-encode_elements l = 16 * l.below + 4

abbrev pub decreases-encode_elements_in_order : goal.decreases-encode_elements_in_order
decreases-encode_elements_in_order l = 16 * l.below + 4

abbrev pub decreases-encode_set : goal.decreases-encode_set
decreases-encode_set l = 16 * l.below + 7

abbrev pub decreases-set_components : goal.decreases-set_components
decreases-set_components l = 16 * l.below + 6

abbrev pub invariant-set_components-loop-left : goal.invariant-set_components-loop-left
invariant-set_components-loop-left l = HoldsFrom (shape_of_type l.types l.below) (Fits l.types l.below) l.extensible l.components l.named l.values l.encoder.rule l.left l.found.items

abbrev pub decreases-set_components-loop-left : goal.decreases-set_components-loop-left
decreases-set_components-loop-left l = l.left

abbrev pub decreases-add_component : goal.decreases-add_component
decreases-add_component l = 16 * l.below + 5

abbrev pub decreases-component_octets : goal.decreases-component_octets
decreases-component_octets l = 16 * l.below + 4

abbrev pub decreases-encode_component : goal.decreases-encode_component
decreases-encode_component l = 16 * l.below + 3

abbrev pub invariant-encode_components-loop-rest : goal.invariant-encode_components-loop-rest
invariant-encode_components-loop-rest l = record {
  written : WrittenSoFar (shape_of_type l.types l.below) l.components l.rest l.values l.left l.fn.encoder l.encoder;
  fits : FitSoFar (Fits l.types l.below) l.components l.rest l.values l.left;
  keeps : LeavesOthers l.fn.encoder l.encoder;
}

abbrev pub decreases-encode_components-loop-rest : goal.decreases-encode_components-loop-rest
decreases-encode_components-loop-rest l = length l.rest

abbrev pub invariant-encode_elements-loop-rest : goal.invariant-encode_elements-loop-rest
invariant-encode_elements-loop-rest l = record {
  written : ElementsSoFar (shape_of_type l.types l.below l.element.0) (map tree_of l.values) (map tree_of l.rest) l.fn.encoder l.encoder;
  fits : EachSoFar (Fits l.types l.below l.element.0) l.values l.rest;
}

abbrev pub decreases-encode_elements-loop-rest : goal.decreases-encode_elements-loop-rest
decreases-encode_elements-loop-rest l = length l.rest

abbrev pub invariant-encode_elements_in_order-loop-rest : goal.invariant-encode_elements_in_order-loop-rest
invariant-encode_elements_in_order-loop-rest l = record {
  written : SetOfSoFar (shape_of_type l.types l.below l.element.0) (map tree_of l.values) (map tree_of l.rest) l.fn.encoder l.encoder l.previous;
  fits : EachSoFar (Fits l.types l.below l.element.0) l.values l.rest;
}

abbrev pub decreases-encode_elements_in_order-loop-rest : goal.decreases-encode_elements_in_order-loop-rest
decreases-encode_elements_in_order-loop-rest l = length l.rest

use Rattle.std.proofs.Common.{◌+◌, ◌-◌, ◌*◌, length, take}
use Rattle.json.specs.Value.{value_view}
use Rattle.rasn_json.specs.Json.{unknown_in}
use Rattle.rasn_json.specs.Reading.{ReadAt}
use Rattle.rasn_json.proofs.ReadParts.{ReadSoFar, EachRead}
use Rattle.rasn_schema.specs.Fitting.{Fits, EachFits}
use Rattle.rasn_dynamic.proofs.FitsRead.{FitSoFar}
use Rattle.rasn_json.proofs.reader.+read.Given as goal

abbrev pub decreases-value_at : goal.decreases-value_at
decreases-value_at l = 8 * (641 - l.depth)

abbrev pub decreases-value_of : goal.decreases-value_of
decreases-value_of l = 8 * (641 - l.depth) + 7

abbrev pub decreases-chosen_value : goal.decreases-chosen_value
decreases-chosen_value l = 8 * (641 - l.depth) + 6

abbrev pub decreases-object_value : goal.decreases-object_value
decreases-object_value l = 8 * (641 - l.depth) + 6

abbrev pub decreases-component_values : goal.decreases-component_values
decreases-component_values l = 8 * (641 - l.depth) + 5

abbrev pub decreases-component_value : goal.decreases-component_value
decreases-component_value l = 8 * (641 - l.depth) + 4

abbrev pub decreases-element_values : goal.decreases-element_values
decreases-element_values l = 8 * (641 - l.depth) + 5

abbrev pub invariant-component_values-loop-rest : goal.invariant-component_values-loop-rest
invariant-component_values-loop-rest l = FitSoFar (Fits l.types (18446744073709551615 - l.depth)) l.components l.rest l.values.items × ReadSoFar (unknown_in l.types) (ReadAt l.types (18446744073709551615 - l.depth)) l.components l.rest (value_view l.json) l.values.items

abbrev pub decreases-component_values-loop-rest : goal.decreases-component_values-loop-rest
decreases-component_values-loop-rest l = length l.rest

abbrev pub invariant-element_values-loop-index : goal.invariant-element_values-loop-index
invariant-element_values-loop-index l = EachFits (Fits l.types (18446744073709551615 - l.depth) l.element.0) l.values.items × EachRead (ReadAt l.types (18446744073709551615 - l.depth) l.element.0) (take l.index l.items) l.values.items

use Rattle.std.proofs.Common.{◌≡◌, ◌+◌, ◌*◌, length}
use Rattle.rasn_json.specs.Json.{unknown_in, JsonWithin}
use Rattle.rasn_json.specs.Refusals.{HasJsonWithin, IsRefusedAt}
use Rattle.rasn_json.proofs.Appended.{ObjectSoFar, ArraySoFar}
use Rattle.rasn_json.proofs.Refused.{ComponentsSoFar, ElementsSoFar}
use Rattle.rasn_json.proofs.writer.+write.Given as goal

abbrev pub decreases-put_at : goal.decreases-put_at
decreases-put_at g l = 8 * l.place.now.levels

abbrev pub decreases-put_value : goal.decreases-put_value
decreases-put_value g l = 8 * l.place.now.levels + 7

abbrev pub decreases-put_inside : goal.decreases-put_inside
decreases-put_inside g l = 8 * l.place.now.levels + 6

abbrev pub decreases-put_chosen : goal.decreases-put_chosen
decreases-put_chosen g l = 8 * l.place.now.levels + 5

abbrev pub decreases-put_object : goal.decreases-put_object
decreases-put_object g l = 8 * l.place.now.levels + 5

abbrev pub decreases-put_component : goal.decreases-put_component
decreases-put_component g l = 8 * l.place.now.levels + 4

abbrev pub decreases-put_member : goal.decreases-put_member
decreases-put_member g l = 8 * l.place.now.levels + 3

abbrev pub decreases-put_array : goal.decreases-put_array
decreases-put_array g l = 8 * l.place.now.levels + 5

abbrev pub invariant-put_object-loop-rest : goal.invariant-put_object-loop-rest
invariant-put_object-loop-rest g l =
    ObjectSoFar (unknown_in l.place.types.now) (JsonWithin l.place.types.now l.place.levels l.place.depth) l.components l.rest l.values l.left (g.T.Tokens.written l.fn.out) (g.T.Tokens.written l.out)
    × ComponentsSoFar (unknown_in l.place.types.now) (HasJsonWithin l.place.types.now l.place.levels l.place.depth) (IsRefusedAt l.place.types.now l.place.levels l.place.depth) l.components l.rest l.values l.left

abbrev pub decreases-put_object-loop-rest : goal.decreases-put_object-loop-rest
decreases-put_object-loop-rest g l = length l.rest

abbrev pub invariant-put_array-loop-left : goal.invariant-put_array-loop-left
invariant-put_array-loop-left g l =
    (l.index + length l.left ≡ length l.values)
    × ArraySoFar (JsonWithin l.place.types.now l.place.levels l.place.depth l.element.0) l.values l.left (g.T.Tokens.written l.fn.out) (g.T.Tokens.written l.out)
    × ElementsSoFar (HasJsonWithin l.place.types.now l.place.levels l.place.depth l.element.0) (IsRefusedAt l.place.types.now l.place.levels l.place.depth l.element.0) l.index l.values l.left

abbrev pub decreases-put_array-loop-left : goal.decreases-put_array-loop-left
decreases-put_array-loop-left g l = length l.left

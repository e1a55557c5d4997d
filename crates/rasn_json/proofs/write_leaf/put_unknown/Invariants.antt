use Rattle.std.proofs.Common.{◌≡◌, ◌+◌, length}
use Rattle.rasn_json.specs.Json.{OpenJson}
use Rattle.rasn_json.specs.Refusals.{HasOpen, IsRefusedOpen}
use Rattle.rasn_json.proofs.Appended.{ArraySoFar}
use Rattle.rasn_json.proofs.Refused.{ElementsSoFar}
use Rattle.rasn_json.proofs.write_leaf.put_unknown.Given as goal

abbrev pub invariant-loop-left : goal.invariant-loop-left
invariant-loop-left g l =
    (l.index + length l.left ≡ length l.values) × ArraySoFar OpenJson l.values l.left (g.T.Tokens.written l.fn.out) (g.T.Tokens.written l.out)
    × ElementsSoFar HasOpen IsRefusedOpen l.index l.values l.left

abbrev pub decreases-loop-left : goal.decreases-loop-left
decreases-loop-left g l = length l.left

use Rattle.std.proofs.Common.{◌≤◌}
use Rattle.rasn_enc.specs.Buffer.Moves.{Moves}
use Rattle.rasn_enc.proofs.ber.enc.writer.rendering.move_blocks.Given as goal

abbrev pub invariant-loop-left : goal.invariant-loop-left
invariant-loop-left g l = record {
  low : l.at ≤ l.left;
  high : l.left ≤ l.end;
  moved : Moves l.fn.buffer l.buffer l.left l.end l.by;
}

abbrev pub decreases-loop-left : goal.decreases-loop-left
decreases-loop-left g l = l.left

use Rattle.std.proofs.Common.{take}
use Rattle.rasn_enc.proofs.Buffer.Steps.{Rest}
use Rattle.rasn_enc.proofs.ber.enc.writer.rendering.render.Given as goal

abbrev pub invariant-loop-k : goal.invariant-loop-k
invariant-loop-k l = Rest (take l.gathered l.fn.buffer) l.headers l.buffer l.k l.from l.to l.copies

abbrev pub decreases-loop-k : goal.decreases-loop-k
decreases-loop-k l = l.k

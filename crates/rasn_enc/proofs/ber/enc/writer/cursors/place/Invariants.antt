use Rattle.std.proofs.Common.{◌-◌}
use Rattle.rasn_enc.proofs.Buffer.Cursors.{Walk}
use Rattle.rasn_enc.proofs.ber.enc.writer.cursors.place.Given as goal

abbrev pub invariant-loop-k : goal.invariant-loop-k
invariant-loop-k l = Walk l.gathered l.headers l.start (l.total - l.n) l.k l.at l.back

abbrev pub decreases-loop-k : goal.decreases-loop-k
decreases-loop-k l = l.k

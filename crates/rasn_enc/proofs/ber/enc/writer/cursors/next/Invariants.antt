use Rattle.std.proofs.Common.{◌≡◌, ◌-◌, length}
use Rattle.rasn_enc.specs.Buffer.Cursors.{ahead, Placed}
use Rattle.rasn_enc.proofs.ber.enc.writer.cursors.next.Given as goal

abbrev pub invariant-loop-here : goal.invariant-loop-here
invariant-loop-here l = record {
  placed : Placed l.gathered l.headers l.here;
  same : ahead l.gathered l.headers l.here ≡ ahead l.gathered l.headers l.fn.cursor;
}

abbrev pub decreases-loop-here : goal.decreases-loop-here
decreases-loop-here l = length l.headers - l.here.first

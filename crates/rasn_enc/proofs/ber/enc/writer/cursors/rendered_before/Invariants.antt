use Rattle.std.proofs.Common.{◌≡◌, take}
use Rattle.rasn_enc.specs.Order.{octets_less}
use Rattle.rasn_enc.specs.Buffer.Cursors.{ahead, Placed}
use Rattle.rasn_enc.proofs.ber.enc.writer.cursors.rendered_before.Given as goal

abbrev pub invariant-loop-count : goal.invariant-loop-count
invariant-loop-count l = record {
  left : Placed l.gathered l.headers l.a;
  right : Placed l.gathered l.headers l.b;
  same : octets_less (ahead l.gathered l.headers l.a) (take l.count (ahead l.gathered l.headers l.b)) ≡ octets_less (ahead l.gathered l.headers l.fn.left) (take l.fn.n (ahead l.gathered l.headers l.fn.right));
}

abbrev pub decreases-loop-count : goal.decreases-loop-count
decreases-loop-count l = l.count

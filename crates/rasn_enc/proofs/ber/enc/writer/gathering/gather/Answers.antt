use Rattle.std.proofs.Common.{arith}
use Rattle.rasn_enc.proofs.Buffer.Counted.{counted}
use Rattle.rasn_enc.proofs.ber.enc.writer.gathering.gather.Goals as goal

pub returns-clause-ok : goal.returns-clause-ok
returns-clause-ok g c = rw c.in_ok-total.ensures.same (counted (g.T.Contents.IsWritten c.args.contents.now) c.args.tag _ _ c.args.measured _ c.in_ok-append_primitive.ensures.ok
    (omega (arith, c.in_ok-total.ensures.total, c.len-at.ensures, c.args.gathered.now.ok, c.append_primitive.new.octets.ok)))

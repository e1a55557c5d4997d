use Rattle.std.proofs.Common.{◌+◌, length}
use Rattle.rasn_enc.specs.Buffer.Cuts.{Cut}
use Rattle.rasn_enc.proofs.ber.enc.writer.cutting.cut.Given as goal

abbrev pub invariant-loop-headers : goal.invariant-loop-headers
invariant-loop-headers l = Cut l.fn.gathered.items l.fn.headers.items l.start l.first (l.count + l.left) l.gathered.items l.headers.items

abbrev pub decreases-loop-headers : goal.decreases-loop-headers
decreases-loop-headers l = length l.headers.items

use Rattle.rasn_enc.proofs.Leaves.BitString.{length-written}
use Rattle.rasn_enc.proofs.ber.enc.bit_string.BitStrContents.count.Goals as goal

pub returns : goal.returns
returns c = λ l w. rw (c.div_ceil.ensures, c.len.ensures) (length-written c.args.self.now l w)

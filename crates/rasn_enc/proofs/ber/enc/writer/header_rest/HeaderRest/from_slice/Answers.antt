use Rattle.std.proofs.Math.Seq.{take-append_seam}
use Rattle.rasn_enc.proofs.ber.enc.writer.header_rest.HeaderRest.from_slice.Goals as goal

pub returns : goal.returns
returns c = rw c.copy_from_slice.ensures.after (take-append_seam c.args.octets.now _)

use Rattle.std.proofs.Common.{map}
use Rattle.rasn_enc.proofs.Constructed.SequenceOf.{list_not_absent}
use Rattle.rasn_enc.proofs.ber.enc.sequence_of.VecEncode.is_present.Goals as goal

pub returns : goal.returns
returns g c = list_not_absent (map g.T.AsnType.tree c.args.self.now.items)

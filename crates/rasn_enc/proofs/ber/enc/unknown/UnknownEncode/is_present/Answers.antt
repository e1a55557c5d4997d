use Rattle.std.proofs.Common.{map}
use Rattle.rasn_types.specs.Shapes.{numbers}
use Rattle.rasn_enc.proofs.Constructed.SequenceOf.{list_not_absent}
use Rattle.rasn_enc.proofs.ber.enc.unknown.UnknownEncode.is_present.Goals as goal

pub returns : goal.returns
returns c = list_not_absent (map numbers c.args.self.now.values.items)

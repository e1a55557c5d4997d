use Rattle.rasn_enc.proofs.OwnTypes.Sequence.{parts_end}
use Rattle.rasn_enc.proofs.ber.enc.parts.EndEncodeParts.encode_parts.Goals as goal

pub returns-clause-writes : goal.returns-clause-writes
returns-clause-writes c = parts_end _

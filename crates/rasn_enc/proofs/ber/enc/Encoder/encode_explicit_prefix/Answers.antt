use Rattle.rasn_enc.proofs.OwnTypes.Sequence.{absent_left}
use Rattle.rasn_enc.proofs.ber.enc.Encoder.encode_explicit_prefix.Goals as goal

pub returns-else-is_present-clause-ok : goal.returns-else-is_present-clause-ok
returns-else-is_present-clause-ok g c = absent_left _ _ _ c.if-is_present.ensures

use Rattle.rasn_enc.proofs.Leaves.CharacterString.{octets_encoded}
use Rattle.rasn_enc.proofs.ber.enc.Encoder.encode_octet_string.Goals as goal

pub returns-clause-ok : goal.returns-clause-ok
returns-clause-ok c = octets_encoded _ c.args.tag c.args.constraints.now c.args.value.now _ _ c.string.ensures.ok

use Rattle.rasn_enc.proofs.Leaves.Time.{date_encoded}
use Rattle.rasn_enc.proofs.ber.enc.Encoder.encode_date.Goals as goal

pub returns-clause-ok : goal.returns-clause-ok
returns-clause-ok c = date_encoded _ c.args.tag c.args.value.now _ _ c.leaf.ensures.ok

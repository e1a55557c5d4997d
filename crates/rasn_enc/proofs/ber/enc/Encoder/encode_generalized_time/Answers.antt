use Rattle.rasn_enc.proofs.Leaves.Time.{generalized_encoded}
use Rattle.rasn_enc.proofs.ber.enc.Encoder.encode_generalized_time.Goals as goal

pub returns-clause-ok : goal.returns-clause-ok
returns-clause-ok c = generalized_encoded _ c.args.tag c.args.value.now.moment _ _ c.leaf.ensures.ok

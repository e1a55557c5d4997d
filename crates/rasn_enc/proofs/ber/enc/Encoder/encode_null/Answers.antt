use Rattle.std.proofs.Common.{[]}
use Rattle.rasn_enc.proofs.Leaves.Primitive.{exactly}
use Rattle.rasn_enc.proofs.Leaves.ObjectIdentifier.{null_encoded}
use Rattle.rasn_enc.proofs.ber.enc.Encoder.encode_null.Goals as goal

pub returns-clause-ok : goal.returns-clause-ok
returns-clause-ok c = null_encoded _ c.args.tag _ _ (exactly _ [] c.args.tag _ _ c.leaf.ensures.ok)

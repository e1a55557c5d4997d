use Rattle.std.proofs.Common.{arith}
use Rattle.rasn_enc.proofs.Leaves.Primitive.{exactly}
use Rattle.rasn_enc.proofs.Leaves.ObjectIdentifier.{object_encoded, contents_written}
use Rattle.rasn_enc.proofs.ber.enc.Encoder.encode_object_identifier.Goals as goal

pub returns-in-Some-clause-ok : goal.returns-in-Some-clause-ok
returns-in-Some-clause-ok c = object_encoded _ c.args.tag c.args.value.now _ _ _ (contents_written c.args.value.now _ (λ i. omega (arith, c.type_inv.value i)) c.in-Some.ensures) (exactly _ _ c.args.tag _ _ c.leaf.ensures.ok)

use Rattle.std.proofs.Common.{arith}
use Rattle.rasn_enc.proofs.Leaves.ObjectIdentifier.{contents_appended}
use Rattle.rasn_enc.proofs.ber.enc.object_identifier.object_identifier_as_bytes.Goals as goal

pub returns-in-Ok-clause-ok : goal.returns-in-Ok-clause-ok
returns-in-Ok-clause-ok c = contents_appended c.args.oid.now _ _ _ (λ i. omega (arith, c.type_inv.oid i)) c.in-Some.ensures c.in-Ok.ensures.ok

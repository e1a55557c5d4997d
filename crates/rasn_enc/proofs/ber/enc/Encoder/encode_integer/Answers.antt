use Rattle.std.proofs.Common.{rules}
use Rattle.rasn_enc.proofs.Leaves.Primitive.{integer_encoded, exactly}
use Rattle.rasn_enc.proofs.ber.enc.Encoder.encode_integer.Goals as goal

pub returns-clause-ok : goal.returns-clause-ok
returns-clause-ok g c =
    integer_encoded _ g.I.IntegerType.range c.args.tag c.args.constraints.now (g.I.IntegerType.number c.args.value.now) _ _ _ c.octets-contents.ensures.exact c.octets-contents.ensures.held
    (search rules) (exactly _ _ c.args.tag _ _ c.leaf.ensures.ok)

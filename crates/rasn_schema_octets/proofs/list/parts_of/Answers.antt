use Rattle.rasn_schema_octets.proofs.Listed.{made_not}
use Rattle.rasn_schema_octets.proofs.list.parts_of.Goals as goal

pub returns-in-Err : goal.returns-in-Err
returns-in-Err g c =
    made_not g.T.Mirrored.says g.T.Mirrored.is_shallow g.F.AsnType.tree _ _ _ _ c.in-Some.form c.loop-form.invariant c.in-Some.ensures.cases.0 c.placed.ensures c.in-Err.ensures

use Rattle.std.proofs.Common.{refl, inl, inr}
use Rattle.rasn_types.specs.Shapes.{utc_time, generalized_time}
use Rattle.rasn_c.proofs.Instants.{an_instant, no_instant}
use Rattle.rasn_c.proofs.time.instant_of.Goals as goal

pub returns-in-9 : goal.returns-in-9
returns-in-9 c = an_instant c.args.type_number c.args.rule c.args.octets.now utc_time (inl (c.in-9.is, refl)) _ c.leaf_of.ensures

pub returns-in-Err : goal.returns-in-Err
returns-in-Err c = no_instant c.args.type_number c.args.rule c.args.octets.now generalized_time (inr (c.in-10.is, refl)) c.in-Err.status c.in-Err.ensures

use Rattle.rasn_c.proofs.Asked.{not_asked}
use Rattle.rasn_c.proofs.schemas.query_of.Goals as goal

pub returns-in-Err : goal.returns-in-Err
returns-in-Err c = not_asked c.args.schema.now c.args.rule c.in-Some.rule c.in-Err.fault c.in-Some.ensures c.in-Err.ensures.fault c.schema_stop.result.status c.schema_stop.ensures

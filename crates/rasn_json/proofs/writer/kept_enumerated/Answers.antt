use Rattle.rasn_json.proofs.Levels.{kept_err, kept_ok}
use Rattle.rasn_json.proofs.writer.kept_enumerated.Goals as goal

pub returns-clause-ok : goal.returns-clause-ok
returns-clause-ok g c = kept_ok _ c.put_enumerated.result c.kept.result c.kept.ensures.ok c.put_enumerated.ensures.ok

pub returns-clause-err : goal.returns-clause-err
returns-clause-err g c = kept_err _ c.put_enumerated.result c.kept.result c.kept.new.error c.kept.ensures.ok c.kept.ensures.err c.put_enumerated.ensures.err

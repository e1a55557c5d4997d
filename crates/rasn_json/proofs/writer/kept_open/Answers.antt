use Rattle.rasn_json.proofs.Levels.{kept_err, kept_ok}
use Rattle.rasn_json.proofs.writer.kept_open.Goals as goal

pub returns-clause-ok : goal.returns-clause-ok
returns-clause-ok g c = kept_ok _ c.put_open.result c.kept.result c.kept.ensures.ok c.put_open.ensures.ok

pub returns-clause-err : goal.returns-clause-err
returns-clause-err g c = kept_err _ c.put_open.result c.kept.result c.kept.new.error c.kept.ensures.ok c.kept.ensures.err c.put_open.ensures.err

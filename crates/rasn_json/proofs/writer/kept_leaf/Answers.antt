use Rattle.rasn_json.proofs.Levels.{kept_err, kept_ok}
use Rattle.rasn_json.proofs.writer.kept_leaf.Goals as goal

pub returns-clause-fits : goal.returns-clause-fits
returns-clause-fits g c = kept_ok _ c.put_leaf.result c.kept.result c.kept.ensures.ok c.put_leaf.ensures.fits

pub returns-clause-json : goal.returns-clause-json
returns-clause-json g c = kept_ok _ c.put_leaf.result c.kept.result c.kept.ensures.ok c.put_leaf.ensures.json

pub returns-clause-nested : goal.returns-clause-nested
returns-clause-nested g c = kept_ok _ c.put_leaf.result c.kept.result c.kept.ensures.ok c.put_leaf.ensures.nested

pub returns-clause-err : goal.returns-clause-err
returns-clause-err g c = kept_err _ c.put_leaf.result c.kept.result c.kept.new.error c.kept.ensures.ok c.kept.ensures.err c.put_leaf.ensures.err

use Rattle.rasn_lint.proofs.Noted.{listed}
use Rattle.rasn_lint.proofs.judge.note_faults.Goals as goal

pub returns : goal.returns
returns c = listed c.args.site c.args.faults _ _ _ _ _ _ _ c.in_ok-order.ensures c.in_ok-default.ensures c.in_ok-tag.ensures c.in_ok-form.ensures c.in_ok-length.ensures c.in_ok-contents.ensures

use Rattle.std.proofs.Common.{arith}
use Rattle.rasn_dynamic.proofs.PathTexts.{no_first_name, no_point, is_missing}
use Rattle.rasn_dynamic.proofs.path_text.first_step.Goals as goal

pub returns-in_err-name : goal.returns-in_err-name
returns-in_err-name c = rw c.from_residual-in_err-name.ensures (no_first_name c.args.text.now (is_missing 91 c.args.text.now c.strip_prefix.result c.strip_prefix.ensures.cases (omega arith) c.in_default.is) (rw c.in_err-name.was at c.first_name.ensures) c.args.is_first c.if-is_first.true)

pub returns-in_err-strip_prefix : goal.returns-in_err-strip_prefix
returns-in_err-strip_prefix c = rw c.from_residual-in_err-strip_prefix.ensures (no_point c.args.text.now (is_missing 91 c.args.text.now c.strip_prefix.result c.strip_prefix.ensures.cases (omega arith) c.in_default.is) (is_missing 46 c.args.text.now c.strip_prefix-2.result c.strip_prefix-2.ensures.cases (omega arith) c.in_err-strip_prefix.was) c.args.is_first c.if-is_first.false)

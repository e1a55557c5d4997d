use Rattle.rasn_schema.proofs.RealTexts.{ExponentCut, not_all, not_spelled, is_spelled, not_empty}
use Rattle.rasn_schema.proofs.RealDecimals.{is_nothing}
use Rattle.rasn_schema.proofs.real_decimal.shortest_text.Goals as goal

pub returns-then-not-is_empty : goal.returns-then-not-is_empty
returns-then-not-is_empty c =
    let k : ExponentCut c.args.text.now c.after_minus.result.0 c.leading_digits.result.0.now c.leading_digits.result.1.now =
    record { unsigned = c.after_minus.result.1.now; sign = c.after_minus.ensures; digits = c.leading_digits.ensures.is; other = c.requires } in
    not_all c.args.text.now c.after_minus.result.0 c.leading_digits.result.0.now c.leading_digits.result.1.now k (not_empty c.is_empty.result c.leading_digits.result.1.now c.is_empty.ensures c.if-not-is_empty.true)

pub returns-else-begins_off_zero : goal.returns-else-begins_off_zero
returns-else-begins_off_zero c =
    let k : ExponentCut c.args.text.now c.after_minus.result.0 c.leading_digits.result.0.now c.leading_digits.result.1.now =
    record { unsigned = c.after_minus.result.1.now; sign = c.after_minus.ensures; digits = c.leading_digits.ensures.is; other = c.requires } in
    not_spelled c.args.text.now c.after_minus.result.0 c.leading_digits.result.0.now c.leading_digits.result.1.now k c.if-begins_off_zero.ensures

pub returns-then-begins_off_zero : goal.returns-then-begins_off_zero
returns-then-begins_off_zero c =
    let k : ExponentCut c.args.text.now c.after_minus.result.0 c.leading_digits.result.0.now c.leading_digits.result.1.now =
    record { unsigned = c.after_minus.result.1.now; sign = c.after_minus.ensures; digits = c.leading_digits.ensures.is; other = c.requires } in
    is_spelled c.args.text.now c.after_minus.result.0 c.leading_digits.result.0.now c.leading_digits.result.1.now k (is_nothing c.is_empty.result c.leading_digits.result.1.now c.is_empty.ensures c.if-not-is_empty.false) c.if-begins_off_zero.ensures

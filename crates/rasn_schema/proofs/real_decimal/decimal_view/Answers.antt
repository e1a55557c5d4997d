use Rattle.rasn_schema.proofs.RealTexts.{Cut, no_mark, bad_first, bad_last, bad_exponent, shown}
use Rattle.rasn_schema.proofs.real_decimal.decimal_view.Goals as goal

pub returns-in_default : goal.returns-in_default
returns-in_default c =
    let k : Cut c.args.text.now c.after_minus-is_negative.result.0 c.leading_digits.result.0.now c.leading_digits.result.1.now =
    record { unsigned = c.after_minus-is_negative.result.1.now; sign = c.after_minus-is_negative.ensures; digits = c.leading_digits.ensures.is } in
    no_mark c.args.text.now c.after_minus-is_negative.result.0 c.leading_digits.result.0.now c.leading_digits.result.1.now k c.in_default.ensures

pub returns-then-not-begins_off_zero : goal.returns-then-not-begins_off_zero
returns-then-not-begins_off_zero c =
    let k : Cut c.args.text.now c.after_minus-is_negative.result.0 c.leading_digits.result.0.now c.leading_digits.result.1.now =
    record { unsigned = c.after_minus-is_negative.result.1.now; sign = c.after_minus-is_negative.ensures; digits = c.leading_digits.ensures.is } in
    bad_first c.args.text.now c.after_minus-is_negative.result.0 c.leading_digits.result.0.now c.leading_digits.result.1.now k c.if-not-begins_off_zero.ensures

pub returns-then-not-ends_off_zero : goal.returns-then-not-ends_off_zero
returns-then-not-ends_off_zero c =
    let k : Cut c.args.text.now c.after_minus-is_negative.result.0 c.leading_digits.result.0.now c.leading_digits.result.1.now =
    record { unsigned = c.after_minus-is_negative.result.1.now; sign = c.after_minus-is_negative.ensures; digits = c.leading_digits.ensures.is } in
    bad_last c.args.text.now c.after_minus-is_negative.result.0 c.leading_digits.result.0.now c.leading_digits.result.1.now k c.if-not-ends_off_zero.ensures

pub returns-in_default-whole_text : goal.returns-in_default-whole_text
returns-in_default-whole_text c =
    let k : Cut c.args.text.now c.after_minus-is_negative.result.0 c.leading_digits.result.0.now c.leading_digits.result.1.now =
    record { unsigned = c.after_minus-is_negative.result.1.now; sign = c.after_minus-is_negative.ensures; digits = c.leading_digits.ensures.is } in
    bad_exponent c.args.text.now c.after_minus-is_negative.result.0 c.leading_digits.result.0.now c.leading_digits.result.1.now c.in-Some.exponent.now k c.in-Some.ensures c.in_default-whole_text.ensures

pub returns : goal.returns
returns c =
    let k : Cut c.args.text.now c.after_minus-is_negative.result.0 c.leading_digits.result.0.now c.leading_digits.result.1.now =
    record { unsigned = c.after_minus-is_negative.result.1.now; sign = c.after_minus-is_negative.ensures; digits = c.leading_digits.ensures.is } in
    shown c.args.text.now c.after_minus-is_negative.result.0 c.leading_digits.result.0.now c.leading_digits.result.1.now c.in-Some.exponent.now c.in-Some-whole_text.exponent.now k c.in-Some.ensures c.if-not-begins_off_zero.ensures c.if-not-ends_off_zero.ensures c.in-Some-whole_text.ensures

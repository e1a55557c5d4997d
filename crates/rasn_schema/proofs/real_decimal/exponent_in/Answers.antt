use Rattle.std.proofs.Common.{inl, inr, ◌-◌, length, drop, take}
use Rattle.rasn_schema.specs.declared.real_decimal.Exponent.{Exponent}
use Rattle.rasn_schema.proofs.RealTexts.{not_empty}
use Rattle.rasn_schema.proofs.RealDecimals.{AfterMark, not_all_read, no_digit_read, no_exponent_mark, exponent_found, is_nothing}
use Rattle.rasn_schema.proofs.real_decimal.exponent_in.Goals as goal
use Rattle.rasn_schema.proofs.real_decimal.exponent_in.Goals.{else-mark-ne69-via-then-mark-ne69+else-mark-ne101, else-mark-ne69-via-else-mark-ne69}

pub returns-then-mark-ne101 : goal.returns-then-mark-ne101
returns-then-mark-ne101 c = no_exponent_mark c.args.text.now c.in-len1-up.len_at_least c.if-mark-ne69.true c.if-mark-ne101.true

pub returns-then-is_empty : goal.returns-then-is_empty
returns-then-is_empty c =
    let k : AfterMark (take (length c.args.text.now - 1) (drop 1 c.args.text.now)) c.after_sign-is_negative.result.0 c.leading_digits.result.0.now c.leading_digits.result.1.now =
    record { unsigned = c.after_sign-is_negative.result.1.now; sign = c.after_sign-is_negative.ensures; leading = c.leading_digits.ensures.is } in
    no_digit_read c.args.text.now c.after_sign-is_negative.result.0 c.leading_digits.result.0.now c.leading_digits.result.1.now c.in-len1-up.len_at_least k (is_nothing c.is_empty.result c.leading_digits.result.0.now c.is_empty.ensures c.if-is_empty.true)

pub returns-then-not-is_empty : goal.returns-then-not-is_empty
returns-then-not-is_empty c =
    let k : AfterMark (take (length c.args.text.now - 1) (drop 1 c.args.text.now)) c.after_sign-is_negative.result.0 c.leading_digits.result.0.now c.leading_digits.result.1.now =
    record { unsigned = c.after_sign-is_negative.result.1.now; sign = c.after_sign-is_negative.ensures; leading = c.leading_digits.ensures.is } in
    not_all_read c.args.text.now c.after_sign-is_negative.result.0 c.leading_digits.result.0.now c.leading_digits.result.1.now c.in-len1-up.len_at_least k (not_empty c.is_empty-2.result c.leading_digits.result.1.now c.is_empty-2.ensures c.if-not-is_empty.true)

pub returns : goal.returns
returns c =
    let k : AfterMark (take (length c.args.text.now - 1) (drop 1 c.args.text.now)) c.after_sign-is_negative.result.0 c.leading_digits.result.0.now c.leading_digits.result.1.now =
    record { unsigned = c.after_sign-is_negative.result.1.now; sign = c.after_sign-is_negative.ensures; leading = c.leading_digits.ensures.is } in
    let x : Exponent = record { is_negative = c.after_sign-is_negative.result.0; digits = c.leading_digits.result.0 } in
    exponent_found c.args.text.now c.leading_digits.result.1.now x c.in-len1-up.len_at_least k
    (elim c.else-mark-ne69.branch [ else-mark-ne69-via-then-mark-ne69+else-mark-ne101 w ↦ inr w.if-mark-ne101.false | else-mark-ne69-via-else-mark-ne69 w ↦ inl w.if-mark-ne69.false ])
    (not_empty c.is_empty.result c.leading_digits.result.0.now c.is_empty.ensures c.if-is_empty.false)
    (is_nothing c.is_empty-2.result c.leading_digits.result.1.now c.is_empty-2.ensures c.if-not-is_empty.false)

use Rattle.std.proofs.Common.{ap₂, ◌++◌}
use Rattle.rasn_schema.specs.declared.real_decimal.Numeral.{Numeral}
use Rattle.rasn_schema.proofs.RealTexts.{not_empty}
use Rattle.rasn_schema.proofs.RealDecimals.{NumeralCut, no_digits, no_exponent_part, is_numeral, is_nothing, some_left, some_right}
use Rattle.rasn_schema.proofs.real_decimal.numeral_in.Goals as goal
use Rattle.rasn_schema.proofs.real_decimal.numeral_in.Goals.{else-is_empty-via-then-is_empty+else-is_empty-2, else-is_empty-via-else-is_empty}

pub returns-then-is_empty-2 : goal.returns-then-is_empty-2
returns-then-is_empty-2 c =
    let k : NumeralCut c.args.text.now c.after_sign-is_negative.result.0 c.leading_digits.result.0.now c.fraction_of-has_mark.result.0 c.fraction_of-has_mark.result.1.now c.fraction_of-has_mark.result.2.now =
    record {
      signed = c.after_spaces.result.now;
      unsigned = c.after_sign-is_negative.result.1.now;
      tail = c.leading_digits.result.1.now;
      spaces = c.after_spaces.ensures;
      sign = c.after_sign-is_negative.ensures;
      digits = c.leading_digits.ensures.is;
      fraction = c.fraction_of-has_mark.ensures.is;
    } in
    no_digits c.args.text.now c.after_sign-is_negative.result.0 c.leading_digits.result.0.now c.fraction_of-has_mark.result.0 c.fraction_of-has_mark.result.1.now c.fraction_of-has_mark.result.2.now k
    (ap₂ ◌++◌ (is_nothing c.is_empty.result c.leading_digits.result.0.now c.is_empty.ensures c.if-is_empty.true) (is_nothing c.is_empty-then-is_empty.result c.fraction_of-has_mark.result.1.now c.is_empty-then-is_empty.ensures c.if-is_empty-2.true))

pub returns-in_default : goal.returns-in_default
returns-in_default c =
    let k : NumeralCut c.args.text.now c.after_sign-is_negative.result.0 c.leading_digits.result.0.now c.fraction_of-has_mark.result.0 c.fraction_of-has_mark.result.1.now c.fraction_of-has_mark.result.2.now =
    record {
      signed = c.after_spaces.result.now;
      unsigned = c.after_sign-is_negative.result.1.now;
      tail = c.leading_digits.result.1.now;
      spaces = c.after_spaces.ensures;
      sign = c.after_sign-is_negative.ensures;
      digits = c.leading_digits.ensures.is;
      fraction = c.fraction_of-has_mark.ensures.is;
    } in
    no_exponent_part c.args.text.now c.after_sign-is_negative.result.0 c.leading_digits.result.0.now c.fraction_of-has_mark.result.0 c.fraction_of-has_mark.result.1.now c.fraction_of-has_mark.result.2.now k c.in_default.ensures

pub returns : goal.returns
returns c =
    let n : Numeral = record { is_negative = c.after_sign-is_negative.result.0; whole = c.leading_digits.result.0; after = c.fraction_of-has_mark.result.1; has_mark = c.fraction_of-has_mark.result.0; exponent = c.in-Some.exponent } in
    is_numeral c.args.text.now n c.fraction_of-has_mark.result.2.now
    record {
      signed = c.after_spaces.result.now;
      unsigned = c.after_sign-is_negative.result.1.now;
      tail = c.leading_digits.result.1.now;
      spaces = c.after_spaces.ensures;
      sign = c.after_sign-is_negative.ensures;
      digits = c.leading_digits.ensures.is;
      fraction = c.fraction_of-has_mark.ensures.is;
    }
    (elim c.else-is_empty.branch [
      | else-is_empty-via-then-is_empty+else-is_empty-2 w ↦ some_right c.leading_digits.result.0.now c.fraction_of-has_mark.result.1.now (not_empty w.is_empty-then-is_empty.result c.fraction_of-has_mark.result.1.now w.is_empty-then-is_empty.ensures w.if-is_empty-2.false)
      | else-is_empty-via-else-is_empty w ↦ some_left c.leading_digits.result.0.now c.fraction_of-has_mark.result.1.now (not_empty c.is_empty.result c.leading_digits.result.0.now c.is_empty.ensures w.if-is_empty.false)
    ])
    c.in-Some.ensures

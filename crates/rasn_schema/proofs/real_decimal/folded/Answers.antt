use Rattle.std.proofs.Common.{◌+◌, ◌*◌, ◌∙◌, ◌≤◌, length, take, ap, arith, length-take}
use Rattle.rasn_schema.proofs.RealTexts.{DigitStep, digit_step, few_digits}
use Rattle.rasn_schema.proofs.real_decimal.folded.Goals as goal

pub overflow_mul-number : goal.overflow_mul-number
overflow_mul-number c =
    let s : DigitStep c.args.digits.now c.loop-digit.digit-index c.loop-digit.number =
    digit_step c.args.digits.now c.loop-digit.digit-index c.loop-digit.number c.requires.all c.loop-digit-test.true c.requires.few c.loop-digit.invariant in
    let f = s.fits in record { fits = omega arith }

pub overflow_add-number : goal.overflow_add-number
overflow_add-number c =
    let s : DigitStep c.args.digits.now c.loop-digit.digit-index c.loop-digit.number =
    digit_step c.args.digits.now c.loop-digit.digit-index c.loop-digit.number c.requires.all c.loop-digit-test.true c.requires.few c.loop-digit.invariant in
    let f = s.fits in let e = c.from.ensures in record { fits = omega arith }

pub loop-digit-preserved : goal.loop-digit-preserved
loop-digit-preserved c =
    let s : DigitStep c.args.digits.now c.loop-digit.digit-index c.loop-digit.number =
    digit_step c.args.digits.now c.loop-digit.digit-index c.loop-digit.number c.requires.all c.loop-digit-test.true c.requires.few c.loop-digit.invariant in
    ap (λ x. c.loop-digit.number * 10 + x) c.from.ensures ∙ s.is

pub returns-clause-below : goal.returns-clause-below
returns-clause-below c =
    let e = c.loop-digit.invariant in
    let k : length (take c.loop-digit.digit-index c.args.digits.now) ≤ 30 = omega (arith, length-take c.loop-digit.digit-index c.args.digits.now) in
    let n = few_digits (take c.loop-digit.digit-index c.args.digits.now) k in
    omega arith

use Rattle.std.proofs.Common.{◌+◌, ◌*◌, ◌∙◌, ap, arith}
use Rattle.rasn_types.proofs.Integer.TwosComplement.{are_octets}
use Rattle.rasn_types.proofs.Integer.Octets.{DigitStep, digit_step}
use Rattle.rasn_types.proofs.types.twos_complement.fold_u128.Goals as goal

pub overflow_mul-number : goal.overflow_mul-number
overflow_mul-number c =
    let s : DigitStep c.args.digits.now c.loop-digit.digit-index c.loop-digit.number =
    digit_step c.args.digits.now c.loop-digit.digit-index c.loop-digit.number (are_octets c.args.digits.now c.type_inv.digits) c.loop-digit-test.true c.requires c.loop-digit.invariant in
    let f = s.fits in record { fits = omega arith }

pub overflow_add-number : goal.overflow_add-number
overflow_add-number c =
    let s : DigitStep c.args.digits.now c.loop-digit.digit-index c.loop-digit.number =
    digit_step c.args.digits.now c.loop-digit.digit-index c.loop-digit.number (are_octets c.args.digits.now c.type_inv.digits) c.loop-digit-test.true c.requires c.loop-digit.invariant in
    let f = s.fits in let e = c.from.ensures in record { fits = omega arith }

pub loop-digit-preserved : goal.loop-digit-preserved
loop-digit-preserved c =
    let s : DigitStep c.args.digits.now c.loop-digit.digit-index c.loop-digit.number =
    digit_step c.args.digits.now c.loop-digit.digit-index c.loop-digit.number (are_octets c.args.digits.now c.type_inv.digits) c.loop-digit-test.true c.requires c.loop-digit.invariant in
    ap (λ x. c.loop-digit.number * 256 + x) c.from.ensures ∙ s.is

use Rattle.std.proofs.Common.{◌%◌, ◌/◌, ◌<◌, refl, subst, arith}
use Rattle.rasn_types.specs.Framing.{AreOctets}
use Rattle.rasn_types.proofs.Headers.Digits.{front_octets}
use Rattle.rasn_types.proofs.Integer.TwosComplement.{are_octets}
use Rattle.rasn_schema.proofs.RealViews.{no_base, no_exponent, no_mantissa, number_of_zeros, zeros_of_number, bit_is, the_parts}
use Rattle.rasn_schema.proofs.real_binary.binary_parts.Goals as goal

pub returns-in_default : goal.returns-in_default
returns-in_default c = no_base c.args.first c.args.after.now c.in_default.ensures

pub returns-in_default-cut : goal.returns-in_default-cut
returns-in_default-cut c = no_exponent c.args.first c.args.after.now c.in_default-cut.ensures

pub returns-then-is_zero : goal.returns-then-is_zero
returns-then-is_zero c =
    no_mantissa c.args.first c.args.after.now c.in-Some-cut.exponent.now c.in-Some-cut.mantissa.now c.in-Some-cut.ensures (number_of_zeros c.in-Some-cut.mantissa.now c.if-is_zero.ensures)

pub returns : goal.returns
returns c =
    let k = c.in-Some-cut.ensures in
    let o = front_octets k.0 c.in-Some-cut.mantissa.now (subst AreOctets k.2 (are_octets c.args.after.now c.type_inv.after)) in
    let low : c.args.first / 64 % 2 < 2 = omega arith in
    the_parts c.args.first c.args.after.now _ c.requires c.ranges.first.fits c.in-Some.ensures refl refl k (bit_is c.has_sign.result (c.args.first / 64 % 2) low c.has_sign.ensures)
    (λ e. c.if-is_zero.ensures (zeros_of_number c.in-Some-cut.mantissa.now o.1 e))

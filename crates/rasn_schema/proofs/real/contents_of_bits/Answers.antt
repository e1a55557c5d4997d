use Rattle.std.proofs.Common.{◌+◌, ◌-ℤ◌, ◌%◌, ◌/◌, ◌^◌, [], ◌∷◌, neg_ℤ, pos, refl, arith, nat_le}
use Rattle.std.proofs.lemmas.Int.{ints}
use Rattle.rasn_schema.proofs.Doubles.{of_numbers, of_one, infinity_octets, minus_infinity_octets, sign_scale_fraction, off_zero, exponent_of}
use Rattle.rasn_schema.proofs.real.contents_of_bits.Goals as goal
use Rattle.rasn_schema.proofs.real.contents_of_bits.Goals.{then-is_negative, else-is_negative}

pub returns-then-scale-eq2047 : goal.returns-then-scale-eq2047
returns-then-scale-eq2047 c =
    elim c.if-is_negative.branch [
      | then-is_negative w ↦ of_one c.from_slice.result (λ v. v.items) c.args.bits c.if-is_negative.from_slice 65 w.from_slice-is (minus_infinity_octets c.args.bits c.ranges.bits.fits w.if-is_negative.true c.requires c.if-scale-eq2047.true) c.from_slice.ensures.items
      | else-is_negative w ↦ of_one c.from_slice.result (λ v. v.items) c.args.bits c.if-is_negative.from_slice 64 w.from_slice-is (infinity_octets c.args.bits w.if-is_negative.false c.requires c.if-scale-eq2047.true) c.from_slice.ensures.items
    ]

pub returns : goal.returns
returns c =
    of_numbers c.contents_of_number.result (λ v. v.items) c.args.bits (c.args.bits / 2 ^ 52 % 2048) (c.args.bits % 2 ^ 52) (c.args.bits % 2 ^ 52 + 2 ^ 52) (nat_le (2 ^ 63) c.args.bits) _ c.contents_of_number.ensures
    (sign_scale_fraction c.args.bits (nat_le (2 ^ 63) c.args.bits) c.ranges.bits.fits refl) (omega arith) (omega arith) (off_zero (c.args.bits / 2 ^ 52 % 2048) (c.args.bits % 2 ^ 52) c.if-scale-eq0.false)
    (exponent_of (c.args.bits / 2 ^ 52 % 2048) _ c.if-scale-eq0.false (omega (arith, ints)))

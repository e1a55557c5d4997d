use Rattle.std.proofs.Common.{◌+◌, ◌*◌, ◌^◌, [], ◌∷◌, neg_ℤ, pos, refl, arith}
use Rattle.std.proofs.lemmas.Int.{ints}
use Rattle.rasn_types.specs.Framing.{bit_of}
use Rattle.rasn_schema.proofs.Doubles.{of_numbers, of_octets, zero_octets, minus_zero_octets}
use Rattle.rasn_schema.proofs.real.contents_of_fraction.Goals as goal

pub returns-then-fraction-ne0 : goal.returns-then-fraction-ne0
returns-then-fraction-ne0 c =
    of_numbers c.contents_of_number.result (λ v. v.items) (2 ^ 63 * bit_of c.args.is_negative + c.args.fraction) 0 c.args.fraction c.args.fraction c.args.is_negative (neg_ℤ (pos 1074)) c.contents_of_number.ensures
    (omega arith) (omega arith) c.requires refl refl

pub returns-then-is_negative : goal.returns-then-is_negative
returns-then-is_negative c =
    of_octets c.from_slice.result (λ v. v.items) (2 ^ 63 * bit_of c.args.is_negative + c.args.fraction) (67 ∷ []) (minus_zero_octets c.args.is_negative c.args.fraction c.if-is_negative.true (omega arith)) c.from_slice.ensures.items

pub returns-else-is_negative : goal.returns-else-is_negative
returns-else-is_negative c = zero_octets c.args.is_negative c.args.fraction c.if-is_negative.false (omega arith) c.new.result.items c.new.ensures.items

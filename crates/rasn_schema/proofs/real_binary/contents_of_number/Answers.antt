use Rattle.std.proofs.Common.{◌≡◌, ◌<◌, ℕ, pos, ◌+ℤ◌, w64, to_z, of_z, ap, subst, ◌∙◌, arith}
use Rattle.std.proofs.lemmas.Result.{IfOk-weaker}
use Rattle.rasn_types.specs.Framing.{number_in}
use Rattle.rasn_types.specs.Contents.{signed, IsCanonicalBinary}
use Rattle.rasn_schema.specs.RealParts.{IsOddPart}
use Rattle.rasn_schema.proofs.RealNumbers.{few_zeros, eight_octets, moved_few, moved_fits}
use Rattle.rasn_schema.proofs.Exponents.{few_moved}
use Rattle.rasn_schema.proofs.real_binary.contents_of_number.Goals as goal
use Rattle.rasn_schema.proofs.real_binary.contents_of_number.Goals.{In_ok-odd}

-- The odd part of the number, from that of its octets.
odd_of : (c : In_ok-odd) → IsOddPart c.args.mantissa (number_in 256 c.in_ok-odd.odd.items) c.in_ok-odd.zeros
odd_of c =
    subst (λ n. IsOddPart n (number_in 256 c.in_ok-odd.odd.items) c.in_ok-odd.zeros) (ap (number_in 256) c.to_be_bytes.ensures ∙ eight_octets c.args.mantissa c.ranges.mantissa.fits) c.in_ok-odd.ensures.1

few : (c : In_ok-odd) → c.in_ok-odd.zeros < 64
few c = few_zeros c.args.mantissa (number_in 256 c.in_ok-odd.odd.items) c.in_ok-odd.zeros c.ranges.mantissa.fits (odd_of c)

pub overflow_cast-zeros : goal.overflow_cast-zeros
overflow_cast-zeros c = let k = few c in record { sfits = omega arith }

pub overflow_add-exponent : goal.overflow_add-exponent
overflow_add-exponent c = moved_fits c.args.exponent c.in_ok-odd.zeros c.ranges.exponent c.requires.low c.requires.high (few c)

pub number_contents-requires-clause-few : goal.number_contents-requires-clause-few
number_contents-requires-clause-few c =
    let a = (goal.at.number_contents-requires-clause-few c).In_ok-odd in
    let e = c.args.exponent in
    let zeros = c.in_ok-odd.zeros in
    let moved : to_z w64 (of_z w64 (to_z w64 (of_z w64 e) +ℤ to_z w64 zeros)) ≡ e +ℤ pos zeros = moved_few e zeros c.requires.low c.requires.high (few a) in
    few_moved c.i64_octets-exponent.result.now _ e zeros moved c.i64_octets-exponent.ensures c.requires.low c.requires.high (few a)

pub returns : goal.returns
returns c =
    let a = (goal.at.returns c).In_ok-odd in
    let e = c.args.exponent in
    let zeros = c.in_ok-odd.zeros in
    let x = c.i64_octets-exponent.result.now in
    let moved = c.i64_octets-exponent.ensures.is ∙ moved_few e zeros c.requires.low c.requires.high (few a) in
    IfOk-weaker c.number_contents.result
    (λ v. IsCanonicalBinary v.items c.args.is_negative (number_in 256 c.deref.result.now) (signed x))
    (λ v. (m : ℕ) × (shift : ℕ) × IsOddPart c.args.mantissa m shift × IsCanonicalBinary v.items c.args.is_negative m (e +ℤ pos shift))
    (λ v h. (
      number_in 256 c.in_ok-odd.odd.items,
      zeros,
      odd_of a,
      subst (λ z. IsCanonicalBinary v.items c.args.is_negative (number_in 256 c.in_ok-odd.odd.items) z) moved
          (subst (λ l. IsCanonicalBinary v.items c.args.is_negative (number_in 256 l) (signed x)) c.deref.ensures.value h),
    ))
    c.number_contents.ensures

use Rattle.std.proofs.Common.{◌≡◌, ◌++◌, ◌+◌, ◌*◌, ◌<◌, ◌^◌, length, ℤ, pos, ◌+ℤ◌, ◌-ℤ◌, ◌*ℤ◌, of_z, to_z, true, false, refl, sym, ap, ap₂, ◌∙◌, subst, arith}
use Rattle.std.specs.Int.{w128, to_be_bytes}
use Rattle.std.proofs.lemmas.Int.{ints}
use Rattle.std.proofs.lemmas.List.{take_at}
use Rattle.rasn_types.specs.Framing.{bit_of}
use Rattle.rasn_types.specs.Contents.{signed}
use Rattle.rasn_types.proofs.Integer.Octets.{signed_128, length_bytes}
use Rattle.rasn_types.proofs.Integer.TwosComplement.{are_octets}
use Rattle.rasn_schema.specs.Places.{number_from}
use Rattle.rasn_schema.proofs.Exponents.{scaled_is, fits_first}
use Rattle.rasn_schema.proofs.real_binary.scaled.Goals.{then-is_below_zero, else-is_below_zero}
use Rattle.rasn_schema.proofs.real_binary.scaled.Goals as goal

pub returns-clause-is : goal.returns-clause-is
returns-clause-is c =
    let l = c.args.exponent.now in
    let m = c.multiply_and_add-carry in
    let few = m.ensures.carry in
    let power = c.ranges.power.fits in
    let last : c.deref.result.now ≡ m.new.digits = c.deref.ensures.value ∙ take_at m.new.digits _ _ (m.ensures.length ∙ c.deref_mut.ensures.len) in
    let start : c.deref_mut.result.now ≡ l = c.deref_mut.ensures.value ∙ c.in_ok-last.ensures.items in
    let value : number_from 0 256 m.new.digits + m.result * 256 ^ length m.new.digits ≡ number_from 0 256 l * c.args.power + c.args.shift =
    m.ensures.value ∙ ap₂ (λ x y. number_from 0 256 x * y + c.args.shift) start c.from.ensures in
    let first : c.if-is_below_zero.first ≡ pos m.result -ℤ pos (bit_of c.is_below_zero.result * c.args.power) = elim c.if-is_below_zero.branch [
      | then-is_below_zero w ↦
          let e = w.first-is in
          let p = w.from-then-is_below_zero.ensures in
          let k : c.if-is_below_zero.first ≡ pos m.result -ℤ pos (1 * c.args.power) = omega (arith, ints) in
          k ∙ sym (ap (λ b. pos m.result -ℤ pos (bit_of b * c.args.power)) w.if-is_below_zero.true)
      | else-is_below_zero w ↦
          let e = w.first-is in
          let k : c.if-is_below_zero.first ≡ pos m.result -ℤ pos (0 * c.args.power) = omega (arith, ints) in
          k ∙ sym (ap (λ b. pos m.result -ℤ pos (bit_of b * c.args.power)) w.if-is_below_zero.false)
    ] in
    let fits = fits_first c.is_below_zero.result m.result c.args.power c.if-is_below_zero.first first few power in
    let bytes : c.in_ok-octets.octets.items ≡ to_be_bytes w128 (of_z w128 c.if-is_below_zero.first) =
    c.in_ok-octets.ensures.items ∙ (c.to_be_bytes.ensures ∙ ap (λ z. to_be_bytes w128 (of_z w128 z)) c.if-is_below_zero.first-is) in
    let front : signed c.in_ok-octets.octets.items ≡ c.if-is_below_zero.first = ap signed bytes ∙ signed_128 c.if-is_below_zero.first fits in
    let some : length c.in_ok-octets.octets.items ≡ 16 = ap length bytes ∙ length_bytes 16 (of_z w128 c.if-is_below_zero.first) in
    subst (λ z. signed z ≡ signed l *ℤ pos c.args.power +ℤ pos c.args.shift) (sym (c.in_ok-extend_from_slice.ensures.items ∙ ap (λ z. c.in_ok-octets.octets.items ++ z) last))
    (scaled_is l m.new.digits c.in_ok-octets.octets.items c.is_below_zero.result c.args.power c.args.shift m.result c.if-is_below_zero.first (are_octets l c.type_inv.exponent) (omega (arith, some)) c.is_below_zero.ensures
    (m.ensures.length ∙ ap length start) value first front)

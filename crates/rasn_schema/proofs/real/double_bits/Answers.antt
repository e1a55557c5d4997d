use Rattle.std.proofs.Common.{ℕ, rules, FitsSigned, false, refl, sym, ap, subst, ◌∙◌}
use Rattle.std.specs.Int.{w128}
use Rattle.std.proofs.lemmas.Int.{to_z-of_z}
use Rattle.rasn_types.specs.Framing.{number_in}
use Rattle.rasn_types.specs.Contents.{signed}
use Rattle.rasn_schema.specs.Reals.{IsDouble}
use Rattle.rasn_schema.proofs.Doubles.{far_place, no_signed}
use Rattle.rasn_schema.proofs.real.double_bits.Goals as goal

pub returns-in_default-signed_i128 : goal.returns-in_default-signed_i128
returns-in_default-signed_i128 c =
    no_signed c.args.is_negative (number_in 256 c.args.mantissa.now) (number_in 256 c.args.mantissa.now) (signed c.args.exponent.now) refl (far_place (number_in 256 c.args.mantissa.now) (signed c.args.exponent.now) c.requires.odd c.in_default-signed_i128.ensures)

pub returns-in_default-magnitude : goal.returns-in_default-magnitude
returns-in_default-magnitude c =
    let z = c.in-Some-signed_i128.exponent in
    let f : FitsSigned w128 z = search rules in
    no_signed c.args.is_negative c.in-Some.number (number_in 256 c.args.mantissa.now) (signed c.args.exponent.now) c.in-Some.ensures
    (subst (λ e. (bits : ℕ) → IsDouble bits false c.in-Some.number e → ⊥) (to_z-of_z w128 z f ∙ c.in-Some-signed_i128.ensures) c.in_default-magnitude.ensures)

use Rattle.std.proofs.Common.{◌≡◌, ◌+◌, ◌-◌, ◌*◌, ◌^◌, ◌<◌, ◌<ℤ◌, ◌≤ℤ◌, ◌-ℤ◌, ◌⊎◌, neg_ℤ, pos, ap, ap₂, subst, sym, ◌∙◌, false, arith}
use Rattle.std.specs.Int.{w128}
use Rattle.std.proofs.lemmas.Int.{to_z-of_z}
use Rattle.rasn_schema.specs.Reals.{IsDouble}
use Rattle.rasn_schema.proofs.Doubles.{off_place, too_wide, too_far, below_scales, at_scale}
use Rattle.rasn_schema.proofs.real.magnitude.Goals as goal
use Rattle.rasn_schema.proofs.real.magnitude.Goals.{then-width-gt53-via-then-width-gt53, then-width-gt53-via-else-width-gt53+then-place-width-gt2098}

pub returns-in_default : goal.returns-in_default
returns-in_default c = off_place c.args.mantissa c.args.exponent c.requires (subst (λ z. (z <ℤ neg_ℤ (pos 1074)) ⊎ (pos 1024 ≤ℤ z)) (to_z-of_z w128 c.args.exponent c.ranges.exponent) c.in_default.ensures)

pub returns-then-width-gt53 : goal.returns-then-width-gt53
returns-then-width-gt53 c =
    let p : c.args.exponent ≡ pos c.in-Some.place -ℤ pos 1074 = sym (to_z-of_z w128 c.args.exponent c.ranges.exponent) ∙ c.in-Some.ensures.1 in
    elim c.then-width-gt53.branch [
      | then-width-gt53-via-then-width-gt53 w ↦ too_wide c.args.mantissa c.width_of-width.result c.args.exponent c.width_of-width.ensures.below w.if-width-gt53.true
      | then-width-gt53-via-else-width-gt53+then-place-width-gt2098 w ↦
          too_far c.args.mantissa c.width_of-width.result c.in-Some.place c.args.exponent p c.width_of-width.ensures.below w.if-place-width-gt2098.true
    ]

pub returns-then-place-width-le52 : goal.returns-then-place-width-le52
returns-then-place-width-le52 c =
    let p : c.args.exponent ≡ pos c.in-Some.place -ℤ pos 1074 = sym (to_z-of_z w128 c.args.exponent c.ranges.exponent) ∙ c.in-Some.ensures.1 in
    subst (λ z. (z < 2 ^ 63) × IsDouble z false c.args.mantissa c.args.exponent) (sym c.shifted.ensures)
    (below_scales c.args.mantissa c.width_of-width.result c.in-Some.place c.args.exponent p c.width_of-width.ensures.above c.if-place-width-le52.true)

pub shifted-requires-3-clause-fits : goal.shifted-requires-3-clause-fits
shifted-requires-3-clause-fits c =
    let p : c.args.exponent ≡ pos c.in-Some.place -ℤ pos 1074 = sym (to_z-of_z w128 c.args.exponent c.ranges.exponent) ∙ c.in-Some.ensures.1 in
    let s = at_scale c.args.mantissa c.width_of-width.result c.in-Some.place c.args.exponent p c.width_of-width.ensures.above c.width_of-width.ensures.below (omega arith) (omega arith) (omega arith) in
    let b = s.0 in
    omega arith

pub overflow_add-result : goal.overflow_add-result
overflow_add-result c =
    let p : c.args.exponent ≡ pos c.in-Some.place -ℤ pos 1074 = sym (to_z-of_z w128 c.args.exponent c.ranges.exponent) ∙ c.in-Some.ensures.1 in
    let s = at_scale c.args.mantissa c.width_of-width.result c.in-Some.place c.args.exponent p c.width_of-width.ensures.above c.width_of-width.ensures.below (omega arith) (omega arith) (omega arith) in
    let b = s.0 in
    let e = c.shifted-2.ensures in
    let f = c.shifted-3.ensures in
    let g = c.from.ensures in
    record { fits = omega arith }

pub returns : goal.returns
returns c =
    let p : c.args.exponent ≡ pos c.in-Some.place -ℤ pos 1074 = sym (to_z-of_z w128 c.args.exponent c.ranges.exponent) ∙ c.in-Some.ensures.1 in
    let e : c.shifted-2.result + c.shifted-3.result ≡ (c.in-Some.place + c.width_of-width.result - 53) * 2 ^ 52 + c.args.mantissa * 2 ^ (53 - c.width_of-width.result) =
    ap₂ ◌+◌ (c.shifted-2.ensures ∙ ap (λ z. z * 2 ^ 52) c.from.ensures) c.shifted-3.ensures in
    subst (λ z. (z < 2 ^ 63) × IsDouble z false c.args.mantissa c.args.exponent) (sym e)
    (at_scale c.args.mantissa c.width_of-width.result c.in-Some.place c.args.exponent p c.width_of-width.ensures.above c.width_of-width.ensures.below (omega arith) (omega arith) (omega arith))

pub shifted-requires-clause-fits : goal.shifted-requires-clause-fits
shifted-requires-clause-fits c =
    let p : c.args.exponent ≡ pos c.in-Some.place -ℤ pos 1074 = sym (to_z-of_z w128 c.args.exponent c.ranges.exponent) ∙ c.in-Some.ensures.1 in
    let s = below_scales c.args.mantissa c.width_of-width.result c.in-Some.place c.args.exponent p c.width_of-width.ensures.above c.if-place-width-le52.true in
    let b = s.0 in
    omega arith

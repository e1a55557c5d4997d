use Rattle.std.proofs.Common.{[], ◌∷◌, ◌++◌, ◌≡◌, ◌+◌, ◌-◌, ◌/◌, arith, rules, refl, sym, ◌∙◌, append-nil}
use Rattle.std.proofs.Output.{has_written_append, has_written_of_eq}
use Rattle.std.proofs.Math.Nat.{mod-lt}
use Rattle.rasn_types.proofs.Time.Fractions.{pushed, digits_of_zero, digits_of_none}
use Rattle.rasn_types.proofs.Time.Powers.{ten_pos}
use Rattle.rasn_types.proofs.ber.time.rfc3339.write_digits.Goals as goal

pub loop-place-preserved : goal.loop-place-preserved
loop-place-preserved g c =
    let (place, below, done, whole, wrote) = c.loop-place.invariant in
    let digit = 48 + c.loop-place.left / c.pow-weight.result in (
      omega arith,
      rw c.pow-weight.ensures (mod-lt c.loop-place.left (ten_pos (c.loop-place.place - 1))),
      done ++ digit ∷ [],
      pushed done (done ++ digit ∷ []) c.loop-place.place c.loop-place.left c.pow-weight.result c.loop-place-test.true c.if-left-gt0.true c.pow-weight.ensures refl ∙ whole,
      λ plain. has_written_append _ _ _ _ _ _ (wrote plain) (search rules),
    )

pub returns-else-left-gt0 : goal.returns-else-left-gt0
returns-else-left-gt0 g c plain ok =
    let (place, below, done, whole, wrote) = c.loop-place.invariant in
    let z : c.loop-place.left ≡ 0 = omega (arith, c.if-left-gt0.false) in
    has_written_of_eq _ _ _ _ _ (sym (append-nil done) ∙ (rw (z, digits_of_zero c.loop-place.place) at whole)) (wrote plain)

pub returns-after-loop-place : goal.returns-after-loop-place
returns-after-loop-place g c plain ok =
    let (place, below, done, whole, wrote) = c.loop-place.invariant in
    let z : c.loop-place.place ≡ 0 = omega (arith, c.loop-place-test.false) in
    has_written_of_eq _ _ _ _ _ (sym (append-nil done) ∙ (rw (digits_of_none c.loop-place.place c.loop-place.left z) at whole)) (wrote plain)

use Rattle.std.proofs.Common.{◌≡◌, ◌++◌, ◌∷◌, [], ◌*◌, ◌+◌, ◌^◌, ℕ, ℤ, Global, length, of_z, pos, neg_ℤ, ◌+ℤ◌, ◌≤ℤ◌, ◌<ℤ◌, sym, ap, ◌∙◌, subst, arith}
use Rattle.std.specs.Prelude.{Vec}
use Rattle.std.proofs.lemmas.Int.{ints}
use Rattle.std.proofs.lemmas.List.{take_at}
use Rattle.rasn_types.specs.Contents.{number_of_digits}
use Rattle.rasn_schema.specs.Places.{number_from}
use Rattle.rasn_schema.proofs.Places.{amount_of, sum_more, sum_less}
use Rattle.rasn_schema.proofs.real_decimal.digits_of_sum.Goals.{then-away-lt0, else-away-lt0}
use Rattle.rasn_schema.proofs.real_decimal.digits_of_sum.Goals as goal

pub returns-clause-sum : goal.returns-clause-sum
returns-clause-sum c =
    let l = c.args.digits.now in
    let low = c.requires.low in
    let high = c.requires.high in
    let start : c.extend_from_slice.new.self.items ≡ 48 ∷ l = c.in_ok-extend_from_slice.ensures.items ∙ ap (λ z. z ++ l) c.in_ok-sum.ensures.items in
    elim c.if-away-lt0.branch [
      | then-away-lt0 w ↦
          let e = w.unsigned_abs.ensures in
          let n = w.if-away-lt0.true in
          let k : c.args.away ≡ neg_ℤ (pos w.unsigned_abs.result) = omega (arith, ints) in
          sum_less l w.deref_mut.result.now w.subtract.new.digits c.if-away-lt0.sum.items w.unsigned_abs.result w.subtract.result c.args.away (w.deref_mut.ensures.value ∙ start)
          (ap (λ (v : Vec ℕ Global). v.items) w.sum-is ∙ take_at w.subtract.new.digits _ _ (w.subtract.ensures.length ∙ w.deref_mut.ensures.len)) c.requires.long (omega (arith, ints)) k w.subtract.ensures.length w.subtract.ensures.value
      | else-away-lt0 w ↦
          let n = w.if-away-lt0.false in
          let a = amount_of c.args.away (omega (arith, ints)) high in
          sum_more l w.deref_mut-else-away-lt0.result.now w.multiply_and_add.new.digits c.if-away-lt0.sum.items _ w.multiply_and_add.result c.args.away (w.deref_mut-else-away-lt0.ensures.value ∙ start)
          (ap (λ (v : Vec ℕ Global). v.items) w.sum-is ∙ take_at w.multiply_and_add.new.digits _ _ (w.multiply_and_add.ensures.length ∙ w.deref_mut-else-away-lt0.ensures.len)) c.requires.long a.0 a.1 w.multiply_and_add.ensures.length w.multiply_and_add.ensures.value
    ]

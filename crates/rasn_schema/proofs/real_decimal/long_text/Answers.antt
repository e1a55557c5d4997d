use Rattle.std.proofs.Common.{◌≡◌, ◌++◌, ◌∷◌, [], ℕ, ℤ, Global, ◌^◌, pos, neg_ℤ, ◌+ℤ◌, ◌≤ℤ◌, true, false, sym, ap, ◌∙◌, arith}
use Rattle.std.specs.Prelude.{Vec}
use Rattle.std.proofs.lemmas.Int.{ints}
use Rattle.rasn_types.specs.Contents.{number_of_digits, sign_text}
use Rattle.rasn_schema.proofs.RealDecimals.{with_bool, long_is}
use Rattle.rasn_schema.proofs.real_decimal.long_text.Goals.{then-is_negative, else-is_negative, then-is_negative-2+in_ok-push, else-is_negative-2}
use Rattle.rasn_schema.proofs.real_decimal.long_text.Goals as goal

pub returns : goal.returns
returns c =
    let low = c.requires.low in
    let high = c.requires.high in
    let away : (c.if-is_negative.away ≡ with_bool c.args.is_negative c.args.moved) × (neg_ℤ (pos (2 ^ 65)) ≤ℤ c.if-is_negative.away) × (c.if-is_negative.away ≤ℤ pos (2 ^ 65)) = elim c.if-is_negative.branch [
      | then-is_negative w ↦
          let e = w.away-is in
          let k : c.if-is_negative.away ≡ neg_ℤ c.args.moved = omega (arith, ints) in
          (k ∙ sym (ap (λ b. with_bool b c.args.moved) w.if-is_negative.true), omega (arith, ints), omega (arith, ints))
      | else-is_negative w ↦
          let e = w.away-is in
          let k : c.if-is_negative.away ≡ c.args.moved = omega (arith, ints) in
          (k ∙ sym (ap (λ b. with_bool b c.args.moved) w.if-is_negative.false), omega (arith, ints), omega (arith, ints))
    ] in
    let text : c.if-is_negative-2.text.items ≡ sign_text c.args.is_negative = elim c.if-is_negative-2.branch [
      | then-is_negative-2+in_ok-push w ↦ ap (λ (v : Vec ℕ Global). v.items) w.text-is ∙ (w.in_ok-push.ensures.items ∙ (ap (λ z. z ++ 45 ∷ []) c.new-text.ensures.items ∙ sym (ap sign_text w.if-is_negative-2.true)))
      | else-is_negative-2 w ↦ ap (λ (v : Vec ℕ Global). v.items) w.text-is ∙ (c.new-text.ensures.items ∙ sym (ap sign_text w.if-is_negative-2.false))
    ] in
    let shown = c.without_zeros.result.now in
    let sum : pos (number_of_digits shown) ≡ pos (number_of_digits c.args.digits.now) +ℤ c.if-is_negative.away = ap pos (c.without_zeros.ensures.same ∙ ap number_of_digits c.deref.ensures.value) ∙ (c.in_ok-sum.ensures.sum ∙ ap (λ z. pos (number_of_digits c.args.digits.now) +ℤ z) c.if-is_negative.away-is) in
    long_is c.args.is_negative c.args.digits.now shown c.extend_from_slice.new.self.items c.args.moved c.if-is_negative.away c.requires.long away.1 away.0 sum c.without_zeros.ensures.all c.without_zeros.ensures.short
    (c.in_ok-extend_from_slice.ensures.items ∙ ap (λ z. z ++ shown) text)

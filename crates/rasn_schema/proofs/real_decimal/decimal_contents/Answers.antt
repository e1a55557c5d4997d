use Rattle.std.proofs.Common.{◌≡◌, ◌∷◌, [], ◌++◌, ℕ, Global, sym, ap, ◌∙◌}
use Rattle.std.specs.Prelude.{Vec}
use Rattle.rasn_types.specs.Contents.{sign_text}
use Rattle.rasn_schema.proofs.RealDecimals.{joined_items}
use Rattle.rasn_schema.proofs.real_decimal.decimal_contents.Goals as goal
use Rattle.rasn_schema.proofs.real_decimal.decimal_contents.Goals.{then-is_negative+in_ok-push, else-is_negative}

pub returns : goal.returns
returns c =
    let a : c.in_ok-contents.contents.items ≡ 3 ∷ [] = c.in_ok-contents.ensures.items in
    let s : c.if-is_negative.contents.items ≡ 3 ∷ sign_text c.args.is_negative =
    elim c.if-is_negative.branch [
      | then-is_negative+in_ok-push w ↦ ap (λ (v : Vec ℕ Global). v.items) w.contents-is ∙ (w.in_ok-push.ensures.items ∙ (ap (λ z. z ++ 45 ∷ []) a ∙ sym (ap (λ b. 3 ∷ sign_text b) w.if-is_negative.true)))
      | else-is_negative w ↦ ap (λ (v : Vec ℕ Global). v.items) w.contents-is ∙ (a ∙ sym (ap (λ b. 3 ∷ sign_text b) w.if-is_negative.false))
    ] in
    let b : c.extend_from_slice.new.self.items ≡ c.if-is_negative.contents.items ++ c.args.digits.now = c.in_ok-extend_from_slice.ensures.items in
    let d : c.extend_from_slice-2.new.self.items ≡ c.extend_from_slice.new.self.items ++ 46 ∷ 69 ∷ [] = c.in_ok-extend_from_slice-2.ensures.items in
    let e : c.extend_from_slice-3.new.self.items ≡ c.extend_from_slice-2.new.self.items ++ c.args.exponent.now = c.in_ok-extend_from_slice-3.ensures.items in
    joined_items c.extend_from_slice-3.new.self.items c.args.digits.now c.args.exponent.now c.args.is_negative
    (e ∙ ap (λ z. z ++ c.args.exponent.now) (d ∙ ap (λ z. z ++ 46 ∷ 69 ∷ []) (b ∙ ap (λ z. z ++ c.args.digits.now) s)))

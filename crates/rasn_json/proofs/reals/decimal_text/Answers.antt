use Rattle.std.proofs.Common.{◌≡◌, ◌++◌, ◌∷◌, sym, ap, ap₂, ◌∙◌, string_bytes}
use Rattle.rasn_types.specs.Contents.{number_of_digits, sign_text}
use Rattle.rasn_types.proofs.Reals.{spelled}
use Rattle.rasn_json.specs.Reals.{decimal_text}
use Rattle.rasn_json.proofs.Levels.{if_ok}
use Rattle.rasn_json.proofs.RealTexts.{plain_digits, plain_whole}
use Rattle.rasn_json.proofs.reals.decimal_text.Goals as goal

pub returns-then-is_negative : goal.returns-then-is_negative
returns-then-is_negative c =
    let p = plain_digits c.args.mantissa.now (spelled c.args.mantissa.now (number_of_digits c.args.mantissa.now) c.requires.mantissa).1 in
    let q = plain_whole c.args.exponent.now c.requires.exponent.0 c.requires.exponent.1 in
    if_ok (λ s. string_bytes s ≡ 45 ∷ (string_bytes c.in_ok-digits.digits ++ 69 ∷ string_bytes c.in_ok-exponent.exponent)) (λ s. string_bytes s ≡ decimal_text c.args.is_negative c.args.mantissa.now c.args.exponent.now) c.format.result
    (λ s e. e ∙ (ap₂ (λ l z. 45 ∷ (l ++ 69 ∷ z)) (c.in_ok-digits.ensures ∙ p) (c.in_ok-exponent.ensures ∙ q) ∙ sym (ap (λ b. sign_text b ++ (c.args.mantissa.now ++ 69 ∷ c.args.exponent.now)) c.if-is_negative.true)))
    c.format.ensures.ok

pub returns : goal.returns
returns c =
    let p = plain_digits c.args.mantissa.now (spelled c.args.mantissa.now (number_of_digits c.args.mantissa.now) c.requires.mantissa).1 in
    let q = plain_whole c.args.exponent.now c.requires.exponent.0 c.requires.exponent.1 in
    if_ok (λ s. string_bytes s ≡ string_bytes c.in_ok-digits.digits ++ 69 ∷ string_bytes c.in_ok-exponent.exponent) (λ s. string_bytes s ≡ decimal_text c.args.is_negative c.args.mantissa.now c.args.exponent.now) c.format-else-is_negative.result
    (λ s e. e ∙ (ap₂ (λ l z. l ++ 69 ∷ z) (c.in_ok-digits.ensures ∙ p) (c.in_ok-exponent.ensures ∙ q) ∙ sym (ap (λ b. sign_text b ++ (c.args.mantissa.now ++ 69 ∷ c.args.exponent.now)) c.if-is_negative.false)))
    c.format-else-is_negative.ensures.ok

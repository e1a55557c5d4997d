use Rattle.std.proofs.Common.{◌≡◌, sym, ◌∙◌, subst, string_bytes}
use Rattle.json.specs.Print.{IsNumber}
use Rattle.rasn_types.specs.Contents.{number_of_digits}
use Rattle.rasn_json.specs.Reals.{decimal_text}
use Rattle.rasn_json.proofs.Appended.{on_ok}
use Rattle.rasn_json.proofs.Levels.{handed}
use Rattle.rasn_json.proofs.RealTexts.{base_ten_put, decimal_number}
use Rattle.rasn_json.proofs.reals.put_decimal.Goals as goal

pub put-requires-3 : goal.put-requires-3
put-requires-3 g c =
    let t = handed (λ s. string_bytes s ≡ decimal_text c.args.is_negative c.args.mantissa.now c.args.exponent.now) c.decimal_text.result c.or_memory.result c.in_ok-text.text c.or_memory.ensures.ok c.in_ok-text.was c.decimal_text.ensures in
    subst IsNumber (sym (c.as_str.ensures.value ∙ t)) (decimal_number c.args.is_negative c.args.mantissa.now (number_of_digits c.args.mantissa.now) c.args.exponent.now c.requires.exponent.0 c.requires.mantissa c.requires.exponent.1)

pub returns-clause-ok : goal.returns-clause-ok
returns-clause-ok g c =
    let t = handed (λ s. string_bytes s ≡ decimal_text c.args.is_negative c.args.mantissa.now c.args.exponent.now) c.decimal_text.result c.or_memory.result c.in_ok-text.text c.or_memory.ensures.ok c.in_ok-text.was c.decimal_text.ensures in
    on_ok c.put-4.result _ _ (λ f. base_ten_put c.as_str.result.now (decimal_text c.args.is_negative c.args.mantissa.now c.args.exponent.now) _ _ _ _ _ (c.as_str.ensures.value ∙ t) c.in_ok-put.ensures.ok c.in_ok-put-2.ensures.ok c.in_ok-put-3.ensures.ok f) c.put-4.ensures.ok

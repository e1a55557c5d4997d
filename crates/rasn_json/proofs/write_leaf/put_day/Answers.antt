use Rattle.std.proofs.Common.{ℕ, List, refl, sym, subst, string_bytes}
use Rattle.std.specs.Prelude.{IfOk, MatchOption}
use Rattle.json.specs.Json as json
use Rattle.rasn_json.specs.Json.{DayJson}
use Rattle.rasn_json.specs.Texts.{DayText}
use Rattle.rasn_json.proofs.Appended.{on_one}
use Rattle.rasn_json.proofs.Refused.{handed_on, no_text_fails}
use Rattle.rasn_json.proofs.write_leaf.put_day.Goals as goal

pub returns-clause-ok : goal.returns-clause-ok
returns-clause-ok g c =
    let told = subst (λ r. IfOk r (λ o. MatchOption o ((s : List ℕ) → DayText s c.args.day.now → ⊥) (λ s. DayText (string_bytes s) c.args.day.now))) c.in_ok-text.ensures.ok c.text_of_day.ensures in
    on_one (DayJson c.args.day.now) (json.string c.as_str.result.now) _ _ c.put.result c.put.ensures.ok
    (c.as_str.result.now, refl, subst (λ s. DayText s c.args.day.now) (sym c.as_str.ensures.value) told)

pub returns-in_err-text-clause-err : goal.returns-in_err-text-clause-err
returns-in_err-text-clause-err g c =
    handed_on _ c.in_err-text.field-0.0 c.from_residual.result c.from_residual.ensures.1 (no_text_fails (λ s. DayText s c.args.day.now) (λ s. DayText (string_bytes s) c.args.day.now) c.text_of_day.result (DayJson c.args.day.now) c.in_err-text.field-0.0 (λ j k. (k.0, k.2)) c.text_of_day.ensures c.in_err-text.ensures.err)

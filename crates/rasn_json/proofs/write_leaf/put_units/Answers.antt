use Rattle.std.proofs.Common.{ℕ, List, refl, sym, subst, string_bytes}
use Rattle.std.specs.Prelude.{IfOk, MatchOption}
use Rattle.json.specs.Json as json
use Rattle.rasn_json.specs.Json.{UnitsJson}
use Rattle.rasn_json.specs.Texts.{UnitsText}
use Rattle.rasn_json.proofs.Appended.{on_one}
use Rattle.rasn_json.proofs.Refused.{handed_on, no_text_fails}
use Rattle.rasn_json.proofs.write_leaf.put_units.Goals as goal

pub returns-clause-ok : goal.returns-clause-ok
returns-clause-ok g c =
    let told = subst (λ r. IfOk r (λ o. MatchOption o ((s : List ℕ) → UnitsText s c.args.units.now → ⊥) (λ s. UnitsText (string_bytes s) c.args.units.now))) c.in_ok-text.ensures.ok c.text_of_units.ensures in
    on_one (UnitsJson c.args.units.now) (json.string c.as_str.result.now) _ _ c.put.result c.put.ensures.ok
    (c.as_str.result.now, refl, subst (λ s. UnitsText s c.args.units.now) (sym c.as_str.ensures.value) told)

pub returns-in_err-text-clause-err : goal.returns-in_err-text-clause-err
returns-in_err-text-clause-err g c =
    handed_on _ c.in_err-text.field-0.0 c.from_residual.result c.from_residual.ensures.1 (no_text_fails (λ s. UnitsText s c.args.units.now) (λ s. UnitsText (string_bytes s) c.args.units.now) c.text_of_units.result (UnitsJson c.args.units.now) c.in_err-text.field-0.0 (λ j k. (k.0, k.2)) c.text_of_units.ensures c.in_err-text.ensures.err)

use Rattle.std.proofs.Common.{[], ℕ, List, refl, sym, subst, arith, string_bytes}
use Rattle.std.specs.Prelude.{IfOk, MatchOption}
use Rattle.json.specs.Json as json
use Rattle.rasn_json.specs.Json.{InstantJson}
use Rattle.rasn_json.specs.Texts.{WrittenInstant}
use Rattle.rasn_json.proofs.Appended.{on_one}
use Rattle.rasn_json.proofs.Refused.{handed_on, no_text_fails}
use Rattle.rasn_json.proofs.write_leaf.put_instant.Goals as goal

pub returns-clause-ok : goal.returns-clause-ok
returns-clause-ok g c =
    let told = subst (λ r. IfOk r (λ o. MatchOption o ((s : List ℕ) → WrittenInstant c.args.kind s c.args.time.now.moment → ⊥) (λ s. WrittenInstant c.args.kind (string_bytes s) c.args.time.now.moment))) c.in_ok-text.ensures.ok c.text_of_instant.ensures in
    on_one (InstantJson c.args.kind c.args.time.now.moment) (json.string c.as_str.result.now) _ _ c.put.result c.put.ensures.ok
    (c.as_str.result.now, refl, subst (λ s. WrittenInstant c.args.kind s c.args.time.now.moment) (sym c.as_str.ensures.value) told)

pub returns-in_err-text-clause-err : goal.returns-in_err-text-clause-err
returns-in_err-text-clause-err g c =
    handed_on _ c.in_err-text.field-0.0 c.from_residual.result c.from_residual.ensures.1 (no_text_fails (λ s. WrittenInstant c.args.kind s c.args.time.now.moment) (λ s. WrittenInstant c.args.kind (string_bytes s) c.args.time.now.moment) c.text_of_instant.result
    (InstantJson c.args.kind c.args.time.now.moment) c.in_err-text.field-0.0 (λ j k. (k.0, k.2)) c.text_of_instant.ensures c.in_err-text.ensures.err)

use Rattle.std.proofs.Common.{ℕ, List, refl, sym, subst, string_bytes}
use Rattle.std.specs.Prelude.{IfOk, MatchOption}
use Rattle.json.specs.Json as json
use Rattle.json.specs.Print.{IsNumber}
use Rattle.rasn_json.specs.Decimal.{IsLong, IsWhole}
use Rattle.rasn_json.specs.Json.{NumberJson}
use Rattle.rasn_json.proofs.Appended.{on_one}
use Rattle.rasn_json.proofs.Refused.{handed_on, long_fails}
use Rattle.rasn_json.proofs.write_leaf.put_number.Goals as goal

pub put-requires : goal.put-requires
put-requires g c =
    let z = c.args.number.now in
    let told = subst (λ r. IfOk r (λ o. MatchOption o (IsLong z) (λ s. (IsLong z → ⊥) × IsWhole (string_bytes s) z × IsNumber (string_bytes s)))) c.in_ok-text.ensures.ok c.decimal_of.ensures in
    subst IsNumber (sym c.as_str.ensures.value) told.2

pub returns-clause-ok : goal.returns-clause-ok
returns-clause-ok g c =
    let z = c.args.number.now in
    let told = subst (λ r. IfOk r (λ o. MatchOption o (IsLong z) (λ s. (IsLong z → ⊥) × IsWhole (string_bytes s) z × IsNumber (string_bytes s)))) c.in_ok-text.ensures.ok c.decimal_of.ensures in
    on_one (NumberJson z) (json.number c.as_str.result.now) _ _ c.put.result c.put.ensures.ok
    (told.0, (c.as_str.result.now, refl, subst IsNumber (sym c.as_str.ensures.value) told.2, subst (λ s. IsWhole s z) (sym c.as_str.ensures.value) told.1))

pub returns-in_err-text-clause-err : goal.returns-in_err-text-clause-err
returns-in_err-text-clause-err g c =
    handed_on _ c.in_err-text.field-0.0 c.from_residual.result c.from_residual.ensures.1
    (long_fails (λ s. (IsLong c.args.number.now → ⊥) × IsWhole (string_bytes s) c.args.number.now × IsNumber (string_bytes s)) c.decimal_of.result c.args.number.now c.in_err-text.field-0.0 c.decimal_of.ensures c.in_err-text.ensures.err)

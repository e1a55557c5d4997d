use Rattle.std.proofs.Common.{[], ℕ, refl, arith, inl, inr}
use Rattle.json.specs.Json as json
use Rattle.rasn_json.specs.Json.{IntegerJson, NumberJson}
use Rattle.rasn_json.proofs.Appended.{on_appends, on_one}
use Rattle.rasn_json.proofs.Refused.{fails_as, no_number}
use Rattle.rasn_json.proofs.write_leaf.put_integer.Goals as goal

pub returns-in-Some-clause-ok : goal.returns-in-Some-clause-ok
returns-in-Some-clause-ok g c = on_one (IntegerJson c.args.kind c.args.names.now c.args.number.now) (json.string c.in-Some.name.now) _ _ c.put.result c.put.ensures.ok (inl c.in-Some.ensures)

pub returns-in-None-clause-ok : goal.returns-in-None-clause-ok
returns-in-None-clause-ok g c = on_appends (NumberJson c.args.number.now) (IntegerJson c.args.kind c.args.names.now c.args.number.now) _ _ c.put_number.result (λ j k. inr (c.in-None.ensures, k)) c.put_number.ensures.ok

pub returns-in-None-clause-err : goal.returns-in-None-clause-err
returns-in-None-clause-err g c = fails_as _ _ c.put_number.result (λ e h. no_number c.args.kind c.args.names.now c.args.number.now e c.in-None.ensures h) c.put_number.ensures.err

use Rattle.std.proofs.Common.{[], ℕ, refl, sym, subst, arith}
use Rattle.json.specs.Json as json
use Rattle.rasn_json.specs.Json.{EnumeratedJson}
use Rattle.rasn_json.proofs.Appended.{on_one}
use Rattle.rasn_json.proofs.write_leaf.put_enumerated.Goals as goal

pub returns-in-Some-clause-ok : goal.returns-in-Some-clause-ok
returns-in-Some-clause-ok g c = on_one (EnumeratedJson c.args.numbers.now c.args.value.now) (json.string c.in-Some.name.now) _ _ c.put.result c.put.ensures.ok
    (subst (λ v. EnumeratedJson c.args.numbers.now v (json.string c.in-Some.name.now)) (sym c.in-Integer.is) c.in-Some.ensures)

use Rattle.std.proofs.Common.{◌-◌, [], ℕ, refl, sym, ap, subst, arith}
use Rattle.json.specs.Json as json
use Rattle.rasn_json.specs.Json.{LeafJson}
use Rattle.rasn_json.proofs.Appended.{on_one}
use Rattle.rasn_json.proofs.write_leaf.put_leaf.Goals as goal

pub returns-in-Boolean-clause-json : goal.returns-in-Boolean-clause-json
returns-in-Boolean-clause-json g c = on_one (LeafJson c.args.leaf.kind c.args.leaf.constraints.now c.args.leaf.names.now c.args.value.now) (json.boolean c.in-Boolean.truth) _ _ c.put.result c.put.ensures.ok (subst (λ v. LeafJson c.args.leaf.kind c.args.leaf.constraints.now c.args.leaf.names.now v (json.boolean c.in-Boolean.truth)) (sym c.in-Boolean.is) refl)

pub returns-in-Null-clause-json : goal.returns-in-Null-clause-json
returns-in-Null-clause-json g c = on_one (LeafJson c.args.leaf.kind c.args.leaf.constraints.now c.args.leaf.names.now c.args.value.now) json.null _ _ c.put-in-Null.result c.put-in-Null.ensures.ok (subst (λ v. LeafJson c.args.leaf.kind c.args.leaf.constraints.now c.args.leaf.names.now v json.null) (sym c.in-Null.is) refl)

pub returns-in-Text-clause-json : goal.returns-in-Text-clause-json
returns-in-Text-clause-json g c = on_one (LeafJson c.args.leaf.kind c.args.leaf.constraints.now c.args.leaf.names.now c.args.value.now) (json.string c.as_str.result.now) _ _ c.put-in-Text.result c.put-in-Text.ensures.ok
    (subst (λ v. LeafJson c.args.leaf.kind c.args.leaf.constraints.now c.args.leaf.names.now v (json.string c.as_str.result.now)) (sym c.in-Text.is) (ap json.string c.as_str.ensures.value))

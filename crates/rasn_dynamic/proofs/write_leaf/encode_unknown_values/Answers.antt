use Rattle.std.proofs.Common.{◌≡◌, OnOk, IfErr, sym, ap, ◌∙◌, subst}
use Rattle.rasn_types.specs.Shapes.{items, numbers, unknown}
use Rattle.rasn_types.specs.Trees.{list_tree}
use Rattle.rasn_enc.specs.Encoding.{AppendsEncoding, EncodeFails}
use Rattle.rasn_enc.proofs.Constructed.Unknown.{unknown_fails}
use Rattle.rasn_schema.specs.Trees.{tree_of}
use Rattle.rasn_schema.specs.Fitting.{AreOctets, EachFits}
use Rattle.rasn_schema.proofs.ListsOf.{list_to, list_means}
use Rattle.rasn_dynamic.proofs.OnlyFitting.{fitted}
use Rattle.rasn_dynamic.proofs.Unknown.{some_told}
use Rattle.rasn_dynamic.proofs.write_leaf.encode_unknown_values.Goals as goal

pub returns-in-Ok-Some : goal.returns-in-Ok-Some
returns-in-Ok-Some c =
    let copied = some_told _ _ c.in-Ok-Some.field-0 c.in-Ok-Some.values c.in-Ok-Some.ensures c.in-Ok-Some.field-0-is in
    let all = c.in-Ok-Some.values.values.items in
    let r = c.encode_unknown.result in
    let same : list_tree numbers all ≡ tree_of c.args.value.now = ap items copied.1 ∙ sym (list_means c.in-Some.values.now c.args.value.now c.in-Some.ensures) in
    rw c.kept.ensures (fitted r (list_to (EachFits AreOctets) c.in-Some.values.now c.args.value.now c.in-Some.ensures copied.0)
    (record {
      ok = subst (λ t. OnOk r (AppendsEncoding unknown t c.args.encoder.now c.encode_unknown.new.self)) same c.encode_unknown.ensures.ok;
      refused = subst (λ t. IfErr r (EncodeFails unknown t c.args.encoder.now)) same (unknown_fails r all c.args.encoder.now c.encode_unknown.ensures.fails);
    })
    c.encode_unknown.ensures.err c.encode_unknown.ensures.rules)

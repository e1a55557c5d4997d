use Rattle.std.proofs.Common.{sym, ap, ◌∙◌}
use Rattle.rasn_types.specs.Shapes.{items}
use Rattle.rasn_schema.specs.Fitting.{AreOctets, EachFits}
use Rattle.rasn_schema.proofs.ListsOf.{list_to, list_means}
use Rattle.rasn_dynamic.proofs.Unknown.{some_told}
use Rattle.rasn_dynamic.proofs.SetWritten.{unknown_ok, unknown_refused}
use Rattle.rasn_dynamic.proofs.write_leaf.unknown_as_components.Goals as goal

pub returns-in-Ok-Some-clause-ok : goal.returns-in-Ok-Some-clause-ok
returns-in-Ok-Some-clause-ok c =
    let copied = some_told _ _ c.in-Ok-Some.field-0 c.in-Ok-Some.copies c.in-Ok-Some.ensures c.in-Ok-Some.field-0-is in
    unknown_ok c.unknown_components.result c.in-Ok-Some.copies.values.items _ _ c.args.encoder.now.rule c.deref.ensures.value (ap items copied.1 ∙ sym (list_means c.in-Some.values.now c.args.value.now c.in-Some.ensures))
    (list_to (EachFits AreOctets) c.in-Some.values.now c.args.value.now c.in-Some.ensures copied.0) c.unknown_components.ensures.ok

pub returns-in-Ok-Some-clause-refused : goal.returns-in-Ok-Some-clause-refused
returns-in-Ok-Some-clause-refused c f =
    let copied = some_told _ _ c.in-Ok-Some.field-0 c.in-Ok-Some.copies c.in-Ok-Some.ensures c.in-Ok-Some.field-0-is in
    unknown_refused c.unknown_components.result c.in-Ok-Some.copies.values.items _ _ c.args.encoder.now.rule c.deref.ensures.value (ap items copied.1 ∙ sym (list_means c.in-Some.values.now c.args.value.now c.in-Some.ensures))
    (rw (← c.codec.ensures) c.unknown_components.ensures.refused)

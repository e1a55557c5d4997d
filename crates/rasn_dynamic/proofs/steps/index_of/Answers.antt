use Rattle.std.specs.String.{string_bytes}
use Rattle.rasn_schema.specs.declared.types.Alternative.{Alternative}
use Rattle.rasn_schema.specs.declared.types.Component.{Component}
use Rattle.rasn_dynamic.proofs.Ways.{first_named, component_named}
use Rattle.rasn_dynamic.proofs.steps.index_of.Goals as goal

pub returns-in-Choice : goal.returns-in-Choice
returns-in-Choice c = rw (c.in-Choice.is, ← c.as_slice.ensures.value) (first_named (λ (a : Alternative). string_bytes a.name) c.as_slice.result.now c.args.name.now c.index_named.result c.index_named.ensures)

pub returns-in_default : goal.returns-in_default
returns-in_default c = component_named c.args.ty.now c.args.name.now c.index_named-in_default.result c.in_default.not-Choice
    (rw (← c.components_of.ensures) (first_named (λ (p : Component). string_bytes p.name) c.components_of.result.now c.args.name.now c.index_named-in_default.result c.index_named-in_default.ensures))

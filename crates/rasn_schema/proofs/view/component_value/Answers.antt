use Rattle.std.proofs.Common.{sym, ap, refl, ◌∙◌}
use Rattle.rasn_schema.specs.declared.types.Component.{Component}
use Rattle.rasn_schema.proofs.Lists.{some_is}
use Rattle.rasn_schema.proofs.Parts.{not_none, no_component_value}
use Rattle.rasn_schema.proofs.view.component_value.Goals as goal

pub returns-in_err-index : goal.returns-in_err-index
returns-in_err-index c = rw c.from_residual.ensures (λ id part p. c.in_err-index.ensures p.0 p.1.0.0 p.1.0.1 p.1.0.2)

pub returns-in_err-component : goal.returns-in_err-component
returns-in_err-component c = let p = c.in_ok-index.ensures.0 in absurd (not_none p.0 _ c.in_err-component.ensures p.1)

pub returns-in_err-part_at : goal.returns-in_err-part_at
returns-in_err-part_at c =
    let p = c.in_ok-index.ensures.0 in
    rw c.from_residual-in_err-part_at.ensures (no_component_value c.args.components.now c.args.name.now c.args.value.now c.in_ok-index.index p.0.type_id ((p.0, p.1, p.2, refl), c.in_ok-index.ensures.1) c.in_err-part_at.ensures)

pub returns : goal.returns
returns c =
    let p = c.in_ok-index.ensures.0 in
    (c.in_ok-index.index, ((p.0, p.1, p.2, ap (λ (q : Component). q.type_id) (some_is p.0 c.in_ok-component.component.now (p.1 ∙ sym c.in_ok-component.ensures))), c.in_ok-index.ensures.1), c.in_ok-part_at.ensures)

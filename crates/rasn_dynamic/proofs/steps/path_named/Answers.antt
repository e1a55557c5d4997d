use Rattle.std.proofs.Common.{◌++◌, ap, sym, ◌∙◌, subst}
use Rattle.rasn_dynamic.specs.Steps.{IsWay}
use Rattle.rasn_dynamic.proofs.Parts.{if_true, if_false}
use Rattle.rasn_dynamic.proofs.steps.path_named.Goals as goal

pub returns-then-branch : goal.returns-then-branch
returns-then-branch c =
    let w = if_true _ _ _ c.if-branch.true c.in_ok-append_way.ensures in
    let e = w.1 ∙ ap (λ z. z ++ w.0) c.new-path.ensures.items in
    rw (← c.types.ensures.types) (subst (λ z. IsWay c.types.result.now 18446744073709551615 c.args.id.0 c.args.steps.now z) (sym e) w.2)

pub returns-else-branch : goal.returns-else-branch
returns-else-branch c = rw (← c.types.ensures.types) (if_false _ _ _ c.if-branch.false c.in_ok-append_way.ensures)

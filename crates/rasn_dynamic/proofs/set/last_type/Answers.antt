use Rattle.std.proofs.Common.{ap, sym, ◌∙◌, arith}
use Rattle.rasn_schema.specs.declared.types.Component.{Component}
use Rattle.rasn_dynamic.proofs.Named.{last_is}
use Rattle.rasn_dynamic.proofs.set.last_type.Goals as goal

pub returns-in-Some : goal.returns-in-Some
returns-in-Some c =
    ap (λ (p : Component). p.type_id.0) (sym c.index-components-last.is) ∙ sym (last_is c.args.components.now c.in-Some.last c.index-components-last.result (let l = c.in-Some.ensures in omega (arith, l.0, l.1)) c.index-components-last.is)

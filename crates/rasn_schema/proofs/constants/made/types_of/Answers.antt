use Rattle.std.proofs.Common.{subst}
use Rattle.std.proofs.lemmas.List.{take_all}
use Rattle.rasn_types.specs.Order.{Each}
use Rattle.rasn_schema.specs.Statics.{IsMade}
use Rattle.rasn_schema.proofs.Copied.{one_more, shapes_made}
use Rattle.rasn_schema.proofs.constants.made.types_of.Goals as goal

pub loop-ty-preserved : goal.loop-ty-preserved
loop-ty-preserved c = one_more c.args.types.now c.loop-ty.made.items c.push.new.self.items c.loop-ty.ty-index _ c.in_ok-type_of.field-0 c.loop-ty-test.true c.in_ok-push.ensures.items c.loop-ty.invariant c.in_ok-type_of.ensures

pub returns : goal.returns
returns c = shapes_made c.args.types.now c.loop-ty.made.items (subst (λ l. Each IsMade l c.loop-ty.made.items) (take_all c.loop-ty.ty-index c.args.types.now c.loop-ty-test.false) c.loop-ty.invariant)

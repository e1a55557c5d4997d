use Rattle.rasn_types.specs.Order.{IsLess}
use Rattle.rasn_lint.proofs.Order.{falls, rises, all_ascend}
use Rattle.rasn_lint.proofs.der.order.octets_ascend.Goals as goal

pub returns-then-is_less : goal.returns-then-is_less
returns-then-is_less c =
    falls IsLess c.args.contents.now c.loop-component.last.now c.loop-component.rest.now c.loop-component.invariant _ _ _ _ _ c.in-Some.ensures.frame c.in-Some.ensures.octets c.if-is_less.ensures

pub loop-component-preserved : goal.loop-component-preserved
loop-component-preserved c =
    rises IsLess c.args.contents.now c.loop-component.last.now c.loop-component.rest.now c.loop-component.invariant _ _ _ _ _ c.in-Some.ensures.frame c.in-Some.ensures.octets c.if-is_less.ensures

pub returns : goal.returns
returns c = all_ascend IsLess c.args.contents.now c.loop-component.last.now c.loop-component.rest.now c.loop-component.invariant c.in_default.ensures

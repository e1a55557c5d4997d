use Rattle.rasn_lint.specs.Order.{HasNoHigherTag}
use Rattle.rasn_lint.proofs.Order.{tags_start, first_begins, falls, rises, all_ascend, higher, not_higher}
use Rattle.rasn_lint.proofs.der.order.tags_rise.Goals as goal

pub loop-component-init : goal.loop-component-init
loop-component-init c = tags_start c.args.contents.now

pub returns-then-not-is_tag_below : goal.returns-then-not-is_tag_below
returns-then-not-is_tag_below c =
    let i = c.loop-component.invariant in
    let b = first_begins c.loop-component.rest.now _ _ c.in-Some.ensures.frame c.in-Some.ensures.octets in
    falls HasNoHigherTag c.args.contents.now i.0 c.loop-component.rest.now i.2 _ _ _ _ _ c.in-Some.ensures.frame c.in-Some.ensures.octets
    (not_higher _ i.0 _ _ i.1 b c.if-not-is_tag_below.ensures)

pub loop-component-preserved : goal.loop-component-preserved
loop-component-preserved c =
    let i = c.loop-component.invariant in
    let b = first_begins c.loop-component.rest.now _ _ c.in-Some.ensures.frame c.in-Some.ensures.octets in (
      c.in-Some.component.octets.now,
      b,
      rises HasNoHigherTag c.args.contents.now i.0 c.loop-component.rest.now i.2 _ _ _ _ _ c.in-Some.ensures.frame c.in-Some.ensures.octets (higher _ i.0 _ _ i.1 b c.if-not-is_tag_below.ensures),
    )

pub returns : goal.returns
returns c = let i = c.loop-component.invariant in all_ascend HasNoHigherTag c.args.contents.now i.0 c.loop-component.rest.now i.2 c.in_default.ensures

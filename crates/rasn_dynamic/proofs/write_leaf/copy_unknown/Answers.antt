use Rattle.rasn_schema.proofs.Lists.{split, nothing_left}
use Rattle.rasn_dynamic.proofs.Unknown.{copied_start, copied_more, copied_not, copied_end, some_told, none_told}
use Rattle.rasn_dynamic.proofs.write_leaf.copy_unknown.Goals as goal

pub loop-rest-init : goal.loop-rest-init
loop-rest-init c = rw c.new-copies.ensures.items (copied_start c.args.values.now)

pub returns : goal.returns
returns c = copied_end c.args.values.now _ _ c.loop-rest.invariant (nothing_left _ c.in_default.len_below)

pub returns-in_default-2 : goal.returns-in_default-2
returns-in_default-2 c =
    copied_not c.args.values.now _ _ _ c.value-item.result c.loop-rest.invariant (split c.loop-rest.rest.now _ c.in-len1-up.len_at_least c.value-item.is)
    (none_told _ c.in_ok-copy.field-0 c.in_ok-copy.ensures c.in_default-2.not-Some)

pub loop-rest-preserved : goal.loop-rest-preserved
loop-rest-preserved c =
    let w = some_told _ _ c.in_ok-copy.field-0 c.in-Some.copy c.in_ok-copy.ensures c.in-Some.is in
    copied_more c.args.values.now _ _ _ c.value-item.result c.loop-rest.invariant (split c.loop-rest.rest.now _ c.in-len1-up.len_at_least c.value-item.is) _ c.in-Some.copy c.in_ok-push.ensures.items w.0 w.1

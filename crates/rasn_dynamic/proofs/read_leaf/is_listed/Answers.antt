use Rattle.rasn_schema.proofs.Lists.{split, nothing_left}
use Rattle.rasn_dynamic.proofs.Numbers.{listed_start, listed_here, listed_more, listed_end}
use Rattle.rasn_dynamic.proofs.read_leaf.is_listed.Goals as goal

pub loop-rest-init : goal.loop-rest-init
loop-rest-init c = listed_start _ _

pub returns-then-has_number : goal.returns-then-has_number
returns-then-has_number c = listed_here _ _ _ c.named-item.result _ c.loop-rest.invariant (split c.loop-rest.rest.now _ c.in-len1-up.len_at_least c.named-item.is) c.if-has_number.ensures

pub loop-rest-preserved : goal.loop-rest-preserved
loop-rest-preserved c = listed_more _ _ _ c.named-item.result _ c.loop-rest.invariant (split c.loop-rest.rest.now _ c.in-len1-up.len_at_least c.named-item.is) c.if-has_number.ensures

pub returns : goal.returns
returns c = listed_end _ _ _ c.loop-rest.invariant (nothing_left _ c.in_default.len_below)

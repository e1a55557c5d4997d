use Rattle.rasn_schema.proofs.Lists.{split, nothing_left}
use Rattle.rasn_dynamic.proofs.Numbers.{fit_more, fit_end}
use Rattle.rasn_dynamic.proofs.read_leaf.see_numbers.Goals as goal

pub loop-rest-init : goal.loop-rest-init
loop-rest-init c = λ h. h

pub loop-rest-preserved : goal.loop-rest-preserved
loop-rest-preserved c =
    fit_more c.args.numbers.now c.loop-rest.rest.now _ c.named-item.result c.number_of.result c.loop-rest.invariant (split c.loop-rest.rest.now _ c.in-len1-up.len_at_least c.named-item.is) c.number_of.ensures (record { sfits = c.number_of.type_inv })

pub returns : goal.returns
returns c = fit_end c.args.numbers.now c.loop-rest.rest.now c.loop-rest.invariant (nothing_left _ c.in_default.len_below)

use Rattle.rasn_schema.specs.Fitting.{AreOctets}
use Rattle.rasn_schema.proofs.Lists.{split, nothing_left}
use Rattle.rasn_schema.proofs.Fitted.{each_start, each_more, each_not, each_end}
use Rattle.rasn_schema.proofs.fitting.each_has_octets.Goals as goal

pub loop-rest-init : goal.loop-rest-init
loop-rest-init c = each_start AreOctets c.args.values.now

pub returns-then-not-are_octets : goal.returns-then-not-are_octets
returns-then-not-are_octets c = each_not AreOctets _ _ _ c.value-item.result c.loop-rest.invariant (split c.loop-rest.rest.now _ c.in-len1-up.len_at_least c.value-item.is) c.if-not-are_octets.ensures

pub loop-rest-preserved : goal.loop-rest-preserved
loop-rest-preserved c = each_more AreOctets _ _ _ c.value-item.result c.loop-rest.invariant (split c.loop-rest.rest.now _ c.in-len1-up.len_at_least c.value-item.is) c.if-not-are_octets.ensures

pub returns : goal.returns
returns c = each_end AreOctets _ _ c.loop-rest.invariant (nothing_left _ c.in_default.len_below)

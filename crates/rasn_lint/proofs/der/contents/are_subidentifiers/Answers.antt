use Rattle.rasn_lint.proofs.Contents.{refuses_octet, refuses_end, all_told}
use Rattle.rasn_lint.proofs.der.contents.are_subidentifiers.Goals as goal

pub returns-then-octet : goal.returns-then-octet
returns-then-octet c = refuses_octet c.args.contents.now c.loop-rest.begins c.loop-rest.rest.now c.loop-rest.invariant c.in-len1-up.len_at_least c.if-begins.true c.if-octet.true

pub returns-then-begins-2 : goal.returns-then-begins-2
returns-then-begins-2 c = all_told c.args.contents.now c.loop-rest.begins c.loop-rest.rest.now c.loop-rest.invariant c.in_default.len_below c.if-begins-2.true c.is_empty.result c.is_empty.ensures

pub returns-else-begins-2 : goal.returns-else-begins-2
returns-else-begins-2 c = refuses_end c.args.contents.now c.loop-rest.begins c.loop-rest.rest.now c.loop-rest.invariant c.in_default.len_below c.if-begins-2.false

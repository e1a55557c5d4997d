use Rattle.std.proofs.Common.{arith, length, ap, ◌∙◌}
use Rattle.rasn_c.proofs.LeafTags.{begins, none_next, is_followed, is_refused}
use Rattle.rasn_c.proofs.leaves.leaf_of.Goals as goal

pub returns-in_default : goal.returns-in_default
returns-in_default g c = none_next g.L.Leaf.kind c.new-decoder.result (begins c.args.rule c.of.result c.args.octets.now c.new-decoder.result c.of.ensures c.new-decoder.ensures) c.in_default.ensures.next

pub returns-in-Ok-read : goal.returns-in-Ok-read
returns-in-Ok-read g c = is_followed g.L.Leaf.kind c.new-decoder.result (begins c.args.rule c.of.result c.args.octets.now c.new-decoder.result c.of.ensures c.new-decoder.ensures) c.in-Ok.tag c.in-Ok.ensures.next _ _ c.in-Ok-read.ensures.reads (λ h. let n = ap length (c.remaining.ensures.value ∙ h) in let m = c.in-len1-up.len_at_least in omega (arith, n, m))

pub returns : goal.returns
returns g c = is_refused g.L.Leaf.kind c.new-decoder.result (begins c.args.rule c.of.result c.args.octets.now c.new-decoder.result c.of.ensures c.new-decoder.ensures) c.in-Ok.tag c.in-Ok.ensures.next _ _ c.in-Err.ensures.reads c.if-is_out_of_memory.ensures

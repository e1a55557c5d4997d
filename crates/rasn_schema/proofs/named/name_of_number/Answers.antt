use Rattle.std.proofs.Common.{sym, arith, w64, ◌∙◌}
use Rattle.std.proofs.lemmas.Int.{to_z-of_z}
use Rattle.rasn_schema.proofs.Lists.{so_far_more, so_far_end, read_at}
use Rattle.rasn_schema.proofs.named.name_of_number.Goals as goal

pub returns-then-has_number : goal.returns-then-has_number
returns-then-has_number c = (c.loop-named.named-index, c.named-item.result, (read_at c.args.numbers.now c.loop-named.named-index c.named-item.result (let n = c.loop-named-test.true in omega arith) c.named-item.is), sym c.as_str.ensures.value, c.if-has_number.ensures ∙ to_z-of_z w64 c.args.number c.ranges.number)

pub loop-named-preserved : goal.loop-named-preserved
loop-named-preserved c = so_far_more _ c.args.numbers.now c.loop-named.named-index c.named-item.result (read_at c.args.numbers.now c.loop-named.named-index c.named-item.result (let n = c.loop-named-test.true in omega arith) c.named-item.is) c.if-has_number.ensures c.loop-named.invariant

pub returns : goal.returns
returns c = λ j n g h. so_far_end _ c.args.numbers.now c.loop-named.named-index (let n = c.loop-named-test.false in omega arith) c.loop-named.invariant j n g (h ∙ sym (to_z-of_z w64 c.args.number c.ranges.number))

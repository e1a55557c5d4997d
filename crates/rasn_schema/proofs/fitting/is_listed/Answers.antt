use Rattle.std.proofs.Common.{◌≡◌, arith}
use Rattle.rasn_schema.proofs.Lists.{read_at, so_far_more, so_far_end}
use Rattle.rasn_schema.proofs.Fitted.{named_listed, not_listed}
use Rattle.rasn_schema.proofs.fitting.is_listed.Goals as goal

pub returns-then-is_named : goal.returns-then-is_named
returns-then-is_named c = named_listed c.args.numbers.now c.loop-named.named-index c.named-item.result c.args.number.now (read_at c.args.numbers.now c.loop-named.named-index c.named-item.result (omega arith) c.named-item.is) c.if-is_named.ensures

pub loop-named-preserved : goal.loop-named-preserved
loop-named-preserved c = so_far_more (λ j m. m.number ≡ c.args.number.now → ⊥) _ c.loop-named.named-index c.named-item.result (read_at c.args.numbers.now c.loop-named.named-index c.named-item.result (omega arith) c.named-item.is) c.if-is_named.ensures c.loop-named.invariant

pub returns : goal.returns
returns c = not_listed c.args.numbers.now c.args.number.now (λ j m. so_far_end (λ j m. m.number ≡ c.args.number.now → ⊥) _ c.loop-named.named-index (omega arith) c.loop-named.invariant j m)

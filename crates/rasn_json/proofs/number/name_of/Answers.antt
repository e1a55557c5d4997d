use Rattle.std.proofs.Common.{◌≡◌, arith, ap, sym}
use Rattle.json.specs.Json.{string}
use Rattle.rasn_schema.proofs.Lists.{read_at, so_far_more, so_far_end}
use Rattle.rasn_json.proofs.number.name_of.Goals as goal

pub returns-then-has_number : goal.returns-then-has_number
returns-then-has_number c = (c.loop-named.named-index, c.named-item.result, read_at c.args.numbers.now c.loop-named.named-index c.named-item.result (omega arith) c.named-item.is, c.if-has_number.ensures, ap string c.as_str.ensures.value)

pub loop-named-preserved : goal.loop-named-preserved
loop-named-preserved c = so_far_more (λ j m. m.number ≡ c.args.number.now → ⊥) _ c.loop-named.named-index c.named-item.result (read_at c.args.numbers.now c.loop-named.named-index c.named-item.result (omega arith) c.named-item.is) c.if-has_number.ensures c.loop-named.invariant

pub returns : goal.returns
returns c = λ j m. so_far_end (λ j m. m.number ≡ c.args.number.now → ⊥) _ c.loop-named.named-index (omega arith) c.loop-named.invariant j m

use Rattle.std.proofs.Common.{ap, ◌∙◌, subst}
use Rattle.rasn_lint.specs.Lint.{AreAll, rest_after}
use Rattle.rasn_lint.proofs.Clean.{listed, not_read_by_ber, nothing_left}
use Rattle.rasn_lint.proofs.by_schema.lint.Goals as goal

pub returns-in-Err-clause-fails : goal.returns-in-Err-clause-fails
returns-in-Err-clause-fails c = not_read_by_ber c.args.schema.now.types.items c.args.id.0 c.args.octets.now c.in-Err.refusal c.in-Err.ensures.located c.in-Err.ensures.exact

pub returns-in-Ok-in_order-clause-list : goal.returns-in-Ok-in_order-clause-list
returns-in-Ok-in_order-clause-list c =
    listed c.args.schema.now.types.items c.args.id.0 c.args.octets.now c.args.opens c.in-Ok.parts c.in-Ok-judge_message.list.items c.in-Ok-in_order.list.items c.in-Ok.ensures.parts
    (nothing_left c.args.schema.now.types.items c.args.id.0 c.args.octets.now c.in-Ok.parts c.in-Ok.ensures.parts c.is_empty.result c.rest_after-rest.result.now
    (c.rest_after-rest.ensures ∙ ap (λ z. rest_after z c.args.octets.now) c.as_slice-all.ensures.value) c.is_empty.ensures c.if-not-is_empty.false)
    (subst (λ z. AreAll c.args.opens c.args.schema.now.types.items c.args.id.0 c.args.octets.now z c.in-Ok-judge_message.list.items) c.as_slice-all.ensures.value c.in-Ok-judge_message.ensures)
    c.in-Ok-in_order.ensures.0 c.in-Ok-in_order.ensures.1

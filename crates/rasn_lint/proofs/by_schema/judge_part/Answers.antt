use Rattle.std.proofs.Common.{Some, sym, ap, ◌∙◌, slice_get}
use Rattle.rasn_lint.proofs.Noted.{both_parts, no_part}
use Rattle.rasn_lint.proofs.by_schema.judge_part.Goals as goal

pub returns-in-None : goal.returns-in-None
returns-in-None c = no_part c.args.is_read c.args.opens _ _ _ _ _ _ (sym (c.in-None.ensures ∙ ap (λ z. slice_get z c.args.way.part.now.id.0) c.types.ensures.types))

pub returns-in_ok-note_examined-in-Some : goal.returns-in_ok-note_examined-in-Some
returns-in_ok-note_examined-in-Some c = both_parts c.args.is_read c.args.opens _ _ _ _ _ (Some c.in-Some.ty.now) _ _ _ (c.in-Some.ensures ∙ ap (λ z. slice_get z c.args.way.part.now.id.0) c.types.ensures.types)
    c.in_ok-note_typed-in-Some.ensures c.in_ok-note_examined-in-Some.ensures.listed c.in_ok-note_examined-in-Some.ensures.complete

use Rattle.std.proofs.Common.{inl, inr, refl, ◌∙◌}
use Rattle.rasn_dynamic.proofs.Listed.{wanted_all}
use Rattle.rasn_dynamic.proofs.Placed.{all_parts}
use Rattle.rasn_dynamic.proofs.message.parts_of.Goals as goal

pub returns-in-Ok-clause-parts : goal.returns-in-Ok-clause-parts
returns-in-Ok-clause-parts c =
    let w = c.in-Ok.ensures.parts in
    all_parts c.args.schema.now.types.items c.args.rule c.args.id.0 c.args.input.now c.in-Ok.found.rest.now w.0 _ w.1 (w.2 ∙ wanted_all _ w.0 c.new_list-spans.ensures.all) refl refl c.empty_path.ensures

pub returns-in-Err-clause-located : goal.returns-in-Err-clause-located
returns-in-Err-clause-located c = elim c.in-Err.ensures.refused [
  | inl m ↦ inl m
  | inr x ↦ inr x.0
]

pub returns-in-Err-clause-exact : goal.returns-in-Err-clause-exact
returns-in-Err-clause-exact c = elim c.in-Err.ensures.refused [
  | inl m ↦ inl m
  | inr x ↦ inr x.1
]

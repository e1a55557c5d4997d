use Rattle.rasn_schema.specs.Fitting.{Fits, ComponentsFit}
use Rattle.rasn_dynamic.specs.Unfit.{IsComponent}
use Rattle.std.proofs.Common.{subst}
use Rattle.rasn_dynamic.proofs.UnfitParts.{choice_part, list_part}
use Rattle.rasn_schema.specs.Fitting.{FitsBy}
use Rattle.rasn_dynamic.proofs.unfit.first_unfit_part.Goals as goal

pub returns-in-Choice : goal.returns-in-Choice
returns-in-Choice c = rw c.in-Choice.is (choice_part (Fits c.args.types.now c.args.below) c.in-Choice.alternatives.items _ _ (subst (λ ty. FitsBy (Fits c.args.types.now c.args.below) ty c.args.value.now → ⊥) c.in-Choice.is c.requires.unfit) (rw (← c.deref.ensures.value) c.chosen_part.ensures))

pub returns-in_ok-items_of-in-Sequence : goal.returns-in_ok-items_of-in-Sequence
returns-in_ok-items_of-in-Sequence c = rw c.in-Sequence.is (list_part (λ vs. ComponentsFit (λ j w. Unit {0}) c.in-Sequence.components.items vs) (λ p. IsComponent c.in-Sequence.components.items p.index p.type_id.0 p.value.now) (λ p. Fits c.args.types.now c.args.below p.type_id.0 p.value.now → ⊥) _ _ _ c.in_ok-items_of-in-Sequence.ensures (rw (← c.deref-in-Sequence.ensures.value) c.first_unfit_component.ensures))

pub returns-in_ok-items_of-in-Set : goal.returns-in_ok-items_of-in-Set
returns-in_ok-items_of-in-Set c = rw c.in-Set.is (list_part (λ vs. ComponentsFit (λ j w. Unit {0}) c.in-Set.components.items vs) (λ p. IsComponent c.in-Set.components.items p.index p.type_id.0 p.value.now) (λ p. Fits c.args.types.now c.args.below p.type_id.0 p.value.now → ⊥) _ _ _ c.in_ok-items_of-in-Set.ensures (rw (← c.deref-in-Set.ensures.value) c.first_unfit_component-in-Set.ensures))

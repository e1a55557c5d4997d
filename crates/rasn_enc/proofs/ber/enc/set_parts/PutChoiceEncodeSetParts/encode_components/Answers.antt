use Rattle.rasn_enc.specs.SortedSet.{HasLeast}
use Rattle.rasn_enc.proofs.OwnTypes.SortedSet.{held_alone, fails_alone, choice_errors_alone}
use Rattle.rasn_enc.proofs.ber.enc.set_parts.PutChoiceEncodeSetParts.encode_components.Goals as goal

pub returns-clause-ok : goal.returns-clause-ok
returns-clause-ok g c = held_alone _ _ _ (HasLeast c.least_tag.result) _ _ _ _ c.least_tag.ensures _ c.with_choice.ensures.ok

pub returns-clause-refused : goal.returns-clause-refused
returns-clause-refused g c = fails_alone _ _ _ (HasLeast c.least_tag.result) _ _ _ _ c.least_tag.ensures _ c.with_choice.ensures.refused

pub returns-clause-errors : goal.returns-clause-errors
returns-clause-errors g c = choice_errors_alone _ _ _ (HasLeast c.least_tag.result) _ _ _ c.least_tag.ensures _ c.with_choice.ensures.errors

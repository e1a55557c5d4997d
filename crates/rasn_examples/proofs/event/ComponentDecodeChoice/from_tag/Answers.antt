use Rattle.std.proofs.Common.{rules, refl, ap, ◌∙◌}
use Rattle.rasn_de.proofs.Leaves.Returns.{residual}
use Rattle.rasn_de.proofs.OwnTypes.Parts.{refused}
use Rattle.rasn_de.proofs.OwnTypes.Alternatives.{alternative_got, alternative_refused, no_alternative}
use Rattle.rasn_de.proofs.OwnTypes.Tags.{only, nowhere, tag_is}
use Rattle.rasn_examples.specs.Event.{context, event_parts, level_tree, component_tree, no_time, no_level, not_confirmed, no_component}
use Rattle.rasn_examples.proofs.EventComponents.{time_alone}
use Rattle.rasn_examples.proofs.event.ComponentDecodeChoice.from_tag.Goals as goal

pub returns-in_err-time-clause-reads : goal.returns-in_err-time-clause-reads
returns-in_err-time-clause-reads c = refused component_tree _ _ c.from_residual.ensures.1
    (alternative_refused event_parts 0 _ _ c.args.tag c.requires (time_alone c.args.tag (search rules)) _ c.in_err-time.ensures.reads)

pub returns-then-is_time-clause-reads : goal.returns-then-is_time-clause-reads
returns-then-is_time-clause-reads c = alternative_got event_parts 0 _ _ c.args.tag c.requires (time_alone c.args.tag (search rules)) c.in_ok-time.ensures.reads

pub returns-in_err-level-clause-reads : goal.returns-in_err-level-clause-reads
returns-in_err-level-clause-reads c = refused component_tree _ _ c.from_residual-in_err-level.ensures.1
    (alternative_refused event_parts 1 _ _ c.args.tag c.requires (only event_parts 1 (context 0) refl refl (tag_is _ _ c.if-eq.ensures)) _ (c.in_err-level.ensures.reads (level_tree 7) (λ v h. ap level_tree h)))

pub returns-then-eq-clause-reads : goal.returns-then-eq-clause-reads
returns-then-eq-clause-reads c = alternative_got event_parts 1 _ _ c.args.tag c.requires (only event_parts 1 (context 0) refl refl (tag_is _ _ c.if-eq.ensures)) (c.in_ok-level.ensures.reads (level_tree 7) (λ v h. ap level_tree h))

pub returns-in_err-confirmed-clause-reads : goal.returns-in_err-confirmed-clause-reads
returns-in_err-confirmed-clause-reads c = refused component_tree _ _ c.from_residual-in_err-confirmed.ensures.1
    (alternative_refused event_parts 2 _ _ c.args.tag c.requires (only event_parts 2 (context 1) refl refl (search rules)) _ c.in_err-confirmed.ensures.reads)

pub returns-then-eq-2-clause-reads : goal.returns-then-eq-2-clause-reads
returns-then-eq-2-clause-reads c = alternative_got event_parts 2 _ _ c.args.tag c.requires (only event_parts 2 (context 1) refl refl (search rules)) c.in_ok-confirmed.ensures.reads

pub returns-clause-reads : goal.returns-clause-reads
returns-clause-reads c = no_alternative event_parts c.args.tag c.requires (nowhere event_parts _ (search rules, (search rules, (search rules, tt)))) _

pub returns-clause-rules : goal.returns-clause-rules
returns-clause-rules c = c.no_valid_choice.ensures.0 ∙ c.codec.ensures

pub returns-in_err-time-clause-errors : goal.returns-in_err-time-clause-errors
returns-in_err-time-clause-errors c = rw (residual _ c.from_residual.ensures.1) (c.args.tag, c.requires, no_time (search rules) c.in_err-time.ensures.errors)

pub returns-in_err-level-clause-errors : goal.returns-in_err-level-clause-errors
returns-in_err-level-clause-errors c = rw (residual _ c.from_residual-in_err-level.ensures.1) (c.args.tag, c.requires, no_level (tag_is _ _ c.if-eq.ensures) c.in_err-level.ensures.exact)

pub returns-in_err-confirmed-clause-errors : goal.returns-in_err-confirmed-clause-errors
returns-in_err-confirmed-clause-errors c = rw (residual _ c.from_residual-in_err-confirmed.ensures.1) (c.args.tag, c.requires, not_confirmed (search rules) c.in_err-confirmed.ensures.errors)

pub returns-clause-errors : goal.returns-clause-errors
returns-clause-errors c = (c.args.tag, c.requires, no_component (nowhere event_parts _ (search rules, (search rules, (search rules, tt)))) (rw c.codec.ensures at c.no_valid_choice.ensures) refl)

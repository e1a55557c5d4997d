use Rattle.std.proofs.Common.{rules, refl, ap, ◌∙◌}
use Rattle.rasn_types.specs.Tags.{in_universal}
use Rattle.rasn_de.proofs.OwnTypes.Parts.{refused}
use Rattle.rasn_de.proofs.OwnTypes.Alternatives.{alternative_got, alternative_refused, no_alternative}
use Rattle.rasn_de.proofs.OwnTypes.Tags.{only, nowhere, tag_is}
use Rattle.rasn_tests.specs.Signal.{mark_tag, signal_parts, level_tree}
use Rattle.rasn_tests.proofs.types.signal_component.ComponentDecodeChoice.from_tag.Goals as goal

pub returns-in_err-truth-clause-reads : goal.returns-in_err-truth-clause-reads
returns-in_err-truth-clause-reads c = refused _ _ _ c.from_residual.ensures.1
    (alternative_refused signal_parts 0 _ _ c.args.tag c.requires (only signal_parts 0 (in_universal 1) refl refl (tag_is _ _ c.if-eq.ensures)) _ c.in_err-truth.ensures.reads)

pub returns-then-eq-clause-reads : goal.returns-then-eq-clause-reads
returns-then-eq-clause-reads c = alternative_got signal_parts 0 _ _ c.args.tag c.requires (only signal_parts 0 (in_universal 1) refl refl (tag_is _ _ c.if-eq.ensures)) c.in_ok-truth.ensures.reads

pub returns-in_err-level-clause-reads : goal.returns-in_err-level-clause-reads
returns-in_err-level-clause-reads c = refused _ _ _ c.from_residual-in_err-level.ensures.1
    (alternative_refused signal_parts 1 _ _ c.args.tag c.requires (only signal_parts 1 (in_universal 2) refl refl (tag_is _ _ c.if-eq-2.ensures)) _ (c.in_err-level.ensures.reads (level_tree 7) (λ v h. ap level_tree h)))

pub returns-then-eq-2-clause-reads : goal.returns-then-eq-2-clause-reads
returns-then-eq-2-clause-reads c = alternative_got signal_parts 1 _ _ c.args.tag c.requires (only signal_parts 1 (in_universal 2) refl refl (tag_is _ _ c.if-eq-2.ensures)) (c.in_ok-level.ensures.reads (level_tree 7) (λ v h. ap level_tree h))

pub returns-in_err-mark-clause-reads : goal.returns-in_err-mark-clause-reads
returns-in_err-mark-clause-reads c = refused _ _ _ c.from_residual-in_err-mark.ensures.1
    (alternative_refused signal_parts 2 _ _ c.args.tag c.requires (only signal_parts 2 mark_tag refl refl (tag_is _ _ c.if-eq-3.ensures)) _ c.in_err-mark.ensures.reads)

pub returns-then-eq-3-clause-reads : goal.returns-then-eq-3-clause-reads
returns-then-eq-3-clause-reads c = alternative_got signal_parts 2 _ _ c.args.tag c.requires (only signal_parts 2 mark_tag refl refl (tag_is _ _ c.if-eq-3.ensures)) c.in_ok-mark.ensures.reads

pub returns-clause-reads : goal.returns-clause-reads
returns-clause-reads c = no_alternative signal_parts c.args.tag c.requires (nowhere signal_parts _ (search rules, (search rules, (search rules, tt)))) _

pub returns-clause-rules : goal.returns-clause-rules
returns-clause-rules c = c.no_valid_choice.ensures.0 ∙ c.codec.ensures

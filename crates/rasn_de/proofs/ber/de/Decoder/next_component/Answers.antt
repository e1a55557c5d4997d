use Rattle.std.proofs.Common.{rules, Err, inl, refl, ap, length, ◌∙◌}
use Rattle.rasn_types.specs.Shapes.{Tree, choice_by}
use Rattle.rasn_de.specs.State.{State}
use Rattle.rasn_de.proofs.Leaves.Returns.{residual}
use Rattle.rasn_de.proofs.Constructed.Choice.{choice_by_decodes}
use Rattle.rasn_de.proofs.OwnTypes.SetPartTypes.{next_refused, named_refused, next_read, next_takes_nothing, named_takes_nothing, placed_rules}
use Rattle.rasn_de.proofs.Leaves.Rules.{codec_is, peek_rules}
use Rattle.rasn_de.proofs.ber.de.Decoder.next_component.Goals as goal

pub returns-in_err-tag-clause-exact : goal.returns-in_err-tag-clause-exact
returns-in_err-tag-clause-exact g c =
    let extensible = g.P.DecodeSetParts.extensible in
    let ps = g.P.DecodeSetParts.parts in
    rw (residual _ c.from_residual.ensures.1) (inl (choice_by_decodes extensible (choice_by extensible ps) ps refl (λ (t : Tree). t) c.args.self.now (Err c.in_err-tag.field-0.0) c.args.self.now (inl (c.in_err-tag.ensures.exact, refl))))

pub returns-in_err-twice-clause-exact : goal.returns-in_err-twice-clause-exact
returns-in_err-twice-clause-exact g c =
    rw (residual _ c.from_residual-in_err-twice.ensures.1) (next_refused g.P.DecodeSetParts.extensible g.P.DecodeSetParts.parts _ _ _ c.in_err-twice.ensures.reads)

pub returns-then-self-left-clause-exact : goal.returns-then-self-left-clause-exact
returns-then-self-left-clause-exact g c =
    next_takes_nothing g.P.DecodeSetParts.extensible g.P.DecodeSetParts.parts _ (g.P.DecodeSetParts.held c.args.slots.now) (g.P.DecodeSetParts.held c.decode_component.new.slots) (g.P.DecodeSetParts.others c.args.slots.now) (g.P.DecodeSetParts.others c.decode_component.new.slots) _ _
    c.in_ok-twice.twice c.in_ok-twice.ensures.reads (g.P.DecodeSetParts.held c.decode_component.new.slots) (g.P.DecodeSetParts.others c.decode_component.new.slots) (search rules) (length c.self.inside.rest.now)
    (ap (λ (s : State). length s.rest) c.self.view_is) _ c.error.ensures

pub returns-clause-exact : goal.returns-clause-exact
returns-clause-exact g c = next_read g.P.DecodeSetParts.extensible g.P.DecodeSetParts.parts _ _ (g.P.DecodeSetParts.held c.decode_component.new.slots) _ (g.P.DecodeSetParts.others c.decode_component.new.slots) _ _ c.in_ok-twice.twice c.in_ok-twice.ensures.reads (search rules)

pub returns-in_err-tag-clause-rules : goal.returns-in_err-tag-clause-rules
returns-in_err-tag-clause-rules g c = rw (residual _ c.from_residual.ensures.1) (peek_rules c.args.self.now _ c.in_err-tag.ensures.exact)

pub returns-then-self-left-clause-rules : goal.returns-then-self-left-clause-rules
returns-then-self-left-clause-rules g c = (codec_is c.error.ensures) ∙ (placed_rules g.P.DecodeSetParts.extensible g.P.DecodeSetParts.parts _ _ (g.P.DecodeSetParts.held c.decode_component.new.slots) _ (g.P.DecodeSetParts.others c.decode_component.new.slots) _ _ c.in_ok-twice.twice c.in_ok-twice.ensures.reads)

pub returns-in_err-tag-clause-fails : goal.returns-in_err-tag-clause-fails
returns-in_err-tag-clause-fails g c =
    let extensible = g.P.DecodeSetParts.extensible in
    let ps = g.P.DecodeSetParts.parts in
    rw (residual _ c.from_residual.ensures.1) (inl (choice_by_decodes extensible (choice_by extensible ps) ps refl (λ (t : Tree). t) c.args.self.now (Err c.in_err-tag.field-0.0) c.args.self.now (inl (c.in_err-tag.ensures.exact, refl)), (inl (c.in_err-tag.ensures.exact, refl), inl (c.in_err-tag.ensures.exact, refl))))

pub returns-in_err-twice-clause-fails : goal.returns-in_err-twice-clause-fails
returns-in_err-twice-clause-fails g c =
    rw (residual _ c.from_residual-in_err-twice.ensures.1) (named_refused g.P.DecodeSetParts.extensible g.P.DecodeSetParts.parts _ g.P.DecodeSetParts.errors _ _ _ _ c.in_ok-tag.ensures.next c.in_err-twice.ensures.reads c.in_err-twice.ensures.fails c.in_err-twice.ensures.errors)

pub returns-then-self-left-clause-fails : goal.returns-then-self-left-clause-fails
returns-then-self-left-clause-fails g c =
    named_takes_nothing g.P.DecodeSetParts.extensible g.P.DecodeSetParts.parts _ (g.P.DecodeSetParts.held c.args.slots.now) (g.P.DecodeSetParts.held c.decode_component.new.slots) (g.P.DecodeSetParts.others c.args.slots.now) (g.P.DecodeSetParts.others c.decode_component.new.slots) _ _ c.args.name.now g.P.DecodeSetParts.errors
    c.in_ok-twice.twice c.in_ok-twice.ensures.reads (search rules) (length c.self.inside.rest.now)
    (ap (λ (s : State). length s.rest) c.self.view_is) _ c.error.ensures

pub returns-clause-kept : goal.returns-clause-kept
returns-clause-kept g c = λ starts m k. c.in_ok-twice.ensures.kept starts m k (search rules)

use Rattle.std.proofs.Common.{inl, inr, subst, ◌∙◌}
use Rattle.rasn_types.specs.declared.types.tag.Tag.{Tag}
use Rattle.rasn_types.specs.Framing.{NextTag}
use Rattle.rasn_types.specs.Tags.{in_universal, form}
use Rattle.rasn_de.specs.State.{State}
use Rattle.rasn_lint.specs.Header.{IsLengthFaultAfter}
use Rattle.rasn_lint.proofs.Frames.{tag_found}
use Rattle.rasn_lint.proofs.header.length_fault.Goals as goal

pub returns-in_default : goal.returns-in_default
returns-in_default c = inr (
  subst (λ (s : State). (t : Tag) → NextTag (form s.rule) s.rest t → ⊥) c.decoder_of.ensures c.in_default.ensures.next,
  subst (λ z. IsLengthFaultAfter (in_universal 16) z c.length_fault_after.result) (c.deref.ensures.value ∙ c.in_ok-copy.ensures) c.length_fault_after.ensures,
)

pub returns : goal.returns
returns c = inl (c.in-Ok.tag, tag_found c.args.octets.now c.decoder_of.result c.decoder_of.ensures c.in-Ok.tag c.in-Ok.ensures.next, c.length_fault_after-2.ensures)

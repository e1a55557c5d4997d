use Rattle.std.proofs.Common.{inr, subst}
use Rattle.rasn_types.specs.declared.types.tag.Tag.{Tag}
use Rattle.rasn_types.specs.Framing.{Begins}
use Rattle.rasn_enc.proofs.ber.enc.set_parts.unknown_component.Goals as goal

pub returns-in_default-clause-refused : goal.returns-in_default-clause-refused
returns-in_default-clause-refused c = inr (c.any_in_set.ensures, subst (λ l. (tag : Tag) → Begins l tag → ⊥) c.as_bytes.ensures c.in_default.ensures)

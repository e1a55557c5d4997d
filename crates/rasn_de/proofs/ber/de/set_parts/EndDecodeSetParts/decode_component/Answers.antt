use Rattle.std.proofs.Common.{◌∙◌, refl, inl}
use Rattle.rasn_de.proofs.OwnTypes.AlternativeTypes.{none_read}
use Rattle.rasn_de.proofs.ber.de.set_parts.EndDecodeSetParts.decode_component.Goals as goal

pub returns-clause-reads : goal.returns-clause-reads
returns-clause-reads c = record { from = λ j. none_read j _ }

pub returns-clause-rules : goal.returns-clause-rules
returns-clause-rules c = c.no_valid_choice.ensures.0 ∙ c.codec.ensures

pub returns-clause-fails : goal.returns-clause-fails
returns-clause-fails c = inl (rw (← c.codec.ensures) c.no_valid_choice.ensures, refl)

use Rattle.std.proofs.Common.{sym, subst}
use Rattle.rasn_schema.specs.declared.types.«Type».TheVariants.{Sequence, Set}
use Rattle.rasn_schema.specs.Statics.{IsMade}
use Rattle.rasn_schema.proofs.Copied.{sequence_made, set_made}
use Rattle.rasn_schema.proofs.constants.made.listed_type_of.Goals as goal

pub returns-in_ok-components_of-in-Sequence : goal.returns-in_ok-components_of-in-Sequence
returns-in_ok-components_of-in-Sequence c =
    let made = c.in_ok-components_of-in-Sequence.field-0 in
    subst (λ s. IsMade s (Sequence c.in-Sequence.tag made)) (sym c.in-Sequence.is) (sequence_made c.in-Sequence.tag made c.in-Sequence.components c.in_ok-components_of-in-Sequence.ensures)

pub returns-in_ok-components_of-in-Set : goal.returns-in_ok-components_of-in-Set
returns-in_ok-components_of-in-Set c =
    let made = c.in_ok-components_of-in-Set.field-0 in
    let name = c.in_ok-from_str-in-Set.field-0 in
    subst (λ s. IsMade s (Set name c.in-Set.tag made)) (sym c.in-Set.is) (set_made c.in-Set.tag name c.in-Set.name made c.in-Set.components c.in_ok-components_of-in-Set.ensures)

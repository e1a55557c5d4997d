use Rattle.std.proofs.Common.{sym, subst}
use Rattle.rasn_schema.specs.declared.types.«Type».TheVariants.{Enumerated, Choice}
use Rattle.rasn_schema.specs.Statics.{IsMade}
use Rattle.rasn_schema.proofs.Copied.{enumerated_made, choice_made}
use Rattle.rasn_schema.proofs.constants.made.type_of.Goals as goal

pub returns-in_ok-numbers_of-in-Enumerated : goal.returns-in_ok-numbers_of-in-Enumerated
returns-in_ok-numbers_of-in-Enumerated c =
    let made = c.in_ok-numbers_of-in-Enumerated.field-0 in
    subst (λ s. IsMade s (Enumerated c.in-Enumerated.tag made)) (sym c.in-Enumerated.is) (enumerated_made c.in-Enumerated.tag made c.in-Enumerated.numbers c.in_ok-numbers_of-in-Enumerated.ensures)

pub returns-in_ok-alternatives_of-in-Choice : goal.returns-in_ok-alternatives_of-in-Choice
returns-in_ok-alternatives_of-in-Choice c =
    let made = c.in_ok-alternatives_of-in-Choice.field-0 in
    let name = c.in_ok-from_str-in-Choice.field-0 in
    subst (λ s. IsMade s (Choice name made)) (sym c.in-Choice.is) (choice_made name c.in-Choice.name made c.in-Choice.alternatives c.in_ok-alternatives_of-in-Choice.ensures)

use Rattle.std.proofs.Common.{subst}
use Rattle.rasn.specs.Headline.{Identifies}
use Rattle.rasn_schema_octets.specs.Shapes.{octets_shape}
use Rattle.rasn_schema_octets.proofs.Whole.{octets_lawful}
use Rattle.rasn_schema_octets.proofs.entry.write.Goals as goal

pub returns-in-Ok-clause-identifies : goal.returns-in-Ok-clause-identifies
returns-in-Ok-clause-identifies c = subst (λ t. Identifies octets_shape t c.in-Ok.octets.items) c.in_ok-form.ensures (c.in-Ok.ensures.canonical octets_lawful)

use Rattle.rasn.proofs.OneRefusal.Alternatives.{chosen_apart}
use Rattle.rasn.proofs.OneRefusal.SettledAlternatives.{chosen_settles}
use Rattle.rasn.proofs.refusal_laws.chosen.Goals as goal

pub returns-clause-apart : goal.returns-clause-apart
returns-clause-apart g c = chosen_apart g.D.DecodeChoice.extensible g.D.AsnType.shape g.D.DecodeChoice.alternatives g.met.D.DecodeChoice.chooses g.D.AsnType.tree g.D.DecodeChoice.errors

pub returns-clause-settled : goal.returns-clause-settled
returns-clause-settled g c = chosen_settles g.D.DecodeChoice.extensible g.D.AsnType.shape g.D.DecodeChoice.alternatives g.met.D.DecodeChoice.chooses g.D.AsnType.tree g.D.DecodeChoice.errors

use Rattle.std.proofs.Common.{true, false}
use Rattle.rasn_types.specs.Shapes.{required}
use Rattle.rasn_types.specs.Shapes.Parts.{none}
use Rattle.rasn.proofs.OneRefusal.Alternatives.{no_alternative_apart, alternative_apart}
use Rattle.rasn.proofs.refusal_laws.alternatives.Goals as goal

pub returns-clause-unknown : goal.returns-clause-unknown
returns-clause-unknown g c = λ name. no_alternative_apart true name _

pub returns-clause-last : goal.returns-clause-last
returns-clause-last g c = λ is once name.
    alternative_apart false required g.A.AsnType.shape none name g.A.AsnType.TAG (g.A.Decode.errors g.A.AsnType.TAG g.A.AsnType.CONSTRAINTS) _ is once (no_alternative_apart false name _)

pub returns-clause-first : goal.returns-clause-first
returns-clause-first g c = λ is once name rest.
    alternative_apart g.R.DecodeAlternatives.extensible required g.A.AsnType.shape g.R.DecodeAlternatives.parts name g.A.AsnType.TAG (g.A.Decode.errors g.A.AsnType.TAG g.A.AsnType.CONSTRAINTS) g.R.DecodeAlternatives.errors is once rest

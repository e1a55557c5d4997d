use Rattle.std.proofs.Common.{true, false}
use Rattle.rasn_types.specs.Shapes.{required, optional}
use Rattle.rasn.proofs.OneRefusal.Alternatives.{no_alternative_apart, alternative_apart}
use Rattle.rasn.proofs.refusal_laws.set_parts.Goals as goal

pub returns-clause-none : goal.returns-clause-none
returns-clause-none g c = λ name. no_alternative_apart false name _

pub returns-clause-unknown : goal.returns-clause-unknown
returns-clause-unknown g c = λ name. no_alternative_apart true name _

pub returns-clause-required : goal.returns-clause-required
returns-clause-required g c = λ is once name rest.
    alternative_apart g.R.DecodeSetParts.extensible required g.A.AsnType.shape g.R.DecodeSetParts.parts name g.A.AsnType.TAG (g.A.Decode.errors g.A.AsnType.TAG g.A.AsnType.CONSTRAINTS) g.R.DecodeSetParts.errors is once rest

pub returns-clause-optional : goal.returns-clause-optional
returns-clause-optional g c = λ is once name rest.
    alternative_apart g.R.DecodeSetParts.extensible optional g.A.AsnType.shape g.R.DecodeSetParts.parts name g.A.AsnType.TAG (g.A.Decode.errors g.A.AsnType.TAG g.A.AsnType.CONSTRAINTS) g.R.DecodeSetParts.errors is once rest

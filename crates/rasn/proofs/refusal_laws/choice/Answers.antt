use Rattle.rasn.proofs.OneRefusal.Alternatives.{choice_apart}
use Rattle.rasn.proofs.refusal_laws.choice.Goals as goal

pub returns : goal.returns
returns g c = λ tags name once. choice_apart g.P.DecodeAlternatives.extensible g.P.DecodeAlternatives.parts _ name g.P.DecodeAlternatives.errors tags once

use Rattle.rasn.proofs.OneRefusal.SettledAlternatives.{choice_settles}
use Rattle.rasn.proofs.refusal_laws.settled_choice.Goals as goal

pub returns : goal.returns
returns g c = λ name all. choice_settles g.P.DecodeAlternatives.extensible g.P.DecodeAlternatives.parts g.P.DecodeAlternatives.number g.P.DecodeAlternatives.inner name g.P.DecodeAlternatives.errors all

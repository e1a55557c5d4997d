use Rattle.std.proofs.Common.{refl}
use Rattle.rasn.proofs.OneRefusal.Settled.{optional_choice_settles}
use Rattle.rasn.proofs.refusal_laws.settled_optional_choice.Goals as goal

pub returns : goal.returns
returns g c = λ all rest.
    optional_choice_settles g.A.AsnType.shape g.R.DecodeParts.parts (g.A.Decode.errors g.A.AsnType.TAG g.A.AsnType.CONSTRAINTS) g.R.DecodeParts.errors g.A.AsnType.tree g.R.DecodeParts.tree rest _ (λ x r. (x, r)) (λ x r. refl) all

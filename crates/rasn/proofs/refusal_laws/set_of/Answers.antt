use Rattle.rasn.proofs.OneRefusal.Lists.{set_of_apart}
use Rattle.rasn.proofs.refusal_laws.set_of.Goals as goal

pub returns : goal.returns
returns g c = λ once tag bounds. set_of_apart g.T.AsnType.shape g.T.AsnType.tree (g.T.Decode.errors g.T.AsnType.TAG g.T.AsnType.CONSTRAINTS) once tag bounds

use Rattle.rasn.proofs.OneRefusal.Inside.{prefix_apart}
use Rattle.rasn.proofs.refusal_laws.explicit.Goals as goal

pub returns : goal.returns
returns g c = λ once tag bounds. prefix_apart g.T.AsnType.shape g.T.AsnType.tree (g.T.Decode.errors g.T.AsnType.TAG g.T.AsnType.CONSTRAINTS) once tag

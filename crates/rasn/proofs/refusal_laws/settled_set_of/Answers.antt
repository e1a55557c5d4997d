use Rattle.rasn.proofs.OneRefusal.SettledLists.{set_of_settles}
use Rattle.rasn.proofs.refusal_laws.settled_set_of.Goals as goal

pub returns : goal.returns
returns g c = λ all tag bounds. set_of_settles g.T.AsnType.shape g.T.AsnType.tree (g.T.Decode.errors g.T.AsnType.TAG g.T.AsnType.CONSTRAINTS) all tag bounds

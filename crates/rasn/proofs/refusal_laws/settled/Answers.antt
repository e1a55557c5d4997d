use Rattle.rasn_types.specs.Shapes.{tagged_as}
use Rattle.rasn.proofs.OneRefusal.Settled.{prefix_settles, option_settles}
use Rattle.rasn.proofs.OneRefusal.Calls.{settled_none}
use Rattle.rasn.proofs.OneRefusal.SettledLists.{sequence_of_settles}
use Rattle.rasn.proofs.refusal_laws.settled.Goals as goal

pub returns-clause-grammar : goal.returns-clause-grammar
returns-clause-grammar g c = λ tag bounds. settled_none (tagged_as tag bounds g.T.AsnType.shape) g.T.AsnType.tree (g.T.Decode.errors tag bounds)

pub returns-clause-explicit : goal.returns-clause-explicit
returns-clause-explicit g c = λ all tag bounds. prefix_settles g.T.AsnType.shape g.T.AsnType.tree (g.T.Decode.errors g.T.AsnType.TAG g.T.AsnType.CONSTRAINTS) all tag

pub returns-clause-optional : goal.returns-clause-optional
returns-clause-optional g c = λ tag bounds all. option_settles (tagged_as tag bounds g.T.AsnType.shape) g.T.AsnType.tree (g.T.Decode.errors tag bounds) all tag

pub returns-clause-sequence_of : goal.returns-clause-sequence_of
returns-clause-sequence_of g c = λ all tag bounds. sequence_of_settles g.T.AsnType.shape g.T.AsnType.tree (g.T.Decode.errors g.T.AsnType.TAG g.T.AsnType.CONSTRAINTS) all tag bounds

use Rattle.rasn.proofs.OneRefusal.Settled.{sequence_settles}
use Rattle.rasn.proofs.refusal_laws.settled_sequence.Goals as goal

pub returns : goal.returns
returns g c = sequence_settles g.P.DecodeParts.parts g.P.DecodeParts.tree g.P.DecodeParts.errors

use Rattle.rasn.proofs.OneRefusal.Parts.{sequence_apart}
use Rattle.rasn.proofs.refusal_laws.sequence.Goals as goal

pub returns : goal.returns
returns g c = λ plain once tag. sequence_apart g.P.DecodeParts.parts g.P.DecodeParts.tree g.P.DecodeParts.errors once plain tag

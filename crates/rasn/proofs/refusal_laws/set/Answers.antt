use Rattle.rasn.proofs.OneRefusal.Sets.{set_apart}
use Rattle.rasn.proofs.refusal_laws.set.Goals as goal

pub returns : goal.returns
returns g c = λ name once names tag. set_apart g.P.DecodeSetParts.extensible g.P.DecodeSetParts.parts name g.P.DecodeSetParts.errors once g.P.DecodeSetParts.tree names tag

use Rattle.rasn.proofs.OneRefusal.SettledSets.{set_settles}
use Rattle.rasn.proofs.refusal_laws.settled_set.Goals as goal

pub returns : goal.returns
returns g c = λ name all names are_names tag. set_settles g.P.DecodeSetParts.extensible g.P.DecodeSetParts.parts g.P.DecodeSetParts.tree g.P.DecodeSetParts.held g.P.DecodeSetParts.others name g.P.DecodeSetParts.errors all names are_names tag

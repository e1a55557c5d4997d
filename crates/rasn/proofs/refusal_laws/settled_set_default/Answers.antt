use Rattle.std.proofs.Common.{refl, ◌&&◌}
use Rattle.rasn_de.specs.PartTypes.{is_looked_for}
use Rattle.rasn_de.proofs.OwnTypes.PartTypes.{first_agrees}
use Rattle.rasn_de.proofs.OwnTypes.AlternativeTypes.{first_has, others_have_not, others_differ}
use Rattle.rasn.proofs.OneRefusal.SettledSets.{default_slots}
use Rattle.rasn.proofs.refusal_laws.settled_set_default.Goals as goal

pub returns : goal.returns
returns g c = λ differ d there all name rest.
    let s = g.V.Value.AsnType.shape in
    let tag = g.V.Value.AsnType.TAG in
    let ps = g.R.DecodeSetParts.parts in
    let others = is_looked_for s tag && g.R.DecodeSetParts.tags_differ in
    default_slots g.R.DecodeSetParts.extensible s ps name tag g.R.DecodeSetParts.errors (first_has s tag ps others differ) (others_have_not s tag ps others differ) g.V.Value.AsnType.tree g.R.DecodeSetParts.tree
    g.R.DecodeSetParts.held g.R.DecodeSetParts.others rest _ (g.V.Value.Decode.errors tag g.V.Value.AsnType.CONSTRAINTS) all g.V.DefaultValue.default_tree d there (first_agrees s tag g.R.DecodeSetParts.tags_differ (others_differ s tag ps others differ)) (λ v r. (v, r)) (λ v r. refl)

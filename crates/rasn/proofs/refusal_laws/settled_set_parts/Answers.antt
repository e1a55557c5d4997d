use Rattle.std.proofs.Common.{refl}
use Rattle.rasn_de.proofs.OwnTypes.AlternativeTypes.{first_has, others_have_not}
use Rattle.rasn.proofs.OneRefusal.SettledSets.{no_slots, unknown_slots, required_slots, optional_slots}
use Rattle.rasn.proofs.refusal_laws.settled_set_parts.Goals as goal

pub returns-clause-none : goal.returns-clause-none
returns-clause-none g c = λ name is. no_slots (record {}) (record {}) name is

pub returns-clause-unknown : goal.returns-clause-unknown
returns-clause-unknown g c = unknown_slots

pub returns-clause-required : goal.returns-clause-required
returns-clause-required g c = λ differ all name rest.
    let s = g.A.AsnType.shape in
    let tag = g.A.AsnType.TAG in
    let ps = g.R.DecodeSetParts.parts in
    required_slots g.R.DecodeSetParts.extensible s ps name tag g.R.DecodeSetParts.errors (first_has s tag ps g.R.DecodeSetParts.tags_differ differ) (others_have_not s tag ps g.R.DecodeSetParts.tags_differ differ) g.A.AsnType.tree g.R.DecodeSetParts.tree
    g.R.DecodeSetParts.held g.R.DecodeSetParts.others rest _ (g.A.Decode.errors tag g.A.AsnType.CONSTRAINTS) all (λ v r. (v, r)) (λ v r. refl)

pub returns-clause-optional : goal.returns-clause-optional
returns-clause-optional g c = λ differ all name rest.
    let s = g.A.AsnType.shape in
    let tag = g.A.AsnType.TAG in
    let ps = g.R.DecodeSetParts.parts in
    optional_slots g.R.DecodeSetParts.extensible s ps name tag g.R.DecodeSetParts.errors (first_has s tag ps g.R.DecodeSetParts.tags_differ differ) (others_have_not s tag ps g.R.DecodeSetParts.tags_differ differ) g.A.AsnType.tree g.R.DecodeSetParts.tree
    g.R.DecodeSetParts.held g.R.DecodeSetParts.others rest _ (g.A.Decode.errors tag g.A.AsnType.CONSTRAINTS) all (λ v r. (v, r)) (λ v r. refl)

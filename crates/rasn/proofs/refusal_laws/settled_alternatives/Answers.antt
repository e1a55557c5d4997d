use Rattle.std.proofs.Common.{refl, true, false}
use Rattle.rasn_types.specs.Shapes.Parts.{none}
use Rattle.rasn_types.specs.declared.types.parts.OneOf.TheVariants.{This, Other}
use Rattle.rasn_de.proofs.OwnTypes.AlternativeTypes.{first_has, others_have_not}
use Rattle.rasn.proofs.OneRefusal.SettledAlternatives.{no_alternative_settles, unknown_settles, alternative_settles}
use Rattle.rasn.proofs.refusal_laws.settled_alternatives.Goals as goal

pub returns-clause-unknown : goal.returns-clause-unknown
returns-clause-unknown g c = unknown_settles

pub returns-clause-last : goal.returns-clause-last
returns-clause-last g c = λ differ all name is.
    let s = g.A.AsnType.shape in
    let tag = g.A.AsnType.TAG in
    alternative_settles {A = g.row.A.Denot} {R = ⊥} false s none name tag (g.A.Decode.errors tag g.A.AsnType.CONSTRAINTS) (λ _ _ _ _. Unit {0}) (first_has s tag none true differ) (others_have_not s tag none true differ)
    g.A.AsnType.tree (λ x. absurd x) (λ x. absurd x) _ _ (λ a. record { 0 = a }) (λ x. absurd x) (λ a. (refl, refl)) (λ x. absurd x) all (no_alternative_settles (λ x. absurd x) (λ x. absurd x) name is)

pub returns-clause-first : goal.returns-clause-first
returns-clause-first g c = λ differ all name rest.
    let s = g.A.AsnType.shape in
    let tag = g.A.AsnType.TAG in
    let ps = g.R.DecodeAlternatives.parts in
    alternative_settles g.R.DecodeAlternatives.extensible s ps name tag (g.A.Decode.errors tag g.A.AsnType.CONSTRAINTS) g.R.DecodeAlternatives.errors (first_has s tag ps g.R.DecodeAlternatives.tags_differ differ) (others_have_not s tag ps g.R.DecodeAlternatives.tags_differ differ)
    g.A.AsnType.tree g.R.DecodeAlternatives.number g.R.DecodeAlternatives.inner _ _ (λ a. This a) (λ r. Other r) (λ a. (refl, refl)) (λ r. (refl, refl)) all rest

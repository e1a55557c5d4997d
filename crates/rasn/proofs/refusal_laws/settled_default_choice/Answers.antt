use Rattle.std.proofs.Common.{refl}
use Rattle.rasn_types.specs.Shapes.{first_tags}
use Rattle.rasn_de.specs.ValueErrors.{DecodesOr}
use Rattle.rasn.proofs.OneRefusal.Inside.{or_exact}
use Rattle.rasn.proofs.OneRefusal.Settled.{default_settles}
use Rattle.rasn.proofs.refusal_laws.settled_default_choice.Goals as goal

pub returns : goal.returns
returns g c = λ d there all rest.
    let errors = g.V.Value.Decode.errors g.V.Value.AsnType.TAG g.V.Value.AsnType.CONSTRAINTS in
    default_settles (DecodesOr g.V.Value.AsnType.shape g.V.Value.AsnType.tree errors) g.V.Value.AsnType.shape g.V.Value.AsnType.tree (or_exact g.V.Value.AsnType.shape g.V.Value.AsnType.tree errors) all
    g.R.DecodeParts.parts g.R.DecodeParts.errors g.R.DecodeParts.tree rest _ (λ x r. (x, r)) (λ x r. refl) g.V.DefaultValue.default_tree d there first_tags

use Rattle.std.proofs.Common.{refl}
use Rattle.rasn_types.specs.Shapes.{prefix}
use Rattle.rasn_de.specs.Prefix.{DecodesPrefixBy}
use Rattle.rasn.proofs.OneRefusal.Inside.{prefix_exact}
use Rattle.rasn.proofs.OneRefusal.Settled.{prefix_call_settles, own_default_settles}
use Rattle.rasn.proofs.refusal_laws.settled_explicit_default.Goals as goal

pub returns : goal.returns
returns g c = λ is d there all rest.
    let s = g.V.Value.AsnType.shape in
    let errors = g.V.Value.Decode.errors g.V.Value.AsnType.TAG g.V.Value.AsnType.CONSTRAINTS in
    let tag = g.V.Prefix.AsnType.TAG in
    own_default_settles (DecodesPrefixBy s g.V.Value.AsnType.tree errors tag) (prefix tag s) g.V.Value.AsnType.tree (prefix_exact s g.V.Value.AsnType.tree errors tag) (prefix_call_settles s g.V.Value.AsnType.tree errors all tag)
    g.R.DecodeParts.parts g.R.DecodeParts.errors g.R.DecodeParts.tree rest _ (λ x r. (x, r)) (λ x r. refl) g.V.DefaultValue.default_tree d there tag is

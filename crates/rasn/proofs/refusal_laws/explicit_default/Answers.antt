use Rattle.std.specs.Prelude.{◌≡◌, IfOk}
use Rattle.rasn_types.specs.Shapes.{default, prefix}
use Rattle.rasn.proofs.OneRefusal.Optional.{explicit_default_apart}
use Rattle.rasn.proofs.OneRefusal.Parts.{part_apart}
use Rattle.rasn.proofs.refusal_laws.explicit_default.Goals as goal

pub returns : goal.returns
returns g c = λ e once rest.
    part_apart (default g.V.DefaultValue.default_tree) (prefix g.V.Prefix.AsnType.TAG g.V.Value.AsnType.shape) g.R.DecodeParts.parts _ g.R.DecodeParts.errors
    (explicit_default_apart g.V.Value.AsnType.shape g.V.Value.AsnType.tree (g.V.Value.Decode.errors g.V.Value.AsnType.TAG g.V.Value.AsnType.CONSTRAINTS) once
    (λ made. IfOk made (λ v. g.V.Value.AsnType.tree v ≡ g.V.DefaultValue.default_tree)) g.V.DefaultValue.default_tree (λ v q. q) g.V.Prefix.AsnType.TAG e) rest

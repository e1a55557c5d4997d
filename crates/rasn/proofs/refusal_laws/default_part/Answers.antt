use Rattle.std.specs.Prelude.{◌≡◌, IfOk}
use Rattle.rasn_types.specs.Shapes.{default}
use Rattle.rasn.proofs.OneRefusal.Optional.{default_or_apart}
use Rattle.rasn.proofs.OneRefusal.Parts.{part_apart}
use Rattle.rasn.proofs.refusal_laws.default_part.Goals as goal

pub returns : goal.returns
returns g c = λ e once rest.
    part_apart (default g.V.DefaultValue.default_tree) g.V.Value.AsnType.shape g.R.DecodeParts.parts _ g.R.DecodeParts.errors
    (default_or_apart g.V.Value.AsnType.shape g.V.Value.AsnType.tree (g.V.Value.Decode.errors g.V.Value.AsnType.TAG g.V.Value.AsnType.CONSTRAINTS) once
    (λ made. IfOk made (λ v. g.V.Value.AsnType.tree v ≡ g.V.DefaultValue.default_tree)) g.V.DefaultValue.default_tree (λ v q. q) g.V.Value.AsnType.TAG e) rest

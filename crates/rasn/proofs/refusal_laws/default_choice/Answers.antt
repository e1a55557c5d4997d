use Rattle.std.specs.Prelude.{◌≡◌, IfOk}
use Rattle.rasn_types.specs.Shapes.{default_choice as presence}
use Rattle.rasn.proofs.OneRefusal.Optional.{default_choice_apart}
use Rattle.rasn.proofs.OneRefusal.Parts.{part_apart}
use Rattle.rasn.proofs.refusal_laws.default_choice.Goals as goal

pub returns : goal.returns
returns g c = λ once rest.
    part_apart (presence g.V.DefaultValue.default_tree) g.V.Value.AsnType.shape g.R.DecodeParts.parts _ g.R.DecodeParts.errors
    (default_choice_apart g.V.Value.AsnType.shape g.V.Value.AsnType.tree (g.V.Value.Decode.errors g.V.Value.AsnType.TAG g.V.Value.AsnType.CONSTRAINTS) once
    (λ made. IfOk made (λ v. g.V.Value.AsnType.tree v ≡ g.V.DefaultValue.default_tree)) g.V.DefaultValue.default_tree (λ v q. q)) rest

use Rattle.rasn_types.specs.Shapes.{optional_choice as presence}
use Rattle.rasn.proofs.OneRefusal.Optional.{optional_choice_apart}
use Rattle.rasn.proofs.OneRefusal.Parts.{part_apart}
use Rattle.rasn.proofs.refusal_laws.optional_choice.Goals as goal

pub returns : goal.returns
returns g c = λ once rest.
    part_apart presence g.A.AsnType.shape g.R.DecodeParts.parts _ g.R.DecodeParts.errors
    (optional_choice_apart g.A.AsnType.shape g.A.AsnType.tree (g.A.Decode.errors g.A.AsnType.TAG g.A.AsnType.CONSTRAINTS) once) rest

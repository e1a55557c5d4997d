use Rattle.rasn_types.specs.Shapes.{tagged_as}
use Rattle.rasn.proofs.OneRefusal.Optional.{perhaps_apart}
use Rattle.rasn.proofs.refusal_laws.optional.Goals as goal

pub returns : goal.returns
returns g c = λ tag bounds once. perhaps_apart (tagged_as tag bounds g.T.AsnType.shape) g.T.AsnType.tree (g.T.Decode.errors tag bounds) once tag

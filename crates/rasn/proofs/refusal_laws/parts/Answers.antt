use Rattle.rasn_types.specs.Shapes.{required, optional, addition}
use Rattle.rasn.proofs.OneRefusal.Optional.{optional_apart}
use Rattle.rasn.proofs.OneRefusal.Parts.{no_parts_apart, part_apart}
use Rattle.rasn.proofs.refusal_laws.parts.Goals as goal

pub returns-clause-none : goal.returns-clause-none
returns-clause-none g c = no_parts_apart

pub returns-clause-required : goal.returns-clause-required
returns-clause-required g c = λ one rest. part_apart required g.A.AsnType.shape g.R.DecodeParts.parts _ g.R.DecodeParts.errors one rest

pub returns-clause-optional : goal.returns-clause-optional
returns-clause-optional g c = λ e once rest.
    part_apart optional g.A.AsnType.shape g.R.DecodeParts.parts _ g.R.DecodeParts.errors
    (optional_apart g.A.AsnType.shape g.A.AsnType.tree (g.A.Decode.errors g.A.AsnType.TAG g.A.AsnType.CONSTRAINTS) once g.A.AsnType.TAG e) rest

pub returns-clause-addition : goal.returns-clause-addition
returns-clause-addition g c = λ one rest. part_apart addition g.A.AsnType.shape g.R.DecodeParts.parts _ g.R.DecodeParts.errors one rest

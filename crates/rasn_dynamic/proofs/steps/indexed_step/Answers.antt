use Rattle.std.proofs.Common.{refl}
use Rattle.rasn_dynamic.proofs.Ways.{no_indexed}
use Rattle.rasn_dynamic.proofs.steps.indexed_step.Goals as goal

pub returns-in-SequenceOf : goal.returns-in-SequenceOf
returns-in-SequenceOf c = rw c.in-SequenceOf.is (refl, refl)

pub returns-in-SetOf : goal.returns-in-SetOf
returns-in-SetOf c = rw c.in-SetOf.is (refl, refl)

pub returns-in_default : goal.returns-in_default
returns-in_default c = no_indexed c.args.ty.now c.args.index c.in_default.not-SequenceOf c.in_default.not-SetOf

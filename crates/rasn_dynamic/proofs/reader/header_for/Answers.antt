use Rattle.std.proofs.Common.{ap, Some}
use Rattle.rasn_dynamic.proofs.Contents.{none_holds}
use Rattle.rasn_dynamic.proofs.Parts.{no_header}
use Rattle.rasn_dynamic.proofs.reader.header_for.Goals as goal

pub returns-in-Tagged : goal.returns-in-Tagged
returns-in-Tagged c = rw c.in-Tagged.is (ap Some c.prefix.ensures)

pub returns-in-Sequence : goal.returns-in-Sequence
returns-in-Sequence c = rw c.in-Sequence.is (ap Some c.sequence.ensures)

pub returns-in-Set : goal.returns-in-Set
returns-in-Set c = rw c.in-Set.is (ap Some c.sequence-in-Set.ensures)

pub returns-in-SequenceOf : goal.returns-in-SequenceOf
returns-in-SequenceOf c = rw c.in-SequenceOf.is (ap Some c.list.ensures)

pub returns-in-SetOf : goal.returns-in-SetOf
returns-in-SetOf c = rw c.in-SetOf.is (ap Some c.list-in-SetOf.ensures)

pub returns-in_default : goal.returns-in_default
returns-in_default c = no_header c.args.ty.now (none_holds c.args.ty.now c.in_default.not-Tagged c.in_default.not-Sequence c.in_default.not-Set c.in_default.not-SequenceOf c.in_default.not-SetOf)

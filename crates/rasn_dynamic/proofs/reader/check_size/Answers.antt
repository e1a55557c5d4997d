use Rattle.rasn_dynamic.proofs.Readers.{unbounded}
use Rattle.rasn_dynamic.proofs.reader.check_size.Goals as goal

pub returns-in-SequenceOf-clause-sized : goal.returns-in-SequenceOf-clause-sized
returns-in-SequenceOf-clause-sized c = rw c.in-SequenceOf.is c.check_bound.ensures.sized

pub returns-in-SetOf-clause-sized : goal.returns-in-SetOf-clause-sized
returns-in-SetOf-clause-sized c = rw c.in-SetOf.is c.check_bound-in-SetOf.ensures.sized

pub returns-in_default-clause-sized : goal.returns-in_default-clause-sized
returns-in_default-clause-sized c = unbounded c.args.ty.now c.in_default.not-SequenceOf c.in_default.not-SetOf c.args.decoder.now c.args.count

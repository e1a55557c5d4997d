use Rattle.rasn_de.proofs.Leaves.Returns.{residual}
use Rattle.rasn_examples.proofs.time.TimeDecode.decode_with_tag_and_constraints.Goals as goal

pub returns-in_err-time-clause-fails : goal.returns-in_err-time-clause-fails
returns-in_err-time-clause-fails c = rw (residual _ c.from_residual.ensures.1) c.in_err-time.ensures.exact

pub returns-in_err-time-clause-errors : goal.returns-in_err-time-clause-errors
returns-in_err-time-clause-errors c = rw (residual _ c.from_residual.ensures.1) (c.in_err-time.ensures.exact, c.in_err-time.ensures.errors)

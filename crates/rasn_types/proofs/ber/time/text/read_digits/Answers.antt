use Rattle.std.proofs.Common.{arith}
use Rattle.rasn_types.proofs.Time.Powers.{ten_pos}
use Rattle.rasn_types.proofs.ber.time.text.read_digits.Goals as goal

pub returns-clause-below : goal.returns-clause-below
returns-clause-below c = omega (arith, c.loop-rest.invariant.bound, ten_pos c.loop-rest.place)

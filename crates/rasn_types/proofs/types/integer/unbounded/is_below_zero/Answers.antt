use Rattle.std.proofs.Common.{arith}
use Rattle.std.proofs.lemmas.Bool.Decides.{nat_tests}
use Rattle.std.proofs.lemmas.Int.{ints}
use Rattle.rasn_types.proofs.Integer.Order.{sign_of}
use Rattle.rasn_types.proofs.types.integer.unbounded.is_below_zero.Goals as goal

pub returns : goal.returns
returns c = let s = sign_of c.args.octets.now c.requires.octets c.requires.some in grind (arith, nat_tests, ints, s)

use Rattle.std.proofs.Common.{rules}
use Rattle.rasn_bench.proofs.Digits.{one_more}
use Rattle.rasn_bench.proofs.line.octets_of_digits.Goals as goal

pub loop-rest-preserved : goal.loop-rest-preserved
loop-rest-preserved c = one_more _ _ _ _ _ _ c.loop-rest.invariant c.in-Some.ensures.read (search rules)

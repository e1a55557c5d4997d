use Rattle.std.proofs.Common.{length}
use Rattle.rasn_de.proofs.Any.Skipping.{Passing}
use Rattle.rasn_de.proofs.ber.de.parser.skipping.skip_contents.Given as goal

abbrev pub invariant-values : goal.invariant-values
invariant-values l = Passing l.fn.rule l.fn.input l.open l.turns l.rest

abbrev pub decreases-values : goal.decreases-values
decreases-values l = length l.rest

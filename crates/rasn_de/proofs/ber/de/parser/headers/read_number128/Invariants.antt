use Rattle.std.proofs.Common.{◌≡◌, length}
use Rattle.rasn_de.specs.Headers.{number128_at}
use Rattle.rasn_de.proofs.ber.de.parser.headers.read_number128.Given as goal

abbrev pub invariant-loop-rest : goal.invariant-loop-rest
invariant-loop-rest l = number128_at l.wide l.number l.rest ≡ number128_at l.wide 0 l.fn.input

abbrev pub decreases-loop-rest : goal.decreases-loop-rest
decreases-loop-rest l = length l.rest

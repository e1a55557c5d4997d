use Rattle.std.proofs.Common.{◌≡◌, length}
use Rattle.rasn_de.specs.Headers.{number256_at}
use Rattle.rasn_de.proofs.ber.de.parser.headers.read_number256.Given as goal

abbrev pub invariant-loop-rest : goal.invariant-loop-rest
invariant-loop-rest l = number256_at l.number l.rest ≡ number256_at 0 l.fn.octets

abbrev pub decreases-loop-rest : goal.decreases-loop-rest
decreases-loop-rest l = length l.rest

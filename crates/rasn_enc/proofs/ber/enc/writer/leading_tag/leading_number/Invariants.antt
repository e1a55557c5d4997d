use Rattle.std.proofs.Common.{◌≡◌, length}
use Rattle.rasn_enc.specs.LeadingTag.{number_at}
use Rattle.rasn_enc.proofs.ber.enc.writer.leading_tag.leading_number.Given as goal

abbrev pub invariant-loop-rest : goal.invariant-loop-rest
invariant-loop-rest l = number_at l.number l.rest ≡ number_at 0 l.fn.octets

abbrev pub decreases-loop-rest : goal.decreases-loop-rest
decreases-loop-rest l = length l.rest

use Rattle.std.proofs.Common.{inl, inr}
use Rattle.rasn_de.proofs.ber.de.time.read_utc_time.Goals as goal

pub returns-in-Ber : goal.returns-in-Ber
returns-in-Ber c = rw c.in-Ber.is c.parse_utc_time.ensures

pub returns-in-Cer : goal.returns-in-Cer
returns-in-Cer c = elim c.in-Cer.is [ inl e ↦ rw e c.parse_canonical_utc_time.ensures | inr e ↦ rw e c.parse_canonical_utc_time.ensures ]

use Rattle.rasn_de.proofs.ber.de.time.read_generalized_time.Goals as goal

pub returns-in-Ber : goal.returns-in-Ber
returns-in-Ber c = rw c.in-Ber.is c.parse_generalized_time.ensures

pub returns-in-Cer : goal.returns-in-Cer
returns-in-Cer c = rw c.in-Cer.is c.parse_canonical_generalized_time.ensures

pub returns-in-Der : goal.returns-in-Der
returns-in-Der c = rw c.in-Der.is c.parse_strict_generalized_time.ensures

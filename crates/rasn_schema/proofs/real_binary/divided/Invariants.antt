use Rattle.std.proofs.Common.{take}
use Rattle.rasn_schema.proofs.RealNumbers.{Dividing}
use Rattle.rasn_schema.proofs.real_binary.divided.Given as goal

abbrev pub invariant-loop-octet : goal.invariant-loop-octet
invariant-loop-octet l = Dividing l.octets l.octet-index l.unit l.quotient.items l.rest

use Rattle.std.proofs.Common.{take}
use Rattle.std.specs.Prelude.{All}
use Rattle.rasn_types.specs.Contents.{IsDigit}
use Rattle.rasn_schema.proofs.time_text.are_time_digits.Given as goal

abbrev pub invariant-loop-octet : goal.invariant-loop-octet
invariant-loop-octet l = All IsDigit (take l.octet-index l.octets)

use Rattle.std.proofs.Common.{take}
use Rattle.std.specs.Prelude.{All}
use Rattle.rasn_types.specs.Contents.{IsTimeCharacter}
use Rattle.rasn_schema.proofs.time_text.is_time_text.Given as goal

abbrev pub invariant-loop-octet : goal.invariant-loop-octet
invariant-loop-octet l = All IsTimeCharacter (take l.octet-index l.octets)

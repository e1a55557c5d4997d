use Rattle.std.proofs.Common.{length, chars, string_bytes}
use Rattle.rasn_schema.proofs.Characters.{ReadSoFar}
use Rattle.rasn_schema.proofs.universal.universal_text.Given as goal

abbrev pub invariant-loop-rest : goal.invariant-loop-rest
invariant-loop-rest l = ReadSoFar l.octets l.rest (chars (string_bytes l.text))

abbrev pub decreases-loop-rest : goal.decreases-loop-rest
decreases-loop-rest l = length l.rest

use Rattle.std.specs.Str.Iter.{chars_rest}
use Rattle.rasn_schema.proofs.Characters.{WrittenSoFar}
use Rattle.rasn_schema.proofs.universal.universal_octets.Given as goal

abbrev pub invariant-loop-character : goal.invariant-loop-character
invariant-loop-character l = WrittenSoFar l.text l.octets.items (chars_rest l.character-iterator)

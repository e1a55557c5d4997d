use Rattle.std.specs.List.{AllWithin}
use Rattle.rasn_types.specs.CharacterString.{IsAdmitted}
use Rattle.rasn_types.proofs.types.strings.alphabet.Alphabet.first_foreign.Given as goal

abbrev pub invariant-loop-position : goal.invariant-loop-position
invariant-loop-position l = AllWithin (IsAdmitted l.self) l.octets 0 l.position

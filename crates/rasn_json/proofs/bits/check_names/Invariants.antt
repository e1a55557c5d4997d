use Rattle.rasn_json.specs.Reading.{IsNameOfBits, names_of}
use Rattle.rasn_json.proofs.MemberNames.{NewSoFar}
use Rattle.rasn_json.proofs.bits.check_names.Given as goal

abbrev pub invariant-loop-position : goal.invariant-loop-position
invariant-loop-position l = NewSoFar IsNameOfBits (names_of l.members) l.position

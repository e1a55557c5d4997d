use Rattle.rasn_json.specs.Reading.{IsComponentName, names_of}
use Rattle.rasn_json.proofs.MemberNames.{NewSoFar}
use Rattle.rasn_json.proofs.reader.check_names.Given as goal

abbrev pub invariant-loop-position : goal.invariant-loop-position
invariant-loop-position l = NewSoFar (IsComponentName l.components) (names_of l.members) l.position

use Rattle.std.proofs.Common.{◌≡◌, map, take}
use Rattle.rasn_schema.specs.Statics.{number_in, static_number}
use Rattle.rasn_schema.proofs.constants.made.numbers_of.Given as goal

abbrev pub invariant-loop-name : goal.invariant-loop-name
invariant-loop-name l = map number_in l.made.items ≡ map static_number (take l.name-index l.numbers)

use Rattle.std.proofs.Common.{◌≡◌, map, take}
use Rattle.rasn_schema.specs.Statics.{type_in, static_type}
use Rattle.rasn_schema.proofs.constants.made.alternatives_of.Given as goal

abbrev pub invariant-loop-name : goal.invariant-loop-name
invariant-loop-name l = map type_in l.made.items ≡ map static_type (take l.name-index l.alternatives)

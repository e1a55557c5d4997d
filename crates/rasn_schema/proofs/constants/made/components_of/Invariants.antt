use Rattle.std.proofs.Common.{◌≡◌, map, take}
use Rattle.rasn_schema.specs.Statics.{component_in, static_component}
use Rattle.rasn_schema.proofs.constants.made.components_of.Given as goal

abbrev pub invariant-loop-name : goal.invariant-loop-name
invariant-loop-name l = map component_in l.made.items ≡ map static_component (take l.name-index l.components)

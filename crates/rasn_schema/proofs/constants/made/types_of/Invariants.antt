use Rattle.std.proofs.Common.{take}
use Rattle.rasn_types.specs.Order.{Each}
use Rattle.rasn_schema.specs.Statics.{IsMade}
use Rattle.rasn_schema.proofs.constants.made.types_of.Given as goal

abbrev pub invariant-loop-ty : goal.invariant-loop-ty
invariant-loop-ty l = Each IsMade (take l.ty-index l.types) l.made.items

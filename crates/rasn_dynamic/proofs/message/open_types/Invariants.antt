use Rattle.std.proofs.Common.{◌≡◌, take}
use Rattle.std.specs.Prelude.{map}
use Rattle.rasn_dynamic.specs.Walk.{is_open_type}
use Rattle.rasn_dynamic.proofs.message.open_types.Given as goal

abbrev pub invariant-loop-ty : goal.invariant-loop-ty
invariant-loop-ty l = l.open.items ≡ map is_open_type (take l.ty-index l.types)

use Rattle.std.proofs.Common.{◌≡◌, ◌++◌, take, string_bytes, flat_map}
use Rattle.rasn_text.specs.Shown.{unit_text}
use Rattle.rasn_text.proofs.shown.push_units.Given as goal

abbrev pub invariant-loop-unit : goal.invariant-loop-unit
invariant-loop-unit l = string_bytes l.text ≡ string_bytes l.fn.text ++ flat_map unit_text (take l.unit-index l.units)

use Rattle.std.proofs.Common.{◌≡◌, take}
use Rattle.std.specs.Char.{is_ascii_digit}
use Rattle.std.specs.List.{filter}
use Rattle.rasn_schema.proofs.time_text.time_digits.Given as goal

abbrev pub invariant-loop-octet : goal.invariant-loop-octet
invariant-loop-octet l = l.digits.items ≡ filter is_ascii_digit (take l.octet-index l.octet-items)

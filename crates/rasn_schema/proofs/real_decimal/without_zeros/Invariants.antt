use Rattle.std.proofs.Common.{◌≡◌, ◌-◌, ◌≤◌, length, drop}
use Rattle.rasn_types.specs.Contents.{number_of_digits}
use Rattle.rasn_schema.proofs.real_decimal.without_zeros.Given as goal

abbrev pub invariant-loop-start : goal.invariant-loop-start
invariant-loop-start l = (l.start ≤ length l.digits) × (number_of_digits (drop l.start l.digits) ≡ number_of_digits l.digits)

abbrev pub decreases-loop-start : goal.decreases-loop-start
decreases-loop-start l = length l.digits - l.start

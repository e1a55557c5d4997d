use Rattle.std.proofs.Common.{◌≡◌, ◌-◌, ◌*◌, ◌^◌, ◌≤◌, length, take}
use Rattle.rasn_types.specs.Contents.{number_of_digits}
use Rattle.rasn_schema.proofs.real_decimal.without_zeros_after.Given as goal

abbrev pub invariant-loop-end : goal.invariant-loop-end
invariant-loop-end l = (l.end ≤ length l.digits) × (number_of_digits l.digits ≡ number_of_digits (take l.end l.digits) * 10 ^ (length l.digits - l.end))

abbrev pub decreases-loop-end : goal.decreases-loop-end
decreases-loop-end l = l.end

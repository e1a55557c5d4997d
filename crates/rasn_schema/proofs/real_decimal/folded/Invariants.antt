use Rattle.std.proofs.Common.{◌≡◌, take}
use Rattle.rasn_types.specs.Contents.{number_of_digits}
use Rattle.rasn_schema.proofs.real_decimal.folded.Given as goal

abbrev pub invariant-loop-digit : goal.invariant-loop-digit
invariant-loop-digit l = l.number ≡ number_of_digits (take l.digit-index l.digits)

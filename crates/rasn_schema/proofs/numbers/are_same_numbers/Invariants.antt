use Rattle.std.proofs.Common.{◌≡◌, length}
use Rattle.rasn_schema.specs.Numbers.{numbers_left}
use Rattle.rasn_schema.proofs.numbers.are_same_numbers.Given as goal

abbrev pub invariant-loop-number : goal.invariant-loop-number
invariant-loop-number l = (numbers_left l.these ≡ numbers_left l.others → numbers_left l.initial.these ≡ numbers_left l.initial.others)
    × (numbers_left l.initial.these ≡ numbers_left l.initial.others → numbers_left l.these ≡ numbers_left l.others)

abbrev pub decreases-loop-number : goal.decreases-loop-number
decreases-loop-number l = length (numbers_left l.these)

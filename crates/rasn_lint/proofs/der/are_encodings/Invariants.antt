use Rattle.std.proofs.Common.{◌+◌, length}
use Rattle.rasn_lint.specs.Pending.{octets_in}
use Rattle.rasn_lint.proofs.Pending.{IsPending}
use Rattle.rasn_lint.proofs.der.are_encodings.Given as goal

abbrev pub invariant-encodings : goal.invariant-encodings
invariant-encodings l = IsPending l.contents l.rest l.outer.items

abbrev pub decreases-encodings : goal.decreases-encodings
decreases-encodings l = length l.rest + octets_in l.outer.items

use Rattle.std.proofs.Common.{refl}
use Rattle.rasn_lint.proofs.judge.copied.Goals as goal

pub returns-in_ok-from_slice-in-Some : goal.returns-in_ok-from_slice-in-Some
returns-in_ok-from_slice-in-Some c = rw c.in-Some.is (_, refl, c.in_ok-from_slice-in-Some.ensures.items)

use Rattle.std.proofs.Common.{◌≡◌, []}
use Rattle.rasn_lint.proofs.Clean.{GoesOn}
use Rattle.rasn_lint.proofs.first.first_inside.Given as goal

abbrev pub invariant-loop-part : goal.invariant-loop-part
invariant-loop-part l = record {
  none : l.list.items ≡ [];
  goes_on : GoesOn l.schema.types.items l.len l.parts l.path.items l.part-index;
}

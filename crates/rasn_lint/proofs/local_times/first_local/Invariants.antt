use Rattle.rasn_lint.proofs.LocalTimes.{AreNone}
use Rattle.rasn_lint.proofs.local_times.first_local.Given as goal

abbrev pub invariant-loop-part : goal.invariant-loop-part
invariant-loop-part l = AreNone l.schema.types.items l.len l.parts l.path.items l.part-index

use Rattle.std.proofs.Common.{List, [], ◌++◌, drop}
use Rattle.rasn_lint.specs.declared.departure.Departure.{Departure}
use Rattle.rasn_lint.specs.Judged.{AreJudged}
use Rattle.rasn_lint.proofs.by_schema.judge_parts.Given as goal

abbrev pub invariant-loop-part : goal.invariant-loop-part
invariant-loop-part l = (more : List Departure) → AreJudged l.is_read l.opens l.schema.types.items l.len l.trail.items l.path.items (drop l.part-index l.parts) more
    → AreJudged l.is_read l.opens l.schema.types.items l.len [] [] l.parts (l.list.items ++ more)

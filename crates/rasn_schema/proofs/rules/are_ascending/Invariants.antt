use Rattle.rasn_schema.proofs.Ascending.{Ascend}
use Rattle.rasn_schema.proofs.rules.are_ascending.Given as goal

abbrev pub invariant-loop-index : goal.invariant-loop-index
invariant-loop-index l = Ascend l.numbers l.index

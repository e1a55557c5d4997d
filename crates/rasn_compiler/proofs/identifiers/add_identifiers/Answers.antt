use Rattle.std.proofs.Common.{rules}
use Rattle.rasn_compiler.proofs.NamedValues.{are_values_of_more}
use Rattle.rasn_compiler.proofs.identifiers.add_identifiers.Goals as goal

-- src/identifiers.rt:58:5
pub loop-assignment-preserved : goal.loop-assignment-preserved
loop-assignment-preserved c = λ all one known.
    are_values_of_more all c.args.owner.now _ c.loop-assignment.assignment-index _ c.loop-assignment.found.items _ _ c.in_ok-push.ensures.items
    c.deref-assignment-items.ensures.value one (search rules) (search rules) (c.loop-assignment.invariant all one known)

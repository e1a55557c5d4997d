use Rattle.rasn_compiler.proofs.Libraries.{named_more}
use Rattle.rasn_compiler.proofs.resolver.emit.roots_of.Goals as goal
use Rattle.rasn_compiler.proofs.resolver.emit.roots_of.Goals.{then-is_alone+in_ok-push_own_names-2, else-is_alone}

pub returns : goal.returns
returns c =
    let held = c.loop-index.collected in
    elim c.if-is_alone.branch [ then-is_alone+in_ok-push_own_names-2 w ↦ rw w.collected-is (named_more c.args.count held.names.items _ w.in_ok-push_own_names-2.ensures held.roots.items c.loop-index.invariant) | else-is_alone w ↦ rw w.collected-is c.loop-index.invariant ]

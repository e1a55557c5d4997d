use Rattle.rasn_compiler.proofs.resolver.emit.push_names.Goals as goal
use Rattle.rasn_compiler.proofs.resolver.emit.push_names.Goals.{then-node+then-node-are_closed+in_ok-push_name, else-node}

pub loop-index-preserved : goal.loop-index-preserved
loop-index-preserved c =
    elim c.if-node.branch [ then-node+then-node-are_closed+in_ok-push_name w ↦ rw w.names-is (λ other id h. w.in_ok-push_name.ensures.more other id (c.loop-index.invariant other id h)) | else-node w ↦ rw w.names-is c.loop-index.invariant ]

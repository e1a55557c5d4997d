use Rattle.std.proofs.Common.{inl, inr, subst}
use Rattle.rasn_de.specs.ObjectIdentifier.{ReadsArcs}
use Rattle.rasn_de.proofs.Leaves.ObjectIdentifier.{arcs_done, arcs_made, arcs_start, arcs_next, stops_first, stops_later, rest_shorter}
use Rattle.rasn_de.proofs.Leaves.Integer.{empty_is, not_empty}
use Rattle.rasn_de.proofs.Leaves.Returns.{residual}
use Rattle.rasn_de.proofs.ber.de.parser.object_identifier.read_object_identifier.Goals as goal

pub returns-in_err-subidentifier : goal.returns-in_err-subidentifier
returns-in_err-subidentifier c =
    rw (residual _ c.from_residual.ensures.1) (inr (stops_first c.args.rules _ _ c.in_err-subidentifier.ensures))

pub returns-in_err-arcs : goal.returns-in_err-arcs
returns-in_err-arcs c =
    rw (residual _ c.from_residual-in_err-arcs.ensures.1) (inl (c.in_err-arcs.ensures.err, (_, _, c.in_ok-subidentifier.ensures)))

pub loop-rest-init : goal.loop-rest-init
loop-rest-init c = arcs_start c.args.rules _ _ _ _ c.in_ok-subidentifier.ensures c.in_ok-arcs.ensures.ok

pub returns-in_err-arc : goal.returns-in_err-arc
returns-in_err-arc c =
    rw (residual _ c.from_residual-in_err-arc.ensures.1) (inr (stops_later c.args.rules _ _ _ _ c.loop-rest.invariant (not_empty _ c.loop-rest-test.ensures) c.in_err-arc.ensures))

pub returns-in_err-push_arc : goal.returns-in_err-push_arc
returns-in_err-push_arc c =
    rw (residual _ c.from_residual-in_err-push_arc.ensures.1) (inl (c.in_err-push_arc.ensures.err, c.loop-rest.invariant.begins))

pub loop-rest-smaller : goal.loop-rest-smaller
loop-rest-smaller c = rest_shorter c.args.rules _ _ _ c.in_ok-arc.ensures

pub loop-rest-preserved : goal.loop-rest-preserved
loop-rest-preserved c = arcs_next c.args.rules _ _ _ _ _ _ c.loop-rest.invariant c.in_ok-arc.ensures c.in_ok-push_arc.ensures.ok

pub returns : goal.returns
returns c =
    subst (ReadsArcs c.args.rules c.args.contents.now) (arcs_made _ c.new.result _ c.unwrap.result c.new.ensures c.unwrap.ensures)
    (arcs_done c.args.rules _ _ _ c.loop-rest.invariant (empty_is _ c.loop-rest-test.ensures))

use Rattle.std.proofs.Common.{◌++◌, ◌∷◌, [], refl}
use Rattle.rasn_de.specs.ObjectIdentifier.{first_two}
use Rattle.rasn_de.proofs.Leaves.ObjectIdentifier.{arcs_done, arcs_start, arcs_next, stops_first, stops_later, rest_shorter}
use Rattle.rasn_de.proofs.Leaves.Integer.{empty_is, not_empty}
use Rattle.rasn_de.proofs.Leaves.Returns.{residual}
use Rattle.rasn_de.proofs.ber.de.parser.object_identifier.check_object_identifier.Goals as goal

pub returns-in_err-rest : goal.returns-in_err-rest
returns-in_err-rest c =
    rw (residual _ c.from_residual.ensures.1) (stops_first c.args.rules _ _ c.in_err-rest.ensures)

pub loop-rest-init : goal.loop-rest-init
loop-rest-init c = (first_two _, arcs_start c.args.rules _ _ _ _ c.in_ok-rest.ensures refl)

pub returns-in_err-after : goal.returns-in_err-after
returns-in_err-after c =
    rw (residual _ c.from_residual-in_err-after.ensures.1) (stops_later c.args.rules _ _ _ _ c.loop-rest.invariant.1 (not_empty _ c.loop-rest-test.ensures) c.in_err-after.ensures)

pub loop-rest-smaller : goal.loop-rest-smaller
loop-rest-smaller c = rest_shorter c.args.rules _ _ _ c.in_ok-after.ensures

pub loop-rest-preserved : goal.loop-rest-preserved
loop-rest-preserved c = (_, arcs_next c.args.rules _ _ _ _ _ _ c.loop-rest.invariant.1 c.in_ok-after.ensures refl)

pub returns : goal.returns
returns c = (c.loop-rest.invariant.0, arcs_done c.args.rules _ _ _ c.loop-rest.invariant.1 (empty_is _ c.loop-rest-test.ensures))

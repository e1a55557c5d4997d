use Rattle.std.proofs.Common.{◌+◌, ◌-◌, ◌≤◌, ◌∙◌, length, arith, add-one, drop, get_or, length-drop}
use Rattle.std.proofs.lemmas.List.{take_all}
use Rattle.rasn_types.specs.Contents.{IsShortestInteger, RepeatsSign}
use Rattle.rasn_types.proofs.Integer.TwosComplement.{are_octets, octets_behind, one_dropped, short_behind}
use Rattle.rasn_types.proofs.types.twos_complement.shortest.Goals as goal
use Rattle.rasn_types.proofs.types.twos_complement.shortest.Goals.{then-loop-start-test+else-repeats_sign, else-loop-start-test}

pub loop-start-preserved : goal.loop-start-preserved
loop-start-preserved c =
    let r : RepeatsSign (get_or c.args.octets.now c.loop-start.start 0) (get_or c.args.octets.now (c.loop-start.start + 1) 0) = c.if-repeats_sign.ensures in
    (c.loop-start-test.true, rw add-one (one_dropped c.loop-start.start c.args.octets.now (omega arith) c.type_inv.octets (rw add-one at r) ∙ c.loop-start.invariant.1))

pub returns-clause-short : goal.returns-clause-short
returns-clause-short c =
    let k : length (drop c.loop-start.start c.args.octets.now) ≤ length c.args.octets.now - c.loop-start.start =
    omega (arith, length-drop c.loop-start.start c.args.octets.now) in
    let short : IsShortestInteger (drop c.loop-start.start c.args.octets.now) =
    short_behind c.loop-start.start c.args.octets.now c.loop-start.invariant.0 (elim c.loop-start-test.branch [
      | then-loop-start-test+else-repeats_sign w ↦ (λ h r. w.if-repeats_sign.ensures (rw (← add-one c.loop-start.start) at r))
      | else-loop-start-test w ↦ (λ h r. absurd (omega arith))
    ]) in
    rw (take_all (length c.args.octets.now - c.loop-start.start) (drop c.loop-start.start c.args.octets.now) k) short

pub returns-clause-octets : goal.returns-clause-octets
returns-clause-octets c =
    let k : length (drop c.loop-start.start c.args.octets.now) ≤ length c.args.octets.now - c.loop-start.start =
    omega (arith, length-drop c.loop-start.start c.args.octets.now) in
    rw (take_all (length c.args.octets.now - c.loop-start.start) (drop c.loop-start.start c.args.octets.now) k)
    (octets_behind c.loop-start.start c.args.octets.now (are_octets c.args.octets.now c.type_inv.octets))

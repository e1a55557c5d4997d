use Rattle.std.proofs.Common.{refl, sym, ◌∙◌, ◌≤◌, length, drop, arith, add-one}
use Rattle.rasn_enc.specs.Buffer.DeferredHeaders.{rest_octets}
use Rattle.rasn_enc.specs.Buffer.Cursors.{Away}
use Rattle.rasn_enc.proofs.Buffer.Cursors.{step-header, step-header-placed, step-placed, step-gathered, step-none}
use Rattle.rasn_enc.proofs.ber.enc.writer.cursors.next.Goals as goal

pub loop-here-init : goal.loop-here-init
loop-here-init c = record { placed = c.requires; same = refl }

pub loop-here-preserved : goal.loop-here-preserved
loop-here-preserved c =
    let done : length (rest_octets c.loop-here.here.rest) ≤ c.loop-here.here.inside = rw c.as_slice-rest.ensures at c.if-here-rest.false in
    let q = step-header-placed c.args.gathered.now c.args.headers.now c.loop-here.here done c.loop-here.invariant.placed c.in-Some.rest c.in-Some.ensures in
    record {
      placed = record { inside = omega arith; below = rw add-one q.0; rising = rw add-one q.1 };
      same = rw add-one (sym (step-header c.args.gathered.now c.args.headers.now c.loop-here.here done c.loop-here.invariant.placed c.in-Some.rest c.in-Some.ensures)) ∙ c.loop-here.invariant.same;
    }

pub returns-then-here-gathered : goal.returns-then-here-gathered
returns-then-here-gathered c =
    let done : length (rest_octets c.loop-here.here.rest) ≤ c.loop-here.here.inside = rw c.as_slice-rest.ensures at c.if-here-rest.false in
    let away : Away c.loop-here.here.at (drop c.loop-here.here.first c.args.headers.now) = c.in-None.ensures in
    let p = c.loop-here.invariant.placed in
    rw (add-one, c.new.ensures) (
      sym c.loop-here.invariant.same ∙ step-gathered c.args.gathered.now c.args.headers.now c.loop-here.here done p away c.if-here-gathered.true,
      record { inside = omega arith; below = p.below; rising = step-placed c.args.gathered.now c.args.headers.now c.loop-here.here done p away c.if-here-gathered.true },
    )

pub returns-in-None : goal.returns-in-None
returns-in-None c =
    let done : length (rest_octets c.loop-here.here.rest) ≤ c.loop-here.here.inside = rw c.as_slice-rest.ensures at c.if-here-rest.false in
    let away : Away c.loop-here.here.at (drop c.loop-here.here.first c.args.headers.now) = c.in-None.ensures in
    sym c.loop-here.invariant.same ∙ step-none c.args.gathered.now c.args.headers.now c.loop-here.here done c.loop-here.invariant.placed away c.if-here-gathered.false

use Rattle.std.proofs.Common.{arith}
use Rattle.rasn_dynamic.proofs.Parts.{seen_itself, seen_inside, inside_short, entered_by, not_entered}
use Rattle.rasn_dynamic.proofs.find.enter.Goals as goal

pub returns-in_default-clause-entered : goal.returns-in_default-clause-entered
returns-in_default-clause-entered c = not_entered c.args.ty.now c.args.place.now.decoder c.in_default.ensures

pub returns-in_default-clause-seen : goal.returns-in_default-clause-seen
returns-in_default-clause-seen c = seen_itself c.args.place.now.decoder.rest c.args.place.now.end

pub overflow_sub-place : goal.overflow_sub-place
overflow_sub-place c =
    let short = inside_short c.in-Some.header c.args.place.now.decoder c.in_ok-inner.ensures.octets _ _ _ c.in_ok-inner.ensures.exact in
    omega (arith, short, c.octets_after.ensures, c.requires.seen)

pub returns-clause-entered : goal.returns-clause-entered
returns-clause-entered c = entered_by c.args.ty.now c.in-Some.header c.args.place.now.decoder _ _ _ c.in-Some.ensures c.in_ok-inner.ensures.exact

pub returns-clause-seen : goal.returns-clause-seen
returns-clause-seen c = rw c.octets_after.ensures (seen_inside c.in-Some.header c.args.place.now.decoder c.in_ok-inner.ensures.octets _ _ _ c.in_ok-inner.ensures.exact c.args.place.now.end c.requires.seen)

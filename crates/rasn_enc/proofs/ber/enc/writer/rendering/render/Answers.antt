use Rattle.std.proofs.Common.{length, take, length-take-le, ◌+◌, ◌-◌, ◌≡◌, suc, arith, take}
use Rattle.rasn_enc.specs.Buffer.DeferredHeaders.{front_run}
use Rattle.rasn_enc.proofs.Buffer.Steps.{Rest, turn-order, turn-room, turned-rest, rest-end, rest-count}
use Rattle.rasn_enc.proofs.ber.enc.writer.rendering.render.Goals as goal

pub splice_header-written-requires-clause-order : goal.splice_header-written-requires-clause-order
splice_header-written-requires-clause-order c =
    let t = c.loop-k-test.true in
    let b = c.loop-k.invariant.below in
    let e : suc (c.loop-k.k - 1) ≡ c.loop-k.k = omega (arith, t) in
    let h : Rest (take c.args.gathered c.args.buffer.now) c.args.headers.now c.loop-k.buffer (suc (c.loop-k.k - 1)) c.loop-k.from c.loop-k.to c.loop-k.copies = rw e c.loop-k.invariant in
    turn-order _ c.args.headers.now c.loop-k.buffer (c.loop-k.k - 1) c.loop-k.from c.loop-k.to c.loop-k.copies c.index-headers-k.result c.index-headers-k.result (omega (arith, t, b)) c.index-headers-k.is h

pub splice_header-written-requires-clause-room : goal.splice_header-written-requires-clause-room
splice_header-written-requires-clause-room c =
    let t = c.loop-k-test.true in
    let b = c.loop-k.invariant.below in
    let e : suc (c.loop-k.k - 1) ≡ c.loop-k.k = omega (arith, t) in
    let h : Rest (take c.args.gathered c.args.buffer.now) c.args.headers.now c.loop-k.buffer (suc (c.loop-k.k - 1)) c.loop-k.from c.loop-k.to c.loop-k.copies = rw e c.loop-k.invariant in
    turn-room _ c.args.headers.now c.loop-k.buffer (c.loop-k.k - 1) c.loop-k.from c.loop-k.to c.loop-k.copies c.index-headers-k.result c.index-headers-k.result (omega (arith, t, b)) c.index-headers-k.is h

pub overflow_sub-to : goal.overflow_sub-to
overflow_sub-to c =
    let t = c.loop-k-test.true in
    let b = c.loop-k.invariant.below in
    let e : suc (c.loop-k.k - 1) ≡ c.loop-k.k = omega (arith, t) in
    let h : Rest (take c.args.gathered c.args.buffer.now) c.args.headers.now c.loop-k.buffer (suc (c.loop-k.k - 1)) c.loop-k.from c.loop-k.to c.loop-k.copies = rw e c.loop-k.invariant in
    let r = turn-room _ c.args.headers.now c.loop-k.buffer (c.loop-k.k - 1) c.loop-k.from c.loop-k.to c.loop-k.copies c.index-headers-k.result c.index-headers-k.result (omega (arith, t, b)) c.index-headers-k.is h in
    let w = c.splice_header-written.ensures.count in
    omega (arith, r, w)

pub loop-k-preserved : goal.loop-k-preserved
loop-k-preserved c =
    let t = c.loop-k-test.true in
    let b = c.loop-k.invariant.below in
    let e : suc (c.loop-k.k - 1) ≡ c.loop-k.k = omega (arith, t) in
    let h : Rest (take c.args.gathered c.args.buffer.now) c.args.headers.now c.loop-k.buffer (suc (c.loop-k.k - 1)) c.loop-k.from c.loop-k.to c.loop-k.copies = rw e c.loop-k.invariant in
    turned-rest _ c.args.headers.now c.loop-k.buffer (c.loop-k.k - 1) c.loop-k.from c.loop-k.to c.loop-k.copies c.index-headers-k.result c.index-headers-k.result (omega (arith, t, b)) c.index-headers-k.is h c.splice_header-written.result c.splice_header-written.new.buffer c.splice_header-written.ensures.count c.splice_header-written.ensures.moved

pub returns-clause-output : goal.returns-clause-output
returns-clause-output c =
    let t = c.loop-k-test.false in
    rest-end _ _ _ c.loop-k.k c.loop-k.from c.loop-k.to c.loop-k.copies (omega (arith, t)) c.loop-k.invariant

pub returns-clause-exact : goal.returns-clause-exact
returns-clause-exact c =
    let t = c.loop-k-test.false in
    let r = c.requires.room in
    let l : length (take c.args.gathered c.args.buffer.now) ≡ c.args.gathered = length-take-le c.args.gathered c.args.buffer.now (omega (arith, r)) in
    let q : c.loop-k.copies + front_run c.args.headers.now c.args.gathered ≡ length c.loop-k.buffer = rw l at (rest-count _ _ _ c.loop-k.k c.loop-k.from c.loop-k.to c.loop-k.copies (omega (arith, t)) c.loop-k.invariant) in
    omega (arith, q)

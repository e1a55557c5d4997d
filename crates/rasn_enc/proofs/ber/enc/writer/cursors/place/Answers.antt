use Rattle.std.proofs.Common.{◌-◌, ◌≡◌, length, arith, ◌+◌}
use Rattle.rasn_enc.specs.Buffer.DeferredHeaders.{rendered, Rising}
use Rattle.rasn_enc.proofs.Buffer.Rendered.{rising-lower}
use Rattle.rasn_enc.proofs.Buffer.Cursors.{Walk, at_header, place-run, walk-end}
use Rattle.rasn_enc.proofs.ber.enc.writer.cursors.place.Goals as goal

pub overflow_sub-run : goal.overflow_sub-run
overflow_sub-run c = (at_header c.args.gathered.now c.args.headers.now c.args.start c.args.total c.loop-k.k c.loop-k.at c.loop-k.back c.args.n c.index-headers-k.result c.index-headers-k.result c.index-headers-k.is (let t = c.loop-k-test.true in omega (arith, t)) c.loop-k.invariant c.requires.measured c.requires.within).order

pub returns-then-back-run-clause-placed : goal.returns-then-back-run-clause-placed
returns-then-back-run-clause-placed c =
    record { inside = omega arith; below = c.loop-k.invariant.below; rising = rising-lower _ c.loop-k.at _ _ (omega arith) c.loop-k.invariant.upper }

pub returns-then-back-run-clause-rest : goal.returns-then-back-run-clause-rest
returns-then-back-run-clause-rest c = rw c.new.ensures ((at_header c.args.gathered.now c.args.headers.now c.args.start c.args.total c.loop-k.k c.loop-k.at c.loop-k.back c.args.n c.index-headers-k.result c.index-headers-k.result c.index-headers-k.is (let t = c.loop-k-test.true in omega (arith, t)) c.loop-k.invariant c.requires.measured c.requires.within).run c.if-back-run.true)

pub returns-then-back-run-2-clause-placed : goal.returns-then-back-run-2-clause-placed
returns-then-back-run-2-clause-placed c =
    let n = c.len-own.ensures in
    record { inside = omega (arith, n); below = c.loop-k.invariant.below; rising = (at_header c.args.gathered.now c.args.headers.now c.args.start c.args.total c.loop-k.k c.loop-k.at c.loop-k.back c.args.n c.index-headers-k.result c.index-headers-k.result c.index-headers-k.is (let t = c.loop-k-test.true in omega (arith, t)) c.loop-k.invariant c.requires.measured c.requires.within).upper }

pub returns-then-back-run-2-clause-rest : goal.returns-then-back-run-2-clause-rest
returns-then-back-run-2-clause-rest c =
    let n = c.len-own.ensures in
    let f = c.if-back-run.false in
    let g = c.if-back-run-2.true in
    (at_header c.args.gathered.now c.args.headers.now c.args.start c.args.total c.loop-k.k c.loop-k.at c.loop-k.back c.args.n c.index-headers-k.result c.index-headers-k.result c.index-headers-k.is (let t = c.loop-k-test.true in omega (arith, t)) c.loop-k.invariant c.requires.measured c.requires.within).head _ (omega (arith, n, f, g)) (omega (arith, f))

pub loop-k-preserved : goal.loop-k-preserved
loop-k-preserved c =
    let n = c.len-own.ensures in
    let f = c.if-back-run.false in
    let g = c.if-back-run-2.false in
    (at_header c.args.gathered.now c.args.headers.now c.args.start c.args.total c.loop-k.k c.loop-k.at c.loop-k.back c.args.n c.index-headers-k.result c.index-headers-k.result c.index-headers-k.is (let t = c.loop-k-test.true in omega (arith, t)) c.loop-k.invariant c.requires.measured c.requires.within).more _ (omega (arith, n, f, g))

pub overflow_sub-result-2 : goal.overflow_sub-result-2
overflow_sub-result-2 c =
    let me = c.requires.measured in
    let f = c.loop-k-test.false in
    let w = walk-end c.args.gathered.now c.args.headers.now c.args.start (c.args.total - c.args.n) c.loop-k.k c.loop-k.at c.loop-k.back c.loop-k.invariant (omega (arith, f)) (omega (arith, me)) in
    omega (arith, w)

pub returns-clause-placed : goal.returns-clause-placed
returns-clause-placed c =
    let f = c.loop-k-test.false in
    let z : c.loop-k.k ≡ 0 = omega (arith, f) in
    let up : Rising c.loop-k.at c.args.headers.now (length c.args.gathered.now) = rw z at c.loop-k.invariant.upper in
    record { inside = omega arith; below = omega arith; rising = rising-lower _ c.loop-k.at _ _ (omega arith) up }

pub returns-clause-rest : goal.returns-clause-rest
returns-clause-rest c =
    let me = c.requires.measured in
    let wi = c.requires.within in
    let f = c.loop-k-test.false in
    let z : c.loop-k.k ≡ 0 = omega (arith, f) in
    let w = walk-end c.args.gathered.now c.args.headers.now c.args.start (c.args.total - c.args.n) c.loop-k.k c.loop-k.at c.loop-k.back c.loop-k.invariant z (omega (arith, me)) in
    let h : Walk c.args.gathered.now c.args.headers.now c.args.start (c.args.total - c.args.n) 0 c.loop-k.at c.loop-k.back = rw (← z) c.loop-k.invariant in
    let all : c.args.total - c.args.n + c.args.n ≡ length (rendered c.args.gathered.now c.args.start c.args.headers.now) = omega (arith, me, wi) in
    rw c.new-2.ensures (place-run c.args.gathered.now c.args.headers.now c.args.start (c.args.total - c.args.n) 0 c.loop-k.at c.loop-k.back c.args.n h (omega (arith, w)) (omega (arith, w)) all)

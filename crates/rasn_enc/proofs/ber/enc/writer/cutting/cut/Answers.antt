use Rattle.std.proofs.Common.{◌≡◌, ◌<◌, ◌-◌, suc, length, arith, refl}
use Rattle.rasn_enc.proofs.Buffer.Cuts.{cut_all, all_left, header_within, step_stops, step_goes_on, step_splits}
use Rattle.rasn_enc.proofs.ber.enc.writer.cutting.cut.Goals as goal

pub overflow_sub-run : goal.overflow_sub-run
overflow_sub-run c =
    let l : suc (c.len-last.result - 1) ≡ length c.loop-headers.headers.items = omega (arith, c.len-last.ensures, c.len.ensures, c.loop-headers-test.true, c.loop-headers.headers.ok) in
    let s : c.args.first < length c.loop-headers.headers.items = omega (arith, c.len.ensures, c.loop-headers-test.true, c.loop-headers.headers.ok) in
    let w = header_within _ _ _ _ _ _ _ c.loop-headers.invariant (c.len-last.result - 1) c.index.result.now _ l s c.index.ensures in
    omega (arith, w, c.len-in-loop-headers.ensures, c.loop-headers.gathered.ok)

pub returns-then-left-run : goal.returns-then-left-run
returns-then-left-run c =
    let l : suc (c.len-last.result - 1) ≡ length c.loop-headers.headers.items = omega (arith, c.len-last.ensures, c.len.ensures, c.loop-headers-test.true, c.loop-headers.headers.ok) in
    let s : c.args.first < length c.loop-headers.headers.items = omega (arith, c.len.ensures, c.loop-headers-test.true, c.loop-headers.headers.ok) in
    let w = header_within _ _ _ _ _ _ _ c.loop-headers.invariant (c.len-last.result - 1) c.index.result.now _ l s c.index.ensures in
    rw c.truncate.ensures.items (step_stops _ _ _ _ _ _ _ c.loop-headers.invariant (c.len-last.result - 1) c.index.result.now _ l s c.index.ensures _ c.args.count c.loop-headers.left
    (omega (arith, w, c.if-left-run.true, c.len-in-loop-headers.ensures, c.len-then-left-run.ensures, c.loop-headers.gathered.ok))
    (omega (arith, w, c.if-left-run.true, c.len-in-loop-headers.ensures, c.len-then-left-run.ensures, c.loop-headers.gathered.ok)) refl)

pub returns-then-left-own : goal.returns-then-left-own
returns-then-left-own c =
    let l : suc (c.len-last.result - 1) ≡ length c.loop-headers.headers.items = omega (arith, c.len-last.ensures, c.len.ensures, c.loop-headers-test.true, c.loop-headers.headers.ok) in
    let s : c.args.first < length c.loop-headers.headers.items = omega (arith, c.len.ensures, c.loop-headers-test.true, c.loop-headers.headers.ok) in
    let w = header_within _ _ _ _ _ _ _ c.loop-headers.invariant (c.len-last.result - 1) c.index.result.now _ l s c.index.ensures in
    rw c.truncate-in-loop-headers.ensures.items (step_splits _ _ _ _ _ _ _ c.loop-headers.invariant (c.len-last.result - 1) c.index.result.now _ l s c.index.ensures c.args.count
    (c.len-own.result - (c.loop-headers.left - (c.len-in-loop-headers.result - c.index.result.now.at))) _ refl (omega (arith, c.len-own.ensures)) c.truncate-then-left-own.ensures
    (omega (arith, w, c.if-left-run.false, c.if-left-own.true, c.len-own.ensures, c.len-in-loop-headers.ensures, c.loop-headers.gathered.ok)))

pub loop-headers-preserved : goal.loop-headers-preserved
loop-headers-preserved c =
    let l : suc (c.len-last.result - 1) ≡ length c.loop-headers.headers.items = omega (arith, c.len-last.ensures, c.len.ensures, c.loop-headers-test.true, c.loop-headers.headers.ok) in
    let s : c.args.first < length c.loop-headers.headers.items = omega (arith, c.len.ensures, c.loop-headers-test.true, c.loop-headers.headers.ok) in
    let w = header_within _ _ _ _ _ _ _ c.loop-headers.invariant (c.len-last.result - 1) c.index.result.now _ l s c.index.ensures in
    rw (c.truncate-in-loop-headers.ensures.items, c.truncate-in-loop-headers-2.ensures.items) (step_goes_on _ _ _ _ _ _ _ c.loop-headers.invariant (c.len-last.result - 1) c.index.result.now _ l s c.index.ensures _
    (omega (arith, w, c.if-left-run.false, c.if-left-own.false, c.len-own.ensures, c.len-in-loop-headers.ensures, c.loop-headers.gathered.ok)))

pub returns : goal.returns
returns c =
    let n : length c.loop-headers.headers.items < suc c.args.first = omega (arith, c.len.ensures, c.loop-headers-test.false, c.loop-headers.headers.ok) in
    let a = all_left _ _ _ _ _ _ _ c.loop-headers.invariant (omega arith) in
    rw c.truncate-2.ensures.items (cut_all _ _ _ _ _ _ _ c.loop-headers.invariant (omega arith) _ c.args.count c.loop-headers.left refl (omega (arith, a, c.len-2.ensures, c.loop-headers.gathered.ok)))

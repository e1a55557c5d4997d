use Rattle.std.proofs.Common.{◌+◌, ◌-◌, ◌≡◌, ◌≤◌, length, arith}
use lib.Lanes.{chunk, put_chunk}
use Rattle.rasn_enc.specs.Buffer.Moves.{Moves}
use Rattle.rasn_enc.proofs.Buffer.Moves.{moves-none, moves-block, moves-then}
use Rattle.rasn_enc.proofs.ber.enc.writer.rendering.move_blocks.Goals as goal

pub loop-left-init : goal.loop-left-init
loop-left-init g c = record { low = c.requires.order; high = omega arith; moved = moves-none c.args.buffer.now c.args.end c.args.by c.requires.within }

pub loop-left-preserved : goal.loop-left-preserved
loop-left-preserved g c =
    let xs = c.args.buffer.now in
    let ys = c.loop-left.buffer in
    let k = c.loop-left.left - g.row.N in
    let t = c.loop-left-test.true in
    let i = c.loop-left.invariant in
    let h = i.high in
    let w = c.requires.within in
    let l = c.loop-left.auto.buffer in
    let e : k + g.row.N ≡ c.loop-left.left = omega (arith, t) in
    let room : k + g.row.N + c.args.by ≤ length ys = omega (arith, e, h, w, l) in
    let one : Moves ys (put_chunk (k + c.args.by) ys (chunk k g.row.N ys)) k c.loop-left.left c.args.by = rw e at (moves-block ys k g.row.N c.args.by room) in
    record {
      low = omega (arith, t);
      high = omega (arith, h);
      moved = moves-then xs ys _ k c.loop-left.left c.args.end c.args.by (omega (arith, e)) h w i.moved one;
    }

use Rattle.std.proofs.Common.{arith}
use Rattle.rasn_enc.proofs.Buffer.Rendered.{length-rendered}
use Rattle.rasn_enc.proofs.ber.enc.writer.rendering.rendered_in.Goals as goal

pub grow-requires : goal.grow-requires
grow-requires c =
    let l = length-rendered c.args.gathered.items 0 c.args.headers.now c.requires.rising in
    let m = c.requires.measure in
    omega (arith, l, m)

pub render-requires-clause-room : goal.render-requires-clause-room
render-requires-clause-room c =
    let l = length-rendered c.args.gathered.items 0 c.args.headers.now c.requires.rising in
    let m = c.requires.measure in
    let g = c.in_ok-grow.ensures.len in
    let n = c.len-count.ensures in
    omega (arith, l, m, g, n, c.grow.new.buffer.ok, c.args.gathered.ok)

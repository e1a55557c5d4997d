use Rattle.std.proofs.Common.{arith, ap, length}
use Rattle.rasn_enc.proofs.Buffer.Rendered.{rising-lower}
use Rattle.rasn_enc.proofs.Buffer.Steps.{length-rendered-behind, rendered-from}
use Rattle.rasn_enc.proofs.ber.enc.writer.rendering.rendered_from.Goals as goal

pub rendered_in-requires-clause-rising : goal.rendered_in-requires-clause-rising
rendered_in-requires-clause-rising c = rising-lower 0 c.args.start c.args.headers.now _ (omega arith) c.requires.rising

pub rendered_in-requires-clause-measure : goal.rendered_in-requires-clause-measure
rendered_in-requires-clause-measure c =
    let l = length-rendered-behind c.args.gathered.items c.args.start c.args.headers.now c.requires.rising in
    omega (arith, l, c.in-Some.ensures, c.requires.measure)

pub cut_front-requires : goal.cut_front-requires
cut_front-requires c =
    let l = length-rendered-behind c.args.gathered.items c.args.start c.args.headers.now c.requires.rising in
    let e = ap length c.in_ok-octets.ensures in
    omega (arith, l, e)

pub returns : goal.returns
returns c = rendered-from c.args.gathered.items _ _ c.args.start c.args.headers.now c.requires.rising c.in_ok-octets.ensures c.cut_front.ensures

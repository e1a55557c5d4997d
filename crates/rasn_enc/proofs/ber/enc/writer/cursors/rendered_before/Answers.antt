use Rattle.std.proofs.Common.{◌∙◌, ◌≡◌, ◌∷◌}
use Rattle.rasn_enc.specs.Buffer.Cursors.{ahead, Placed}
use Rattle.rasn_enc.proofs.Buffer.Cursors.{compare-more}
use Rattle.rasn_enc.proofs.ber.enc.writer.cursors.rendered_before.Goals as goal

pub loop-count-preserved : goal.loop-count-preserved
loop-count-preserved c =
    let p : (ahead c.args.gathered.now c.args.headers.now c.loop-count.b ≡ c.in-Some.y ∷ ahead c.args.gathered.now c.args.headers.now c.in-Some.more) × Placed c.args.gathered.now c.args.headers.now c.in-Some.more = c.in-Some.ensures in
    let q : (ahead c.args.gathered.now c.args.headers.now c.loop-count.a ≡ c.in-Some-next.x ∷ ahead c.args.gathered.now c.args.headers.now c.in-Some-next.rest) × Placed c.args.gathered.now c.args.headers.now c.in-Some-next.rest = c.in-Some-next.ensures in
    record {
      left = q.1;
      right = p.1;
      same = compare-more _ _ _ _ c.in-Some-next.x c.in-Some.y c.loop-count.count q.0 p.0 c.loop-count-test.true c.if-x-y-2.false ∙ c.loop-count.invariant.same;
    }

use Rattle.std.proofs.Common.{arith, ap, length, ◌-◌, sym}
use Rattle.rasn_text.proofs.PemLines.{one_skipped, no_more, is_next}
use Rattle.rasn_text.proofs.pem.line_start.Goals as goal

pub loop-line-preserved : goal.loop-line-preserved
loop-line-preserved c = (
  omega (arith, c.in-Some.ensures.fewer, c.loop-line.invariant.0),
  λ front rest b n. let (left, before, k) = c.loop-line.invariant.1 front rest b n in
      one_skipped c.loop-line.rest.now _ _ left rest c.loop-line.line c.args.number c.in-Some.ensures.parts.0 c.in-Some.ensures.parts.1 c.loop-line-test.true before k,
)

pub returns-in-None-clause-start : goal.returns-in-None-clause-start
returns-in-None-clause-start c = λ front rest b n. let (left, before, k) = c.loop-line.invariant.1 front rest b n in
    absurd (no_more c.loop-line.rest.now left rest c.loop-line.line c.args.number c.in-None.ensures.parts c.loop-line-test.true before k)

pub returns-clause-start : goal.returns-clause-start
returns-clause-start c = λ front rest b n. let (left, before, k) = c.loop-line.invariant.1 front rest b n in
    let same = is_next c.loop-line.rest.now left rest c.loop-line.line c.args.number c.loop-line-test.false before k in
    ap (λ l. length c.args.octets.now - length l) (sym same)

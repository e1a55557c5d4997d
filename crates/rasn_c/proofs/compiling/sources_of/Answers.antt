use Rattle.std.proofs.Common.{subst, arith, ap, sym, ◌∙◌, map}
use Rattle.std.proofs.lemmas.List.{get_or_default, take_all}
use Rattle.std.proofs.lemmas.List.Elements.{All-from_all_within, AllWithin-more, AllWithin-upto}
use Rattle.rasn_c.specs.Compiling.{IsText, AreNoTexts, source_parts, text_parts}
use Rattle.rasn_c.specs.declared.status.Status.TheVariants.{Refused}
use Rattle.rasn_c.proofs.Ends.{by_status}
use Rattle.rasn_c.proofs.Compiled.{one_more_source, pushed}
use Rattle.rasn_c.proofs.compiling.sources_of.Goals as goal

pub returns-in_default : goal.returns-in_default
returns-in_default c =
    by_status (AreNoTexts c.args.texts.now) c.stop_of.result Refused c.stop_of.ensures (λ all. c.in_default.ensures (all c.loop-text.text-index _ (let n = c.loop-text-test.true in omega (arith, n)))) tt

pub returns : goal.returns
returns c =
    let past = c.loop-text-test.false in (
      All-from_all_within IsText c.args.texts.now (AllWithin-upto IsText c.args.texts.now 0 c.loop-text.text-index _ (omega (arith, past)) c.loop-text.invariant.are),
      c.loop-text.invariant.made ∙ ap (map text_parts) (take_all c.loop-text.text-index c.args.texts.now (omega (arith, past))),
    )

pub loop-text-preserved : goal.loop-text-preserved
loop-text-preserved c =
    let inside = c.loop-text-test.true in
    record {
      are = AllWithin-more IsText c.args.texts.now 0 c.loop-text.text-index c.loop-text.invariant.are (λ d. subst IsText (get_or_default c.args.texts.now c.loop-text.text-index _ d (omega (arith, inside))) c.in-Some.ensures.0);
      made = ap (map source_parts) (pushed c.push.result _ _ _ (sym c.is_err.ensures.value ∙ c.if-is_err.false) c.push.ensures.items) ∙ one_more_source c.args.texts.now c.loop-text.sources.items c.loop-text.text-index _ c.in-Some.source (omega (arith, inside)) c.in-Some.ensures.1 c.loop-text.invariant.made;
    }

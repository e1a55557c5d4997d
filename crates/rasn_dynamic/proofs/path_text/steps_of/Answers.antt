use Rattle.std.proofs.Common.{◌≡◌, sym, ◌∙◌, subst}
use Rattle.std.specs.List.{AllByRecursion}
use Rattle.rasn_dynamic.specs.PathText.{IsPlain}
use Rattle.rasn_dynamic.proofs.PathTexts.{is_nil, nil_test, no_steps, goes_on, text_goes_on, all_push, is_plain, after_step, not_empty}
use Rattle.rasn_dynamic.proofs.path_text.steps_of.Goals as goal

pub returns-in_default : goal.returns-in_default
returns-in_default c =
    let first : c.is_empty-in-loop-rest.result ≡ is_nil c.loop-rest.steps.items = c.is_empty-in-loop-rest.ensures ∙ nil_test c.loop-rest.steps.items c.loop-rest.steps.len (sym c.loop-rest.steps.ok.0) in
    no_steps c.args.text.now c.loop-rest.steps.items c.loop-rest.rest.now (not_empty c.loop-rest.rest.now c.is_empty.result c.is_empty.ensures c.loop-rest-test.true) (rw first at (rw c.in_default.is at c.first_step.ensures)) c.loop-rest.invariant.goes_on

pub loop-rest-preserved : goal.loop-rest-preserved
loop-rest-preserved c =
    let first : c.is_empty-in-loop-rest.result ≡ is_nil c.loop-rest.steps.items = c.is_empty-in-loop-rest.ensures ∙ nil_test c.loop-rest.steps.items c.loop-rest.steps.len (sym c.loop-rest.steps.ok.0) in
    let step = rw first at c.in-Some.ensures in
    let before = c.loop-rest.steps.items in
    let more = c.in_ok-push.ensures.items in
    record {
      utf8 = after_step (is_nil before) c.loop-rest.rest.now c.in-Some.step c.in-Some.after.now c.loop-rest.invariant.utf8 step;
      plain = subst (AllByRecursion IsPlain) (sym more) (all_push IsPlain before c.in-Some.step c.loop-rest.invariant.plain (is_plain (is_nil before) c.loop-rest.rest.now c.in-Some.step c.in-Some.after.now step));
      text_is = rw more (text_goes_on c.args.text.now before c.in-Some.step c.loop-rest.rest.now c.in-Some.after.now step c.loop-rest.invariant.text_is);
      goes_on = rw more (goes_on c.args.text.now before c.in-Some.step c.loop-rest.rest.now c.in-Some.after.now step c.loop-rest.invariant.goes_on);
    }

use Rattle.rasn_dynamic.proofs.ChoicesInside.{popped, none_popped}
use Rattle.rasn_dynamic.proofs.nested.ascend.Goals as goal

pub loop-choice-preserved : goal.loop-choice-preserved
loop-choice-preserved g c = λ types s outer before h.
    popped types g.M.Made.KEEP outer s before _ _ _ _ c.in-Some.is c.pop.ensures.items _ _ _ _ _ _ _ _ (c.loop-choice.invariant types s outer before h) c.leave-read.ensures

pub returns : goal.returns
returns g c = λ types s outer before h.
    none_popped types g.M.Made.KEEP outer s before _ _ _ c.in_default.is c.pop.ensures.items _ _ c.pop.ensures.rest c.pop.ensures.cases _ _ _ _ _ (c.loop-choice.invariant types s outer before h)

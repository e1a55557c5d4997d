use Rattle.std.proofs.Common.{Ok, refl, sym, subst}
use Rattle.rasn_dynamic.specs.Making.{outcome}
use Rattle.rasn_dynamic.specs.Listed.{IsFinished}
use Rattle.rasn_dynamic.specs.Nested.{Leaves}
use Rattle.rasn_dynamic.proofs.nested.leave.Goals as goal

pub returns-in-Ok : goal.returns-in-Ok
returns-in-Ok g c =
    let a = c.args in
    subst (λ z. Leaves g.M.Made.KEEP a.choice a.index a.decoder.now (outcome z a.out.now a.walk.now.error) a.walk.now.fault a.walk.now.spans (Ok c.choose.new.out) a.walk.now.fault c.finish.new.spans) (sym c.in_default.is)
    (c.in-Ok.ensures.ok, refl, subst (λ z. IsFinished a.choice.place z a.walk.now.spans c.finish.new.spans) c.remaining.ensures.value c.finish.ensures)

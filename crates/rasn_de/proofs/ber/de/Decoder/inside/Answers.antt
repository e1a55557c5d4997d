use Rattle.std.proofs.Common.{refl}
use Rattle.rasn_de.proofs.Constructed.Steps.{step_none, step_refused, step_end, step_unclosed, step_closed}
use Rattle.rasn_de.proofs.Leaves.Returns.{residual}
use Rattle.rasn_de.proofs.ber.de.Decoder.inside.Goals as goal

pub returns-in_err-inner-clause-exact : goal.returns-in_err-inner-clause-exact
returns-in_err-inner-clause-exact g c =
    rw (residual _ c.from_residual.ensures.1) (step_none _ c.args.header c.args.self.now _ _ c.in_err-inner.ensures.exact)

pub returns-in_err-value-clause-exact : goal.returns-in_err-value-clause-exact
returns-in_err-value-clause-exact g c =
    rw (residual _ c.from_residual-in_err-value.ensures.1) (step_refused _ c.args.header c.args.self.now _ _ _ c.in_ok-inner.ensures.exact _ _ (record { shown = _; shows = refl; left = _; met = c.in_err-value.ensures; leaves = refl }))

pub close-requires : goal.close-requires
close-requires g c =
    let k = c.requires.leaves _ _ _ (record { shown = _; shows = refl; left = _; met = c.in_ok-value.ensures; leaves = refl }) in
    step_end {D = Unit {0}} (λ s r n. Unit {0}) c.args.header c.args.self.now _ _ _ c.in_ok-inner.ensures.exact _ _ k c.remaining.ensures.value

pub returns-in_err-close-clause-exact : goal.returns-in_err-close-clause-exact
returns-in_err-close-clause-exact g c =
    rw (residual _ c.from_residual-in_err-close.ensures.1) (step_unclosed _ c.args.header c.args.self.now _ _ _ c.in_ok-inner.ensures.exact c.in_ok-value.value _ (record { shown = _; shows = refl; left = _; met = c.in_ok-value.ensures; leaves = refl }) _ c.remaining.ensures.value _ _ c.in_err-close.ensures)

pub returns-clause-exact : goal.returns-clause-exact
returns-clause-exact g c =
    step_closed _ c.args.header c.args.self.now _ _ _ c.in_ok-inner.ensures.exact c.in_ok-value.value _ (record { shown = _; shows = refl; left = _; met = c.in_ok-value.ensures; leaves = refl }) _ c.remaining.ensures.value _ c.in_ok-close.ensures

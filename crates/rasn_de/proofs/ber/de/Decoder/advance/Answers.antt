use Rattle.std.proofs.Common.{subst, sym}
use Rattle.rasn_de.specs.State.{State, IsEnd}
use Rattle.rasn_de.proofs.Headers.Ends.{IsEnd-trans}
use Rattle.rasn_de.proofs.ber.de.Decoder.advance.Goals as goal

pub invariant_of-self : goal.invariant_of-self
invariant_of-self c =
    let e : IsEnd c.self.inside.rest.now c.args.rest.now = let P : State → Type 0 = λ s. IsEnd s.rest c.args.rest.now in subst P (sym c.self.view_is) c.requires in
    IsEnd-trans _ _ _ c.self.invariant e

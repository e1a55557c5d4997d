-- One more element is read.
use Rattle.std.proofs.Common.{◌≡◌, ◌≢◌, List, [], ◌∷◌, ◌++◌, length, Ok, refl, sym, ap, ◌∙◌, subst}
use Rattle.rasn_types.specs.Framing.{Ended}
use Rattle.rasn_types.specs.Shapes.{Shape, Tree}
use Rattle.rasn_de.specs.State.{State, Call, at}
use Rattle.rasn_de.specs.Decodes.{Decodes}
use Rattle.rasn_de.specs.SequenceOf.{DecodesInTurn}
use Rattle.rasn_de.proofs.Leaves.Errors.{rule_is, same_at}

module _ {D : Type 0} (read : Call D) (here next : State) (v : D) (d : Ended here.closing here.rest → ⊥) (r : read here (Ok v) next) (n : length next.rest ≢ length here.rest) where
  behind : (old : State) (vs : List D) → DecodesInTurn read old vs here → DecodesInTurn read old (vs ++ v ∷ []) next
  behind old [] e =
      let t : (Ended old.closing old.rest → ⊥) × read old (Ok v) next × (length next.rest ≢ length old.rest) = subst (λ (x : State). (Ended x.closing x.rest → ⊥) × read x (Ok v) next × (length next.rest ≢ length x.rest)) e (d, r, n) in
      (next, t.0, t.1, t.2, refl)
  behind old (u ∷ vs) (m, e, q, k, p) = (m, e, q, k, behind m vs p)

  pub passes_more : (old : State) (vs us : List D) → us ≡ vs ++ v ∷ [] → DecodesInTurn read old vs here → DecodesInTurn read old us next
  passes_more old vs us e p = subst (λ l. DecodesInTurn read old l next) (sym e) (behind old vs p)

-- Where the read elements end, the rules are the same.
turn_stays : {D : Type 0} (s : Shape) (tree : D → Tree) (old here : State) (vs : List D) → DecodesInTurn (Decodes s tree) old vs here → here ≡ at old here.rest
turn_stays s tree old here [] e = same_at old here e
turn_stays s tree old here (v ∷ vs) (m, e, q, k, p) = turn_stays s tree m here vs p ∙ ap (λ (x : State). at x here.rest) q.stays

pub turn_rules : {D : Type 0} (s : Shape) (tree : D → Tree) (old here : State) (vs : List D) → DecodesInTurn (Decodes s tree) old vs here → here.rule ≡ old.rule
turn_rules s tree old here vs p = rule_is old here (turn_stays s tree old here vs p)

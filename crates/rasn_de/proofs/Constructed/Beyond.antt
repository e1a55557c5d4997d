-- What values hold beyond their trees, said of what is read one after the other and inside.
use Rattle.std.proofs.Common.{◌≡◌, ◌≢◌, ◌⊎◌, inl, inr, ℕ, Bool, List, [], ◌∷◌, ◌++◌, length, Option, Some, None, Result, Ok, Err, Vec, Global, refl, sym, subst, ap, arith}
use Rattle.std.specs.Prelude.{IfOk, Contains}
use Rattle.std.specs.Borrow.{Bor}
use Rattle.std.proofs.lemmas.List.Elements.{Contains-push, Contains-push_cases, Contains-append_left}
use Rattle.rasn_types.specs.Shapes.{Tree, Parts}
use Rattle.rasn_de.specs.SetPartTypes.{IsPlaced, IsOrDefault, IsStart, BeyondSet}
use Rattle.rasn_types.specs.declared.error.decode.DecodeError.{DecodeError}
use Rattle.rasn_de.specs.declared.ber.de.constructed.ConstructedHeader.{ConstructedHeader}
use Rattle.rasn_de.specs.State.{State, Call}
use Rattle.rasn_de.specs.Constructed.{DecodesInside}
use Rattle.rasn_de.specs.Beyond.{Beyond, got, BeyondDefault, BeyondElement, BeyondElements, BeyondMade, BeyondInside, BeyondSlot}

-- What is said of what is read inside.
pub inside_beyond : {D : Type 0} (beyond : Beyond D) (header : ConstructedHeader) (old : State) (r : Result D DecodeError) (new : State) → DecodesInside (λ o r n. IfOk r (λ v. beyond o v n)) header old r new
    → IfOk r (λ v. BeyondInside beyond header old v)
inside_beyond beyond header old (Ok v) new (k, f) = (f.header, f.opened, f.left, f.call)
inside_beyond beyond header old (Err e) new k = tt

-- One more element is read after the others.
behind : {D : Type 0} (element : Beyond D) (old here next : State) (vs : List D) (v : D) → BeyondElements element old vs here → element here v next → BeyondElements element old (vs ++ (v ∷ [])) next
behind element old here next [] v e k = (next, subst (λ s. element s v next) e k, refl)
behind element old here next (u ∷ vs) v (mid, h, p) k = (mid, h, behind element mid here next vs v p k)

pub beyond_more : {D : Type 0} (element : Beyond D) (old here next : State) (vs us : List D) → BeyondElements element old vs here → BeyondElement element here vs us next → BeyondElements element old us next
beyond_more element old here next vs us p (v, e, k) = subst (λ l. BeyondElements element old l next) (sym e) (behind element old here next vs v p k)

-- What a function makes of components.
pub made_beyond : {F D : Type 0} (component : Beyond F) (made : Vec F Global → Result D DecodeError → Type 0) (old new : State) (fields : Vec F Global) (r : Result D DecodeError)
    → BeyondElements component old fields.items new → made fields r → IfOk r (λ v. BeyondMade component made old v new)
made_beyond component made old new fields (Ok v) h m = (fields, h, m)
made_beyond component made old new fields (Err e) h m = tt

-- A default that is made consumes nothing.
pub default_beyond : {D : Type 0} (part : Beyond D) (old : State) (r : Result D DecodeError) → IfOk r (λ v. BeyondDefault part old v old)
default_beyond part old (Ok v) = inr refl
default_beyond part old (Err e) = tt

-- What is said of a call is said of the value that it returns.
pub in_ok : {D : Type 0} (call : Call D) (old : State) (r : Result D DecodeError) (new : State) → call old r new → IfOk r (λ v. got call old v new)
in_ok call old (Ok v) new k = k
in_ok call old (Err e) new k = tt

-- A value that is put into an empty slot was read here.
pub slot_placed : {A : Type 0} (part : Beyond A) (starts : List State) (old next : State) (before : Option A) (v : A) (name : List ℕ) (r : Option (Bor (List ℕ))) (after : Option A) → IsPlaced before v name r after
    → Contains starts old → part old v next → BeyondSlot part starts before → BeyondSlot part starts after
slot_placed part starts old next before v name None after (n, e) c k b = subst (λ s. BeyondSlot part starts s) (sym e) (old, c, next, k)
slot_placed part starts old next before v name (Some told) after (n, e, m) c k b = subst (λ s. BeyondSlot part starts s) (sym e) b

-- A value that takes octets isn't one that is made.
pub default_read : {A : Type 0} (part : Beyond A) (old next : State) (v : A) → BeyondDefault part old v next → length next.rest ≢ length old.rest → part old v next
default_read part old next v (inl k) n = k
default_read part old next v (inr e) n = absurd (n (ap (λ (s : State). length s.rest) e))

-- The value of a slot, or a default.
pub slot_or_default : {A : Type 0} (part : Beyond A) (tree : A → Tree) (d : Tree) (starts : List State) (slot : Option A) (v : A) → IsOrDefault tree d slot (Ok v) → BeyondSlot part starts slot
    → BeyondSlot part starts (Some v) ⊎ (tree v ≡ d)
slot_or_default part tree d starts slot v (inl e) b = inl (subst (λ s. BeyondSlot part starts s) e b)
slot_or_default part tree d starts slot v (inr (n, e)) b = inr e

-- The other slots stay.
pub ok_also : {X : Type 0} (P Q : Type 0) (r : Result X DecodeError) → P → IfOk r (λ x. Q) → IfOk r (λ x. P × Q)
ok_also P Q (Ok x) p q = (p, q)
ok_also P Q (Err e) p q = tt

-- The values in the slots were read at these states, where components begin.
module _ {S : Type 0} (extensible : Bool) (ps : Parts) (kept : List State → S → Type 0) (old : State) where
  abbrev pub Keeping : S → Type 0
  Keeping slots = (starts : List State) × ((s : State) → Contains starts s → IsStart extensible ps old s) × ((more : List State) → ((s : State) → Contains starts s → Contains more s) → kept more slots)

  pub none_kept : (slots : S) → ((more : List State) → kept more slots) → Keeping slots
  none_kept slots h = ([], λ s m. absurd (omega (arith, m.1)), λ more w. h more)

  pub more_kept : (here : State) (slots after : S) → Keeping slots → IsStart extensible ps old here → ((more : List State) → Contains more here → kept more slots → kept more after) → Keeping after
  more_kept here slots after (starts, f, k) i step = (
    starts ++ here ∷ [],
    λ s m. elim (Contains-push_cases starts here s m) [ inl a ↦ f s a | inr e ↦ subst (λ z. IsStart extensible ps old z) e i ],
    λ more w. step more (w here (Contains-push starts here)) (k more (λ s m. w s (Contains-append_left starts (here ∷ []) s m))),
  )

  pub all_kept : {D : Type 0} (beyond : List State → D → Type 0) (slots : S) (r : Result D DecodeError) (new : State) → Keeping slots → ((starts : List State) → kept starts slots → IfOk r (λ v. beyond starts v))
      → IfOk r (λ v. BeyondSet extensible ps beyond old v new)
  all_kept beyond slots (Ok v) new (starts, f, k) h = (starts, f, h starts (k starts (λ s m. m)))
  all_kept beyond slots (Err e) new k h = tt

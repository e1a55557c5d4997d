-- Elements are read one by one, up to the end.
use Rattle.std.proofs.Common.{◌≡◌, inl, inr, ℕ, suc, ◌+◌, Bool, List, [], ◌∷◌, ◌++◌, length, map, Ok, Err, refl, sym, ap, ◌∙◌, subst, arith, append_assoc, length-append}
use Rattle.std.proofs.lemmas.List.{append-nil}
use Rattle.rasn_types.specs.declared.error.decode.DecodeError.{DecodeError}
use Rattle.rasn_types.specs.declared.error.decode.DecodeErrorKind.TheVariants.{OutOfMemory}
use Rattle.rasn_types.specs.Framing.{Ended}
use Rattle.rasn_types.specs.Shapes.{Tree, Shape, items}
use Rattle.rasn_types.specs.Readings.{Reading, ReadsMany}
use Rattle.rasn_types.specs.Grammar.{Reads}
use Rattle.rasn_de.specs.Decodes.{Decodes, DecodesBy}
use Rattle.rasn_de.specs.SequenceOf.{ReadsElements, FailsAtElement}
use Rattle.rasn_types.specs.Trees.{list_tree}
use Rattle.rasn_de.specs.Outcomes.{Exact, Outcome, Got, refusal}
use Rattle.rasn_de.specs.State.{State, at, IsEnd}
use Rattle.rasn_de.proofs.Leaves.Outcomes.{Exact-none, Exact-refusal}
use Rattle.rasn_de.proofs.Headers.Ends.{IsEnd-trans}

module _ (R : Reading Tree) (closing : Bool) where
  abbrev pub Items : Reading Tree
  Items input t rest = (ts : List Tree) × (t ≡ items ts) × ReadsMany R closing input ts rest

  -- Up to here these were read, and nothing else can have been.
  pub record Passed (start here : List ℕ) (before : List Tree) : Type 0 where
    pub on : (us : List Tree) (r : List ℕ) → ReadsMany R closing here us r → ReadsMany R closing start (before ++ us) r
    pub back : (ts : List Tree) (r : List ℕ) → ReadsMany R closing start ts r → (us : List Tree) × (ts ≡ before ++ us) × ReadsMany R closing here us r

  pub passed_start : (l : List ℕ) → Passed l l []
  passed_start l = record { on = λ us r m. m; back = λ ts r m. (ts, refl, m) }

  many_one : (input : List ℕ) (t : Tree) (middle : List ℕ) → (Ended closing input → ⊥) → ((u : Tree) (s : List ℕ) → R input u s → (u ≡ t) × (s ≡ middle)) → (us : List Tree) (r : List ℕ)
      → ReadsMany R closing input us r → (vs : List Tree) × (us ≡ t ∷ vs) × ReadsMany R closing middle vs r
  many_one input t middle n one [] r m = absurd (n m.0)
  many_one input t middle n one (u ∷ us) r (k, s, x, m) =
      let o = one u s x in
      (us, ap (λ z. z ∷ us) o.0, subst (λ z. ReadsMany R closing z us r) o.1 m)

  pub passed_next : (start here : List ℕ) (before : List Tree) (t : Tree) (middle : List ℕ) → Passed start here before → (Ended closing here → ⊥) → Exact R here (Got t middle)
      → Passed start middle (before ++ (t ∷ []))
  passed_next start here before t middle p n x = record {
    on = λ us r m. subst (λ z. ReadsMany R closing start z r) (sym (append_assoc before (t ∷ []) us)) (p.on (t ∷ us) r (n, middle, x.0, m));
    back = λ ts r m.
        let b = p.back ts r m in
        let o = many_one here t middle n x.1 b.0 r b.2 in
        (o.0, b.1 ∙ ap (λ z. before ++ z) o.1 ∙ sym (append_assoc before (t ∷ []) o.0), o.2);
  }

  many_ended : (input : List ℕ) → Ended closing input → (us : List Tree) (r : List ℕ) → ReadsMany R closing input us r → (us ≡ []) × (r ≡ input)
  many_ended input e [] r m = (refl, m.1)
  many_ended input e (u ∷ us) r m = absurd (m.0 e)

  pub passed_end : (start here : List ℕ) (before : List Tree) → Passed start here before → Ended closing here → Exact Items start (Got (items before) here)
  passed_end start here before p e =
      ((before ++ [], ap items (sym (append-nil before)), p.on [] here (e, refl)), λ u s k. only u s k)
    where
      only : (u : Tree) (s : List ℕ) → Items start u s → (u ≡ items before) × (s ≡ here)
      only u s (ts, q, m) =
          let b = p.back ts s m in
          let o = many_ended here e b.0 s b.2 in
          (q ∙ ap items (b.1 ∙ ap (λ z. before ++ z) o.0 ∙ append-nil before), o.1)

  pub passed_none : (start here : List ℕ) (before : List Tree) → Passed start here before → (Ended closing here → ⊥) → ((u : Tree) (s : List ℕ) → R here u s → ⊥) → (t : Tree) (r : List ℕ) → Items start t r → ⊥
  passed_none start here before p n none t r (ts, q, m) = let b = p.back ts r m in go b.0 b.2
    where
      go : (us : List Tree) → ReadsMany R closing here us r → ⊥
      go [] k = n k.0
      go (u ∷ us) (k, s, x, j) = none u s x

  -- An element that consumes nothing would be read again and again.
  unparsable : (here : List ℕ) (t : Tree) → (Ended closing here → ⊥) → ((u : Tree) (s : List ℕ) → R here u s → (u ≡ t) × (s ≡ here)) → (us : List Tree) (r : List ℕ) → ReadsMany R closing here us r → ⊥
  unparsable here t n one [] r m = n m.0
  unparsable here t n one (u ∷ us) r (k, s, x, m) = unparsable here t n one us r (subst (λ z. ReadsMany R closing z us r) (one u s x).1 m)

  pub passed_unparsable : (start here : List ℕ) (before : List Tree) (t : Tree) → Passed start here before → (Ended closing here → ⊥) → Exact R here (Got t here) → (u : Tree) (r : List ℕ) → Items start u r → ⊥
  passed_unparsable start here before t p n x u r (ts, q, m) = let b = p.back ts r m in unparsable here t n x.1 b.0 r b.2

-- What is at the end of a list and is as long is the list.
same_end : (l r : List ℕ) → IsEnd l r → length r ≡ length l → r ≡ l
same_end l r ([], e) n = sym e
same_end l r (b ∷ front, e) n = absurd (let k : length l ≡ suc (length front + length r) = ap length e ∙ ap suc (length-append front r) in omega arith)

-- Elements on a decoder: old is where they begin, here is where the read ones end.
module _ {D : Type 0} (s : Shape) (tree : D → Tree) (old : State) where
  abbrev pub Come : State → List D → Type 0
  Come here vs = (here ≡ at old here.rest) × IsEnd old.rest here.rest × Passed (Reads old.rule s old.depth old.closing) old.closing old.rest here.rest (map tree vs)

  not_ended : (here : State) (vs : List D) → Come here vs → (Ended here.closing here.rest → ⊥) → Ended old.closing here.rest → ⊥
  not_ended here vs a n e = n (subst (λ (z : State). Ended z.closing here.rest) (sym a.0) e)

  pub exact_at : (here : State) (vs : List D) → Come here vs → (o : Outcome) → Exact (Reads here.rule s here.depth here.closing) here.rest o → Exact (Reads old.rule s old.depth old.closing) here.rest o
  exact_at here vs a o x = subst (λ (z : State). Exact (Reads z.rule s z.depth z.closing) here.rest o) a.0 x

  -- the state after one more call
  after : (here : State) (vs : List D) → Come here vs → (new : State) → new ≡ at here new.rest → IsEnd here.rest new.rest → (new ≡ at old new.rest) × IsEnd old.rest new.rest
  after here vs a new k e = (k ∙ ap (λ (z : State). at z new.rest) a.0, IsEnd-trans old.rest here.rest new.rest a.1 e)

  element_refused : {L : Type 0} (trees : L → Tree) (here : State) (vs : List D) → Come here vs → (Ended here.closing here.rest → ⊥) → (e : DecodeError) (new : State) → Decodes s tree here (Err e) new
      → DecodesBy (ReadsElements s) trees old (Err e) new
  unfolding ReadsElements
  element_refused trees here vs a n e new k =
      let w = after here vs a new k.stays k.end in
      record {
        stays = w.0;
        end = w.1;
        exact = Exact-refusal e.kind (Reads old.rule s old.depth old.closing) (ReadsElements s old.rule old.depth old.closing) here.rest old.rest
            (λ none. passed_none (Reads old.rule s old.depth old.closing) old.closing old.rest here.rest (map tree vs) a.2 (not_ended here vs a n) none)
            (exact_at here vs a (refusal e.kind) k.exact);
      }

  element_unparsable : {L : Type 0} (trees : L → Tree) (here : State) (vs : List D) → Come here vs → (Ended here.closing here.rest → ⊥) → (v : D) (new : State) → Decodes s tree here (Ok v) new
      → length new.rest ≡ length here.rest → (e : DecodeError) → DecodesBy (ReadsElements s) trees old (Err e) new
  unfolding ReadsElements
  element_unparsable trees here vs a n v new k l e =
      let w = after here vs a new k.stays k.end in
      let x = exact_at here vs a (Got (tree v) new.rest) k.exact in
      let y : Exact (Reads old.rule s old.depth old.closing) here.rest (Got (tree v) here.rest) = subst (λ z. Exact (Reads old.rule s old.depth old.closing) here.rest (Got (tree v) z)) (same_end here.rest new.rest k.end l) x in
      record {
        stays = w.0;
        end = w.1;
        exact = Exact-none e.kind (ReadsElements s old.rule old.depth old.closing) old.rest
            (passed_unparsable (Reads old.rule s old.depth old.closing) old.closing old.rest here.rest (map tree vs) (tree v) a.2 (not_ended here vs a n) y);
      }

  pub element_read : (here : State) (vs : List D) → Come here vs → (Ended here.closing here.rest → ⊥) → (v : D) (new : State) → Decodes s tree here (Ok v) new → (us : List D) → us ≡ vs ++ (v ∷ []) → Come new us
  element_read here vs a n v new k us m =
      let w = after here vs a new k.stays k.end in
      let x = exact_at here vs a (Got (tree v) new.rest) k.exact in
      let p = passed_next (Reads old.rule s old.depth old.closing) old.closing old.rest here.rest (map tree vs) (tree v) new.rest a.2 (not_ended here vs a n) x in
      (w.0, w.1, subst (Passed (Reads old.rule s old.depth old.closing) old.closing old.rest new.rest) (sym (ap (map tree) m ∙ mapped vs v)) p)
    where
      mapped : (l : List D) (u : D) → map tree (l ++ (u ∷ [])) ≡ map tree l ++ (tree u ∷ [])
      mapped [] u = refl
      mapped (b ∷ l) u = ap (λ z. tree b ∷ z) (mapped l u)

  pub elements_end : {L : Type 0} (trees : L → Tree) (here : State) (vs : List D) → Come here vs → Ended here.closing here.rest → (v : L) → trees v ≡ list_tree tree vs → DecodesBy (ReadsElements s) trees old (Ok v) here
  unfolding ReadsElements
  elements_end trees here vs a e v m = record {
    stays = a.0;
    end = a.1;
    exact = subst (λ t. Exact (ReadsElements s old.rule old.depth old.closing) old.rest (Got t here.rest)) (sym m)
        (passed_end (Reads old.rule s old.depth old.closing) old.closing old.rest here.rest (map tree vs) a.2 (subst (λ (z : State). Ended z.closing here.rest) a.0 e));
  }

  elements_alloc_failed : {L : Type 0} (trees : L → Tree) (here : State) (vs : List D) → Come here vs → (v : D) (new : State) → Decodes s tree here (Ok v) new → (e : DecodeError) → e.kind ≡ OutOfMemory
      → DecodesBy (ReadsElements s) trees old (Err e) new
  elements_alloc_failed trees here vs a v new k e m =
      let w = after here vs a new k.stays k.end in
      record { stays = w.0; end = w.1; exact = subst (λ z. Exact (ReadsElements s old.rule old.depth old.closing) old.rest (refusal z)) (sym m) tt }

  pub element_stops : {L : Type 0} (trees : L → Tree) (here : State) (vs : List D) → Come here vs → (Ended here.closing here.rest → ⊥) → (e : DecodeError) (new : State) → FailsAtElement (Decodes s tree) here e new
      → DecodesBy (ReadsElements s) trees old (Err e) new
  element_stops trees here vs a n e new (inl k) = element_refused trees here vs a n e new k
  element_stops trees here vs a n e new (inr (v, k, inl (l, w))) = element_unparsable trees here vs a n v new k l e
  element_stops trees here vs a n e new (inr (v, k, inr w)) = elements_alloc_failed trees here vs a v new k e (ap (λ (x : DecodeError). x.kind) w)

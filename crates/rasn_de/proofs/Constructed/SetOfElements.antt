-- The elements of a SET OF are read one by one, each from its octets.
use Rattle.std.proofs.Common.{◌≡◌, ◌≢◌, ℕ, List, [], ◌∷◌, ◌++◌, length, map, Ok, Err, inl, inr, refl, sym, ap, ◌∙◌, subst, append_assoc}
use Rattle.std.proofs.lemmas.List.{append-nil, append_cancel_right}
use Rattle.rasn_types.proofs.SetOf.Same.{items_one}
use Rattle.rasn_types.specs.declared.error.decode.DecodeError.{DecodeError}
use Rattle.rasn_types.specs.Framing.{Ended}
use Rattle.rasn_types.specs.Tags.{IsStrict}
use Rattle.rasn_types.specs.Order.{IsLess, AreAscending}
use Rattle.rasn_types.specs.Shapes.{Tree, Shape, items, set_elements}
use Rattle.rasn_types.specs.Readings.{Reading, ReadsMany, ReadsFrom}
use Rattle.rasn_types.specs.Grammar.{Reads}
use Rattle.rasn_types.specs.Trees.{list_tree}
use Rattle.rasn_de.specs.Decodes.{Decodes, DecodesBy}
use Rattle.rasn_de.specs.SequenceOf.{ReadsElements, ReadsSetElements, DecodesInTurn, DecodesInTurnFrom, FailsAtElement, IsOutOfOrder, DecodesElements, DecodesElementsInOrder}
use Rattle.rasn_de.specs.Outcomes.{Exact, Got}
use Rattle.rasn_de.specs.State.{State, at, IsEnd, Call, EachCall}
use Rattle.rasn_de.proofs.Leaves.Outcomes.{Exact-none, Exact-refusal}
use Rattle.rasn_de.proofs.Headers.Ends.{IsEnd-refl}
use Rattle.rasn_de.proofs.Constructed.Elements.{passed_start, Come, exact_at, element_stops, element_read, elements_end}
use Rattle.rasn_types.proofs.SetOf.Ascending.{fall_front}

module _ (R : Reading Tree) where
  -- Up to here these were read from these octets, and from no others.
  pub record Ran (start here : List ℕ) (before : List Tree) (pieces : List (List ℕ)) : Type 0 where
    pub on : (us : List Tree) (r : List ℕ) (bs : List (List ℕ)) → ReadsFrom R here us r bs → ReadsFrom R start (before ++ us) r (pieces ++ bs)
    pub back : (us : List Tree) (r : List ℕ) (bs : List (List ℕ)) → ReadsFrom R start (before ++ us) r bs → (more : List (List ℕ)) × (bs ≡ pieces ++ more) × ReadsFrom R here us r more

  ran_start : (l : List ℕ) → Ran l l [] []
  ran_start l = record { on = λ us r bs k. k; back = λ us r bs k. (bs, refl, k) }

  ran_next : (start here : List ℕ) (before : List Tree) (pieces : List (List ℕ)) (t : Tree) (middle b : List ℕ) → Ran start here before pieces → here ≡ b ++ middle → Exact R here (Got t middle)
      → Ran start middle (before ++ (t ∷ [])) (pieces ++ (b ∷ []))
  ran_next start here before pieces t middle b p e x = record {
    on = λ us r bs k. subst (λ z. ReadsFrom R start z r ((pieces ++ (b ∷ [])) ++ bs)) (sym (append_assoc before (t ∷ []) us))
        (subst (λ z. ReadsFrom R start (before ++ t ∷ us) r z) (sym (append_assoc pieces (b ∷ []) bs)) (p.on (t ∷ us) r (b ∷ bs) (b, bs, middle, refl, e, x.0, k)));
    back = λ us r bs k. go us r bs (p.back (t ∷ us) r bs (subst (λ z. ReadsFrom R start z r bs) (append_assoc before (t ∷ []) us) k));
  }
    where
      go : (us : List Tree) (r : List ℕ) (bs : List (List ℕ)) → (more : List (List ℕ)) × (bs ≡ pieces ++ more) × ReadsFrom R here (t ∷ us) r more
          → (more : List (List ℕ)) × (bs ≡ (pieces ++ (b ∷ [])) ++ more) × ReadsFrom R middle us r more
      go us r bs (more, m, (c, rest, mid, f, g, y, z)) =
          let o = (x.1 t mid y).1 in
          let q : c ≡ b = append_cancel_right c b mid (sym g ∙ e ∙ ap (λ l. b ++ l) (sym o)) in
          (rest, m ∙ ap (λ l. pieces ++ l) (f ∙ ap (λ a. a ∷ rest) q) ∙ sym (append_assoc pieces (b ∷ []) rest), subst (λ l. ReadsFrom R l us r rest) o z)

module _ {D : Type 0} (s : Shape) (tree : D → Tree) where
  abbrev pub R : State → Reading Tree
  R old = Reads old.rule s old.depth old.closing

  -- old is where elements begin, here is where the read ones end
  pub record Came (old here : State) (vs : List D) (bs : List (List ℕ)) : Type 0 where
    pub come : Come s tree old here vs
    pub ran : Ran (R old) old.rest here.rest (map tree vs) bs

  came_start : (old : State) → Came old old [] []
  came_start old = record { come = (refl, IsEnd-refl old.rest, passed_start (R old) old.closing old.rest); ran = ran_start (R old) old.rest }

  mapped : (l : List D) (u : D) → map tree (l ++ (u ∷ [])) ≡ map tree l ++ (tree u ∷ [])
  mapped [] u = refl
  mapped (b ∷ l) u = ap (λ z. tree b ∷ z) (mapped l u)

  came_next : (old here : State) (vs : List D) (bs : List (List ℕ)) → Came old here vs bs → (Ended here.closing here.rest → ⊥) → (v : D) (new : State) → Decodes s tree here (Ok v) new
      → (b : List ℕ) → here.rest ≡ b ++ new.rest → Came old new (vs ++ (v ∷ [])) (bs ++ (b ∷ []))
  came_next old here vs bs k n v new d b e = record {
    come = element_read s tree old here vs k.come n v new d (vs ++ (v ∷ [])) refl;
    ran = subst (λ z. Ran (R old) old.rest new.rest z (bs ++ (b ∷ []))) (sym (mapped vs v))
        (ran_next (R old) old.rest here.rest (map tree vs) bs (tree v) new.rest b k.ran e (exact_at s tree old here vs k.come (Got (tree v) new.rest) d.exact));
  }

  came_on : (old here : State) (vs : List D) (bs : List (List ℕ)) → Came old here vs bs → (us : List D) (more : List (List ℕ)) (new : State) → DecodesInTurnFrom (Decodes s tree) here us more new
      → Came old new (vs ++ us) (bs ++ more)
  came_on old here vs bs k [] more new (e, f) =
      subst (λ z. Came old z (vs ++ []) (bs ++ more)) (sym f) (subst (λ z. Came old here (vs ++ []) (bs ++ z)) (sym e)
      (subst (λ z. Came old here z (bs ++ [])) (sym (append-nil vs)) (subst (λ z. Came old here vs z) (sym (append-nil bs)) k)))
  came_on old here vs bs k (u ∷ us) more new (b, bs2, next, e, f, n, d, l, p) =
      let q = came_on old next (vs ++ (u ∷ [])) (bs ++ (b ∷ [])) (came_next old here vs bs k n u next d b f) us bs2 new p in
      subst (λ z. Came old new (vs ++ u ∷ us) (bs ++ z)) (sym e)
      (subst (λ z. Came old new (vs ++ u ∷ us) z) (append_assoc bs (b ∷ []) bs2) (subst (λ z. Came old new z ((bs ++ (b ∷ [])) ++ bs2)) (append_assoc vs (u ∷ []) us) q))

  pub came : (old here : State) (vs : List D) (bs : List (List ℕ)) → DecodesInTurnFrom (Decodes s tree) old vs bs here → Came old here vs bs
  came old here vs bs p = came_on old old [] [] (came_start old) vs bs here p

  -- Each element was read from octets, which its call says.
  from_passes : (old here : State) (vs : List D) → DecodesInTurn (Decodes s tree) old vs here → (bs : List (List ℕ)) × DecodesInTurnFrom (Decodes s tree) old vs bs here
  from_passes old here [] e = ([], (refl, e))
  from_passes old here (v ∷ vs) (next, n, d, l, p) = let k = from_passes next here vs p in (d.end.0 ∷ k.0, (d.end.0, k.0, next, refl, d.end.1, n, d, l, k.1))

  come_by : (old here : State) (vs : List D) → DecodesInTurn (Decodes s tree) old vs here → Come s tree old here vs
  come_by old here vs p = let k = from_passes old here vs p in (came old here vs k.0 k.1).come

  pub each_decodes : {L : Type 0} (elements : L → List D) → EachCall (DecodesElements (Decodes s tree) elements) (DecodesBy (ReadsElements s) (λ l. list_tree tree (elements l)))
  each_decodes elements old (Ok v) new (p, e) = elements_end s tree old (λ l. list_tree tree (elements l)) new (elements v) (come_by old new (elements v) p) e v refl
  each_decodes elements old (Err e) new (vs, here, p, n, k) = element_stops s tree old (λ l. list_tree tree (elements l)) here vs (come_by old here vs p) n e new k

  -- what is refused as a SEQUENCE OF is refused as a SET OF
  as_set_elements : {L : Type 0} (trees walks : L → Tree) (old : State) (e : DecodeError) (new : State) → DecodesBy (ReadsElements s) trees old (Err e) new → DecodesBy (ReadsSetElements s) walks old (Err e) new
  unfolding ReadsElements ReadsSetElements
  as_set_elements trees walks old e new k = record {
    stays = k.stays;
    end = k.end;
    exact = Exact-refusal e.kind (ReadsElements s old.rule old.depth old.closing) (ReadsSetElements s old.rule old.depth old.closing) old.rest old.rest
        (λ none t r w. none (items w.0) r (w.0, refl, w.2)) k.exact;
  }

  stopped : {L : Type 0} (trees walks : L → Tree) (old here : State) (vs : List D) → Come s tree old here vs → (Ended here.closing here.rest → ⊥) → (e : DecodeError) (new : State)
      → FailsAtElement (Decodes s tree) here e new → DecodesBy (ReadsSetElements s) walks old (Err e) new
  stopped trees walks old here vs a n e new k = as_set_elements trees walks old e new (element_stops s tree old trees here vs a n e new k)

  fell : {L : Type 0} (walks : L → Tree) (old here : State) (vs : List D) (bs : List (List ℕ)) → Came old here vs bs → (Ended here.closing here.rest → ⊥) → (e : DecodeError) (new : State)
      → IsOutOfOrder (Decodes s tree) bs here e new → DecodesBy (ReadsSetElements s) walks old (Err e) new
  unfolding ReadsSetElements
  fell walks old here vs bs k n e new (v, b, d, f, l, strict, falls, w) =
      let q = came_next old here vs bs k n v new d b f in
      record {
        stays = q.come.0;
        end = q.come.1;
        exact = Exact-none e.kind (ReadsSetElements s old.rule old.depth old.closing) old.rest (λ t r x.
            let g = q.come.2.back x.0 r x.2 in
            let z = x.3 (subst (λ (y : State). IsStrict y.rule) k.come.0 strict) in
            let m = q.ran.back g.0 r z.0 (subst (λ y. ReadsFrom (R old) old.rest y r z.0) g.1 z.1) in
            falls (fall_front (bs ++ (b ∷ [])) m.0 (subst (AreAscending IsLess) m.1 z.2)));
      }

  finished : {L : Type 0} (elements : L → List D) (old new : State) (v : L) (bs : List (List ℕ)) → Came old new (elements v) bs → (IsStrict old.rule → AreAscending IsLess bs) → Ended new.closing new.rest
      → DecodesBy (ReadsSetElements s) (λ l. set_elements (list_tree tree (elements l))) old (Ok v) new
  unfolding ReadsElements ReadsSetElements
  finished elements old new v bs k order e =
      let x = elements_end s tree old (λ l. list_tree tree (elements l)) new (elements v) k.come e v refl in
      let same : map tree (elements v) ≡ x.exact.0.0 = items_one (map tree (elements v)) x.exact.0.0 x.exact.0.1 in
      record {
        stays = x.stays;
        end = x.end;
        exact = (
          (
            map tree (elements v),
            refl,
            subst (λ z. ReadsMany (R old) old.closing old.rest z new.rest) (sym same) x.exact.0.2,
            λ strict. (
              bs,
              subst (λ z. ReadsFrom (R old) old.rest z new.rest bs) (append-nil (map tree (elements v)))
                  (subst (λ z. ReadsFrom (R old) old.rest (map tree (elements v) ++ []) new.rest z) (append-nil bs) (k.ran.on [] new.rest [] (refl, refl))),
              order strict,
            ),
          ),
          λ t r w. let y = x.exact.1 (items w.0) r (w.0, refl, w.2) in (w.1 ∙ ap set_elements y.0, y.1),
        );
      }

  pub in_order_decodes : {L : Type 0} (elements : L → List D) → EachCall (DecodesElementsInOrder (Decodes s tree) elements) (DecodesBy (ReadsSetElements s) (λ l. set_elements (list_tree tree (elements l))))
  in_order_decodes elements old (Ok v) new (bs, p, order, e) = finished elements old new v bs (came old new (elements v) bs p) order e
  in_order_decodes elements old (Err e) new (vs, bs, here, p, order, n, inl k) =
      stopped (λ l. list_tree tree (elements l)) (λ l. set_elements (list_tree tree (elements l))) old here vs (came old here vs bs p).come n e new k
  in_order_decodes elements old (Err e) new (vs, bs, here, p, order, n, inr k) = fell (λ l. set_elements (list_tree tree (elements l))) old here vs bs (came old here vs bs p) n e new k

  -- So a call leaves an end of the input.
  pub each_leaves : {L : Type 0} (elements : L → List D) → EachCall (DecodesElements (Decodes s tree) elements) (λ o r n. IsEnd o.rest n.rest)
  each_leaves elements o r n k = (each_decodes elements o r n k).end

  pub in_order_leaves : {L : Type 0} (elements : L → List D) → EachCall (DecodesElementsInOrder (Decodes s tree) elements) (λ o r n. IsEnd o.rest n.rest)
  in_order_leaves elements o r n k = (in_order_decodes elements o r n k).end

-- where the read elements end, only fewer octets remain
pub came_stays : {D : Type 0} (s : Shape) (tree : D → Tree) (old here : State) (vs : List D) (bs : List (List ℕ)) → DecodesInTurnFrom (Decodes s tree) old vs bs here → here ≡ at old here.rest
came_stays s tree old here vs bs p = (came s tree old here vs bs p).come.0

-- one more element is read from its octets
module _ {D : Type 0} (read : Call D) (here next : State) (v : D) (b : List ℕ) (e : here.rest ≡ b ++ next.rest) (d : Ended here.closing here.rest → ⊥)
    (r : read here (Ok v) next) (n : length next.rest ≢ length here.rest) where
  abbrev One : State → Type 0
  One x = (x.rest ≡ b ++ next.rest) × (Ended x.closing x.rest → ⊥) × read x (Ok v) next × (length next.rest ≢ length x.rest)

  behind : (old : State) (vs : List D) (bs : List (List ℕ)) → DecodesInTurnFrom read old vs bs here → DecodesInTurnFrom read old (vs ++ v ∷ []) (bs ++ b ∷ []) next
  behind old [] bs (f, g) =
      let t : One old = subst One g (e, d, r, n) in
      (b, [], next, ap (λ z. z ++ b ∷ []) f, t.0, t.1, t.2, t.3, (refl, refl))
  behind old (u ∷ vs) bs (c, more, m, f, g, q, k, l, p) = (c, more ++ b ∷ [], m, ap (λ z. z ++ b ∷ []) f, g, q, k, l, behind m vs more p)

  pub passes_from : (old : State) (vs us : List D) (bs : List (List ℕ)) → us ≡ vs ++ v ∷ [] → DecodesInTurnFrom read old vs bs here → DecodesInTurnFrom read old us (bs ++ b ∷ []) next
  passes_from old vs us bs f p = subst (λ l. DecodesInTurnFrom read old l (bs ++ b ∷ []) next) (sym f) (behind old vs bs p)

-- The components of a SET are read one by one, and by part they are the SET's contents.
use Rattle.std.proofs.Common.{◌≡◌, inl, inr, ℕ, Bool, List, [], ◌∷◌, ◌++◌, map, Result, Ok, Err, refl, sym, ap, ◌∙◌, subst, append_assoc}
use Rattle.std.proofs.lemmas.List.{append-nil}
use Rattle.rasn_types.proofs.SetOf.Same.{items_one}
use Rattle.rasn_types.specs.declared.types.codec.Codec.{Codec}
use Rattle.rasn_types.specs.declared.types.tag.Tag.{Tag}
use Rattle.rasn_types.specs.declared.error.decode.DecodeError.{DecodeError}
use Rattle.rasn_types.specs.Framing.{Begins, NextTag, Ended}
use Rattle.rasn_types.specs.Tags.{form, IsStrict, IsTagBelow}
use Rattle.rasn_types.specs.Order.{Each, AreAscending}
use Rattle.rasn_types.specs.Shapes.{Tree, Shape, items, choice, Parts, presences}
use Rattle.rasn_types.specs.Readings.{Reading, ReadsMany, ReadsFrom, ReadsChoice, AreInTagOrder, ReadsSet}
use Rattle.rasn_types.specs.Grammar.{Reads, parts_of}
use Rattle.rasn_types.specs.Trees.{list_tree}
use Rattle.rasn_de.specs.State.{State, Call}
use Rattle.rasn_de.specs.Decodes.{Decodes, DecodesBy}
use Rattle.rasn_de.specs.SequenceOf.{ReadsElements, RefusesElement, FailsAtElement}
use Rattle.rasn_de.specs.Set.{FailsAtComponent, no_tag, falls, not_read, DecodesComponents, DecodesIntoSlots, DecodesSetContents, AreParts, MakesSet}
use Rattle.rasn_de.specs.Outcomes.{Exact, refusal, outcome}
use Rattle.rasn_de.specs.Steps.{PeeksTag}
use Rattle.rasn_de.proofs.Leaves.Outcomes.{Exact-none, Exact-refusal}
use Rattle.rasn_de.proofs.Constructed.SetOfElements.{Came, came}
use Rattle.rasn_de.proofs.Constructed.Choice.{choice_next}
use Rattle.rasn_de.proofs.Constructed.Reads.{Exact-same}
use Rattle.rasn_de.proofs.Constructed.Elements.{Come, element_stops, elements_end}
use Rattle.rasn_de.proofs.Constructed.OneReading.{by_part_one}
use Rattle.rasn_de.proofs.Constructed.Optional.{peeks_none}
use Rattle.rasn_de.proofs.Headers.Begins.{begins_more}
use Rattle.rasn_de.proofs.Headers.Tags.{tags_split, tags_more, front_in_order}

-- Components of this shape in any order, whose readings make a tree.
abbrev pub ReadsComponents : Shape → (List Tree → Tree → Type 0) → Codec → ℕ → Bool → Reading Tree
ReadsComponents s makes rule depth closing input t rest = (readings : List Tree) × makes readings t × ReadsMany (Reads rule s depth closing) closing input readings rest
    × (IsStrict rule → (bs : List (List ℕ)) × ReadsFrom (Reads rule s depth closing) input readings rest bs × AreInTagOrder bs)

-- What is made from components, given their readings; or an error if they make nothing.
abbrev pub MakesBy : {S : Type 0} → (List Tree → Tree → Type 0) → (S → Tree) → List Tree → Result S DecodeError → Type 0
MakesBy makes tree readings (Ok v) = makes readings (tree v)
MakesBy makes tree readings (Err e) = Exact (λ input t rest. makes readings t) [] (refusal e.kind)

-- Each value of the shape begins with a tag.
abbrev pub HasNextTag : Shape → Type 0
HasNextTag s = (rule : Codec) (depth : ℕ) (closing : Bool) (input : List ℕ) (t : Tree) (r : List ℕ) → Reads rule s depth closing input t r → (tag : Tag) × NextTag (form rule) input tag

module _ {F S : Type 0} (s : Shape) (makes : List Tree → Tree → Type 0) (one : (readings : List Tree) (t u : Tree) → makes readings t → makes readings u → t ≡ u) (tagged : HasNextTag s) (piece : F → Tree) (tree : S → Tree) (old : State) where
  abbrev pub CompleteEncoding : Reading Tree
  CompleteEncoding = ReadsComponents s makes old.rule old.depth old.closing

  abbrev pub R : Reading Tree
  R = Reads old.rule s old.depth old.closing

  as_list : (input : List ℕ) (t : Tree) (r : List ℕ) → CompleteEncoding input t r → (us : List Tree) × ReadsElements s old.rule old.depth old.closing input (items us) r
  unfolding ReadsElements Reads
  as_list input t r w = (w.0, (w.0, refl, w.2))

  -- what is refused as a list is refused as a SET
  from_list : (e : DecodeError) (new : State) → DecodesBy (ReadsElements s) (λ (l : List F). list_tree piece l) old (Err e) new → DecodesBy (ReadsComponents s makes) tree old (Err e) new
  from_list e new k = record {
    stays = k.stays;
    end = k.end;
    exact = Exact-refusal e.kind (ReadsElements s old.rule old.depth old.closing) CompleteEncoding old.rest old.rest (λ none t r w. let l = as_list old.rest t r w in none (items l.0) r l.1) k.exact;
  }

  -- what would be read goes on here
  goes_on : (here : State) (vs : List F) (bs : List (List ℕ)) → Came s piece old here vs bs → (t : Tree) (r : List ℕ) → CompleteEncoding old.rest t r → IsStrict old.rule
      → (us : List Tree) × (more : List (List ℕ)) × ReadsMany R old.closing here.rest us r × ReadsFrom R here.rest us r more × AreInTagOrder (bs ++ more)
  unfolding Reads
  goes_on here vs bs k t r x strict =
      let w = x.3 strict in
      let g = k.come.2.back x.0 r x.2 in
      let m = k.ran.back g.0 r w.0 (subst (λ y. ReadsFrom R old.rest y r w.0) g.1 w.1) in
      (g.0, m.0, g.2, m.2, subst AreInTagOrder m.1 w.2)

  strict_there : (here : State) (vs : List F) (bs : List (List ℕ)) → Came s piece old here vs bs → IsStrict here.rule → IsStrict old.rule
  strict_there here vs bs k s = subst (λ (z : State). IsStrict z.rule) k.come.0 s

  ended_there : (here : State) (vs : List F) (bs : List (List ℕ)) → Came s piece old here vs bs → (Ended here.closing here.rest → ⊥) → Ended old.closing here.rest → ⊥
  ended_there here vs bs k n e = n (subst (λ (z : State). Ended z.closing here.rest) (sym k.come.0) e)

  next_there : (here : State) (vs : List F) (bs : List (List ℕ)) → Came s piece old here vs bs → (Ended here.closing here.rest → ⊥) → ((tag : Tag) → NextTag (form here.rule) here.rest tag → ⊥)
      → (us : List Tree) (r : List ℕ) → ReadsMany R old.closing here.rest us r → ⊥
  unfolding Reads
  next_there here vs bs k n nothing [] r m = ended_there here vs bs k n m.0
  next_there here vs bs k n nothing (u ∷ us) r (e, mid, x, m) =
      let c = tagged old.rule old.depth old.closing here.rest u mid x in
      nothing c.0 (subst (λ (z : State). NextTag (form z.rule) here.rest c.0) (sym k.come.0) c.1)

  untold : (here : State) (vs : List F) (bs : List (List ℕ)) → Came s piece old here vs bs → (Ended here.closing here.rest → ⊥) → (e : DecodeError) → PeeksTag here (Err e) → IsStrict here.rule
      → DecodesBy (ReadsComponents s makes) tree old (Err e) here
  untold here vs bs k n e p strict = record {
    stays = k.come.0;
    end = k.come.1;
    exact = Exact-none e.kind CompleteEncoding old.rest (λ t r w.
        let g = goes_on here vs bs k t r w (strict_there here vs bs k strict) in
        next_there here vs bs k n (peeks_none here e p) g.0 r g.2);
  }

  clash : (here : State) (vs : List F) (bs : List (List ℕ)) → Came s piece old here vs bs → (Ended here.closing here.rest → ⊥) → (AreInTagOrder (bs ++ here.rest ∷ []) → ⊥)
      → (us : List Tree) (r : List ℕ) (more : List (List ℕ)) → ReadsMany R old.closing here.rest us r → ReadsFrom R here.rest us r more → AreInTagOrder (bs ++ more) → ⊥
  clash here vs bs k n f [] r more m x o = ended_there here vs bs k n m.0
  clash here vs bs k n f (u ∷ us) r more m (b, rest, mid, e, g, y, z) (all, h, order) =
      let s = tags_split bs more all h in
      let q : Each Begins (b ∷ rest) s.1 = subst (λ l. Each Begins l s.1) e s.4 in
      let w : AreAscending IsTagBelow (s.0 ++ q.0 ∷ q.1) = subst (AreAscending IsTagBelow) (s.2 ∙ ap (λ l. s.0 ++ l) q.2) order in
      f (
        s.0 ++ q.0 ∷ [],
        tags_more bs s.0 here.rest q.0 s.3 (subst (λ l. Begins l q.0) (sym g) (begins_more b mid q.0 q.3)),
        front_in_order IsTagBelow (s.0 ++ q.0 ∷ []) q.1 (subst (AreAscending IsTagBelow) (sym (append_assoc s.0 (q.0 ∷ []) q.1)) w),
      )

  fell : (here : State) (vs : List F) (bs : List (List ℕ)) → Came s piece old here vs bs → (Ended here.closing here.rest → ⊥) → (e : DecodeError) → (AreInTagOrder (bs ++ here.rest ∷ []) → ⊥)
      → IsStrict here.rule → DecodesBy (ReadsComponents s makes) tree old (Err e) here
  fell here vs bs k n e f strict = record {
    stays = k.come.0;
    end = k.come.1;
    exact = Exact-none e.kind CompleteEncoding old.rest (λ t r w.
        let g = goes_on here vs bs k t r w (strict_there here vs bs k strict) in
        clash here vs bs k n f g.0 r g.1 g.2 g.3 g.4);
  }

  stopped : (here : State) (vs : List F) → Come s piece old here vs → (Ended here.closing here.rest → ⊥) → (e : DecodeError) (new : State) → FailsAtElement (Decodes s piece) here e new
      → DecodesBy (ReadsComponents s makes) tree old (Err e) new
  stopped here vs a n e new k = from_list e new (element_stops s piece old (λ (l : List F). list_tree piece l) here vs a n e new k)

  unread : (here : State) (vs : List F) (bs : List (List ℕ)) → Came s piece old here vs bs → (Ended here.closing here.rest → ⊥) → (e : DecodeError) (new : State)
      → FailsAtComponent (FailsAtElement (Decodes s piece)) bs here e new → DecodesBy (ReadsComponents s makes) tree old (Err e) new
  unread here vs bs k n e new (no_tag strict p q) = subst (DecodesBy (ReadsComponents s makes) tree old (Err e)) (sym q) (untold here vs bs k n e p strict)
  unread here vs bs k n e new (falls strict t i f w q) = subst (DecodesBy (ReadsComponents s makes) tree old (Err e)) (sym q) (fell here vs bs k n e f strict)
  unread here vs bs k n e new (not_read f w) = stopped here vs k.come n e new w

  -- All components were read.
  module _ (new : State) (fs : List F) (bs : List (List ℕ)) (k : Came s piece old new fs bs) (order : IsStrict old.rule → AreInTagOrder bs) (end : Ended new.closing new.rest) where
    listed : DecodesBy (ReadsElements s) (λ (l : List F). list_tree piece l) old (Ok fs) new
    listed = elements_end s piece old (λ (l : List F). list_tree piece l) new fs k.come end fs refl

    -- what is read as a SET has these readings
    only : (t : Tree) (r : List ℕ) → CompleteEncoding old.rest t r → makes (map piece fs) t × (r ≡ new.rest)
    unfolding as_list
    only t r w =
        let l = as_list old.rest t r w in
        let y = listed.exact.1 (items l.0) r l.1 in
        let q : w.0 ≡ map piece fs = items_one w.0 (map piece fs) y.0 in
        (subst (λ z. makes z t) q w.1, y.1)

    there : (many : ReadsMany R old.closing old.rest (map piece fs) new.rest) (t : Tree) → makes (map piece fs) t → CompleteEncoding old.rest t new.rest
    there many t a = (
      map piece fs,
      a,
      many,
      λ strict. (
        bs,
        subst (λ z. ReadsFrom R old.rest z new.rest bs) (append-nil (map piece fs))
            (subst (λ z. ReadsFrom R old.rest (map piece fs ++ []) new.rest z) (append-nil bs) (k.ran.on [] new.rest [] (refl, refl))),
        order strict,
      ),
    )

    many_read : ReadsMany R old.closing old.rest (map piece fs) new.rest
    unfolding ReadsElements
    many_read =
        let x = listed.exact.0 in
        subst (λ z. ReadsMany R old.closing old.rest z new.rest) (sym (items_one (map piece fs) x.0 x.1)) x.2

    pub made : (v : S) → makes (map piece fs) (tree v) → DecodesBy (ReadsComponents s makes) tree old (Ok v) new
    made v a = record {
      stays = k.come.0;
      end = k.come.1;
      exact = (
        there many_read (tree v) a,
        λ t r w.
            let o = only t r w in
            (one (map piece fs) t (tree v) o.0 a, o.1),
      );
    }

    pub not_made : (e : DecodeError) → Exact (λ input t rest. makes (map piece fs) t) [] (refusal e.kind) → DecodesBy (ReadsComponents s makes) tree old (Err e) new
    not_made e x = record {
      stays = k.come.0;
      end = k.come.1;
      exact = Exact-refusal e.kind (λ input t rest. makes (map piece fs) t) CompleteEncoding [] old.rest
          (λ none t r w. let o = only t r w in none t [] o.0) x;
    }

  pub components_collect : {L : Type 0} (elements : L → List F) (by : L → Result S DecodeError → Type 0)
      → ((fs : L) (r : Result S DecodeError) → by fs r → MakesBy makes tree (map piece (elements fs)) r)
      → (result : Result S DecodeError) (new : State) → DecodesSetContents (DecodesComponents (Decodes s piece) elements) by old result new → DecodesBy (ReadsComponents s makes) tree old result new
  components_collect elements by H (Ok v) new (fs, (bs, (p, order), end), m) = made new (elements fs) bs (came s piece old new (elements fs) bs p) order end v (H fs (Ok v) m)
  components_collect elements by H (Err e) new (inl (vs, bs, here, (p, order), n, u)) = unread here vs bs (came s piece old here vs bs p) n e new u
  components_collect elements by H (Err e) new (inr (fs, (bs, (p, order), end), m)) = not_made new (elements fs) bs (came s piece old new (elements fs) bs p) order end e (H fs (Err e) m)

-- The contents of a SET of these parts.
abbrev pub SetReads : Parts → Codec → ℕ → Bool → Reading Tree
SetReads ps rule depth closing = ReadsSet rule (presences ps) (ReadsChoice rule 0 (parts_of rule ps depth closing)) closing

one_tree : (ps : Parts) (readings : List Tree) (t u : Tree) → AreParts ps readings t → AreParts ps readings u → t ≡ u
one_tree ps readings t u a b = a.1 ∙ ap items (by_part_one (presences ps) 0 readings a.0 b.0 a.2 b.2) ∙ sym b.1

choice_tagged : (ps : Parts) → HasNextTag (choice ps)
unfolding Reads
choice_tagged ps rule depth closing input t r w = let c = choice_next rule 0 (parts_of rule ps depth closing) input t r w in (c.0, c.1)

module _ {F S : Type 0} (ps : Parts) (piece : F → Tree) (tree : S → Tree) (old : State) where
  made_by : (readings : List Tree) (r : Result S DecodeError) → MakesSet ps tree readings r → MakesBy (AreParts ps) tree readings r
  made_by readings (Ok v) m = m
  made_by readings (Err e) m = m

  to_set : (t : Tree) (r : List ℕ) → ReadsComponents (choice ps) (AreParts ps) old.rule old.depth old.closing old.rest t r → SetReads ps old.rule old.depth old.closing old.rest t r
  unfolding Reads
  to_set t r w = (w.0, w.1.0, w.1.1, w.2, w.1.2, w.3)

  from_set : (t : Tree) (r : List ℕ) → SetReads ps old.rule old.depth old.closing old.rest t r → ReadsComponents (choice ps) (AreParts ps) old.rule old.depth old.closing old.rest t r
  unfolding Reads
  from_set t r w = (w.0, (w.1, w.2, w.4), w.3, w.5)

  pub set_collects : {L : Type 0} (elements : L → List F) (by : L → Result S DecodeError → Type 0)
      → ((fs : L) (r : Result S DecodeError) → by fs r → MakesSet ps tree (map piece (elements fs)) r)
      → (result : Result S DecodeError) (new : State) → DecodesSetContents (DecodesComponents (Decodes (choice ps) piece) elements) by old result new → DecodesBy (SetReads ps) tree old result new
  set_collects elements by H result new k =
      let d = components_collect (choice ps) (AreParts ps) (one_tree ps) (choice_tagged ps) piece tree old elements by (λ fs r m. made_by (map piece (elements fs)) r (H fs r m)) result new k in
      record {
        stays = d.stays;
        end = d.end;
        exact = Exact-same (ReadsComponents (choice ps) (AreParts ps) old.rule old.depth old.closing) (SetReads ps old.rule old.depth old.closing) old.rest (outcome tree result new.rest) to_set from_set d.exact;
      }

-- What is put into slots is read as what is appended to a list.
module _ {D S : Type 0} (read : Call D) (by : List D → Result S DecodeError → Type 0) where
  collected : (bs : List (List ℕ)) (here : State) (e : DecodeError) (new : State) → FailsAtComponent (RefusesElement read) bs here e new → FailsAtComponent (FailsAtElement read) bs here e new
  collected bs here e new (no_tag s p q) = no_tag s p q
  collected bs here e new (falls s t n f w q) = falls s t n f w q
  collected bs here e new (not_read f (inl k)) = not_read f (inl k)
  collected bs here e new (not_read f (inr (v, k, w))) = not_read f (inr (v, k, inl w))

  pub slots_collected : (old : State) (r : Result S DecodeError) (new : State) → DecodesSetContents (DecodesIntoSlots read) by old r new → DecodesSetContents (DecodesComponents read (λ (l : List D). l)) by old r new
  slots_collected old (Ok v) new k = k
  slots_collected old (Err e) new (inl (vs, bs, here, p, n, u)) = inl (vs, bs, here, p, n, collected bs here e new u)
  slots_collected old (Err e) new (inr k) = inr k

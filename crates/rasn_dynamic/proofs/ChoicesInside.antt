-- CHOICEs directly in one another are gone into and left.
use Rattle.std.proofs.Common.{◌≡◌, ◌+◌, ◌-◌, ℕ, suc, Bool, false, List, [], ◌∷◌, ◌++◌, length, reverse, take, Option, Some, None, Vec, Global, String, Result, Ok, Err, inl, inr, refl, sym, ap, ◌∙◌, subst, arith}
use Rattle.std.specs.Prelude.{slice_get, MatchOption}
use Rattle.std.proofs.lemmas.List.{reverse-append}
use Rattle.rasn_types.specs.declared.types.tag.Tag.{Tag}
use Rattle.rasn_types.specs.declared.error.decode.DecodeError.{DecodeError}
use Rattle.rasn_types.specs.Errors.{IsOutOfMemory}
use Rattle.rasn_types.specs.Tags.{form}
use Rattle.rasn_types.specs.Framing.{NextTag}
use Rattle.rasn_types.specs.Shapes.{Shape, Tree, chosen, IsFirstOf}
use Rattle.rasn_de.specs.State.{State}
use Rattle.rasn_de.specs.NamedErrors.{IsNamedError, IsNoValidChoice}
use Rattle.std.specs.String.{string_bytes}
use Rattle.rasn_de.proofs.Headers.Ends.{IsEnd-refl}
use Rattle.rasn_de.proofs.Leaves.Outcomes.{alloc_failed}
use Rattle.rasn_de.proofs.Leaves.Rules.{same_rules}
use Rattle.rasn_schema.specs.declared.type_id.TypeId.{TypeId}
use Rattle.rasn_schema.specs.declared.types.Alternative.{Alternative}
use Rattle.rasn_schema.specs.declared.types.«Type».{«Type»}
use Rattle.rasn_schema.specs.declared.types.«Type».TheVariants.{Leaf, Enumerated, Any, Tagged, Choice, Sequence, Set, SequenceOf, SetOf, Unknown}
use Rattle.rasn_schema.specs.declared.value.Value.{Value}
use Rattle.rasn_schema.specs.FirstTags.{IsAlternativeFor}
use Rattle.rasn_schema.specs.Shapes.{shape_of_type, alternatives_by, choice_among, IsReadable}
use Rattle.rasn_schema.specs.Fitting.{Fits, AlternativeFits}
use Rattle.rasn_schema.proofs.TypeShapes.{shape_below}
use Rattle.rasn_dynamic.specs.declared.nested.NextPart.{NextPart}
use Rattle.rasn_dynamic.specs.declared.nested.OuterChoice.{OuterChoice}
use Rattle.rasn_dynamic.specs.declared.trace.UnreadValue.{UnreadValue}
use Rattle.rasn_dynamic.specs.declared.span.Spans.{Spans}
use Rattle.rasn_dynamic.specs.Inside.{DecodesTree}
use Rattle.rasn_dynamic.specs.Faults.{IsFault, IsFaultIn, IsOnly, IsAnyPart, IsMarked, IsStepped, FailsAt}
use Rattle.rasn_dynamic.specs.Listed.{Lists, Inside, PartListed, IsNoted, IsFinished}
use Rattle.rasn_dynamic.specs.Nested.{IsChoiceOf, IsChoiceHere, IsNoChoice, IsAlternativeOf, LeadsInto, IsRefusedHere, GoesDown, ReadsPart, Leaves, ReadsWithin}
use Rattle.rasn_dynamic.specs.Times.{FitsFrom}
use Rattle.rasn_dynamic.specs.declared.nested.Nested.{Nested}
use Rattle.std.specs.Option.{option_to_list}
use Rattle.rasn_dynamic.proofs.Chosen.{none_for, chosen_got, chosen_refused}
use Rattle.rasn_dynamic.proofs.Making.{choice_made, choice_fits}
use Rattle.rasn_dynamic.proofs.FitsRead.{fits_below}
use Rattle.rasn_dynamic.proofs.OpenChoice.{lawful_at}
use Rattle.rasn_dynamic.proofs.Faults.{not_named, marked, stepped, weaker, entered, alternative_there, fails_found}
use Rattle.rasn_dynamic.proofs.Listed.{part_listed, value_listed, choice_listed, alternative_listed}

-- ---- a part that is a CHOICE

choice_of : (text : List ℕ) (l : List Alternative) (ty : «Type») → IsChoiceOf text l ty → (name : String Global) × (ks : Vec Alternative Global) × (ty ≡ Choice name ks) × (l ≡ ks.items) × (text ≡ string_bytes name)
choice_of text l (Choice name ks) (e, i) = (name, ks, refl, i, e)
choice_of text l (Leaf kind tag c names) h = absurd h
choice_of text l (Enumerated tag ns) h = absurd h
choice_of text l (Any tag) h = absurd h
choice_of text l Unknown h = absurd h
choice_of text l (Tagged tag id) h = absurd h
choice_of text l (Sequence tag ps) h = absurd h
choice_of text l (Set name tag ps) h = absurd h
choice_of text l (SequenceOf tag id c) h = absurd h
choice_of text l (SetOf tag id c) h = absurd h

-- The part is named.
pub part_named : (types : List «Type») (part : NextPart) (left : ℕ) (s : State) (e : DecodeError) (old mid new : Option UnreadValue)
    → ((f : UnreadValue) → old ≡ Some f → IsFault types part.levels part.id.0 s e f) → (old ≡ None → FailsAt types part.levels part.id.0 s e) → DecodesTree (shape_of_type types part.levels part.id.0) s (Err e) s → left ≡ length s.rest
    → IsMarked part.id left old mid → IsStepped part.index mid new → (g : UnreadValue) × (new ≡ Some g) × IsFaultIn types part.levels (IsOnly part.index part.id.0 s) s s e g
part_named types part left s e old mid new h itself d l m st =
    stepped types part.levels part.id.0 part.index s e mid new (marked types part.levels part.id left s e old mid h m l d.exact itself) st

module _ (types : List «Type») (s : State) (part : NextPart) (below : ℕ) (deep : part.levels ≡ suc below) (text : List ℕ) (l : List Alternative) (here : IsChoiceHere types part text l) where
  abbrev In : ℕ → Shape
  In = shape_of_type types below

  abbrev All : Shape
  All = choice_among (alternatives_by In l)

  abbrev Named : (name : String Global) × (ks : Vec Alternative Global) × (here.1 ≡ Choice name ks) × (l ≡ ks.items) × (text ≡ string_bytes name)
  Named = choice_of text l here.1 here.3

  found : slice_get types part.id.0 ≡ Some (Choice Named.0 Named.1)
  found = here.2 ∙ ap Some Named.2

  pub shape_here : shape_of_type types part.levels part.id.0 ≡ All
  shape_here = shape_below types part.levels below part.id.0 (Choice Named.0 Named.1) deep (sym found) ∙ ap (λ z. choice_among (alternatives_by In z)) (sym Named.3)

  module _ (tag : Tag) (n : NextTag (form s.rule) s.rest tag) where
    -- No alternative begins with the tag.
    pub none_here : (IsFirstOf (alternatives_by In l) tag → ⊥) → (e : DecodeError) → e.codec ≡ s.rule → IsNamedError (IsNoValidChoice text) s.rule e → IsRefusedHere types s part e
    none_here others e c w = (
      subst (λ z. DecodesTree z s (Err e) s) (sym shape_here) (none_for In l tag s n others e.kind),
      fails_found types part.levels part.id.0 below (Choice Named.0 Named.1) s e deep found (inr (inl ((tag, n, subst (λ z. IsFirstOf (alternatives_by In z) tag → ⊥) Named.3 others), subst (λ z. IsNamedError (IsNoValidChoice z) s.rule e) Named.4 w))),
      c,
    )

    -- An alternative does.
    pub alternative_here : (choice : OuterChoice) (before after : Spans) (inner : NextPart) (a : Alternative) → inner.levels ≡ below → inner.id ≡ a.type_id → IsAlternativeFor In l tag inner.index a
        → IsReadable (shape_of_type types part.levels part.id.0) → choice.id ≡ part.id → choice.index ≡ part.index → choice.left ≡ length s.rest → IsNoted part.id part.index part.levels s.rest before choice.place after
        → IsAlternativeOf types s choice part before inner after × IsReadable (shape_of_type types inner.levels inner.id.0)
    alternative_here choice before after inner a e i first lawful p q r noted = (
      record {
        deep = deep ∙ ap suc (sym e);
        name = Named.0;
        alternatives = Named.1;
        found = found;
        chosen = a;
        next = (tag, n, subst (λ z. IsAlternativeFor (shape_of_type types z) Named.1.items tag inner.index a) (sym e) (subst (λ z. IsAlternativeFor In z tag inner.index a) Named.3 first));
        id_is = i;
        lawful = lawful;
        same_id = p;
        same_index = q;
        left = r;
        noted = noted;
      },
      subst (λ z. IsReadable (shape_of_type types z inner.id.0)) (sym e)
          (subst (λ (z : TypeId). IsReadable (In z.0)) (sym i) (lawful_at In l inner.index a (subst IsReadable shape_here lawful) first.0)),
    )

  -- Memory runs out.
  pub memory_here : (e : DecodeError) → IsOutOfMemory e.kind → e.codec ≡ s.rule → IsRefusedHere types s part e
  memory_here e m c = (
    alloc_failed _ (λ (z : Tree). z) s s e m refl (IsEnd-refl s.rest),
    fails_found types part.levels part.id.0 below (Choice Named.0 Named.1) s e deep found (inr (inr m)),
    c,
  )

-- ---- one CHOICE is left

module _ (types : List «Type») (keep : Bool) (s : State) (choice : OuterChoice) (outer inner : NextPart) (before mid : Spans) (h : IsAlternativeOf types s choice outer before inner mid) where
  abbrev Here : ℕ → Shape
  Here = shape_of_type types inner.levels

  abbrev Ks : List Alternative
  Ks = h.alternatives.items

  abbrev Ty : «Type»
  Ty = Choice h.name h.alternatives

  abbrev Outer : Shape
  Outer = shape_of_type types outer.levels outer.id.0

  outer_is : Outer ≡ choice_among (alternatives_by Here Ks)
  outer_is = shape_below types outer.levels inner.levels outer.id.0 Ty h.deep (sym h.found)

  readable : IsReadable (choice_among (alternatives_by Here Ks))
  readable = subst IsReadable outer_is h.lawful

  is_read : (t : Tree) (new : State) → DecodesTree (Here inner.id.0) s (Ok t) new → DecodesTree Outer s (Ok (chosen inner.index t)) new
  is_read t new d = subst (λ z. DecodesTree z s (Ok (chosen inner.index t)) new) (sym outer_is)
      (chosen_got Here Ks inner.index h.chosen h.next.0 readable h.next.2 s new h.next.1 t (subst (λ (z : TypeId). DecodesTree (Here z.0) s (Ok t) new) h.id_is d))

  is_refused : (e : DecodeError) (new : State) → DecodesTree (Here inner.id.0) s (Err e) new → DecodesTree Outer s (Err e) new
  is_refused e new d = subst (λ z. DecodesTree z s (Err e) new) (sym outer_is)
      (chosen_refused Here Ks inner.index h.chosen h.next.0 readable h.next.2 s new h.next.1 e.kind (subst (λ (z : TypeId). DecodesTree (Here z.0) s (Err e) new) h.id_is d))

  -- What is named in the alternative is named in the CHOICE.
  fault_inside : (e : DecodeError) (f : UnreadValue) → IsFaultIn types inner.levels (IsOnly inner.index inner.id.0 s) s s e f → IsFault types outer.levels outer.id.0 s e f
  fault_inside e f i = entered types outer.levels outer.id.0 inner.levels Ty s h.deep h.found e f (
    s,
    refl,
    weaker types inner.levels (IsOnly inner.index inner.id.0 s) (IsAnyPart Here Ty s) s s
        (λ k next x o. alternative_there Here Ks inner.index h.chosen s h.next k next x (o.0, o.1 ∙ ap (λ (z : TypeId). z.0) h.id_is, o.2)) e f i,
  )

  -- The part itself is named, or one inside it.
  outer_named : (e : DecodeError) (new : State) (old between now : Option UnreadValue) → ((f : UnreadValue) → old ≡ Some f → IsFault types outer.levels outer.id.0 s e f) → (old ≡ None → FailsAt types outer.levels outer.id.0 s e)
      → DecodesTree Outer s (Err e) new → IsMarked choice.id choice.left old between → IsStepped choice.index between now
      → (g : UnreadValue) × (now ≡ Some g) × IsFaultIn types outer.levels (IsOnly outer.index outer.id.0 s) s s e g
  outer_named e new old between now i itself d m st =
      stepped types outer.levels outer.id.0 outer.index s e between now
      (marked types outer.levels outer.id choice.left s e old between i (subst (λ z. IsMarked z choice.left old between) h.same_id m) h.left d.exact itself)
      (subst (λ k. IsStepped k between now) h.same_index st)

  is_listed : (t : Tree) (new : State) (o n : Spans) → DecodesTree (Here inner.id.0) s (Ok t) new
      → Lists (λ b es. PartListed Here inner.levels (Inside types inner.levels) inner.id.0 inner.index b s new es) mid o → IsFinished choice.place new.rest o n
      → Lists (λ b es. PartListed (shape_of_type types outer.levels) outer.levels (Inside types outer.levels) outer.id.0 outer.index b s new es) before n
  is_listed t new o n d l z =
      let a : Lists (λ b es. PartListed Here inner.levels (Inside types inner.levels) h.chosen.type_id.0 inner.index b s new es) mid o =
      subst (λ (z : TypeId). Lists (λ b es. PartListed Here inner.levels (Inside types inner.levels) z.0 inner.index b s new es) mid o) h.id_is l in
      part_listed types outer.levels outer.id outer.index choice.place s.rest new.rest s new before mid o n (chosen inner.index t) refl refl h.noted
      (value_listed types outer.levels inner.levels outer.id.0 Ty s mid o (let e = h.deep in omega (arith, e)) h.found
      (choice_listed Here inner.levels (Inside types inner.levels) Ty Ks s mid o refl
      (alternative_listed Here inner.levels (Inside types inner.levels) Ks inner.index h.chosen s new mid o h.next a)))
      z (is_read t new d)

  pub is_left : (r : Result Value DecodeError) (new : State) (f : Option UnreadValue) (o : Spans) (q : Result Value DecodeError) (g : Option UnreadValue) (n : Spans)
      → ReadsPart types keep inner s mid r new f o → Leaves keep choice inner.index new r f o q g n → ReadsPart types keep outer s before q new g n
  is_left (Ok v) new f o (Ok w) g n p (c, e, z) = record {
    reads = choice_made keep inner.index v (DecodesTree Outer) s p.reads.0 (Ok w) new p.reads.1 c tt (is_read p.reads.0 new p.reads.2)
        (λ x m. alloc_failed _ (λ (z : Tree). z) s new x m p.reads.2.stays p.reads.2.end);
    fits = λ k x i. fits_below x types outer.levels inner.levels outer.id.0 Ty w h.deep (sym h.found)
        (choice_fits keep inner.index v (AlternativeFits (FitsFrom x types inner.levels) Ks) (Ok w) c (λ k. (h.chosen, h.next.2.0, subst (λ (z : TypeId). FitsFrom x types inner.levels z.0 v) h.id_is (p.fits k x i))) k);
    rules = tt;
    told = e ∙ p.told;
    listed = is_listed p.reads.0 new o n p.reads.2 p.listed z;
  }
  is_left (Ok v) new f o (Err x) g n p (m, c, between, marks, steps) =
      let d : DecodesTree Outer s (Err x) new = alloc_failed _ (λ (z : Tree). z) s new x m p.reads.2.stays p.reads.2.end in
      record {
        reads = d;
        fits = λ k x i. tt;
        rules = c ∙ same_rules p.reads.2.stays;
        told = outer_named x new f between g (λ y i. absurd (not_named f y i p.told)) (λ i. fails_found types outer.levels outer.id.0 inner.levels Ty s x h.deep h.found (inr (inr m))) d marks steps;
        listed = tt;
      }
  is_left (Err x) new f o (Ok w) g n p l = absurd l
  is_left (Err x) new f o (Err y) g n p (e, between, marks, steps) = subst (λ z. ReadsPart types keep outer s before (Err z) new g n) (sym e) (record {
    reads = is_refused x new p.reads;
    fits = λ k x i. tt;
    rules = p.rules;
    told = outer_named x new f between g (λ u i. fault_inside x u (let same : p.told.0 ≡ u = cc in subst (IsFaultIn types inner.levels (IsOnly inner.index inner.id.0 s) s s x) same p.told.2))
        (λ i. absurd (not_named f p.told.0 p.told.1 i)) (is_refused x new p.reads) marks steps;
    listed = tt;
  })

-- ---- all of them

pub one_more : (items : List OuterChoice) (choice : OuterChoice) → reverse (items ++ choice ∷ []) ≡ choice ∷ reverse items
one_more items choice = reverse-append items (choice ∷ [])

pub within_left : (types : List «Type») (keep : Bool) (outer : NextPart) (s : State) (before : Spans) (choice : OuterChoice) (choices : List OuterChoice) (index : ℕ) (r : Result Value DecodeError) (new : State) (f : Option UnreadValue) (o : Spans) (q : Result Value DecodeError) (g : Option UnreadValue) (n : Spans)
    → ReadsWithin types keep outer s before (choice ∷ choices) index r new f o → Leaves keep choice index new r f o q g n → ReadsWithin types keep outer s before choices choice.index q new g n
within_left types keep outer s before choice choices index r new f o q g n (inner, spans, e, (part, mid, chain, h), p) l =
    (part, mid, sym h.same_index, chain, is_left types keep s choice part inner mid spans h r new f o q g n p (subst (λ k. Leaves keep choice k new r f o q g n) (sym e) l))

pub within_none : (types : List «Type») (keep : Bool) (outer : NextPart) (s : State) (before : Spans) (index : ℕ) (r : Result Value DecodeError) (new : State) (f : Option UnreadValue) (o : Spans)
    → ReadsWithin types keep outer s before [] index r new f o → ReadsPart types keep outer s before r new f o
within_none types keep outer s before index r new f o (inner, spans, e, (i, j), p) =
    subst (λ z. ReadsPart types keep outer s z r new f o) j (subst (λ z. ReadsPart types keep z s spans r new f o) i p)

-- A CHOICE is left that was the last of the list.
pub popped : (types : List «Type») (keep : Bool) (outer : NextPart) (s : State) (before : Spans) (items rest : List OuterChoice) (o : Option OuterChoice) (choice : OuterChoice) → o ≡ Some choice → items ≡ rest ++ option_to_list o
    → (index : ℕ) (r : Result Value DecodeError) (new : State) (f : Option UnreadValue) (a : Spans) (q : Result Value DecodeError) (g : Option UnreadValue) (n : Spans)
    → ReadsWithin types keep outer s before (reverse items) index r new f a → Leaves keep choice index new r f a q g n → ReadsWithin types keep outer s before (reverse rest) choice.index q new g n
popped types keep outer s before items rest o choice e i index r new f a q g n w l =
    let same : reverse items ≡ choice ∷ reverse rest = ap reverse (i ∙ ap (λ z. rest ++ option_to_list z) e) ∙ one_more rest choice in
    within_left types keep outer s before choice (reverse rest) index r new f a q g n (subst (λ z. ReadsWithin types keep outer s before z index r new f a) same w) l

-- None is left.
empty : (n m : ℕ) (items rest : List OuterChoice) (o : Option OuterChoice) → o ≡ None → items ≡ rest ++ option_to_list o → rest ≡ take (n - 1) items → MatchOption o ((n ≡ 0) × (m ≡ 0)) (λ z. m + 1 ≡ n) → items ≡ []
empty n m items rest o e i t k =
    let z : n - 1 ≡ 0 = let w : (n ≡ 0) × (m ≡ 0) = subst (λ x. MatchOption x ((n ≡ 0) × (m ≡ 0)) (λ y. m + 1 ≡ n)) e k in let v = w.0 in omega (arith, v) in
    i ∙ ap (λ x. rest ++ option_to_list x) e ∙ ap (λ x. x ++ []) (t ∙ ap (λ x. take x items) z)

pub none_popped : (types : List «Type») (keep : Bool) (outer : NextPart) (s : State) (before : Spans) (items rest : List OuterChoice) (o : Option OuterChoice) → o ≡ None → items ≡ rest ++ option_to_list o
    → (n m : ℕ) → rest ≡ take (n - 1) items → MatchOption o ((n ≡ 0) × (m ≡ 0)) (λ z. m + 1 ≡ n)
    → (index : ℕ) (r : Result Value DecodeError) (new : State) (f : Option UnreadValue) (a : Spans) → ReadsWithin types keep outer s before (reverse items) index r new f a → ReadsPart types keep outer s before r new f a
none_popped types keep outer s before items rest o e i n m t k index r new f a w =
    within_none types keep outer s before index r new f a (subst (λ z. ReadsWithin types keep outer s before (reverse z) index r new f a) (empty n m items rest o e i t k) w)

-- The next part is no CHOICE.
pub stays_there : (types : List «Type») (s : State) (outer : NextPart) (before : Spans) (old new : Nested) (mid after : Spans) (b : Bool) → b ≡ false → GoesDown types s old mid (Ok b) new after
    → LeadsInto types s (reverse old.choices.items) outer before old.part mid → IsReadable (shape_of_type types old.part.levels old.part.id.0)
    → LeadsInto types s (reverse new.choices.items) outer before new.part after × IsReadable (shape_of_type types new.part.levels new.part.id.0) × IsNoChoice types new.part
stays_there types s outer before old new mid after b e g l r =
    let w : GoesDown types s old mid (Ok false) new after = subst (λ z. GoesDown types s old mid (Ok z) new after) e g in
    let same : old ≡ new = sym w.1 in (
      subst (λ (z : Nested). LeadsInto types s (reverse z.choices.items) outer before z.part after) same (subst (λ z. LeadsInto types s (reverse old.choices.items) outer before old.part z) (sym w.2) l),
      subst (λ (z : Nested). IsReadable (shape_of_type types z.part.levels z.part.id.0)) same r,
      subst (λ (z : Nested). IsNoChoice types z.part) same w.0,
    )

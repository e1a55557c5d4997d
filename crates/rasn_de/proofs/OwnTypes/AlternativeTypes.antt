-- Alternatives as types: one is read, or one of the others.
use Rattle.std.proofs.Common.{◌≡◌, ◌+◌, ◌&&◌, ℕ, suc, Bool, true, false, List, Option, Some, None, Result, Ok, Err, refl, sym, ap, ◌∙◌, subst, arith, inl, inr}
use Rattle.rasn_types.specs.declared.types.tag.Tag.{Tag}
use Rattle.rasn_types.specs.declared.error.decode.DecodeError.{DecodeError}
use Rattle.rasn_types.specs.declared.error.decode.DecodeErrorKind.{DecodeErrorKind}
use Rattle.rasn_types.specs.declared.types.any.Any.{Any}
use Rattle.rasn_types.specs.Tags.{form, eoc}
use Rattle.rasn_types.specs.Framing.{NextTag}
use Rattle.rasn_types.specs.Truth.{IsWhether}
use Rattle.rasn_types.specs.Shapes.{Tree, numbers, chosen, Shape, leaf, any, prefix, choice, open_choice, choice_by, count, option, seq, set, sorted_set, list, set_of, unknown, Parts, part, Presence, required, own, IsFirst, IsFirstOf}
use Rattle.rasn_types.specs.Shapes.Parts.{none}
use Rattle.rasn_types.specs.Grammar.{Reads, ReadsOpenChoice, parts_of}
use Rattle.rasn_types.proofs.Headers.Frames.{next_one}
use Rattle.rasn_types.proofs.Time.Spellings.{both_true}
use Rattle.rasn_de.specs.State.{State}
use Rattle.rasn_de.specs.Steps.{PeeksTag}
use Rattle.rasn_de.specs.Outcomes.{Exact, Outcome, Got, refusal, outcome}
use Rattle.rasn_de.specs.Decodes.{DecodesExactly, DecodesBy, Decodes}
use Rattle.rasn_de.specs.Any.{DecodesOpenType}
use Rattle.rasn_de.specs.Choice.{IsOnlyAlternative}
use Rattle.rasn_de.specs.PartTypes.{same_own}
use Rattle.std.specs.Prelude.{IfErr}
use Rattle.rasn_de.specs.AlternativeTypes.{FailsAtValue, FailsAtAlternativeBy, DecodesAlternativeBy, ReadsNumbered, ReadsNumberedBy, DecodesNumbered, is_other, none_begins, is_first_alone}
use Rattle.rasn_de.proofs.Leaves.Outcomes.{Exact-none, Exact-refusal}
use Rattle.rasn_de.proofs.Headers.Ends.{IsEnd-refl}
use Rattle.rasn_de.proofs.Headers.Frames.{same_tag_self}
use Rattle.rasn_de.proofs.Constructed.Reads.{Exact-same}
use Rattle.rasn_de.proofs.Any.Reads.{open_decodes}
use Rattle.rasn_de.proofs.OwnTypes.PartTypes.{same_own_is}
use Rattle.rasn_de.proofs.OwnTypes.Alternatives.{OneAlternative, read_at, alone, no_default, as_read}

-- A shape with a tag of its own begins with it alone.
first_own : (s : Shape) (t n : Tag) → own s ≡ Some t → IsFirst s n → n ≡ t
first_own (leaf kind tag bounds) t n e h = h ∙ cc
first_own (any None) t n e h = cc
first_own (any (Some tag)) t n e h = h ∙ cc
first_own (prefix tag s) t n e h = h ∙ cc
first_own (choice parts) t n e h = cc
first_own (open_choice parts) t n e h = cc
first_own (option tag s) t n e h = first_own s t n e h
first_own (seq tag parts) t n e h = h ∙ cc
first_own (set tag parts) t n e h = h ∙ cc
first_own (sorted_set extensible tag parts) t n e h = h ∙ cc
first_own (list tag s size) t n e h = h ∙ cc
first_own (set_of tag s size) t n e h = h ∙ cc
first_own unknown t n e h = cc

own_first : (s : Shape) (t : Tag) → own s ≡ Some t → IsFirst s t
own_first (leaf kind tag bounds) t e = cc
own_first (any None) t e = cc
own_first (any (Some tag)) t e = cc
own_first (prefix tag s) t e = cc
own_first (choice parts) t e = cc
own_first (open_choice parts) t e = cc
own_first (option tag s) t e = own_first s t e
own_first (seq tag parts) t e = cc
own_first (set tag parts) t e = cc
own_first (sorted_set extensible tag parts) t e = cc
own_first (list tag s size) t e = cc
own_first (set_of tag s size) t e = cc
own_first unknown t e = cc

other_not : (o : Option Tag) (s : Shape) (t : Tag) → own s ≡ o → is_other o t ≡ true → IsFirst s t → ⊥
other_not None s t e h f = cc
other_not (Some u) s t e h f = let k = same_tag_self u t (sym (first_own s u t e f)) in cc

not_others : (ps : Parts) (t : Tag) → none_begins ps t ≡ true → IsFirstOf ps t → ⊥
not_others none t e f = f
not_others (part p s ps) t e (inl f) = other_not (own s) s t refl (both_true (is_other (own s) t) (none_begins ps t) e).0 f
not_others (part p s ps) t e (inr f) = not_others ps t (both_true (is_other (own s) t) (none_begins ps t) e).1 f

module _ (s : Shape) (t : Tag) (ps : Parts) (b : Bool) (e : is_first_alone s t ps && b ≡ true) where
  first_both : is_first_alone s t ps ≡ true
  first_both = (both_true (is_first_alone s t ps) b e).0

  pub first_has : own s ≡ Some t
  first_has = same_own_is (own s) (Some t) (both_true (same_own (own s) (Some t)) (none_begins ps t) first_both).0

  pub others_have_not : IsFirstOf ps t → ⊥
  others_have_not = not_others ps t (both_true (same_own (own s) (Some t)) (none_begins ps t) first_both).1

  pub others_differ : b ≡ true
  others_differ = (both_true (is_first_alone s t ps) b e).1

-- The shape has the next tag, or another one.
pub own_tag : (s : Shape) (tag t : Tag) → tag ≡ t → own s ≡ Some t → own s ≡ Some tag
own_tag s tag t h e = e ∙ ap (λ x. Some x) (sym h)

pub other_tag : (s : Shape) (tag t : Tag) → (tag ≡ t → ⊥) → own s ≡ Some t → own s ≡ Some tag → ⊥
other_tag s tag t h e f = let k : Some tag ≡ Some t = sym f ∙ e in h cc

-- Whether the first alternative, or one of the others, has a tag.
pub first_whether : (s : Shape) (tag t : Tag) (b : Bool) → own s ≡ Some t → IsWhether b (tag ≡ t) → IsWhether b (IsFirstOf (part required s none) tag)
first_whether s tag t true e h = inl (own_first s tag (own_tag s tag t h e))
first_whether s tag t false e h = λ f. elim f [ inl g ↦ h (first_own s t tag e g) | inr n ↦ n ]

pub this_whether : (s : Shape) (ps : Parts) (tag t : Tag) (b : Bool) → own s ≡ Some t → tag ≡ t → b ≡ true → IsWhether b (IsFirstOf (part required s ps) tag)
this_whether s ps tag t true e h x = inl (own_first s tag (own_tag s tag t h e))
this_whether s ps tag t false e h x = cc

pub others_whether : (s : Shape) (ps : Parts) (tag t : Tag) (b : Bool) → own s ≡ Some t → (tag ≡ t → ⊥) → IsWhether b (IsFirstOf ps tag) → IsWhether b (IsFirstOf (part required s ps) tag)
others_whether s ps tag t true e n h = inr h
others_whether s ps tag t false e n h = λ f. elim f [ inl g ↦ n (first_own s t tag e g) | inr i ↦ h i ]

-- A refusal of alternatives is one of the CHOICE.
pub alternative_decodes : {D : Type 0} (extensible : Bool) (ps : Parts) (tree : D → Tree) (name : List ℕ) (tag : Tag) (old : State) (r : Result D DecodeError) (new : State) → NextTag (form old.rule) old.rest tag
    → Decodes (choice_by extensible ps) tree old r new → IfErr r (λ e. FailsAtAlternativeBy extensible ps name tag old e new) → DecodesAlternativeBy extensible ps tree name old r new
alternative_decodes false ps tree name tag old (Ok v) new n a f = a
alternative_decodes false ps tree name tag old (Err e) new n a f = inr (tag, n, f)
alternative_decodes true ps tree name tag old (Ok v) new n a f = a
alternative_decodes true ps tree name tag old (Err e) new n a f = inr (tag, n, f)

-- The next tag can't be read.
pub no_next_tag : {D : Type 0} (extensible : Bool) (ps : Parts) (tree : D → Tree) (name : List ℕ) (old : State) (e : DecodeError) → PeeksTag old (Err e) → DecodesAlternativeBy extensible ps tree name old (Err e) old
no_next_tag false ps tree name old e p = inl (p, refl)
no_next_tag true ps tree name old e p = inl (p, refl)

-- The first alternative can't be read, or the others can't.
pub first_fails_by : (extensible : Bool) (p : Presence) (s : Shape) (ps : Parts) (name : List ℕ) (tag : Tag) (old new : State) (e : DecodeError) → own s ≡ Some tag → FailsAtValue p s old e new
    → FailsAtAlternativeBy extensible (part p s ps) name tag old e new
first_fails_by false p s ps name tag old new e h f = inl (h, f)
first_fails_by true p s ps name tag old new e h f = inl (h, f)

pub others_fail_by : (extensible : Bool) (p : Presence) (s : Shape) (ps : Parts) (name : List ℕ) (tag : Tag) (old new : State) (e : DecodeError) → (own s ≡ Some tag → ⊥) → FailsAtAlternativeBy extensible ps name tag old e new
    → FailsAtAlternativeBy extensible (part p s ps) name tag old e new
others_fail_by false p s ps name tag old new e n f = inr (n, f)
others_fail_by true p s ps name tag old new e n f = inr (n, f)

-- If an alternative has the next tag, no unknown value is read.
known_read : (extensible : Bool) (ps : Parts) (tag : Tag) (old new : State) (o : Outcome) (k : ℕ) → NextTag (form old.rule) old.rest tag → IsFirstOf ps tag → DecodesExactly (ReadsNumbered k ps) old o new
    → DecodesExactly (ReadsNumberedBy extensible k ps) old o new
known_read false ps tag old new o k n f a = record { stays = a.stays; end = a.end; exact = a.exact }
known_read true ps tag old new o k n f a = record {
  stays = a.stays;
  end = a.end;
  exact = Exact-same (ReadsNumbered k ps old.rule old.depth old.closing) (ReadsNumberedBy true k ps old.rule old.depth old.closing) old.rest o (λ v r w. inl w) back a.exact;
}
  where
    back : (v : Tree) (r : List ℕ) → ReadsNumberedBy true k ps old.rule old.depth old.closing old.rest v r → ReadsNumbered k ps old.rule old.depth old.closing old.rest v r
    back v r (inl w) = w
    back v r (inr (u, e, next, m, others, x)) = absurd (others (subst (IsFirstOf ps) (sym (next_one old.rest next tag m n)) f))

module _ (p : Presence) (s : Shape) (ps : Parts) (tag t : Tag) (h : tag ≡ t) (e : own s ≡ Some t) (others : IsFirstOf ps t → ⊥) where
  only_first : IsOnlyAlternative (part p s ps) 0 p s tag
  only_first = (refl, refl, own_first s tag (e ∙ ap (λ x. Some x) (sym h)), λ f. others (subst (IsFirstOf ps) h f))

  first_is : IsFirst s tag
  first_is = own_first s tag (e ∙ ap (λ x. Some x) (sym h))

  pub first_known : (extensible : Bool) (old new : State) (o : Outcome) → NextTag (form old.rule) old.rest tag → (k : ℕ) → DecodesExactly (ReadsNumbered k (part p s ps)) old o new
      → DecodesExactly (ReadsNumberedBy extensible k (part p s ps)) old o new
  first_known extensible old new o n k a = known_read extensible (part p s ps) tag old new o k n (inl first_is) a

  -- The first alternative is read.
  pub first_got : (old new : State) → NextTag (form old.rule) old.rest tag → (u : Tree) → DecodesExactly (OneAlternative p s) old (Got u new.rest) new → (k : ℕ)
      → DecodesExactly (ReadsNumbered k (part p s ps)) old (Got (chosen (k + 0) u) new.rest) new
  first_got old new n u a k = record {
    stays = a.stays;
    end = a.end;
    exact = (
      read_at old.rule old.depth old.closing old.rest tag n (part p s ps) k 0 (k + 0) p s refl only_first u new.rest (no_default old.rule old.depth old.closing old.rest tag n p s first_is u new.rest a.exact.0),
      λ v r w. let q = alone old.rule old.depth old.closing old.rest tag n (part p s ps) k 0 (k + 0) p s refl only_first v r w in
          let f = a.exact.1 q.0 r (as_read old.rule old.depth old.closing old.rest tag n p s first_is q.0 r q.2) in (q.1 ∙ ap (λ u. chosen (k + 0) u) f.0, f.1),
    );
  }

  -- It is refused.
  pub first_refused : (old new : State) → NextTag (form old.rule) old.rest tag → (kind : DecodeErrorKind) → DecodesExactly (OneAlternative p s) old (refusal kind) new → (k : ℕ)
      → DecodesExactly (ReadsNumbered k (part p s ps)) old (refusal kind) new
  first_refused old new n kind a k = record {
    stays = a.stays;
    end = a.end;
    exact = Exact-refusal kind (OneAlternative p s old.rule old.depth old.closing) (ReadsNumbered k (part p s ps) old.rule old.depth old.closing) old.rest old.rest
        (λ nothing v r w. let q = alone old.rule old.depth old.closing old.rest tag n (part p s ps) k 0 (k + 0) p s refl only_first v r w in nothing q.0 r (as_read old.rule old.depth old.closing old.rest tag n p s first_is q.0 r q.2)) a.exact;
  }

-- The tag is another one, and the other alternatives are read.
module _ (p : Presence) (s : Shape) (ps : Parts) (tag t : Tag) (not_this : tag ≡ t → ⊥) (e : own s ≡ Some t) (old new : State) (n : NextTag (form old.rule) old.rest tag) where
  not_first : (next : Tag) → NextTag (form old.rule) old.rest next → IsFirst s next → ⊥
  not_first next m g = not_this (first_own s t tag e (subst (λ z. IsFirst s z) (next_one old.rest next tag m n) g))

  there : (extensible : Bool) (k : ℕ) (v : Tree) (r : List ℕ) → ReadsNumberedBy extensible (suc k) ps old.rule old.depth old.closing old.rest v r
      → ReadsNumberedBy extensible k (part p s ps) old.rule old.depth old.closing old.rest v r
  unfolding parts_of
  there false k v r w = inr w
  there true k v r (inl w) = inl (inr w)
  there true k v r (inr (u, f, next, m, others, x)) =
      inr (u, f ∙ ap (λ i. chosen i u) (omega arith), next, m, λ g. elim g [ inl h ↦ not_first next m h | inr h ↦ others h ], x)

  back : (extensible : Bool) (k : ℕ) (v : Tree) (r : List ℕ) → ReadsNumberedBy extensible k (part p s ps) old.rule old.depth old.closing old.rest v r
      → ReadsNumberedBy extensible (suc k) ps old.rule old.depth old.closing old.rest v r
  unfolding parts_of
  back false k v r (inl (u, f, next, m, g, x, z)) = absurd (not_first next m g)
  back false k v r (inr w) = w
  back true k v r (inl (inl (u, f, next, m, g, x, z))) = absurd (not_first next m g)
  back true k v r (inl (inr w)) = inl w
  back true k v r (inr (u, f, next, m, others, x)) = inr (u, f ∙ ap (λ i. chosen i u) (omega arith), next, m, λ g. others (inr g), x)

  pub others_read : (extensible : Bool) (k : ℕ) (o : Outcome) → DecodesExactly (ReadsNumberedBy extensible (suc k) ps) old o new → DecodesExactly (ReadsNumberedBy extensible k (part p s ps)) old o new
  others_read extensible k o a = record {
    stays = a.stays;
    end = a.end;
    exact = Exact-same (ReadsNumberedBy extensible (suc k) ps old.rule old.depth old.closing) (ReadsNumberedBy extensible k (part p s ps) old.rule old.depth old.closing) old.rest o (there extensible k) (back extensible k) a.exact;
  }

  pub others_got : (extensible : Bool) (k i : ℕ) (u : Tree) → DecodesExactly (ReadsNumberedBy extensible (suc k) ps) old (Got (chosen (suc k + i) u) new.rest) new
      → DecodesExactly (ReadsNumberedBy extensible k (part p s ps)) old (Got (chosen (k + suc i) u) new.rest) new
  others_got extensible k i u a =
      let f : suc k + i ≡ k + suc i = omega arith in
      others_read extensible k (Got (chosen (k + suc i) u) new.rest) (subst (λ m. DecodesExactly (ReadsNumberedBy extensible (suc k) ps) old (Got (chosen m u) new.rest) new) f a)

-- There is no alternative.
pub none_read : (k : ℕ) (kind : DecodeErrorKind) {old : State} → DecodesExactly (ReadsNumbered k none) old (refusal kind) old
unfolding parts_of
none_read k kind {old} = record { stays = refl; end = IsEnd-refl old.rest; exact = Exact-none kind (ReadsNumbered k none old.rule old.depth old.closing) old.rest (λ t r h. h) }

-- The value is unknown, and is read as an open type without a tag.
pub unknown_read : (tag : Tag) (old : State) (r : Result Any DecodeError) (new : State) → NextTag (form old.rule) old.rest tag → DecodesOpenType eoc old r new → (k : ℕ)
    → DecodesBy (ReadsNumberedBy true k none) (λ (a : Any). chosen (k + 0) (numbers a)) old r new
unfolding Reads parts_of
unknown_read tag old (Ok a) new n d k =
    let x = open_decodes eoc old new (Ok a) d in
    record {
      stays = x.stays;
      end = x.end;
      exact = (
        inr (numbers a, refl, tag, n, (λ f. f), x.exact.0),
        λ v r w. elim w [ inl z ↦ absurd z | inr z ↦ (let q = x.exact.1 z.0 r z.5 in (z.1 ∙ ap (λ u. chosen (k + 0) u) q.0, q.1)) ],
      );
    }
unknown_read tag old (Err e) new n d k =
    let x = open_decodes eoc old new (Err e) d in
    record {
      stays = x.stays;
      end = x.end;
      exact = Exact-refusal e.kind (Reads old.rule (any None) old.depth old.closing) (ReadsNumberedBy true k none old.rule old.depth old.closing) old.rest old.rest
          (λ nothing v r w. elim w [ inl z ↦ absurd z | inr z ↦ nothing z.0 r z.5 ]) x.exact;
    }

-- The alternatives of a CHOICE are counted from 0.
pub choice_by_read : (extensible : Bool) (ps : Parts) {old new : State} {o : Outcome} → DecodesExactly (ReadsNumberedBy extensible 0 ps) old o new → DecodesExactly (λ rule. Reads rule (choice_by extensible ps)) old o new
unfolding Reads
choice_by_read false ps {old} {new} {o} a = record { stays = a.stays; end = a.end; exact = a.exact }
choice_by_read true ps {old} {new} {o} a =
    let f : 0 + count ps ≡ count ps = omega arith in
    record {
      stays = a.stays;
      end = a.end;
      exact = subst (λ n. Exact (ReadsOpenChoice old.rule (IsFirstOf ps) n (ReadsNumbered 0 ps old.rule old.depth old.closing)) old.rest o) f a.exact;
    }

counted : {T : Type 0} (number : T → ℕ) (inner : T → Tree) (r : Result T DecodeError) (l : List ℕ) → outcome (λ v. chosen (0 + number v) (inner v)) r l ≡ outcome (λ v. chosen (number v) (inner v)) r l
counted number inner (Ok v) l = let f : 0 + number v ≡ number v = omega arith in ap (λ m. Got (chosen m (inner v)) l) f
counted number inner (Err e) l = refl

pub numbered_decodes : {T : Type 0} (extensible : Bool) (ps : Parts) (number : T → ℕ) (inner : T → Tree) (old : State) (r : Result T DecodeError) (new : State) → DecodesNumbered extensible ps number inner old r new
    → Decodes (choice_by extensible ps) (λ v. chosen (number v) (inner v)) old r new
numbered_decodes extensible ps number inner old r new a =
    choice_by_read extensible ps (subst (λ o. DecodesExactly (ReadsNumberedBy extensible 0 ps) old o new) (counted number inner r new.rest) (a.from 0))

-- A CHOICE, of which the last alternative may be unknown values, is read as the first alternative that may begin with the next tag.
use Rattle.std.proofs.Common.{◌≡◌, ◌⊎◌, ℕ, zero, suc, Bool, true, List, [], ◌∷◌, Some, None, refl, sym, ap, ◌∙◌, subst, arith, inl, inr}
use Rattle.std.specs.Prelude.{slice_get}
use Rattle.std.proofs.lemmas.Bool.{cases_order}
use Rattle.rasn_types.specs.declared.types.codec.Codec.{Codec}
use Rattle.rasn_types.specs.declared.types.tag.Tag.{Tag}
use Rattle.rasn_types.specs.Tags.{form}
use Rattle.rasn_types.specs.Framing.{NextTag}
use Rattle.rasn_types.specs.Shapes.{Tree, chosen, Shape, leaf, any, prefix, choice, open_choice, option, seq, set, sorted_set, list, set_of, unknown, Parts, part, required, count, IsFirst, IsFirstOf}
use Rattle.rasn_types.specs.Shapes.Parts.{none}
use Rattle.rasn_types.specs.Readings.{ReadsChoice}
use Rattle.rasn_types.specs.Grammar.{Reads, parts_of}
use Rattle.rasn_types.specs.Lawful.{IsLawful, AreAlternatives, AreDistinguished}
use Rattle.rasn_types.proofs.Headers.Frames.{next_one}
use Rattle.rasn_de.specs.Choice.{IsOnlyAlternative}
use Rattle.rasn_de.proofs.Constructed.Choice.{choice_next}
use Rattle.rasn_de.proofs.OwnTypes.Alternatives.{read_at, alone}
use Rattle.rasn_schema.specs.declared.types.Alternative.{Alternative}
use Rattle.rasn_schema.specs.FirstTags.{IsAlternativeFor}
use Rattle.rasn_schema.specs.Shapes.{alternatives_by, is_open, ends_open, before_last, choice_among, IsReadable}
use Rattle.rasn_schema.proofs.Lists.{some_is}
use Rattle.rasn_schema.proofs.OpenEnds.{among, among_known}

-- ---- the first alternative that may begin with a tag

abbrev pub IsFirstAlternative : Parts → ℕ → Shape → Tag → Type 0
IsFirstAlternative none k s tag = ⊥
IsFirstAlternative (part presence x ps) zero s tag = (presence ≡ required) × (x ≡ s) × IsFirst s tag
IsFirstAlternative (part presence x ps) (suc k) s tag = (IsFirst x tag → ⊥) × IsFirstAlternative ps k s tag

pub first_alternative : (f : ℕ → Shape) (ks : List Alternative) (tag : Tag) (k : ℕ) (a : Alternative) → IsAlternativeFor f ks tag k a → IsFirstAlternative (alternatives_by f ks) k (f a.type_id.0) tag
first_alternative f [] tag k a (e, h, n) = absurd cc
first_alternative f (b ∷ ks) tag zero a (e, h, n) = (refl, ap (λ (x : Alternative). f x.type_id.0) (some_is b a (sym e)), h)
first_alternative f (b ∷ ks) tag (suc k) a (e, h, n) = ((λ g. n 0 b (omega arith) refl g), first_alternative f ks tag k a (e, h, λ j c m i g. n (suc j) c (omega (arith, m)) i g))

-- There is one such alternative.
pub one_alternative : (f : ℕ → Shape) (ks : List Alternative) (tag : Tag) (j k : ℕ) (a b : Alternative) → IsAlternativeFor f ks tag j a → IsAlternativeFor f ks tag k b → j ≡ k
one_alternative f ks tag j k a b (e, h, n) (g, i, m) = elim (cases_order j k) [
  | inl same ↦ same
  | inr (inl before) ↦ absurd (m j a before e h)
  | inr (inr before) ↦ absurd (n k b before g i)
]

first_there : (ps : Parts) (k : ℕ) (s : Shape) (tag : Tag) → IsFirstAlternative ps k s tag → IsFirstOf ps tag
first_there none k s tag h = absurd h
first_there (part presence x ps) zero s tag (r, e, h) = inl (subst (λ z. IsFirst z tag) (sym e) h)
first_there (part presence x ps) (suc k) s tag (n, h) = inr (first_there ps k s tag h)

-- Where no two begin with the same tag, it is the only one.
pub first_alone : (ps : Parts) (k : ℕ) (s : Shape) (tag : Tag) → AreDistinguished ps → IsFirstAlternative ps k s tag → IsOnlyAlternative ps k required s tag
first_alone none k s tag d h = absurd h
first_alone (part presence x ps) zero s tag d (r, e, h) = (r, e, h, λ g. d.0 tag (subst (λ z. IsFirst z tag) (sym e) h) g)
first_alone (part presence x ps) (suc k) s tag d (n, h) = (n, first_alone ps k s tag d.1 h)

-- ---- the last alternative is an open type

pub open_is : (s : Shape) → is_open s ≡ true → s ≡ any None
open_is (any None) e = refl
open_is (any (Some tag)) e = cc
open_is (leaf kind tag c) e = cc
open_is (prefix tag s) e = cc
open_is (choice ps) e = cc
open_is (open_choice ps) e = cc
open_is (option tag s) e = cc
open_is (seq tag ps) e = cc
open_is (set tag ps) e = cc
open_is (sorted_set extensible tag ps) e = cc
open_is (list tag s c) e = cc
open_is (set_of tag s c) e = cc
open_is unknown e = cc

-- So an alternative may begin with any tag.
pub open_begins : (ps : Parts) (tag : Tag) → ends_open ps ≡ true → IsFirstOf ps tag
open_begins none tag o = cc
open_begins (part presence s none) tag o = inl (subst (λ z. IsFirst z tag) (sym (open_is s o)) tt)
open_begins (part presence s (part next u ps)) tag o = inr (open_begins (part next u ps) tag o)

-- The first that may begin with a tag is one of those before the last; or it is the last, and none of those may.
pub first_of_open : (ps : Parts) (k : ℕ) (s : Shape) (tag : Tag) → ends_open ps ≡ true → IsFirstAlternative ps k s tag
    → IsFirstAlternative (before_last ps) k s tag ⊎ ((k ≡ count (before_last ps)) × (s ≡ any None) × (IsFirstOf (before_last ps) tag → ⊥))
first_of_open none k s tag o h = absurd h
first_of_open (part presence x none) zero s tag o (r, e, h) = inr (refl, sym e ∙ open_is x o, λ g. g)
first_of_open (part presence x none) (suc k) s tag o (n, h) = absurd h
first_of_open (part presence x (part next u ps)) zero s tag o h = inl h
first_of_open (part presence x (part next u ps)) (suc k) s tag o (n, h) = elim (first_of_open (part next u ps) k s tag o h) [
  | inl g ↦ inl (n, g)
  | inr (e, a, m) ↦ inr (ap suc e, a, λ g. either n m g)
]
  where
    either : {A B : Type 0} → (A → ⊥) → (B → ⊥) → A ⊎ B → ⊥
    either f g (inl a) = f a
    either f g (inr b) = g b

-- ---- what is lawful

pub among_lawful : (ps : Parts) → IsReadable (choice_among ps) → IsLawful (choice_among ps)
among_lawful ps (inl h) = h.1
among_lawful ps (inr e) = absurd (among_known ps e)

choice_lawful : (ps : Parts) → IsLawful (choice ps) → AreAlternatives ps × AreDistinguished ps
unfolding IsLawful
choice_lawful ps h = h

open_lawful : (qs : Parts) → IsLawful (open_choice qs) → AreAlternatives qs × AreDistinguished qs
unfolding IsLawful
open_lawful qs h = h

alternative_of_choice : (f : ℕ → Shape) (ks : List Alternative) (k : ℕ) (a : Alternative) → AreAlternatives (alternatives_by f ks) → Some a ≡ slice_get ks k → IsReadable (f a.type_id.0)
unfolding IsLawful
alternative_of_choice f [] k a h e = absurd cc
alternative_of_choice f (b ∷ ks) zero a h e = subst (λ (x : Alternative). IsReadable (f x.type_id.0)) (some_is b a (sym e)) (inl (h.2, h.3))
alternative_of_choice f (b ∷ ks) (suc k) a h e = alternative_of_choice f ks k a h.4 e

alternative_of_open : (f : ℕ → Shape) (ks : List Alternative) (k : ℕ) (a : Alternative) → ends_open (alternatives_by f ks) ≡ true → AreAlternatives (before_last (alternatives_by f ks)) → Some a ≡ slice_get ks k → IsReadable (f a.type_id.0)
unfolding IsLawful
alternative_of_open f [] k a o h e = absurd cc
alternative_of_open f (b ∷ []) zero a o h e = subst (λ (x : Alternative). IsReadable (f x.type_id.0)) (some_is b a (sym e)) (subst IsReadable (sym (open_is (f b.type_id.0) o)) (inl (tt, tt)))
alternative_of_open f (b ∷ []) (suc k) a o h e = absurd cc
alternative_of_open f (b ∷ (c ∷ ks)) zero a o h e = subst (λ (x : Alternative). IsReadable (f x.type_id.0)) (some_is b a (sym e)) (inl (h.2, h.3))
alternative_of_open f (b ∷ (c ∷ ks)) (suc k) a o h e = alternative_of_open f (c ∷ ks) k a o h.4 e

pub lawful_at : (f : ℕ → Shape) (ks : List Alternative) (k : ℕ) (a : Alternative) → IsReadable (choice_among (alternatives_by f ks)) → Some a ≡ slice_get ks k → IsReadable (f a.type_id.0)
lawful_at f ks k a h e = among (λ s. IsLawful s → IsReadable (f a.type_id.0)) (alternatives_by f ks)
    (λ o r. alternative_of_open f ks k a o (open_lawful (before_last (alternatives_by f ks)) r).0 e)
    (λ c r. alternative_of_choice f ks k a (choice_lawful (alternatives_by f ks) r).0 e) (among_lawful (alternatives_by f ks) h)

-- ---- what is read

-- It begins with a tag.
tag_of_choice : (ps : Parts) (rule : Codec) (depth : ℕ) (closing : Bool) (input : List ℕ) (t : Tree) (rest : List ℕ) → Reads rule (choice ps) depth closing input t rest → (tag : Tag) × NextTag (form rule) input tag
unfolding Reads
tag_of_choice ps rule depth closing input t rest h = choice_next rule 0 (parts_of rule ps depth closing) input t rest h

tag_of_open : (qs : Parts) (rule : Codec) (depth : ℕ) (closing : Bool) (input : List ℕ) (t : Tree) (rest : List ℕ) → Reads rule (open_choice qs) depth closing input t rest → (tag : Tag) × NextTag (form rule) input tag
unfolding Reads
tag_of_open qs rule depth closing input t rest (inl h) = choice_next rule 0 (parts_of rule qs depth closing) input t rest h
tag_of_open qs rule depth closing input t rest (inr (u, e, next, n, others, r)) = (next, n)

pub tag_of_among : (ps : Parts) (rule : Codec) (depth : ℕ) (closing : Bool) (input : List ℕ) (t : Tree) (rest : List ℕ) → Reads rule (choice_among ps) depth closing input t rest → (tag : Tag) × NextTag (form rule) input tag
tag_of_among ps rule depth closing input t rest = among (λ s. Reads rule s depth closing input t rest → (tag : Tag) × NextTag (form rule) input tag) ps
    (λ o. tag_of_open (before_last ps) rule depth closing input t rest) (λ c. tag_of_choice ps rule depth closing input t rest)

module _ (rule : Codec) (depth : ℕ) (closing : Bool) (input : List ℕ) (tag : Tag) (n : NextTag (form rule) input tag) where
  -- An alternative begins with the tag.
  begins_first : (ps : Parts) (j : ℕ) (t : Tree) (rest : List ℕ) → ReadsChoice rule j (parts_of rule ps depth closing) input t rest → IsFirstOf ps tag
  unfolding parts_of
  begins_first none j t rest h = absurd h
  begins_first (part presence s ps) j t rest (inl (u, e, next, m, f, r, z)) = inl (subst (λ x. IsFirst s x) (next_one input next tag m n) f)
  begins_first (part presence s ps) j t rest (inr h) = inr (begins_first ps (suc j) t rest h)

  module _ (ps : Parts) (k : ℕ) (s : Shape) where
    -- Without unknown values.
    as_choice : IsOnlyAlternative ps k required s tag → (u : Tree) (rest : List ℕ) → Reads rule s depth closing input u rest → Reads rule (choice ps) depth closing input (chosen k u) rest
    unfolding Reads
    as_choice only u rest r = read_at rule depth closing input tag n ps 0 k k required s (omega arith) only u rest (r, λ strict. tt)

    of_choice : IsOnlyAlternative ps k required s tag → (t : Tree) (rest : List ℕ) → Reads rule (choice ps) depth closing input t rest → (u : Tree) × (t ≡ chosen k u) × Reads rule s depth closing input u rest
    unfolding Reads
    of_choice only t rest h = let q = alone rule depth closing input tag n ps 0 k k required s (omega arith) only t rest h in (q.0, q.1, q.2.0)

  -- With them, what begins with the tag of an alternative is as without.
  module _ (qs : Parts) where
    pub as_named : (t : Tree) (rest : List ℕ) → Reads rule (choice qs) depth closing input t rest → Reads rule (open_choice qs) depth closing input t rest
    unfolding Reads
    as_named t rest h = inl h

    pub of_named : IsFirstOf qs tag → (t : Tree) (rest : List ℕ) → Reads rule (open_choice qs) depth closing input t rest → Reads rule (choice qs) depth closing input t rest
    unfolding Reads
    of_named f t rest (inl h) = h
    of_named f t rest (inr (u, e, next, m, others, r)) = absurd (others (subst (IsFirstOf qs) (next_one input tag next n m) f))

    -- What begins with another tag is an unknown value.
    pub as_unknown : (IsFirstOf qs tag → ⊥) → (u : Tree) (rest : List ℕ) → Reads rule (any None) depth closing input u rest → Reads rule (open_choice qs) depth closing input (chosen (count qs) u) rest
    unfolding Reads
    as_unknown others u rest r = inr (u, refl, tag, n, others, r)

    pub of_unknown : (IsFirstOf qs tag → ⊥) → (t : Tree) (rest : List ℕ) → Reads rule (open_choice qs) depth closing input t rest → (u : Tree) × (t ≡ chosen (count qs) u) × Reads rule (any None) depth closing input u rest
    unfolding Reads
    of_unknown others t rest (inl h) = absurd (others (begins_first qs 0 t rest h))
    of_unknown others t rest (inr (u, e, next, m, f, r)) = (u, e, r)

  module _ (ps : Parts) (k : ℕ) (s : Shape) (lawful : IsLawful (choice_among ps)) (first : IsFirstAlternative ps k s tag) where
    -- The first alternative that may begin with the tag is read as the CHOICE.
    pub as_among : (u : Tree) (rest : List ℕ) → Reads rule s depth closing input u rest → Reads rule (choice_among ps) depth closing input (chosen k u) rest
    as_among u rest r = among (λ z. IsLawful z → Reads rule z depth closing input (chosen k u) rest) ps
        (λ o h. elim (first_of_open ps k s tag o first) [
          | inl g ↦ as_named (before_last ps) (chosen k u) rest (as_choice (before_last ps) k s (first_alone (before_last ps) k s tag (open_lawful (before_last ps) h).1 g) u rest r)
          | inr (e, a, others) ↦ subst (λ i. Reads rule (open_choice (before_last ps)) depth closing input (chosen i u) rest) (sym e)
              (as_unknown (before_last ps) others u rest (subst (λ z. Reads rule z depth closing input u rest) a r))
        ])
        (λ c h. as_choice ps k s (first_alone ps k s tag (choice_lawful ps h).1 first) u rest r) lawful

    -- Nothing else is.
    pub of_among : (t : Tree) (rest : List ℕ) → Reads rule (choice_among ps) depth closing input t rest → (u : Tree) × (t ≡ chosen k u) × Reads rule s depth closing input u rest
    of_among t rest = among (λ z. IsLawful z → Reads rule z depth closing input t rest → (u : Tree) × (t ≡ chosen k u) × Reads rule s depth closing input u rest) ps
        (λ o h r. elim (first_of_open ps k s tag o first) [
          | inl g ↦ of_choice (before_last ps) k s (first_alone (before_last ps) k s tag (open_lawful (before_last ps) h).1 g) t rest (of_named (before_last ps) (first_there (before_last ps) k s tag g) t rest r)
          | inr (e, a, others) ↦ let q = of_unknown (before_last ps) others t rest r in (q.0, q.1 ∙ ap (λ i. chosen i q.0) (sym e), subst (λ z. Reads rule z depth closing input q.0 rest) (sym a) q.2)
        ])
        (λ c h r. of_choice ps k s (first_alone ps k s tag (choice_lawful ps h).1 first) t rest r) lawful

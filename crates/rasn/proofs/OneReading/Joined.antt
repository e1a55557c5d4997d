-- Readings that relate an input to one value and one rest stay so when they are joined.
use Rattle.std.proofs.Common.{◌≡◌, ℕ, suc, ◌⊎◌, inl, inr, List, [], ◌∷◌, ◌++◌, Bool, true, false, refl, sym, ap, ap₂, ◌∙◌, subst}
use Rattle.rasn_types.specs.Tags.{Form, form, IsStrict}
use Rattle.rasn_types.specs.declared.types.codec.Codec.{Codec}
use Rattle.rasn_types.specs.declared.types.tag.Tag.{Tag}
use Rattle.rasn_types.specs.Framing.{NextTag}
use Rattle.rasn_types.specs.Shapes.{Tree, items, IsSetTree, chosen, absent, Presence, required, addition, optional_by, default_by, Sought}
use Rattle.rasn_types.specs.Readings.{Reading, ReadsContents, definite_form, indefinite_form, ReadsMany, IsNoDefault, ReadsOptional, Part, ReadsPart, ReadsInOrder, AllMissing, presences_in, AreAllLeftOut, ReadsSeq, ReadsChoice, ReadsUnknown, ByPart, AllOf, ReadsSet, ReadsSortedSet}
use Rattle.rasn_types.proofs.Headers.Frames.{frame_one, next_one}
use Rattle.rasn_de.proofs.Constructed.Optional.{apart}
use Rattle.rasn_de.proofs.Constructed.OneReading.{all_missing_one, by_part_one}

-- at most one value and rest
abbrev pub IsOne : {X : Type 0} → Reading X → Type 0
IsOne {X} reads = (input : List ℕ) (x y : X) (rest other : List ℕ) → reads input x rest → reads input y other → (x ≡ y) × (rest ≡ other)

pub inside_one : {X : Type 0} (inner : Bool → Reading X) → ((c : Bool) → IsOne (inner c))
    → {rule : Codec} {s t : Tag} {b d : Bool} (input : List ℕ) (x y : X) (rest other : List ℕ)
    → ReadsContents rule s b inner input x rest → ReadsContents rule t d inner input y other → (x ≡ y) × (rest ≡ other)
inside_one inner one input x y rest other (definite_form c f r) (definite_form c' f' r') =
    let o = frame_one input f f' in
    let e = o.extent in
    let p : c ≡ c' = cc in
    ((one false c x y [] [] r (subst (λ l. inner false l y []) (sym p) r')).0, o.rest)
inside_one inner one input x y rest other (definite_form c f r) (indefinite_form b' f' r') =
    let e = (frame_one input f f').extent in cc
inside_one inner one input x y rest other (indefinite_form b f r) (definite_form c' f' r') =
    let e = (frame_one input f f').extent in cc
inside_one inner one input x y rest other (indefinite_form b f r) (indefinite_form b' f' r') =
    let p = (frame_one input f f').rest in
    let o = one true b x y (0 ∷ 0 ∷ rest) (0 ∷ 0 ∷ other) r (subst (λ l. inner true l y (0 ∷ 0 ∷ other)) (sym p) r') in
    let q = o.1 in
    (o.0, cc)

pub many_one : {X : Type 0} (reads : Reading X) → IsOne reads → (closing : Bool) → IsOne (ReadsMany reads closing)
many_one reads one closing input [] [] rest other h k = let p = h.1 in let q = k.1 in (refl, cc)
many_one reads one closing input [] (y ∷ ys) rest other h k = absurd (k.0 h.0)
many_one reads one closing input (x ∷ xs) [] rest other h k = absurd (h.0 k.0)
many_one reads one closing input (x ∷ xs) (y ∷ ys) rest other h k =
    let o = one input x y h.1 k.1 h.2 k.2 in
    let t = many_one reads one closing k.1 xs ys rest other (subst (λ l. ReadsMany reads closing l xs rest) o.1 h.3) k.3 in
    (ap₂ ◌∷◌ o.0 t.0, t.1)

pub perhaps_one : {X : Type 0} (spelling : Form) (tags : Sought) (without : X) (reads : Reading X) → IsOne reads → (closing : Bool) → IsOne (ReadsOptional spelling tags without reads closing)
perhaps_one spelling tags without reads one closing input x y rest other (inl (p, q, r)) (inl (u, v, w)) = (cc, cc)
perhaps_one spelling tags without reads one closing input x y rest other (inl (p, q, r)) (inr (u, v)) = absurd (apart spelling tags closing input p u)
perhaps_one spelling tags without reads one closing input x y rest other (inr (p, q)) (inl (u, v, w)) = absurd (apart spelling tags closing input u p)
perhaps_one spelling tags without reads one closing input x y rest other (inr (p, q)) (inr (u, v)) = one input x y rest other q v

part_one : (rule : Codec) (presence : Presence) (tags : Sought) (reads : Reading Tree) → IsOne reads → (closing : Bool) → IsOne (ReadsPart rule presence tags reads closing)
part_one rule required tags reads one closing = one
part_one rule addition tags reads one closing = one
part_one rule (optional_by key) tags reads one closing = perhaps_one (form rule) tags absent reads one closing
part_one rule (default_by key d) tags reads one closing =
    perhaps_one (form rule) tags d (λ input t rest. reads input t rest × (IsStrict rule → IsNoDefault (default_by key d) t)) (λ input x y rest other h k. one input x y rest other h.0 k.0) closing

abbrev pub EachPart : (Part → Type 0) → List Part → Type 0
EachPart P [] = Unit {0}
EachPart P (p ∷ ps) = P p × EachPart P ps

abbrev pub ReadsOne : Part → Type 0
ReadsOne p = IsOne p.reads

in_order_one : (rule : Codec) (ps : List Part) → EachPart ReadsOne ps → (closing : Bool) → IsOne (ReadsInOrder rule ps closing)
in_order_one rule [] one closing input ts us rest other h k = let p = h.0 in let q = h.1 in let r = k.0 in let s = k.1 in (cc, cc)
in_order_one rule (p ∷ ps) one closing input ts us rest other h k =
    let o = part_one rule p.presence p.sought p.reads one.0 closing input h.0 k.0 h.2 k.2 h.4 k.4 in
    let t = in_order_one rule ps one.1 closing k.2 h.1 k.1 rest other (subst (λ l. ReadsInOrder rule ps closing l h.1 rest) o.1 h.5) k.5 in
    (h.3 ∙ (ap₂ ◌∷◌ o.0 t.0 ∙ sym k.3), t.1)

pub seq_one : (rule : Codec) (ps : List Part) → EachPart ReadsOne ps → (closing : Bool) → IsOne (ReadsSeq rule ps closing)
seq_one rule ps one closing input t u rest other h k = go h.2 k.2
  where
    go : (AreAllLeftOut ps closing input × AllMissing (presences_in ps) h.0 × (rest ≡ input)) ⊎ ((AreAllLeftOut ps closing input → ⊥) × ReadsInOrder rule ps closing input h.0 rest)
        → (AreAllLeftOut ps closing input × AllMissing (presences_in ps) k.0 × (other ≡ input)) ⊎ ((AreAllLeftOut ps closing input → ⊥) × ReadsInOrder rule ps closing input k.0 other)
        → (t ≡ u) × (rest ≡ other)
    go (inl (a, b, c)) (inl (d, e, f)) = (h.1 ∙ (ap items (all_missing_one ps h.0 k.0 b e) ∙ sym k.1), c ∙ sym f)
    go (inl (a, b, c)) (inr (d, e)) = absurd (d a)
    go (inr (a, b)) (inl (d, e, f)) = absurd (a d)
    go (inr (a, b)) (inr (d, e)) =
        let o = in_order_one rule ps one closing input h.0 k.0 rest other b e in (h.1 ∙ (ap items o.0 ∙ sym k.1), o.1)

-- some part's first tag
abbrev pub IsFirstIn : List Part → Tag → Type 0
IsFirstIn [] n = ⊥
IsFirstIn (p ∷ ps) n = p.IsFirst n ⊎ IsFirstIn ps n

abbrev pub AreApart : List Part → Type 0
AreApart [] = Unit {0}
AreApart (p ∷ ps) = ((n : Tag) → p.IsFirst n → IsFirstIn ps n → ⊥) × AreApart ps

choice_first : (rule : Codec) (ps : List Part) (k : ℕ) (input : List ℕ) (t : Tree) (rest : List ℕ) → ReadsChoice rule k ps input t rest → (n : Tag) × NextTag (form rule) input n × IsFirstIn ps n
choice_first rule [] k input t rest h = absurd h
choice_first rule (p ∷ ps) k input t rest (inl h) = (h.2, h.3, inl h.4)
choice_first rule (p ∷ ps) k input t rest (inr h) = let r = choice_first rule ps (suc k) input t rest h in (r.0, r.1, inr r.2)

pub choice_one : (rule : Codec) (ps : List Part) → EachPart ReadsOne ps → AreApart ps → (k : ℕ) → IsOne (ReadsChoice rule k ps)
choice_one rule [] one apart k input t u rest other h l = absurd h
choice_one rule (p ∷ ps) one apart k input t u rest other (inl h) (inl l) =
    let o = one.0 input h.0 l.0 rest other h.5 l.5 in (h.1 ∙ (ap (chosen k) o.0 ∙ sym l.1), o.1)
choice_one rule (p ∷ ps) one apart k input t u rest other (inl h) (inr l) =
    let r = choice_first rule ps (suc k) input u other l in
    absurd (apart.0 r.0 (subst p.IsFirst (next_one input h.2 r.0 h.3 r.1) h.4) r.2)
choice_one rule (p ∷ ps) one apart k input t u rest other (inr h) (inl l) =
    let r = choice_first rule ps (suc k) input t rest h in
    absurd (apart.0 r.0 (subst p.IsFirst (next_one input l.2 r.0 l.3 r.1) l.4) r.2)
choice_one rule (p ∷ ps) one apart k input t u rest other (inr h) (inr l) = choice_one rule ps one.1 apart.1 (suc k) input t u rest other h l

-- An unknown value has the tag of no part.
pub open_choice_one : (rule : Codec) (ps : List Part) (P : Tag → Type 0) (k : ℕ) (reads : Reading Tree) → ((n : Tag) → IsFirstIn ps n → P n) → IsOne (ReadsChoice rule 0 ps) → IsOne reads
    → IsOne (λ input t rest. ReadsChoice rule 0 ps input t rest ⊎ ReadsUnknown rule P k reads input t rest)
open_choice_one rule ps P k reads first one whole input t u rest other (inl h) (inl i) = one input t u rest other h i
open_choice_one rule ps P k reads first one whole input t u rest other (inl h) (inr (v, e, n, next, m, i)) =
    let r = choice_first rule ps 0 input t rest h in absurd (m (subst P (next_one input r.0 n r.1 next) (first r.0 r.2)))
open_choice_one rule ps P k reads first one whole input t u rest other (inr (v, e, n, next, m, h)) (inl i) =
    let r = choice_first rule ps 0 input u other i in absurd (m (subst P (next_one input r.0 n r.1 next) (first r.0 r.2)))
open_choice_one rule ps P k reads first one whole input t u rest other (inr (v, e, n, next, m, h)) (inr (w, f, l, next', m', i)) =
    let o = whole input v w rest other h i in (e ∙ (ap (chosen k) o.0 ∙ sym f), o.1)

pub set_one : (rule : Codec) (ps : List Presence) (reads : Reading Tree) → IsOne reads → (closing : Bool) → IsOne (ReadsSet rule ps reads closing)
set_one rule ps reads one closing input t u rest other h k =
    let m = many_one reads one closing input h.0 k.0 rest other h.3 k.3 in
    let b = by_part_one ps 0 k.0 h.1 k.1 (subst (λ r. ByPart 0 ps r h.1) m.0 h.4) k.4 in
    (h.2 ∙ (ap items b ∙ sym k.2), m.1)

all_of_one : (k : ℕ) (rs us vs : List Tree) → AllOf k rs us → AllOf k rs vs → us ≡ vs
all_of_one k [] us vs h i = h ∙ sym i
all_of_one k (r ∷ rs) us vs (inl (u, more, e, f, h)) (inl (v, others, g, l, i)) = let d : u ≡ v = cc in f ∙ (ap₂ ◌∷◌ d (all_of_one k rs more others h i) ∙ sym l)
all_of_one k (r ∷ rs) us vs (inl (u, more, e, f, h)) (inr (d, i)) = absurd (d u e)
all_of_one k (r ∷ rs) us vs (inr (d, h)) (inl (v, others, g, l, i)) = absurd (d v g)
all_of_one k (r ∷ rs) us vs (inr (d, h)) (inr (d', i)) = all_of_one k rs us vs h i

set_tree_of : (extensible : Bool) (ts us ts' us' : List Tree) (t u : Tree) → ts ≡ ts' → us ≡ us' → IsSetTree extensible ts us t → IsSetTree extensible ts' us' u → t ≡ u
set_tree_of true ts us ts' us' t u e f h k = h ∙ (ap₂ (λ x y. items (x ++ (items y ∷ []))) e f ∙ sym k)
set_tree_of false ts us ts' us' t u e f h k = h.1 ∙ (ap items e ∙ sym k.1)

pub sorted_set_one : (rule : Codec) (extensible : Bool) (ps : List Presence) (k : ℕ) (reads : Reading Tree) → IsOne reads → (closing : Bool) → IsOne (ReadsSortedSet rule extensible ps k reads closing)
sorted_set_one rule extensible ps k reads one closing input t u rest other (rs, ts, us, e, m, b, a, z) (rs', ts', us', e', m', b', a', z') =
    let o = many_one reads one closing input rs rs' rest other m m' in
    let p = by_part_one ps 0 rs' ts ts' (subst (λ r. ByPart 0 ps r ts) o.0 b) b' in
    let q = all_of_one k rs' us us' (subst (λ r. AllOf k r us) o.0 a) a' in
    (set_tree_of extensible ts us ts' us' t u p q e e', o.1)

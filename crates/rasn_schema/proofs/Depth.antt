-- From the depth on to which values are read, it makes no difference how deep types are followed.
use Rattle.std.proofs.Common.{◌≡◌, ℕ, zero, suc, ◌+◌, ◌*◌, ◌-◌, ◌<◌, ◌≤◌, inl, inr, Bool, true, false, List, [], ◌∷◌, length, Option, Some, None, refl, sym, ap, ◌∙◌, subst, arith}
use Rattle.std.specs.Prelude.{slice_get}
use Rattle.std.proofs.Math.Nat.{suc-mul, mul-le-mul_right}
use Rattle.std.proofs.lemmas.Option.{slice_get_within}
use Rattle.rasn_types.specs.declared.types.codec.Codec.{Codec}
use Rattle.rasn_types.specs.declared.types.tag.Tag.{Tag}
use Rattle.rasn_types.specs.Tags.{IsStrict, form}
use Rattle.rasn_types.specs.Shapes.Parts.{none}
use Rattle.rasn_types.specs.Shapes.{Tree, chosen, absent, Shape, Parts, choice, open_choice, count, own, IsFirst, IsFirstOf, Key, own_tag, first_tags, presences, Presence, required, addition, optional_by, default_by, Sought, one_tag, sought_by, sought_in}
use Rattle.rasn_types.specs.Readings.{Reading, ReadsContents, definite_form, indefinite_form, ReadsMany, ReadsFrom, ReadsOptional, IsNoDefault, ReadsPart, ReadsInOrder, AllMissing, presences_in, HasRequired, ReadsSeq, ReadsChoice, ByPart, AllOf, ReadsSortedSet}
use Rattle.rasn_types.specs.Grammar.{Reads, parts_of, ReadsList, ReadsSetOf, ReadsOpenChoice}
use Rattle.rasn_schema.specs.declared.types.«Type».{«Type»}
use Rattle.rasn_schema.specs.declared.types.«Type».TheVariants.{Leaf, Enumerated, Any, Tagged, Choice, Sequence, Set, SequenceOf, SetOf, Unknown}
use Rattle.rasn_schema.specs.declared.types.Component.{Component}
use Rattle.rasn_schema.specs.declared.types.Alternative.{Alternative}
use Rattle.rasn_schema.specs.Shapes.{found_by, type_by, alternatives_by, is_open, ends_open, choice_among, is_unknown, ends_unknown, known_parts, components_by, key_of, presence_by, shape_of_type}
use Rattle.rasn_schema.specs.Schemas.{IsSchema}
use Rattle.rasn_schema.specs.Depth.{AreDeep, AreReadAlike}
use Rattle.rasn_schema.proofs.Presences.{missing_by, no_default_by, required_by}
use Rattle.rasn_schema.proofs.TypeShapes.{own_is}
use Rattle.rasn_schema.proofs.OpenEnds.{among, among_open, among_named, key_as, count_is, before_is, open_alike}
use Rattle.rasn_schema.proofs.Lists.{but_last}
use Rattle.rasn_schema.proofs.UnknownEnds.{unknown_alike, known_of, known_is}
use Rattle.rasn_schema.proofs.Schemas.{AreBefore, IsBehindOwn, firsts_before, all_before, settled, schema_readable}

-- Each reading by the one is a reading by the other.
abbrev IsIn : {X : Type 0} → Reading X → Reading X → Type 0
IsIn {X} reads wide = (input : List ℕ) (x : X) (rest : List ℕ) → reads input x rest → wide input x rest

-- ---- what is read one level further in

inside_in : {X : Type 0} (inner wide : Bool → Reading X) → ((c : Bool) → IsIn (inner c) (wide c)) → (rule : Codec) (tag : Tag) (bit : Bool)
    → IsIn (ReadsContents rule tag bit inner) (ReadsContents rule tag bit wide)
inside_in inner wide into rule tag bit input x rest (definite_form c f r) = definite_form c f (into false c x [] r)
inside_in inner wide into rule tag bit input x rest (indefinite_form b f r) = indefinite_form b f (into true b x (0 ∷ 0 ∷ rest) r)

many_in : (reads wide : Reading Tree) → IsIn reads wide → (closing : Bool) (input : List ℕ) (ts : List Tree) (rest : List ℕ) → ReadsMany reads closing input ts rest → ReadsMany wide closing input ts rest
many_in reads wide into closing input [] rest h = h
many_in reads wide into closing input (x ∷ xs) rest (p, m, q, r) = (p, m, into input x m q, many_in reads wide into closing m xs rest r)

from_in : (reads wide : Reading Tree) → IsIn reads wide → (input : List ℕ) (ts : List Tree) (rest : List ℕ) (bs : List (List ℕ)) → ReadsFrom reads input ts rest bs → ReadsFrom wide input ts rest bs
from_in reads wide into input [] rest bs h = h
from_in reads wide into input (x ∷ xs) rest bs (b, more, m, p, q, r, s) = (b, more, m, p, q, into input x m r, from_in reads wide into m xs rest more s)

list_in : (reads wide : Reading Tree) → IsIn reads wide → (size : _) (closing : Bool) → IsIn (ReadsList size reads closing) (ReadsList size wide closing)
list_in reads wide into size closing input t rest (ts, e, a, r) = (ts, e, a, many_in reads wide into closing input ts rest r)

set_of_in : (reads wide : Reading Tree) → IsIn reads wide → (rule : Codec) (size : _) (closing : Bool) → IsIn (ReadsSetOf rule size reads closing) (ReadsSetOf rule size wide closing)
set_of_in reads wide into rule size closing input t rest (ts, e, a, r, o) =
    (ts, e, a, many_in reads wide into closing input ts rest r, (λ s. let (bs, f, g) = o s in (bs, from_in reads wide into input ts rest bs f, g)))

perhaps_in : (tags : Sought) (without : Tree) (reads wide : Reading Tree) → IsIn reads wide → (rule : Codec) (closing : Bool)
    → IsIn (ReadsOptional (form rule) tags without reads closing) (ReadsOptional (form rule) tags without wide closing)
perhaps_in tags without reads wide into rule closing input t rest (inl h) = inl h
perhaps_in tags without reads wide into rule closing input t rest (inr (p, r)) = inr (p, into input t rest r)

part_in : (p : Presence) (tags : Sought) (reads wide : Reading Tree) → IsIn reads wide → (rule : Codec) (closing : Bool) → IsIn (ReadsPart rule p tags reads closing) (ReadsPart rule p tags wide closing)
part_in required tags reads wide into rule closing = into
part_in addition tags reads wide into rule closing = into
part_in (optional_by key) tags reads wide into rule closing = perhaps_in tags _ reads wide into rule closing
part_in (default_by key d) tags reads wide into rule closing = perhaps_in tags d _ _ (λ input t rest (r, s). (into input t rest r, s)) rule closing

-- ---- what a component is recognized by

-- The shapes begin with the same tags.
record Begins (s u : Shape) : Type 0 where
  owns : own s ≡ own u
  firsts : (n : Tag) → IsFirst s n → IsFirst u n
  back : (n : Tag) → IsFirst u n → IsFirst s n

perhaps_moved : (key : Key) (s u : Shape) → Begins s u → (without : Tree) (reads : Reading Tree) (rule : Codec) (closing : Bool)
    → IsIn (ReadsOptional (form rule) (sought_by key s) without reads closing) (ReadsOptional (form rule) (sought_by key u) without reads closing)
perhaps_moved own_tag s u b without reads rule closing input t rest h = subst (λ o. ReadsOptional (form rule) (one_tag o) without reads closing input t rest) b.owns h
perhaps_moved first_tags s u b without reads rule closing input t rest (inl (inl e, h, k)) = inl (inl e, h, k)
perhaps_moved first_tags s u b without reads rule closing input t rest (inl (inr (n, next, other), h, k)) = inl (inr (n, next, λ f. other (b.back n f)), h, k)
perhaps_moved first_tags s u b without reads rule closing input t rest (inr ((more, n, next, first), h)) = inr ((more, n, next, b.firsts n first), h)

part_moved : (p : Presence) (s u : Shape) → Begins s u → (reads : Reading Tree) (rule : Codec) (closing : Bool)
    → IsIn (ReadsPart rule p (sought_in p s) reads closing) (ReadsPart rule p (sought_in p u) reads closing)
part_moved required s u b reads rule closing input t rest h = h
part_moved addition s u b reads rule closing input t rest h = h
part_moved (optional_by key) s u b reads rule closing input t rest h = perhaps_moved key s u b absent reads rule closing input t rest h
part_moved (default_by key d) s u b reads rule closing input t rest h =
    perhaps_moved key s u b d (λ i x r. reads i x r × (IsStrict rule → IsNoDefault (default_by key d) x)) rule closing input t rest h

-- ---- components and alternatives, whose types f and g give

-- The types named here are read by g as by f.
record Follows (f g : ℕ → Shape) (rule : Codec) (depth : ℕ) (k : ℕ) : Type 0 where
  keys : key_of (f k) ≡ key_of (g k)
  opens : is_open (f k) ≡ is_open (g k)
  unknowns : is_unknown (f k) ≡ is_unknown (g k)
  begins : Begins (f k) (g k)
  reads : (closing : Bool) → IsIn (Reads rule (f k) depth closing) (Reads rule (g k) depth closing)

module _ (f g : ℕ → Shape) (rule : Codec) (depth : ℕ) (closing : Bool) where
  by_part : (ps : List Component) (n : ℕ) (readings ts : List Tree) → ByPart n (presences (components_by f ps)) readings ts → ByPart n (presences (components_by g ps)) readings ts
  by_part [] n readings ts b = b
  by_part (p ∷ ps) n readings ts (t, us, e, inl o, b) = (t, us, e, inl o, by_part ps (suc n) readings us b)
  by_part (p ∷ ps) n readings ts (t, us, e, inr (o, m), b) =
      (t, us, e, inr (o, missing_by (key_of (f p.type_id.0)) (key_of (g p.type_id.0)) p.presence t m), by_part ps (suc n) readings us b)

  all_missing : (ps : List Component) (ts : List Tree) → AllMissing (presences_in (parts_of rule (components_by f ps) depth closing)) ts → AllMissing (presences_in (parts_of rule (components_by g ps) depth closing)) ts
  unfolding parts_of
  all_missing [] ts h = h
  all_missing (p ∷ ps) ts (t, us, e, m, h) = (t, us, e, missing_by (key_of (f p.type_id.0)) (key_of (g p.type_id.0)) p.presence t m, all_missing ps us h)

  has_required : (ps : List Component) → HasRequired (parts_of rule (components_by f ps) depth closing) → HasRequired (parts_of rule (components_by g ps) depth closing)
  unfolding parts_of
  has_required [] h = h
  has_required (p ∷ ps) (inl h) = inl (required_by (key_of (f p.type_id.0)) (key_of (g p.type_id.0)) p.presence h)
  has_required (p ∷ ps) (inr h) = inr (has_required ps h)

module _ (f g : ℕ → Shape) (rule : Codec) (depth : ℕ) (closing : Bool) (h : (k : ℕ) → Follows f g rule depth k) where
  in_order_in : (ps : List Component) (input : List ℕ) (ts : List Tree) (rest : List ℕ)
      → ReadsInOrder rule (parts_of rule (components_by f ps) depth closing) closing input ts rest → ReadsInOrder rule (parts_of rule (components_by g ps) depth closing) closing input ts rest
  unfolding parts_of
  in_order_in [] input ts rest r = r
  in_order_in (p ∷ ps) input ts rest (t, us, m, e, r, s) =
      let k = p.type_id.0 in
      let q = presence_by (key_of (f k)) p.presence in
      let read = part_in q (sought_in q (f k)) (Reads rule (f k) depth closing) (Reads rule (g k) depth closing) ((h k).reads closing) rule closing input t m r in
      let moved = part_moved q (f k) (g k) (h k).begins (Reads rule (g k) depth closing) rule closing input t m read in (
        t,
        us,
        m,
        e,
        subst (λ key. ReadsPart rule (presence_by key p.presence) (sought_in (presence_by key p.presence) (g k)) (Reads rule (g k) depth closing) closing input t m) (h k).keys moved,
        in_order_in ps m us rest s,
      )

  sequence_in : (ps : List Component) → IsIn (ReadsSeq rule (parts_of rule (components_by f ps) depth closing) closing) (ReadsSeq rule (parts_of rule (components_by g ps) depth closing) closing)
  sequence_in ps input t rest (ts, e, inl ((n, c, i), m, r)) = (ts, e, inl (((λ q. n (has_required g f rule depth closing ps q)), c, i), all_missing f g rule depth closing ps ts m, r))
  sequence_in ps input t rest (ts, e, inr (n, r)) = (ts, e, inr ((λ (q, c, i). n ((λ s. q (has_required f g rule depth closing ps s)), c, i)), in_order_in ps input ts rest r))

  component_in : (ps : List Component) (n : ℕ) → IsIn (ReadsChoice rule n (parts_of rule (components_by f ps) depth closing)) (ReadsChoice rule n (parts_of rule (components_by g ps) depth closing))
  unfolding parts_of
  component_in [] n input t rest r = r
  component_in (p ∷ ps) n input t rest (inl (u, e, next, a, b, r, s)) =
      let k = p.type_id.0 in
      inl (u, e, next, a, (h k).begins.firsts next b, (h k).reads closing input u rest r, λ z. no_default_by (key_of (f k)) (key_of (g k)) p.presence u (s z))
  component_in (p ∷ ps) n input t rest (inr r) = inr (component_in ps (suc n) input t rest r)

  -- ---- a SET, whose last component may be unknown values

  firsts_back : (ps : List Component) (n : Tag) → IsFirstOf (components_by g ps) n → IsFirstOf (components_by f ps) n
  firsts_back [] n a = a
  firsts_back (p ∷ ps) n (inl a) = inl ((h p.type_id.0).begins.back n a)
  firsts_back (p ∷ ps) n (inr a) = inr (firsts_back ps n a)

  count_alike : (ps : List Component) → count (components_by f ps) ≡ count (components_by g ps)
  count_alike [] = refl
  count_alike (p ∷ ps) = ap suc (count_alike ps)

  unknown_end : (ps : List Component) → ends_unknown (components_by f ps) ≡ ends_unknown (components_by g ps)
  unknown_end [] = refl
  unknown_end (p ∷ []) = (h p.type_id.0).unknowns
  unknown_end (p ∷ (q ∷ ps)) = unknown_end (q ∷ ps)

  -- one component, known or unknown, and the contents
  abbrev OneOf : Parts → Reading Tree
  OneOf ps = ReadsOpenChoice rule (IsFirstOf ps) (count ps) (ReadsChoice rule 0 (parts_of rule ps depth closing))

  abbrev SetContents : Bool → Parts → Reading Tree
  SetContents extensible ps = ReadsSortedSet rule extensible (presences ps) (count ps) (OneOf ps) closing

  one_in : (ps : List Component) → IsIn (OneOf (components_by f ps)) (OneOf (components_by g ps))
  one_in ps input t rest (inl r) = inl (component_in ps 0 input t rest r)
  one_in ps input t rest (inr (u, e, next, n, other, r)) = inr (u, e ∙ ap (λ m. chosen m u) (count_alike ps), next, n, (λ q. other (firsts_back ps next q)), r)

  known_in : (extensible : Bool) (ps : List Component) → IsIn (SetContents extensible (components_by f ps)) (SetContents extensible (components_by g ps))
  known_in extensible ps input t rest (readings, ts, us, e, m, b, a, o) = (
    readings,
    ts,
    us,
    e,
    many_in _ _ (one_in ps) closing input readings rest m,
    by_part f g rule depth closing ps 0 readings ts b,
    subst (λ k. AllOf k readings us) (count_alike ps) a,
    (λ s. let (bs, p, q) = o s in (bs, from_in _ _ (one_in ps) input readings rest bs p, q)),
  )

  set_in : (ps : List Component) → IsIn (SetContents (ends_unknown (components_by f ps)) (known_parts (components_by f ps))) (SetContents (ends_unknown (components_by g ps)) (known_parts (components_by g ps)))
  set_in ps input t rest r =
      let b = ends_unknown (components_by f ps) in
      let named = subst (λ qs. SetContents b qs input t rest) (known_is f ps b refl) r in
      let moved = subst (λ x. SetContents x (components_by g (known_of b ps)) input t rest) (unknown_end ps) (known_in b (known_of b ps) input t rest named) in
      subst (λ qs. SetContents (ends_unknown (components_by g ps)) qs input t rest) (sym (known_is g ps b (sym (unknown_end ps)))) moved

lower_but_last : (id : ℕ) (ks : List Alternative) → AreBefore id ks → AreBefore id (but_last ks)
lower_but_last id [] b = b
lower_but_last id (a ∷ []) b = b.1
lower_but_last id (a ∷ (c ∷ ks)) b = (b.0, lower_but_last id (c ∷ ks) b.1)

module _ (f g : ℕ → Shape) (rule : Codec) (depth : ℕ) (closing : Bool) (id : ℕ) (h : (k : ℕ) → k < id → Follows f g rule depth k) where
  alternative_in : (ks : List Alternative) → AreBefore id ks → (n : ℕ) → IsIn (ReadsChoice rule n (parts_of rule (alternatives_by f ks) depth closing)) (ReadsChoice rule n (parts_of rule (alternatives_by g ks) depth closing))
  unfolding parts_of
  alternative_in [] b n input t rest r = r
  alternative_in (a ∷ ks) b n input t rest (inl (u, e, next, p, q, r, s)) =
      let w = h a.type_id.0 b.0 in
      inl (u, e, next, p, w.begins.firsts next q, w.reads closing input u rest r, s)
  alternative_in (a ∷ ks) b n input t rest (inr r) = inr (alternative_in ks b.1 (suc n) input t rest r)

  ends_same : (ks : List Alternative) → AreBefore id ks → ends_open (alternatives_by f ks) ≡ ends_open (alternatives_by g ks)
  ends_same [] b = refl
  ends_same (a ∷ []) b = (h a.type_id.0 b.0).opens
  ends_same (a ∷ (c ∷ ks)) b = ends_same (c ∷ ks) b.1

  -- with one unknown alternative
  open_in : (ks : List Alternative) → AreBefore id ks → IsIn (Reads rule (open_choice (alternatives_by f ks)) depth closing) (Reads rule (open_choice (alternatives_by g ks)) depth closing)
  unfolding Reads
  open_in ks b input t rest (inl r) = inl (alternative_in ks b 0 input t rest r)
  open_in ks b input t rest (inr (u, e, next, n, other, r)) =
      inr (u, e ∙ ap (λ m. chosen m u) (count_is f ks ∙ sym (count_is g ks)), next, n, (λ q. other (firsts_before g f next id (λ k l. (h k l).begins.back next) ks b q)), r)

  choice_in : (ks : List Alternative) → AreBefore id ks → IsIn (Reads rule (choice_among (alternatives_by f ks)) depth closing) (Reads rule (choice_among (alternatives_by g ks)) depth closing)
  unfolding Reads
  choice_in ks b input t rest r = among (λ s. Reads rule s depth closing input t rest) (alternatives_by g ks)
      (λ e.
      let o = among_open (λ s. Reads rule s depth closing input t rest) (alternatives_by f ks) (ends_same ks b ∙ e) r in
      let p = subst (λ ps. Reads rule (open_choice ps) depth closing input t rest) (before_is f ks) o in
      subst (λ ps. Reads rule (open_choice ps) depth closing input t rest) (sym (before_is g ks)) (open_in (but_last ks) (lower_but_last id ks b) input t rest p))
      (λ e. alternative_in ks b 0 input t rest (among_named (λ s. Reads rule s depth closing input t rest) (alternatives_by f ks) (ends_same ks b ∙ e) r))

  found_key : (o : Option «Type») → IsBehindOwn id o → key_of (found_by f o) ≡ key_of (found_by g o)
  found_key None b = refl
  found_key (Some (Leaf kind tag c names)) b = refl
  found_key (Some (Enumerated tag ns)) b = refl
  found_key (Some (Any tag)) b = refl
  found_key (Some (Tagged tag k)) b = refl
  found_key (Some (Choice name ks)) b = key_as (alternatives_by f ks.items) (alternatives_by g ks.items) (ends_same ks.items b)
  found_key (Some (Sequence tag ps)) b = refl
  found_key (Some (Set name tag ps)) b = refl
  found_key (Some (SequenceOf tag k c)) b = refl
  found_key (Some (SetOf tag k c)) b = refl
  found_key (Some Unknown) b = refl

-- ---- types

module _ (f g : ℕ → Shape) (rule : Codec) (depth id : ℕ) (low : (k : ℕ) → k < id → Follows f g rule depth k) (one : 0 < depth → (k : ℕ) → Follows f g rule (depth - 1) k)
    (two : 0 < depth → (k : ℕ) → Follows f g rule (depth - 2) k) (closing : Bool) where
  type_in : (ty : «Type») → IsBehindOwn id (Some ty) → IsIn (Reads rule (type_by f ty) depth closing) (Reads rule (type_by g ty) depth closing)
  unfolding Reads
  type_in (Leaf kind tag c names) b input t rest r = r
  type_in (Enumerated tag ns) b input t rest r = r
  type_in (Any tag) b input t rest r = r
  type_in (Tagged tag k) b input t rest (p, bit, s, r) = (p, bit, s, inside_in _ _ (λ c. (one p k.0).reads c) rule tag bit input t rest r)
  type_in (Choice name ks) b input t rest r = choice_in f g rule depth closing id low ks.items b input t rest r
  type_in (Sequence tag ps) b input t rest (p, r) = (p, inside_in _ _ (λ c. sequence_in f g rule (depth - 1) c (one p) ps.items) rule tag true input t rest r)
  type_in (Set name tag ps) b input t rest (p, r) = (p, inside_in _ _ (λ c. set_in f g rule (depth - 1) c (one p) ps.items) rule tag true input t rest r)
  type_in (SequenceOf tag k c) b input t rest (p, r) = (p, inside_in _ _ (λ e. list_in _ _ ((two p k.0).reads e) c.size e) rule tag true input t rest r)
  type_in (SetOf tag k c) b input t rest (p, r) = (p, inside_in _ _ (λ e. set_of_in _ _ ((two p k.0).reads e) rule c.size e) rule tag true input t rest r)
  type_in Unknown b input t rest r = r

  found_in : (o : Option «Type») → IsBehindOwn id o → IsIn (Reads rule (found_by f o) depth closing) (Reads rule (found_by g o) depth closing)
  unfolding Reads
  found_in None b input t rest r = absurd r
  found_in (Some ty) b input t rest r = type_in ty b input t rest r

-- ---- levels

-- The type with a number is followed deep enough for so many values in one another.
abbrev IsDeep : List «Type» → ℕ → ℕ → ℕ → Type 0
IsDeep types depth k levels = depth * suc (length types) + k < levels

abbrev IsDeepIfAny : List «Type» → ℕ → ℕ → ℕ → Type 0
IsDeepIfAny types depth k levels = (ty : «Type») → Some ty ≡ slice_get types k → IsDeep types depth k levels

further : (n depth x m k i : ℕ) → depth * suc n + k < suc i → x < depth → m < n → x * suc n + m < i
further n depth x m k i h l e =
    let q : suc x * suc n ≤ depth * suc n = mul-le-mul_right (suc n) l in
    let r : x * suc n + suc n ≤ depth * suc n = subst (λ y. y ≤ depth * suc n) (suc-mul x (suc n)) q in
    omega (arith, h, r, e)

module _ (types : List «Type») (w : IsSchema types) (rule : Codec) where
  at : ℕ → ℕ → Shape
  at i k = shape_of_type types i k

  absent_at : (i k : ℕ) → None ≡ slice_get types k → choice none ≡ shape_of_type types i k
  unfolding shape_of_type
  absent_at zero k e = rw (← e) refl
  absent_at (suc i) k e = ap (found_by (shape_of_type types i)) e

  none_follows : (i j depth k : ℕ) → None ≡ slice_get types k → Follows (shape_of_type types i) (shape_of_type types j) rule depth k
  none_follows i j depth k e = record {
    keys = sym (ap key_of (absent_at i k e)) ∙ ap key_of (absent_at j k e);
    opens = sym (ap is_open (absent_at i k e)) ∙ ap is_open (absent_at j k e);
    unknowns = sym (ap is_unknown (absent_at i k e)) ∙ ap is_unknown (absent_at j k e);
    begins = record {
      owns = sym (ap own (absent_at i k e)) ∙ ap own (absent_at j k e);
      firsts = λ n a. subst (λ s. IsFirst s n) (sym (absent_at i k e) ∙ absent_at j k e) a;
      back = λ n a. subst (λ s. IsFirst s n) (sym (absent_at j k e) ∙ absent_at i k e) a;
    };
    reads = λ c input t rest r. subst (λ s. Reads rule s depth c input t rest) (sym (absent_at i k e) ∙ absent_at j k e) r;
  }

  own_alike : (i j k : ℕ) → own (shape_of_type types i k) ≡ own (shape_of_type types j k)
  own_alike i j k = own_is types i k (schema_readable types w i k) ∙ sym (own_is types j k (schema_readable types w j k))

  firsts_alike : (i b k : ℕ) → k ≤ b → (n : Tag) → IsFirst (shape_of_type types i k) n → IsFirst (shape_of_type types (suc b) k) n
  firsts_alike i b k l n a = settled types (all_before types w) n b k i l a

  -- what holds if there is no such type, and if there is one
  by_type : (i j depth k : ℕ) → ((ty : «Type») → Some ty ≡ slice_get types k → Follows (shape_of_type types i) (shape_of_type types j) rule depth k) → Follows (shape_of_type types i) (shape_of_type types j) rule depth k
  by_type i j depth k some = go (slice_get types k) refl
    where
      go : (o : Option «Type») → slice_get types k ≡ o → Follows (shape_of_type types i) (shape_of_type types j) rule depth k
      go None e = none_follows i j depth k (sym e)
      go (Some ty) e = some ty (sym e)

  -- one level further, if all types follow one another as deep as they are read within
  module _ (i j : ℕ) (ih : (depth k : ℕ) → IsDeepIfAny types depth k i → IsDeepIfAny types depth k j → Follows (shape_of_type types i) (shape_of_type types j) rule depth k)
      (depth k : ℕ) (a : IsDeep types depth k (suc i)) (b : IsDeep types depth k (suc j)) where
    inner_in : (inner : ℕ) → inner < depth → (m : ℕ) → Follows (shape_of_type types i) (shape_of_type types j) rule inner m
    inner_in inner p m =
        ih inner m (λ ty q. further (length types) depth inner m k i a p (slice_get_within types m ty (sym q))) (λ ty q. further (length types) depth inner m k j b p (slice_get_within types m ty (sym q)))

    lower_in : (m : ℕ) → m < k → Follows (shape_of_type types i) (shape_of_type types j) rule depth m
    lower_in m l = ih depth m (λ ty e. omega (arith, a, l)) (λ ty e. omega (arith, b, l))

    keys_alike : key_of (shape_of_type types (suc i) k) ≡ key_of (shape_of_type types (suc j) k)
    unfolding shape_of_type
    keys_alike = found_key (shape_of_type types i) (shape_of_type types j) rule depth false k lower_in (slice_get types k) (all_before types w k)

    reads_alike : (closing : Bool) → IsIn (Reads rule (shape_of_type types (suc i) k) depth closing) (Reads rule (shape_of_type types (suc j) k) depth closing)
    unfolding shape_of_type
    reads_alike closing =
        found_in (shape_of_type types i) (shape_of_type types j) rule depth k lower_in
        (λ p m. inner_in (depth - 1) (omega (arith, p)) m) (λ p m. inner_in (depth - 2) (omega (arith, p)) m) closing (slice_get types k) (all_before types w k)

    one_further : Follows (shape_of_type types (suc i)) (shape_of_type types (suc j)) rule depth k
    one_further = record {
      keys = keys_alike;
      opens = open_alike types i j k;
      unknowns = unknown_alike types i j k;
      begins = record {
        owns = own_alike (suc i) (suc j) k;
        firsts = firsts_alike (suc i) j k (omega (arith, b));
        back = firsts_alike (suc j) i k (omega (arith, a));
      };
      reads = reads_alike;
    }

  follows : (i j depth k : ℕ) → IsDeepIfAny types depth k i → IsDeepIfAny types depth k j → Follows (shape_of_type types i) (shape_of_type types j) rule depth k
  follows zero j depth k a b = by_type zero j depth k (λ ty e. let h = a ty e in absurd (omega (arith, h)))
  follows (suc i) zero depth k a b = by_type (suc i) zero depth k (λ ty e. let h = b ty e in absurd (omega (arith, h)))
  follows (suc i) (suc j) depth k a b = by_type (suc i) (suc j) depth k (λ ty e. one_further i j (λ d m c f. follows i j d m c f) depth k (a ty e) (b ty e))

  -- Values of a type are read alike, however deep types are followed, if that is deep enough.
  pub read_alike : (i j depth k : ℕ) → AreDeep types depth i → AreDeep types depth j → AreReadAlike rule depth (shape_of_type types i k) (shape_of_type types j k)
  read_alike i j depth k a b = (follows i j depth k (λ ty e. deep i a ty e) (λ ty e. deep j b ty e)).reads
    where
      deep : (levels : ℕ) → AreDeep types depth levels → (ty : «Type») → Some ty ≡ slice_get types k → IsDeep types depth k levels
      deep levels h ty e =
          let l : k < length types = slice_get_within types k ty (sym e) in
          let q : depth * suc (length types) + suc (length types) ≤ levels = subst (λ x. x ≤ levels) (suc-mul depth (suc (length types))) h in
          omega (arith, l, q)

-- A schema's types are lawful, or unknown values, as deep as they are read.
use Rattle.std.proofs.Common.{◌≡◌, ◌≢◌, ◌∙◌, ℕ, zero, suc, ◌<◌, ◌≤◌, inl, inr, Bool, true, false, List, [], ◌∷◌, length, Option, Some, None, refl, sym, subst, ◌⊎◌, true≢false, arith}
use Rattle.std.specs.Prelude.{slice_get}
use Rattle.std.proofs.lemmas.Option.{slice_get_within}
use Rattle.rasn_types.specs.declared.types.tag.Tag.{Tag}
use Rattle.rasn_types.specs.Tags.{eoc, is_eoc}
use Rattle.rasn_types.specs.Shapes.Parts.{none}
use Rattle.rasn_types.specs.Shapes.{Shape, leaf, any, prefix, choice, open_choice, option, seq, set, sorted_set, list, set_of, unknown, part, own, looked_for, IsTagOf, IsFirst, IsFirstOf, IsAlwaysPresent, AreAlwaysPresent, Key, own_tag, first_tags, Presence, required, addition, optional_by, default_by}
use Rattle.rasn_types.specs.Lawful.{IsLawful, HasTag, AreDistinguished, IsFirstBehind, MayBeLeftOut, IsDistinguished, IsRecognized, AreLawfulInOrder, AreComponents}
use Rattle.rasn_schema.specs.declared.types.«Type».{«Type»}
use Rattle.rasn_schema.specs.declared.types.«Type».TheVariants.{Leaf, Enumerated, Any, Tagged, Choice, Sequence, Set, SequenceOf, SetOf, Unknown}
use Rattle.rasn_schema.specs.declared.types.Component.{Component}
use Rattle.rasn_schema.specs.declared.types.Presence.{Presence as ComponentPresence}
use Rattle.rasn_schema.specs.declared.types.Presence.TheVariants.{Required, Optional, Addition, Default}
use Rattle.rasn_schema.specs.declared.types.Alternative.{Alternative}
use Rattle.rasn_schema.specs.Shapes.{nothing, found_by, type_by, alternatives_by, is_open, ends_open, before_last, choice_among, is_unknown, ends_unknown, known_parts, components_by, key_of, presence_by, presence_of, tag_at, tag_found, shape_of_type, IsReadable}
use Rattle.rasn_schema.specs.FirstTags.{EachFirst, EachFirstOf, IsAlwaysThere}
use Rattle.rasn_schema.specs.Schemas.{IsUnknown, EndsUnknown, AreDistinct, AreLowerAndTagged, AreDistinctAlternatives, MayFollow, IsToldFrom, AreToldInOrder, AreTagged, AreDistinctComponents, IsWellFormed, IsSchema, own_at, begin_at}
use Rattle.rasn_schema.proofs.Presences.{always_by, no_addition_by}
use Rattle.rasn_schema.proofs.TypeShapes.{looked, own_is}
use Rattle.rasn_schema.proofs.OpenEnds.{among, among_open, first_of_among, first_among, end_at, before_is, ends_alike, open_alike, open_settled}
use Rattle.rasn_schema.proofs.Lists.{but_last, in_but_last}
use Rattle.rasn_schema.proofs.UnknownEnds.{unknown_alike, known_of, known_is, in_known}
use Rattle.rasn_schema.proofs.LawfulTypes.{nothing_present, known, unknown_at, put_unknown, cut_lawful, none_lawful, open_lawful, put_alternative, put_in_order, put_component, none_in_order, no_components}

-- ---- how a type begins at one depth, and at another

-- An alternative has a lower number than its CHOICE.
abbrev pub AreBefore : ℕ → List Alternative → Type 0
AreBefore id [] = Unit {0}
AreBefore id (a ∷ ks) = (a.type_id.0 < id) × AreBefore id ks

abbrev pub IsBehindOwn : ℕ → Option «Type» → Type 0
IsBehindOwn id (Some (Choice name ks)) = AreBefore id ks.items
IsBehindOwn id _ = Unit {0}

module _ (f g : ℕ → Shape) (n : Tag) (id : ℕ) (h : (k : ℕ) → k < id → IsFirst (f k) n → IsFirst (g k) n) where
  pub firsts_before : (ks : List Alternative) → AreBefore id ks → IsFirstOf (alternatives_by f ks) n → IsFirstOf (alternatives_by g ks) n
  firsts_before [] b a = absurd a
  firsts_before (k ∷ ks) b (inl a) = inl (h k.type_id.0 b.0 a)
  firsts_before (k ∷ ks) b (inr a) = inr (firsts_before ks b.1 a)

  found_firsts : (o : Option «Type») → IsBehindOwn id o → IsFirst (found_by f o) n → IsFirst (found_by g o) n
  found_firsts None b a = absurd a
  found_firsts (Some (Leaf kind tag c names)) b a = a
  found_firsts (Some (Enumerated tag ns)) b a = a
  found_firsts (Some (Any tag)) b a = a
  found_firsts (Some (Tagged tag k)) b a = a
  found_firsts (Some (Choice name ks)) b a = first_among (alternatives_by g ks.items) n (firsts_before ks.items b (first_of_among (alternatives_by f ks.items) n a))
  found_firsts (Some (Sequence tag ps)) b a = a
  found_firsts (Some (Set name tag ps)) b a = a
  found_firsts (Some (SequenceOf tag k c)) b a = a
  found_firsts (Some (SetOf tag k c)) b a = a
  found_firsts (Some Unknown) b a = a

-- A type that is too deep begins as it does elsewhere.
module _ (n : Tag) where
  nothing_first : (o : Option Tag) → IsFirst (nothing o) n → IsTagOf o n
  nothing_first None a = absurd a
  nothing_first (Some tag) a = a

  cut_first : (tag : Tag) (b : Bool) → is_eoc tag ≡ b → IsFirst (nothing (looked_for tag)) n → n ≡ tag
  cut_first tag true e a = absurd (rw e at a)
  cut_first tag false e a = rw e at a

  open_first : (o : Option Tag) → IsFirst (nothing o) n → IsFirst (any o) n
  open_first None a = absurd a
  open_first (Some tag) a = a

  cut_firsts : (g : ℕ → Shape) (o : Option «Type») → IsFirst (nothing (looked_for (tag_found o))) n → IsFirst (found_by g o) n
  cut_firsts g None a = absurd a
  cut_firsts g (Some (Leaf kind tag c names)) a = cut_first tag (is_eoc tag) refl a
  cut_firsts g (Some (Enumerated tag ns)) a = cut_first tag (is_eoc tag) refl a
  cut_firsts g (Some (Any tag)) a = open_first (looked_for tag) a
  cut_firsts g (Some (Tagged tag k)) a = cut_first tag (is_eoc tag) refl a
  cut_firsts g (Some (Choice name ks)) a = absurd a
  cut_firsts g (Some (Sequence tag ps)) a = cut_first tag (is_eoc tag) refl a
  cut_firsts g (Some (Set name tag ps)) a = cut_first tag (is_eoc tag) refl a
  cut_firsts g (Some (SequenceOf tag k c)) a = cut_first tag (is_eoc tag) refl a
  cut_firsts g (Some (SetOf tag k c)) a = cut_first tag (is_eoc tag) refl a
  cut_firsts g (Some Unknown) a = absurd a

-- At any depth a type begins only with tags with which it begins at the depth of its number.
pub settled : (types : List «Type») → ((k : ℕ) → IsBehindOwn k (slice_get types k)) → (n : Tag) (b k i : ℕ) → k ≤ b → IsFirst (shape_of_type types i k) n → IsFirst (shape_of_type types (suc b) k) n
unfolding shape_of_type
settled types s n zero k zero l a = cut_firsts n (shape_of_type types zero) (slice_get types k) a
settled types s n zero k (suc i) l a = found_firsts (shape_of_type types i) (shape_of_type types zero) n k (λ j m. absurd (omega (arith, l, m))) (slice_get types k) (s k) a
settled types s n (suc b) k zero l a = cut_firsts n (shape_of_type types (suc b)) (slice_get types k) a
settled types s n (suc b) k (suc i) l a = found_firsts (shape_of_type types i) (shape_of_type types (suc b)) n k (λ j m. settled types s n b j i (omega (arith, l, m))) (slice_get types k) (s k) a

pub none_first : (types : List «Type») (n : Tag) (k i : ℕ) → slice_get types k ≡ None → IsFirst (shape_of_type types i k) n → ⊥
unfolding shape_of_type
none_first types n k zero e a = rw e at a
none_first types n k (suc i) e a = rw e at a

lower_before : (id : ℕ) (ks : List Alternative) → ((i : ℕ) (a : Alternative) → Some a ≡ slice_get ks i → a.type_id.0 < id) → AreBefore id ks
lower_before id [] w = tt
lower_before id (k ∷ ks) w = (w 0 k refl, lower_before id ks (λ i a e. w (suc i) a e))

node_before : (types : List «Type») (k : ℕ) (ty : «Type») → IsWellFormed (own_at types) (begin_at types) k ty → IsBehindOwn k (Some ty)
node_before types k (Leaf kind tag c names) w = tt
node_before types k (Enumerated tag ns) w = tt
node_before types k (Any tag) w = tt
node_before types k (Tagged tag j) w = tt
node_before types k (Choice name ks) w = lower_before k ks.items (λ i a e. (w.1 i a e).0)
node_before types k (Sequence tag ps) w = tt
node_before types k (Set name tag ps) w = tt
node_before types k (SequenceOf tag j c) w = tt
node_before types k (SetOf tag j c) w = tt
node_before types k Unknown w = tt

pub all_before : (types : List «Type») → IsSchema types → (k : ℕ) → IsBehindOwn k (slice_get types k)
all_before types w k = go (slice_get types k) refl
  where
    go : (o : Option «Type») → slice_get types k ≡ o → IsBehindOwn k o
    go None e = tt
    go (Some ty) e = node_before types k ty (w.0 k ty (sym e))

-- At any depth a type begins only with tags that the check sees.
begins_as_told : (types : List «Type») → IsSchema types → (i k : ℕ) (n : Tag) → IsFirst (shape_of_type types i k) n → IsFirst (begin_at types k) n
begins_as_told types w i k n a = go (slice_get types k) refl
  where
    go : (o : Option «Type») → slice_get types k ≡ o → IsFirst (begin_at types k) n
    go None e = absurd (none_first types n k i e a)
    go (Some ty) e = settled types (all_before types w) n (length types) k i (let l : k < length types = slice_get_within types k ty e in omega arith) a

-- ---- lawful types

tag_or_none : (s : Shape) → HasTag s ⊎ (HasTag s → ⊥)
tag_or_none (leaf kind tag c) = inl tt
tag_or_none (any None) = inr (λ h. h)
tag_or_none (any (Some tag)) = inl tt
tag_or_none (prefix tag s) = inl tt
tag_or_none (choice ps) = inl tt
tag_or_none (open_choice ps) = inr (λ h. h)
tag_or_none (option tag s) = inl tt
tag_or_none (seq tag ps) = inl tt
tag_or_none (set tag ps) = inl tt
tag_or_none (sorted_set extensible tag ps) = inl tt
tag_or_none (list tag s c) = inl tt
tag_or_none (set_of tag s c) = inl tt
tag_or_none unknown = inr (λ h. h)

nothing_has_tag : (o : Option Tag) → HasTag (nothing o)
nothing_has_tag None = tt
nothing_has_tag (Some tag) = tt

module _ (f g : ℕ → Shape) (opens : (k : ℕ) → is_open (f k) ≡ true → is_open (g k) ≡ true) where
  among_has_tag : (ks : List Alternative) → HasTag (choice_among (alternatives_by g ks)) → HasTag (choice_among (alternatives_by f ks))
  among_has_tag ks w = among HasTag (alternatives_by f ks) (λ e. absurd (among_open HasTag (alternatives_by g ks) (ends_alike f g opens ks e) w)) (λ e. tt)

  found_has_tag : (o : Option «Type») → HasTag (found_by g o) → HasTag (found_by f o)
  found_has_tag None w = tt
  found_has_tag (Some (Leaf kind tag c names)) w = tt
  found_has_tag (Some (Enumerated tag ns)) w = tt
  found_has_tag (Some (Any tag)) w = w
  found_has_tag (Some (Tagged tag k)) w = tt
  found_has_tag (Some (Choice name ks)) w = among_has_tag ks.items w
  found_has_tag (Some (Sequence tag ps)) w = tt
  found_has_tag (Some (Set name tag ps)) w = tt
  found_has_tag (Some (SequenceOf tag k c)) w = tt
  found_has_tag (Some (SetOf tag k c)) w = tt
  found_has_tag (Some Unknown) w = w

has_tag_at : (types : List «Type») (i k : ℕ) → HasTag (begin_at types k) → HasTag (shape_of_type types i k)
unfolding shape_of_type
has_tag_at types zero k w = nothing_has_tag (looked_for (tag_at types k))
has_tag_at types (suc i) k w = found_has_tag (shape_of_type types i) (shape_of_type types (length types)) (λ j e. open_settled types i j e) (slice_get types k) w

-- An open type of which nothing is read has no first tags.
cut_open : (n : Tag) (g : ℕ → Shape) (o : Option «Type») → is_open (found_by g o) ≡ true → IsFirst (nothing (looked_for (tag_found o))) n → ⊥
cut_open n g None e a = cc
cut_open n g (Some (Leaf kind tag c names)) e a = cc
cut_open n g (Some (Enumerated tag ns)) e a = cc
cut_open n g (Some (Any tag)) e a = go (looked_for tag) e a
  where
    go : (t : Option Tag) → is_open (any t) ≡ true → IsFirst (nothing t) n → ⊥
    go None e a = a
    go (Some t) e a = cc
cut_open n g (Some (Tagged tag k)) e a = cc
cut_open n g (Some (Choice name ks)) e a = a
cut_open n g (Some (Sequence tag ps)) e a = cc
cut_open n g (Some (Set name tag ps)) e a = cc
cut_open n g (Some (SequenceOf tag k c)) e a = cc
cut_open n g (Some (SetOf tag k c)) e a = cc
cut_open n g (Some Unknown) e a = a

-- An open type that isn't followed as far as one is a CHOICE without alternatives.
module _ (types : List «Type») (k : ℕ) (opens : is_open (begin_at types k) ≡ true) where
  tag_if_cut : (i : ℕ) → is_open (shape_of_type types i k) ≡ false → HasTag (shape_of_type types i k)
  unfolding shape_of_type
  tag_if_cut zero e = nothing_has_tag (looked_for (tag_at types k))
  tag_if_cut (suc i) e = absurd (true≢false (sym opens ∙ open_alike types (length types) i k ∙ e))

  none_if_cut : (i : ℕ) → is_open (shape_of_type types i k) ≡ false → (n : Tag) → IsFirst (shape_of_type types i k) n → ⊥
  unfolding shape_of_type
  none_if_cut zero e n a = cut_open n (shape_of_type types (length types)) (slice_get types k) opens a
  none_if_cut (suc i) e n a = absurd (true≢false (sym opens ∙ open_alike types (length types) i k ∙ e))

-- Unknown values that aren't followed as far as those have a tag.
tag_if_unknown : (types : List «Type») (k : ℕ) → is_unknown (begin_at types k) ≡ true → (i : ℕ) → is_unknown (shape_of_type types i k) ≡ false → HasTag (shape_of_type types i k)
unfolding shape_of_type
tag_if_unknown types k u zero e = nothing_has_tag (looked_for (tag_at types k))
tag_if_unknown types k u (suc i) e = absurd (true≢false (sym u ∙ unknown_alike types (length types) i k ∙ e))

-- ---- from indices to lists

-- one more component that may be absent
apart : (p : Component) (ps : List Component) (j : ℕ) → (IsAlwaysThere (presence_of p.presence) → ⊥) → ((m : ℕ) (q : Component) → m < j → Some q ≡ slice_get ps m → IsAlwaysThere (presence_of q.presence) → ⊥)
    → (m : ℕ) (q : Component) → m < suc j → Some q ≡ slice_get (p ∷ ps) m → IsAlwaysThere (presence_of q.presence) → ⊥
apart p ps j a n zero q l e b = let same : q ≡ p = cc in a (subst (λ (x : Component). IsAlwaysThere (presence_of x.presence)) same b)
apart p ps j a n (suc m) q l e b = n m q (omega (arith, l)) e b

module _ (f : ℕ → Shape) where
  none_begins : (n : Tag) (ks : List Alternative) → ((j : ℕ) (l : Alternative) → Some l ≡ slice_get ks j → IsFirst (f l.type_id.0) n → ⊥) → IsFirstOf (alternatives_by f ks) n → ⊥
  none_begins n [] h a = a
  none_begins n (k ∷ ks) h (inl a) = h 0 k refl a
  none_begins n (k ∷ ks) h (inr a) = none_begins n ks (λ j l e. h (suc j) l e) a

  each_begins : (Q : Tag → Type 0) (ps : List Component) → ((j : ℕ) (q : Component) → Some q ≡ slice_get ps j → EachFirst (f q.type_id.0) Q) → EachFirstOf (components_by f ps) Q
  each_begins Q [] h n a = absurd a
  each_begins Q (p ∷ ps) h n (inl a) = h 0 p refl n a
  each_begins Q (p ∷ ps) h n (inr a) = each_begins Q ps (λ j q e. h (suc j) q e) n a

  none_behind : (tag : Tag) (ps : List Component)
      → ((j : ℕ) (q : Component) → Some q ≡ slice_get ps j → ((m : ℕ) (p : Component) → m < j → Some p ≡ slice_get ps m → IsAlwaysThere (presence_of p.presence) → ⊥) → IsFirst (f q.type_id.0) tag → ⊥)
      → IsFirstBehind (components_by f ps) tag → ⊥
  none_behind tag [] h a = a
  none_behind tag (p ∷ ps) h a = go (presence_by (key_of (f p.type_id.0)) p.presence) refl (λ l. none_behind tag ps (λ j q g n. h (suc j) q g (apart p ps j l n))) a
    where
      as_of : IsAlwaysThere (presence_of p.presence) → IsAlwaysThere (presence_by (key_of (f p.type_id.0)) p.presence)
      as_of k = always_by own_tag (key_of (f p.type_id.0)) p.presence k

      here : IsFirst (f p.type_id.0) tag → ⊥
      here b = h 0 p refl (λ m q l. absurd (omega (arith, l))) b

      go : (r : Presence) → presence_by (key_of (f p.type_id.0)) p.presence ≡ r → ((IsAlwaysThere (presence_of p.presence) → ⊥) → IsFirstBehind (components_by f ps) tag → ⊥) → IsFirstBehind (part r (f p.type_id.0) (components_by f ps)) tag → ⊥
      go required e later b = here b
      go addition e later b = here b
      go (optional_by key) e later (inl b) = here b
      go (optional_by key) e later (inr b) = later (λ k. subst IsAlwaysThere e (as_of k)) b
      go (default_by key d) e later (inl b) = here b
      go (default_by key d) e later (inr b) = later (λ k. subst IsAlwaysThere e (as_of k)) b

-- the same of a component after another one
follow_later : (p : Component) (ps : List Component) (i j : ℕ) → MayFollow ps i j → MayFollow (p ∷ ps) (suc i) (suc j)
follow_later p ps i j (h, n) = (omega (arith, h), go)
  where
    go : (m : ℕ) (r : Component) → suc i < m → m < suc j → Some r ≡ slice_get (p ∷ ps) m → IsAlwaysThere (presence_of r.presence) → ⊥
    go zero r l u e a = absurd (omega (arith, l))
    go (suc m) r l u e a = n m r (omega (arith, l)) (omega (arith, u)) e a

follow_first : (p : Component) (ps : List Component) (j : ℕ) → ((m : ℕ) (q : Component) → m < j → Some q ≡ slice_get ps m → IsAlwaysThere (presence_of q.presence) → ⊥) → MayFollow (p ∷ ps) 0 (suc j)
follow_first p ps j n = (omega arith, go)
  where
    go : (m : ℕ) (r : Component) → 0 < m → m < suc j → Some r ≡ slice_get (p ∷ ps) m → IsAlwaysThere (presence_of r.presence) → ⊥
    go zero r l u e a = absurd (omega (arith, l))
    go (suc m) r l u e a = n m r (omega (arith, u)) e a

module _ (types : List «Type») (i : ℕ) (w : IsSchema types) (readable : (k : ℕ) → IsReadable (shape_of_type types i k)) where
  firsts : (n : Tag) (k : ℕ) → IsFirst (shape_of_type types i k) n → IsFirst (begin_at types k) n
  firsts n k = begins_as_told types w i k n

  of_tagged : (k : ℕ) → HasTag (begin_at types k) → IsAlwaysPresent (shape_of_type types i k) × IsLawful (shape_of_type types i k)
  of_tagged k t = known (shape_of_type types i k) (readable k) (λ e. subst HasTag e (has_tag_at types i k t))

  of_known : (k : ℕ) → (IsUnknown (begin_at types k) → ⊥) → IsAlwaysPresent (shape_of_type types i k) × IsLawful (shape_of_type types i k)
  of_known k n = known (shape_of_type types i k) (readable k) (λ e. n (unknown_at types i k e))

  tagged_known : (k : ℕ) → HasTag (shape_of_type types i k) → IsAlwaysPresent (shape_of_type types i k) × IsLawful (shape_of_type types i k)
  tagged_known k t = known (shape_of_type types i k) (readable k) (λ e. subst HasTag e t)

  -- ---- alternatives that have tags

  module _ (ks : List Alternative) where
    abbrev AreAllTagged : Type 0
    AreAllTagged = (j : ℕ) (a : Alternative) → Some a ≡ slice_get ks j → HasTag (shape_of_type types i a.type_id.0)

    abbrev AreAllApart : Type 0
    AreAllApart = (j m : ℕ) (a b : Alternative) → j < m → Some a ≡ slice_get ks j → Some b ≡ slice_get ks m → AreDistinct (shape_of_type types i a.type_id.0) (shape_of_type types i b.type_id.0)

  alternatives_present : (ks : List Alternative) → AreAllTagged ks → AreAlwaysPresent (alternatives_by (shape_of_type types i) ks)
  alternatives_present [] t = tt
  alternatives_present (k ∷ ks) t = ((tagged_known k.type_id.0 (t 0 k refl)).0, alternatives_present ks (λ j l e. t (suc j) l e))

  alternatives_lawful : (ks : List Alternative) → AreAllTagged ks → AreAllApart ks → IsLawful (choice (alternatives_by (shape_of_type types i) ks))
  alternatives_lawful [] t d = none_lawful
  alternatives_lawful (k ∷ ks) t d = put_alternative (shape_of_type types i) k ks
      (t 0 k refl, (tagged_known k.type_id.0 (t 0 k refl)).0, (tagged_known k.type_id.0 (t 0 k refl)).1, λ n a. none_begins (shape_of_type types i) n ks (λ j l e b. d 0 (suc j) k l (omega arith) refl e n a b))
      (alternatives_lawful ks (λ j l e. t (suc j) l e) (λ j m a b l e g. d (suc j) (suc m) a b (omega (arith, l)) e g))

  -- ---- a CHOICE, whose last alternative may be an open type

  module _ (id : ℕ) (ks : List Alternative) (t : AreLowerAndTagged (begin_at types) id ks) (d : AreDistinctAlternatives (begin_at types) ks) where
    -- An alternative that isn't an open type at the end.
    abbrev IsNamed : ℕ → Alternative → Type 0
    IsNamed j a = suc j ≡ length ks → is_open (shape_of_type types i a.type_id.0) ≡ false

    named_tag : (j : ℕ) (a : Alternative) → Some a ≡ slice_get ks j → IsNamed j a → HasTag (shape_of_type types i a.type_id.0)
    named_tag j a e n = go (tag_or_none (begin_at types a.type_id.0))
      where
        go : HasTag (begin_at types a.type_id.0) ⊎ (HasTag (begin_at types a.type_id.0) → ⊥) → HasTag (shape_of_type types i a.type_id.0)
        go (inl h) = has_tag_at types i a.type_id.0 h
        go (inr h) = let o = (t j a e).1 h in tag_if_cut types a.type_id.0 o.2 i (n o.1)

    named_apart : (j m : ℕ) (a b : Alternative) → j < m → Some a ≡ slice_get ks j → Some b ≡ slice_get ks m → IsNamed m b → AreDistinct (shape_of_type types i a.type_id.0) (shape_of_type types i b.type_id.0)
    named_apart j m a b l e g n tag x y = go (tag_or_none (begin_at types b.type_id.0))
      where
        go : HasTag (begin_at types b.type_id.0) ⊎ (HasTag (begin_at types b.type_id.0) → ⊥) → ⊥
        go (inl h) = d j m a b l e g h tag (firsts tag a.type_id.0 x) (firsts tag b.type_id.0 y)
        go (inr h) = let o = (t m b g).1 h in none_if_cut types b.type_id.0 o.2 i (n o.1) tag y

    choice_readable : IsAlwaysPresent (choice_among (alternatives_by (shape_of_type types i) ks)) × IsLawful (choice_among (alternatives_by (shape_of_type types i) ks))
    unfolding IsLawful
    choice_readable = among (λ s. IsAlwaysPresent s × IsLawful s) (alternatives_by (shape_of_type types i) ks) opens named
      where
        before : (j : ℕ) (a : Alternative) → Some a ≡ slice_get (but_last ks) j → (Some a ≡ slice_get ks j) × IsNamed j a
        before j a e = let h = in_but_last ks j a e in (h.0, λ q. absurd (omega (arith, q, h.1)))

        opens : ends_open (alternatives_by (shape_of_type types i) ks) ≡ true → AreAlwaysPresent (before_last (alternatives_by (shape_of_type types i) ks)) × IsLawful (open_choice (before_last (alternatives_by (shape_of_type types i) ks)))
        opens e =
            let tagged : AreAllTagged (but_last ks) = λ j a g. let h = before j a g in named_tag j a h.0 h.1 in
            let apart : AreAllApart (but_last ks) = λ j m a b l g p. let h = before m b p in named_apart j m a b l (before j a g).0 h.0 h.1 in
            rw (before_is (shape_of_type types i) ks) (alternatives_present (but_last ks) tagged, alternatives_lawful (but_last ks) tagged apart)

        named : ends_open (alternatives_by (shape_of_type types i) ks) ≡ false → AreAlwaysPresent (alternatives_by (shape_of_type types i) ks) × IsLawful (choice (alternatives_by (shape_of_type types i) ks))
        named e =
            let last : (j : ℕ) (a : Alternative) → Some a ≡ slice_get ks j → IsNamed j a = λ j a g q. end_at (shape_of_type types i) ks j a g q ∙ e in
            let tagged : AreAllTagged ks = λ j a g. named_tag j a g (last j a g) in
            let apart : AreAllApart ks = λ j m a b l g p. named_apart j m a b l g p (last m b p) in
            (alternatives_present ks tagged, alternatives_lawful ks tagged apart)

  -- A type without a tag of its own, and which isn't a CHOICE that is recognized by its first tags, is an open type or ends with one.
  untagged_open : (k : ℕ) → key_of (shape_of_type types i k) ≡ own_tag → own_at types k ≡ None → HasTag (begin_at types k) → ⊥
  unfolding shape_of_type
  untagged_open k e n h = by_levels i e
    where
      by_type : (f g : ℕ → Shape) → ((j : ℕ) → is_open (f j) ≡ true → is_open (g j) ≡ true) → (o : Option «Type») → slice_get types k ≡ o → key_of (found_by f o) ≡ own_tag → looked_for (tag_found o) ≡ None → HasTag (found_by g o) → ⊥
      by_type f g u None q e n h = cc
      by_type f g u (Some (Leaf kind tag c names)) q e n h = let l = looked tag (w.0 k (Leaf kind tag c names) (sym q)).0 in cc
      by_type f g u (Some (Enumerated tag ns)) q e n h = let l = looked tag (w.0 k (Enumerated tag ns) (sym q)).0 in cc
      by_type f g u (Some (Any tag)) q e n h = subst (λ o. HasTag (any o)) n h
      by_type f g u (Some (Tagged tag j)) q e n h = let l = looked tag (w.0 k (Tagged tag j) (sym q)).0 in cc
      by_type f g u (Some (Choice name ks)) q e n h = among (λ s. key_of s ≡ own_tag → ⊥) (alternatives_by f ks.items) (λ o e. among_open HasTag (alternatives_by g ks.items) (ends_alike f g u ks.items o) h) (λ o e. cc) e
      by_type f g u (Some (Sequence tag ps)) q e n h = let l = looked tag (w.0 k (Sequence tag ps) (sym q)).0 in cc
      by_type f g u (Some (Set name tag ps)) q e n h = let l = looked tag (w.0 k (Set name tag ps) (sym q)).0 in cc
      by_type f g u (Some (SequenceOf tag j c)) q e n h = let l = looked tag (w.0 k (SequenceOf tag j c) (sym q)).0 in cc
      by_type f g u (Some (SetOf tag j c)) q e n h = let l = looked tag (w.0 k (SetOf tag j c) (sym q)).0 in cc
      by_type f g u (Some Unknown) q e n h = h

      by_levels : (i : ℕ) → key_of (shape_of_type types i k) ≡ own_tag → ⊥
      by_levels zero e = let f : key_of (nothing None) ≡ own_tag = subst (λ o. key_of (nothing o) ≡ own_tag) n e in cc
      by_levels (suc i) e = by_type (shape_of_type types i) (shape_of_type types (length types)) (λ j o. open_settled types i j o) (slice_get types k) refl e n h

  choice_own : (s : Shape) → key_of s ≡ first_tags → (own s ≡ None) × HasTag s
  choice_own (leaf kind tag c) e = cc
  choice_own (any tag) e = cc
  choice_own (prefix tag s) e = cc
  choice_own (choice ps) e = (refl, tt)
  choice_own (open_choice ps) e = cc
  choice_own (option tag s) e = cc
  choice_own (seq tag ps) e = cc
  choice_own (set tag ps) e = cc
  choice_own (sorted_set extensible tag ps) e = cc
  choice_own (list tag s c) e = cc
  choice_own (set_of tag s c) e = cc
  choice_own unknown e = cc

  module _ (p : Component) (ps : List Component) (t : AreToldInOrder (own_at types) (begin_at types) (p ∷ ps)) (a : IsAlwaysThere (presence_of p.presence) → ⊥) where
    -- The next component may follow.
    next_told : (q : Component) (qs : List Component) → ps ≡ q ∷ qs → IsToldFrom (own_at types p.type_id.0) (begin_at types p.type_id.0) (begin_at types q.type_id.0)
    next_told q qs f = t 0 1 p q refl (subst (λ l. Some q ≡ slice_get l 0) (sym f) refl) a (follow_first p ps 0 (λ m r l. absurd (omega (arith, l))))

    told_by_own : (o : Option Tag) → own_at types p.type_id.0 ≡ o → key_of (shape_of_type types i p.type_id.0) ≡ own_tag → IsDistinguished o (components_by (shape_of_type types i) ps)
    told_by_own (Some tag) e k = none_behind (shape_of_type types i) tag ps
        (λ j q g n b. subst (λ o. IsToldFrom o (begin_at types p.type_id.0) (begin_at types q.type_id.0)) e (t 0 (suc j) p q refl g a (follow_first p ps j n)) (firsts tag q.type_id.0 b))
    told_by_own None e k = go ps refl
      where
        go : (qs : List Component) → ps ≡ qs → components_by (shape_of_type types i) qs ≡ none
        go [] f = refl
        go (q ∷ qs) f =
            let r : IsToldFrom None (begin_at types p.type_id.0) (begin_at types q.type_id.0) =
            subst (λ o. IsToldFrom o (begin_at types p.type_id.0) (begin_at types q.type_id.0)) e (next_told q qs f) in
            absurd (untagged_open p.type_id.0 k e r.0.0)

    -- No component that may follow begins with a tag of the CHOICE.
    apart_from : own_at types p.type_id.0 ≡ None → (n : Tag) → IsFirst (begin_at types p.type_id.0) n → IsFirstBehind (components_by (shape_of_type types i) ps) n → ⊥
    apart_from e n b = none_behind (shape_of_type types i) n ps (λ j q g m c.
        let r : IsToldFrom None (begin_at types p.type_id.0) (begin_at types q.type_id.0) =
        subst (λ o. IsToldFrom o (begin_at types p.type_id.0) (begin_at types q.type_id.0)) e (t 0 (suc j) p q refl g a (follow_first p ps j m)) in
        r.1 n b (firsts n q.type_id.0 c))

    not_every : own_at types p.type_id.0 ≡ None → ((n : Tag) → IsFirstBehind (components_by (shape_of_type types i) ps) n) → ⊥
    not_every e all = go ps refl
      where
        go : (qs : List Component) → ps ≡ qs → ⊥
        go [] f = subst (λ l. IsFirstBehind (components_by (shape_of_type types i) l) eoc) f (all eoc)
        go (q ∷ qs) f =
            let r : IsToldFrom None (begin_at types p.type_id.0) (begin_at types q.type_id.0) =
            subst (λ o. IsToldFrom o (begin_at types p.type_id.0) (begin_at types q.type_id.0)) e (next_told q qs f) in
            r.0.1 (λ n b. apart_from e n b (all n))

    recognized : (key : Key) → key_of (shape_of_type types i p.type_id.0) ≡ key → IsRecognized key (shape_of_type types i p.type_id.0) (components_by (shape_of_type types i) ps)
    recognized own_tag e = subst (λ o. IsDistinguished o (components_by (shape_of_type types i) ps)) (sym (own_is types i p.type_id.0 (readable p.type_id.0))) (told_by_own (own_at types p.type_id.0) refl e)
    recognized first_tags e =
        let c = choice_own (shape_of_type types i p.type_id.0) e in
        let n : own_at types p.type_id.0 ≡ None = sym (own_is types i p.type_id.0 (readable p.type_id.0)) ∙ c.0 in
        (c.1, not_every n, λ m b. apart_from n m (firsts m p.type_id.0 b))

  left_out : (p : Component) (ps : List Component) → AreToldInOrder (own_at types) (begin_at types) (p ∷ ps) → (key : Key) → key_of (shape_of_type types i p.type_id.0) ≡ key
      → (r : ComponentPresence) → p.presence ≡ r → MayBeLeftOut (presence_by key r) (shape_of_type types i p.type_id.0) (components_by (shape_of_type types i) ps)
  left_out p ps t key k Required e = tt
  left_out p ps t key k Addition e = tt
  left_out p ps t key k Optional e = recognized p ps t (λ a. subst (λ r. IsAlwaysThere (presence_of r)) e a) key k
  left_out p ps t key k (Default v) e = recognized p ps t (λ a. subst (λ r. IsAlwaysThere (presence_of r)) e a) key k

  no_more : (ps : List Component) → 1 ≡ suc (length ps) → ps ≡ []
  no_more [] e = refl
  no_more (q ∷ ps) e = absurd (omega (arith, e))

  -- Unknown values are the last component, and any other one may be left out as far as it is told from those after it.
  one_in_order : (p : Component) (ps : List Component) → AreToldInOrder (own_at types) (begin_at types) (p ∷ ps) → EndsUnknown (begin_at types) (p ∷ ps) → IsReadable (shape_of_type types i p.type_id.0)
      → AreLawfulInOrder (components_by (shape_of_type types i) ps) → AreLawfulInOrder (components_by (shape_of_type types i) (p ∷ ps))
  one_in_order p ps t u (inl (present, lawful)) h = put_in_order (shape_of_type types i) p ps (present, lawful, left_out p ps t (key_of (shape_of_type types i p.type_id.0)) refl p.presence refl) h
  one_in_order p ps t u (inr e) h =
      let last = u 0 p refl (unknown_at types i p.type_id.0 e) in
      put_unknown (shape_of_type types i) p ps e last.1 (no_more ps last.0)

  in_order_lawful : (ps : List Component) → AreToldInOrder (own_at types) (begin_at types) ps → EndsUnknown (begin_at types) ps → AreLawfulInOrder (components_by (shape_of_type types i) ps)
  in_order_lawful [] t u = none_in_order (shape_of_type types i)
  in_order_lawful (p ∷ ps) t u = one_in_order p ps t u (readable p.type_id.0)
      (in_order_lawful ps (λ j m q r d e a f. t (suc j) (suc m) q r d e a (follow_later p ps j m f)) (λ j q e a. let h = u (suc j) q e a in (omega (arith, h.0), h.1)))

  -- ---- components of a SET that are no unknown values

  module _ (ps : List Component) where
    abbrev AreAllKnown : Type 0
    AreAllKnown = (j : ℕ) (p : Component) → Some p ≡ slice_get ps j → (presence_of p.presence ≢ addition) × HasTag (shape_of_type types i p.type_id.0)

    abbrev AreAllDistinct : Type 0
    AreAllDistinct = (j m : ℕ) (p q : Component) → j < m → Some p ≡ slice_get ps j → Some q ≡ slice_get ps m → AreDistinct (shape_of_type types i p.type_id.0) (shape_of_type types i q.type_id.0)

  components_lawful : (ps : List Component) → AreAllKnown ps → AreComponents (components_by (shape_of_type types i) ps)
  components_lawful [] t = no_components (shape_of_type types i)
  components_lawful (p ∷ ps) t =
      let k = p.type_id.0 in
      let h = t 0 p refl in
      let l = tagged_known k h.1 in
      put_component (shape_of_type types i) p ps (no_addition_by (key_of (shape_of_type types i k)) p.presence h.0, h.1, l.0, l.1) (components_lawful ps (λ j q e. t (suc j) q e))

  components_distinguished : (ps : List Component) → AreAllDistinct ps → AreDistinguished (components_by (shape_of_type types i) ps)
  components_distinguished [] d = tt
  components_distinguished (p ∷ ps) d = (
    λ n a b. each_begins (shape_of_type types i) (λ m. IsFirst (shape_of_type types i p.type_id.0) m → ⊥) ps (λ j q e m c x. d 0 (suc j) p q (omega arith) refl e m x c) n b a,
    components_distinguished ps (λ j m q r l e g. d (suc j) (suc m) q r (omega (arith, l)) e g),
  )

  -- ---- a SET, whose last component may be unknown values

  module _ (ps : List Component) (t : AreTagged (begin_at types) ps) (u : EndsUnknown (begin_at types) ps) (d : AreDistinctComponents (begin_at types) ps) where
    known_tag : (j : ℕ) (p : Component) → Some p ≡ slice_get ps j → (suc j ≡ length ps → is_unknown (shape_of_type types i p.type_id.0) ≡ false) → HasTag (shape_of_type types i p.type_id.0)
    known_tag j p e n = go (is_unknown (begin_at types p.type_id.0)) refl
      where
        go : (b : Bool) → is_unknown (begin_at types p.type_id.0) ≡ b → HasTag (shape_of_type types i p.type_id.0)
        go true h = tag_if_unknown types p.type_id.0 h i (n (u j p e h).0)
        go false h = has_tag_at types i p.type_id.0 ((t j p e).1 (λ k. true≢false (sym k ∙ h)))

    set_by : (b : Bool) → ends_unknown (components_by (shape_of_type types i) ps) ≡ b
        → AreComponents (known_parts (components_by (shape_of_type types i) ps)) × AreDistinguished (known_parts (components_by (shape_of_type types i) ps))
    set_by b e = subst (λ qs. AreComponents qs × AreDistinguished qs) (sym (known_is (shape_of_type types i) ps b e)) (components_lawful (known_of b ps) tagged, components_distinguished (known_of b ps) distinct)
      where
        tagged : AreAllKnown (known_of b ps)
        tagged j p g = let h = in_known (shape_of_type types i) ps b e j p g in ((t j p h.0).0, known_tag j p h.0 h.1)

        distinct : AreAllDistinct (known_of b ps)
        distinct j m p q l g h n x y =
            d j m p q l (in_known (shape_of_type types i) ps b e j p g).0 (in_known (shape_of_type types i) ps b e m q h).0 n (firsts n p.type_id.0 x) (firsts n q.type_id.0 y)

    set_lawful : AreComponents (known_parts (components_by (shape_of_type types i) ps)) × AreDistinguished (known_parts (components_by (shape_of_type types i) ps))
    set_lawful = set_by (ends_unknown (components_by (shape_of_type types i) ps)) refl

  type_readable : (id : ℕ) (ty : «Type») → IsWellFormed (own_at types) (begin_at types) id ty → IsReadable (type_by (shape_of_type types i) ty)
  unfolding IsLawful
  type_readable id (Leaf kind tag c names) t = inl (tt, t)
  type_readable id (Enumerated tag ns) t = inl (tt, (t.0, tt))
  type_readable id (Any tag) t = inl (tt, open_lawful tag)
  type_readable id (Tagged tag k) t = inl (tt, (t.0, (of_known k.0 t.2).0, (of_known k.0 t.2).1))
  type_readable id (Choice name ks) t = inl (choice_readable id ks.items t.1 t.2)
  type_readable id (Sequence tag ps) t = inl (tt, (t.0, in_order_lawful ps.items t.1 t.2))
  type_readable id (Set name tag ps) t = inl (tt, (t.0, (set_lawful ps.items t.1 t.2 t.3).0, (set_lawful ps.items t.1 t.2 t.3).1))
  type_readable id (SequenceOf tag k c) t = inl (tt, (t.0, (of_known k.0 t.1).0, (of_known k.0 t.1).1))
  type_readable id (SetOf tag k c) t = inl (tt, (t.0, (of_known k.0 t.1).0, (of_known k.0 t.1).1))
  type_readable id Unknown t = inr refl

  found_readable : (k : ℕ) (o : Option «Type») → slice_get types k ≡ o → IsReadable (found_by (shape_of_type types i) o)
  found_readable k None e = inl (tt, none_lawful)
  found_readable k (Some ty) e = type_readable k ty (w.0 k ty (sym e))

-- The theorem: if each type keeps the rules, each shape is lawful or is unknown values, however deep types are followed.
pub schema_readable : (types : List «Type») → IsSchema types → (levels k : ℕ) → IsReadable (shape_of_type types levels k)
unfolding shape_of_type
schema_readable types w zero k = inl (nothing_present (looked_for (tag_at types k)), cut_lawful types k)
schema_readable types w (suc levels) k = found_readable types levels w (schema_readable types w levels) k (slice_get types k) refl

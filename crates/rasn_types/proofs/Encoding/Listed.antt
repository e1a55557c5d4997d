-- A SET whose parts are listed in ascending order of their tags is written as one without an extension marker that is
-- put in this order.
use Rattle.std.proofs.Common.{◌≡◌, ◌≢◌, ℕ, suc, inl, inr, List, [], ◌∷◌, ◌++◌, false, Some, None, refl, sym, ap, ap₂, ◌∙◌, subst, append-nil}
use Rattle.rasn_types.specs.Tags.{Codec, Ber, Cer, Der, Tag, IsTagBelow}
use Rattle.rasn_types.specs.Order.{AreAscending, IsBeforeAll, AreInOrder, IsReordered}
use Rattle.rasn_types.specs.Shapes.{Tree, Shape, leaf, any, prefix, choice, open_choice, option, seq, set, sorted_set, list, set_of, unknown, Parts, part, count, IsAlwaysPresent, Presence, required, addition, optional_by, default_by, IsFirst, IsFirstOf}
use Rattle.rasn_types.specs.Shapes.Parts.{none}
use Rattle.rasn_types.specs.Contents.{joined_lists}
use Rattle.rasn_types.specs.Bytes.{WritesPart, PartsWritten, TagsOf, NoneUntaggedOpen, IsUntaggedOpen, IsUntaggedOpenIn, Component, UnknownComponents, ConstructedEncoding, IsPlacedBy, ComponentsOf, ComesBefore, contents_of, Bytes, fields_of}
use Rattle.rasn_types.specs.Lawful.{HasTag, IsLawful, AreAlternatives, AreLawfulByTag}
use Rattle.rasn_types.proofs.InOrder.{not_both_below, same_order, one_order_of_components}
use Rattle.rasn_types.proofs.Encoding.SameOctets.{components_once}
use Rattle.rasn_types.proofs.Encoding.First.{BeginsWithin, written_first, least_first}

-- The octets of a part that is written.
part_written : (rule : Codec) (s : Shape) (presence : Presence) (t : Tree) (b : List ℕ) → WritesPart presence (Bytes rule s) t b → b ≢ [] → Bytes rule s t b
part_written rule s required t b w some = w
part_written rule s (optional_by key) t b (inl w) some = absurd (some w.1)
part_written rule s (optional_by key) t b (inr w) some = w.1
part_written rule s addition t b (inl w) some = absurd (some w.1)
part_written rule s addition t b (inr w) some = w.1
part_written rule s (default_by key d) t b (inl w) some = absurd (some w.1)
part_written rule s (default_by key d) t b (inr w) some = w.1

first_written : (rule : Codec) (s : Shape) (presence : Presence) (t : Tree) (o : ℕ) (b : List ℕ) → WritesPart presence (Bytes rule s) t (o ∷ b) → (IsUntaggedOpen s t → o ∷ b ≡ []) → BeginsWithin (IsFirst s) (o ∷ b)
first_written rule s presence t o b w bare = written_first s rule t (o ∷ b) (part_written rule s presence t (o ∷ b) w (λ e. cc)) (λ h. let e = bare h in cc) (λ e. cc)

-- The tag that decides where it is.
abbrev pub PlacedWithin : Codec → (Tag → Type 0) → List ℕ → Type 0
PlacedWithin rule P b = (n : Tag) × IsPlacedBy rule P b n × P n

placed_first : (rule : Codec) (s : Shape) (b : List ℕ) → BeginsWithin (IsFirst s) b → PlacedWithin rule (IsFirst s) b
placed_first Ber s b r = r
placed_first Cer s b (n, begins, first) = let m = least_first s n first in (m.0, m.1, m.1.0)
placed_first Der s b r = r

abbrev pub AreFirstOf : Parts → List Component → Type 0
AreFirstOf ps [] = Unit {0}
AreFirstOf ps (c ∷ cs) = IsFirstOf ps c.tag × AreFirstOf ps cs

first_later : (presence : Presence) (s : Shape) (ps : Parts) (cs : List Component) → AreFirstOf ps cs → AreFirstOf (part presence s ps) cs
first_later presence s ps [] h = tt
first_later presence s ps (c ∷ cs) h = (inr h.0, first_later presence s ps cs h.1)

before_others : (s : Shape) (ps : Parts) → ((m n : Tag) → IsFirst s m → IsFirstOf ps n → IsTagBelow m n) → (c : Component) → IsFirst s c.tag → (cs : List Component) → AreFirstOf ps cs → IsBeforeAll ComesBefore c cs
before_others s ps h c i [] f = tt
before_others s ps h c i (d ∷ cs) f = (inl (h c.tag d.tag i f.0), before_others s ps h c i cs f.1)

-- The components of the parts, in their order.
abbrev pub ListedComponents : Codec → ℕ → Parts → List (List ℕ) → Type 0
ListedComponents rule k ps bs = (cs : List Component) × ComponentsOf rule k ps bs cs × AreInOrder ComesBefore cs × AreFirstOf ps cs × (joined_lists bs ≡ contents_of cs)

pub listed_components : (rule : Codec) (ps : Parts) → AreLawfulByTag ps → (k : ℕ) (ts : List Tree) (bs : List (List ℕ)) → PartsWritten (fields_of rule ps) ts bs → NoneUntaggedOpen (fields_of rule ps) ts bs
    → ListedComponents rule k ps bs
unfolding Bytes fields_of AreLawfulByTag
listed_components rule none listed k ts bs w bare = ([], refl, tt, tt, ap joined_lists w.1)
listed_components rule (part presence s ps) listed k ts bs (t, us, b, more, e, f, w, ws) bare =
    subst (ListedComponents rule k (part presence s ps)) (sym f)
    (go b w (λ h. listed_components rule ps listed.5 (suc k) us more ws h)
    (subst (λ l. NoneUntaggedOpen (fields_of rule (part presence s ps)) (t ∷ us) l) f (subst (λ l. NoneUntaggedOpen (fields_of rule (part presence s ps)) l bs) e bare)))
  where
    go : (b : List ℕ) → WritesPart presence (Bytes rule s) t b → (NoneUntaggedOpen (fields_of rule ps) us more → ListedComponents rule (suc k) ps more)
        → NoneUntaggedOpen (fields_of rule (part presence s ps)) (t ∷ us) (b ∷ more) → ListedComponents rule k (part presence s ps) (b ∷ more)
    go [] w later bare = let r = later bare.1 in (r.0, r.1, r.2, first_later presence s ps r.0 r.3, r.4)
    go (o ∷ b) w later bare =
        let r = later bare.1 in
        let p = placed_first rule s (o ∷ b) (first_written rule s presence t o b w bare.0) in
        let c : Component = record { tag = p.0; number = k; octets = o ∷ b } in (
          c ∷ r.0,
          (p.0, r.0, refl, p.1, r.1),
          (before_others s ps listed.4 c p.2 r.0 r.3, r.2),
          (inl p.2, first_later presence s ps r.0 r.3),
          ap (λ l. (o ∷ b) ++ l) r.4,
        )

-- ---- nothing is written as an untagged open type

mutual
  unfolding IsUntaggedOpen IsLawful

  pub not_untagged : (s : Shape) → IsLawful s → IsAlwaysPresent s → HasTag s → (t : Tree) → IsUntaggedOpen s t → ⊥
  not_untagged (leaf kind tag bounds) lawful solid has t h = h
  not_untagged (any None) lawful solid has t h = has
  not_untagged (any (Some tag)) lawful solid has t h = h
  not_untagged (prefix tag s) lawful solid has t h = h
  not_untagged (choice ps) lawful solid has t h = none_untagged ps lawful.0 0 t h
  not_untagged (open_choice ps) lawful solid has t h = has
  not_untagged (option tag s) lawful solid has t h = solid
  not_untagged (seq tag ps) lawful solid has t h = h
  not_untagged (set tag ps) lawful solid has t h = h
  not_untagged (sorted_set extensible tag ps) lawful solid has t h = h
  not_untagged (list tag s size) lawful solid has t h = h
  not_untagged (set_of tag s size) lawful solid has t h = h
  not_untagged unknown lawful solid has t h = solid

  none_untagged : (ps : Parts) → AreAlternatives ps → (k : ℕ) (t : Tree) → IsUntaggedOpenIn k ps t → ⊥
  none_untagged none lawful k t h = h
  none_untagged (part presence s ps) lawful k t (inl h) = not_untagged s lawful.3 lawful.2 lawful.1 h.0 h.2
  none_untagged (part presence s ps) lawful k t (inr h) = none_untagged ps lawful.4 (suc k) t h

none_bare : (rule : Codec) (ps : Parts) → AreLawfulByTag ps → (ts : List Tree) (bs : List (List ℕ)) → NoneUntaggedOpen (fields_of rule ps) ts bs
unfolding Bytes fields_of AreLawfulByTag
none_bare rule none lawful ts bs = tt
none_bare rule (part presence s ps) lawful [] bs = tt
none_bare rule (part presence s ps) lawful (t ∷ ts) [] = tt
none_bare rule (part presence s ps) lawful (t ∷ ts) (b ∷ bs) = ((λ h. absurd (not_untagged s lawful.3 lawful.2 lawful.1 t h)), none_bare rule ps lawful.5 ts bs)

-- ---- their tags ascend

abbrev pub AreTagsOf : Parts → List Tag → Type 0
AreTagsOf ps [] = Unit {0}
AreTagsOf ps (t ∷ ts) = IsFirstOf ps t × AreTagsOf ps ts

tags_later : (presence : Presence) (s : Shape) (ps : Parts) (ts : List Tag) → AreTagsOf ps ts → AreTagsOf (part presence s ps) ts
tags_later presence s ps [] h = tt
tags_later presence s ps (t ∷ ts) h = (inr h.0, tags_later presence s ps ts h.1)

one_more : (s : Shape) (ps : Parts) → ((m n : Tag) → IsFirst s m → IsFirstOf ps n → IsTagBelow m n) → (t : Tag) → IsFirst s t → (ts : List Tag) → AreTagsOf ps ts → AreAscending IsTagBelow ts → AreAscending IsTagBelow (t ∷ ts)
one_more s ps h t i [] f o = tt
one_more s ps h t i (u ∷ ts) f o = ((λ l. not_both_below u t l (h t u i f.0)), o)

abbrev pub ListedTags : Parts → List (List ℕ) → Type 0
ListedTags ps bs = (tags : List Tag) × TagsOf bs tags × AreAscending IsTagBelow tags × AreTagsOf ps tags

listed_tags : (rule : Codec) (ps : Parts) → AreLawfulByTag ps → (ts : List Tree) (bs : List (List ℕ)) → PartsWritten (fields_of rule ps) ts bs → ListedTags ps bs
unfolding Bytes fields_of AreLawfulByTag
listed_tags rule none listed ts bs w = ([], subst (λ l. TagsOf l []) (sym w.1) refl, tt, tt)
listed_tags rule (part presence s ps) listed ts bs (t, us, b, more, e, f, w, ws) = subst (ListedTags (part presence s ps)) (sym f) (go b w (listed_tags rule ps listed.5 us more ws))
  where
    go : (b : List ℕ) → WritesPart presence (Bytes rule s) t b → ListedTags ps more → ListedTags (part presence s ps) (b ∷ more)
    go [] w (tags, h, order, of) = (tags, h, order, tags_later presence s ps tags of)
    go (o ∷ b) w (tags, h, order, of) =
        let p = first_written rule s presence t o b w (λ x. absurd (not_untagged s listed.3 listed.2 listed.1 t x)) in
        (p.0 ∷ tags, (p.0, tags, refl, p.1, h), one_more s ps listed.4 p.0 p.2 tags of order, (inl p.2, tags_later presence s ps tags of))

-- ---- written alike

pub set_written_sorted : (rule : Codec) (tag : Tag) (ps : Parts) → AreLawfulByTag ps → (t : Tree) (b : List ℕ) → Bytes rule (set tag ps) t b → Bytes rule (sorted_set false tag ps) t b
unfolding Bytes fields_of
set_written_sorted rule tag ps lawful t b (ts, bs, tags, e, w, bare, firsts, order, c) =
    let r = listed_components rule ps lawful 0 ts bs w bare in (
      ts,
      [],
      bs,
      r.0,
      [],
      r.0,
      (refl, e),
      w,
      r.1,
      refl,
      subst (λ l. IsReordered l r.0) (sym (append-nil r.0)) (same_order r.0),
      r.2,
      subst (λ l. ConstructedEncoding rule tag l b) r.4 c,
    )

pub sorted_written_listed : (rule : Codec) (tag : Tag) (ps : Parts) → AreLawfulByTag ps → (t : Tree) (b : List ℕ) → Bytes rule (sorted_set false tag ps) t b → Bytes rule (set tag ps) t b
unfolding Bytes fields_of
sorted_written_listed rule tag ps lawful t b (ts, us, bs, cs, es, ds, (nothing, e), w, m, n, p, order, c) =
    let bare = none_bare rule ps lawful ts bs in
    let r = listed_components rule ps lawful 0 ts bs w bare in
    let k = listed_tags rule ps lawful ts bs w in
    let f : cs ≡ r.0 = components_once rule 0 ps bs cs r.0 m r.1 in
    let g : es ≡ [] = subst (λ l. UnknownComponents (count ps) l es) nothing n in
    let p' : IsReordered r.0 ds = subst (λ l. IsReordered l ds) (ap₂ ◌++◌ f g ∙ append-nil r.0) p in
    let i : ds ≡ r.0 = one_order_of_components r.0 ds r.0 p' (same_order r.0) order r.2 in
    (ts, bs, k.0, e, w, bare, k.1, k.2, subst (λ l. ConstructedEncoding rule tag l b) (ap contents_of i ∙ sym r.4) c)

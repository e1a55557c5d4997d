-- Components that are put in the order of their tags: those of parts, which are written one by one, and of unknown
-- values.
use Rattle.std.proofs.Common.{◌≡◌, ◌≢◌, ℕ, zero, suc, ◌+◌, ◌-◌, ◌<◌, ◌≤◌, ◌⊎◌, inl, inr, Bool, true, false, ◌||◌, ◌&&◌, if◌then◌else◌, List, [], ◌∷◌, ◌++◌, map, length, take, drop, get_or, Option, Some, None, MatchOption, refl, sym, ap, ap₂, ◌∙◌, subst, arith, nat_lt, nat_eq, Vec, Result, Ok, Err, OnOk, IfOk, IfErr}
use Rattle.std.specs.List.{insert}
use Rattle.std.specs.List.Sorted.{IsSortedBy, IsStableBy}
use Rattle.std.specs.Cmp.{IsStrictWeakOrder}
use Rattle.std.proofs.lemmas.Bool.Decides.{nat_tests}
use Rattle.std.proofs.lemmas.Grind.{common_steps}
use Rattle.std.proofs.Math.Seq.{take-suc, drop-cons}
use Rattle.std.proofs.lemmas.List.{append-nil, append_assoc}
use Rattle.std.proofs.lemmas.Result.{on_ok_weaker}
use Rattle.rasn_types.specs.Tags.{rank, IsTagBelow}
use Rattle.rasn_types.specs.declared.types.codec.Codec.{Codec}
use Rattle.rasn_types.specs.declared.types.codec.Codec.TheVariants.{Ber, Cer, Der}
use Rattle.rasn_types.specs.declared.types.tag.Tag.{Tag}
use Rattle.rasn_types.specs.Framing.{Begins}
use Rattle.rasn_types.specs.Contents.{joined_lists}
use Rattle.rasn_types.specs.Shapes.{Shape, leaf, any, prefix, choice, open_choice, option, seq, set, sorted_set, list, set_of, unknown, own, IsFirst, Kind, Tree, numbers, items, done, joined, IsSetTree, Parts, part, count, Presence, required, optional_by, default_by, addition}
use Rattle.rasn_types.specs.Shapes.Parts.{none}
use Rattle.rasn_types.specs.LawfulTest.{is_tag_below}
use Rattle.rasn_types.specs.Grammar.{Family, plain_family, bit_family, named_family, text_family, family}
use Rattle.rasn_types.specs.Bytes.{Bytes, Writing, WritesPart, WritesIn, WritesString, ConstructedEncoding, IsUntaggedOpen, Each, Component, ComesBefore, IsPlacedBy, IsBeforeAll, AreInOrder, IsReordered, fields_of, PartsWritten, ComponentsOf, UnknownComponents, contents_of}
use Rattle.rasn_types.specs.declared.error.encode.EncodeError.{EncodeError}
use Rattle.rasn_types.proofs.Headers.Frames.{tag_one}
use Rattle.rasn_types.proofs.SetOf.Same.{items_one}
use Rattle.rasn_types.proofs.Encoding.SameAsItself.{parts_one_writing}
use Rattle.rasn_types.proofs.Time.Spellings.{both_true}
use Rattle.rasn_types.proofs.InOrder.{below_or_same, below_trans, not_below_itself}
use Rattle.rasn_enc.specs.View.{View, started}
use Rattle.rasn_enc.specs.Primitive.{Appends, IsAllocError}
use Rattle.rasn_enc.specs.Any.{IsUntaggedInSetError}
use Rattle.rasn_enc.specs.Encoding.{AppendsEncoding, EncodeFails, NoEncodingOfPart}
use Rattle.rasn_enc.specs.Sequence.{EncodePartsFails, NoEncodingOfParts}
use Rattle.rasn_enc.specs.ValueErrors.{IsAllocErrorOr, IsErrorOfParts}
use Rattle.rasn_enc.specs.SortedSet.{is_this, is_own, HasOwn, HasLeast, with_component, octets_in, IsWrittenAlone, IsHeldAs, AreFrom, HoldsInOrder, HoldsParts, HaveNoPlaces, FailsAtComponents, IsPartAlone, IsUnknown, HoldsUnknown, LackTag}
use Rattle.rasn_enc.specs.declared.ber.enc.set_parts.SetComponent.{SetComponent}
use Rattle.rasn_enc.proofs.Sorting.{inserted, by_insertion, sorted_is}
use Rattle.rasn_enc.proofs.Leaves.Primitive.{definite_begins, cons_begins, encoded_one}

-- ---- tests of tags

below_is : (a b c d : ℕ) → nat_lt a b || (nat_eq a b && nat_lt c d) ≡ true → (a < b) ⊎ ((a ≡ b) × (c < d))
below_is a b c d e = grind (arith, nat_tests)

below_not : (a b c d : ℕ) → nat_lt a b || (nat_eq a b && nat_lt c d) ≡ false → (a < b) ⊎ ((a ≡ b) × (c < d)) → ⊥
below_not a b c d e (inl h) = grind (arith, nat_tests)
below_not a b c d e (inr h) = grind (arith, nat_tests)

pub is_below : (s t : Tag) → is_tag_below s t ≡ true → IsTagBelow s t
is_below s t e = below_is (rank s.class) (rank t.class) s.value t.value e

pub isnt_below : (s t : Tag) → is_tag_below s t ≡ false → IsTagBelow s t → ⊥
isnt_below s t e h = below_not (rank s.class) (rank t.class) s.value t.value e h

same_is : (a b c d : ℕ) → nat_eq a b && nat_eq c d ≡ true → (a ≡ b) × (c ≡ d)
same_is a b c d e = grind (arith, nat_tests)

-- The tag is the shape's own.
own_tag_is : (s : Shape) (tag : Tag) → is_own s tag ≡ true → own s ≡ Some tag
own_tag_is s tag e = go (own s) e
  where
    go : (o : Option Tag) → is_this o tag ≡ true → o ≡ Some tag
    go None f = cc
    go (Some t) f = let h = same_is (rank t.class) (rank tag.class) t.value tag.value f in ap Some (tag_one t tag h.0 h.1)

pub own_of : (s : Shape) (tag own_tag : Tag) (rest : Bool) → is_own s own_tag && rest ≡ true → tag ≡ own_tag → HasOwn tag s
own_of s tag own_tag rest e f = own_tag_is s own_tag (both_true (is_own s own_tag) rest e).0 ∙ ap Some (sym f)

-- ---- a component at its place

from_less : (k : ℕ) (cs : List Component) → AreFrom (suc k) cs → AreFrom k cs
from_less k [] h = tt
from_less k (c ∷ cs) h = (omega (arith, h.0), from_less k cs h.1)

comes_then : (c d e : Component) → ComesBefore c d → ComesBefore d e → ComesBefore c e
comes_then c d e (inl h) (inl k) = inl (below_trans c.tag d.tag e.tag h k)
comes_then c d e (inl h) (inr k) = inl (subst (IsTagBelow c.tag) k.0 h)
comes_then c d e (inr h) (inl k) = inl (subst (λ t. IsTagBelow t e.tag) (sym h.0) k)
comes_then c d e (inr h) (inr k) = inr (h.0 ∙ k.0, omega (arith, h.1, k.1))

before_then : (c d : Component) (es : List Component) → ComesBefore c d → IsBeforeAll ComesBefore d es → IsBeforeAll ComesBefore c es
before_then c d [] h k = tt
before_then c d (e ∷ es) h k = (comes_then c d e h k.0, before_then c d es h k.1)

before_more : (d c : Component) (front back : List Component) → ComesBefore d c → IsBeforeAll ComesBefore d (front ++ back) → IsBeforeAll ComesBefore d (front ++ (c ∷ back))
before_more d c [] back h k = (h, k)
before_more d c (e ∷ front) back h k = (k.0, before_more d c front back h k.1)

-- The component is among others, in the order of their tags.
record IsAmong (k : ℕ) (c : Component) (x : SetComponent) (xs : List SetComponent) (ds : List Component) : Type 0 where
  front : List Component
  back : List Component
  is : ds ≡ front ++ back
  held : Each IsHeldAs (with_component x xs) (front ++ (c ∷ back))
  order : AreInOrder ComesBefore (front ++ (c ∷ back))
  from : AreFrom k (front ++ (c ∷ back))

not_lower : (k : ℕ) (c d : Component) → c.number ≡ k → suc k ≤ d.number → (IsTagBelow d.tag c.tag → ⊥) → ComesBefore c d
not_lower k c d n m h = elim (below_or_same c.tag d.tag) [
  | inl l ↦ inl l
  | inr (inl l) ↦ absurd (h l)
  | inr (inr e) ↦ inr (e, omega arith)
]

among : (k : ℕ) (c : Component) (x : SetComponent) (xs : List SetComponent) (ds : List Component) → IsHeldAs x c → c.number ≡ k
    → Each IsHeldAs xs ds → AreInOrder ComesBefore ds → AreFrom (suc k) ds → IsAmong k c x xs ds
among k c x [] ds h n e o f = record { front = []; back = []; is = e; held = (c, [], refl, h, refl); order = (tt, tt); from = (omega arith, tt) }
among k c x (y ∷ xs) ds h n (d, more, e, r, m) o f = go (λ u v. among k c x xs more h n m u v) (is_tag_below y.tag x.tag) refl
  where
    o' : AreInOrder ComesBefore (d ∷ more)
    o' = subst (AreInOrder ComesBefore) e o

    f' : AreFrom (suc k) (d ∷ more)
    f' = subst (AreFrom (suc k)) e f

    go : (AreInOrder ComesBefore more → AreFrom (suc k) more → IsAmong k c x xs more) → (b : Bool) → is_tag_below y.tag x.tag ≡ b → IsAmong k c x (y ∷ xs) ds
    go further true t =
        let w = further o'.1 f'.1 in
        let l : IsTagBelow d.tag c.tag = subst (λ a. IsTagBelow a c.tag) r.0 (subst (IsTagBelow y.tag) h.0 (is_below y.tag x.tag t)) in
        record {
          front = d ∷ w.front;
          back = w.back;
          is = e ∙ ap (λ l. d ∷ l) w.is;
          held = subst (λ (b : Bool). Each IsHeldAs (if b then y ∷ with_component x xs else x ∷ y ∷ xs) (d ∷ (w.front ++ (c ∷ w.back)))) (sym t) (d, w.front ++ (c ∷ w.back), refl, r, w.held);
          order = (before_more d c w.front w.back (inl l) (subst (IsBeforeAll ComesBefore d) w.is o'.0), w.order);
          from = (omega (arith, f'.0), w.from);
        }
    go further false t =
        let l : ComesBefore c d = not_lower k c d n f'.0 (λ b. isnt_below y.tag x.tag t (subst (IsTagBelow y.tag) (sym h.0) (subst (λ a. IsTagBelow a c.tag) (sym r.0) b))) in
        record {
          front = [];
          back = d ∷ more;
          is = e;
          held = subst (λ (b : Bool). Each IsHeldAs (if b then y ∷ with_component x xs else x ∷ y ∷ xs) (c ∷ d ∷ more)) (sym t) (c, d ∷ more, refl, h, (d, more, refl, r, m));
          order = ((l, before_then c d more l o'.0), o');
          from = (omega arith, (omega (arith, f'.0), from_less k more f'.1));
        }

held_more : (k : ℕ) (c : Component) (x : SetComponent) (cs : List Component) (xs : List SetComponent) → IsHeldAs x c → c.number ≡ k → HoldsInOrder (suc k) cs xs → HoldsInOrder k (c ∷ cs) (with_component x xs)
held_more k c x cs xs h n q =
    let a = among k c x xs q.sorted h n q.held q.order q.from in record {
      sorted = a.front ++ (c ∷ a.back);
      held = a.held;
      reordered = (a.front, a.back, refl, subst (IsReordered cs) a.is q.reordered);
      order = a.order;
      from = a.from;
    }

held_less : (k : ℕ) (cs : List Component) (xs : List SetComponent) → HoldsInOrder (suc k) cs xs → HoldsInOrder k cs xs
held_less k cs xs q = record { sorted = q.sorted; held = q.held; reordered = q.reordered; order = q.order; from = from_less k q.sorted q.from }

-- The components before this number have tags below this one.
pub record IsPlaceFrom (tag : Tag) (xs : List SetComponent) (at : ℕ) : Type 0 where
  pub within : at ≤ length xs
  pub is : (x : SetComponent) → x.tag ≡ tag → with_component x xs ≡ take at xs ++ with_component x (drop at xs)

pub place_start : (tag : Tag) (xs : List SetComponent) → IsPlaceFrom tag xs 0
place_start tag xs = record { within = omega arith; is = λ x e. refl }

-- A component whose tag is below is passed.
passes : (x y : SetComponent) (ys : List SetComponent) → IsTagBelow y.tag x.tag → with_component x (y ∷ ys) ≡ y ∷ with_component x ys
passes x y ys b = go (is_tag_below y.tag x.tag) refl
  where
    go : (t : Bool) → is_tag_below y.tag x.tag ≡ t → (if t then y ∷ with_component x ys else x ∷ y ∷ ys) ≡ y ∷ with_component x ys
    go true e = refl
    go false e = absurd (isnt_below y.tag x.tag e b)

stops : (x y : SetComponent) (ys : List SetComponent) → (IsTagBelow y.tag x.tag → ⊥) → with_component x (y ∷ ys) ≡ x ∷ y ∷ ys
stops x y ys b = go (is_tag_below y.tag x.tag) refl
  where
    go : (t : Bool) → is_tag_below y.tag x.tag ≡ t → (if t then y ∷ with_component x ys else x ∷ y ∷ ys) ≡ x ∷ y ∷ ys
    go true e = absurd (b (is_below y.tag x.tag e))
    go false e = refl

dropped_is : (xs : List SetComponent) (at : ℕ) (y : SetComponent) → at < length xs → y ≡ get_or xs at y → drop at xs ≡ y ∷ drop (suc at) xs
dropped_is xs at y h e = drop-cons xs at y h ∙ ap (λ z. z ∷ drop (suc at) xs) (sym e)

pub place_more : (tag : Tag) (xs : List SetComponent) (at : ℕ) (y : SetComponent) → IsPlaceFrom tag xs at → at < length xs → y ≡ get_or xs at y → IsTagBelow y.tag tag → IsPlaceFrom tag xs (at + 1)
place_more tag xs at y p h e b = record {
  within = omega arith;
  is = λ x f.
      let i : with_component x (drop at xs) ≡ y ∷ with_component x (drop (suc at) xs) = ap (with_component x) (dropped_is xs at y h e) ∙ passes x y (drop (suc at) xs) (subst (IsTagBelow y.tag) (sym f) b) in
      let j : take (suc at) xs ≡ take at xs ++ (y ∷ []) = take-suc xs at y h ∙ ap (λ z. take at xs ++ (z ∷ [])) (sym e) in
      let k : at + 1 ≡ suc at = omega arith in
      let l : take at xs ++ with_component x (drop at xs) ≡ take (suc at) xs ++ with_component x (drop (suc at) xs) =
      ap (λ l. take at xs ++ l) i ∙ (sym (append_assoc (take at xs) (y ∷ []) (with_component x (drop (suc at) xs))) ∙ ap (λ l. l ++ with_component x (drop (suc at) xs)) (sym j)) in
      p.is x f ∙ (l ∙ ap (λ n. take n xs ++ with_component x (drop n xs)) (sym k));
}

pub place_here : (tag : Tag) (xs : List SetComponent) (at : ℕ) (y : SetComponent) → IsPlaceFrom tag xs at → at < length xs → y ≡ get_or xs at y → (IsTagBelow y.tag tag → ⊥)
    → (x : SetComponent) → x.tag ≡ tag → insert xs at x ≡ with_component x xs
place_here tag xs at y p h e b x f =
    let d = dropped_is xs at y h e in
    let i : with_component x (drop at xs) ≡ x ∷ drop at xs =
    ap (with_component x) d ∙ (stops x y (drop (suc at) xs) (λ n. b (subst (IsTagBelow y.tag) f n)) ∙ ap (λ l. x ∷ l) (sym d)) in
    ap (λ l. take at xs ++ l) (sym i) ∙ sym (p.is x f)

pub place_end : (tag : Tag) (xs : List SetComponent) (at : ℕ) → IsPlaceFrom tag xs at → length xs ≤ at → (x : SetComponent) → x.tag ≡ tag → insert xs at x ≡ with_component x xs
place_end tag xs at p h x f =
    let d : drop at xs ≡ [] = all_dropped xs at h in
    let i : with_component x (drop at xs) ≡ x ∷ drop at xs = ap (with_component x) d ∙ ap (λ l. x ∷ l) (sym d) in
    ap (λ l. take at xs ++ l) (sym i) ∙ sym (p.is x f)
  where
    all_dropped : (xs : List SetComponent) (at : ℕ) → length xs ≤ at → drop at xs ≡ []
    all_dropped xs at h = grind (arith, common_steps)

-- ---- octets that begin with the own tag of their shape

string_begins : {X : Type 0} (rule : Codec) (writes : Writing (List X)) (size : ℕ) (inner tag : Tag) (xs : List X) (b : List ℕ) → WritesString rule writes size inner tag xs b → Begins b tag
string_begins rule writes size inner tag xs b (inl (s, c, w, d)) = definite_begins tag _ c b d
string_begins rule writes size inner tag xs b (inr (c, n, ps, bs, e, cut, each, d)) = cons_begins rule tag _ b d

in_begins : (which : Family) (rule : Codec) (kind : Kind) (tag : Tag) (t : Tree) (b : List ℕ) → WritesIn which rule kind tag t b → Begins b tag
in_begins plain_family rule kind tag t b (c, w, d) = definite_begins tag _ c b d
in_begins bit_family rule kind tag t b (bs, e, w) = string_begins rule _ 7992 _ tag bs b w
in_begins named_family rule kind tag t b (bs, e, m, w) = string_begins rule _ 7992 _ tag bs b w
in_begins text_family rule kind tag t b (octets, x, w) = string_begins rule _ 1000 _ tag octets b w

same_head : (s t : Tag) (b : List ℕ) → Some s ≡ Some t → Begins b s → Begins b t
same_head s t b e h = let f : s ≡ t = cc in subst (Begins b) f h

begins_own : (s : Shape) (rule : Codec) (tag : Tag) (t : Tree) (b : List ℕ) → own s ≡ Some tag → Bytes rule s t b → b ≢ [] → Begins b tag
unfolding Bytes
begins_own (leaf kind own bounds) rule tag t b e w n = same_head own tag b e (in_begins (family kind) rule kind own t b w.1)
begins_own (any None) rule tag t b e w n = cc
begins_own (any (Some own)) rule tag t b e (octets, f, inl h) n = absurd (n h.1)
begins_own (any (Some own)) rule tag t b e (octets, f, inr h) n = same_head own tag b e (cons_begins rule own octets b h.1)
begins_own (prefix own s) rule tag t b e (inner, w, d) n = same_head own tag b e (cons_begins rule own inner b d)
begins_own (choice ps) rule tag t b e w n = cc
begins_own (open_choice ps) rule tag t b e w n = cc
begins_own (option looked s) rule tag t b e (inl h) n = absurd (n h.1)
begins_own (option looked s) rule tag t b e (inr h) n = begins_own s rule tag t b e h.1 n
begins_own (seq own ps) rule tag t b e (ts, bs, f, w, d) n = same_head own tag b e (cons_begins rule own _ b d)
begins_own (set own ps) rule tag t b e (ts, bs, tags, f, w, o, m, l, d) n = same_head own tag b e (cons_begins rule own _ b d)
begins_own (sorted_set extensible own ps) rule tag t b e (ts, us, bs, cs, es, ds, f, w, c, u, r, o, d) n = same_head own tag b e (cons_begins rule own _ b d)
begins_own (list own s size) rule tag t b e (ts, bs, f, m, w, d) n = same_head own tag b e (cons_begins rule own _ b d)
begins_own (set_of own s size) rule tag t b e (ts, bs, f, m, w, o, d) n = same_head own tag b e (cons_begins rule own _ b d)
begins_own unknown rule tag t b e w n = cc

-- The own tag is the one first tag.
one_first : (s : Shape) (tag : Tag) → own s ≡ Some tag → IsFirst s tag × ((n : Tag) → IsFirst s n → n ≡ tag)
one_first (leaf kind own bounds) tag e = (cc, λ n h. cc)
one_first (any None) tag e = cc
one_first (any (Some own)) tag e = (cc, λ n h. cc)
one_first (prefix own s) tag e = (cc, λ n h. cc)
one_first (choice ps) tag e = cc
one_first (open_choice ps) tag e = cc
one_first (option looked s) tag e = one_first s tag e
one_first (seq own ps) tag e = (cc, λ n h. cc)
one_first (set own ps) tag e = (cc, λ n h. cc)
one_first (sorted_set extensible own ps) tag e = (cc, λ n h. cc)
one_first (list own s size) tag e = (cc, λ n h. cc)
one_first (set_of own s size) tag e = (cc, λ n h. cc)
one_first unknown tag e = cc

placed_own : (rule : Codec) (s : Shape) (tag : Tag) (t : Tree) (b : List ℕ) → own s ≡ Some tag → Bytes rule s t b → b ≢ [] → IsPlacedBy rule (IsFirst s) b tag
placed_own Ber s tag t b e w n = begins_own s Ber tag t b e w n
placed_own Cer s tag t b e w n = let f = one_first s tag e in (f.0, λ m h l. not_below_itself tag (subst (λ x. IsTagBelow x tag) (f.1 m h) l))
placed_own Der s tag t b e w n = begins_own s Der tag t b e w n

part_is : (p : Presence) (writes : Writing Tree) (t : Tree) (b : List ℕ) → WritesPart p writes t b → b ≢ [] → writes t b
part_is required writes t b w n = w
part_is (optional_by key) writes t b (inl h) n = absurd (n h.1)
part_is (optional_by key) writes t b (inr h) n = h.1
part_is addition writes t b (inl h) n = absurd (n h.1)
part_is addition writes t b (inr h) n = h.1
part_is (default_by key d) writes t b (inl h) n = absurd (n h.1)
part_is (default_by key d) writes t b (inr h) n = h.1

pub own_place : (rule : Codec) (p : Presence) (s : Shape) (tag : Tag) (t : Tree) (octets : List ℕ) → HasOwn tag s → WritesPart p (Bytes rule s) t octets → octets ≢ [] → IsPlacedBy rule (IsFirst s) octets tag
own_place rule p s tag t octets o w m = placed_own rule s tag t octets o (part_is p (Bytes rule s) t octets w m) m

-- Where a CHOICE is: under CER where its least first tag is, otherwise where the tag is that its octets begin with.
pub places_of_choice : (rule : Codec) (least : Tag) (octets : List ℕ) (o : Option Tag) → (rule ≡ Cer → o ≡ Some least) → ((rule ≡ Cer → ⊥) → MatchOption o ((tag : Tag) → Begins octets tag → ⊥) (Begins octets))
    → MatchOption o ((s : Shape) (tag : Tag) → HasLeast least s → IsPlacedBy rule (IsFirst s) octets tag → ⊥) (λ tag. (s : Shape) → HasLeast least s → IsPlacedBy rule (IsFirst s) octets tag)
places_of_choice Ber least octets None c b = λ s tag h k. b (λ e. cc) tag k
places_of_choice Ber least octets (Some tag) c b = λ s h. b (λ e. cc)
places_of_choice Cer least octets None c b = let e = c refl in cc
places_of_choice Cer least octets (Some tag) c b = let e = c refl in let f : least ≡ tag = cc in λ s h. subst (λ z. IsPlacedBy Cer (IsFirst s) octets z) f h
places_of_choice Der least octets None c b = λ s tag h k. b (λ e. cc) tag k
places_of_choice Der least octets (Some tag) c b = λ s h. b (λ e. cc)

-- A vector without octets, by its length.
pub no_octets : (l : List ℕ) (n : ℕ) (b : Bool) → n ≡ length l → b ≡ nat_eq n 0 → b ≡ true → l ≡ []
no_octets [] n b e f g = refl
no_octets (x ∷ l) n b e f g = let k : n ≡ 0 = grind (arith, nat_tests) in absurd (omega (arith, e, k))

pub some_octets : (l : List ℕ) (n : ℕ) (b : Bool) → n ≡ length l → b ≡ nat_eq n 0 → b ≡ false → l ≢ []
some_octets l n b e f g h =
    let k : n ≡ 0 = e ∙ ap length h in
    grind (arith, nat_tests)

-- ---- one part and those after it

tree_more : (extensible : Bool) (t tree : Tree) (ts us : List Tree) → IsSetTree extensible ts us tree → IsSetTree extensible (t ∷ ts) us (joined t tree)
tree_more true t tree ts us e = ap (joined t) e
tree_more false t tree ts us e = (e.0, ap (joined t) e.1)

tree_less : (extensible : Bool) (t tree x : Tree) (ts us : List Tree) → IsSetTree extensible (x ∷ ts) us (joined t tree) → (x ≡ t) × IsSetTree extensible ts us tree
tree_less true t tree x ts us e = (cc, cc)
tree_less false t tree x ts us (n, e) = (cc, (n, cc))

module _ (extensible : Bool) (p : Presence) (s : Shape) (ps : Parts) (t tree : Tree) (rule : Codec) (xs : List SetComponent) (q : HoldsParts extensible ps tree rule xs) where
  pub holds_absent : WritesPart p (Bytes rule s) t [] → HoldsParts extensible (part p s ps) (joined t tree) rule xs
  unfolding fields_of
  holds_absent w = record {
    trees = t ∷ q.trees;
    unknowns = q.unknowns;
    is = tree_more extensible t tree q.trees q.unknowns q.is;
    encoded = [] ∷ q.encoded;
    written = (t, q.trees, [], q.encoded, refl, refl, w, q.written);
    holds = λ k n e.
        let h = q.holds (suc k) n (omega (arith, e)) in
        (h.0, h.1, h.2, h.3, held_less k (h.0 ++ h.1) xs h.4);
  }

  pub holds_present : (tag : Tag) (octets : List ℕ) (x : SetComponent) → IsPlacedBy rule (IsFirst s) octets tag → WritesPart p (Bytes rule s) t octets → octets ≢ [] → x.tag ≡ tag → x.octets.items ≡ octets
      → HoldsParts extensible (part p s ps) (joined t tree) rule (with_component x xs)
  unfolding fields_of
  holds_present tag [] x o w m e f = absurd (m refl)
  holds_present tag (b ∷ l) x o w m e f = record {
    trees = t ∷ q.trees;
    unknowns = q.unknowns;
    is = tree_more extensible t tree q.trees q.unknowns q.is;
    encoded = (b ∷ l) ∷ q.encoded;
    written = (t, q.trees, b ∷ l, q.encoded, refl, refl, w, q.written);
    holds = λ k n i.
        let h = q.holds (suc k) n (omega (arith, i)) in
        let c : Component = record { tag = tag; number = k; octets = b ∷ l } in
        (c ∷ h.0, h.1, (tag, h.0, refl, o, h.2), h.3, held_more k c x (h.0 ++ h.1) xs (e, f) refl h.4);
  }

module _ (extensible : Bool) (p : Presence) (s : Shape) (ps : Parts) (t tree : Tree) (rule : Codec) where
  pub first_lacks : NoEncodingOfPart p rule s t → HaveNoPlaces extensible (part p s ps) (joined t tree) rule
  unfolding fields_of
  first_lacks h = record {
    none = λ trees unknowns encoded k n cs es is (x, us, b, bs, e, f, w, ws) c u.
        let i = tree_less extensible t tree x us unknowns (subst (λ l. IsSetTree extensible l unknowns (joined t tree)) e is) in
        h.none b (subst (λ y. WritesPart p (Bytes rule s) y b) i.0 w);
  }

  -- The part is written, and has no place in the order of tags.
  pub place_lacks : (octets : List ℕ) → WritesPart p (Bytes rule s) t octets → octets ≢ [] → ((tag : Tag) → IsPlacedBy rule (IsFirst s) octets tag → ⊥)
      → HaveNoPlaces extensible (part p s ps) (joined t tree) rule
  unfolding fields_of
  place_lacks octets v some lacks = record {
    none = λ trees unknowns encoded k n cs es is (x, us, b, bs, e, f, w, ws) c u.
        let i = tree_less extensible t tree x us unknowns (subst (λ l. IsSetTree extensible l unknowns (joined t tree)) e is) in
        let w' : WritesPart p (Bytes rule s) t b = subst (λ y. WritesPart p (Bytes rule s) y b) i.0 w in
        let j : octets ∷ [] ≡ b ∷ [] = parts_one_writing (part p s none) rule (t ∷ []) (octets ∷ []) (b ∷ [])
        (t, [], octets, [], refl, refl, v, (refl, refl)) (t, [], b, [], refl, refl, w', (refl, refl)) in
        let m : octets ≡ b = cc in
        unplaced k b bs cs m (subst (λ l. ComponentsOf rule k (part p s ps) l cs) f c);
  }
    where
      unplaced : (k : ℕ) (b : List ℕ) (bs : List (List ℕ)) (cs : List Component) → octets ≡ b → ComponentsOf rule k (part p s ps) (b ∷ bs) cs → ⊥
      unplaced k [] bs cs m c = some m
      unplaced k (o ∷ b) bs cs m (tag, more, e, placed, c) = lacks tag (subst (λ l. IsPlacedBy rule (IsFirst s) l tag) (sym m) placed)

  components_less : (k : ℕ) (b : List ℕ) (bs : List (List ℕ)) (cs : List Component) → ComponentsOf rule k (part p s ps) (b ∷ bs) cs → (more : List Component) × ComponentsOf rule (suc k) ps bs more
  components_less k [] bs cs c = (cs, c)
  components_less k (o ∷ b) bs cs (tag, more, e, placed, c) = (more, c)

  pub others_lack : HaveNoPlaces extensible ps tree rule → HaveNoPlaces extensible (part p s ps) (joined t tree) rule
  unfolding fields_of
  others_lack h = record {
    none = λ trees unknowns encoded k n cs es is (x, us, b, bs, e, f, w, ws) c u.
        let i = tree_less extensible t tree x us unknowns (subst (λ l. IsSetTree extensible l unknowns (joined t tree)) e is) in
        let d = components_less k b bs cs (subst (λ l. ComponentsOf rule k (part p s ps) l cs) f c) in
        h.none us unknowns bs (suc k) n d.0 es i.1 ws d.1 u;
  }

-- ---- a part alone

alone_part : (p : Presence) (s : Shape) (t : Tree) (rule : Codec) (octets : List ℕ) → IsWrittenAlone (part p s none) (joined t done) rule octets → WritesPart p (Bytes rule s) t octets
unfolding fields_of
alone_part p s t rule octets q = go q.wrote.trees q.wrote.encoded q.wrote.is q.wrote.written (q.is ∙ ap (λ (v : View). v.last.octets) q.wrote.appended)
  where
    go : (ts : List Tree) (bs : List (List ℕ)) → joined t done ≡ items ts → PartsWritten (fields_of rule (part p s none)) ts bs → octets ≡ joined_lists bs → WritesPart p (Bytes rule s) t octets
    go ts bs is (x, us, b, cs, e, f, w, (g, h)) o =
        let i : joined t done ≡ joined x (items us) = is ∙ ap items e in
        let j : x ≡ t = cc in
        let k : octets ≡ b = o ∙ (ap joined_lists (f ∙ ap (λ l. b ∷ l) h) ∙ append-nil b) in
        subst (λ y. WritesPart p (Bytes rule s) y octets) j (subst (WritesPart p (Bytes rule s) x) (sym k) w)

module _ (p : Presence) (s : Shape) (t : Tree) (Known : Shape → Type 0) (alone : Parts) (tree : Tree) (i : IsPartAlone Known p s t alone tree) (rule : Codec) where
  pub part_written : (octets : List ℕ) → IsWrittenAlone alone tree rule octets → WritesPart p (Bytes rule s) t octets
  part_written octets q = alone_part p s t rule octets
      (subst (λ z. IsWrittenAlone (part p s none) z rule octets) i.tree_is (subst (λ z. IsWrittenAlone z tree rule octets) i.parts q))

  lacks_part : NoEncodingOfParts rule (part p s none) (joined t done) → NoEncodingOfPart p rule s t
  unfolding fields_of
  lacks_part n = record { none = λ octets w. n.none (t ∷ []) (octets ∷ []) refl (t, [], octets, [], refl, refl, w, (refl, refl)) }

  pub part_fails : (extensible : Bool) (ps : Parts) (others : Tree) (e : EncodeError) → EncodePartsFails alone tree (started rule false) e → FailsAtComponents extensible (part p s ps) (joined t others) rule e
  part_fails extensible ps others e q = elim q.why [
    | inl m ↦ inl m
    | inr (inl n) ↦ inr (first_lacks extensible p s ps t others rule
        (lacks_part (subst (λ z. NoEncodingOfParts rule (part p s none) z) i.tree_is (subst (λ z. NoEncodingOfParts rule z tree) i.parts n))))
    | inr (inr n) ↦ absurd (n.keeps refl)
  ]

  pub others_fail : (extensible : Bool) (ps : Parts) (others : Tree) (e : EncodeError) → FailsAtComponents extensible ps others rule e → FailsAtComponents extensible (part p s ps) (joined t others) rule e
  others_fail extensible ps others e (inl m) = inl m
  others_fail extensible ps others e (inr n) = inr (others_lack extensible p s ps t others rule n)

alone : (p : Presence) (s : Shape) (t : Tree) (Known : Shape → Type 0) → Known s → IsPartAlone Known p s t (part p s none) (joined t done)
alone p s t Known k = record { parts = refl; tree_is = refl; known = k }

-- An error of a part alone is one of the part.
errors_of_part : (rule : Codec) (p : Presence) (s : Shape) (t : Tree) (first others : EncodeError → Type 0) (e : EncodeError)
    → IsAllocErrorOr rule (IsErrorOfParts rule p s t (IsErrorOfParts rule p s t first (λ x. ⊥)) others) e → IsAllocErrorOr rule (IsErrorOfParts rule p s t first others) e
errors_of_part rule p s t first others e (inl m) = inl m
errors_of_part rule p s t first others e (inr (inl (inl h))) = inr (inl h)
errors_of_part rule p s t first others e (inr (inl (inr h))) = absurd h.2
errors_of_part rule p s t first others e (inr (inr h)) = inr (inr h)

pub errors_of_others : (rule : Codec) (p : Presence) (s : Shape) (t : Tree) (first others : EncodeError → Type 0) (octets : List ℕ) (e : EncodeError)
    → WritesPart p (Bytes rule s) t octets → IsAllocErrorOr rule others e → IsAllocErrorOr rule (IsErrorOfParts rule p s t first others) e
errors_of_others rule p s t first others octets e w (inl m) = inl m
errors_of_others rule p s t first others octets e w (inr h) = inr (inr (octets, w, h))

-- What is known of the call that writes a part and those after it, at the part itself.
module _ {A : Type 0} (p : Presence) (s : Shape) (t : Tree) (Known : Shape → Type 0) (extensible : Bool) (ps : Parts) (others : Tree) (rule : Codec) (known : Known s) where
  pub held_alone : (r : Result (Vec SetComponent A) EncodeError)
      → IfOk r (λ v. (q : Presence) (z : Shape) (w : Tree) → IsPartAlone Known q z w (part p s none) (joined t done) → HoldsParts extensible (part q z ps) (joined w others) rule v.items)
      → IfOk r (λ v. HoldsParts extensible (part p s ps) (joined t others) rule v.items)
  held_alone (Ok v) h = h p s t (alone p s t Known known)
  held_alone (Err e) h = tt

  pub fails_alone : (r : Result (Vec SetComponent A) EncodeError)
      → IfErr r (λ e. (q : Presence) (z : Shape) (w : Tree) → IsPartAlone Known q z w (part p s none) (joined t done) → FailsAtComponents extensible (part q z ps) (joined w others) rule e)
      → IfErr r (FailsAtComponents extensible (part p s ps) (joined t others) rule)
  fails_alone (Ok v) h = tt
  fails_alone (Err e) h = h p s t (alone p s t Known known)

module _ {A : Type 0} (p : Presence) (s : Shape) (t : Tree) (Known : Shape → Type 0) (rule : Codec) (first rest : EncodeError → Type 0) (known : Known s) where
  pub errors_alone : (r : Result (Vec SetComponent A) EncodeError)
      → IfErr r (λ e. (q : Presence) (z : Shape) (w : Tree) → IsPartAlone Known q z w (part p s none) (joined t done)
      → IsAllocErrorOr rule (IsErrorOfParts rule q z w (IsErrorOfParts rule p s t first (λ x. ⊥)) rest) e)
      → IfErr r (IsAllocErrorOr rule (IsErrorOfParts rule p s t first rest))
  errors_alone (Ok v) h = tt
  errors_alone (Err e) h = errors_of_part rule p s t first rest e (h p s t (alone p s t Known known))

  pub choice_errors_alone : (r : Result (Vec SetComponent A) EncodeError)
      → IfErr r (λ e. (q : Presence) (z : Shape) (w : Tree) → IsPartAlone Known q z w (part p s none) (joined t done)
      → IsAllocErrorOr rule (IsErrorOfParts rule q z w (λ x. IsErrorOfParts rule p s t first (λ y. ⊥) x ⊎ IsUntaggedInSetError rule x) rest) e)
      → IfErr r (IsAllocErrorOr rule (IsErrorOfParts rule p s t (λ x. first x ⊎ IsUntaggedInSetError rule x) rest))
  choice_errors_alone (Ok v) h = tt
  choice_errors_alone (Err e) h = go (h p s t (alone p s t Known known))
    where
      go : IsAllocErrorOr rule (IsErrorOfParts rule p s t (λ x. IsErrorOfParts rule p s t first (λ y. ⊥) x ⊎ IsUntaggedInSetError rule x) rest) e
          → IsAllocErrorOr rule (IsErrorOfParts rule p s t (λ x. first x ⊎ IsUntaggedInSetError rule x) rest) e
      go (inl m) = inl m
      go (inr (inl (inl (inl k)))) = inr (inl (inl k))
      go (inr (inl (inl (inr k)))) = absurd k.2
      go (inr (inl (inr k))) = inr (inl (inr k))
      go (inr (inr k)) = inr (inr k)

pub no_parts : (rule : Codec) → HoldsParts false none done rule []
unfolding fields_of
no_parts rule = record {
  trees = [];
  unknowns = [];
  is = (refl, refl);
  encoded = [];
  written = (refl, refl);
  holds = λ k n e. ([], [], refl, refl, record { sorted = []; held = refl; reordered = refl; order = tt; from = tt });
}

-- ---- unknown values

pub no_unknown : HoldsUnknown [] []
no_unknown = record { holds = λ n. ([], refl, record { sorted = []; held = refl; reordered = refl; order = tt; from = tt }) }

pub unknown_more : (v : List ℕ) (values : List (List ℕ)) (x : SetComponent) (xs : List SetComponent) → HoldsUnknown values xs → (x.octets.items ≡ v) × Begins v x.tag → HoldsUnknown (v ∷ values) (with_component x xs)
unknown_more v values x xs q (e, b) = record {
  holds = λ n.
      let h = q.holds (suc n) in
      let c : Component = record { tag = x.tag; number = n; octets = v } in
      (c ∷ h.0, (x.tag, v, h.0, refl, b, refl, h.1), held_more n c x h.0 xs (refl, e) refl h.2);
}

-- ---- and sorted

abbrev pub is_below_in : SetComponent → SetComponent → Bool
is_below_in x y = is_tag_below x.tag y.tag

not_below : (s t : Tag) → (IsTagBelow s t → ⊥) → is_tag_below s t ≡ false
not_below s t n = go (is_tag_below s t) refl
  where
    go : (b : Bool) → is_tag_below s t ≡ b → is_tag_below s t ≡ false
    go true q = absurd (n (is_below s t q))
    go false q = q

pub tags_order : IsStrictWeakOrder is_below_in
tags_order = record {
  one_way = λ x y e. not_below y.tag x.tag (λ l. not_below_itself x.tag (below_trans x.tag y.tag x.tag (is_below x.tag y.tag e) l));
  chain = λ x y z e f. not_below x.tag z.tag (λ l. elim (below_or_same x.tag y.tag) [
    | inl m ↦ isnt_below x.tag y.tag e m
    | inr (inl m) ↦ isnt_below y.tag z.tag f (below_trans y.tag x.tag z.tag m l)
    | inr (inr q) ↦ isnt_below y.tag z.tag f (subst (λ t. IsTagBelow t z.tag) q l)
  ]);
}

with_is : (x : SetComponent) (ys : List SetComponent) → with_component x ys ≡ inserted is_below_in x ys
with_is x [] = refl
with_is x (y ∷ ys) = ap (λ z. if is_tag_below y.tag x.tag then y ∷ z else x ∷ y ∷ ys) (with_is x ys)

held_by_insertion : (values : List (List ℕ)) (xs : List SetComponent) → Each IsUnknown values xs → HoldsUnknown values (by_insertion is_below_in xs)
held_by_insertion [] xs e = subst (λ l. HoldsUnknown [] (by_insertion is_below_in l)) (sym e)
    (record { holds = λ n. ([], refl, record { sorted = []; held = refl; reordered = refl; order = tt; from = tt }) })
held_by_insertion (v ∷ values) xs (x, more, e, r, others) = subst (λ l. HoldsUnknown (v ∷ values) (by_insertion is_below_in l)) (sym e)
    (subst (HoldsUnknown (v ∷ values)) (with_is x (by_insertion is_below_in more)) (unknown_more v values x (by_insertion is_below_in more) (held_by_insertion values more others) r))

-- What a stable sort makes of the values is held in the order of their tags.
pub held_sorted : (values : List (List ℕ)) (xs ys : List SetComponent) → Each IsUnknown values xs → IsSortedBy is_below_in ys → IsStableBy is_below_in xs ys → HoldsUnknown values ys
held_sorted values xs ys e a s = subst (HoldsUnknown values) (sym (sorted_is is_below_in tags_order xs ys a s)) (held_by_insertion values xs e)

pub lack_at : (values : List (List ℕ)) (k : ℕ) (v : List ℕ) → k < length values → v ≡ get_or values k v → ((tag : Tag) → Begins v tag → ⊥) → LackTag values
lack_at [] k v h e n = absurd (omega (arith, h))
lack_at (w ∷ values) zero v h e n = inl (subst (λ l. (tag : Tag) → Begins l tag → ⊥) e n)
lack_at (w ∷ values) (suc k) v h e n = inr (lack_at values k v (omega (arith, h)) e n)

pub unknown_parts : (values : List (List ℕ)) (rule : Codec) (xs : List SetComponent) → HoldsUnknown values xs → HoldsParts true none (joined (items (map numbers values)) done) rule xs
unfolding fields_of
unknown_parts values rule xs q = record {
  trees = [];
  unknowns = map numbers values;
  is = refl;
  encoded = [];
  written = (refl, refl);
  holds = λ k n e.
      let h = q.holds n in
      let f : n ≡ k = omega (arith, e) in
      ([], h.0, refl, h.1, subst (λ z. HoldsInOrder z h.0 xs) f h.2);
}

lack_places : (values : List (List ℕ)) (n : ℕ) (es : List Component) → LackTag values → UnknownComponents n (map numbers values) es → ⊥
lack_places [] n es h u = h
lack_places (v ∷ values) n es (inl h) (tag, b, more, e, begins, f, u) =
    let i : b ≡ v = cc in
    h tag (subst (λ l. Begins l tag) i begins)
lack_places (v ∷ values) n es (inr h) (tag, b, more, e, begins, f, u) = lack_places values (suc n) more h u

pub unknown_lack : (values : List (List ℕ)) (rule : Codec) → LackTag values → HaveNoPlaces true none (joined (items (map numbers values)) done) rule
unfolding fields_of
unknown_lack values rule h = record {
  none = λ trees unknowns encoded k n cs es is (e, f) c u.
      let i : joined (items (map numbers values)) done ≡ joined (items unknowns) done = is ∙ ap (λ (ts : List Tree). items (ts ++ (items unknowns ∷ []))) e in
      let j : items unknowns ≡ items (map numbers values) = cc in
      lack_places values n es h (subst (λ us. UnknownComponents n us es) (items_one unknowns (map numbers values) j) u);
}

pub unknown_held : {A : Type 0} (r : Result (Vec SetComponent A) EncodeError) (values given : List (List ℕ)) (rule : Codec) → given ≡ values → IfOk r (λ v. HoldsUnknown given v.items)
    → IfOk r (λ v. HoldsParts true none (joined (items (map numbers values)) done) rule v.items)
unknown_held (Ok v) values given rule e h = unknown_parts values rule v.items (subst (λ l. HoldsUnknown l v.items) e h)
unknown_held (Err x) values given rule e h = tt

pub unknown_fails : {A : Type 0} (r : Result (Vec SetComponent A) EncodeError) (values given : List (List ℕ)) (rule : Codec) → given ≡ values
    → IfErr r (λ e. IsAllocError rule e ⊎ (IsUntaggedInSetError rule e × LackTag given)) → IfErr r (FailsAtComponents true none (joined (items (map numbers values)) done) rule)
unknown_fails (Ok v) values given rule e h = tt
unknown_fails (Err x) values given rule e (inl m) = inl (ap (λ (y : EncodeError). y.kind) m)
unknown_fails (Err x) values given rule e (inr h) = inr (unknown_lack values rule (subst LackTag e h.1))

-- ---- the whole

pub contents_held : (xs : List SetComponent) (ds : List Component) → Each IsHeldAs xs ds → joined_lists (octets_in xs) ≡ contents_of ds
contents_held [] ds e = rw e refl
contents_held (x ∷ xs) ds (d, more, e, r, m) = rw e (ap₂ ◌++◌ r.1 (contents_held xs more m))

module _ (extensible : Bool) (tag : Tag) (ps : Parts) (tree : Tree) (v : View) where
  set_bytes : (xs : List SetComponent) → HoldsParts extensible ps tree v.rule xs → (octets : List ℕ) → ConstructedEncoding v.rule tag (joined_lists (octets_in xs)) octets
      → Bytes v.rule (sorted_set extensible tag ps) tree octets
  unfolding Bytes
  set_bytes xs q octets d =
      let h = q.holds 0 (count ps) (omega arith) in (
        q.trees,
        q.unknowns,
        q.encoded,
        h.0,
        h.1,
        h.4.sorted,
        q.is,
        q.written,
        h.2,
        h.3,
        h.4.reordered,
        h.4.order,
        subst (λ l. ConstructedEncoding v.rule tag l octets) (contents_held xs h.4.sorted h.4.held) d,
      )

  pub sorted_ok : (xs : List SetComponent) (w : View) (r : Result (Unit {0}) EncodeError) → HoldsParts extensible ps tree v.rule xs
      → OnOk r (Appends (ConstructedEncoding v.rule tag (joined_lists (octets_in xs))) tag v w) → OnOk r (AppendsEncoding (sorted_set extensible tag ps) tree v w)
  unfolding IsUntaggedOpen
  sorted_ok xs w r q h = on_ok_weaker r (λ a.
      encoded_one (ConstructedEncoding v.rule tag (joined_lists (octets_in xs))) tag (sorted_set extensible tag ps) tree v w a (λ n. n)
      (λ o d. cons_begins v.rule tag (joined_lists (octets_in xs)) o d) (set_bytes xs q)) h

  pub sorted_refused : (e : EncodeError) → FailsAtComponents extensible ps tree v.rule e → EncodeFails (sorted_set extensible tag ps) tree v e
  unfolding Bytes
  sorted_refused e (inl m) = record { why = inl m }
  sorted_refused e (inr n) = record {
    why = inr (inl (record { none = λ octets (ts, us, bs, cs, es, ds, is, w, c, u, r, o, d). n.none ts us bs 0 (count ps) cs es is w c u }));
  }

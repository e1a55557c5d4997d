-- What is written of a carried tree is read back.
use Rattle.std.proofs.Common.{◌≡◌, ℕ, ◌-◌, ◌≤◌, ◌⊎◌, ◌≢◌, inl, inr, List, [], ◌∷◌, ◌++◌, Bool, true, false, Option, Some, None, refl, sym, ◌∙◌, subst, append-nil, append_assoc, ap}
use Rattle.std.proofs.lemmas.List.Sorted.{IsPermutation-refl}
use Rattle.rasn_types.specs.Tags.{Form, form, eoc, loose_form}
use Rattle.rasn_types.specs.declared.types.codec.Codec.{Codec}
use Rattle.rasn_types.specs.declared.types.codec.Codec.TheVariants.{Ber, Cer, Der}
use Rattle.rasn_types.specs.declared.types.tag.Tag.{Tag}
use Rattle.rasn_types.specs.Framing.{Frame, definite, Ended, CompleteEncoding, plain, CompleteEncodings, none, one_more}
use Rattle.rasn_types.specs.Shapes.{Tree, numbers, items, joined, set_elements, absent, Admits, Shape, leaf, any, prefix, choice, open_choice, option, seq, set, sorted_set, list, set_of, unknown, Parts, part, count, chosen, IsFirstOf, own, one_tag, required, presences, IsAlwaysPresent}
use Rattle.rasn_types.specs.declared.types.constraints.Bound.{Bound}
use Rattle.rasn_types.specs.Readings.{IsLeftOut, IsPresent, Reading, ReadsMany, ReadsFrom, ReadsSeq, ReadsSet, ReadsSortedSet}
use Rattle.rasn_types.specs.Contents.{joined_lists}
use Rattle.rasn_types.specs.Grammar.{Reads, parts_of, ReadsOpen, ReadsAny, ReadsList, ReadsSetOf}
use Rattle.rasn_types.specs.Bytes.{Same, ConstructedEncoding, Each, contents_of, Bytes, fields_of}
use Rattle.rasn_types.specs.Carried.{IsOneEncoding, AreUnknownValues, NoneTaken, IsWithinLimits, AreWithinLimits, EachOf, Carried}
use Rattle.rasn_types.specs.Lawful.{IsLawful, AreAlternatives, AreLawfulInOrder, AreLawfulByTag, AreComponents}
use Rattle.rasn_types.proofs.Headers.Frames.{frame_next, not_ended}
use Rattle.rasn.proofs.Included.IntoBer.{IsOptional, IsIn, many_in, solid_of}
use Rattle.rasn.proofs.ReadBack.Begins.{has_next_tag}
use Rattle.rasn.proofs.ReadBack.Constructed.{IsTail, tail_ended, IsReadAs, definite_back, closed_back, cons_back, EachReadBack, many_back}
use Rattle.rasn_types.proofs.SetOf.Same.{items_one, each_same, each_length}
use Rattle.rasn.proofs.ReadBack.Leaves.{leaf_back}
use Rattle.rasn.proofs.ReadBack.Parts.{EachTagged, AllRequired, is_there, IsBack, EachBack, UnknownBack, IsUnknownNext, EachBackInOrder, seq_back, none_within, none_written, choice_back}
use Rattle.rasn.proofs.ReadBack.Set.{Component, set_back}
use Rattle.rasn.proofs.ReadBack.SortedSet.{OpenComponent, sorted_set_back}
use Rattle.rasn.proofs.ReadBack.Unknown.{whole_frame, whole_octets, unknown_read}
use Rattle.rasn_types.proofs.SetTrees.{set_tree_one}

-- Octets in a constructed value of the tag.
enclosed_back : (rule : Codec) (tag : Tag) → tag ≢ eoc → (octets b rest : List ℕ) → CompleteEncodings rule octets → ConstructedEncoding rule tag octets b → ReadsOpen rule tag (b ++ rest) (numbers octets) rest
enclosed_back Ber tag one octets b rest w c = (true, octets, refl, (λ z. refl), inl (definite_back rest one c))
enclosed_back Cer tag one octets b rest w c = (true, octets, refl, (λ z. refl), inr (octets ++ (0 ∷ 0 ∷ rest), closed_back rest one c, w, refl))
enclosed_back Der tag one octets b rest w c = (true, octets, refl, (λ z. refl), inl (definite_back rest one c))

empty_frame : (rule : Form) (s : Tag) (b : Bool) (c : List ℕ) → Frame rule [] s b [] (definite c) → ⊥
empty_frame rule s b c f = not_ended false [] s (frame_next f) (inl refl)

open_back : (rule : Codec) (tag : Tag) → tag ≢ eoc → (depth : ℕ) → IsBack rule (any (Some tag)) depth
unfolding Reads parts_of Bytes fields_of IsWithinLimits
open_back rule tag one depth t b m (octets, e, inl (f, g)) =
    let h : m.octets ≡ [] = let i = m.is in cc in
    absurd (empty_frame loose_form m.tag m.bit m.contents (subst (λ l. Frame loose_form l m.tag m.bit [] (definite m.contents)) h m.frame))
open_back rule tag one depth t b m (octets, e, inr (f, c)) =
    let h : m.octets ≡ octets = let i = m.is in cc in
    let w : CompleteEncoding rule octets = subst (CompleteEncoding rule) h (plain m.tag m.bit m.contents (whole_frame rule m.frame)) in (
      t,
      subst (λ x. Same x x) (sym e) refl,
      λ rest closing. subst (λ x. ReadsOpen rule tag (b ++ rest) x rest) (sym e)
          (enclosed_back rule tag one octets b rest (one_more octets [] w none (sym (append-nil octets))) c),
    )

any_back : (rule : Codec) (depth : ℕ) → IsBack rule (any None) depth
unfolding Reads parts_of Bytes fields_of IsWithinLimits
any_back rule depth t b m e =
    let h : m.octets ≡ b = let i = m.is in cc in
    let w : CompleteEncoding rule b = subst (CompleteEncoding rule) h (plain m.tag m.bit m.contents (whole_frame rule m.frame)) in
    (t, subst (λ x. Same x x) (sym e) refl, λ rest closing. (b, e, w, refl))

abbrev pub AtAny : Codec → Shape → ℕ → Reading Tree
AtAny rule s depth input t rest = (c : Bool) → Reads rule s depth c input t rest

elements_back : (rule : Codec) (s : Shape) → IsAlwaysPresent s → (depth : ℕ) → IsBack rule s depth → (ts : List Tree) (bs : List (List ℕ))
    → EachOf (IsWithinLimits rule s depth) ts → Each (Bytes rule s) ts bs → EachReadBack Same (AtAny rule s depth) ts bs
elements_back rule s solid depth back [] bs m w = w
elements_back rule s solid depth back (t ∷ ts) bs (m, ms) (b, cs, e, w, ws) =
    let r = back t b m w in (
      b,
      cs,
      e,
      record {
        is = r.0;
        same = r.1;
        again = λ rest c. r.2 rest c;
        begins = λ rest. has_next_tag s solid rule depth true (b ++ rest) r.0 rest (r.2 rest true);
      },
      elements_back rule s solid depth back ts cs ms ws,
    )

from_in : {X : Type 0} (reads wide : Reading X) → IsIn reads wide → (input : List ℕ) (xs : List X) (rest : List ℕ) (bs : List (List ℕ))
    → ReadsFrom reads input xs rest bs → ReadsFrom wide input xs rest bs
from_in reads wide into input [] rest bs h = h
from_in reads wide into input (x ∷ xs) rest bs (b, more, middle, e, f, h, hs) = (b, more, middle, e, f, into input x middle h, from_in reads wide into middle xs rest more hs)

abbrev pub Elements : Codec → Shape → ℕ → List Tree → List (List ℕ) → Type 0
Elements rule s depth ts bs = (us : List Tree) × Each Same ts us × IsReadAs (λ c. ReadsMany (Reads rule s depth c) c) (joined_lists bs) us
    × ((c : Bool) (tail : List ℕ) → ReadsFrom (Reads rule s depth c) (joined_lists bs ++ tail) us tail bs)

elements : (rule : Codec) (s : Shape) → IsAlwaysPresent s → (depth : ℕ) → IsBack rule s depth → (ts us : List Tree) (bs : List (List ℕ)) → items us ≡ items ts
    → EachOf (IsWithinLimits rule s depth) us → Each (Bytes rule s) ts bs → Elements rule s depth ts bs
elements rule s solid depth back ts us bs e m w =
    let r = many_back Same (AtAny rule s depth) ts bs (elements_back rule s solid depth back ts bs (subst (EachOf (IsWithinLimits rule s depth)) (items_one us ts e) m) w) in (
      r.0,
      r.1,
      λ closing tail t. many_in (AtAny rule s depth) (Reads rule s depth closing) (λ i x o h. h closing) closing (joined_lists bs ++ tail) r.0 tail (r.2 closing tail t),
      λ c tail. from_in (AtAny rule s depth) (Reads rule s depth c) (λ i x o h. h c) (joined_lists bs ++ tail) r.0 tail bs (r.3 tail),
    )

list_back : (rule : Codec) (tag : Tag) → tag ≢ eoc → (s : Shape) (size : Option (Bound ℕ)) → IsAlwaysPresent s → (depth : ℕ) → IsBack rule s (depth - 2) → IsBack rule (list tag s size) depth
unfolding Reads parts_of Bytes fields_of IsWithinLimits
list_back rule tag one s size solid depth back t b (deep, us, e, ms) (ts, bs, f, within, ws, c) =
    go (elements rule s solid (depth - 2) back ts us bs (sym e ∙ f) ms ws)
  where
    go : Elements rule s (depth - 2) ts bs → (u : Tree) × Same t u × ((rest : List ℕ) (closing : Bool) → Reads rule (list tag s size) depth closing (b ++ rest) u rest)
    go (vs, alike, r, from) = (
      items vs,
      subst (λ x. Same x (items vs)) (sym f) (each_same ts vs alike),
      λ rest closing. (
        deep,
        cons_back rule tag one (joined_lists bs) b c (λ c. ReadsList size (Reads rule s (depth - 2) c) c) (items vs)
            (λ closing tail z. (vs, refl, subst (λ n. Admits ◌≤◌ size n) (sym (each_length Same ts vs alike)) within, r closing tail z)) rest,
      ),
    )

set_of_back : (rule : Codec) (tag : Tag) → tag ≢ eoc → (s : Shape) (size : Option (Bound ℕ)) → IsAlwaysPresent s → (depth : ℕ) → IsBack rule s (depth - 2) → IsBack rule (set_of tag s size) depth
unfolding Reads parts_of Bytes fields_of IsWithinLimits
set_of_back rule tag one s size solid depth back t b (deep, us, e, ms) (ts, bs, f, within, ws, order, c) =
    go (elements rule s solid (depth - 2) back ts us bs (set_elements_one us ts (sym e ∙ f)) ms ws)
  where
    set_elements_one : (us ts : List Tree) → set_elements (items us) ≡ set_elements (items ts) → items us ≡ items ts
    set_elements_one us ts e = cc

    go : Elements rule s (depth - 2) ts bs → (u : Tree) × Same t u × ((rest : List ℕ) (closing : Bool) → Reads rule (set_of tag s size) depth closing (b ++ rest) u rest)
    go (vs, alike, r, from) = (
      set_elements (items vs),
      subst (λ x. Same x (set_elements (items vs))) (sym f) (vs, vs, refl, IsPermutation-refl vs, each_same ts vs alike),
      λ rest closing. (
        deep,
        cons_back rule tag one (joined_lists bs) b c (λ c. ReadsSetOf rule size (Reads rule s (depth - 2) c) c) (set_elements (items vs))
            (λ closing tail z. (
              vs,
              refl,
              subst (λ n. Admits ◌≤◌ size n) (sym (each_length Same ts vs alike)) within,
              r closing tail z,
              λ y. (bs, from closing tail, order),
            )) rest,
      ),
    )

prefix_back : (rule : Codec) (tag : Tag) → tag ≢ eoc → (s : Shape) → IsAlwaysPresent s → (depth : ℕ) → IsBack rule s (depth - 1) → IsBack rule (prefix tag s) depth
unfolding Reads parts_of Bytes fields_of IsWithinLimits
prefix_back rule tag one s solid depth back t b (deep, m) (inner, w, c) =
    let r = back t inner m w in
    (r.0, r.1, λ rest closing. (deep, true, (λ z. refl), cons_back rule tag one inner b c (λ c. Reads rule s (depth - 1) c) r.0 (λ closing tail z. r.2 tail closing) rest))

-- Unknown values, each of which is one encoding.
some_octets : (t : Tree) (m : IsOneEncoding t) → m.octets ≢ []
some_octets t m e = empty_frame loose_form m.tag m.bit m.contents (subst (λ l. Frame loose_form l m.tag m.bit [] (definite m.contents)) e m.frame)

unknown_next : (t : Tree) (us : List Tree) (ls : List (List ℕ)) → t ≡ items us → Each (λ u c. u ≡ numbers c) us ls → EachOf IsOneEncoding us → (closing : Bool) (tail : List ℕ) → IsTail closing tail
    → Ended closing (joined_lists ls ++ tail) ⊎ IsUnknownNext (part required unknown Parts.none) (t ∷ []) (joined_lists ls ++ tail)
unknown_next t [] ls e h m closing tail z = inl (subst (λ l. Ended closing (joined_lists l ++ tail)) (sym h) (tail_ended closing tail z))
unknown_next t (u ∷ us) ls e (b, cs, f, g, h) (m, ms) closing tail z =
    let k : m.octets ≡ b = let i = m.is in cc in
    inr (
      b,
      joined_lists cs ++ tail,
      inl (refl, items us, e ∙ ap (λ x. joined x (items us)) g),
      ap (λ l. joined_lists l ++ tail) f ∙ append_assoc b (joined_lists cs) tail,
      λ n. some_octets u m (k ∙ n),
    )

unknown_back : (rule : Codec) (depth : ℕ) → UnknownBack rule depth
unfolding Reads parts_of Bytes fields_of IsWithinLimits
unknown_back rule depth t b (us, e, ms) (ts, ls, f, ws, g) = go (elements rule (any None) tt depth (any_back rule depth) ts us ls (sym e ∙ f) ms ws)
  where
    each_within : EachOf IsOneEncoding ts
    each_within = subst (EachOf IsOneEncoding) (items_one us ts (sym e ∙ f)) ms

    go : Elements rule (any None) depth ts ls
        → (u : Tree) × Same t u × ((closing : Bool) (tail : List ℕ) → IsTail closing tail
        → Reads rule unknown depth closing (b ++ tail) u tail × (Ended closing (b ++ tail) ⊎ IsUnknownNext (part required unknown Parts.none) (t ∷ []) (b ++ tail)))
    go (vs, alike, r, from) = (
      items vs,
      subst (λ x. Same x (items vs)) (sym f) (each_same ts vs alike),
      λ closing tail z. (
        subst (λ i. ReadsList None (ReadsAny rule) closing (i ++ tail) (items vs) tail) (sym g) (vs, refl, tt, r closing tail z),
        subst (λ i. Ended closing (i ++ tail) ⊎ IsUnknownNext (part required unknown Parts.none) (t ∷ []) (i ++ tail)) (sym g) (unknown_next t ts ls f ws each_within closing tail z),
      ),
    )

in_seq_back : (rule : Codec) (tag : Tag) → tag ≢ eoc → (ps : Parts) (depth : ℕ) → AreLawfulInOrder ps → EachBackInOrder rule (depth - 1) ps → IsBack rule (seq tag ps) depth
unfolding Reads parts_of Bytes fields_of IsWithinLimits
in_seq_back rule tag one ps depth lawful back t b (deep, us, e, ms, taken) (ts, bs, f, ws, c) =
    let g : us ≡ ts = items_one us ts (sym e ∙ f) in
    let r = seq_back rule (depth - 1) (unknown_back rule (depth - 1)) ps lawful back ts bs (subst (AreWithinLimits rule ps (depth - 1)) g ms) (subst (NoneTaken rule ps) g taken) ws in (
      r.0,
      subst (λ x. Same x r.0) (sym f) r.1,
      λ rest closing. (
        deep,
        cons_back rule tag one (joined_lists bs) b c (λ c. ReadsSeq rule (parts_of rule ps (depth - 1) c) c) r.0 r.2 rest,
      ),
    )

in_set_back : (rule : Codec) (tag : Tag) → tag ≢ eoc → (ps : Parts) (depth : ℕ) → EachTagged ps → EachBack rule (depth - 1) ps → IsBack rule (set tag ps) depth
unfolding Reads parts_of Bytes fields_of IsWithinLimits
in_set_back rule tag one ps depth has back t b (deep, us, e, ms) (ts, bs, tags, f, ws, bare, firsts, order, c) =
    let g : us ≡ ts = items_one us ts (sym e ∙ f) in
    let r = set_back rule (depth - 1) ps has back ts bs tags (subst (AreWithinLimits rule ps (depth - 1)) g ms) ws firsts order in (
      r.0,
      subst (λ x. Same x r.0) (sym f) r.1,
      λ rest closing. (
        deep,
        cons_back rule tag one (joined_lists bs) b c (λ c. ReadsSet rule (presences ps) (Component rule (depth - 1) ps c) c) r.0 r.2 rest,
      ),
    )

in_sorted_set_back : (rule : Codec) (extensible : Bool) (tag : Tag) → tag ≢ eoc → (ps : Parts) (depth : ℕ) → EachTagged ps → EachBack rule (depth - 1) ps → IsBack rule (sorted_set extensible tag ps) depth
unfolding Reads parts_of Bytes fields_of IsWithinLimits
in_sorted_set_back rule extensible tag one ps depth has back t b (deep, vs, ws, tree', ms, others) (ts, us, bs, cs, es, ds, tree, w, m, n, p, order, c) =
    let g = set_tree_one extensible vs ws ts us t tree' tree in
    let r = sorted_set_back rule (depth - 1) extensible ps has back t ts us bs cs es ds tree (subst (AreWithinLimits rule ps (depth - 1)) g.0 ms) (subst (AreUnknownValues rule (IsFirstOf ps)) g.1 others) w m n p order in (
      r.0,
      r.1,
      λ rest closing. (
        deep,
        cons_back rule tag one (contents_of ds) b c (λ c. ReadsSortedSet rule extensible (presences ps) (count ps) (OpenComponent rule (depth - 1) ps c) c) r.0 r.2 rest,
      ),
    )

-- A CHOICE with an extension marker.
open_choice_back : (rule : Codec) (depth : ℕ) (ps : Parts) → EachTagged ps → AllRequired ps → EachBack rule depth ps → IsBack rule (open_choice ps) depth
unfolding Reads parts_of Bytes fields_of IsWithinLimits
open_choice_back rule depth ps has needed back t b (inl m) (inl w) =
    let r = choice_back rule depth ps has needed back 0 t b m w in (r.0, r.1, λ rest closing. inl (r.2 rest closing))
open_choice_back rule depth ps has needed back t b (inl m) (inr e) = absurd (none_within rule ps depth t (numbers b) e m)
open_choice_back rule depth ps has needed back t b (inr (u, e, m)) (inl w) = absurd (none_written rule ps t u b e w)
open_choice_back rule depth ps has needed back t b (inr (u, e, m)) (inr f) =
    let g : u ≡ numbers b = cc in (
      chosen (count ps) u,
      subst (λ x. Same x (chosen (count ps) u)) (sym e) (u, refl, subst (λ x. Same x x) (sym g) refl),
      λ rest closing. inr (unknown_read rule (IsFirstOf ps) (count ps) u b m g (whole_octets rule u b m.one g) rest),
    )

abbrev pub EachGood : Parts → Type 0
EachGood Parts.none = Unit {0}
EachGood (part presence s ps) = IsAlwaysPresent s × IsLawful s × EachGood ps

pub alternatives_good : (ps : Parts) → AreAlternatives ps → EachGood ps
unfolding IsLawful
alternatives_good Parts.none h = tt
alternatives_good (part presence s ps) h = (h.2, h.3, alternatives_good ps h.4)

-- The parts of a SEQUENCE are so, or unknown values.
abbrev pub EachGoodInOrder : Parts → Type 0
EachGoodInOrder Parts.none = Unit {0}
EachGoodInOrder (part presence s ps) = ((IsAlwaysPresent s × IsLawful s) ⊎ (s ≡ unknown)) × EachGoodInOrder ps

pub in_order_good : (ps : Parts) → AreLawfulInOrder ps → EachGoodInOrder ps
unfolding IsLawful
in_order_good Parts.none h = tt
in_order_good (part presence s ps) (inl h) = (inr h.1, subst EachGoodInOrder (sym h.2) tt)
in_order_good (part presence s ps) (inr h) = (inl (h.0, h.1), in_order_good ps h.3)

pub by_tag_good : (ps : Parts) → AreLawfulByTag ps → EachGood ps
unfolding IsLawful
by_tag_good Parts.none h = tt
by_tag_good (part presence s ps) h = (h.2, h.3, by_tag_good ps h.5)

alternatives_tagged : (ps : Parts) → AreAlternatives ps → EachTagged ps
unfolding IsLawful
alternatives_tagged Parts.none h = tt
alternatives_tagged (part presence s ps) h = (h.1, alternatives_tagged ps h.4)

alternatives_required : (ps : Parts) → AreAlternatives ps → AllRequired ps
unfolding IsLawful
alternatives_required Parts.none h = tt
alternatives_required (part presence s ps) h = (h.0, alternatives_required ps h.4)

by_tag_tagged : (ps : Parts) → AreLawfulByTag ps → EachTagged ps
unfolding IsLawful
by_tag_tagged Parts.none h = tt
by_tag_tagged (part presence s ps) h = (h.1, by_tag_tagged ps h.5)

pub components_good : (ps : Parts) → AreComponents ps → EachGood ps
unfolding IsLawful
components_good Parts.none h = tt
components_good (part presence s ps) h = (h.2, h.3, components_good ps h.4)

components_tagged : (ps : Parts) → AreComponents ps → EachTagged ps
unfolding IsLawful
components_tagged Parts.none h = tt
components_tagged (part presence s ps) h = (h.1, components_tagged ps h.4)

mutual
  unfolding Reads parts_of Bytes fields_of IsWithinLimits IsLawful

  pub back : (s : Shape) → IsAlwaysPresent s → IsLawful s → (rule : Codec) (depth : ℕ) → IsBack rule s depth
  back (leaf kind tag bounds) solid lawful rule depth = λ t b m w.
      let r = leaf_back rule kind tag bounds lawful.0 lawful.1 depth t b m w.0 w.1 in (r.0, r.1, λ rest closing. r.2 rest)
  back (any (Some tag)) solid lawful rule depth = open_back rule tag lawful depth
  back (any None) solid lawful rule depth = any_back rule depth
  back (prefix tag s) solid lawful rule depth = prefix_back rule tag lawful.0 s lawful.1 depth (back s lawful.1 lawful.2 rule (depth - 1))
  back (choice ps) solid lawful rule depth = λ t b m w. choice_back rule depth ps (alternatives_tagged ps lawful.0) (alternatives_required ps lawful.0) (each_back ps (alternatives_good ps lawful.0) rule depth) 0 t b m w
  back (open_choice ps) solid lawful rule depth =
      open_choice_back rule depth ps (alternatives_tagged ps lawful.0) (alternatives_required ps lawful.0) (each_back ps (alternatives_good ps lawful.0) rule depth)
  back (option tag s) solid lawful rule depth = absurd solid
  back (seq tag ps) solid lawful rule depth = in_seq_back rule tag lawful.0 ps depth lawful.1 (each_back_in_order ps (in_order_good ps lawful.1) rule (depth - 1))
  back (set tag ps) solid lawful rule depth = in_set_back rule tag lawful.0 ps depth (by_tag_tagged ps lawful.1) (each_back ps (by_tag_good ps lawful.1) rule (depth - 1))
  back (sorted_set extensible tag ps) solid lawful rule depth = in_sorted_set_back rule extensible tag lawful.0 ps depth (components_tagged ps lawful.1) (each_back ps (components_good ps lawful.1) rule (depth - 1))
  back (list tag s size) solid lawful rule depth = list_back rule tag lawful.0 s size lawful.1 depth (back s lawful.1 lawful.2 rule (depth - 2))
  back (set_of tag s size) solid lawful rule depth = set_of_back rule tag lawful.0 s size lawful.1 depth (back s lawful.1 lawful.2 rule (depth - 2))
  back unknown solid lawful rule depth = absurd solid

  each_back_in_order : (ps : Parts) → EachGoodInOrder ps → (rule : Codec) (depth : ℕ) → EachBackInOrder rule depth ps
  each_back_in_order Parts.none good rule depth = tt
  each_back_in_order (part presence s ps) (inl (solid, lawful), good) rule depth = (inl (solid, back s solid lawful rule depth), each_back_in_order ps good rule depth)
  each_back_in_order (part presence s ps) (inr e, good) rule depth = (inr e, each_back_in_order ps good rule depth)

  each_back : (ps : Parts) → EachGood ps → (rule : Codec) (depth : ℕ) → EachBack rule depth ps
  each_back Parts.none good rule depth = tt
  each_back (part presence s ps) good rule depth = (good.0, back s good.0 good.1 rule depth, each_back ps good.2 rule depth)

option_back : (tag : Option Tag) (s : Shape) → tag ≡ own s → IsAlwaysPresent s → IsLawful s → (rule : Codec) (depth : ℕ) (t : Tree) (b : List ℕ)
    → IsWithinLimits rule (option tag s) depth t → Bytes rule (option tag s) t b → (closing : Bool) → (u : Tree) × Same t u × Reads rule (option tag s) depth closing b u []
unfolding Reads parts_of Bytes fields_of IsWithinLimits
option_back tag s own solid lawful rule depth t b m (inl (e, f)) closing =
    (absent, subst (λ x. Same x absent) (sym e) refl, inl (subst (IsLeftOut (form rule) (one_tag tag) closing) (sym f) (nothing tag), refl, sym f))
  where
    nothing : (tag : Option Tag) → IsLeftOut (form rule) (one_tag tag) closing []
    nothing None = inl refl
    nothing (Some tag) = inl (inl refl)
option_back tag s own solid lawful rule depth t b (inl m) (inr w) closing = absurd (w.0 m)
option_back tag s own solid lawful rule depth t b (inr m) (inr w) closing =
    let r = back s solid lawful rule depth t b m w.1 in
    let h : Reads rule s depth closing b r.0 [] = subst (λ i. Reads rule s depth closing i r.0 []) (append-nil b) (r.2 [] closing) in
    (r.0, r.1, inr (subst (λ x. IsPresent (form rule) (one_tag x) closing b) (sym own) (is_there s solid rule depth closing b r.0 [] h), h))

optional_lawful : (tag : Option Tag) (s : Shape) → IsLawful (option tag s) → (tag ≡ own s) × IsAlwaysPresent s × IsLawful s
unfolding IsLawful
optional_lawful tag s h = h

-- What is written of a carried tree is read as one that is the same, with nothing left.
pub carried_back : (s : Shape) → IsLawful s → (rule : Codec) (t : Tree) (c : Carried rule s t) (closing : Bool)
    → (u : Tree) × Same t u × Reads rule s 128 closing c.octets u []
carried_back s lawful rule t c closing = go (solid_of s lawful)
  where
    go : IsAlwaysPresent s ⊎ IsOptional s → (u : Tree) × Same t u × Reads rule s 128 closing c.octets u []
    go (inl solid) =
        let r = back s solid lawful rule 128 t c.octets c.within_limits c.is in
        (r.0, r.1, subst (λ i. Reads rule s 128 closing i r.0 []) (append-nil c.octets) (r.2 [] closing))
    go (inr (tag, u, e, solid)) =
        let l = optional_lawful tag u (subst IsLawful e lawful) in
        let r = option_back tag u l.0 solid l.2 rule 128 t c.octets (subst (λ x. IsWithinLimits rule x 128 t) e c.within_limits) (subst (λ x. Bytes rule x t c.octets) e c.is) closing in
        (r.0, r.1, subst (λ x. Reads rule x 128 closing c.octets r.0 []) (sym e) r.2)

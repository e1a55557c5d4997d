-- What DER reads of a tree that owes no more is written of it: its octets need not be given.
use Rattle.std.proofs.Common.{◌≡◌, ℕ, suc, ◌+◌, ◌-◌, ◌<◌, ◌≤◌, ◌⊎◌, inl, inr, List, [], ◌∷◌, ◌++◌, length, Bool, true, false, Option, Some, None, refl, sym, ap, ◌∙◌, subst, arith, append_assoc, append-nil}
use Rattle.std.proofs.lemmas.List.{append_cancel_right}
use Rattle.rasn_types.specs.Tags.{loose_form, IsTagBelow}
use Rattle.rasn_types.specs.declared.types.codec.Codec.TheVariants.{Der}
use Rattle.rasn_types.specs.declared.types.tag.Tag.{Tag}
use Rattle.rasn_types.specs.Framing.{AreOctets, Begins, Frame, definite}
use Rattle.rasn_types.specs.Shapes.{Tree, items, IsSetTree, set_elements, chosen, Admits, Shape, leaf, any, prefix, choice, open_choice, option, seq, set, sorted_set, list, set_of, unknown, Parts, part, count, own, IsFirst, IsFirstOf, Presence, presences, required, addition, optional_by, default_by, Sought, sought_in}
use Rattle.rasn_types.specs.declared.types.constraints.Bound.{Bound}
use Rattle.rasn_types.specs.Shapes.Parts.{none}
use Rattle.rasn_types.specs.Readings.{Reading, ReadsContents, definite_form, indefinite_form, ReadsMany, ReadsFrom, IsNoDefault, ReadsPart, ReadsInOrder, IsMissing, AllMissing, presences_in, ReadsChoice, NoneOf, OneOf, ByPart, AllOf}
use Rattle.rasn_types.specs.Order.{Each, IsLess, AreAscending, AreInOrder, IsReordered}
use Rattle.rasn_types.specs.Contents.{joined_lists}
use Rattle.rasn_types.specs.Grammar.{Reads, parts_of, family}
use Rattle.rasn_types.specs.Bytes.{Same, DefiniteForm, WritesPart, PartsWritten, WritesChoice, TagsOf, NoneUntaggedOpen, Component, ComponentsOf, UnknownComponents, ComesBefore, contents_of, IsUntaggedOpen, Bytes, fields_of}
use Rattle.rasn_types.specs.Carried.{EachOf, IsWithinLimits}
use Rattle.rasn_types.specs.Lawful.{HasTag, AreDistinguished, IsLawful, AreLawfulByTag, AreComponents}
use Rattle.rasn_types.proofs.Headers.Frames.{frame_next, not_ended}
use Rattle.rasn_types.proofs.SetOf.Same.{items_one}
use Rattle.rasn_types.proofs.SetTrees.{set_tree_one}
use Rattle.rasn_types.proofs.Encoding.SameAsItself.{written_same, one_writing}
use Rattle.rasn_types.proofs.Encoding.Listed.{not_untagged}
use Rattle.rasn.proofs.ReadBack.Shapes.{EachGood, alternatives_good, EachGoodInOrder, in_order_good, by_tag_good, components_good}
use Rattle.rasn.proofs.LawsHold.Written.{one_reading, read_again}
use Rattle.rasn.proofs.StrictDer.Shapes.{there, unknown_there, set_elements_one}
use Rattle.rasn.proofs.StrictDer.Leaves.{tail_octets, framed, no_open, in_made}
use Rattle.rasn.proofs.StrictDer.Parts.{IsTold, IsNeverAbsent, nothing, other_read, none_read}
use Rattle.rasn.proofs.StrictDer.Set.{Components, first_is_next, behind, by_part_less, fewer}
use Rattle.rasn.proofs.TagOrder.{begins_some, joined_contents}
use Rattle.rasn.proofs.ReadBack.Reordered.{none_join, by_part_less as by_part_without}
use Rattle.rasn.proofs.StrictDer.SortedSet.{IsReadFrom, each_read, each_at, behind as left_behind, all_of_less, AreAmong, InReadOrder, read_later, put_in, read_in_order, first_read, rest_in_order}
use Rattle.rasn.proofs.ReadBack.Parts.{none_within}
use Rattle.rasn.proofs.StrictDer.Limits.{PartOwes, Owes, OwesParts, OwesChoice, other_owed, owed_meets, meets_owed, owes_like}
use Rattle.rasn.specs.Laws.{StrictDer, OnlyCarried, StaysCarried}

abbrev pub IsMade : Shape → ℕ → Type 0
IsMade s depth = (closing : Bool) (input : List ℕ) (t : Tree) (rest : List ℕ) → AreOctets input → Reads Der s depth closing input t rest → Owes s depth t
    → (b : List ℕ) × Bytes Der s t b × (input ≡ b ++ rest)

pub record Made (s : Shape) (depth : ℕ) : Type 0 where
  pub made : IsMade s depth
  pub there : IsNeverAbsent s depth
  pub not_untagged : HasTag s → (t : Tree) → IsUntaggedOpen s t → ⊥

abbrev pub EachMade : ℕ → Parts → Type 0
EachMade depth none = Unit {0}
EachMade depth (part presence s ps) = Made s depth × EachMade depth ps

missing_made : (s : Shape) (depth : ℕ) (presence : Presence) (t : Tree) → IsMissing presence t → PartOwes presence (Owes s depth) t
    → WritesPart presence (Bytes Der s) t []
missing_made s depth required t e m = absurd e
missing_made s depth (optional_by key) t e m = inl (e, refl)
missing_made s depth addition t e m = absurd (m.0 e)
missing_made s depth (default_by key d) t e (inl m) = inl (m, refl)
missing_made s depth (default_by key d) t e (inr m) = inl (m.1 e, refl)

-- A part, with the rest after it.
abbrev pub PartMade : Shape → Presence → List ℕ → Tree → List ℕ → Type 0
PartMade s presence input t rest = (b : List ℕ) × WritesPart presence (Bytes Der s) t b × (input ≡ b ++ rest)

next_made : (s : Shape) (depth : ℕ) → Made s depth → (presence : Presence) (closing : Bool) (input : List ℕ) (t : Tree) (rest : List ℕ) → AreOctets input
    → Reads Der s depth closing input t rest → IsNoDefault presence t → PartOwes presence (Owes s depth) t → PartMade s presence input t rest
next_made s depth k required closing input t rest o h n m = k.made closing input t rest o h m
next_made s depth k (optional_by key) closing input t rest o h n (inl m) = absurd (k.there closing input t rest h m)
next_made s depth k (optional_by key) closing input t rest o h n (inr m) = let r = k.made closing input t rest o h m in (r.0, inr (k.there closing input t rest h, r.1), r.2)
next_made s depth k addition closing input t rest o h n m = let r = k.made closing input t rest o h m.1 in (r.0, inr (m.0, r.1), r.2)
next_made s depth k (default_by key d) closing input t rest o h n (inl m) = absurd (n m)
next_made s depth k (default_by key d) closing input t rest o h n (inr m) = let r = k.made closing input t rest o h m.0 in (r.0, inr (n, r.1), r.2)

part_made : (s : Shape) (depth : ℕ) → Made s depth → (presence : Presence) (tags : Sought) (c closing : Bool) (input : List ℕ) (t : Tree) (rest : List ℕ) → AreOctets input
    → ReadsPart Der presence tags (Reads Der s depth c) closing input t rest → PartOwes presence (Owes s depth) t → PartMade s presence input t rest
part_made s depth k required tags c closing input t rest o h m = next_made s depth k required c input t rest o h tt m
part_made s depth k addition tags c closing input t rest o h m = next_made s depth k addition c input t rest o h tt m
part_made s depth k (optional_by key) tags c closing input t rest o (inl (p, q, r)) m = ([], missing_made s depth (optional_by key) t q m, sym r)
part_made s depth k (optional_by key) tags c closing input t rest o (inr (p, h)) m = next_made s depth k (optional_by key) c input t rest o h tt m
part_made s depth k (default_by key d) tags c closing input t rest o (inl (p, q, r)) m = ([], missing_made s depth (default_by key d) t q m, sym r)
part_made s depth k (default_by key d) tags c closing input t rest o (inr (p, (h, n))) m = next_made s depth k (default_by key d) c input t rest o h (n tt) m

abbrev pub PartsMade : Parts → List ℕ → List Tree → List ℕ → Type 0
PartsMade ps input ts rest = (bs : List (List ℕ)) × PartsWritten (fields_of Der ps) ts bs × (input ≡ joined_lists bs ++ rest)

in_order_made : (ps : Parts) (depth : ℕ) → EachMade depth ps → (c closing : Bool) (input : List ℕ) (ts : List Tree) (rest : List ℕ) → AreOctets input
    → ReadsInOrder Der (parts_of Der ps depth c) closing input ts rest → OwesParts ps depth ts → PartsMade ps input ts rest
unfolding Reads parts_of Bytes fields_of Owes
in_order_made none depth k c closing input ts rest o h m = ([], (h.0, refl), sym h.1)
in_order_made (part presence s ps) depth k c closing input ts rest o (t, us, middle, e, h, hs) (t', us', e', m, ms) =
    let p : t' ≡ t = let x : t' ∷ us' ≡ t ∷ us = sym e' ∙ e in cc in
    let q : us' ≡ us = let x : t' ∷ us' ≡ t ∷ us = sym e' ∙ e in cc in
    let a = part_made s depth k.0 presence (sought_in presence s) c closing input t middle o h (subst (PartOwes presence (Owes s depth)) p m) in
    let r = in_order_made ps depth k.1 c closing middle us rest (tail_octets input a.0 middle a.2 o) hs (subst (OwesParts ps depth) q ms) in
    (a.0 ∷ r.0, (t, us, a.0, r.0, e, refl, a.1, r.1), a.2 ∙ (ap (λ l. a.0 ++ l) r.2 ∙ sym (append_assoc a.0 (joined_lists r.0) rest)))

all_missing_made : (ps : Parts) (depth : ℕ) (c : Bool) (ts : List Tree) → AllMissing (presences_in (parts_of Der ps depth c)) ts → OwesParts ps depth ts
    → (bs : List (List ℕ)) × PartsWritten (fields_of Der ps) ts bs × (joined_lists bs ≡ [])
unfolding Reads parts_of Bytes fields_of Owes
all_missing_made none depth c ts h m = ([], (h, refl), refl)
all_missing_made (part presence s ps) depth c ts (t, us, e, h, hs) (t', us', e', m, ms) =
    let p : t' ≡ t = let x : t' ∷ us' ≡ t ∷ us = sym e' ∙ e in cc in
    let q : us' ≡ us = let x : t' ∷ us' ≡ t ∷ us = sym e' ∙ e in cc in
    let r = all_missing_made ps depth c us hs (subst (OwesParts ps depth) q ms) in
    ([] ∷ r.0, (t, us, [], r.0, e, refl, missing_made s depth presence t h (subst (PartOwes presence (Owes s depth)) p m), r.1), r.2)

choice_made : (ps : Parts) (depth : ℕ) → EachMade depth ps → (k : ℕ) (c : Bool) (input : List ℕ) (t : Tree) (rest : List ℕ) → AreOctets input
    → ReadsChoice Der k (parts_of Der ps depth c) input t rest → OwesChoice k ps depth t → (b : List ℕ) × WritesChoice k (fields_of Der ps) t b × (input ≡ b ++ rest)
unfolding Reads parts_of Bytes fields_of Owes
choice_made none depth made k c input t rest o h m = absurd h
choice_made (part presence s ps) depth made k c input t rest o (inl (u, e, n, next, f, h, z)) (inl (x, i, m)) =
    let q : x ≡ u = cc in
    let r = made.0.made c input u rest o h (subst (Owes s depth) q m) in
    (r.0, inl (u, e, r.1), r.2)
choice_made (part presence s ps) depth made k c input t rest o (inl (u, e, n, next, f, h, z)) (inr m) = absurd (other_owed ps depth (suc k) k t u (omega arith) e m)
choice_made (part presence s ps) depth made k c input t rest o (inr h) (inl m) = absurd (other_read ps depth (suc k) k c input t m.0 rest (omega arith) m.1 h)
choice_made (part presence s ps) depth made k c input t rest o (inr h) (inr m) = let r = choice_made ps depth made.1 (suc k) c input t rest o h m in (r.0, inr r.1, r.2)

many_made : (s : Shape) (depth : ℕ) → IsMade s depth → (c closing : Bool) (input : List ℕ) (ts : List Tree) (rest : List ℕ) → AreOctets input
    → ReadsMany (Reads Der s depth c) closing input ts rest → EachOf (Owes s depth) ts → (bs : List (List ℕ)) × Each (Bytes Der s) ts bs × (input ≡ joined_lists bs ++ rest)
many_made s depth made c closing input [] rest o h m = ([], refl, sym h.1)
many_made s depth made c closing input (t ∷ ts) rest o (n, middle, h, hs) (m, ms) =
    let a = made c input t middle o h m in
    let r = many_made s depth made c closing middle ts rest (tail_octets input a.0 middle a.2 o) hs ms in
    (a.0 ∷ r.0, (a.0, r.0, refl, a.1, r.1), a.2 ∙ (ap (λ l. a.0 ++ l) r.2 ∙ sym (append_assoc a.0 (joined_lists r.0) rest)))

-- Elements that are read from these octets are written as they.
from_made : (s : Shape) (depth : ℕ) → IsMade s depth → (c : Bool) (input : List ℕ) (ts : List Tree) (rest : List ℕ) (bs : List (List ℕ)) → AreOctets input
    → ReadsFrom (Reads Der s depth c) input ts rest bs → EachOf (Owes s depth) ts → Each (Bytes Der s) ts bs × (input ≡ joined_lists bs ++ rest)
from_made s depth made c input [] rest bs o h m = (h.0, nothing input rest (joined_lists bs) (ap joined_lists h.0) h.1)
from_made s depth made c input (t ∷ ts) rest bs o (b, cs, middle, e, f, h, hs) (m, ms) =
    let a = made c input t middle o h m in
    let p : a.0 ≡ b = append_cancel_right a.0 b middle (sym a.2 ∙ f) in
    let r = from_made s depth made c middle ts rest cs (tail_octets input b middle f o) hs ms in
    ((b, cs, e, subst (Bytes Der s t) p a.1, r.0), f ∙ (ap (λ l. b ++ l) r.1 ∙ (sym (append_assoc b (joined_lists cs) rest) ∙ ap (λ l. joined_lists l ++ rest) (sym e))))

-- SETs.
tags_cons : (b : List ℕ) (cs : List (List ℕ)) (tags ms : List Tag) (m : Tag) → tags ≡ m ∷ ms → Begins b m → TagsOf cs ms → TagsOf (b ∷ cs) tags
tags_cons [] cs tags ms m e h t = absurd (begins_some m h)
tags_cons (x ∷ b) cs tags ms m e h t = (m, ms, e, h, t)

abbrev pub SetMade : Parts → List ℕ → List Tree → List ℕ → List Tag → Type 0
SetMade ps input ts rest tags = (bs : List (List ℕ)) × PartsWritten (fields_of Der ps) ts bs × NoneUntaggedOpen (fields_of Der ps) ts bs × TagsOf bs tags × (input ≡ joined_lists bs ++ rest)

abbrev pub IsSetMade : Parts → ℕ → Type 0
IsSetMade ps depth = (k : ℕ) (c : Bool) (input : List ℕ) (rs : List Tree) (rest : List ℕ) (os : List (List ℕ)) (tags : List Tag) (ts : List Tree) → AreOctets input
    → ReadsFrom (Components ps depth k c) input rs rest os → ByPart k (presences ps) rs ts → Each Begins os tags → AreAscending IsTagBelow tags
    → OwesParts ps depth ts → SetMade ps input ts rest tags

first_made : (presence : Presence) (s : Shape) (ps : Parts) (depth : ℕ) → EachMade depth (part presence s ps) → HasTag s → ((m n : Tag) → IsFirst s m → IsFirstOf ps n → IsTagBelow m n)
    → IsSetMade ps depth → (k : ℕ) (c : Bool) (input : List ℕ) (rs : List Tree) (rest : List ℕ) (os : List (List ℕ)) (tags : List Tag) (ts : List Tree) (t : Tree) (us : List Tree) → ts ≡ t ∷ us → AreOctets input
    → ReadsFrom (Components (part presence s ps) depth k c) input rs rest os → OneOf k t rs
    → ByPart (suc k) (presences ps) rs us → Each Begins os tags → AreAscending IsTagBelow tags → PartOwes presence (Owes s depth) t → OwesParts ps depth us
    → SetMade (part presence s ps) input ts rest tags
unfolding Reads parts_of Bytes fields_of Owes
first_made presence s ps depth made has below more k c input rs rest os tags ts t us ets octets h o by starts order m ms = go o.before rs h o.is o.none_before by
  where
    go : (before : List Tree) (rs : List Tree) → ReadsFrom (Components (part presence s ps) depth k c) input rs rest os → rs ≡ before ++ (chosen k t ∷ o.after) → NoneOf k before
        → ByPart (suc k) (presences ps) rs us → SetMade (part presence s ps) input ts rest tags
    go (x ∷ before) rs h e f by = absurd (first_is_next presence s ps depth k c below input rs rest os tags x before o.after t h starts order e f)
    go [] [] h e f by = cc
    go [] (x ∷ rs) (a, az, middle, g, i, inr h, hs) e f by = let v : x ≡ chosen k t = cc in absurd (other_read ps depth (suc k) k c input x t middle (omega arith) v h)
    go [] (x ∷ rs) (a, az, middle, g, i, inl (u, y, n, next, first, h, differs), hs) e f by =
        let z : u ≡ t = cc in
        let v : x ≡ chosen k t = cc in
        let l : rs ≡ o.after = cc in
        let w = next_made s depth made.0 presence c input t middle octets (subst (λ q. Reads Der s depth c input q middle) z h) (subst (IsNoDefault presence) z (differs tt)) m in
        let p : a ≡ w.0 = append_cancel_right a w.0 middle (sym i ∙ w.2) in
        let q : Each Begins (a ∷ az) tags = subst (λ l. Each Begins l tags) g starts in
        let r = more (suc k) c middle rs rest az q.1 us (tail_octets input a middle i octets) (behind presence s ps depth k c below middle rs rest az hs (subst (NoneOf k) (sym l) o.none_after))
        (by_part_less (presences ps) (suc k) k t rs us (omega arith) (subst (λ q. ByPart (suc k) (presences ps) (q ∷ rs) us) v by))
        q.4 (fewer q.0 q.1 (subst (AreAscending IsTagBelow) q.2 order)) ms in (
          w.0 ∷ r.0,
          (t, us, w.0, r.0, ets, refl, w.1, r.1),
          subst (λ l. NoneUntaggedOpen (fields_of Der (part presence s ps)) l (w.0 ∷ r.0)) (sym ets) ((λ b. absurd (made.0.not_untagged has t b)), r.2),
          tags_cons w.0 r.0 tags q.1 q.0 q.2 (subst (λ l. Begins l q.0) p q.3) r.3,
          w.2 ∙ (ap (λ l. w.0 ++ l) r.4 ∙ sym (append_assoc w.0 (joined_lists r.0) rest)),
        )

set_made : (ps : Parts) (depth : ℕ) → AreLawfulByTag ps → EachMade depth ps → IsSetMade ps depth
unfolding Reads parts_of Bytes fields_of Owes AreLawfulByTag
set_made none depth lawful made k c input [] rest os tags ts o h by starts order m =
    ([], (by, refl), tt, subst (λ l. Each Begins l tags) h.0 starts, sym h.1)
set_made none depth lawful made k c input (x ∷ rs) rest os tags ts o h by starts order m = absurd h.5
set_made (part presence s ps) depth lawful made k c input rs rest os tags ts o h (t, us, e, inl y, by) starts order (t', us', e', m, ms) =
    let p : t' ≡ t = let x : t' ∷ us' ≡ t ∷ us = sym e' ∙ e in cc in
    let q : us' ≡ us = let x : t' ∷ us' ≡ t ∷ us = sym e' ∙ e in cc in
    first_made presence s ps depth made lawful.1 lawful.4 (set_made ps depth lawful.5 made.1) k c input rs rest os tags ts t us e o h y by starts order
    (subst (PartOwes presence (Owes s depth)) p m) (subst (OwesParts ps depth) q ms)
set_made (part presence s ps) depth lawful made k c input rs rest os tags ts o h (t, us, e, inr (y, z), by) starts order (t', us', e', m, ms) =
    let p : t' ≡ t = let x : t' ∷ us' ≡ t ∷ us = sym e' ∙ e in cc in
    let q : us' ≡ us = let x : t' ∷ us' ≡ t ∷ us = sym e' ∙ e in cc in
    let r = set_made ps depth lawful.5 made.1 (suc k) c input rs rest os tags us o (behind presence s ps depth k c lawful.4 input rs rest os h y) by starts order (subst (OwesParts ps depth) q ms) in (
      [] ∷ r.0,
      (t, us, [], r.0, e, refl, missing_made s depth presence t z (subst (PartOwes presence (Owes s depth)) p m), r.1),
      subst (λ l. NoneUntaggedOpen (fields_of Der (part presence s ps)) l ([] ∷ r.0)) (sym e) ((λ b. refl), r.2),
      r.3,
      r.4,
    )

-- SETs in the order of their tags: the parts of components that are read, as they are written.
abbrev pub SortedMade : Parts → Parts → ℕ → List (List ℕ) → List Tree → List Tree → Type 0
SortedMade all ps k os ts us = (bs : List (List ℕ)) × (cs : List Component) × (es : List Component) × PartsWritten (fields_of Der ps) ts bs
    × ComponentsOf Der k ps bs cs × UnknownComponents (count all) us es × InReadOrder all ps cs es os

abbrev pub IsSortedMade : Parts → Parts → ℕ → Type 0
IsSortedMade all ps depth = (k : ℕ) (c : Bool) (rs : List Tree) (os : List (List ℕ)) (ts us : List Tree) → k + count ps ≤ count all → Each (IsReadFrom all ps depth k c) rs os
    → ByPart k (presences ps) rs ts → AllOf (count all) rs us → OwesParts ps depth ts → SortedMade all ps k os ts us

sorted_made : (all ps : Parts) (depth : ℕ) → AreComponents ps → AreDistinguished ps → AreAmong all ps → EachMade depth ps → IsSortedMade all ps depth
unfolding Reads parts_of Bytes fields_of Owes IsLawful
sorted_made all none depth lawful told among made k c rs os ts us fits h by a m =
    let r = rest_in_order all depth k c rs os us h a in ([], [], r.0, (by, refl), refl, r.1, r.2)
sorted_made all (part presence s ps) depth lawful told among made k c rs os ts us fits h (t, vs, e, x, by) a (t', vs', e', m, ms) =
    go (sorted_made all ps depth lawful.4 told.1 (λ n i. among n (inr i)) made.1) x
  where
    low : k < count all
    low = omega (arith, fits)

    p : t' ≡ t
    p = let x : t' ∷ vs' ≡ t ∷ vs = sym e' ∙ e in cc

    q : vs' ≡ vs
    q = let x : t' ∷ vs' ≡ t ∷ vs = sym e' ∙ e in cc

    owes : PartOwes presence (Owes s depth) t
    owes = subst (PartOwes presence (Owes s depth)) p m

    owe : OwesParts ps depth vs
    owe = subst (OwesParts ps depth) q ms

    -- The octets of a component are written of its part.
    writes : (o : List ℕ) → IsReadFrom all (part presence s ps) depth k c (chosen k t) o → WritesPart presence (Bytes Der s) t o
    writes o r =
        let z = first_read all presence s ps depth k c t o low r in
        let w = next_made s depth made.0 presence c r.input t r.rest r.octets z.1 z.2 owes in
        subst (WritesPart presence (Bytes Der s) t) (append_cancel_right w.0 o r.rest (sym w.2 ∙ r.is)) w.1

    there_made : (o : List ℕ) (front back : List (List ℕ)) → IsReadFrom all (part presence s ps) depth k c (chosen k t) o → SortedMade all ps (suc k) (front ++ back) vs us
        → SortedMade all (part presence s ps) k (front ++ (o ∷ back)) ts us
    there_made [] front back r later = absurd (begins_some r.tag r.begins)
    there_made (x ∷ o) front back r (bs, cs, es, written, placed, others, read) = (
      (x ∷ o) ∷ bs,
      record { tag = r.tag; number = k; octets = x ∷ o } ∷ cs,
      es,
      (t, vs, x ∷ o, bs, e, refl, writes (x ∷ o) r, written),
      (r.tag, cs, refl, r.begins, placed),
      others,
      put_in all presence s ps told.0 among (record { tag = r.tag; number = k; octets = x ∷ o }) cs es front (x ∷ o) back (refl, r.begins) (first_read all presence s ps depth k c t (x ∷ o) low r).0 read,
    )

    missing : IsMissing presence t → SortedMade all ps (suc k) os vs us → SortedMade all (part presence s ps) k os ts us
    missing z (bs, cs, es, written, placed, others, read) =
        ([] ∷ bs, cs, es, (t, vs, [], bs, e, refl, missing_made s depth presence t z owes, written), placed, others, read_later all presence s ps cs es os read)

    go : IsSortedMade all ps depth → OneOf k t rs ⊎ (NoneOf k rs × IsMissing presence t) → SortedMade all (part presence s ps) k os ts us
    go later (inl o) =
        let h' : Each (IsReadFrom all (part presence s ps) depth k c) (o.before ++ (chosen k t ∷ o.after)) os = subst (λ l. Each (IsReadFrom all (part presence s ps) depth k c) l os) o.is h in
        let i = each_at (IsReadFrom all (part presence s ps) depth k c) o.before (chosen k t) o.after os h' in
        let others = o.before ++ o.after in
        subst (λ l. SortedMade all (part presence s ps) k l ts us) (sym i.3)
        (there_made i.1 i.0 i.2 i.4
        (later (suc k) c others (i.0 ++ i.2) vs us (omega (arith, fits)) (left_behind all presence s ps depth k c others (i.0 ++ i.2) i.5 (none_join k o.before o.after o.none_before o.none_after))
        (by_part_without (presences ps) (suc k) k t o.before o.after vs (omega arith) (subst (λ l. ByPart (suc k) (presences ps) l vs) o.is by))
        (all_of_less (count all) k t o.before o.after us low (subst (λ l. AllOf (count all) l us) o.is a)) owe))
    go later (inr (n, z)) = missing z (later (suc k) c rs os vs us (omega (arith, fits)) (left_behind all presence s ps depth k c rs os h n) by a owe)

-- A value that is written round contents.
abbrev pub Enclosed : Tag → (List ℕ → Type 0) → List ℕ → List ℕ → Type 0
Enclosed tag P input rest = (c : List ℕ) × P c × (b : List ℕ) × DefiniteForm tag true c b × (input ≡ b ++ rest)

enclosed_made : {X : Type 0} (tag : Tag) (bit : Bool) → bit ≡ true → (inner : Bool → Reading X) (P : List ℕ → Type 0) (input : List ℕ) (x : X) (rest : List ℕ) → AreOctets input
    → ((contents : List ℕ) → AreOctets contents → inner false contents x [] → (c : List ℕ) × P c × (contents ≡ c ++ [])) → ReadsContents Der tag bit inner input x rest → Enclosed tag P input rest
enclosed_made tag bit e inner P input x rest o made (definite_form contents f h) =
    let w = framed o f in
    let r = made contents w.octets h in
    let n : contents ≡ r.0 = r.2 ∙ append-nil r.0 in
    (r.0, r.1, w.text, subst (λ l. DefiniteForm tag true l w.text) n (subst (λ z. DefiniteForm tag z contents w.text) e w.is), w.input_is)
enclosed_made tag bit e inner P input x rest o made (indefinite_form body f h) = absurd (no_open f)

open_made : (tag : Tag) (depth : ℕ) → IsMade (any (Some tag)) depth
unfolding Reads parts_of Bytes fields_of Owes
open_made tag depth closing input t rest o (bit, c, e, z, inr (body, f, w, g)) m = absurd (no_open f)
open_made tag depth closing input t rest o (bit, c, e, z, inl f) m =
    let w = framed o f in
    let k : m.octets ≡ c = let j = m.is in cc in
    (w.text, (c, e, inr ((λ n. empty (k ∙ n)), subst (λ y. DefiniteForm tag y c w.text) (z tt) w.is)), w.input_is)
  where
    empty : m.octets ≡ [] → ⊥
    empty k = not_ended false [] m.tag (frame_next (subst (λ l. Frame loose_form l m.tag m.bit [] (definite m.contents)) k m.frame)) (inl refl)

in_seq_made : (tag : Tag) (ps : Parts) (depth : ℕ) → EachMade (depth - 1) ps → IsMade (seq tag ps) depth
unfolding Reads parts_of Bytes fields_of Owes
in_seq_made tag ps depth k closing input t rest o (deep, h) (deep', us, f, m, taken) =
    let r = enclosed_made tag true refl _ (λ c. (ts : List Tree) × (bs : List (List ℕ)) × (t ≡ items ts) × PartsWritten (fields_of Der ps) ts bs × (c ≡ joined_lists bs)) input t rest o
    (λ contents p r.
    let vs = r.0 in
    let y : us ≡ vs = items_one us vs (sym f ∙ r.1) in
    let m' = subst (OwesParts ps (depth - 1)) y m in
    elim r.2 [
      | inl a ↦ let q = all_missing_made ps (depth - 1) false vs a.1 m' in (joined_lists q.0, (vs, q.0, r.1, q.1, refl), a.0.2 ∙ (sym q.2 ∙ sym (append-nil (joined_lists q.0))))
      | inr a ↦ let q = in_order_made ps (depth - 1) k false false contents vs [] p a.1 m' in (joined_lists q.0, (vs, q.0, r.1, q.1, refl), q.2)
    ]) h in
    (r.2, (r.1.0, r.1.1, r.1.2, r.1.3, subst (λ l. DefiniteForm tag true l r.2) r.1.4 r.3), r.4)

in_set_made : (tag : Tag) (ps : Parts) (depth : ℕ) → AreLawfulByTag ps → EachMade (depth - 1) ps → IsMade (set tag ps) depth
unfolding Reads parts_of Bytes fields_of Owes
in_set_made tag ps depth lawful k closing input t rest o (deep, h) (deep', us, f, m) =
    let r = enclosed_made tag true refl _ (λ c. (ts : List Tree) × (bs : List (List ℕ)) × (tags : List Tag) × (t ≡ items ts) × PartsWritten (fields_of Der ps) ts bs
    × NoneUntaggedOpen (fields_of Der ps) ts bs × TagsOf bs tags × AreAscending IsTagBelow tags × (c ≡ joined_lists bs)) input t rest o
    (λ contents p r.
    let vs = r.1 in
    let y : us ≡ vs = items_one us vs (sym f ∙ r.2) in
    let g = r.5 tt in
    let q = set_made ps (depth - 1) lawful k 0 false contents r.0 [] g.0 g.2.0 vs p g.1 r.4 g.2.1 g.2.2 (subst (OwesParts ps (depth - 1)) y m) in
    (joined_lists q.0, (vs, q.0, g.2.0, r.2, q.1, q.2, q.3, g.2.2, refl), q.4)) h in
    (r.2, (r.1.0, r.1.1, r.1.2, r.1.3, r.1.4, r.1.5, r.1.6, r.1.7, subst (λ l. DefiniteForm tag true l r.2) r.1.8 r.3), r.4)

in_sorted_set_made : (extensible : Bool) (tag : Tag) (ps : Parts) (depth : ℕ) → AreComponents ps → AreDistinguished ps → EachMade (depth - 1) ps → IsMade (sorted_set extensible tag ps) depth
unfolding Reads parts_of Bytes fields_of Owes
in_sorted_set_made extensible tag ps depth lawful told made closing input t rest o (deep, h) (deep', vs, ws, f, m, others) =
    let r = enclosed_made tag true refl _ (λ c. (ts : List Tree) × (us : List Tree) × (bs : List (List ℕ)) × (cs : List Component) × (es : List Component) × (ds : List Component)
    × IsSetTree extensible ts us t × PartsWritten (fields_of Der ps) ts bs × ComponentsOf Der 0 ps bs cs × UnknownComponents (count ps) us es
    × IsReordered (cs ++ es) ds × AreInOrder ComesBefore ds × (c ≡ contents_of ds)) input t rest o
    (λ contents p r.
    let g = r.7 tt in
    let y = set_tree_one extensible vs ws r.1 r.2 t f r.3 in
    let i = each_read ps ps (depth - 1) 0 false contents r.0 [] g.0 g.2.0 p g.1 g.2.1 in
    let q = sorted_made ps ps (depth - 1) lawful told (λ n i. i) made 0 false r.0 g.0 r.1 r.2 (omega arith) i.0 r.5 r.6 (subst (OwesParts ps (depth - 1)) y.0 m) in
    let ds = q.6 in (
      contents_of ds.0,
      (r.1, r.2, q.0, q.1, q.2, ds.0, r.3, q.3, q.4, q.5, ds.1, read_in_order ps ps q.1 q.2 g.0 g.2 ds, refl),
      i.1 ∙ ap (λ l. l ++ []) (joined_contents g.0 ds.0 ds.2),
    )) h in
    (r.2, (r.1.0, r.1.1, r.1.2, r.1.3, r.1.4, r.1.5, r.1.6, r.1.7, r.1.8, r.1.9, r.1.10, r.1.11, subst (λ l. DefiniteForm tag true l r.2) r.1.12 r.3), r.4)

open_choice_made : (ps : Parts) (depth : ℕ) → EachMade depth ps → IsMade (open_choice ps) depth
unfolding Reads parts_of Bytes fields_of Owes IsWithinLimits
open_choice_made ps depth made closing input t rest o (inl h) (inl m) = let r = choice_made ps depth made 0 closing input t rest o h m in (r.0, inl r.1, r.2)
open_choice_made ps depth made closing input t rest o (inl h) (inr (u, e, m)) = absurd (none_read ps depth closing input t u rest h e)
open_choice_made ps depth made closing input t rest o (inr (u, e, n, next, other, h)) (inl m) = absurd (none_within Der ps depth t u e (owed_meets (choice ps) depth t m))
open_choice_made ps depth made closing input t rest o (inr (u, e, n, next, other, (text, f, whole, g))) (inr m) = (text, inr (e ∙ ap (chosen (count ps)) f), g)

in_list_made : (tag : Tag) (s : Shape) (size : Option (Bound ℕ)) (depth : ℕ) → IsMade s (depth - 2) → IsMade (list tag s size) depth
unfolding Reads parts_of Bytes fields_of Owes
in_list_made tag s size depth made closing input t rest o (deep, h) (deep', us, f, m) =
    let r = enclosed_made tag true refl _ (λ c. (ts : List Tree) × (bs : List (List ℕ)) × (t ≡ items ts) × Admits ◌≤◌ size (length ts) × Each (Bytes Der s) ts bs × (c ≡ joined_lists bs)) input t rest o
    (λ contents p r.
    let vs = r.0 in
    let y : us ≡ vs = items_one us vs (sym f ∙ r.1) in
    let q = many_made s (depth - 2) made false false contents vs [] p r.3 (subst (EachOf (Owes s (depth - 2))) y m) in
    (joined_lists q.0, (vs, q.0, r.1, r.2, q.1, refl), q.2)) h in
    (r.2, (r.1.0, r.1.1, r.1.2, r.1.3, r.1.4, subst (λ l. DefiniteForm tag true l r.2) r.1.5 r.3), r.4)

in_set_of_made : (tag : Tag) (s : Shape) (size : Option (Bound ℕ)) (depth : ℕ) → IsMade s (depth - 2) → IsMade (set_of tag s size) depth
unfolding Reads parts_of Bytes fields_of Owes
in_set_of_made tag s size depth made closing input t rest o (deep, h) (deep', us, f, m) =
    let r = enclosed_made tag true refl _ (λ c. (ts : List Tree) × (bs : List (List ℕ)) × (t ≡ set_elements (items ts)) × Admits ◌≤◌ size (length ts) × Each (Bytes Der s) ts bs
    × AreAscending IsLess bs × (c ≡ joined_lists bs)) input t rest o
    (λ contents p r.
    let vs = r.0 in
    let y : us ≡ vs = items_one us vs (set_elements_one us vs (sym f ∙ r.1)) in
    let g = r.4 tt in
    let q = from_made s (depth - 2) made false contents vs [] g.0 p g.1 (subst (EachOf (Owes s (depth - 2))) y m) in
    (joined_lists g.0, (vs, g.0, r.1, r.2, q.0, g.2, refl), q.1)) h in
    (r.2, (r.1.0, r.1.1, r.1.2, r.1.3, r.1.4, r.1.5, subst (λ l. DefiniteForm tag true l r.2) r.1.6 r.3), r.4)

option_made : (tag : Option Tag) (s : Shape) (depth : ℕ) → Made s depth → IsMade (option tag s) depth
unfolding Reads parts_of Bytes fields_of Owes
option_made tag s depth k closing input t rest o (inl (p, q, r)) m = ([], inl (q, refl), sym r)
option_made tag s depth k closing input t rest o (inr (p, h)) (inl m) = absurd (k.there closing input t rest h m)
option_made tag s depth k closing input t rest o (inr (p, h)) (inr m) = let r = k.made closing input t rest o h m in (r.0, inr (k.there closing input t rest h, r.1), r.2)

prefix_made : (tag : Tag) (s : Shape) (depth : ℕ) → IsMade s (depth - 1) → IsMade (prefix tag s) depth
unfolding Reads parts_of Bytes fields_of Owes
prefix_made tag s depth made closing input t rest o (deep, bit, z, h) (deep', m) =
    let r = enclosed_made tag bit (z tt) (λ c. Reads Der s (depth - 1) c) (λ c. Bytes Der s t c) input t rest o
    (λ contents p r. let q = made false contents t [] p r m in (q.0, q.1, q.2)) h in
    (r.2, (r.0, r.1, r.3), r.4)

-- Unknown values.
any_made : (depth : ℕ) → IsMade (any None) depth
unfolding Reads parts_of Bytes fields_of Owes
any_made depth closing input t rest o h m = (h.0, h.1, h.3)

unknown_made : (depth : ℕ) → IsMade unknown depth
unfolding Reads parts_of Bytes fields_of Owes
unknown_made depth closing input t rest o (vs, e, z, h) (us, f, m) =
    let y : us ≡ vs = items_one us vs (sym f ∙ e) in
    let q = many_made (any None) depth (any_made depth) closing closing input vs rest o h (subst (EachOf (Owes (any None) depth)) y m) in
    (joined_lists q.0, (vs, q.0, e, q.1, refl), q.2)

unknown_is_made : (depth : ℕ) → Made unknown depth
unknown_is_made depth = record { made = unknown_made depth; there = unknown_there depth; not_untagged = λ has t. absurd has }

mutual
  unfolding Reads parts_of Bytes fields_of Owes IsLawful

  pub all_made : (s : Shape) → IsLawful s → (depth : ℕ) → IsMade s depth
  all_made (leaf kind tag bounds) lawful depth = λ closing input t rest o h m.
      let r = in_made (family kind) kind tag lawful.1 depth input t rest o h.0 in (r.0, (h.1, r.1), r.2)
  all_made (any None) lawful depth = any_made depth
  all_made (any (Some tag)) lawful depth = open_made tag depth
  all_made (prefix tag s) lawful depth = prefix_made tag s depth (all_made s lawful.2 (depth - 1))
  all_made (choice ps) lawful depth = λ closing input t rest o h m. choice_made ps depth (each_made ps (alternatives_good ps lawful.0) depth) 0 closing input t rest o h m
  all_made (open_choice ps) lawful depth = open_choice_made ps depth (each_made ps (alternatives_good ps lawful.0) depth)
  all_made (option tag s) lawful depth =
      option_made tag s depth (record { made = all_made s lawful.2 depth; there = there s lawful.1 lawful.2 depth; not_untagged = λ has t. not_untagged s lawful.2 lawful.1 has t })
  all_made (seq tag ps) lawful depth = in_seq_made tag ps depth (each_made_in_order ps (in_order_good ps lawful.1) (depth - 1))
  all_made (set tag ps) lawful depth = in_set_made tag ps depth lawful.1 (each_made ps (by_tag_good ps lawful.1) (depth - 1))
  all_made (sorted_set extensible tag ps) lawful depth = in_sorted_set_made extensible tag ps depth lawful.1 lawful.2 (each_made ps (components_good ps lawful.1) (depth - 1))
  all_made (list tag s size) lawful depth = in_list_made tag s size depth (all_made s lawful.2 (depth - 2))
  all_made (set_of tag s size) lawful depth = in_set_of_made tag s size depth (all_made s lawful.2 (depth - 2))
  all_made unknown lawful depth = absurd lawful

  each_made_in_order : (ps : Parts) → EachGoodInOrder ps → (depth : ℕ) → EachMade depth ps
  each_made_in_order none good depth = tt
  each_made_in_order (part presence s ps) (inl (solid, lawful), good) depth =
      (record { made = all_made s lawful depth; there = there s solid lawful depth; not_untagged = λ has t. not_untagged s lawful solid has t }, each_made_in_order ps good depth)
  each_made_in_order (part presence s ps) (inr e, good) depth = (subst (λ x. Made x depth) (sym e) (unknown_is_made depth), each_made_in_order ps good depth)

  each_made : (ps : Parts) → EachGood ps → (depth : ℕ) → EachMade depth ps
  each_made none good depth = tt
  each_made (part presence s ps) good depth =
      (record { made = all_made s good.1 depth; there = there s good.0 good.1 depth; not_untagged = λ has t. not_untagged s good.1 good.0 has t }, each_made ps good.2 depth)

-- What DER reads of a tree that is written and within limits is what is written of it: the tree is the same as itself,
-- so it owes no more.
pub all_told : (s : Shape) → IsLawful s → (depth : ℕ) → IsTold s depth
all_told s lawful depth closing input t rest b o h w m =
    let r = all_made s lawful depth closing input t rest o h (owes_like s depth t t b (written_same s Der t b w) w m) in
    r.2 ∙ ap (λ l. l ++ rest) (one_writing s Der t r.0 b r.1 w)

pub strict_der : StrictDer
strict_der s lawful input o t rest h c = (c.octets, c.is, all_told s lawful 128 false input t rest c.octets o h c.is c.within_limits)

pub only_carried : OnlyCarried
only_carried s lawful own input o t rest h m =
    let r = all_made s lawful 128 false input t rest o h (meets_owed s own 128 t m) in
    (record { octets = r.0; is = r.1; within_limits = m }, r.2)

pub stays_carried : StaysCarried
stays_carried s lawful t c o u h =
    let again = read_again s lawful Der t c in
    let one = one_reading s lawful Der 128 false c.octets again.0 u [] [] again.2 h in
    let owes = owes_like s 128 t u c.octets (subst (Same t) one.0 again.1) c.is c.within_limits in
    let r = all_made s lawful 128 false c.octets u [] o h owes in
    (record { octets = r.0; is = r.1; within_limits = owed_meets s 128 u owes }, sym (append-nil r.0) ∙ sym r.2)

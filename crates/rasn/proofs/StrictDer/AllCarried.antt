-- What DER reads of a shape that passes the test meets all that a carried value must.
use Rattle.std.proofs.Common.{◌≡◌, ◌≢◌, ◌^◌, ℕ, suc, ◌+◌, ◌-◌, ◌<◌, ◌≤◌, inl, inr, List, [], ◌∷◌, ◌++◌, length, Bool, true, false, not, ◌&&◌, ◌||◌, Option, Some, None, refl, sym, ap, subst, arith, ◌∙◌, append_assoc}
use Rattle.std.proofs.lemmas.List.Sorted.{IsPermutation-refl}
use Rattle.std.proofs.lemmas.List.{append_cancel_right}
use Rattle.rasn_types.specs.declared.types.tag.Tag.{Tag}
use Rattle.rasn_types.specs.declared.types.codec.Codec.TheVariants.{Der}
use Rattle.rasn_types.specs.Tags.{der_form}
use Rattle.rasn_types.specs.Framing.{Begins, without_length, NextTag, Ended, CompleteEncoding}
use Rattle.rasn_types.specs.Calendar.{Moment}
use Rattle.rasn_types.specs.Time.{CarriedUtc, CarriedDay}
use Rattle.rasn_types.specs.Shapes.{presences, Tree, number, bits, numbers, instant, on_day, done, joined, items, IsSetTree, set_elements, chosen, absent, Same, Kind, utc_time, generalized_time, date, Shape, leaf, any, prefix, choice, open_choice, option, seq, set, sorted_set, list, set_of, unknown, Parts, part, count, IsFirstOf, own, Presence, required, addition, optional_by, default_by, Sought, one_tag, any_of, sought_in}
use Rattle.rasn_types.specs.declared.types.constraints.Bound.{Bound}
use Rattle.rasn_types.specs.Shapes.Parts.{none}
use Rattle.rasn_types.specs.Described.{has_required, has_addition}
use Rattle.rasn_types.specs.Readings.{Reading, ReadsContents, definite_form, indefinite_form, ReadsMany, IsLeftOut, ReadsPart, ReadsInOrder, IsMissing, AllMissing, presences_in, HasRequired, ReadsFrom, ReadsSeq, ReadsSet, ReadsSortedSet, ReadsChoice, OneOf, ByPart, AllOf}
use Rattle.rasn_types.specs.Order.{Each, IsBeforeAll, AreInOrder}
use Rattle.rasn_types.specs.BitString.{significant}
use Rattle.rasn_types.specs.Grammar.{Reads, parts_of, Family, plain_family, bit_family, named_family, text_family, family, ReadsIn, Text, ReadsAny, ReadsList, ReadsSetOf}
use Rattle.rasn_types.specs.Carried.{EachOf, PartIsWithinLimits, IsCarriedTime, LeafIsWithinLimits, IsOneEncoding, IsUnwritten, BeginsUnknown, NoneTaken, IsWithinLimits, AreWithinLimits, ChosenIsWithinLimits, IsUnknownValue, AreUnknownValues}
use Rattle.rasn_types.specs.Lawful.{IsLawful, AreLawfulInOrder, AreLawfulByTag, AreComponents}
use Rattle.rasn_types.proofs.Lawful.{lawful_decides}
use Rattle.rasn_types.proofs.Headers.Frames.{id_one, frame_next}
use Rattle.rasn_types.proofs.Time.Spellings.{both_true}
use Rattle.rasn.specs.Carries.{is_list, is_same_as_itself, is_own_default, carries_all, all_carry}
use Rattle.rasn.specs.Laws.{LawfulTested, AllCarried, IsOwnDefault, HasOwnDefaults, HaveOwnDefaults}
use Rattle.rasn.proofs.ReadBack.Shapes.{EachGood, alternatives_good, EachGoodInOrder, in_order_good, by_tag_good, components_good}
use Rattle.rasn.proofs.ReadBack.Parts.{other_index, none_within}
use Rattle.rasn.proofs.TagOrder.{IsNotAbove, ascending_all, all_ascending}
use Rattle.rasn.proofs.StrictDer.SortedSet.{Components}
use Rattle.rasn.proofs.StrictDer.Shapes.{there, unknown_there}
use Rattle.rasn.proofs.StrictDer.Leaves.{no_open}
use Rattle.rasn.proofs.StrictDer.Carried.{only_carried}
use Rattle.rasn.proofs.StrictDer.Parts.{IsNeverAbsent, none_read}
use Rattle.rasn.proofs.StrictDer.Time.{utc_carried, generalized_carried, date_carried}

pub lawful_tested : LawfulTested
lawful_tested s = let d = lawful_decides s in (d.1, d.0)

-- ---- defaults

list_items : (t : Tree) → is_list t ≡ true → (ts : List Tree) × (t ≡ items ts)
list_items (number z) e = absurd (cc)
list_items (bits bs) e = absurd (cc)
list_items (numbers ns) e = absurd (cc)
list_items (instant m) e = absurd (cc)
list_items (on_day d) e = absurd (cc)
list_items done e = ([], refl)
list_items (joined t ts) e = let r = list_items ts e in (t ∷ r.0, ap (joined t) r.1)
list_items (set_elements ts) e = absurd (cc)
list_items (chosen k t) e = absurd (cc)
list_items absent e = absurd (cc)

itself : (t : Tree) → is_same_as_itself t ≡ true → Same t t
itself (number z) e = refl
itself (bits bs) e = refl
itself (numbers ns) e = refl
itself (instant m) e = refl
itself (on_day d) e = refl
itself done e = refl
itself (joined t ts) e = let p = both_true (is_same_as_itself t) (is_same_as_itself ts) e in (t, ts, refl, itself t p.0, itself ts p.1)
itself (set_elements ts) e =
    let p = both_true (is_list ts) (is_same_as_itself ts) e in
    let l = list_items ts p.0 in
    (l.0, l.0, ap set_elements l.1, IsPermutation-refl l.0, subst (Same ts) l.1 (itself ts p.1))
itself (chosen k t) e = (t, refl, itself t e)
itself absent e = refl

own_default : (presence : Presence) → is_own_default presence ≡ true → IsOwnDefault presence
own_default required e = tt
own_default (optional_by key) e = tt
own_default addition e = tt
own_default (default_by key d) e = itself d e

-- The three parts of the test of parts.
three : (a b c : Bool) → (a && (b && c)) ≡ true → (a ≡ true) × (b ≡ true) × (c ≡ true)
three a b c e = let p = both_true a (b && c) e in let q = both_true b c p.1 in (p.0, q.0, q.1)

mutual
  own_defaults : (s : Shape) → carries_all s ≡ true → HasOwnDefaults s
  own_defaults (leaf kind tag bounds) e = tt
  own_defaults (any tag) e = tt
  own_defaults (prefix tag s) e = own_defaults s e
  own_defaults (choice ps) e = all_own ps e
  own_defaults (open_choice ps) e = all_own ps e
  own_defaults (option tag s) e = own_defaults s e
  own_defaults (seq tag ps) e = all_own ps (both_true (has_required ps || not (has_addition ps)) (all_carry ps) e).1
  own_defaults (set tag ps) e = all_own ps e
  own_defaults (sorted_set extensible tag ps) e = all_own ps e
  own_defaults (list tag s size) e = own_defaults s e
  own_defaults (set_of tag s size) e = own_defaults s e
  own_defaults unknown e = tt

  all_own : (ps : Parts) → all_carry ps ≡ true → HaveOwnDefaults ps
  all_own none e = tt
  all_own (part presence s ps) e =
      let p = three (is_own_default presence) (carries_all s) (all_carry ps) e in (own_default presence p.0, own_defaults s p.1, all_own ps p.2)

-- ---- values that hold no others

time_met : (kind : Kind) (l : List ℕ) (t : Tree) → Text Der kind l t → IsCarriedTime kind t
time_met utc_time l t (s, e, h) = λ m f. let g : s.moment ≡ m = cc in subst CarriedUtc g (utc_carried l s h)
time_met generalized_time l t (s, e, h) = λ m f. let g : s.moment ≡ m = cc in subst (λ (x : Moment). CarriedDay x.day) g (generalized_carried l s h)
time_met date l t (d, e, h) = λ x f. let g : d ≡ x = cc in subst CarriedDay g (date_carried l d h)
time_met kind l t h = tt

in_met : (which : Family) (kind : Kind) (tag : Tag) (depth : ℕ) (input : List ℕ) (t : Tree) (rest : List ℕ) → ReadsIn which Der kind tag depth input t rest → LeafIsWithinLimits which Der kind depth t
in_met plain_family kind tag depth input t rest h = tt
in_met bit_family kind tag depth input t rest (bs, e, n, h) = λ cs f. let g : bs ≡ cs = cc in (subst (λ (l : List Bool). length l < 2 ^ 64) g n, λ z. absurd z)
in_met named_family kind tag depth input t rest (bs, e, n, h, z) = λ cs f.
    let g : significant bs ≡ cs = cc in
    (subst (λ (l : List Bool). length l < 2 ^ 64) (sym (z tt) ∙ g) n, λ z. absurd z)
in_met text_family kind tag depth input t rest (l, h, w) = (time_met kind l t w, λ octets x z. absurd z)

one_encoding_met : (t : Tree) (text : List ℕ) → t ≡ numbers text → CompleteEncoding Der text → IsOneEncoding t
one_encoding_met t text e (CompleteEncoding.plain tag bit contents frame) = record { octets = text; is = e; tag = tag; bit = bit; contents = contents; frame = frame }
one_encoding_met t text e (CompleteEncoding.closed tag bit body nested (without_length id p q r f) w g) = absurd r

-- ---- parts and elements

abbrev IsMet : Shape → ℕ → Type 0
IsMet s depth = (closing : Bool) (input : List ℕ) (t : Tree) (rest : List ℕ) → Reads Der s depth closing input t rest → IsWithinLimits Der s depth t

record Met (presence : Presence) (s : Shape) (depth : ℕ) : Type 0 where
  met : IsMet s depth
  there : IsNeverAbsent s depth
  own_default : IsOwnDefault presence

abbrev EachMet : ℕ → Parts → Type 0
EachMet depth none = Unit {0}
EachMet depth (part presence s ps) = Met presence s depth × EachMet depth ps

next_met : (s : Shape) (depth : ℕ) (presence : Presence) → Met presence s depth → (c : Bool) (input : List ℕ) (t : Tree) (rest : List ℕ)
    → Reads Der s depth c input t rest → PartIsWithinLimits presence (IsWithinLimits Der s depth) t
next_met s depth required k c input t rest h = k.met c input t rest h
next_met s depth (optional_by key) k c input t rest h = inr (k.met c input t rest h)
next_met s depth addition k c input t rest h = (k.there c input t rest h, k.met c input t rest h)
next_met s depth (default_by key d) k c input t rest h = inr (k.met c input t rest h)

missing_met : (s : Shape) (depth : ℕ) (presence : Presence) → presence ≢ addition → IsOwnDefault presence → (t : Tree) → IsMissing presence t → PartIsWithinLimits presence (IsWithinLimits Der s depth) t
missing_met s depth required n own t e = absurd e
missing_met s depth (optional_by key) n own t e = inl e
missing_met s depth addition n own t e = absurd (n refl)
missing_met s depth (default_by key d) n own t e = inl (subst (λ x. Same x d) (sym e) own)

part_met : (s : Shape) (depth : ℕ) (presence : Presence) → Met presence s depth → (tags : Sought) (c closing : Bool) (input : List ℕ) (t : Tree) (rest : List ℕ)
    → ReadsPart Der presence tags (Reads Der s depth c) closing input t rest → PartIsWithinLimits presence (IsWithinLimits Der s depth) t
part_met s depth required k tag c closing input t rest h = next_met s depth required k c input t rest h
part_met s depth addition k tag c closing input t rest h = next_met s depth addition k c input t rest h
part_met s depth (optional_by key) k tag c closing input t rest (inl h) = inl h.1
part_met s depth (optional_by key) k tag c closing input t rest (inr h) = next_met s depth (optional_by key) k c input t rest h.1
part_met s depth (default_by key d) k tag c closing input t rest (inl h) = inl (subst (λ x. Same x d) (sym h.1) k.own_default)
part_met s depth (default_by key d) k tag c closing input t rest (inr h) = next_met s depth (default_by key d) k c input t rest h.1.0

in_order_met : (ps : Parts) (depth : ℕ) → EachMet depth ps → (c closing : Bool) (input : List ℕ) (ts : List Tree) (rest : List ℕ)
    → ReadsInOrder Der (parts_of Der ps depth c) closing input ts rest → AreWithinLimits Der ps depth ts
unfolding Reads parts_of IsWithinLimits
in_order_met none depth k c closing input ts rest h = h.0
in_order_met (part presence s ps) depth k c closing input ts rest (t, us, middle, e, h, hs) =
    (t, us, e, part_met s depth presence k.0 (sought_in presence s) c closing input t middle h, in_order_met ps depth k.1 c closing middle us rest hs)

abbrev HasNoAddition : Parts → Type 0
HasNoAddition none = Unit {0}
HasNoAddition (part presence s ps) = (presence ≢ addition) × HasNoAddition ps

no_addition : (ps : Parts) → has_addition ps ≡ false → HasNoAddition ps
no_addition none e = tt
no_addition (part required s ps) e = (λ f. cc, no_addition ps e)
no_addition (part (optional_by key) s ps) e = (λ f. cc, no_addition ps e)
no_addition (part addition s ps) e = absurd (cc)
no_addition (part (default_by key d) s ps) e = (λ f. cc, no_addition ps e)

some_required : (ps : Parts) (depth : ℕ) (c : Bool) → has_required ps ≡ true → HasRequired (parts_of Der ps depth c)
unfolding Reads parts_of
some_required none depth c e = absurd (cc)
some_required (part required s ps) depth c e = inl refl
some_required (part (optional_by key) s ps) depth c e = inr (some_required ps depth c e)
some_required (part addition s ps) depth c e = inr (some_required ps depth c e)
some_required (part (default_by key d) s ps) depth c e = inr (some_required ps depth c e)

all_missing_met : (ps : Parts) (depth : ℕ) → EachMet depth ps → HasNoAddition ps → (c : Bool) (ts : List Tree) → AllMissing (presences_in (parts_of Der ps depth c)) ts → AreWithinLimits Der ps depth ts
unfolding Reads parts_of IsWithinLimits
all_missing_met none depth k n c ts h = h
all_missing_met (part presence s ps) depth k n c ts (t, us, e, h, hs) =
    (t, us, e, missing_met s depth presence n.0 k.0.own_default t h, all_missing_met ps depth k.1 n.1 c us hs)

choice_met : (ps : Parts) (depth : ℕ) → EachMet depth ps → (k : ℕ) (c : Bool) (input : List ℕ) (t : Tree) (rest : List ℕ)
    → ReadsChoice Der k (parts_of Der ps depth c) input t rest → ChosenIsWithinLimits Der k ps depth t
unfolding Reads parts_of IsWithinLimits
choice_met none depth met k c input t rest h = h
choice_met (part presence s ps) depth met k c input t rest (inl h) = inl (h.0, h.1, met.0.met c input h.0 rest h.5)
choice_met (part presence s ps) depth met k c input t rest (inr h) = inr (choice_met ps depth met.1 (suc k) c input t rest h)

many_met : (P : Tree → Type 0) (reads : Reading Tree) → ((input : List ℕ) (t : Tree) (rest : List ℕ) → reads input t rest → P t)
    → (closing : Bool) (input : List ℕ) (ts : List Tree) (rest : List ℕ) → ReadsMany reads closing input ts rest → EachOf P ts
many_met P reads met closing input [] rest h = tt
many_met P reads met closing input (t ∷ ts) rest (n, middle, h, hs) = (met input t middle h, many_met P reads met closing middle ts rest hs)

-- What holds of each reading holds of one of them.
one_met : (P : Tree → Type 0) (before : List Tree) (t : Tree) (after : List Tree) → EachOf P (before ++ (t ∷ after)) → P t
one_met P [] t after h = h.0
one_met P (x ∷ before) t after h = one_met P before t after h.1

abbrev ComponentsMet : Parts → ℕ → ℕ → List Tree → Type 0
ComponentsMet ps depth k readings = (j : ℕ) (t : Tree) → k ≤ j → j < k + count ps → OneOf j t readings → ChosenIsWithinLimits Der k ps depth (chosen j t)

by_part_met : (ps : Parts) (depth : ℕ) → EachMet depth ps → HasNoAddition ps → (k : ℕ) (c : Bool) (readings ts : List Tree) → ComponentsMet ps depth k readings
    → ByPart k (presences ps) readings ts → AreWithinLimits Der ps depth ts
unfolding Reads parts_of IsWithinLimits
by_part_met none depth met n k c readings ts one h = h
by_part_met (part presence s ps) depth met n k c readings ts one (t, us, e, h, hs) = (t, us, e, elim h [ inl o ↦ come presence n.0 (first o) | inr o ↦ missing_met s depth presence n.0 met.0.own_default t o.1 ], by_part_met ps depth met.1 n.1 (suc k) c readings us behind hs)
  where
    first : OneOf k t readings → IsWithinLimits Der s depth t
    first o = elim (one k t (omega arith) (omega arith) o) [
      | inl m ↦ let f = m.1 in let g : m.0 ≡ t = cc in subst (IsWithinLimits Der s depth) g m.2
      | inr m ↦ absurd (other_index Der ps depth (suc k) k (chosen k t) t (omega arith) refl m)
    ]

    come : (presence : Presence) → presence ≢ addition → IsWithinLimits Der s depth t → PartIsWithinLimits presence (IsWithinLimits Der s depth) t
    come required n m = m
    come (optional_by key) n m = inr m
    come addition n m = absurd (n refl)
    come (default_by key d) n m = inr m

    behind : ComponentsMet ps depth (suc k) readings
    behind j x l low o = elim (one j x (omega arith) (omega (arith, low)) o) [
      | inl m ↦ let f = m.1 in let g : j ≡ k = cc in absurd (omega (arith, l, g))
      | inr m ↦ m
    ]

by_tag_has_none : (ps : Parts) → AreLawfulByTag ps → HasNoAddition ps
unfolding AreLawfulByTag
by_tag_has_none none h = tt
by_tag_has_none (part presence s ps) h = (h.0, by_tag_has_none ps h.5)

-- ---- unknown values

-- What is next before octets is next before their first encoding.
next_alone : (o more : List ℕ) (n : Tag) → CompleteEncoding Der o → NextTag der_form (o ++ more) n → NextTag der_form o n
next_alone o more n (CompleteEncoding.plain tag bit contents f) next =
    let k = frame_next f in
    let i = id_one next.begins.id k.begins.id next.begins.more (k.begins.more ++ more) n tag next.begins.bit k.begins.bit next.begins.spells k.begins.spells
    (sym next.begins.is ∙ (ap (λ z. z ++ more) k.begins.is ∙ append_assoc k.begins.id k.begins.more more)) in
    record {
      begins = record { id = next.begins.id; bit = next.begins.bit; more = k.begins.more; spells = next.begins.spells; is = k.begins.is ∙ ap (λ z. z ++ k.begins.more) (sym i.octets) };
      is_one = next.is_one;
      shortest = next.shortest;
    }
next_alone o more n (CompleteEncoding.closed tag bit body nested (without_length id p q r f) w g) next = absurd r

left_out_alone : (tags : Sought) (closing : Bool) (input o more : List ℕ) → input ≡ o ++ more → CompleteEncoding Der o → (Ended closing input → ⊥) → IsLeftOut der_form tags closing input → IsLeftOut der_form tags false o
left_out_alone (one_tag None) closing input o more e w n h = absurd (n h)
left_out_alone (one_tag (Some tag)) closing input o more e w n (inl h) = absurd (n h)
left_out_alone (one_tag (Some tag)) closing input o more e w n (inr (t, next, d)) = inr (t, next_alone o more t w (subst (λ i. NextTag der_form i t) e next), d)
left_out_alone (any_of P) closing input o more e w n (inl h) = absurd (n h)
left_out_alone (any_of P) closing input o more e w n (inr (t, next, d)) = inr (t, next_alone o more t w (subst (λ i. NextTag der_form i t) e next), d)

-- A part that is read and isn't written is left out.
unwritten_left : (s : Shape) (depth : ℕ) (presence : Presence) → Met presence s depth → (tags : Sought) (c closing : Bool) (input : List ℕ) (t : Tree) (rest : List ℕ)
    → ReadsPart Der presence tags (Reads Der s depth c) closing input t rest → IsUnwritten presence t → IsLeftOut der_form tags closing input × (rest ≡ input)
unwritten_left s depth required k tags c closing input t rest h e = absurd e
unwritten_left s depth addition k tags c closing input t rest h e = absurd (k.there c input t rest h e)
unwritten_left s depth (optional_by key) k tags c closing input t rest (inl (p, q, r)) e = (p, r)
unwritten_left s depth (optional_by key) k tags c closing input t rest (inr (p, h)) e = absurd (k.there c input t rest h e)
unwritten_left s depth (default_by key d) k tags c closing input t rest (inl (p, q, r)) e = (p, r)
unwritten_left s depth (default_by key d) k tags c closing input t rest (inr (p, (h, n))) e = absurd (n tt e)

-- The input begins with one encoding.
abbrev BeginsWith : Bool → List ℕ → List ℕ → Type 0
BeginsWith closing input o = (more : List ℕ) × (input ≡ o ++ more) × CompleteEncoding Der o × (Ended closing input → ⊥)

first_unknown : (depth : ℕ) (closing : Bool) (input : List ℕ) (t us : Tree) (o rest : List ℕ) → t ≡ joined (numbers o) us → Reads Der unknown depth closing input t rest → BeginsWith closing input o
unfolding Reads
first_unknown depth closing input t us o rest e (vs, f, z, h) = go vs (sym f ∙ e) h
  where
    go : (vs : List Tree) → items vs ≡ joined (numbers o) us → ReadsMany (ReadsAny Der) closing input vs rest → BeginsWith closing input o
    go [] g k = cc
    go (v ∷ vs) g (n, middle, (text, i, w, j), k) =
        let p : v ≡ numbers o = cc in
        let q : numbers text ≡ numbers o = sym i ∙ p in
        let r : text ≡ o = cc in
        (middle, j ∙ ap (λ l. l ++ middle) r, subst (CompleteEncoding Der) r w, n)

ends_begin : (depth : ℕ) (presence : Presence) (s : Shape) (tags : Sought) (closing : Bool) (input : List ℕ) (t us : Tree) (o rest : List ℕ) → presence ≡ required → s ≡ unknown → t ≡ joined (numbers o) us
    → ReadsPart Der presence tags (Reads Der s depth closing) closing input t rest → BeginsWith closing input o
ends_begin depth presence s tags closing input t us o rest e f g h =
    first_unknown depth closing input t us o rest g
    (subst (λ x. Reads Der x depth closing input t rest) f (subst (λ p. ReadsPart Der p tags (Reads Der s depth closing) closing input t rest) e h))

-- A lawful part that is unknown values is the last, and required.
is_last : (presence : Presence) (s : Shape) (ps : Parts) → AreLawfulInOrder (part presence s ps) → s ≡ unknown → presence ≡ required
unfolding IsLawful AreLawfulInOrder
is_last presence s ps (inl h) e = h.0
is_last presence s ps (inr h) e = absurd (subst IsLawful e h.1)

lawful_after : (presence : Presence) (s : Shape) (ps : Parts) → AreLawfulInOrder (part presence s ps) → AreLawfulInOrder ps
unfolding AreLawfulInOrder
lawful_after presence s ps (inl h) = subst AreLawfulInOrder (sym h.2) tt
lawful_after presence s ps (inr h) = h.3

begins_read : (ps : Parts) (depth : ℕ) → AreLawfulInOrder ps → EachMet depth ps → (closing : Bool) (input : List ℕ) (ts : List Tree) (rest o : List ℕ)
    → ReadsInOrder Der (parts_of Der ps depth closing) closing input ts rest → BeginsUnknown ps ts o → BeginsWith closing input o
unfolding Reads parts_of
begins_read none depth lawful k closing input ts rest o h b = absurd b
begins_read (part presence s ps) depth lawful k closing input ts rest o (t, us, middle, e, h, hs) b =
    go (λ d. begins_read ps depth (lawful_after presence s ps lawful) k.1 closing middle us rest o hs d) (subst (λ l. BeginsUnknown (part presence s ps) l o) e b)
  where
    go : (BeginsUnknown ps us o → BeginsWith closing middle o) → BeginsUnknown (part presence s ps) (t ∷ us) o → BeginsWith closing input o
    go later (inl (f, vs, g)) = ends_begin depth presence s (sought_in presence s) closing input t vs o middle (is_last presence s ps lawful f) f g h
    go later (inr (d, more)) =
        let left = unwritten_left s depth presence k.0 (sought_in presence s) closing closing input t middle h d in
        subst (λ i. BeginsWith closing i o) left.1 (later more)

-- What is read in order is taken for no part that isn't written.
in_order_taken : (ps : Parts) (depth : ℕ) → AreLawfulInOrder ps → EachMet depth ps → (closing : Bool) (input : List ℕ) (ts : List Tree) (rest : List ℕ)
    → ReadsInOrder Der (parts_of Der ps depth closing) closing input ts rest → NoneTaken Der ps ts
unfolding Reads parts_of
in_order_taken none depth lawful k closing input ts rest h = tt
in_order_taken (part presence s ps) depth lawful k closing input ts rest (t, us, middle, e, h, hs) =
    subst (NoneTaken Der (part presence s ps)) (sym e) (first, in_order_taken ps depth (lawful_after presence s ps lawful) k.1 closing middle us rest hs)
  where
    first : IsUnwritten presence t → (o : List ℕ) → BeginsUnknown ps us o → IsLeftOut der_form (sought_in presence s) false o
    first d o b =
        let left = unwritten_left s depth presence k.0 (sought_in presence s) closing closing input t middle h d in
        let w = begins_read ps depth (lawful_after presence s ps lawful) k.1 closing middle us rest o hs b in
        left_out_alone (sought_in presence s) closing middle o w.0 w.1 w.2 w.3 (subst (IsLeftOut der_form (sought_in presence s) closing) (sym left.1) left.0)

-- Where all parts are missing, there are no unknown values.
missing_known : (ps : Parts) (depth : ℕ) (c : Bool) → AreLawfulInOrder ps → (ts : List Tree) (o : List ℕ) → AllMissing (presences_in (parts_of Der ps depth c)) ts → BeginsUnknown ps ts o → ⊥
unfolding Reads parts_of
missing_known none depth c lawful ts o h b = b
missing_known (part presence s ps) depth c lawful ts o (t, us, e, h, hs) b =
    go (λ d. missing_known ps depth c (lawful_after presence s ps lawful) us o hs d) (subst (λ l. BeginsUnknown (part presence s ps) l o) e b)
  where
    go : (BeginsUnknown ps us o → ⊥) → BeginsUnknown (part presence s ps) (t ∷ us) o → ⊥
    go later (inl (f, vs, g)) = subst (λ p. IsMissing p t) (is_last presence s ps lawful f) h
    go later (inr (d, more)) = later more

missing_taken : (ps : Parts) (depth : ℕ) (c : Bool) → AreLawfulInOrder ps → (ts : List Tree) → AllMissing (presences_in (parts_of Der ps depth c)) ts → NoneTaken Der ps ts
unfolding Reads parts_of
missing_taken none depth c lawful ts h = tt
missing_taken (part presence s ps) depth c lawful ts (t, us, e, h, hs) =
    let after = lawful_after presence s ps lawful in
    subst (NoneTaken Der (part presence s ps)) (sym e) ((λ d o b. absurd (missing_known ps depth c after us o hs b)), missing_taken ps depth c after us hs)

-- ---- values that hold others

-- An unknown value has the tag of no part.
unknown_value_met : (P : Tag → Type 0) (input : List ℕ) (u : Tree) (rest : List ℕ) (n : Tag) → NextTag der_form input n → (P n → ⊥) → ReadsAny Der input u rest → IsUnknownValue Der P u
unknown_value_met P input u rest n next other (text, e, CompleteEncoding.plain tag bit contents frame, f) = record {
  one = record { octets = text; is = e; tag = tag; bit = bit; contents = contents; frame = frame };
  tag = n;
  next = next_alone text rest n (CompleteEncoding.plain tag bit contents frame) (subst (λ i. NextTag der_form i n) f next);
  other = other;
}
unknown_value_met P input u rest n next other (text, e, CompleteEncoding.closed tag bit body nested (without_length id p q r f) w g, h) = absurd r

open_choice_met : (ps : Parts) (depth : ℕ) → EachMet depth ps → IsMet (open_choice ps) depth
unfolding Reads parts_of IsWithinLimits
open_choice_met ps depth met closing input t rest (inl h) = inl (choice_met ps depth met 0 closing input t rest h)
open_choice_met ps depth met closing input t rest (inr (u, e, n, next, other, h)) = inr (u, e, unknown_value_met (IsFirstOf ps) input u rest n next other h)

inside_met : {X : Type 0} {P : Type 0} (tag : Tag) (bit : Bool) (inner : Bool → Reading X) (input : List ℕ) (x : X) (rest : List ℕ)
    → ((contents : List ℕ) → inner false contents x [] → P) → ReadsContents Der tag bit inner input x rest → P
inside_met tag bit inner input x rest met (definite_form contents f h) = met contents h
inside_met tag bit inner input x rest met (indefinite_form body f h) = absurd (no_open f)

in_seq_met : (tag : Tag) (ps : Parts) (depth : ℕ) → AreLawfulInOrder ps → EachMet (depth - 1) ps → (has_required ps || not (has_addition ps)) ≡ true → IsMet (seq tag ps) depth
unfolding Reads parts_of IsWithinLimits
in_seq_met tag ps depth lawful met e closing input t rest (deep, h) = let r = inside_met tag true _ input t rest within h in (deep, r.0, r.1, r.2, r.3)
  where
    bare : (a b : Bool) → has_required ps ≡ a → has_addition ps ≡ b → (a || not b) ≡ true → (HasRequired (parts_of Der ps (depth - 1) false) → ⊥) → HasNoAddition ps
    bare true b p q r n = absurd (n (some_required ps (depth - 1) false p))
    bare false true p q r n = absurd (cc)
    bare false false p q r n = no_addition ps q

    within : (contents : List ℕ) → ReadsSeq Der (parts_of Der ps (depth - 1) false) false contents t [] → (ts : List Tree) × (t ≡ items ts) × AreWithinLimits Der ps (depth - 1) ts × NoneTaken Der ps ts
    within contents (ts, f, inl r) = (ts, f, all_missing_met ps (depth - 1) met (bare (has_required ps) (has_addition ps) refl refl e r.0.0) false ts r.1, missing_taken ps (depth - 1) false lawful ts r.1)
    within contents (ts, f, inr r) = (ts, f, in_order_met ps (depth - 1) met false false contents ts [] r.1, in_order_taken ps (depth - 1) lawful met false contents ts [] r.1)

in_set_met : (tag : Tag) (ps : Parts) (depth : ℕ) → EachMet (depth - 1) ps → HasNoAddition ps → IsMet (set tag ps) depth
unfolding Reads parts_of IsWithinLimits
in_set_met tag ps depth met n closing input t rest (deep, h) = let r = inside_met tag true _ input t rest within h in (deep, r.0, r.1, r.2)
  where
    within : (contents : List ℕ) → ReadsSet Der (presences ps) (ReadsChoice Der 0 (parts_of Der ps (depth - 1) false)) false contents t [] → (ts : List Tree) × (t ≡ items ts) × AreWithinLimits Der ps (depth - 1) ts
    within contents r =
        let each = many_met (ChosenIsWithinLimits Der 0 ps (depth - 1)) (ReadsChoice Der 0 (parts_of Der ps (depth - 1) false)) (λ i x l k. choice_met ps (depth - 1) met 0 false i x l k) false contents r.0 [] r.3 in (
          r.1,
          r.2,
          by_part_met ps (depth - 1) met n 0 false r.0 r.1
              (λ j x l low o. one_met (ChosenIsWithinLimits Der 0 ps (depth - 1)) o.before (chosen j x) o.after (subst (EachOf (ChosenIsWithinLimits Der 0 ps (depth - 1))) o.is each)) r.4,
        )

components_have_none : (ps : Parts) → AreComponents ps → HasNoAddition ps
unfolding AreComponents
components_have_none none h = tt
components_have_none (part presence s ps) h = (h.0, components_have_none ps h.4)

-- Unknown values among components.
all_of_met : (P Q : Tree → Type 0) (n : ℕ) → ((v : Tree) → P (chosen n v) → Q v) → (rs us : List Tree) → EachOf P rs → AllOf n rs us → EachOf Q us
all_of_met P Q n met [] us h a = subst (EachOf Q) (sym a) tt
all_of_met P Q n met (r ∷ rs) us h (inl (u, more, e, f, a)) = subst (EachOf Q) (sym f) (met u (subst P e h.0), all_of_met P Q n met rs more h.1 a)
all_of_met P Q n met (r ∷ rs) us h (inr (d, a)) = all_of_met P Q n met rs us h.1 a

chosen_met : (ps : Parts) (depth : ℕ) (v : Tree) → IsWithinLimits Der (open_choice ps) depth (chosen (count ps) v) → IsUnknownValue Der (IsFirstOf ps) v
unfolding IsWithinLimits
chosen_met ps depth v (inl m) = absurd (none_within Der ps depth (chosen (count ps) v) v refl m)
chosen_met ps depth v (inr (u, e, m)) = let f : u ≡ v = cc in subst (IsUnknownValue Der (IsFirstOf ps)) f m

part_chosen_met : (ps : Parts) (depth j : ℕ) (t : Tree) → j < count ps → IsWithinLimits Der (open_choice ps) depth (chosen j t) → ChosenIsWithinLimits Der 0 ps depth (chosen j t)
unfolding IsWithinLimits
part_chosen_met ps depth j t low (inl m) = m
part_chosen_met ps depth j t low (inr (u, e, m)) = let f : j ≡ count ps = cc in absurd (omega (arith, low, f))

-- Their octets, and the tags of these, which don't fall.
abbrev UnknownOctets : List Tag → List Tree → Type 0
UnknownOctets tags us = (bs : List (List ℕ)) × (more : List Tag) × Each (λ u b. u ≡ numbers b) us bs × Each Begins bs more × AreInOrder IsNotAbove more
    × ((s : Tag) → IsBeforeAll IsNotAbove s tags → IsBeforeAll IsNotAbove s more)

unknown_octets : (ps : Parts) (depth : ℕ) (c : Bool) (input : List ℕ) (rs : List Tree) (rest : List ℕ) (os : List (List ℕ)) (tags : List Tag) (us : List Tree)
    → ReadsFrom (Components ps ps depth 0 c) input rs rest os → Each Begins os tags → AreInOrder IsNotAbove tags → AllOf (count ps) rs us → UnknownOctets tags us
unknown_octets ps depth c input [] rest os tags us h b order a = ([], [], subst (λ l. Each (λ u b. u ≡ numbers b) l []) (sym a) refl, refl, tt, λ s h. tt)
unknown_octets ps depth c input (r ∷ rs) rest os tags us (o, more, middle, e, f, h, hs) b order a =
    go (λ ts us b order a. unknown_octets ps depth c middle rs rest more ts us hs b order a) (subst (λ l. Each Begins l tags) e b) a
  where
    Later : Type 0
    Later = (ts : List Tag) (us : List Tree) → Each Begins more ts → AreInOrder IsNotAbove ts → AllOf (count ps) rs us → UnknownOctets ts us

    go : Later → Each Begins (o ∷ more) tags → AllOf (count ps) (r ∷ rs) us → UnknownOctets tags us
    go later (t, ts, g, bt, bts) (inr (d, a)) =
        let z = later ts us bts (subst (AreInOrder IsNotAbove) g order).1 a in
        (z.0, z.1, z.2, z.3, z.4, λ s k. z.5 s (subst (IsBeforeAll IsNotAbove s) g k).1)
    go later (t, ts, g, bt, bts) (inl (u, others, i, j, a)) = this h
      where
        this : Components ps ps depth 0 c input r middle → UnknownOctets tags us
        this (inl x) = absurd (none_read ps depth c input r u middle x i)
        this (inr (v, k, n, next, other, (text, is, whole, l))) =
            let order' = subst (AreInOrder IsNotAbove) g order in
            let z = later ts others bts order'.1 a in
            let p : u ≡ v = cc in
            let q : text ≡ o = append_cancel_right text o middle (sym l ∙ f) in (
              o ∷ z.0,
              t ∷ z.1,
              subst (λ l. Each (λ u b. u ≡ numbers b) l (o ∷ z.0)) (sym j) (o, z.0, refl, p ∙ (is ∙ ap numbers q), z.2),
              (t, z.1, refl, bt, z.3),
              (z.5 t order'.0, z.4),
              λ s k. let m = subst (IsBeforeAll IsNotAbove s) g k in (m.0, z.5 s m.1),
            )

in_sorted_set_met : (extensible : Bool) (tag : Tag) (ps : Parts) (depth : ℕ) → EachMet (depth - 1) ps → HasNoAddition ps → IsMet (sorted_set extensible tag ps) depth
unfolding Reads parts_of IsWithinLimits
in_sorted_set_met extensible tag ps depth met n closing input t rest (deep, h) = let r = inside_met tag true _ input t rest within h in (deep, r.0, r.1, r.2, r.3, r.4)
  where
    within : (contents : List ℕ) → ReadsSortedSet Der extensible (presences ps) (count ps) (Components ps ps (depth - 1) 0 false) false contents t []
        → (ts : List Tree) × (us : List Tree) × IsSetTree extensible ts us t × AreWithinLimits Der ps (depth - 1) ts × AreUnknownValues Der (IsFirstOf ps) us
    within contents (rs, ts, us, tree, m, by, a, z) =
        let P = IsWithinLimits Der (open_choice ps) (depth - 1) in
        let each = many_met P (Components ps ps (depth - 1) 0 false) (λ i x l k. open_choice_met ps (depth - 1) met false i x l k) false contents rs [] m in
        let g = z tt in
        let o = unknown_octets ps (depth - 1) false contents rs [] g.0 g.2.0 us g.1 g.2.1 (ascending_all g.2.0 g.2.2) a in (
          ts,
          us,
          tree,
          by_part_met ps (depth - 1) met n 0 false rs ts (λ j x l low o. part_chosen_met ps (depth - 1) j x (omega (arith, low)) (one_met P o.before (chosen j x) o.after (subst (EachOf P) o.is each))) by,
          (all_of_met P (IsUnknownValue Der (IsFirstOf ps)) (count ps) (λ v k. chosen_met ps (depth - 1) v k) rs us each a, (o.0, o.2, (o.1, o.3, all_ascending o.1 o.4))),
        )

in_list_met : (tag : Tag) (s : Shape) (size : Option (Bound ℕ)) (depth : ℕ) → IsMet s (depth - 2) → IsMet (list tag s size) depth
unfolding Reads parts_of IsWithinLimits
in_list_met tag s size depth met closing input t rest (deep, h) = let r = inside_met tag true _ input t rest within h in (deep, r.0, r.1, r.2)
  where
    within : (contents : List ℕ) → ReadsList size (Reads Der s (depth - 2) false) false contents t [] → (ts : List Tree) × (t ≡ items ts) × EachOf (IsWithinLimits Der s (depth - 2)) ts
    within contents r = (r.0, r.1, many_met (IsWithinLimits Der s (depth - 2)) (Reads Der s (depth - 2) false) (λ i x l k. met false i x l k) false contents r.0 [] r.3)

in_set_of_met : (tag : Tag) (s : Shape) (size : Option (Bound ℕ)) (depth : ℕ) → IsMet s (depth - 2) → IsMet (set_of tag s size) depth
unfolding Reads parts_of IsWithinLimits
in_set_of_met tag s size depth met closing input t rest (deep, h) = let r = inside_met tag true _ input t rest within h in (deep, r.0, r.1, r.2)
  where
    within : (contents : List ℕ) → ReadsSetOf Der size (Reads Der s (depth - 2) false) false contents t [] → (ts : List Tree) × (t ≡ set_elements (items ts)) × EachOf (IsWithinLimits Der s (depth - 2)) ts
    within contents r = (r.0, r.1, many_met (IsWithinLimits Der s (depth - 2)) (Reads Der s (depth - 2) false) (λ i x l k. met false i x l k) false contents r.0 [] r.3)

unknown_met : (depth : ℕ) → IsMet unknown depth
unfolding Reads parts_of IsWithinLimits
unknown_met depth closing input t rest (us, e, z, h) = (us, e, many_met IsOneEncoding (ReadsAny Der) (λ i u r k. one_encoding_met u k.0 k.1 k.2) closing input us rest h)

mutual
  unfolding Reads parts_of IsWithinLimits IsLawful

  all_met : (s : Shape) → IsLawful s → carries_all s ≡ true → (depth : ℕ) → IsMet s depth
  all_met (leaf kind tag bounds) lawful e depth = λ closing input t rest h. in_met (family kind) kind tag depth input t rest h.0
  all_met (any None) lawful e depth = λ closing input t rest h. one_encoding_met t h.0 h.1 h.2
  all_met (any (Some tag)) lawful e depth = absurd (cc)
  all_met (prefix tag s) lawful e depth = λ closing input t rest h.
      (h.0, inside_met tag h.1 (λ c. Reads Der s (depth - 1) c) input t rest (λ contents r. all_met s lawful.2 e (depth - 1) false contents t [] r) h.3)
  all_met (choice ps) lawful e depth = λ closing input t rest h. choice_met ps depth (each_met ps (alternatives_good ps lawful.0) e depth) 0 closing input t rest h
  all_met (open_choice ps) lawful e depth = open_choice_met ps depth (each_met ps (alternatives_good ps lawful.0) e depth)
  all_met (option tag s) lawful e depth = λ closing input t rest h. elim h [
    | inl r ↦ inl r.1
    | inr r ↦ inr (all_met s lawful.2 e depth closing input t rest r.1)
  ]
  all_met (seq tag ps) lawful e depth =
      let p = both_true (has_required ps || not (has_addition ps)) (all_carry ps) e in
      in_seq_met tag ps depth lawful.1 (each_met_in_order ps (in_order_good ps lawful.1) p.1 (depth - 1)) p.0
  all_met (set tag ps) lawful e depth = in_set_met tag ps depth (each_met ps (by_tag_good ps lawful.1) e (depth - 1)) (by_tag_has_none ps lawful.1)
  all_met (sorted_set extensible tag ps) lawful e depth = in_sorted_set_met extensible tag ps depth (each_met ps (components_good ps lawful.1) e (depth - 1)) (components_have_none ps lawful.1)
  all_met (list tag s size) lawful e depth = in_list_met tag s size depth (all_met s lawful.2 e (depth - 2))
  all_met (set_of tag s size) lawful e depth = in_set_of_met tag s size depth (all_met s lawful.2 e (depth - 2))
  all_met unknown lawful e depth = absurd lawful

  each_met_in_order : (ps : Parts) → EachGoodInOrder ps → all_carry ps ≡ true → (depth : ℕ) → EachMet depth ps
  each_met_in_order none good e depth = tt
  each_met_in_order (part presence s ps) (inl (solid, lawful), good) e depth =
      let p = three (is_own_default presence) (carries_all s) (all_carry ps) e in
      (record { met = all_met s lawful p.1 depth; there = there s solid lawful depth; own_default = own_default presence p.0 }, each_met_in_order ps good p.2 depth)
  each_met_in_order (part presence s ps) (inr f, good) e depth =
      let p = three (is_own_default presence) (carries_all s) (all_carry ps) e in (
        subst (λ x. Met presence x depth) (sym f) (record { met = unknown_met depth; there = unknown_there depth; own_default = own_default presence p.0 }),
        each_met_in_order ps good p.2 depth,
      )

  each_met : (ps : Parts) → EachGood ps → all_carry ps ≡ true → (depth : ℕ) → EachMet depth ps
  each_met none good e depth = tt
  each_met (part presence s ps) good e depth =
      let p = three (is_own_default presence) (carries_all s) (all_carry ps) e in
      (record { met = all_met s good.1 p.1 depth; there = there s good.0 good.1 depth; own_default = own_default presence p.0 }, each_met ps good.2 p.2 depth)

pub all_carried : AllCarried
all_carried s lawful e input o t rest h = only_carried s lawful (own_defaults s e) input o t rest h (all_met s lawful e 128 false input t rest h)

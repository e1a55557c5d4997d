-- The components of a SET in the order of its tags are read as they were written.
use Rattle.std.proofs.Common.{◌≡◌, ℕ, suc, ◌+◌, ◌<◌, ◌≤◌, ◌⊎◌, inl, inr, List, [], ◌∷◌, ◌++◌, Bool, refl, sym, ap, ◌∙◌, subst, arith, append_assoc}
use Rattle.rasn_types.specs.Tags.{form, IsStrict, IsTagBelow}
use Rattle.rasn_types.specs.Order.{AreAscending, AreInOrder, IsReordered}
use Rattle.rasn_types.specs.declared.types.codec.Codec.{Codec}
use Rattle.rasn_types.specs.declared.types.codec.Codec.TheVariants.{Ber, Cer, Der}
use Rattle.rasn_types.specs.declared.types.tag.Tag.{Tag}
use Rattle.rasn_types.specs.Framing.{Begins}
use Rattle.rasn_types.specs.Shapes.{Tree, numbers, IsSetTree, chosen, Parts, part, count, presences, IsFirst, IsFirstOf}
use Rattle.rasn_types.specs.Shapes.Parts.{none}
use Rattle.rasn_types.specs.Readings.{Reading, ReadsMany, ReadsFrom, IsNoDefault, IsMissing, NoneOf, ByPart, AllOf, ReadsSortedSet}
use Rattle.rasn_types.specs.Grammar.{Reads, parts_of, ReadsOpenChoice}
use Rattle.rasn_types.specs.Bytes.{Each, Same, Component as Written, IsPlacedBy, ComponentsOf, UnknownComponents, ComesBefore, contents_of, WritesPart, PartsWritten, Bytes, fields_of}
use Rattle.rasn_types.specs.Carried.{EachOf, IsUnknownValue, AreUnknownValues, IsWithinLimits, AreWithinLimits}
use Rattle.rasn_types.proofs.Headers.Frames.{not_ended}
use Rattle.rasn_types.proofs.InOrder.{each_reordered, not_both_below, not_below_itself}
use Rattle.rasn_types.proofs.SetTrees.{each_append, set_tree_same}
use Rattle.rasn.proofs.TagOrder.{unknown_in_order}
use Rattle.rasn.proofs.ReadBack.Begins.{HasNextTag}
use Rattle.rasn.proofs.ReadBack.Constructed.{tail_ended, IsReadAs}
use Rattle.rasn.proofs.ReadBack.Parts.{EachTagged, nothing_is_next, EachBack}
use Rattle.rasn.proofs.ReadBack.Set.{Component, IsAmong, ComponentBack, component_back, ReadMore, read_more}
use Rattle.rasn.proofs.ReadBack.Reordered.{none_join, other_part, by_part_more, by_part_reordered}
use Rattle.rasn.proofs.ReadBack.Unknown.{whole_octets, unknown_read}
use Rattle.rasn.proofs.ReadBack.Late.{Late, unknown_among}

-- A component is read as one of all the parts, or is unknown.
abbrev pub OpenComponent : Codec → ℕ → Parts → Bool → Reading Tree
OpenComponent rule depth all c = ReadsOpenChoice rule (IsFirstOf all) (count all) (Component rule depth all c)

-- The reading is of the component's part, or unknown. The parts have the numbers below n.
abbrev pub IsNumbered : ℕ → Written → Tree → Type 0
IsNumbered n c t = ((c.number < n) × (v : Tree) × (t ≡ chosen c.number v)) ⊎ ((n ≤ c.number) × (t ≡ chosen n (numbers c.octets)))

-- A component that is written is read as this reading. Where readings have to be in the order of their tags, it begins
-- with the tag that decides where it is.
pub record IsReadBack (rule : Codec) (depth : ℕ) (all : Parts) (c : Written) (t : Tree) : Type 0 where
  pub again : (rest : List ℕ) (closing : Bool) → OpenComponent rule depth all closing (c.octets ++ rest) t rest
  pub begins : (rest : List ℕ) → HasNextTag (c.octets ++ rest)
  pub first : IsStrict rule → Begins c.octets c.tag
  pub numbered : IsNumbered (count all) c t

placed_begins : (rule : Codec) (P : Tag → Type 0) (b : List ℕ) (tag : Tag) → IsPlacedBy rule P b tag → IsStrict rule → Begins b tag
placed_begins Ber P b tag h z = absurd z
placed_begins Cer P b tag h z = absurd z
placed_begins Der P b tag h z = h

-- The components are read in any order.
many_read : (rule : Codec) (depth : ℕ) (all : Parts) (cs : List Written) (rs : List Tree) → Each (IsReadBack rule depth all) cs rs
    → IsReadAs (λ c. ReadsMany (OpenComponent rule depth all c) c) (contents_of cs) rs
many_read rule depth all [] rs h closing tail e = subst (λ l. ReadsMany (OpenComponent rule depth all closing) closing tail l tail) (sym h) (tail_ended closing tail e, refl)
many_read rule depth all (c ∷ cs) rs (t, more, f, r, h) closing tail e =
    let x = contents_of cs ++ tail in
    let n = r.begins x in
    subst (λ l. ReadsMany (OpenComponent rule depth all closing) closing ((c.octets ++ contents_of cs) ++ tail) l tail) (sym f)
    (subst (λ i. ReadsMany (OpenComponent rule depth all closing) closing i (t ∷ more) tail) (sym (append_assoc c.octets (contents_of cs) tail))
    (not_ended closing (c.octets ++ x) n.1 n.2, x, r.again x closing, many_read rule depth all cs more h closing tail e))

octets_in : List Written → List (List ℕ)
octets_in [] = []
octets_in (c ∷ cs) = c.octets ∷ octets_in cs

tags_in : List Written → List Tag
tags_in [] = []
tags_in (c ∷ cs) = c.tag ∷ tags_in cs

from_read : (rule : Codec) (depth : ℕ) (all : Parts) (cs : List Written) (rs : List Tree) → Each (IsReadBack rule depth all) cs rs → (c : Bool) (tail : List ℕ)
    → ReadsFrom (OpenComponent rule depth all c) (contents_of cs ++ tail) rs tail (octets_in cs)
unfolding octets_in
from_read rule depth all [] rs h c tail = subst (λ l. ReadsFrom (OpenComponent rule depth all c) tail l tail []) (sym h) (refl, refl)
from_read rule depth all (w ∷ cs) rs (t, more, f, r, h) c tail =
    subst (λ l. ReadsFrom (OpenComponent rule depth all c) ((w.octets ++ contents_of cs) ++ tail) l tail (w.octets ∷ octets_in cs)) (sym f)
    (subst (λ i. ReadsFrom (OpenComponent rule depth all c) i (t ∷ more) tail (w.octets ∷ octets_in cs)) (sym (append_assoc w.octets (contents_of cs) tail))
    (w.octets, octets_in cs, contents_of cs ++ tail, refl, refl, r.again (contents_of cs ++ tail) c, from_read rule depth all cs more h c tail))

begin_read : (rule : Codec) (depth : ℕ) (all : Parts) (cs : List Written) (rs : List Tree) → Each (IsReadBack rule depth all) cs rs → IsStrict rule → Each Begins (octets_in cs) (tags_in cs)
unfolding octets_in tags_in
begin_read rule depth all [] rs h z = refl
begin_read rule depth all (c ∷ cs) rs (t, more, f, r, h) z = (c.tag, tags_in cs, refl, r.first z, begin_read rule depth all cs more h z)

rising : (cs : List Written) → AreInOrder ComesBefore cs → AreAscending IsTagBelow (tags_in cs)
unfolding tags_in
rising [] h = tt
rising (c ∷ []) h = tt
rising (c ∷ d ∷ cs) h = (falls h.0.0, rising (d ∷ cs) h.1)
  where
    falls : ComesBefore c d → IsTagBelow d.tag c.tag → ⊥
    falls (inl l) m = not_both_below d.tag c.tag m l
    falls (inr l) m = not_below_itself d.tag (subst (IsTagBelow d.tag) l.0 m)

-- What is read of parts, in their order.
abbrev pub SetBack : Codec → ℕ → Parts → ℕ → Parts → List Tree → List Written → List Tree → List Tree → Type 0
SetBack rule depth all k ps ts cs rs us = Each Same ts us × ByPart k (presences ps) rs us × ((j : ℕ) → j < k → NoneOf j rs) × Each (IsReadBack rule depth all) cs rs

parts_back : (rule : Codec) (depth : ℕ) (all : Parts) (ps : Parts) → EachTagged ps → EachBack rule depth ps → (k : ℕ) → k + count ps ≤ count all → IsAmong rule depth all k ps
    → (ts : List Tree) (bs : List (List ℕ)) (cs : List Written) → AreWithinLimits rule ps depth ts → PartsWritten (fields_of rule ps) ts bs → ComponentsOf rule k ps bs cs
    → (rs : List Tree) × (us : List Tree) × SetBack rule depth all k ps ts cs rs us
unfolding Reads parts_of Bytes fields_of IsWithinLimits
parts_back rule depth all none has back k fits among ts bs cs within_limits w m =
    ([], [], (subst (λ l. Each Same l []) (sym w.0) refl, refl, (λ j h. tt), subst (λ l. Each (IsReadBack rule depth all) l []) (sym m) refl))
parts_back rule depth all (part presence s ps) has back k fits among ts bs cs (t, us, e, within_limits, others) (t', us', b, more, e', f, w, ws) m =
    let eq : t' ∷ us' ≡ t ∷ us = sym e' ∙ e in
    let p : t' ≡ t = cc in
    let q : us' ≡ us = cc in
    go (component_back rule depth s back.1 presence t b within_limits (subst (λ x. WritesPart presence (Bytes rule s) x b) p w))
    (λ ds. parts_back rule depth all ps has.1 back.2 (suc k) (omega (arith, fits)) (λ c input x rest h. among c input x rest (inr h)) us more ds others (subst (λ x. PartsWritten (fields_of rule ps) x more) q ws))
    (subst (λ l. ComponentsOf rule k (part presence s ps) l cs) f m)
  where
    Later : Type 0
    Later = (ds : List Written) → ComponentsOf rule (suc k) ps more ds → (rs : List Tree) × (vs : List Tree) × SetBack rule depth all (suc k) ps us ds rs vs

    left : (v : Tree) → Same t v → IsMissing presence v → (rs : List Tree) × (vs : List Tree) × SetBack rule depth all (suc k) ps us cs rs vs
        → (rs : List Tree) × (vs : List Tree) × SetBack rule depth all k (part presence s ps) ts cs rs vs
    left v same n (rs, vs, (alike, by, low, each)) = (
      rs,
      v ∷ vs,
      (subst (λ l. Each Same l (v ∷ vs)) (sym e) (v, vs, refl, same, alike), (v, vs, refl, inr (low k (omega arith), n), by), (λ j h. low j (omega arith)), each),
    )

    more_read : (v : Tree) (o : List ℕ) → IsNoDefault presence v → ((rest : List ℕ) (closing : Bool) → Reads rule s depth closing (o ++ rest) v rest) → ReadMore rule depth all o (chosen k v)
    more_read v o differs again = read_more rule depth all k presence s ps back.0 has.0 among v o differs again

    there : (v : Tree) (c : Written) (ds : List Written) → Same t v → cs ≡ c ∷ ds → IsReadBack rule depth all c (chosen k v)
        → (rs : List Tree) × (vs : List Tree) × SetBack rule depth all (suc k) ps us ds rs vs → (rs : List Tree) × (vs : List Tree) × SetBack rule depth all k (part presence s ps) ts cs rs vs
    there v c ds same g r (rs, vs, (alike, by, low, each)) = (
      chosen k v ∷ rs,
      v ∷ vs,
      (
        subst (λ l. Each Same l (v ∷ vs)) (sym e) (v, vs, refl, same, alike),
        (
          v,
          vs,
          refl,
          inl (record { before = []; after = rs; is = refl; none_before = tt; none_after = low k (omega arith) }),
          by_part_more (presences ps) (suc k) k v rs vs (omega arith) by,
        ),
        (λ j h. (other_part j k v (λ x. omega arith), low j (omega arith))),
        subst (λ l. Each (IsReadBack rule depth all) l (chosen k v ∷ rs)) (sym g) (chosen k v, rs, refl, r, each),
      ),
    )

    written : (v : Tree) (b : List ℕ) → Same t v → IsNoDefault presence v → ((rest : List ℕ) (closing : Bool) → Reads rule s depth closing (b ++ rest) v rest) → Later
        → ComponentsOf rule k (part presence s ps) (b ∷ more) cs → (rs : List Tree) × (vs : List Tree) × SetBack rule depth all k (part presence s ps) ts cs rs vs
    written v [] same differs again later m = absurd (nothing_is_next ((more_read v [] differs again).begins []))
    written v (o ∷ b) same differs again later (tag, ds, g, h, m) =
        let more = more_read v (o ∷ b) differs again in
        there v (record { tag = tag; number = k; octets = o ∷ b }) ds same g (record {
          again = λ rest closing. inl (more.again rest closing);
          begins = more.begins;
          first = placed_begins rule (IsFirst s) (o ∷ b) tag h;
          numbered = inl (omega (arith, fits), v, refl);
        }) (later ds m)

    go : ComponentBack rule depth presence s t b → Later → ComponentsOf rule k (part presence s ps) (b ∷ more) cs
        → (rs : List Tree) × (vs : List Tree) × SetBack rule depth all k (part presence s ps) ts cs rs vs
    go (v, same, inl (g, n)) later m = left v same n (later cs (subst (λ l. ComponentsOf rule k (part presence s ps) (l ∷ more) cs) g m))
    go (v, same, inr (differs, again)) later m = written v b same differs again later m

-- ---- unknown values

abbrev pub chosen_all : ℕ → List Tree → List Tree
chosen_all k [] = []
chosen_all k (u ∷ us) = chosen k u ∷ chosen_all k us

unknown_back : (rule : Codec) (depth : ℕ) (all : Parts) (k : ℕ) → count all ≤ k → (us : List Tree) (es : List Written) → EachOf (IsUnknownValue rule (IsFirstOf all)) us → UnknownComponents k us es
    → Each (IsReadBack rule depth all) es (chosen_all (count all) us)
unknown_back rule depth all k high [] es m h = subst (λ l. Each (IsReadBack rule depth all) l []) (sym h) refl
unknown_back rule depth all k high (u ∷ us) es (m, ms) (tag, b, more, e, begins, f, h) =
    subst (λ l. Each (IsReadBack rule depth all) l (chosen_all (count all) (u ∷ us))) (sym f) (
      chosen (count all) u,
      chosen_all (count all) us,
      refl,
      record {
        again = λ rest closing. inr (unknown_read rule (IsFirstOf all) (count all) u b m e (whole_octets rule u b m.one e) rest);
        begins = λ rest. let n = unknown_read rule (IsFirstOf all) (count all) u b m e (whole_octets rule u b m.one e) rest in (form rule, n.2, n.3);
        first = λ z. begins;
        numbered = inr (high, ap (chosen (count all)) e);
      },
      unknown_back rule depth all (suc k) (omega (arith, high)) us more ms h,
    )

unknown_itself : (k : ℕ) (us : List Tree) (es : List Written) → UnknownComponents k us es → Each Same us us
unknown_itself k [] es h = refl
unknown_itself k (u ∷ us) es (tag, b, more, e, begins, f, h) = (u, us, refl, subst (λ x. Same x x) (sym e) refl, unknown_itself (suc k) us more h)

-- Their readings say nothing of the parts.
none_chosen : (j k : ℕ) (us : List Tree) → (j ≡ k → ⊥) → NoneOf j (chosen_all k us)
none_chosen j k [] h = tt
none_chosen j k (u ∷ us) h = (other_part j k u h, none_chosen j k us h)

by_part_beside : (ps : Parts) (j k : ℕ) (rs us ts : List Tree) → j + count ps ≤ k → ByPart j (presences ps) rs ts → ByPart j (presences ps) (rs ++ chosen_all k us) ts
by_part_beside none j k rs us ts h b = b
by_part_beside (part presence s ps) j k rs us ts h (t, vs, e, inl o, b) = (
  t,
  vs,
  e,
  inl (record {
    before = o.before;
    after = o.after ++ chosen_all k us;
    is = ap (λ l. l ++ chosen_all k us) o.is ∙ append_assoc o.before (chosen j t ∷ o.after) (chosen_all k us);
    none_before = o.none_before;
    none_after = none_join j o.after (chosen_all k us) o.none_after (none_chosen j k us (λ f. omega (arith, h, f)));
  }),
  by_part_beside ps (suc j) k rs us vs (omega (arith, h)) b,
)
by_part_beside (part presence s ps) j k rs us ts h (t, vs, e, inr (n, m), b) =
    (t, vs, e, inr (none_join j rs (chosen_all k us) n (none_chosen j k us (λ f. omega (arith, h, f))), m), by_part_beside ps (suc j) k rs us vs (omega (arith, h)) b)

-- The readings of unknown values are in the order of these.
all_unknown : (rule : Codec) (depth : ℕ) (all : Parts) (k : ℕ) (ds es : List Written) (us ss : List Tree) → Each (IsReadBack rule depth all) ds ss → Late (count all) ds es → UnknownComponents k us es → AllOf (count all) ss us
all_unknown rule depth all k [] es [] ss h late m = subst (λ l. AllOf (count all) l []) (sym h) refl
all_unknown rule depth all k [] es (u ∷ us) ss h late (tag, b, more, e, begins, f, m) = cc
all_unknown rule depth all k (d ∷ ds) es [] ss (s, rest, g, r, h) (inl (l, more, f, late)) m = cc
all_unknown rule depth all k (d ∷ ds) es (u ∷ us) ss (s, rest, g, r, h) (inl (l, others, i, late)) (tag, b, more, e, begins, f, m) =
    let x : d ∷ others ≡ record { tag = tag; number = k; octets = b } ∷ more = sym i ∙ f in
    let y : d ≡ record { tag = tag; number = k; octets = b } = cc in
    let z : others ≡ more = cc in
    subst (λ l. AllOf (count all) l (u ∷ us)) (sym g) (inl (u, us, is_it y r.numbered, refl, all_unknown rule depth all (suc k) ds more us rest h (subst (Late (count all) ds) z late) m))
  where
    is_it : d ≡ record { tag = tag; number = k; octets = b } → IsNumbered (count all) d s → s ≡ chosen (count all) u
    is_it y (inl (low, v, j)) = absurd (omega (arith, low, l))
    is_it y (inr (high, j)) = j ∙ ap (chosen (count all)) (ap (λ (c : Written). numbers c.octets) y ∙ sym e)
all_unknown rule depth all k (d ∷ ds) es us ss (s, rest, g, r, h) (inr (l, late)) m =
    subst (λ x. AllOf (count all) x us) (sym g) (inr (differs r.numbered, all_unknown rule depth all k ds es us rest h late m))
  where
    differs : IsNumbered (count all) d s → (v : Tree) → s ≡ chosen (count all) v → ⊥
    differs (inl (low, w, j)) v i =
        let x : chosen d.number w ≡ chosen (count all) v = sym j ∙ i in
        let y : d.number ≡ count all = cc in
        omega (arith, low, y)
    differs (inr (high, j)) v i = omega (arith, high, l)

pub sorted_set_back : (rule : Codec) (depth : ℕ) (extensible : Bool) (ps : Parts) → EachTagged ps → EachBack rule depth ps → (t : Tree) (ts us : List Tree) (bs : List (List ℕ)) (cs es ds : List Written)
    → IsSetTree extensible ts us t → AreWithinLimits rule ps depth ts → AreUnknownValues rule (IsFirstOf ps) us → PartsWritten (fields_of rule ps) ts bs → ComponentsOf rule 0 ps bs cs
    → UnknownComponents (count ps) us es → IsReordered (cs ++ es) ds → AreInOrder ComesBefore ds
    → (u : Tree) × Same t u × IsReadAs (λ c. ReadsSortedSet rule extensible (presences ps) (count ps) (OpenComponent rule depth ps c) c) (contents_of ds) u
sorted_set_back rule depth extensible ps has back t ts us bs cs es ds tree within_limits (each_unknown, (os, octets, firsts)) w m n p order =
    go (parts_back rule depth ps ps has back 0 (omega arith) (λ c input t rest h. h) ts bs cs within_limits w m)
  where
    late : Late (count ps) ds es
    late = unknown_among rule ps bs us cs es ds m n p order (unknown_in_order (count ps) us es os n octets firsts)

    go : (rs : List Tree) × (vs : List Tree) × SetBack rule depth ps 0 ps ts cs rs vs
        → (u : Tree) × Same t u × IsReadAs (λ c. ReadsSortedSet rule extensible (presences ps) (count ps) (OpenComponent rule depth ps c) c) (contents_of ds) u
    go (rs, vs, (alike, by, low, each)) =
        let qs = chosen_all (count ps) us in
        let all = each_append (IsReadBack rule depth ps) cs es rs qs each (unknown_back rule depth ps (count ps) (omega arith) us es each_unknown n) in
        let o = each_reordered (IsReadBack rule depth ps) (cs ++ es) ds (rs ++ qs) p all in
        let r = set_tree_same extensible ts us vs us t tree alike (unknown_itself (count ps) us es n) in (
          r.0,
          r.2,
          λ closing tail e. (
            o.0,
            vs,
            us,
            r.1,
            many_read rule depth ps ds o.0 o.1 closing tail e,
            by_part_reordered (presences ps) 0 (rs ++ qs) o.0 vs o.2 (by_part_beside ps 0 (count ps) rs us vs (omega arith) by),
            all_unknown rule depth ps (count ps) ds es us o.0 o.1 late n,
            λ z. (octets_in ds, from_read rule depth ps ds o.0 o.1 closing tail, (tags_in ds, begin_read rule depth ps ds o.0 o.1 z, rising ds order)),
          ),
        )

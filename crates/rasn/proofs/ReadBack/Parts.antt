-- The parts of a SEQUENCE and the alternatives of a CHOICE are read as they were written.
use Rattle.std.proofs.Common.{◌≡◌, ℕ, ◌+◌, suc, ◌<◌, ◌⊎◌, ◌≢◌, inl, inr, List, [], ◌∷◌, ◌++◌, Bool, true, false, Option, Some, None, refl, sym, ap, ◌∙◌, subst, arith, append_assoc}
use Rattle.rasn_types.specs.Tags.{Form, form, eoc}
use Rattle.rasn_types.specs.declared.types.codec.Codec.{Codec}
use Rattle.rasn_types.specs.declared.types.tag.Tag.{Tag}
use Rattle.rasn_types.specs.Framing.{NextTag, Ended}
use Rattle.rasn_types.specs.Shapes.{Tree, items, chosen, absent, Shape, leaf, any, prefix, choice, open_choice, option, seq, set, sorted_set, list, set_of, unknown, Parts, part, count, own, IsFirst, Key, own_tag, first_tags, Presence, required, addition, optional_by, default_by, Sought, one_tag, any_of, sought_by, sought_in, IsAlwaysPresent}
use Rattle.rasn_types.specs.Shapes.Parts.{none}
use Rattle.rasn_types.specs.Readings.{IsLeftOut, IsPresent, Part, IsNoDefault, ReadsPart, ReadsInOrder, IsMissing, AllMissing, presences_in, HasRequired, AreAllLeftOut, ReadsSeq, ReadsChoice}
use Rattle.rasn_types.specs.Contents.{joined_lists}
use Rattle.rasn_types.specs.Grammar.{Reads, parts_of}
use Rattle.rasn_types.specs.Bytes.{Each, Same, WritesPart, PartsWritten, WritesChoice, Bytes, fields_of}
use Rattle.rasn_types.specs.Carried.{PartIsWithinLimits, IsUnwritten, BeginsUnknown, NoneTaken, IsWithinLimits, AreWithinLimits, ChosenIsWithinLimits}
use Rattle.rasn_types.specs.Lawful.{HasTag, IsFirstBehind, IsDistinguished, IsRecognized, MayBeLeftOut, EndsUnknown, AreLawfulInOrder}
use Rattle.rasn_types.proofs.Headers.Frames.{not_ended}
use Rattle.rasn.proofs.ReadBack.Begins.{begins, HasNextTag, has_next_tag, tagged, IsOpenChoice, Starts, starts}
use Rattle.rasn.proofs.ReadBack.Constructed.{IsTail, tail_ended, IsReadAs}
use Rattle.rasn_types.proofs.SetOf.Same.{each_same, same_trans}
use Rattle.rasn_types.proofs.Encoding.SameOctets.{other_written, written_below}

-- What is written of the shape is read again at this depth, as a tree that is the same.
abbrev pub IsBack : Codec → Shape → ℕ → Type 0
IsBack rule s depth = (t : Tree) (b : List ℕ) → IsWithinLimits rule s depth t → Bytes rule s t b
    → (u : Tree) × Same t u × ((rest : List ℕ) (closing : Bool) → Reads rule s depth closing (b ++ rest) u rest)

abbrev pub EachBack : Codec → ℕ → Parts → Type 0
EachBack rule depth none = Unit {0}
EachBack rule depth (part presence s ps) = IsAlwaysPresent s × IsBack rule s depth × EachBack rule depth ps

-- each has a tag
abbrev pub EachTagged : Parts → Type 0
EachTagged none = Unit {0}
EachTagged (part presence s ps) = HasTag s × EachTagged ps

own_first : (s : Shape) → IsAlwaysPresent s → (tag n : Tag) → own s ≡ Some tag → IsFirst s n → n ≡ tag
own_first (leaf kind t bounds) solid tag n e h = cc
own_first (any (Some t)) solid tag n e h = cc
own_first (any None) solid tag n e h = cc
own_first (prefix t s) solid tag n e h = cc
own_first (choice ps) solid tag n e h = cc
own_first (open_choice ps) solid tag n e h = cc
own_first (option o s) solid tag n e h = absurd solid
own_first (seq t ps) solid tag n e h = cc
own_first (set t ps) solid tag n e h = cc
own_first (sorted_set extensible t ps) solid tag n e h = cc
own_first (list t s size) solid tag n e h = cc
own_first (set_of t s size) solid tag n e h = cc
own_first unknown solid tag n e h = absurd solid

-- The contents end, or one of the parts follows.
abbrev pub IsKnownNext : Form → Parts → Bool → List ℕ → Type 0
IsKnownNext spelling ps closing input = Ended closing input ⊎ Starts spelling (IsFirstBehind ps) input

-- No part is written before unknown values, the first of which follows.
abbrev pub IsUnknownNext : Parts → List Tree → List ℕ → Type 0
IsUnknownNext ps ts input = (o : List ℕ) × (more : List ℕ) × BeginsUnknown ps ts o × (input ≡ o ++ more) × (o ≢ [])

abbrev pub IsFollowed : Form → Parts → List Tree → Bool → List ℕ → Type 0
IsFollowed spelling ps ts closing input = IsKnownNext spelling ps closing input ⊎ IsUnknownNext ps ts input

own_left_out : (spelling : Form) (tag : Option Tag) (ps : Parts) → IsDistinguished tag ps → (closing : Bool) (input : List ℕ) → IsKnownNext spelling ps closing input → IsLeftOut spelling (one_tag tag) closing input
own_left_out spelling None ps told closing input (inl e) = e
own_left_out spelling None ps told closing input (inr (inl (n, next, f))) = absurd (subst (λ q. IsFirstBehind q n) told f)
own_left_out spelling None ps told closing input (inr (inr f)) = absurd (subst (λ q. IsFirstBehind q eoc) told (f eoc))
own_left_out spelling (Some tag) ps told closing input (inl e) = inl e
own_left_out spelling (Some tag) ps told closing input (inr (inl (n, next, f))) = inr (n, next, λ e. told (subst (IsFirstBehind ps) e f))
own_left_out spelling (Some tag) ps told closing input (inr (inr f)) = absurd (told (f tag))

known_left_out : (spelling : Form) (key : Key) (s : Shape) (ps : Parts) → IsRecognized key s ps → (closing : Bool) (input : List ℕ) → IsKnownNext spelling ps closing input → IsLeftOut spelling (sought_by key s) closing input
known_left_out spelling own_tag s ps told closing input f = own_left_out spelling (own s) ps told closing input f
known_left_out spelling first_tags s ps told closing input (inl e) = inl e
known_left_out spelling first_tags s ps told closing input (inr (inl (n, next, f))) = inr (n, next, λ h. told.2 n h f)
known_left_out spelling first_tags s ps told closing input (inr (inr f)) = absurd (told.1 f)

-- What is left out before the first of some values is left out before all of them.
not_ended_alone : (o : List ℕ) → o ≢ [] → Ended false o → ⊥
not_ended_alone o some (inl e) = some e
not_ended_alone o some (inr h) = let e = h.0 in cc

pub next_more : {spelling : Form} {o : List ℕ} {n : Tag} (more : List ℕ) → NextTag spelling o n → NextTag spelling (o ++ more) n
next_more {o = o} {n = n} more h = record {
  begins = record {
    id = h.begins.id;
    bit = h.begins.bit;
    more = h.begins.more ++ more;
    spells = h.begins.spells;
    is = ap (λ z. z ++ more) h.begins.is ∙ append_assoc h.begins.id h.begins.more more;
  };
  is_one = h.is_one;
  shortest = h.shortest;
}

left_out_more : (spelling : Form) (tags : Sought) (closing : Bool) (o more : List ℕ) → o ≢ [] → IsLeftOut spelling tags false o → IsLeftOut spelling tags closing (o ++ more)
left_out_more spelling (one_tag None) closing o more some h = absurd (not_ended_alone o some h)
left_out_more spelling (one_tag (Some tag)) closing o more some (inl h) = absurd (not_ended_alone o some h)
left_out_more spelling (one_tag (Some tag)) closing o more some (inr (n, next, d)) = inr (n, next_more more next, d)
left_out_more spelling (any_of P) closing o more some (inl h) = absurd (not_ended_alone o some h)
left_out_more spelling (any_of P) closing o more some (inr (n, next, d)) = inr (n, next_more more next, d)

left_out : (spelling : Form) (key : Key) (s : Shape) (ps : Parts) (us : List Tree) → IsRecognized key s ps → ((o : List ℕ) → BeginsUnknown ps us o → IsLeftOut spelling (sought_by key s) false o)
    → (closing : Bool) (input : List ℕ) → IsFollowed spelling ps us closing input → IsLeftOut spelling (sought_by key s) closing input
left_out spelling key s ps us told taken closing input (inl f) = known_left_out spelling key s ps told closing input f
left_out spelling key s ps us told taken closing input (inr (o, more, b, e, some)) =
    subst (IsLeftOut spelling (sought_by key s) closing) (sym e) (left_out_more spelling (sought_by key s) closing o more some (taken o b))

there : (spelling : Form) (tag : Option Tag) (closing : Bool) (input : List ℕ) (n : Tag) → NextTag spelling input n → ((t : Tag) → tag ≡ Some t → n ≡ t) → IsPresent spelling (one_tag tag) closing input
there spelling None closing input n next e = not_ended closing input n next
there spelling (Some tag) closing input n next e = (not_ended closing input n next, subst (NextTag spelling input) (e tag refl) next)

-- What is read of a shape is there.
pub is_there : (s : Shape) → IsAlwaysPresent s → (rule : Codec) (depth : ℕ) (closing : Bool) (input : List ℕ) (t : Tree) (rest : List ℕ)
    → Reads rule s depth closing input t rest → IsPresent (form rule) (one_tag (own s)) closing input
is_there s solid rule depth closing input t rest h = go (tagged s solid)
  where
    untagged : HasNextTag input → IsPresent (form rule) (one_tag None) closing input
    untagged (f, n, next) = not_ended closing input n next

    go : HasTag s ⊎ ((s ≡ any None) ⊎ IsOpenChoice s) → IsPresent (form rule) (one_tag (own s)) closing input
    go (inl has) = let b = begins s solid has rule depth closing input t rest h in there (form rule) (own s) closing input b.0 b.1 (λ t e. own_first s solid t b.0 e b.2)
    go (inr (inl e)) = subst (λ x. IsPresent (form rule) (one_tag (own x)) closing input) (sym e) (untagged (has_next_tag s solid rule depth closing input t rest h))
    go (inr (inr (ps, e))) = subst (λ x. IsPresent (form rule) (one_tag (own x)) closing input) (sym e) (untagged (has_next_tag s solid rule depth closing input t rest h))

recognized_there : (key : Key) (s : Shape) (ps : Parts) → IsRecognized key s ps → IsAlwaysPresent s → (rule : Codec) (depth : ℕ) (closing : Bool) (input : List ℕ) (t : Tree) (rest : List ℕ)
    → Reads rule s depth closing input t rest → IsPresent (form rule) (sought_by key s) closing input
recognized_there own_tag s ps told solid rule depth closing input t rest h = is_there s solid rule depth closing input t rest h
recognized_there first_tags s ps told solid rule depth closing input t rest h =
    let b = begins s solid told.0 rule depth closing input t rest h in (not_ended closing input b.0 b.1, b.0, b.1, b.2)

-- One part, with what it is followed by.
abbrev pub PartBack : Codec → ℕ → Presence → Shape → Parts → List Tree → Tree → List ℕ → Tree → Type 0
PartBack rule depth presence s ps us t b u = Same t u × ((closing : Bool) (input : List ℕ) → IsFollowed (form rule) ps us closing input
    → ReadsPart rule presence (sought_in presence s) (Reads rule s depth closing) closing (b ++ input) u input × IsFollowed (form rule) (part presence s ps) (t ∷ us) closing (b ++ input))

behind_first : (presence : Presence) (s : Shape) (ps : Parts) (n : Tag) → IsFirst s n → IsFirstBehind (part presence s ps) n
behind_first required s ps n h = h
behind_first addition s ps n h = h
behind_first (optional_by key) s ps n h = inl h
behind_first (default_by key d) s ps n h = inl h

part_begins : {spelling : Form} (presence : Presence) (s : Shape) (ps : Parts) (closing : Bool) (input : List ℕ) → Starts spelling (IsFirst s) input → IsKnownNext spelling (part presence s ps) closing input
part_begins presence s ps closing input (inl (n, next, f)) = inr (inl (n, next, behind_first presence s ps n f))
part_begins presence s ps closing input (inr f) = inr (inr (λ n. behind_first presence s ps n (f n)))

skips : {spelling : Form} (presence : Presence) (s : Shape) (ps : Parts) → ((n : Tag) → IsFirstBehind ps n → IsFirstBehind (part presence s ps) n)
    → (t : Tree) (us : List Tree) → IsUnwritten presence t → (closing : Bool) (input : List ℕ) → IsFollowed spelling ps us closing input → IsFollowed spelling (part presence s ps) (t ∷ us) closing input
skips presence s ps more t us left closing input (inl (inl e)) = inl (inl e)
skips presence s ps more t us left closing input (inl (inr (inl (n, next, f)))) = inl (inr (inl (n, next, more n f)))
skips presence s ps more t us left closing input (inl (inr (inr f))) = inl (inr (inr (λ n. more n (f n))))
skips presence s ps more t us left closing input (inr (o, after, b, e, some)) = inr (o, after, inr (left, b), e, some)

module _ (rule : Codec) (depth : ℕ) (s : Shape) (solid : IsAlwaysPresent s) (back : IsBack rule s depth) (ps : Parts) (us : List Tree) where
  -- the part is written
  written : (presence : Presence) (t : Tree) (b : List ℕ) → IsWithinLimits rule s depth t → Bytes rule s t b
      → ((closing : Bool) (input : List ℕ) (u : Tree) (rest : List ℕ) → Same t u → Reads rule s depth closing input u rest
      → ReadsPart rule presence (sought_in presence s) (Reads rule s depth closing) closing input u rest)
      → (u : Tree) × PartBack rule depth presence s ps us t b u
  written presence t b within_limits w read =
      let r = back t b within_limits w in (
        r.0,
        (
          r.1,
          λ closing input f.
              let again = r.2 input closing in
              (read closing (b ++ input) r.0 input r.1 again, inl (part_begins presence s ps closing (b ++ input) (starts s solid rule depth closing (b ++ input) r.0 input again))),
        ),
      )

  -- the part is left out, for v
  left : (presence : Presence) (t v : Tree) (b : List ℕ) → b ≡ [] → Same t v → ((n : Tag) → IsFirstBehind ps n → IsFirstBehind (part presence s ps) n) → IsUnwritten presence t
      → ((closing : Bool) (input : List ℕ) → IsFollowed (form rule) ps us closing input → ReadsPart rule presence (sought_in presence s) (Reads rule s depth closing) closing input v input)
      → (u : Tree) × PartBack rule depth presence s ps us t b u
  left presence t v b e same more unwritten read = (
    v,
    (
      same,
      λ closing input f.
          let g : input ≡ b ++ input = ap (λ l. l ++ input) (sym e) in (
            subst (λ i. ReadsPart rule presence (sought_in presence s) (Reads rule s depth closing) closing i v input) g (read closing input f),
            subst (λ i. IsFollowed (form rule) (part presence s ps) (t ∷ us) closing i) g (skips presence s ps more t us unwritten closing input f),
          ),
    ),
  )

  part_back : (presence : Presence) → MayBeLeftOut presence s ps → (t : Tree) (b : List ℕ) → (IsUnwritten presence t → (o : List ℕ) → BeginsUnknown ps us o → IsLeftOut (form rule) (sought_in presence s) false o)
      → PartIsWithinLimits presence (IsWithinLimits rule s depth) t → WritesPart presence (Bytes rule s) t b → (u : Tree) × PartBack rule depth presence s ps us t b u
  part_back required told t b taken within_limits w = written required t b within_limits w (λ closing input u rest same r. r)
  part_back addition told t b taken within_limits (inl w) = absurd (within_limits.0 w.0)
  part_back addition told t b taken within_limits (inr w) = written addition t b within_limits.1 w.1 (λ closing input u rest same r. r)
  part_back (optional_by key) told t b taken within_limits (inl (e, f)) =
      left (optional_by key) t absent b f (subst (λ x. Same x absent) (sym e) refl) (λ n h. inr h) e
      (λ closing input g. inl (left_out (form rule) key s ps us told (taken e) closing input g, refl, refl))
  part_back (optional_by key) told t b taken (inl e) (inr w) = absurd (w.0 e)
  part_back (optional_by key) told t b taken (inr within_limits) (inr w) =
      written (optional_by key) t b within_limits w.1 (λ closing input u rest same r. inr (recognized_there key s ps told solid rule depth closing input u rest r, r))
  part_back (default_by key d) told t b taken within_limits (inl (e, f)) =
      left (default_by key d) t d b f e (λ n h. inr h) e (λ closing input g. inl (left_out (form rule) key s ps us told (taken e) closing input g, refl, refl))
  part_back (default_by key d) told t b taken (inl e) (inr w) = absurd (w.0 e)
  part_back (default_by key d) told t b taken (inr within_limits) (inr w) =
      written (default_by key d) t b within_limits w.1 (λ closing input u rest same r. inr (recognized_there key s ps told solid rule depth closing input u rest r, (r, λ z e. w.0 (same_trans t u d same e))))

-- Unknown values are read again up to the end, and are next unless there are none.
abbrev pub UnknownBack : Codec → ℕ → Type 0
UnknownBack rule depth = (t : Tree) (b : List ℕ) → IsWithinLimits rule unknown depth t → Bytes rule unknown t b
    → (u : Tree) × Same t u × ((closing : Bool) (tail : List ℕ) → IsTail closing tail
    → Reads rule unknown depth closing (b ++ tail) u tail × (Ended closing (b ++ tail) ⊎ IsUnknownNext (part required unknown none) (t ∷ []) (b ++ tail)))

-- What is written of each part is read again, or the part is unknown values.
abbrev pub EachBackInOrder : Codec → ℕ → Parts → Type 0
EachBackInOrder rule depth none = Unit {0}
EachBackInOrder rule depth (part presence s ps) = ((IsAlwaysPresent s × IsBack rule s depth) ⊎ (s ≡ unknown)) × EachBackInOrder rule depth ps

known_back : (rule : Codec) (depth : ℕ) (s : Shape) → IsAlwaysPresent s → (IsAlwaysPresent s × IsBack rule s depth) ⊎ (s ≡ unknown) → IsBack rule s depth
known_back rule depth s solid (inl h) = h.1
known_back rule depth s solid (inr e) = absurd (subst IsAlwaysPresent e solid)

abbrev pub PartsBack : Codec → ℕ → Parts → List Tree → List (List ℕ) → List Tree → Type 0
PartsBack rule depth ps ts bs us = Each Same ts us × ((closing : Bool) (tail : List ℕ) → IsTail closing tail
    → ReadsInOrder rule (parts_of rule ps depth closing) closing (joined_lists bs ++ tail) us tail × IsFollowed (form rule) ps ts closing (joined_lists bs ++ tail))

-- The last part, which is unknown values.
abbrev pub AreBack : Codec → ℕ → List Tree → List (List ℕ) → Presence → Shape → Parts → Type 0
AreBack rule depth ts bs p s ps = AreWithinLimits rule (part p s ps) depth ts → PartsWritten (fields_of rule (part p s ps)) ts bs → (us : List Tree) × PartsBack rule depth (part p s ps) ts bs us

last_back : (rule : Codec) (depth : ℕ) → UnknownBack rule depth → (ts : List Tree) (bs : List (List ℕ)) → AreBack rule depth ts bs required unknown none
unfolding Reads parts_of Bytes fields_of IsWithinLimits
last_back rule depth back ts bs (t, us, e, within_limits, f) (t', us', b, cs, e', g, w, (f', h)) =
    let eq : t' ∷ us' ≡ t ∷ us = sym e' ∙ e in
    let p : t' ≡ t = cc in
    go (back t b within_limits (subst (λ x. Bytes rule unknown x b) p w))
  where
    ts_are : ts ≡ t ∷ []
    ts_are = e ∙ ap (λ l. t ∷ l) f

    bs_are : (tail : List ℕ) → joined_lists bs ++ tail ≡ b ++ tail
    bs_are tail = ap (λ l. joined_lists l ++ tail) (g ∙ ap (λ l. b ∷ l) h) ∙ append_assoc b [] tail

    next : (closing : Bool) (input : List ℕ) → Ended closing input ⊎ IsUnknownNext (part required unknown none) (t ∷ []) input → IsFollowed (form rule) (part required unknown none) (t ∷ []) closing input
    next closing input (inl x) = inl (inl x)
    next closing input (inr x) = inr x

    go : (u : Tree) × Same t u × ((closing : Bool) (tail : List ℕ) → IsTail closing tail
        → Reads rule unknown depth closing (b ++ tail) u tail × (Ended closing (b ++ tail) ⊎ IsUnknownNext (part required unknown none) (t ∷ []) (b ++ tail)))
        → (us : List Tree) × PartsBack rule depth (part required unknown none) ts bs us
    go (u, same, all) = (
      u ∷ [],
      (
        subst (λ l. Each Same l (u ∷ [])) (sym ts_are) (u, [], refl, same, refl),
        λ closing tail z.
            let a = all closing tail z in (
              subst (λ i. ReadsInOrder rule (parts_of rule (part required unknown none) depth closing) closing i (u ∷ []) tail) (sym (bs_are tail)) (u, [], tail, refl, a.0, (refl, refl)),
              subst (λ i. IsFollowed (form rule) (part required unknown none) ts closing i) (sym (bs_are tail))
                  (subst (λ l. IsFollowed (form rule) (part required unknown none) l closing (b ++ tail)) (sym ts_are) (next closing (b ++ tail) a.1)),
            ),
      ),
    )

ends_back : (rule : Codec) (depth : ℕ) → UnknownBack rule depth → (presence : Presence) (s : Shape) (ps : Parts) → EndsUnknown presence s ps → (ts : List Tree) (bs : List (List ℕ)) → AreBack rule depth ts bs presence s ps
ends_back rule depth back presence s ps (e, f, g) ts bs =
    subst (λ p. AreBack rule depth ts bs p s ps) (sym e)
    (subst (λ x. AreBack rule depth ts bs required x ps) (sym f)
    (subst (λ q. AreBack rule depth ts bs required unknown q) (sym g) (last_back rule depth back ts bs)))

pub in_order_back : (rule : Codec) (depth : ℕ) → UnknownBack rule depth → (ps : Parts) → AreLawfulInOrder ps → EachBackInOrder rule depth ps → (ts : List Tree) (bs : List (List ℕ))
    → AreWithinLimits rule ps depth ts → NoneTaken rule ps ts → PartsWritten (fields_of rule ps) ts bs → (us : List Tree) × PartsBack rule depth ps ts bs us
unfolding Reads parts_of Bytes fields_of IsWithinLimits AreLawfulInOrder
in_order_back rule depth last none lawful back ts bs within_limits taken (e, f) = (
  [],
  (
    subst (λ l. Each Same l []) (sym e) refl,
    λ closing tail t.
        let g : joined_lists bs ++ tail ≡ tail = ap (λ l. joined_lists l ++ tail) f in
        ((refl, sym g), inl (inl (subst (Ended closing) (sym g) (tail_ended closing tail t)))),
  ),
)
in_order_back rule depth last (part presence s ps) (inl ends) back ts bs within_limits taken w = ends_back rule depth last presence s ps ends ts bs within_limits w
in_order_back rule depth last (part presence s ps) (inr lawful) back ts bs (t, us, e, within_limits, others) taken (t', us', b, cs, e', f, w, ws) =
    let none_taken : NoneTaken rule (part presence s ps) (t ∷ us) = subst (NoneTaken rule (part presence s ps)) e taken in
    let eq : t' ∷ us' ≡ t ∷ us = sym e' ∙ e in
    let p : t' ≡ t = cc in
    let q : us' ≡ us = cc in
    go (part_back rule depth s lawful.0 (known_back rule depth s lawful.0 back.0) ps us presence lawful.2 t b none_taken.0 within_limits (subst (λ x. WritesPart presence (Bytes rule s) x b) p w))
    (in_order_back rule depth last ps lawful.3 back.1 us cs others none_taken.1 (subst (λ x. PartsWritten (fields_of rule ps) x cs) q ws))
  where
    go : (v : Tree) × PartBack rule depth presence s ps us t b v → (vs : List Tree) × PartsBack rule depth ps us cs vs
        → (us : List Tree) × PartsBack rule depth (part presence s ps) ts bs us
    go (v, (same, one)) (vs, (alike, all)) = (
      v ∷ vs,
      (
        subst (λ l. Each Same l (v ∷ vs)) (sym e) (v, vs, refl, same, alike),
        λ closing tail z.
            let g : joined_lists bs ++ tail ≡ b ++ (joined_lists cs ++ tail) = ap (λ l. joined_lists l ++ tail) f ∙ append_assoc b (joined_lists cs) tail in
            let a = all closing tail z in
            let o = one closing (joined_lists cs ++ tail) a.1 in (
              subst (λ i. ReadsInOrder rule (parts_of rule (part presence s ps) depth closing) closing i (v ∷ vs) tail) (sym g) (v, vs, (joined_lists cs ++ tail), refl, o.0, a.0),
              subst (λ l. IsFollowed (form rule) (part presence s ps) l closing (joined_lists bs ++ tail)) (sym e) (subst (λ i. IsFollowed (form rule) (part presence s ps) (t ∷ us) closing i) (sym g) o.1),
            ),
      ),
    )

-- Of nothing only what may be left out is read.
pub nothing_is_next : HasNextTag [] → ⊥
nothing_is_next (f, n, next) = not_ended false [] n next (inl refl)

missing_in_nothing : (rule : Codec) (depth : ℕ) (c : Bool) (presence : Presence) (s : Shape) → IsAlwaysPresent s → (t : Tree) (rest : List ℕ)
    → ReadsPart rule presence (sought_in presence s) (Reads rule s depth c) false [] t rest → IsMissing presence t × (rest ≡ [])
missing_in_nothing rule depth c required s solid t rest h = absurd (nothing_is_next (has_next_tag s solid rule depth c [] t rest h))
missing_in_nothing rule depth c addition s solid t rest h = absurd (nothing_is_next (has_next_tag s solid rule depth c [] t rest h))
missing_in_nothing rule depth c (optional_by key) s solid t rest (inl (p, q, r)) = (q, r)
missing_in_nothing rule depth c (optional_by key) s solid t rest (inr (p, h)) = absurd (nothing_is_next (has_next_tag s solid rule depth c [] t rest h))
missing_in_nothing rule depth c (default_by key d) s solid t rest (inl (p, q, r)) = (q, r)
missing_in_nothing rule depth c (default_by key d) s solid t rest (inr (p, h)) = absurd (nothing_is_next (has_next_tag s solid rule depth c [] t rest h.0))

-- A part that takes no octets isn't required.
abbrev pub EachSolid : Parts → Type 0
EachSolid none = Unit {0}
EachSolid (part presence s ps) = (IsAlwaysPresent s ⊎ (presence ≡ required)) × EachSolid ps

all_missing_in_nothing : (rule : Codec) (depth : ℕ) (c : Bool) (ps : Parts) → EachSolid ps → (HasRequired (parts_of rule ps depth c) → ⊥) → (ts : List Tree) (rest : List ℕ)
    → ReadsInOrder rule (parts_of rule ps depth c) false [] ts rest → AllMissing (presences_in (parts_of rule ps depth c)) ts
unfolding Reads parts_of Bytes fields_of IsWithinLimits
all_missing_in_nothing rule depth c none solid optional ts rest h = h.0
all_missing_in_nothing rule depth c (part presence s ps) (inl solid, others) optional ts rest (t, us, m, e, h, k) =
    let r = missing_in_nothing rule depth c presence s solid t m h in
    (t, us, e, r.0, all_missing_in_nothing rule depth c ps others (λ x. optional (inr x)) us rest (subst (λ i. ReadsInOrder rule (parts_of rule ps depth c) false i us rest) r.1 k))
all_missing_in_nothing rule depth c (part presence s ps) (inr needed, others) optional ts rest h = absurd (optional (inl needed))

each_solid : (ps : Parts) → AreLawfulInOrder ps → EachSolid ps
unfolding AreLawfulInOrder
each_solid none h = tt
each_solid (part presence s ps) (inl h) = (inr h.0, subst EachSolid (sym h.2) tt)
each_solid (part presence s ps) (inr h) = (inl h.0, each_solid ps h.3)

is_required : (presence : Presence) → (presence ≡ required) ⊎ (presence ≢ required)
is_required required = inl refl
is_required (optional_by key) = inr (λ e. cc)
is_required addition = inr (λ e. cc)
is_required (default_by key d) = inr (λ e. cc)

has_required : (ps : List Part) → HasRequired ps ⊎ (HasRequired ps → ⊥)
has_required [] = inr (λ h. h)
has_required (p ∷ ps) = go (is_required p.presence) (has_required ps)
  where
    go : (p.presence ≡ required) ⊎ (p.presence ≢ required) → HasRequired ps ⊎ (HasRequired ps → ⊥)
        → ((p.presence ≡ required) ⊎ HasRequired ps) ⊎ ((p.presence ≡ required) ⊎ HasRequired ps → ⊥)
    go (inl e) k = inl (inl e)
    go (inr e) (inl k) = inl (inr k)
    go (inr e) (inr k) = inr (elim [ inl f ↦ e f | inr f ↦ k f ])

is_untagged : (ps : List Part) (closing : Bool) (input : List ℕ) → AreAllLeftOut ps closing input ⊎ (AreAllLeftOut ps closing input → ⊥)
is_untagged ps true input = inr (λ b. let e = b.1 in cc)
is_untagged ps false (x ∷ input) = inr (λ b. let e = b.2 in cc)
is_untagged ps false [] = go (has_required ps)
  where
    go : HasRequired ps ⊎ (HasRequired ps → ⊥) → AreAllLeftOut ps false [] ⊎ (AreAllLeftOut ps false [] → ⊥)
    go (inl h) = inr (λ b. b.0 h)
    go (inr h) = inl (h, refl, refl)

pub seq_back : (rule : Codec) (depth : ℕ) → UnknownBack rule depth → (ps : Parts) → AreLawfulInOrder ps → EachBackInOrder rule depth ps → (ts : List Tree) (bs : List (List ℕ))
    → AreWithinLimits rule ps depth ts → NoneTaken rule ps ts → PartsWritten (fields_of rule ps) ts bs
    → (u : Tree) × Same (items ts) u × IsReadAs (λ c. ReadsSeq rule (parts_of rule ps depth c) c) (joined_lists bs) u
seq_back rule depth last ps lawful back ts bs within_limits taken w = go (in_order_back rule depth last ps lawful back ts bs within_limits taken w)
  where
    bare : (us : List Tree) (closing : Bool) (tail : List ℕ) → IsTail closing tail → AreAllLeftOut (parts_of rule ps depth closing) closing (joined_lists bs ++ tail)
        → ReadsInOrder rule (parts_of rule ps depth closing) closing (joined_lists bs ++ tail) us tail
        → ReadsSeq rule (parts_of rule ps depth closing) closing (joined_lists bs ++ tail) (items us) tail
    bare us true tail t b h = let e = b.1 in cc
    bare us false tail t b h = (
      us,
      refl,
      inl (
        b,
        all_missing_in_nothing rule depth false ps (each_solid ps lawful) b.0 us tail
            (subst (λ i. ReadsInOrder rule (parts_of rule ps depth false) false i us tail) b.2 h),
        t ∙ sym b.2,
      ),
    )

    go : (us : List Tree) × PartsBack rule depth ps ts bs us
        → (u : Tree) × Same (items ts) u × IsReadAs (λ c. ReadsSeq rule (parts_of rule ps depth c) c) (joined_lists bs) u
    go (us, (alike, all)) = (
      items us,
      each_same ts us alike,
      λ closing tail t.
          let a = all closing tail t in
          ⊎_case (is_untagged (parts_of rule ps depth closing) closing (joined_lists bs ++ tail))
          (λ b. bare us closing tail t b a.0) (λ b. (us, refl, inr (b, a.0))),
    )
      where
        ⊎_case : {A B C : Type 0} → A ⊎ B → (A → C) → (B → C) → C
        ⊎_case (inl x) f g = f x
        ⊎_case (inr x) f g = g x

abbrev pub AllRequired : Parts → Type 0
AllRequired none = Unit {0}
AllRequired (part presence s ps) = (presence ≡ required) × AllRequired ps

pub other_index : (rule : Codec) (ps : Parts) (depth k j : ℕ) (t u : Tree) → j < k → t ≡ chosen j u → ChosenIsWithinLimits rule k ps depth t → ⊥
unfolding Reads parts_of Bytes fields_of IsWithinLimits
other_index rule none depth k j t u h e m = m
other_index rule (part presence s ps) depth k j t u h e (inl m) =
    let f = m.1 in let g : j ≡ k = cc in omega arith
other_index rule (part presence s ps) depth k j t u h e (inr m) = other_index rule ps depth (suc k) j t u (omega arith) e m

-- What is within the limits of an alternative has the number of one.
limits_below : (rule : Codec) (ps : Parts) (depth k n : ℕ) (t v : Tree) → t ≡ chosen n v → ChosenIsWithinLimits rule k ps depth t → n < k + count ps
unfolding IsWithinLimits
limits_below rule none depth k n t v e m = absurd m
limits_below rule (part presence s ps) depth k n t v e (inl (u, f, m)) = let g : n ≡ k = cc in omega (arith, g)
limits_below rule (part presence s ps) depth k n t v e (inr m) = let l = limits_below rule ps depth (suc k) n t v e m in omega (arith, l)

-- The number after those of the alternatives isn't within their limits, and isn't written as one of them.
pub none_within : (rule : Codec) (ps : Parts) (depth : ℕ) (t v : Tree) → t ≡ chosen (count ps) v → ChosenIsWithinLimits rule 0 ps depth t → ⊥
none_within rule ps depth t v e m = let l = limits_below rule ps depth 0 (count ps) t v e m in omega (arith, l)

pub none_written : (rule : Codec) (ps : Parts) (t v : Tree) (b : List ℕ) → t ≡ chosen (count ps) v → WritesChoice 0 (fields_of rule ps) t b → ⊥
none_written rule ps t v b e w =
    let r = written_below rule ps 0 t b w in
    let f = r.2 in
    let g : r.0 ≡ count ps = cc in
    omega (arith, r.3, g)

pub choice_back : (rule : Codec) (depth : ℕ) (ps : Parts) → EachTagged ps → AllRequired ps → EachBack rule depth ps → (k : ℕ) (t : Tree) (b : List ℕ)
    → ChosenIsWithinLimits rule k ps depth t → WritesChoice k (fields_of rule ps) t b
    → (u : Tree) × Same t u × ((rest : List ℕ) (closing : Bool) → ReadsChoice rule k (parts_of rule ps depth closing) (b ++ rest) u rest)
unfolding Reads parts_of Bytes fields_of IsWithinLimits
choice_back rule depth none has needed back k t b m w = absurd m
choice_back rule depth (part presence s ps) has needed back k t b (inl (u, e, m)) (inl (v, f, w)) =
    let g : v ≡ u = cc in
    let r = back.1 u b m (subst (λ x. Bytes rule s x b) g w) in (
      chosen k r.0,
      subst (λ x. Same x (chosen k r.0)) (sym e) (r.0, refl, r.1),
      λ rest closing.
          let first = begins s back.0 has.0 rule depth closing (b ++ rest) r.0 rest (r.2 rest closing) in
          inl (r.0, refl, first.0, first.1, first.2, r.2 rest closing, λ z. subst (λ p. IsNoDefault p r.0) (sym needed.0) tt),
    )
choice_back rule depth (part presence s ps) has needed back k t b (inl (u, e, m)) (inr w) = absurd (other_written rule ps (suc k) k t u b (omega arith) e w)
choice_back rule depth (part presence s ps) has needed back k t b (inr m) (inl (v, f, w)) = absurd (other_index rule ps depth (suc k) k t v (omega arith) f m)
choice_back rule depth (part presence s ps) has needed back k t b (inr m) (inr w) =
    let r = choice_back rule depth ps has.1 needed.1 back.2 (suc k) t b m w in (r.0, r.1, λ rest closing. inr (r.2 rest closing))

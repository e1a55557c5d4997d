-- The parts of a message beside the tree of its value.
use Rattle.std.proofs.Common.{◌≡◌, ◌≢◌, ◌⊎◌, inl, inr, ◌+◌, ◌-◌, ℕ, zero, suc, List, [], ◌∷◌, ◌++◌, map, length, drop, append_assoc, append-nil, Bool, true, false, Option, Some, None, refl, sym, ap, ◌∙◌, subst, arith}
use Rattle.std.specs.Prelude.{◌↔◌, ◌||◌, slice_get}
use Rattle.std.specs.List.{AllByRecursion}
use Rattle.std.proofs.lemmas.List.{append_cancel_right}
use Rattle.rasn_types.specs.declared.types.codec.Codec.{Codec}
use Rattle.rasn_types.specs.declared.types.codec.Codec.TheVariants.{Ber, Cer, Der}
use Rattle.rasn_types.specs.declared.types.tag.Tag.{Tag}
use Rattle.rasn_types.specs.Tags.{Form, form, IsStrict}
use Rattle.rasn_types.specs.Framing.{AreOctets, Ended, Frame, with_length, without_length, Extent, definite, indefinite, NextTag, CompleteEncoding}
use Rattle.rasn_types.specs.Contents.{joined_lists}
use Rattle.rasn_types.specs.Shapes.{Shape, Tree, IsSetTree, Same, any, sorted_set, count, IsFirstOf, unknown, numbers, chosen, items, set_elements, absent, Presence as PartPresence, required, addition, optional_by, default_by, Key, looked_for, sought_by, sought_in, presences, IsFirst, IsAlwaysPresent}
use Rattle.rasn_types.specs.Readings.{Reading, AllOf, ReadsContents, definite_form, indefinite_form, ReadsMany, IsLeftOut, ReadsPart, ReadsInOrder, ReadsSeq, ReadsSortedSet, ReadsChoice, AllMissing, HasRequired, presences_in, ByPart, IsMissing, IsNoDefault}
use Rattle.rasn_types.specs.Grammar.{Reads, ReadsAny, ReadsOpenChoice, parts_of, ReadsList, ReadsSetOf}
use Rattle.rasn_types.specs.Lawful.{IsLawful, AreLawfulInOrder}
use Rattle.rasn_types.proofs.Headers.Frames.{frame_one, next_one, not_ended}
use Rattle.rasn_de.specs.Any.{ReadsOpenOctets}
use Rattle.rasn_de.specs.State.{State}
use Rattle.rasn_de.specs.Segments.{octets_inside}
use Rattle.rasn_de.specs.Constructed.{sequence_header, list_header, prefix_header}
use Rattle.rasn_de.specs.declared.ber.de.constructed.ConstructedHeader.{ConstructedHeader}
use Rattle.rasn_de.proofs.Headers.Results.{octets_back}
use Rattle.rasn_de.proofs.Strings.Reads.{frame_octets}
use Rattle.rasn.proofs.OneReading.Any.{any_one, open_one}
use Rattle.rasn.proofs.Included.IntoBer.{reads_in}
use Rattle.rasn.proofs.ReadBack.Begins.{begins}
use Rattle.rasn.proofs.StrictDer.Shapes.{there}
use Rattle.rasn_schema.specs.declared.types.Component.{Component}
use Rattle.rasn_schema.specs.declared.types.Alternative.{Alternative}
use Rattle.rasn_schema.specs.declared.types.Presence.{Presence}
use Rattle.rasn_schema.specs.declared.types.Presence.TheVariants.{Required, Optional, Addition, Default}
use Rattle.rasn_schema.specs.declared.types.«Type».{«Type»}
use Rattle.rasn_schema.specs.declared.types.«Type».TheVariants.{Leaf, Enumerated, Any, Tagged, Choice, Sequence, Set, SequenceOf, SetOf, Unknown}
use Rattle.rasn_schema.specs.Shapes.{shape_of_type, type_by, found_by, nothing, tag_at, is_unknown, alternatives_by, choice_among, components_by, key_of, presence_by, presence_of, presence_in, IsReadable}
use Rattle.rasn_schema.specs.FirstTags.{IsAlwaysThere}
use Rattle.rasn_schema.proofs.Lists.{some_is}
use Rattle.rasn_schema.proofs.OpenEnds.{among_not_unknown}
use Rattle.rasn_dynamic.specs.declared.span.Span.{Span}
use Rattle.rasn_dynamic.specs.Listed.{depth_at, GoesInside, InTurn, UnknownListed, PartListed, ComponentListed, ComponentAt, ComponentsListed, MemberListed, AlternativeListed, ValueListed, PartsInside, Inside}
use Rattle.rasn_dynamic.specs.Sets.{is_extensible, named_components, last_type, AreLawfulMembers, PassesUnknown}
use Rattle.rasn_dynamic.specs.Calls.{is_required, any_required}
use Rattle.rasn_dynamic.specs.SameParts.{AreReadableTypes}
use Rattle.rasn_dynamic.proofs.OpenChoice.{first_alternative, tag_of_among, of_among}
use Rattle.rasn_dynamic.proofs.Named.{named_is}
use Rattle.rasn_dynamic.proofs.Members.{unknown_is}
use Rattle.rasn_dynamic.proofs.Pieces.{only_part, first_of_part, member_is}
use Rattle.rasn_dynamic.proofs.SameParts.{IsKnown, same_reading, unknown_read, not_at_end, not_absent, none_left, same_index, component_known, left_known, header_frame, known_type, readable_type}
use Rattle.rasn_lint.specs.Untyped.{HasOpen}

-- ---- what parts hold of a tree

-- R relates each tree to the parts of its own, one after the other.
abbrev pub Along : (Tree → List Span → Type 0) → List Tree → List Span → Type 0
Along R [] es = es ≡ []
Along R (t ∷ ts) es = (mine : List Span) × (others : List Span) × (es ≡ mine ++ others) × R t mine × Along R ts others

-- The tree is that of a component that is left out, or the same.
abbrev pub IsLeft : PartPresence → Tree → Type 0
IsLeft required t = ⊥
IsLeft addition t = t ≡ absent
IsLeft (optional_by key) t = t ≡ absent
IsLeft (default_by key d) t = Same t d

-- The octets are complete encodings, one after the other, and the tree has the octets of each.
abbrev pub HoldsEncodings : Tree → List ℕ → Type 0
HoldsEncodings t octets = (xs : List (List ℕ)) × (t ≡ items (map numbers xs)) × (octets ≡ joined_lists xs) × AllByRecursion (CompleteEncoding Ber) xs

-- By these rules, f gives the shape of the type with a number, and H k t es: es are the parts of the tree of a value of it.
module _ (rule : Codec) (f : ℕ → Shape) (H : ℕ → Tree → List Span → Type 0) where
  -- A component that is written can't be left out under DER.
  abbrev pub HoldsWritten : Component → Tree → List Span → Type 0
  HoldsWritten p t es = H p.type_id.0 t es × (IsStrict rule → IsLeft (presence_of p.presence) t → ⊥)

  abbrev pub HoldsComponent : Component → Tree → List Span → Type 0
  HoldsComponent p t es = (IsMissing (presence_of p.presence) t × (es ≡ [])) ⊎ HoldsWritten p t es

  abbrev pub HoldsComponents : List Component → List Tree → List Span → Type 0
  HoldsComponents [] ts es = (ts ≡ []) × (es ≡ [])
  HoldsComponents (p ∷ ps) ts es = (t : Tree) × (us : List Tree) × (mine : List Span) × (others : List Span) × (ts ≡ t ∷ us) × (es ≡ mine ++ others) × HoldsComponent p t mine × HoldsComponents ps us others

  -- A component of a SET that is named, or an unknown one, which is read as unknown values of the type other: as one.
  abbrev pub HoldsMember : List Component → ℕ → Tree → List Span → Type 0
  HoldsMember ps other r es = ((k : ℕ) × (p : Component) × (u : Tree) × (Some p ≡ slice_get ps k) × (r ≡ chosen k u) × HoldsWritten p u es)
      ⊎ ((u : Tree) × (r ≡ chosen (count (components_by f ps)) u) × H other (items (u ∷ [])) es)

  -- The readings of a SET's components in their order, and of unknown ones.
  abbrev pub HoldsMembers : Bool → List Component → ℕ → Tree → List Span → Type 0
  HoldsMembers extensible ps other t es =
      (rs : List Tree) × (ts : List Tree) × (us : List Tree) × IsSetTree extensible ts us t × ByPart 0 (presences (components_by f ps)) rs ts
      × AllOf (count (components_by f ps)) rs us × Along (HoldsMember ps other) rs es

  -- Of the value with this part, without it.
  abbrev pub HoldsInside : «Type» → Span → Tree → List Span → Type 0
  HoldsInside (Leaf kind tag c names) e t es = es ≡ []
  HoldsInside (Enumerated tag ns) e t es = es ≡ []
  HoldsInside (Any tag) e t es = (es ≡ []) × ((x : List ℕ) → (t ≡ numbers x) ↔ HasOpen tag e.octets.now x)
  HoldsInside Unknown e t es = (es ≡ []) × HoldsEncodings t e.octets.now
  HoldsInside (Tagged tag id) e t es = H id.0 t es
  HoldsInside (Choice name ks) e t es = (k : ℕ) × (a : Alternative) × (u : Tree) × (Some a ≡ slice_get ks.items k) × (t ≡ chosen k u) × H a.type_id.0 u es
  HoldsInside (Sequence tag ps) e t es = (ts : List Tree) × (t ≡ items ts) × HoldsComponents ps.items ts es
  HoldsInside (Set name tag ps) e t es = HoldsMembers (is_extensible f ps.items) (named_components f ps.items) (last_type ps.items) t es
  HoldsInside (SequenceOf tag id c) e t es = (ts : List Tree) × (t ≡ items ts) × Along (H id.0) ts es
  HoldsInside (SetOf tag id c) e t es = (ts : List Tree) × (t ≡ set_elements (items ts)) × Along (H id.0) ts es

-- The parts are those of the tree of a value of the type with the number, types followed so many levels deep.
unfoldable pub Holds : Codec → List «Type» → ℕ → ℕ → Tree → List Span → Type 0
Holds rule types zero id t es = ⊥
Holds rule types (suc n) id t es = (e : Span) × (inside : List Span) × (es ≡ e ∷ inside) × (e.id.0 ≡ id) × (e.depth ≡ depth_at (suc n)) × (ty : «Type») × (slice_get types id ≡ Some ty)
    × HoldsInside rule (shape_of_type types n) (λ k u more. Holds rule types n k u more) ty e t inside

-- ---- one after the other, from the first on

module _ (step : ℕ → State → State → List Span → Type 0) where
  -- n parts, of which the first has the index k.
  abbrev Front : ℕ → ℕ → State → State → List Span → Type 0
  Front k zero s last es = (last ≡ s) × (es ≡ [])
  Front k (suc n) s last es = (mine : List Span) × (others : List Span) × (next : State) × (es ≡ mine ++ others) × step k s next mine × Front (suc k) n next last others

  turned : (k m total : ℕ) (s here last : State) (before more : List Span) → k + m ≡ total → InTurn step k s here before → Front k m here last more → Front 0 total s last (before ++ more)
  turned zero m total s here last before more e (p, q) front =
      let same : m ≡ total = omega (arith, e) in
      subst (λ z. Front 0 z s last (before ++ more)) same
      (subst (λ z. Front 0 m s last (z ++ more)) (sym q) (subst (λ z. Front 0 m z last more) p front))
  turned (suc k) m total s here last before more e (first, mine, at, is, t, x) front =
      let r = turned k (suc m) total s at last first (mine ++ more) (omega (arith, e)) t (mine, more, here, refl, x, front) in
      subst (λ z. Front 0 total s last z) (sym (append_assoc first mine more) ∙ ap (λ z. z ++ more) (sym is)) r

  in_front : (n : ℕ) (s last : State) (es : List Span) → InTurn step n s last es → Front 0 n s last es
  in_front n s last es t = subst (λ z. Front 0 n s last z) (append-nil es) (turned n 0 n s last last es [] (omega arith) t (refl, refl))

-- So much of the input is left at the state, at this depth.
abbrev At : State → ℕ → List ℕ → Type 0
At s depth input = (s.depth ≡ depth) × (s.rest ≡ input) × AreOctets input

module _ (depth : ℕ) (step : ℕ → State → State → List Span → Type 0) (reads : Reading Tree) (R : Tree → List Span → Type 0)
    (one : (k : ℕ) (s next : State) (es : List Span) (input : List ℕ) (t : Tree) (rest : List ℕ) → step k s next es → At s depth input → reads input t rest → R t es × At next depth rest)
    (some_left : (k : ℕ) (s next : State) (es : List Span) → step k s next es → (closing : Bool) → Ended closing s.rest → ⊥)
    (some_read : (input : List ℕ) (t : Tree) (rest : List ℕ) (closing : Bool) → reads input t rest → Ended closing input → ⊥) where
  -- As many are read as are listed.
  all_along : (n k : ℕ) (s last : State) (es : List Span) (closing : Bool) (input : List ℕ) (ts : List Tree) (rest : List ℕ)
      → Front step k n s last es → Ended last.closing last.rest → At s depth input → ReadsMany reads closing input ts rest → Along R ts es
  all_along zero k s last es closing input [] rest (p, q) end at r = q
  all_along zero k s last es closing input (t ∷ ts) rest (p, q) end at (n, middle, r, more) =
      absurd (some_read input t middle last.closing r (subst (λ z. Ended last.closing z) (ap (λ (z : State). z.rest) p ∙ at.1) end))
  all_along (suc n) k s last es closing input [] rest (mine, others, next, is, x, front) end at (e, r) =
      absurd (some_left k s next mine x closing (subst (λ z. Ended closing z) (sym at.1) e))
  all_along (suc n) k s last es closing input (t ∷ ts) rest (mine, others, next, is, x, front) end at (e, middle, r, more) =
      let y = one k s next mine input t middle x at r in
      (mine, others, is, y.0, all_along n (suc k) next last others closing middle ts rest front end y.1 more)

-- ---- what is read of parts

slice_drop : {X : Type 0} (l : List X) (k : ℕ) (x : X) (m : List X) → drop k l ≡ x ∷ m → (Some x ≡ slice_get l k) × (drop (suc k) l ≡ m)
slice_drop [] zero x m e = absurd cc
slice_drop [] (suc k) x m e = absurd cc
slice_drop (y ∷ l) zero x m e = (let same : x ≡ y = cc in ap Some same, cc)
slice_drop (y ∷ l) (suc k) x m e = slice_drop l k x m e

-- The component that is read.
abbrev ReadsAs : Codec → (ℕ → Shape) → ℕ → Bool → ℕ → List ℕ → Tree → List ℕ → Type 0
ReadsAs rule f depth c id input u rest = ((tag : Tag) × NextTag (form rule) input tag × IsFirst (f id) tag) × Reads rule (f id) depth c input u rest

one_later : (k j : ℕ) (t u : Tree) → t ≡ chosen (suc k + j) u → t ≡ chosen (k + suc j) u
one_later k j t u e = e ∙ ap (λ n. chosen n u) (omega arith)

first_later : (k : ℕ) (t u : Tree) → t ≡ chosen k u → t ≡ chosen (k + 0) u
first_later k t u e = e ∙ ap (λ n. chosen n u) (omega arith)

module _ (rule : Codec) (f : ℕ → Shape) (depth : ℕ) (c : Bool) (input : List ℕ) (t : Tree) (rest : List ℕ) where
  member_read : (ps : List Component) (k : ℕ) → ReadsChoice rule k (parts_of rule (components_by f ps) depth c) input t rest
      → (j : ℕ) × (p : Component) × (u : Tree) × (Some p ≡ slice_get ps j) × (t ≡ chosen (k + j) u) × ReadsAs rule f depth c p.type_id.0 input u rest × (IsStrict rule → IsNoDefault (presence_in f p) u)
  unfolding parts_of
  member_read [] k h = absurd h
  member_read (p ∷ ps) k (inl (u, e, tag, next, first, r, d)) = (0, p, u, refl, first_later k t u e, ((tag, next, first), r), d)
  member_read (p ∷ ps) k (inr h) = let (j, q, u, at, e, r, d) = member_read ps (suc k) h in (suc j, q, u, at, one_later k j t u e, r, d)

  some_choice : (ps : List Component) (k : ℕ) → ReadsChoice rule k (parts_of rule (components_by f ps) depth c) input t rest → (tag : Tag) × NextTag (form rule) input tag
  some_choice ps k h = let (j, q, u, at, e, r, d) = member_read ps k h in (r.0.0, r.0.1)

not_left : (key : Key) (p : Presence) (t : Tree) → t ≢ absent → IsNoDefault (presence_by key p) t → IsLeft (presence_of p) t → ⊥
not_left key Required t n h l = l
not_left key Optional t n h l = n l
not_left key Addition t n h l = n l
not_left key (Default v) t n h l = h l

-- What DER reads is there.
never_absent : (s : Shape) → IsAlwaysPresent s → IsLawful s → (rule : Codec) → IsStrict rule → (depth : ℕ) (c : Bool) (input : List ℕ) (t : Tree) (rest : List ℕ) → Reads rule s depth c input t rest → t ≢ absent
never_absent s solid lawful Ber strict depth c input t rest r = absurd strict
never_absent s solid lawful Cer strict depth c input t rest r = absurd strict
never_absent s solid lawful Der strict depth c input t rest r = there s solid lawful depth c input t rest r

pub own_missing : (key : Key) (p : Presence) (t : Tree) → IsMissing (presence_by key p) t → IsMissing (presence_of p) t
own_missing key Required t h = h
own_missing key Optional t h = h
own_missing key Addition t h = h
own_missing key (Default v) t h = h

-- ---- open types

-- What is read of an open type is read of its own octets.
narrow_frame : {spelling : Form} (octets rest : List ℕ) {tag : Tag} {bit : Bool} {contents : List ℕ} → Frame spelling (octets ++ rest) tag bit rest (definite contents) → Frame spelling octets tag bit [] (definite contents)
narrow_frame octets rest {contents = contents} (with_length id len _ s a z e) =
    let all : octets ++ rest ≡ (id ++ (len ++ contents)) ++ rest = e ∙ simp append_assoc in
    let same : octets ≡ id ++ (len ++ contents) = append_cancel_right octets (id ++ (len ++ contents)) rest all in
    with_length id len contents s a z (same ∙ ap (λ l. id ++ (len ++ l)) (sym (append-nil contents)))

narrow_open : {spelling : Form} (octets rest contents body : List ℕ) {tag : Tag} {bit : Bool} → Frame spelling (octets ++ rest) tag bit body indefinite → body ≡ contents ++ (0 ∷ 0 ∷ rest)
    → Frame spelling octets tag bit (contents ++ (0 ∷ 0 ∷ [])) indefinite
narrow_open octets rest contents body (without_length id s b h e) is =
    let split : contents ++ (0 ∷ 0 ∷ rest) ≡ (contents ++ (0 ∷ 0 ∷ [])) ++ rest = sym (append_assoc contents (0 ∷ 0 ∷ []) rest) in
    let all : octets ++ rest ≡ (id ++ (128 ∷ (contents ++ (0 ∷ 0 ∷ [])))) ++ rest =
    e ∙ (ap (λ l. id ++ (128 ∷ l)) (is ∙ split) ∙ sym (append_assoc id (128 ∷ (contents ++ (0 ∷ 0 ∷ []))) rest)) in
    without_length id s b h (append_cancel_right octets (id ++ (128 ∷ (contents ++ (0 ∷ 0 ∷ [])))) rest all)

narrow : (tag : Option Tag) (octets rest : List ℕ) (t : Tree) → ReadsOpenOctets Ber tag (octets ++ rest) t rest → ReadsOpenOctets Ber tag octets t []
narrow None octets rest t (text, e, w, is) =
    let same : octets ≡ text = append_cancel_right octets text rest is in
    (text, e, w, same ∙ sym (append-nil text))
narrow (Some tag) octets rest t (bit, contents, e, strict, inl f) = (bit, contents, e, strict, inl (narrow_frame octets rest f))
narrow (Some tag) octets rest t (bit, contents, e, strict, inr (body, f, w, is)) =
    (bit, contents, e, strict, inr (contents ++ (0 ∷ 0 ∷ []), narrow_open octets rest contents body f is, w, refl))

open_once : (tag : Option Tag) (octets : List ℕ) (t u : Tree) (rest other : List ℕ) → ReadsOpenOctets Ber tag octets t rest → ReadsOpenOctets Ber tag octets u other → (t ≡ u) × (rest ≡ other)
open_once None octets t u rest other h k = any_one Ber octets t u rest other h k
open_once (Some tag) octets t u rest other h k = open_one Ber tag octets t u rest other h k

open_read : (tag : Option Tag) (depth : ℕ) (c : Bool) (input : List ℕ) (t : Tree) (rest : List ℕ) → Reads Ber (any tag) depth c input t rest → ReadsOpenOctets Ber tag input t rest
unfolding Reads
open_read None depth c input t rest h = h
open_read (Some tag) depth c input t rest h = h

-- The tree of an open type is that of the octets in it.
opened : (rule : Codec) (tag : Tag) (octets rest : List ℕ) (depth : ℕ) (c : Bool) (t : Tree) → Reads rule (any (looked_for tag)) depth c (octets ++ rest) t rest → (x : List ℕ) → (t ≡ numbers x) ↔ HasOpen tag octets x
opened rule tag octets rest depth c t r x =
    let n = narrow (looked_for tag) octets rest t (open_read (looked_for tag) depth c (octets ++ rest) t rest (reads_in (any (looked_for tag)) rule depth c (octets ++ rest) t rest r)) in (
      λ e.
          let own = subst (λ z. ReadsOpenOctets Ber (looked_for tag) octets z []) e n in
          ([], (own, λ u s h. open_once (looked_for tag) octets u (numbers x) s [] h own)),
      λ (more, exact). (exact.1 t [] n).0,
    )

-- The octets of unknown values are the encodings that are read.
encodings_read : (closing : Bool) (input : List ℕ) (ts : List Tree) (rest : List ℕ) → ReadsMany (ReadsAny Ber) closing input ts rest
    → (xs : List (List ℕ)) × (ts ≡ map numbers xs) × (input ≡ joined_lists xs ++ rest) × AllByRecursion (CompleteEncoding Ber) xs
encodings_read closing input [] rest (e, p) = ([], refl, sym p, tt)
encodings_read closing input (t ∷ ts) rest (n, middle, (text, e, w, is), more) =
    let (xs, p, q, all) = encodings_read closing middle ts rest more in
    (text ∷ xs, ap (λ z. t ∷ z) p ∙ ap (λ z. z ∷ map numbers xs) e, is ∙ (ap (λ l. text ++ l) q ∙ sym (append_assoc text (joined_lists xs) rest)), (w, all))

held_encodings : (rule : Codec) (octets after : List ℕ) (depth : ℕ) (c : Bool) (t : Tree) → Reads rule unknown depth c (octets ++ after) t after → HoldsEncodings t octets
held_encodings rule octets after depth c t r =
    let (ts, e, many) = unknown_read Ber depth c (octets ++ after) t after (reads_in unknown rule depth c (octets ++ after) t after r) in
    let (xs, p, q, all) = encodings_read c (octets ++ after) ts after many in
    (xs, e ∙ ap items p, append_cancel_right octets (joined_lists xs) after q, all)

-- ---- what a rule reads of a value, beside the parts that are listed of it

-- The header is that of the value.
into_contents : (d : ConstructedHeader) (b a : ℕ) (s inner : State) (depth : ℕ) (input : List ℕ) → GoesInside d b s a inner → At s depth input
    → (rule : Codec) (tag : Tag) (bit : Bool) (R : Bool → Reading Tree) (t : Tree) (rest : List ℕ) → ReadsContents rule tag bit R input t rest
    → (c : Bool) × (l : List ℕ) × (end : List ℕ) × R c l t end × At inner (depth - d.levels) l
into_contents d b a s inner depth input (h, p, q, g) (e, l, o) rule tag bit R t rest reads = go reads
  where
    F : Frame (form s.rule) input h.tag h.bit h.rest h.extent
    F = subst (λ z. Frame (form s.rule) z h.tag h.bit h.rest h.extent) l (header_frame d s h (subst AreOctets (sym l) o) p)

    within : (x : Extent) (r m : List ℕ) → h.extent ≡ x → h.rest ≡ r → octets_inside x r ≡ m → At inner (depth - d.levels) m
    within x r m i j k =
        let same : octets_inside h.extent h.rest ≡ m = ap (λ z. octets_inside z h.rest) i ∙ (ap (octets_inside x) j ∙ k) in
        (ap (λ (z : State). z.depth) q ∙ ap (λ n. n - d.levels) e, ap (λ (z : State). z.rest) q ∙ same, subst AreOctets same (frame_octets input o F).1)

    go : ReadsContents rule tag bit R input t rest → (c : Bool) × (l : List ℕ) × (end : List ℕ) × R c l t end × At inner (depth - d.levels) l
    go (definite_form contents f r) = let one = frame_one input F f in (false, contents, [], r, within (definite contents) rest contents one.extent one.rest refl)
    go (indefinite_form body f r) = let one = frame_one input F f in (true, body, 0 ∷ 0 ∷ rest, r, within indefinite body body one.extent one.rest refl)

-- ---- unknown components of a SET

pub chosen_one : (j k : ℕ) (t u : Tree) → chosen j t ≡ chosen k u → (j ≡ k) × (t ≡ u)
chosen_one j k t u e = (cc, cc)

pub count_apart : (f : ℕ → Shape) (ps : List Component) (k : ℕ) (p : Component) → Some p ≡ slice_get ps k → k ≡ count (components_by f ps) → ⊥
count_apart f [] k p at e = cc
count_apart f (q ∷ ps) zero p at e = cc
count_apart f (q ∷ ps) (suc k) p at e = count_apart f ps k p at (omega (arith, e))

-- The number after those of the named components is that of unknown ones, so there may be some.
is_open : (f : ℕ → Shape) (extensible : Bool) (ps : List Component) (s next : State)
    → PassesUnknown extensible (components_by f ps) s next → extensible ≡ true
unfolding Reads
is_open f true ps s next x = refl
is_open f false ps s next (u, d) =
    let k = count (components_by f ps) in
    let (j, p, v, at, e, own, z) = member_read s.rule f s.depth s.closing s.rest (chosen k u) next.rest ps 0 d.exact.0 in
    absurd (count_apart f ps j p at (let n = (chosen_one k (0 + j) u v e).0 in omega (arith, n)))

-- The last component of an extensible SET is unknown values.
last_unknown : (f : ℕ → Shape) (ps : List Component) → is_extensible f ps ≡ true → is_unknown (f (last_type ps)) ≡ true
last_unknown f [] e = absurd cc
last_unknown f (p ∷ []) e = e
last_unknown f (p ∷ (q ∷ ps)) e = last_unknown f (q ∷ ps) e

found_unknown : (f : ℕ → Shape) (o : Option «Type») → is_unknown (found_by f o) ≡ true → o ≡ Some Unknown
found_unknown f None e = absurd cc
found_unknown f (Some (Leaf kind tag c names)) e = absurd cc
found_unknown f (Some (Enumerated tag ns)) e = absurd cc
found_unknown f (Some (Any tag)) e = absurd cc
found_unknown f (Some (Tagged tag id)) e = absurd cc
found_unknown f (Some (Choice name ks)) e =
    let n : false ≡ true = sym (among_not_unknown (alternatives_by f ks.items)) ∙ e in absurd cc
found_unknown f (Some (Sequence tag ps)) e = absurd cc
found_unknown f (Some (Set name tag ps)) e = absurd cc
found_unknown f (Some (SequenceOf tag id c)) e = absurd cc
found_unknown f (Some (SetOf tag id c)) e = absurd cc
found_unknown f (Some Unknown) e = refl

not_found : (tag : Option Tag) → is_unknown (nothing tag) ≡ true → ⊥
not_found None e = cc
not_found (Some tag) e = cc

module _ (rule : Codec) (f : ℕ → Shape) (readable : (k : ℕ) → IsReadable (f k)) (levels : ℕ) (P : ℕ → ℕ → State → List Span → Type 0) (H : ℕ → Tree → List Span → Type 0)
    (below : (id k b : ℕ) (s next : State) (es : List Span) → PartListed f levels P id k b s next es → (c : Bool) (t : Tree) (rest : List ℕ) → AreOctets s.rest → Reads rule (f id) s.depth c s.rest t rest → H id t es)
    (alone : (other : ℕ) → is_unknown (f other) ≡ true → (e : Span) → e.id.0 ≡ other → e.depth ≡ depth_at levels
    → CompleteEncoding Ber e.octets.now → H other (items (numbers e.octets.now ∷ [])) (e ∷ [])) where
  part_held : (id k b : ℕ) (s next : State) (es : List Span) (depth : ℕ) (c : Bool) (input : List ℕ) (t : Tree) (rest : List ℕ)
      → PartListed f levels P id k b s next es → At s depth input → Reads rule (f id) depth c input t rest → H id t es × At next depth rest
  part_held id k b s next es depth c input t rest x (d, l, o) r =
      let own : Reads rule (f id) s.depth c s.rest t rest = subst (λ z. Reads rule (f id) z c s.rest t rest) (sym d) (subst (λ z. Reads rule (f id) depth c z t rest) (sym l) r) in
      let octets = subst AreOctets (sym l) o in
      let same = same_reading (f id) (readable id) s next x.tree x.reads rule c t rest own in
      let front = x.reads.end.0 in (
        below id k b s next es x c t rest octets own,
        (ap (λ (z : State). z.depth) x.reads.stays ∙ d, sym same.1, octets_back front rest (subst AreOctets (x.reads.end.1 ∙ ap (λ z. front ++ z) (sym same.1)) octets)),
      )

  elements_held : (id b n : ℕ) → IsKnown (f id) → (s last : State) (es : List Span) (depth : ℕ) (c closing : Bool) (input : List ℕ) (ts : List Tree) (rest : List ℕ)
      → InTurn (λ k. PartListed f levels P id k b) n s last es → Ended last.closing last.rest → At s depth input → ReadsMany (Reads rule (f id) depth c) closing input ts rest → Along (H id) ts es
  elements_held id b n known s last es depth c closing input ts rest t e at r =
      all_along depth (λ k. PartListed f levels P id k b) (Reads rule (f id) depth c) (H id)
      (λ k s next es input t rest x at r. part_held id k b s next es depth c input t rest x at r)
      (λ k s next es x closing e. not_at_end (f id) known.0 s.rule s.depth s.closing closing s.rest x.tree next.rest x.reads.exact.0 e)
      (λ input t rest closing r e. not_at_end (f id) known.0 rule depth c closing input t rest r e)
      n 0 s last es closing input ts rest (in_front (λ k. PartListed f levels P id k b) n s last es t) e at r

  -- ---- components

  module _ (p : Component) (k b : ℕ) (s next : State) (mine : List Span) (depth : ℕ) (c closing : Bool) (input : List ℕ) (t : Tree) (middle : List ℕ) (at : At s depth input) where
    abbrev Held : Type 0
    Held = HoldsComponent rule f H p t mine × At next depth middle

    there_read : PartListed f levels P p.type_id.0 k b s next mine → Reads rule (f p.type_id.0) depth c input t middle → (IsStrict rule → IsLeft (presence_of p.presence) t → ⊥) → Held
    there_read x r d = let y = part_held p.type_id.0 k b s next mine depth c input t middle x at r in (inr (y.0, d), y.1)

    listed_read : IsKnown (f p.type_id.0) → ComponentListed f levels P p k b s next mine → Reads rule (f p.type_id.0) depth c input t middle → (IsStrict rule → IsLeft (presence_of p.presence) t → ⊥) → Held
    listed_read known (inl (h, e, i)) r d =
        absurd (not_absent (f p.type_id.0) known.0 rule depth c input t middle r (form s.rule) s.closing (subst (λ z. IsLeftOut (form s.rule) (sought_by (key_of (f p.type_id.0)) (f p.type_id.0)) s.closing z) at.1 h.1))
    listed_read known (inr x) r d = there_read x r d

    listed_absent : IsKnown (f p.type_id.0) → ComponentListed f levels P p k b s next mine → IsLeftOut (form rule) (sought_by (key_of (f p.type_id.0)) (f p.type_id.0)) closing input → IsMissing (presence_of p.presence) t → middle ≡ input → Held
    listed_absent known (inl (h, e, i)) l m q =
        (inl (m, i), (ap (λ (z : State). z.depth) e ∙ at.0, ap (λ (z : State). z.rest) e ∙ (at.1 ∙ sym q), subst AreOctets (sym q) at.2))
    listed_absent known (inr x) l m q =
        let r = subst (λ z. IsLeftOut (form rule) (sought_by (key_of (f p.type_id.0)) (f p.type_id.0)) closing z) (sym at.1) l in
        absurd (not_absent (f p.type_id.0) known.0 s.rule s.depth s.closing s.rest x.tree next.rest x.reads.exact.0 (form rule) closing r)

    -- One that is required is there.
    required_held : p.presence ≡ Required → ComponentListed f levels P p k b s next mine → Reads rule (f p.type_id.0) depth c input t middle → Held
    required_held e (inl (h, i, n)) r = absurd (h.0 (subst (λ q. IsAlwaysThere (presence_of q)) (sym e) tt))
    required_held e (inr x) r = there_read x r (λ strict. subst (λ q. IsLeft (presence_of q) t → ⊥) (sym e) (λ h. h))

    known_held : IsKnown (f p.type_id.0) → ComponentListed f levels P p k b s next mine
        → (q : Presence) → p.presence ≡ q → ReadsPart rule (presence_by (key_of (f p.type_id.0)) q) (sought_in (presence_by (key_of (f p.type_id.0)) q) (f p.type_id.0)) (Reads rule (f p.type_id.0) depth c) closing input t middle → Held
    known_held known x Required e r = required_held e x r
    known_held known x Addition e r = listed_read known x r (λ strict. subst (λ q. IsLeft (presence_of q) t → ⊥) (sym e) (never_absent (f p.type_id.0) known.0 known.1 rule strict depth c input t middle r))
    known_held known x Optional e (inl (l, m, q)) = listed_absent known x l (subst (λ q. IsMissing (presence_of q) t) (sym e) m) q
    known_held known x Optional e (inr (l, r)) = listed_read known x r (λ strict. subst (λ q. IsLeft (presence_of q) t → ⊥) (sym e) (never_absent (f p.type_id.0) known.0 known.1 rule strict depth c input t middle r))
    known_held known x (Default v) e (inl (l, m, q)) = listed_absent known x l (subst (λ q. IsMissing (presence_of q) t) (sym e) m) q
    known_held known x (Default v) e (inr (l, (r, d))) = listed_read known x r (λ strict. subst (λ q. IsLeft (presence_of q) t → ⊥) (sym e) (d strict))

    needed_held : presence_in f p ≡ required → ComponentListed f levels P p k b s next mine
        → (q : Presence) → p.presence ≡ q → presence_by (key_of (f p.type_id.0)) q ≡ required → ReadsPart rule (presence_by (key_of (f p.type_id.0)) q) (sought_in (presence_by (key_of (f p.type_id.0)) q) (f p.type_id.0)) (Reads rule (f p.type_id.0) depth c) closing input t middle → Held
    needed_held n x Required e g r = required_held e x r
    needed_held n x Addition e g r = absurd cc
    needed_held n x Optional e g r = absurd cc
    needed_held n x (Default v) e g r = absurd cc

    component_held : IsKnown (f p.type_id.0) ⊎ (presence_in f p ≡ required) → ComponentListed f levels P p k b s next mine → ReadsPart rule (presence_in f p) (sought_in (presence_in f p) (f p.type_id.0)) (Reads rule (f p.type_id.0) depth c) closing input t middle → Held
    component_held (inl known) x r = known_held known x p.presence refl r
    component_held (inr n) x r = needed_held n x p.presence refl n r

  components_held : (ps : List Component) → AreLawfulInOrder (components_by f ps) → (b : ℕ) (depth : ℕ) (c closing : Bool) (qs : List Component) (k : ℕ) (s last : State) (es : List Span) (input : List ℕ) (ts : List Tree) (rest : List ℕ)
      → drop k ps ≡ qs → Front (ComponentAt f levels P ps b) k (length qs) s last es → At s depth input → ReadsInOrder rule (parts_of rule (components_by f qs) depth c) closing input ts rest
      → HoldsComponents rule f H qs ts es
  unfolding parts_of
  components_held ps are b depth c closing [] k s last es input ts rest e (p, q) at r = (r.0, q)
  components_held ps are b depth c closing (p ∷ qs) k s last es input ts rest e (mine, others, next, is, (q, found, x), front) at (t, us, middle, i, r, more) =
      let d = slice_drop ps k p qs e in
      let same : q ≡ p = some_is q p (found ∙ sym d.0) in
      let y = component_held p k b s next mine depth c closing input t middle at (component_known f ps k p are d.0) (subst (λ (z : Component). ComponentListed f levels P z k b s next mine) same x) r in
      (t, us, mine, others, i, is, y.0, components_held ps are b depth c closing qs (suc k) next last others middle us rest d.1 front y.1 more)

  -- All are left out.
  all_missing : (rule : Codec) (depth : ℕ) (c : Bool) (ps : List Component) (ts : List Tree) → AllMissing (presences_in (parts_of rule (components_by f ps) depth c)) ts → HoldsComponents rule f H ps ts []
  unfolding parts_of
  all_missing rule depth c [] ts e = (e, refl)
  all_missing rule depth c (p ∷ ps) ts (t, us, e, m, h) = (t, us, [], [], e, refl, inl (own_missing (key_of (f p.type_id.0)) p.presence t m, refl), all_missing rule depth c ps us h)

  -- ---- alternatives and members

  choice_held : (ks : List Alternative) → IsLawful (choice_among (alternatives_by f ks)) → (b : ℕ) (s : State) (es : List Span) (depth : ℕ) (c : Bool) (input : List ℕ) (t : Tree) (rest : List ℕ)
      → AlternativeListed f levels P ks b s es → At s depth input → Reads rule (choice_among (alternatives_by f ks)) depth c input t rest
      → (k : ℕ) × (a : Alternative) × (u : Tree) × (Some a ≡ slice_get ks k) × (t ≡ chosen k u) × H a.type_id.0 u es
  choice_held ks lawful b s es depth c input t rest (k, a, (tag, next, first), last, x) at r =
      let n = tag_of_among (alternatives_by f ks) rule depth c input t rest r in
      let same : n.0 ≡ tag = next_one input n.0 tag n.1 (subst (λ l. NextTag (form s.rule) l tag) at.1 next) in
      let (u, e, own) = of_among rule depth c input tag (subst (NextTag (form rule) input) same n.1) (alternatives_by f ks) k (f a.type_id.0) lawful (first_alternative f ks tag k a first) t rest r in
      (k, a, u, first.0, e, (part_held a.type_id.0 k b s last es depth c input u rest x at own).0)

  -- An unknown component is read of its own octets.
  alone_held : (other k b : ℕ) (s next : State) (es : List Span) → is_unknown (f other) ≡ true
      → UnknownListed levels other k b s next es → (depth : ℕ) (c : Bool) (t : Tree) (rest : List ℕ)
      → Reads rule (any None) depth c s.rest t rest → next.rest ≡ rest → H other (items (t ∷ [])) es
  unfolding Reads
  alone_held other k b s next es at_other x depth c t rest r e =
      let own = x.part.octets.now in
      let (text, i, w, is) = reads_in (any None) rule depth c s.rest t rest r in
      let same : text ≡ own = append_cancel_right text own rest (sym is ∙ (x.octets ∙ ap (λ z. own ++ z) e)) in
      let held = alone other at_other x.part x.id_is x.deep (subst (CompleteEncoding Ber) same w) in
      subst (λ z. H other (items (z ∷ [])) es) (sym (i ∙ ap numbers same))
      (subst (H other (items (numbers own ∷ []))) (sym x.is) held)

  -- A component of a SET that is read by a rule, as one that is named or as an unknown one.
  abbrev ReadsMember : List Component → ℕ → Bool → Reading Tree
  ReadsMember ps depth c =
      ReadsOpenChoice rule (IsFirstOf (components_by f ps)) (count (components_by f ps)) (ReadsChoice rule 0 (parts_of rule (components_by f ps) depth c))

  module _ (extensible : Bool) (ps : List Component) (are : AreLawfulMembers (components_by f ps)) (other : ℕ)
      (at_other : extensible ≡ true → is_unknown (f other) ≡ true) (b : ℕ) where
    module _ (k : ℕ) (a : Component) (p : Some a ≡ slice_get ps k) (s next : State) (es : List Span) (x : PartListed f levels P a.type_id.0 k b s next es) where
      -- The tag with which the component begins.
      listed_tag : (tag : Tag) × NextTag (form s.rule) s.rest tag × IsFirst (f a.type_id.0) tag
      listed_tag =
          let m = member_is f ps k a are.0 p in
          let v = begins (f a.type_id.0) m.1 m.0 s.rule s.depth s.closing s.rest x.tree next.rest x.reads.exact.0 in
          (v.0, v.1, v.2)

      named_held : (depth : ℕ) (c : Bool) (input : List ℕ) (t : Tree) (rest : List ℕ) → At s depth input → ReadsChoice rule 0 (parts_of rule (components_by f ps) depth c) input t rest → HoldsMember rule f H ps other t es × At next depth rest
      named_held depth c input t rest at r =
          let (j, d, u, q, e, (begin, own), other_value) = member_read rule f depth c input t rest ps 0 r in
          let (tag, after, first) = begin in
          let v = listed_tag in
          let here = subst (λ l. NextTag (form s.rule) l v.0) at.1 v.1 in
          let mine = subst (IsFirst (f a.type_id.0)) (next_one input v.0 tag here after) v.2 in
          let i : j ≡ k = same_index (components_by f ps) tag j k _ _ _ _ (only_part f tag ps j d are.1 (q, first)) (only_part f tag ps k a are.1 (p, mine)) in
          let same : a ≡ d = some_is a d (p ∙ (ap (slice_get ps) (sym i) ∙ sym q)) in
          let y = part_held d.type_id.0 k b s next es depth c input u rest (subst (λ (z : Component). PartListed f levels P z.type_id.0 k b s next es) same x) at own in
          let known = member_is f ps j d are.0 q in
          (inl (j, d, u, q, e ∙ ap (λ n. chosen n u) (omega arith), (y.0, λ strict. not_left (key_of (f d.type_id.0)) d.presence u (never_absent (f d.type_id.0) known.1 known.2 rule strict depth c input u rest own) (other_value strict))), y.1)

    member_held : (depth : ℕ) (c : Bool) (k0 : ℕ) (s next : State) (es : List Span) (input : List ℕ) (t : Tree) (rest : List ℕ)
        → MemberListed f levels P extensible ps other b s next es → At s depth input → ReadsMember ps depth c input t rest → HoldsMember rule f H ps other t es × At next depth rest
    unfolding Reads IsLawful
    member_held depth c k0 s next es input t rest (inr (k, a, p, x)) at (inl r) = named_held k a p s next es x depth c input t rest at r
    member_held depth c k0 s next es input t rest (inr (k, a, p, x)) at (inr (u, e, tag, n, others, r)) =
        let v = listed_tag k a p s next es x in
        let same = next_one input v.0 tag (subst (λ l. NextTag (form s.rule) l v.0) at.1 v.1) n in
        absurd (others (subst (IsFirstOf (components_by f ps)) same (first_of_part f v.0 ps k a p v.2)))
    member_held depth c k0 s next es input t rest (inl ((u, d), q)) at (inl r) =
        let (tag, n, others) = (unknown_is (components_by f ps) s next extensible u d).other in
        let (j, a, v, i, e, ((mine, after, first), own), z) = member_read rule f depth c input t rest ps 0 r in
        let same = next_one input mine tag after (subst (λ l. NextTag (form s.rule) l tag) at.1 n) in
        absurd (others (subst (IsFirstOf (components_by f ps)) same (first_of_part f mine ps j a i first)))
    member_held depth c k0 s next es input t rest (inl ((u, d), x)) at (inr (v, e, tag, n, others, r)) =
        let own = (unknown_is (components_by f ps) s next extensible u d).open_type in
        let again : Reads rule (any None) s.depth c s.rest v rest = subst (λ l. Reads rule (any None) s.depth c l v rest) (sym at.1) r in
        let octets = subst AreOctets (sym at.1) at.2 in
        let same = same_reading (any None) (inl (tt, tt)) s next u own rule c v rest again in
        let front = own.end.0 in (
          inr (v, e, alone_held other (length ps) b s next es (at_other (is_open f extensible ps s next (u, d))) x s.depth c v rest again (sym same.1)),
          (ap (λ (z : State). z.depth) own.stays ∙ at.0, sym same.1, octets_back front rest (subst AreOctets (own.end.1 ∙ ap (λ z. front ++ z) (sym same.1)) octets)),
        )

    not_ended_listed : (k : ℕ) (s next : State) (es : List Span) → MemberListed f levels P extensible ps other b s next es → (closing : Bool) → Ended closing s.rest → ⊥
    not_ended_listed k s next es (inr (j, p, is, x)) closing e = not_at_end (f p.type_id.0) (member_is f ps j p are.0 is).1 s.rule s.depth s.closing closing s.rest x.tree next.rest x.reads.exact.0 e
    not_ended_listed k s next es (inl ((u, d), q)) closing e =
        not_at_end (any None) tt s.rule s.depth s.closing closing s.rest u next.rest (unknown_is (components_by f ps) s next extensible u d).open_type.exact.0 e

    not_ended_read : (depth : ℕ) (c : Bool) (input : List ℕ) (t : Tree) (rest : List ℕ) (closing : Bool) → ReadsMember ps depth c input t rest → Ended closing input → ⊥
    not_ended_read depth c input t rest closing (inl r) e = let n = some_choice rule f depth c input t rest ps 0 r in not_ended closing input n.0 n.1 e
    not_ended_read depth c input t rest closing (inr (u, i, tag, n, others, r)) e = not_ended closing input tag n e

    members_held : (n : ℕ) (s last : State) (es : List Span) (depth : ℕ) (c closing : Bool) (input : List ℕ) (rs : List Tree) (rest : List ℕ)
        → InTurn (λ k. MemberListed f levels P extensible ps other b) n s last es → Ended last.closing last.rest → At s depth input
        → ReadsMany (ReadsMember ps depth c) closing input rs rest → Along (HoldsMember rule f H ps other) rs es
    members_held n s last es depth c closing input rs rest t e at r =
        all_along depth (λ k. MemberListed f levels P extensible ps other b) (ReadsMember ps depth c) (HoldsMember rule f H ps other)
        (λ k s next es input t rest x at r. member_held depth c k s next es input t rest x at r)
        not_ended_listed
        (λ input t rest closing r e. not_ended_read depth c input t rest closing r e)
        n 0 s last es closing input rs rest (in_front (λ k. MemberListed f levels P extensible ps other b) n s last es t) e at r

  -- Nothing is left: each component is absent.
  in_nothing : (depth : ℕ) (c closing : Bool) (qs : List Component) → any_required qs ≡ false → ((k : ℕ) (p : Component) → Some p ≡ slice_get qs k → IsKnown (f p.type_id.0))
      → (input : List ℕ) (ts : List Tree) (rest : List ℕ) → input ≡ [] → ReadsInOrder rule (parts_of rule (components_by f qs) depth c) closing input ts rest → HoldsComponents rule f H qs ts []
  unfolding parts_of
  in_nothing depth c closing [] n known input ts rest e r = (r.0, refl)
  in_nothing depth c closing (p ∷ qs) n known input ts rest e (t, us, middle, i, r, more) =
      let y = one p.presence r in
      (t, us, [], [], i, refl, inl (y.0, refl), in_nothing depth c closing qs (others (is_required p.presence) n) (λ k q at. known (suc k) q at) middle us rest (y.1 ∙ e) more)
    where
      others : (b : Bool) → b || any_required qs ≡ false → any_required qs ≡ false
      others true h = absurd cc
      others false h = h

      none_read : Reads rule (f p.type_id.0) depth c input t middle → ⊥
      none_read r = not_at_end (f p.type_id.0) (known 0 p refl).0 rule depth c true input t middle r (inl e)

      one : (q : Presence) → ReadsPart rule (presence_by (key_of (f p.type_id.0)) q) (sought_in (presence_by (key_of (f p.type_id.0)) q) (f p.type_id.0)) (Reads rule (f p.type_id.0) depth c) closing input t middle
          → IsMissing (presence_of q) t × (middle ≡ input)
      one Required r = absurd (none_read r)
      one Addition r = absurd (none_read r)
      one Optional (inl (l, m, q)) = (m, q)
      one Optional (inr (l, r)) = absurd (none_read r)
      one (Default v) (inl (l, m, q)) = (m, q)
      one (Default v) (inr (l, (r, d))) = absurd (none_read r)

  -- No component is required.
  none_needed : (rule : Codec) (depth : ℕ) (c : Bool) (ps : List Component) → (HasRequired (parts_of rule (components_by f ps) depth c) → ⊥) → any_required ps ≡ false
  unfolding parts_of
  none_needed rule depth c [] n = refl
  none_needed rule depth c (p ∷ ps) n = go p.presence (λ e. n (inl e)) (none_needed rule depth c ps (λ h. n (inr h)))
    where
      go : (q : Presence) → (presence_by (key_of (f p.type_id.0)) q ≡ required → ⊥) → any_required ps ≡ false → is_required q || any_required ps ≡ false
      go Required m e = absurd (m refl)
      go Optional m e = e
      go Addition m e = e
      go (Default v) m e = e

  sequence_held : (ps : List Component) → AreLawfulInOrder (components_by f ps) → (b : ℕ) (s : State) (es : List Span) (depth : ℕ) (c : Bool) (input : List ℕ) (t : Tree) (rest : List ℕ)
      → ComponentsListed f levels P ps b s es → At s depth input → ReadsSeq rule (parts_of rule (components_by f ps) depth c) c input t rest → (ts : List Tree) × (t ≡ items ts) × HoldsComponents rule f H ps ts es
  sequence_held ps are b s es depth c input t rest x at (ts, e, inl ((a, closed, none), m, q)) = (ts, e, subst (λ z. HoldsComponents rule f H ps ts z) (sym (nothing x)) (all_missing rule depth c ps ts m))
    where
      nothing : ComponentsListed f levels P ps b s es → es ≡ []
      nothing (inl (h, p)) = p
      nothing (inr (last, turns)) = (none_left f levels P ps (left_known f ps are (none_needed rule depth c ps a)) b (length ps) s last es (at.1 ∙ none) turns).1
  sequence_held ps are b s es depth c input t rest (inl (h, p)) at (ts, e, inr (a, m)) =
      (ts, e, subst (λ z. HoldsComponents rule f H ps ts z) (sym p) (in_nothing depth c c ps h.0 (left_known f ps are h.0) input ts rest (sym at.1 ∙ h.2) m))
  sequence_held ps are b s es depth c input t rest (inr (last, turns)) at (ts, e, inr (a, m)) =
      (ts, e, components_held ps are b depth c c ps 0 s last es input ts rest refl (in_front (ComponentAt f levels P ps b) (length ps) s last es turns) at m)

  -- ---- a value

  value_held : (ty : «Type») → IsLawful (type_by f ty) → (b : ℕ) (s : State) (e : Span) (after : List ℕ) (es : List Span) → s.rest ≡ e.octets.now ++ after → ValueListed f levels P ty b s es
      → (depth : ℕ) (c : Bool) (input : List ℕ) (t : Tree) (rest : List ℕ) → At s depth input → rest ≡ after → Reads rule (type_by f ty) depth c input t rest → HoldsInside rule f H ty e t es
  unfolding Reads IsLawful
  value_held (Leaf kind tag bounds names) are b s e after es is (a, inner, g, x) depth c input t rest at q r = x
  value_held (Enumerated tag ns) are b s e after es is (a, inner, g, x) depth c input t rest at q r = x
  value_held (Any tag) are b s e after es is (a, inner, g, x) depth c input t rest at q r =
      (x, opened rule tag e.octets.now after depth c t (subst (λ l. Reads rule (any (looked_for tag)) depth c l t after) (sym at.1 ∙ is) (subst (λ l. Reads rule (any (looked_for tag)) depth c input t l) q r)))
  value_held Unknown are b s e after es is v depth c input t rest at q r = absurd are
  value_held (Tagged tag id) are b s e after es is (a, inner, g, (last, x)) depth c input t rest at q r =
      let (k, l, end, own, there) = into_contents (prefix_header tag) b a s inner depth input g at rule tag r.1 (λ c. Reads rule (f id.0) (depth - 1) c) t rest r.3 in
      (part_held id.0 0 a inner last es (depth - 1) k l t end x there own).0
  value_held (Choice name ks) are b s e after es is (a, inner, (p, g), x) depth c input t rest at q r =
      choice_held ks.items are a inner es depth c input t rest x (subst (λ z. At z depth input) (sym g) at) r
  value_held (Sequence tag ps) are b s e after es is (a, inner, g, x) depth c input t rest at q r =
      let (k, l, end, own, there) = into_contents (sequence_header tag) b a s inner depth input g at rule tag true (λ c. ReadsSeq rule (parts_of rule (components_by f ps.items) (depth - 1) c) c) t rest r.1 in
      sequence_held ps.items are.1 a inner es (depth - 1) k l t end x there own
  value_held (Set name tag ps) are b s e after es is (a, inner, g, (n, last, turns, ended)) depth c input t rest at q r =
      let extensible = is_extensible f ps.items in
      let named = named_components f ps.items in
      let lawful : AreLawfulMembers (components_by f named) = subst AreLawfulMembers (sym (named_is f ps.items)) (are.1, are.2) in
      let own : Reads rule (sorted_set extensible tag (components_by f named)) depth c input t rest = subst (λ z. Reads rule (sorted_set extensible tag z) depth c input t rest) (sym (named_is f ps.items)) r in
      let (k, l, end, inside, there) = into_contents (sequence_header tag) b a s inner depth input g at rule tag true
      (λ c. ReadsSortedSet rule extensible (presences (components_by f named)) (count (components_by f named)) (ReadsMember named (depth - 1) c) c) t rest own.1 in
      let (rs, ts, us, i, many, by, all, z) = inside in
      (rs, ts, us, i, by, all, members_held extensible named lawful (last_type ps.items) (last_unknown f ps.items) a n inner last es (depth - 1) k k l rs end turns ended there many)
  value_held (SequenceOf tag id size) are b s e after es is (a, inner, g, (n, last, turns, ended)) depth c input t rest at q r =
      let w = into_contents (list_header tag) b a s inner depth input g at rule tag true (λ c. ReadsList size.size (Reads rule (f id.0) (depth - 2) c) c) t rest r.1 in
      let own = w.3 in
      (own.0, own.1, elements_held id.0 a n (are.1, are.2) inner last es (depth - 2) w.0 w.0 w.1 own.0 w.2 turns ended w.4 own.3)
  value_held (SetOf tag id size) are b s e after es is (a, inner, g, (n, last, turns, ended)) depth c input t rest at q r =
      let w = into_contents (list_header tag) b a s inner depth input g at rule tag true (λ c. ReadsSetOf rule size.size (Reads rule (f id.0) (depth - 2) c) c) t rest r.1 in
      let own = w.3 in
      (own.0, own.1, elements_held id.0 a n (are.1, are.2) inner last es (depth - 2) w.0 w.0 w.1 own.0 w.2 turns ended w.4 own.3)

  unknown_held : (b : ℕ) (s : State) (e : Span) (after : List ℕ) (es : List Span) → s.rest ≡ e.octets.now ++ after → ValueListed f levels P Unknown b s es
      → (depth : ℕ) (c : Bool) (input : List ℕ) (t : Tree) (rest : List ℕ) → At s depth input → rest ≡ after → Reads rule unknown depth c input t rest → HoldsInside rule f H Unknown e t es
  unknown_held b s e after es is (a, inner, g, x) depth c input t rest at q r =
      (x, held_encodings rule e.octets.now after depth c t (subst (λ l. Reads rule unknown depth c l t after) (sym at.1 ∙ is) (subst (λ l. Reads rule unknown depth c input t l) q r)))

-- ---- types by their numbers

module _ (rule : Codec) (types : List «Type») (readable : AreReadableTypes types) where
  shape_is : (n id : ℕ) (ty : «Type») → slice_get types id ≡ Some ty → shape_of_type types (suc n) id ≡ type_by (shape_of_type types n) ty
  unfolding shape_of_type
  shape_is n id ty at = ap (λ z. found_by (λ j. shape_of_type types n j) z) at

  -- Of each part, by fewer levels.
  abbrev HoldsAt : ℕ → Type 0
  HoldsAt n = (id k b : ℕ) (s next : State) (es : List Span) → PartListed (shape_of_type types n) n (Inside types n) id k b s next es
      → (c : Bool) (t : Tree) (rest : List ℕ) → AreOctets s.rest → Reads rule (shape_of_type types n id) s.depth c s.rest t rest → Holds rule types n id t es

  -- An unknown component of a SET.
  one_held : (n other : ℕ) → is_unknown (shape_of_type types n other) ≡ true → (e : Span) → e.id.0 ≡ other → e.depth ≡ depth_at n
      → CompleteEncoding Ber e.octets.now → Holds rule types n other (items (numbers e.octets.now ∷ [])) (e ∷ [])
  unfolding Holds shape_of_type
  one_held zero other at_other e i deep w = absurd (not_found (looked_for (tag_at types other)) at_other)
  one_held (suc n) other at_other e i deep w =
      let at = found_unknown (λ j. shape_of_type types n j) (slice_get types other) at_other in
      (e, [], refl, i, deep, Unknown, at, (refl, (e.octets.now ∷ [], refl, sym (append-nil e.octets.now), (w, tt))))

  holds_value : (n : ℕ) → HoldsAt n → HoldsAt (suc n)
  unfolding PartsInside Holds
  holds_value n below id k b s next es x c t rest o r =
      let (ty, at, v) = x.parts in
      let after : rest ≡ next.rest = (same_reading (shape_of_type types (suc n) id) (readable (suc n) id) s next x.tree x.reads rule c t rest r).1 in
      let own = subst (λ z. Reads rule z s.depth c s.rest t rest) (shape_is n id ty at) r in
      (x.part, x.inside, x.is, x.id_is, x.deep, ty, at, go ty v (known_type (shape_of_type types n) ty (readable_type types readable n id ty at)) after own)
    where
      go : (ty : «Type») → ValueListed (shape_of_type types n) n (Inside types n) ty b s x.inside → IsLawful (type_by (shape_of_type types n) ty) ⊎ (ty ≡ Unknown) → rest ≡ next.rest → Reads rule (type_by (shape_of_type types n) ty) s.depth c s.rest t rest
          → HoldsInside rule (shape_of_type types n) (λ k u more. Holds rule types n k u more) ty x.part t x.inside
      go ty v (inl lawful) after own = value_held rule (shape_of_type types n) (readable n) n (Inside types n) (λ k u more. Holds rule types n k u more) below (one_held n)
          ty lawful b s x.part next.rest x.inside x.octets v s.depth c s.rest t rest (refl, refl, o) after own
      go ty v (inr e) after own = subst (λ z. HoldsInside rule (shape_of_type types n) (λ k u more. Holds rule types n k u more) z x.part t x.inside) (sym e)
          (unknown_held rule (shape_of_type types n) (readable n) n (Inside types n) (λ k u more. Holds rule types n k u more) below (one_held n)
          b s x.part next.rest x.inside x.octets (subst (λ z. ValueListed (shape_of_type types n) n (Inside types n) z b s x.inside) e v) s.depth c s.rest t rest (refl, refl, o) after
          (subst (λ z. Reads rule (type_by (shape_of_type types n) z) s.depth c s.rest t rest) e own))

  pub holds : (n : ℕ) → HoldsAt n
  unfolding PartsInside
  holds zero id k b s next es x c t rest o r = absurd x.parts
  holds (suc n) id k b s next es x c t rest o r = holds_value n (holds n) id k b s next es x c t rest o r

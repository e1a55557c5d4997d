-- What is read has one list of parts.
use Rattle.std.proofs.Common.{◌≡◌, ◌⊎◌, ◌≢◌, inl, inr, ◌<◌, ◌-◌, ℕ, zero, suc, List, [], ◌∷◌, ◌++◌, length, Bool, true, false, Some, None, Ok, refl, sym, ap, ◌∙◌, subst, arith}
use Rattle.std.specs.Prelude.{◌||◌, slice_get}
use Rattle.std.proofs.lemmas.Bool.{cases_order}
use Rattle.std.proofs.lemmas.List.{append_cancel_right}
use Rattle.rasn_types.specs.declared.types.codec.Codec.{Codec}
use Rattle.rasn_types.specs.declared.types.codec.Codec.TheVariants.{Ber}
use Rattle.rasn_types.specs.declared.types.tag.Tag.{Tag}
use Rattle.rasn_types.specs.Tags.{Form, form}
use Rattle.rasn_types.specs.Framing.{AreOctets, Ended, Frame, NextTag}
use Rattle.rasn_types.specs.Shapes.{Shape, Tree, items, numbers, leaf, any, prefix, choice, open_choice, option, seq, set, sorted_set, list, set_of, unknown, Parts, part, Presence, required, IsFirst, IsFirstOf, one_tag, any_of, sought_by, IsAlwaysPresent}
use Rattle.rasn_types.specs.Shapes.Parts.{none}
use Rattle.rasn_types.specs.Readings.{IsLeftOut, ReadsMany}
use Rattle.rasn_types.specs.Grammar.{Reads, ReadsAny}
use Rattle.rasn_types.specs.Lawful.{IsLawful, HasTag, AreLawfulInOrder}
use Rattle.rasn_types.proofs.Encoding.Complete.{whole_one, whole_text_one}
use Rattle.rasn_types.proofs.Headers.Frames.{frame_one, next_one, not_ended}
use Rattle.rasn_de.specs.State.{State}
use Rattle.rasn_de.specs.Choice.{IsOnlyAlternative}
use Rattle.rasn_de.specs.Optional.{NextIs}
use Rattle.rasn_de.specs.Headers.{Header}
use Rattle.rasn_de.specs.declared.ber.de.constructed.ConstructedHeader.{ConstructedHeader}
use Rattle.rasn_de.specs.Constructed.{sequence_header, list_header, prefix_header, expected_header, constructed_header_at, is_indefinite_extent}
use Rattle.rasn_de.specs.Segments.{octets_inside}
use Rattle.rasn_de.proofs.Headers.Frames.{header_parsed}
use Rattle.rasn_de.proofs.Headers.Results.{octets_back}
use Rattle.rasn_de.proofs.Strings.Reads.{frame_octets}
use Rattle.rasn_de.proofs.Constructed.Contents.{constructed_header_parsed}
use Rattle.rasn.proofs.ReadBack.Begins.{BeginsIn, begins, has_next_tag, solid_closing}
use Rattle.rasn.proofs.Included.IntoBer.{reads_in}
use Rattle.rasn.proofs.OneReading.Shapes.{reads_one}
use Rattle.rasn_schema.specs.declared.types.Component.{Component}
use Rattle.rasn_schema.specs.declared.types.Alternative.{Alternative}
use Rattle.rasn_schema.specs.declared.types.«Type».{«Type»}
use Rattle.rasn_schema.specs.declared.types.«Type».TheVariants.{Leaf, Enumerated, Any, Tagged, Choice, Sequence, Set, SequenceOf, SetOf, Unknown}
use Rattle.rasn_schema.specs.declared.types.Presence.{Presence as PartPresence}
use Rattle.rasn_schema.specs.declared.types.Presence.TheVariants.{Required, Optional, Addition, Default}
use Rattle.rasn_schema.specs.FirstTags.{IsAlternativeFor, IsAlwaysThere}
use Rattle.rasn_schema.specs.Shapes.{shape_of_type, type_by, found_by, alternatives_by, components_by, key_of, presence_by, presence_of, presence_in, IsReadable}
use Rattle.rasn_schema.proofs.Lists.{some_is, same_or_not}
use Rattle.rasn_schema.proofs.OpenEnds.{among_known}
use Rattle.rasn_dynamic.specs.declared.span.Span.{Span}
use Rattle.rasn_dynamic.specs.Calls.{is_required, any_required}
use Rattle.rasn_dynamic.specs.Inside.{DecodesTree}
use Rattle.rasn_dynamic.specs.Faults.{octets_after, start}
use Rattle.rasn_dynamic.specs.Parts.{IsAbsentHere}
use Rattle.rasn_dynamic.specs.Listed.{capped, GoesInside, GoesInto, InTurn, UnknownListed, PartListed, ComponentListed, ComponentAt, ComponentsListed, MemberListed, MembersListed, ElementsListed, AlternativeListed, ContentsListed, ValueListed, PartsInside, Inside}
use Rattle.rasn_dynamic.specs.Sets.{is_extensible, named_components, last_type, AreLawfulMembers, PassesUnknown}
use Rattle.rasn_dynamic.specs.SameParts.{IsSamePart, AreSameParts, AreReadableTypes, PartsAreDetermined}
use Rattle.rasn_dynamic.specs.Walk.{AreParts, ArePartsOf}
use Rattle.rasn_dynamic.specs.declared.message.MessageParts.{MessageParts}
use Rattle.rasn_dynamic.proofs.OpenChoice.{one_alternative}
use Rattle.rasn_dynamic.proofs.Pieces.{only_part, first_of_part, member_is}
use Rattle.rasn_dynamic.proofs.Named.{named_is}
use Rattle.rasn_dynamic.proofs.Members.{unknown_is}

-- ---- lists of the same parts

none_same : (es fs : List Span) → es ≡ [] → fs ≡ [] → AreSameParts es fs
none_same es fs p q = subst (λ z. AreSameParts z fs) (sym p) q

cons_same : (es fs xs ys : List Span) (e g : Span) → es ≡ e ∷ xs → fs ≡ g ∷ ys → IsSamePart e g → AreSameParts xs ys → AreSameParts es fs
cons_same es fs xs ys e g p q h k = subst (λ z. AreSameParts z fs) (sym p) (g, ys, q, h, k)

both_same : (a b c d : List Span) → AreSameParts a c → AreSameParts b d → AreSameParts (a ++ b) (c ++ d)
both_same [] b c d h k = subst (λ z. AreSameParts b (z ++ d)) (sym h) k
both_same (e ∷ a) b c d (g, more, is, h, hs) k = (g, more ++ d, ap (λ z. z ++ d) is, h, both_same a b more d hs k)

append_same : (es fs a b c d : List Span) → es ≡ a ++ b → fs ≡ c ++ d → AreSameParts a c → AreSameParts b d → AreSameParts es fs
append_same es fs a b c d p q h k = subst (λ z. AreSameParts z fs) (sym p) (subst (λ z. AreSameParts (a ++ b) z) (sym q) (both_same a b c d h k))

-- ---- what is read

-- The same octets are read at the same depth, by whichever rules.
record Alike (s z : State) : Type 0 where
  rest : s.rest ≡ z.rest
  depth : s.depth ≡ z.depth
  octets : AreOctets s.rest

by_ber : (s : Shape) → IsAlwaysPresent s → (old new : State) (t : Tree) → DecodesTree s old (Ok t) new → Reads Ber s old.depth true old.rest t new.rest
by_ber s solid old new t d = solid_closing s solid Ber old.depth old.closing true old.rest t new.rest (reads_in s old.rule old.depth old.closing old.rest t new.rest d.exact.0)

-- No value is read at an end.
pub not_at_end : (s : Shape) → IsAlwaysPresent s → (rule : Codec) (depth : ℕ) (c closing : Bool) (input : List ℕ) (t : Tree) (rest : List ℕ) → Reads rule s depth c input t rest → Ended closing input → ⊥
not_at_end s solid rule depth c closing input t rest r e = let n = has_next_tag s solid rule depth c input t rest r in not_ended closing input n.1 n.2 e

-- ---- unknown values

-- So is no encoding.
no_encoding : (rule : Codec) (closing : Bool) (input : List ℕ) (t : Tree) (rest : List ℕ) → ReadsAny rule input t rest → Ended closing input → ⊥
unfolding Reads
no_encoding rule closing input t rest r e = not_at_end (any None) tt rule 0 true closing input t rest r e

-- Encodings up to an end are the same by whichever rules.
pub encodings_one : (rule other : Codec) (closing ends : Bool) (input : List ℕ) (ts us : List Tree) (rest end : List ℕ) → ReadsMany (ReadsAny rule) closing input ts rest → ReadsMany (ReadsAny other) ends input us end → (ts ≡ us) × (rest ≡ end)
encodings_one rule other closing ends input [] [] rest end (e, p) (g, q) = (refl, p ∙ sym q)
encodings_one rule other closing ends input [] (u ∷ us) rest end (e, p) (n, middle, r, more) = absurd (no_encoding other closing input u middle r e)
encodings_one rule other closing ends input (t ∷ ts) [] rest end (n, middle, r, more) (g, q) = absurd (no_encoding rule ends input t middle r g)
encodings_one rule other closing ends input (t ∷ ts) (u ∷ us) rest end (n, middle, (a, p, v, e), more) (m, between, (b, q, w, g), others) =
    let same : a ++ middle ≡ b ++ between = sym e ∙ g in
    let text : a ≡ b = whole_text_one middle between v w same in
    let after : middle ≡ between = (whole_one middle between v w same).0 in
    let tail = encodings_one rule other closing ends middle ts us rest end more (subst (λ l. ReadsMany (ReadsAny other) ends l us end) (sym after) others) in
    let first : t ≡ u = p ∙ (ap numbers text ∙ sym q) in
    let list : ts ≡ us = tail.0 in
    (cc (first, list), tail.1)

-- Unknown values are such encodings.
pub unknown_read : (rule : Codec) (depth : ℕ) (closing : Bool) (input : List ℕ) (t : Tree) (rest : List ℕ) → Reads rule unknown depth closing input t rest → (ts : List Tree) × (t ≡ items ts) × ReadsMany (ReadsAny rule) closing input ts rest
unfolding Reads
unknown_read rule depth closing input t rest (ts, e, size, r) = (ts, e, r)

unknown_one : (rule other : Codec) (depth deep : ℕ) (closing ends : Bool) (input : List ℕ) (t u : Tree) (rest end : List ℕ) → Reads rule unknown depth closing input t rest → Reads other unknown deep ends input u end → (t ≡ u) × (rest ≡ end)
unknown_one rule other depth deep closing ends input t u rest end r s =
    let (ts, p, x) = unknown_read rule depth closing input t rest r in
    let (us, q, y) = unknown_read other deep ends input u end s in
    let one = encodings_one rule other closing ends input ts us rest end x y in
    (p ∙ (ap items one.0 ∙ sym q), one.1)

-- ---- what other rules read

abbrev pub IsKnown : Shape → Type 0
IsKnown s = IsAlwaysPresent s × IsLawful s

-- What other rules read there is the same.
pub same_reading : (s : Shape) → IsReadable s → (old new : State) (u : Tree) → DecodesTree s old (Ok u) new
    → (rule : Codec) (closing : Bool) (t : Tree) (rest : List ℕ) → Reads rule s old.depth closing old.rest t rest → (t ≡ u) × (rest ≡ new.rest)
same_reading s (inl (solid, lawful)) old new u d rule closing t rest r =
    reads_one s lawful Ber old.depth true old.rest t u rest new.rest (solid_closing s solid Ber old.depth closing true old.rest t rest (reads_in s rule old.depth closing old.rest t rest r)) (by_ber s solid old new u d)
same_reading s (inr e) old new u d rule closing t rest r =
    unknown_one rule old.rule old.depth old.depth closing old.closing old.rest t u rest new.rest (subst (λ z. Reads rule z old.depth closing old.rest t rest) e r) (subst (λ z. Reads old.rule z old.depth old.closing old.rest u new.rest) e d.exact.0)

-- A value is read up to the same octets.
read_alike : (s : Shape) → IsReadable s → (old other n m : State) (t u : Tree) → Alike old other → DecodesTree s old (Ok t) n → DecodesTree s other (Ok u) m → Alike n m
read_alike s readable old other n m t u alike d e =
    let y = subst (λ l. Reads other.rule s old.depth other.closing l u m.rest) (sym alike.rest) (subst (λ k. Reads other.rule s k other.closing other.rest u m.rest) (sym alike.depth) e.exact.0) in
    record {
      rest = sym (same_reading s readable old n t d other.rule other.closing u m.rest y).1;
      depth = ap (λ (z : State). z.depth) d.stays ∙ (alike.depth ∙ sym (ap (λ (z : State). z.depth) e.stays));
      octets = octets_back d.end.0 n.rest (subst AreOctets d.end.1 alike.octets);
    }

not_read : (s : Shape) → IsAlwaysPresent s → (old new : State) (t : Tree) → DecodesTree s old (Ok t) new → (closing : Bool) → Ended closing old.rest → ⊥
not_read s solid old new t d closing e = not_at_end s solid old.rule old.depth old.closing closing old.rest t new.rest d.exact.0 e

tag_read : (s : Shape) → IsAlwaysPresent s → HasTag s → (old new : State) (t : Tree) → DecodesTree s old (Ok t) new → BeginsIn (form old.rule) (IsFirst s) old.rest
tag_read s solid has old new t d = begins s solid has old.rule old.depth old.closing old.rest t new.rest d.exact.0

-- ---- one after the other

abbrev IsOneStep : (State → State → List Span → Type 0) → Type 0
IsOneStep P = (s z n m : State) (es fs : List Span) → Alike s z → P s n es → P z m fs → Alike n m × AreSameParts es fs

module _ (step : ℕ → State → State → List Span → Type 0) where
  -- The first n of more, and the one after them.
  abbrev FirstOf : ℕ → State → Type 0
  FirstOf n s = (here : State) × (next : State) × (before : List Span) × (mine : List Span) × InTurn step n s here before × step n here next mine

  cut : (n m : ℕ) (s last : State) (es : List Span) → n < m → InTurn step m s last es → FirstOf n s
  cut n zero s last es h t = absurd (omega (arith, h))
  cut n (suc m) s last es h (before, mine, here, is, t, k) = go (same_or_not n m) (λ d. cut n m s here before (omega (arith, h, d)) t)
    where
      go : (n ≡ m) ⊎ (n ≢ m) → ((n ≢ m) → FirstOf n s) → FirstOf n s
      go (inl e) f = (here, last, before, mine, subst (λ z. InTurn step z s here before) (sym e) t, subst (λ z. step z here last mine) (sym e) k)
      go (inr d) f = f d

  module _ (one : (k : ℕ) → IsOneStep (step k)) where
    in_turn_one : (n : ℕ) → IsOneStep (InTurn step n)
    in_turn_one zero s z a b es fs alike (p, q) (x, y) =
        (subst (λ v. Alike v b) (sym p) (subst (λ v. Alike s v) (sym x) alike), none_same es fs q y)
    in_turn_one (suc n) s z a b es fs alike (before, mine, here, is, t, k) (first, last, there, are, u, l) =
        let r = in_turn_one n s z here there before first alike t u in
        let v = one n here there a b mine last r.0 k l in
        (v.0, append_same es fs before mine first last is are r.1 v.1)

    -- Up to an end, at which nothing is read.
    module _ (none_at_end : (k : ℕ) (s n : State) (es : List Span) → step k s n es → (closing : Bool) → Ended closing s.rest → ⊥) where
      not_shorter : (n m : ℕ) (s z a b : State) (es fs : List Span) → Alike s z → n < m → InTurn step n s a es → Ended a.closing a.rest → InTurn step m z b fs → ⊥
      not_shorter n m s z a b es fs alike h t e u =
          let (here, next, before, mine, v, k) = cut n m z b fs h u in
          let r = in_turn_one n s z a here es before alike t v in
          none_at_end n here next mine k a.closing (subst (λ l. Ended a.closing l) r.0.rest e)

      ended_one : (n m : ℕ) (s z a b : State) (es fs : List Span) → Alike s z → InTurn step n s a es → Ended a.closing a.rest → InTurn step m z b fs → Ended b.closing b.rest → AreSameParts es fs
      ended_one n m s z a b es fs alike t e u g = go (cases_order n m)
        where
          back : Alike z s
          back = record { rest = sym alike.rest; depth = sym alike.depth; octets = subst AreOctets alike.rest alike.octets }

          go : (n ≡ m) ⊎ ((n < m) ⊎ (m < n)) → AreSameParts es fs
          go (inl h) = (in_turn_one n s z a b es fs alike t (subst (λ k. InTurn step k z b fs) (sym h) u)).1
          go (inr (inl h)) = absurd (not_shorter n m s z a b es fs alike h t e u)
          go (inr (inr h)) = absurd (not_shorter m n z s b a fs es back h u g t)

-- ---- which alternative, and whether a component is absent

pub same_index : (ps : Parts) (tag : Tag) (j k : ℕ) (p q : Presence) (s u : Shape) → IsOnlyAlternative ps j p s tag → IsOnlyAlternative ps k q u tag → j ≡ k
same_index none tag j k p q s u a b = absurd a
same_index (part presence x ps) tag zero zero p q s u a b = refl
same_index (part presence x ps) tag zero (suc k) p q s u (e, f, h, n) (m, b) = absurd (m (subst (λ z. IsFirst z tag) (sym f) h))
same_index (part presence x ps) tag (suc j) zero p q s u (m, a) (e, f, h, n) = absurd (m (subst (λ z. IsFirst z tag) (sym f) h))
same_index (part presence x ps) tag (suc j) (suc k) p q s u (m, a) (n, b) = ap suc (same_index ps tag j k p q s u a b)

other_tag : (spelling other : Form) (tag : Tag) (closing : Bool) (input : List ℕ) → BeginsIn spelling (λ n. n ≡ tag) input → IsLeftOut other (one_tag (Some tag)) closing input → ⊥
other_tag spelling other tag closing input (n, next, is) (inl e) = not_ended closing input n next e
other_tag spelling other tag closing input (n, next, is) (inr (m, another, isnt)) = isnt (next_one input m n another next ∙ is)

no_first : (spelling other : Form) (P : Tag → Type 0) (closing : Bool) (input : List ℕ) → BeginsIn spelling P input → IsLeftOut other (any_of P) closing input → ⊥
no_first spelling other P closing input (n, next, first) (inl e) = not_ended closing input n next e
no_first spelling other P closing input (n, next, first) (inr (m, another, isnt)) = isnt (subst P (next_one input n m next another) first)

-- A value isn't read where it is absent.
pub not_absent : (s : Shape) → IsAlwaysPresent s → (rule : Codec) (depth : ℕ) (c : Bool) (input : List ℕ) (t : Tree) (rest : List ℕ) → Reads rule s depth c input t rest
    → (other : Form) (closing : Bool) → IsLeftOut other (sought_by (key_of s) s) closing input → ⊥
not_absent (leaf kind tag bounds) solid rule depth c input t rest r other closing l = other_tag (form rule) other tag closing input (begins (leaf kind tag bounds) solid tt rule depth c input t rest r) l
not_absent (any None) solid rule depth c input t rest r other closing l = not_at_end (any None) solid rule depth c closing input t rest r l
not_absent (any (Some tag)) solid rule depth c input t rest r other closing l = other_tag (form rule) other tag closing input (begins (any (Some tag)) solid tt rule depth c input t rest r) l
not_absent (prefix tag s) solid rule depth c input t rest r other closing l = other_tag (form rule) other tag closing input (begins (prefix tag s) solid tt rule depth c input t rest r) l
not_absent (choice ps) solid rule depth c input t rest r other closing l = no_first (form rule) other (IsFirst (choice ps)) closing input (begins (choice ps) solid tt rule depth c input t rest r) l
not_absent (open_choice ps) solid rule depth c input t rest r other closing l = not_at_end (open_choice ps) solid rule depth c closing input t rest r l
not_absent (option tag s) solid rule depth c input t rest r other closing l = absurd solid
not_absent (seq tag ps) solid rule depth c input t rest r other closing l = other_tag (form rule) other tag closing input (begins (seq tag ps) solid tt rule depth c input t rest r) l
not_absent (set tag ps) solid rule depth c input t rest r other closing l = other_tag (form rule) other tag closing input (begins (set tag ps) solid tt rule depth c input t rest r) l
not_absent (sorted_set extensible tag ps) solid rule depth c input t rest r other closing l =
    other_tag (form rule) other tag closing input (begins (sorted_set extensible tag ps) solid tt rule depth c input t rest r) l
not_absent (list tag s size) solid rule depth c input t rest r other closing l = other_tag (form rule) other tag closing input (begins (list tag s size) solid tt rule depth c input t rest r) l
not_absent (set_of tag s size) solid rule depth c input t rest r other closing l = other_tag (form rule) other tag closing input (begins (set_of tag s size) solid tt rule depth c input t rest r) l
not_absent unknown solid rule depth c input t rest r other closing l = absurd solid

absent_there : (s : Shape) → IsAlwaysPresent s → (old other new : State) (t : Tree) → other.rest ≡ old.rest → DecodesTree s old (Ok t) new → NextIs (sought_by (key_of s) s) other (Ok false) → ⊥
absent_there s solid old other new t e d l =
    not_absent s solid old.rule old.depth old.closing old.rest t new.rest d.exact.0 (form other.rule) other.closing (subst (λ z. IsLeftOut (form other.rule) (sought_by (key_of s) s) other.closing z) e l)

-- What a component of a SEQUENCE is that isn't required. Unknown values are at the end, and required.
no_components : (f : ℕ → Shape) (ps : List Component) (k : ℕ) (p : Component) → components_by f ps ≡ none → Some p ≡ slice_get ps k → ⊥
no_components f [] k p n e = cc
no_components f (q ∷ ps) k p n e = cc

pub component_known : (f : ℕ → Shape) (ps : List Component) (k : ℕ) (p : Component) → AreLawfulInOrder (components_by f ps) → Some p ≡ slice_get ps k → IsKnown (f p.type_id.0) ⊎ (presence_in f p ≡ required)
unfolding IsLawful
component_known f [] k p h e = absurd cc
component_known f (q ∷ ps) zero p (inl (r, u, n)) e = subst (λ (z : Component). IsKnown (f z.type_id.0) ⊎ (presence_in f z ≡ required)) (some_is q p (sym e)) (inr r)
component_known f (q ∷ ps) zero p (inr (s, l, m, h)) e = subst (λ (z : Component). IsKnown (f z.type_id.0) ⊎ (presence_in f z ≡ required)) (some_is q p (sym e)) (inl (s, l))
component_known f (q ∷ ps) (suc k) p (inl (r, u, n)) e = absurd (no_components f ps k p n e)
component_known f (q ∷ ps) (suc k) p (inr (s, l, m, h)) e = component_known f ps k p h e

required_there : (f : ℕ → Shape) (p : Component) → presence_in f p ≡ required → IsAlwaysThere (presence_of p.presence)
required_there f p e = go p.presence e
  where
    go : (q : PartPresence) → presence_by (key_of (f p.type_id.0)) q ≡ required → IsAlwaysThere (presence_of q)
    go Required e = tt
    go Optional e = absurd cc
    go Addition e = absurd cc
    go (Default v) e = absurd cc

required_found : (f : ℕ → Shape) (p : Component) → presence_in f p ≡ required → is_required p.presence ≡ true
required_found f p e = go p.presence e
  where
    go : (q : PartPresence) → presence_by (key_of (f p.type_id.0)) q ≡ required → is_required q ≡ true
    go Required e = refl
    go Optional e = absurd cc
    go Addition e = absurd cc
    go (Default v) e = absurd cc

none_required : (ps : List Component) (k : ℕ) (p : Component) → any_required ps ≡ false → Some p ≡ slice_get ps k → is_required p.presence ≡ false
none_required [] k p n e = absurd cc
none_required (q ∷ ps) k p n e = go (is_required q.presence) refl n k e (λ m j f. none_required ps j p m f)
  where
    go : (b : Bool) → is_required q.presence ≡ b → b || any_required ps ≡ false → (k : ℕ) → Some p ≡ slice_get (q ∷ ps) k → (any_required ps ≡ false → (j : ℕ) → Some p ≡ slice_get ps j → is_required p.presence ≡ false) → is_required p.presence ≡ false
    go true h n k e more = absurd cc
    go false h n zero e more = subst (λ (z : Component). is_required z.presence ≡ false) (some_is q p (sym e)) h
    go false h n (suc k) e more = more n k e

-- Where all may be left out, each is lawful.
pub left_known : (f : ℕ → Shape) (ps : List Component) → AreLawfulInOrder (components_by f ps) → any_required ps ≡ false → (k : ℕ) (p : Component) → Some p ≡ slice_get ps k → IsKnown (f p.type_id.0)
left_known f ps are n k p e = go (component_known f ps k p are e)
  where
    go : IsKnown (f p.type_id.0) ⊎ (presence_in f p ≡ required) → IsKnown (f p.type_id.0)
    go (inl h) = h
    go (inr r) = let x : true ≡ false = sym (required_found f p r) ∙ none_required ps k p n e in absurd cc

-- ---- the parts of a value, if those inside its parts are determined

abbrev IsOneInside : (ℕ → ℕ → State → List Span → Type 0) → Type 0
IsOneInside P = (id b : ℕ) (s z : State) (es fs : List Span) → Alike s z → P id b s es → P id b z fs → AreSameParts es fs

-- A header by one rule is the same by another.
pub header_frame : (d : ConstructedHeader) (s : State) (h : Header) → AreOctets s.rest → constructed_header_at d s.rule s.depth s.rest ≡ Ok h → Frame (form s.rule) s.rest h.tag h.bit h.rest h.extent
header_frame d s h o e = (header_parsed (form s.rule) (expected_header d s.rule) s.rest h o (constructed_header_parsed d s.rule s.depth s.rest h e).1).0

into_header : (d : ConstructedHeader) (b : ℕ) (s z : State) (a c : ℕ) (inner other : State) → Alike s z → GoesInside d b s a inner → GoesInside d b z c other → (a ≡ c) × Alike inner other
into_header d b s z a c inner other alike (h, p, q, r) (k, u, v, w) =
    let F = header_frame d s h alike.octets p in
    let G = subst (λ l. Frame (form z.rule) l k.tag k.bit k.rest k.extent) (sym alike.rest) (header_frame d z k (subst AreOctets alike.rest alike.octets) u) in
    let one = frame_one s.rest F G in
    let closing : inner.closing ≡ other.closing = ap (λ (y : State). y.closing) q ∙ (ap is_indefinite_extent one.extent ∙ sym (ap (λ (y : State). y.closing) v)) in
    let same : octets_inside h.extent h.rest ≡ octets_inside k.extent k.rest = ap (λ x. octets_inside x h.rest) one.extent ∙ ap (octets_inside k.extent) one.rest in (
      r ∙ (ap (λ y. capped b (octets_after y (length h.rest))) closing ∙ (ap (λ l. capped b (octets_after other.closing (length l))) one.rest ∙ sym w)),
      record {
        rest = ap (λ (y : State). y.rest) q ∙ (same ∙ sym (ap (λ (y : State). y.rest) v));
        depth = ap (λ (y : State). y.depth) q ∙ (ap (λ n. n - d.levels) alike.depth ∙ sym (ap (λ (y : State). y.depth) v));
        octets = subst AreOctets (sym (ap (λ (y : State). y.rest) q)) (frame_octets s.rest alike.octets F).1;
      },
    )

into_one : (ty : «Type») (b : ℕ) (s z : State) (a c : ℕ) (inner other : State) → Alike s z → GoesInto ty b s a inner → GoesInto ty b z c other → (a ≡ c) × Alike inner other
into_one ty b s z a c inner other alike g h = go ty g h
  where
    stays : (a ≡ b) × (inner ≡ s) → (c ≡ b) × (other ≡ z) → (a ≡ c) × Alike inner other
    stays (p, q) (u, v) = (p ∙ sym u, subst (λ y. Alike y other) (sym q) (subst (λ y. Alike s y) (sym v) alike))

    go : (ty : «Type») → GoesInto ty b s a inner → GoesInto ty b z c other → (a ≡ c) × Alike inner other
    go (Leaf kind tag bounds names) g h = stays g h
    go (Enumerated tag ns) g h = stays g h
    go (Any tag) g h = stays g h
    go Unknown g h = stays g h
    go (Tagged tag id) g h = into_header (prefix_header tag) b s z a c inner other alike g h
    go (Choice name ks) g h = stays g h
    go (Sequence tag ps) g h = into_header (sequence_header tag) b s z a c inner other alike g h
    go (Set name tag ps) g h = into_header (sequence_header tag) b s z a c inner other alike g h
    go (SequenceOf tag id size) g h = into_header (list_header tag) b s z a c inner other alike g h
    go (SetOf tag id size) g h = into_header (list_header tag) b s z a c inner other alike g h

-- The type is lawful, or it is unknown values.
pub known_type : (f : ℕ → Shape) (ty : «Type») → IsReadable (type_by f ty) → IsLawful (type_by f ty) ⊎ (ty ≡ Unknown)
known_type f ty (inl h) = inl h.1
known_type f (Leaf kind tag c names) (inr e) = absurd cc
known_type f (Enumerated tag ns) (inr e) = absurd cc
known_type f (Any tag) (inr e) = absurd cc
known_type f Unknown (inr e) = inr refl
known_type f (Tagged tag id) (inr e) = absurd cc
known_type f (Choice name ks) (inr e) = absurd (among_known (alternatives_by f ks.items) e)
known_type f (Sequence tag ps) (inr e) = absurd cc
known_type f (Set name tag ps) (inr e) = absurd cc
known_type f (SequenceOf tag id c) (inr e) = absurd cc
known_type f (SetOf tag id c) (inr e) = absurd cc

module _ (f : ℕ → Shape) (levels : ℕ) (P : ℕ → ℕ → State → List Span → Type 0) where
  part_not_at_end : (id k b : ℕ) → IsKnown (f id) → (s n : State) (es : List Span) → PartListed f levels P id k b s n es → (closing : Bool) → Ended closing s.rest → ⊥
  part_not_at_end id k b known s n es x closing e = not_read (f id) known.0 s n x.tree x.reads closing e

  -- Nothing is left: each component is absent.
  pub none_left : (ps : List Component) → ((k : ℕ) (p : Component) → Some p ≡ slice_get ps k → IsKnown (f p.type_id.0))
      → (b n : ℕ) (s last : State) (es : List Span) → s.rest ≡ [] → InTurn (ComponentAt f levels P ps b) n s last es → (last ≡ s) × (es ≡ [])
  none_left ps known b zero s last es e (p, q) = (p, q)
  none_left ps known b (suc n) s last es e (before, mine, here, is, t, (p, a, inl (h, g, i))) =
      let r = none_left ps known b n s here before e t in
      (g ∙ r.0, is ∙ (ap (λ l. l ++ mine) r.1 ∙ i))
  none_left ps known b (suc n) s last es e (before, mine, here, is, t, (p, a, inr x)) =
      let r = none_left ps known b n s here before e t in
      absurd (part_not_at_end p.type_id.0 n b (known n p a) here last mine x true (inl (ap (λ (v : State). v.rest) r.0 ∙ e)))

module _ (f : ℕ → Shape) (readable : (k : ℕ) → IsReadable (f k)) (levels : ℕ) (P : ℕ → ℕ → State → List Span → Type 0) (one : IsOneInside P) where
  part_one : (id k b : ℕ) → IsOneStep (PartListed f levels P id k b)
  part_one id k b s z n m es fs alike x y =
      let e = read_alike (f id) (readable id) s z n m x.tree y.tree alike x.reads y.reads in
      let o : x.part.octets.now ++ n.rest ≡ y.part.octets.now ++ n.rest = sym x.octets ∙ (alike.rest ∙ (y.octets ∙ ap (λ l. y.part.octets.now ++ l) (sym e.rest))) in
      let same : IsSamePart x.part y.part = record {
        id = x.id_is ∙ sym y.id_is;
        index = x.index ∙ sym y.index;
        depth = x.deep ∙ sym y.deep;
        left = x.left ∙ (ap (λ l. capped b (length l)) alike.rest ∙ sym y.left);
        octets = append_cancel_right x.part.octets.now y.part.octets.now n.rest o;
      } in
      (e, cons_same es fs x.inside y.inside x.part y.part x.is y.is same (one id b s z x.inside y.inside alike x.parts y.parts))

  elements_one : (id b : ℕ) → IsKnown (f id) → (s z : State) (es fs : List Span) → Alike s z → ElementsListed f levels P id b s es → ElementsListed f levels P id b z fs → AreSameParts es fs
  elements_one id b known s z es fs alike (n, a, t, e) (m, c, u, g) =
      ended_one (λ k. PartListed f levels P id k b) (λ k. part_one id k b) (λ k. part_not_at_end f levels P id k b known) n m s z a c es fs alike t e u g

  component_one : (ps : List Component) → AreLawfulInOrder (components_by f ps) → (b k : ℕ) → IsOneStep (ComponentAt f levels P ps b k)
  component_one ps are b k s z n m es fs alike (p, a, x) (q, c, y) = go x (subst (λ (v : Component). ComponentListed f levels P v k b z m fs) (some_is q p (c ∙ sym a)) y)
    where
      neither : (here : State) → IsAbsentHere f p here → (there next : State) (rs : List Span) → here.rest ≡ there.rest → PartListed f levels P p.type_id.0 k b there next rs → IsKnown (f p.type_id.0) ⊎ (presence_in f p ≡ required) → ⊥
      neither here h there next rs e r (inl known) = absent_there (f p.type_id.0) known.0 there here next r.tree e r.reads h.1
      neither here h there next rs e r (inr needed) = h.0 (required_there f p needed)

      go : ComponentListed f levels P p k b s n es → ComponentListed f levels P p k b z m fs → Alike n m × AreSameParts es fs
      go (inl (h, e, i)) (inl (l, g, j)) = (subst (λ v. Alike v m) (sym e) (subst (λ v. Alike s v) (sym g) alike), none_same es fs i j)
      go (inl (h, e, i)) (inr r) = absurd (neither s h z m fs alike.rest r (component_known f ps k p are a))
      go (inr r) (inl (l, g, j)) = absurd (neither z l s n es (sym alike.rest) r (component_known f ps k p are a))
      go (inr r) (inr v) = part_one p.type_id.0 k b s z n m es fs alike r v

  components_one : (ps : List Component) → AreLawfulInOrder (components_by f ps) → (b : ℕ) (s z : State) (es fs : List Span) → Alike s z → ComponentsListed f levels P ps b s es → ComponentsListed f levels P ps b z fs → AreSameParts es fs
  components_one ps are b s z es fs alike (inl (h, p)) (inl (k, q)) = none_same es fs p q
  components_one ps are b s z es fs alike (inl (h, p)) (inr (m, u)) = none_same es fs p (none_left f levels P ps (left_known f ps are h.0) b (length ps) z m fs (sym alike.rest ∙ h.2) u).1
  components_one ps are b s z es fs alike (inr (n, t)) (inl (k, q)) = none_same es fs (none_left f levels P ps (left_known f ps are k.0) b (length ps) s n es (alike.rest ∙ k.2) t).1 q
  components_one ps are b s z es fs alike (inr (n, t)) (inr (m, u)) = (in_turn_one (ComponentAt f levels P ps b) (component_one ps are b) (length ps) s z n m es fs alike t u).1

  -- The next tag says which alternative or component it is.
  alternative_one : (ks : List Alternative) (b : ℕ) (s z : State) (es fs : List Span) → Alike s z
      → AlternativeListed f levels P ks b s es → AlternativeListed f levels P ks b z fs → AreSameParts es fs
  alternative_one ks b s z es fs alike (j, a, (tag, next, p), n, x) (k, c, (other, after, q), m, y) =
      let same : other ≡ tag = next_one s.rest other tag (subst (λ l. NextTag (form z.rule) l other) (sym alike.rest) after) next in
      let r = subst (λ u. IsAlternativeFor f ks u k c) same q in
      let e : j ≡ k = one_alternative f ks tag j k a c p r in
      let g : c ≡ a = some_is c a (r.0 ∙ (ap (slice_get ks) (sym e) ∙ sym p.0)) in
      (part_one a.type_id.0 j b s z n m es fs alike x (subst (λ (i : Alternative). PartListed f levels P i.type_id.0 j b z m fs) g (subst (λ i. PartListed f levels P c.type_id.0 i b z m fs) (sym e) y))).1

  -- Where a named component is, no unknown one is.
  not_unknown : (extensible : Bool) (ps : List Component) → AreLawfulMembers (components_by f ps) → (b k : ℕ) (p : Component) → Some p ≡ slice_get ps k → (s z n m : State) (es : List Span) → s.rest ≡ z.rest
      → PartListed f levels P p.type_id.0 k b s n es → PassesUnknown extensible (components_by f ps) z m → ⊥
  not_unknown extensible ps are b k p at s z n m es e x (u, d) =
      let known = member_is f ps k p are.0 at in
      let v = tag_read (f p.type_id.0) known.1 known.0 s n x.tree x.reads in
      let (next, m, isnt) = (unknown_is (components_by f ps) z m extensible u d).other in
      isnt (subst (IsFirstOf (components_by f ps)) (next_one s.rest v.0 next v.1 (subst (λ l. NextTag (form z.rule) l next) (sym e) m)) (first_of_part f v.0 ps k p at v.2))

  -- Unknown ones are read up to the same octets.
  unknown_alike : (id k b : ℕ) (s z n m : State) (es fs : List Span) → Alike s z → Alike n m → UnknownListed levels id k b s n es → UnknownListed levels id k b z m fs → AreSameParts es fs
  unknown_alike id k b s z n m es fs alike e x y =
      let o : x.part.octets.now ++ n.rest ≡ y.part.octets.now ++ n.rest = sym x.octets ∙ (alike.rest ∙ (y.octets ∙ ap (λ l. y.part.octets.now ++ l) (sym e.rest))) in
      let same : IsSamePart x.part y.part = record {
        id = x.id_is ∙ sym y.id_is;
        index = x.index ∙ sym y.index;
        depth = x.deep ∙ sym y.deep;
        left = x.left ∙ (ap (λ l. capped b (length l)) alike.rest ∙ sym y.left);
        octets = append_cancel_right x.part.octets.now y.part.octets.now n.rest o;
      } in
      cons_same es fs [] [] x.part y.part x.is y.is same (none_same [] [] refl refl)

  member_one : (extensible : Bool) (ps : List Component) → AreLawfulMembers (components_by f ps) → (other b : ℕ) → IsOneStep (MemberListed f levels P extensible ps other b)
  unfolding IsLawful
  member_one extensible ps are other b s z n m es fs alike (inl ((t, d), p)) (inl ((u, c), q)) =
      let e = read_alike (any None) (inl (tt, tt)) s z n m t u alike (unknown_is (components_by f ps) s n extensible t d).open_type (unknown_is (components_by f ps) z m extensible u c).open_type in
      (e, unknown_alike other (length ps) b s z n m es fs alike e p q)
  member_one extensible ps are other b s z n m es fs alike (inl (d, p)) (inr (k, c, at, y)) = absurd (not_unknown extensible ps are b k c at z s m n fs (sym alike.rest) y d)
  member_one extensible ps are other b s z n m es fs alike (inr (j, a, at, x)) (inl (d, q)) = absurd (not_unknown extensible ps are b j a at s z n m es alike.rest x d)
  member_one extensible ps are other b s z n m es fs alike (inr (j, a, p, x)) (inr (k, c, q, y)) =
      let h = member_is f ps j a are.0 p in
      let i = member_is f ps k c are.0 q in
      let v = tag_read (f a.type_id.0) h.1 h.0 s n x.tree x.reads in
      let w = tag_read (f c.type_id.0) i.1 i.0 z m y.tree y.reads in
      let next = subst (λ l. NextTag (form z.rule) l w.0) (sym alike.rest) w.1 in
      let first = subst (IsFirst (f c.type_id.0)) (next_one s.rest w.0 v.0 next v.1) w.2 in
      let e : j ≡ k = same_index (components_by f ps) v.0 j k _ _ _ _ (only_part f v.0 ps j a are.1 (p, v.2)) (only_part f v.0 ps k c are.1 (q, first)) in
      let g : c ≡ a = some_is c a (q ∙ (ap (slice_get ps) (sym e) ∙ sym p)) in
      part_one a.type_id.0 j b s z n m es fs alike x (subst (λ (i : Component). PartListed f levels P i.type_id.0 j b z m fs) g (subst (λ i. PartListed f levels P c.type_id.0 i b z m fs) (sym e) y))

  member_not_at_end : (extensible : Bool) (ps : List Component) → AreLawfulMembers (components_by f ps) → (other b : ℕ) (s n : State) (es : List Span) → MemberListed f levels P extensible ps other b s n es → (closing : Bool) → Ended closing s.rest → ⊥
  unfolding IsLawful
  member_not_at_end extensible ps are other b s n es (inl ((u, d), q)) closing e = not_read (any None) tt s n u (unknown_is (components_by f ps) s n extensible u d).open_type closing e
  member_not_at_end extensible ps are other b s n es (inr (k, p, at, x)) closing e =
      let known = member_is f ps k p are.0 at in
      part_not_at_end f levels P p.type_id.0 k b (known.1, known.2) s n es x closing e

  members_one : (extensible : Bool) (ps : List Component) → AreLawfulMembers (components_by f ps) → (other b : ℕ) (s z : State) (es fs : List Span) → Alike s z
      → MembersListed f levels P extensible ps other b s es → MembersListed f levels P extensible ps other b z fs → AreSameParts es fs
  members_one extensible ps are other b s z es fs alike (n, a, t, e) (m, c, u, g) =
      ended_one (λ k. MemberListed f levels P extensible ps other b) (λ k. member_one extensible ps are other b) (λ k v w. member_not_at_end extensible ps are other b v w) n m s z a c es fs alike t e u g

  contents_one : (ty : «Type») → IsLawful (type_by f ty) → (b : ℕ) (s z : State) (es fs : List Span) → Alike s z → ContentsListed f levels P ty b s es → ContentsListed f levels P ty b z fs → AreSameParts es fs
  unfolding IsLawful
  contents_one (Leaf kind tag c names) are b s z es fs alike p q = none_same es fs p q
  contents_one (Enumerated tag ns) are b s z es fs alike p q = none_same es fs p q
  contents_one (Any tag) are b s z es fs alike p q = none_same es fs p q
  contents_one Unknown are b s z es fs alike p q = none_same es fs p q
  contents_one (Tagged tag id) are b s z es fs alike (n, x) (m, y) = (part_one id.0 0 b s z n m es fs alike x y).1
  contents_one (Choice name ks) are b s z es fs alike x y = alternative_one ks.items b s z es fs alike x y
  contents_one (Sequence tag ps) are b s z es fs alike x y = components_one ps.items are.1 b s z es fs alike x y
  contents_one (Set name tag ps) are b s z es fs alike x y =
      members_one (is_extensible f ps.items) (named_components f ps.items) (subst AreLawfulMembers (sym (named_is f ps.items)) (are.1, are.2)) (last_type ps.items) b s z es fs alike x y
  contents_one (SequenceOf tag id c) are b s z es fs alike x y = elements_one id.0 b (are.1, are.2) s z es fs alike x y
  contents_one (SetOf tag id c) are b s z es fs alike x y = elements_one id.0 b (are.1, are.2) s z es fs alike x y

  value_one : (ty : «Type») → IsReadable (type_by f ty) → (b : ℕ) (s z : State) (es fs : List Span) → Alike s z → ValueListed f levels P ty b s es → ValueListed f levels P ty b z fs → AreSameParts es fs
  value_one ty are b s z es fs alike (a, inner, g, x) (c, other, h, y) = go (known_type f ty are)
    where
      go : IsLawful (type_by f ty) ⊎ (ty ≡ Unknown) → AreSameParts es fs
      go (inl lawful) =
          let e = into_one ty b s z a c inner other alike g h in
          contents_one ty lawful a inner other es fs e.1 x (subst (λ n. ContentsListed f levels P ty n other fs) (sym e.0) y)
      go (inr e) = none_same es fs (subst (λ v. ContentsListed f levels P v a inner es) e x) (subst (λ v. ContentsListed f levels P v c other fs) e y)

-- ---- types by their numbers

module _ (types : List «Type») (readable : AreReadableTypes types) where
  pub readable_type : (n id : ℕ) (ty : «Type») → slice_get types id ≡ Some ty → IsReadable (type_by (shape_of_type types n) ty)
  unfolding shape_of_type
  readable_type n id ty at = subst (λ z. IsReadable (found_by (λ j. shape_of_type types n j) z)) at (readable (suc n) id)

  inside_one : (n : ℕ) → IsOneInside (Inside types n)
  unfolding PartsInside
  inside_one zero id b s z es fs alike h k = absurd h
  inside_one (suc n) id b s z es fs alike (ty, p, x) (tz, q, y) =
      let e : tz ≡ ty = some_is tz ty (sym q ∙ p) in
      value_one (shape_of_type types n) (readable n) n (Inside types n) (inside_one n) ty (readable_type n id ty p) b s z es fs alike x
      (subst (λ v. ValueListed (shape_of_type types n) n (Inside types n) v b z fs) e y)

pub same_parts : (types : List «Type») (rule other : Codec) (id : ℕ) (input rest end : List ℕ) (es fs : List Span)
    → AreReadableTypes types → AreOctets input → AreParts types rule id input rest es → AreParts types other id input end fs → AreSameParts es fs
same_parts types rule other id input rest end es fs readable octets x y =
    let n : ℕ = 18446744073709551615 in
    let alike : Alike (start rule input) (start other input) = record { rest = refl; depth = refl; octets = octets } in
    (part_one (shape_of_type types 18446744073709551615) (readable n) n (Inside types n) (inside_one types readable n)
    id 0 0 (start rule input) (start other input) x.last y.last es fs alike x.listed y.listed).1

-- The parts of a list that is gone over.
pub as_parts : (types : List «Type») (rule : Codec) (id : ℕ) (input : List ℕ) (ps : MessageParts) → (a : ArePartsOf types rule id input ps) → AreParts types rule id input a.last.rest ps.list.items
as_parts types rule id input ps a = record { last = a.last; ends = refl; listed = a.listed; placed = a.placed }

pub parts_determined : PartsAreDetermined
parts_determined types rule other id input ps qs readable octets x y =
    same_parts types rule other id input x.last.rest y.last.rest ps.list.items qs.list.items readable octets (as_parts types rule id input ps x) (as_parts types other id input qs y)

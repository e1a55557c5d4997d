-- What CER or DER reads, BER reads.
use Rattle.std.proofs.Common.{◌≡◌, ℕ, suc, ◌-◌, ◌⊎◌, inl, inr, List, [], ◌∷◌, Bool, true, false, ℤ, Option, Some, None, refl, sym, subst}
use Rattle.rasn_types.specs.Tags.{Form, basic_form, form, IsStrict}
use Rattle.rasn_types.specs.declared.types.codec.Codec.{Codec}
use Rattle.rasn_types.specs.declared.types.codec.Codec.TheVariants.{Ber, Cer, Der}
use Rattle.rasn_types.specs.declared.types.tag.Tag.{Tag}
use Rattle.rasn_types.specs.Framing.{Frame, with_length, without_length, Extent, NextTag, CompleteEncoding, plain, closed, CompleteEncodings, none, one_more}
use Rattle.rasn_types.specs.Shapes.{Tree, absent, Kind, boolean, null, object_identifier, integer, enumerated, octet_string, fixed, numeric, printable, visible, ia5, any_octets, bmp, universal, utf8, real, time_text, time_digits, utc_time, generalized_time, date, Shape, leaf, any, prefix, choice, open_choice, option, seq, set, sorted_set, list, set_of, unknown, Parts, part, count, IsFirstOf, presences, Presence, required, addition, optional_by, default_by, Sought, one_tag, any_of, sought_in, IsAlwaysPresent, AreAlwaysPresent}
use Rattle.rasn_types.specs.declared.types.constraints.Bound.{Bound}
use Rattle.rasn_types.specs.Readings.{Reading, ReadsContents, definite_form, indefinite_form, ReadsMany, IsLeftOut, IsPresent, ReadsOptional, IsNoDefault, ReadsPart, ReadsInOrder, AllMissing, presences_in, HasRequired, ReadsSeq, ReadsChoice, ReadsSet, ReadsSortedSet}
use Rattle.rasn_types.specs.Contents.{ReadsString, primitive, segments, closed_segments, ReadsSegments, ReadsBitSegment, OctetSegment, Contents, IsBool}
use Rattle.rasn_types.specs.Grammar.{Reads, parts_of, top, Family, plain_family, bit_family, named_family, text_family, family, ReadsIn, ReadsOpen, ReadsAny, ReadsOpenChoice, ReadsList, ReadsSetOf, Text}
use Rattle.rasn_types.specs.Lawful.{IsLawful, AreAlternatives}
use Rattle.rasn.proofs.Time.Texts.{utc_in, generalized_in}
use Rattle.rasn.proofs.ReadBack.Begins.{solid_closing, wider}

-- a lawful shape that isn't solid
abbrev pub IsOptional : Shape → Type 0
IsOptional s = (tag : Option Tag) × (u : Shape) × (s ≡ option tag u) × IsAlwaysPresent u

-- Each reading by the one is a reading by the other.
abbrev pub IsIn : {X : Type 0} → Reading X → Reading X → Type 0
IsIn {X} reads wide = (input : List ℕ) (x : X) (rest : List ℕ) → reads input x rest → wide input x rest

frame_ber : {rule : Form} {input rest : List ℕ} {s : Tag} {b : Bool} {m : Extent} → Frame rule input s b rest m → Frame basic_form input s b rest m
frame_ber (with_length id len c p q z e) = with_length id len c p q (λ h. absurd h) e
frame_ber (without_length id p q r e) = without_length id p q tt e

next_ber : {spelling : Form} {input : List ℕ} {tag : Tag} → NextTag spelling input tag → NextTag basic_form input tag
next_ber n = record { begins = n.begins; is_one = n.is_one; shortest = λ h. absurd h }

mutual
  whole_ber : {rule : Codec} {text : List ℕ} → CompleteEncoding rule text → CompleteEncoding Ber text
  whole_ber (plain s b c f) = plain s b c (frame_ber f)
  whole_ber (closed s b body nested f inside is) = closed s b body nested (frame_ber f) (wholes_ber inside) is

  wholes_ber : {rule : Codec} {text : List ℕ} → CompleteEncodings rule text → CompleteEncodings Ber text
  wholes_ber none = none
  wholes_ber (one_more front back first others is) = one_more front back (whole_ber first) (wholes_ber others) is

inside_in : {X : Type 0} (inner wide : Bool → Reading X) → ((c : Bool) → IsIn (inner c) (wide c)) → {rule : Codec} {tag : Tag} {bit : Bool}
    → IsIn (ReadsContents rule tag bit inner) (ReadsContents Ber tag bit wide)
inside_in inner wide into input x rest (definite_form c f r) = definite_form c (frame_ber f) (into false c x [] r)
inside_in inner wide into input x rest (indefinite_form b f r) = indefinite_form b (frame_ber f) (into true b x (0 ∷ 0 ∷ rest) r)

pub many_in : {X : Type 0} (reads wide : Reading X) → IsIn reads wide → (closing : Bool) → IsIn (ReadsMany reads closing) (ReadsMany wide closing)
many_in reads wide into closing input [] rest h = h
many_in reads wide into closing input (x ∷ xs) rest (p, m, q, r) = (p, m, into input x m q, many_in reads wide into closing m xs rest r)

left_out_ber : (spelling : Form) (tags : Sought) (closing : Bool) (input : List ℕ) → IsLeftOut spelling tags closing input → IsLeftOut basic_form tags closing input
left_out_ber spelling (one_tag None) closing input h = h
left_out_ber spelling (one_tag (Some tag)) closing input (inl h) = inl h
left_out_ber spelling (one_tag (Some tag)) closing input (inr (n, next, h)) = inr (n, next_ber next, h)
left_out_ber spelling (any_of P) closing input (inl h) = inl h
left_out_ber spelling (any_of P) closing input (inr (n, next, h)) = inr (n, next_ber next, h)

there_ber : (spelling : Form) (tags : Sought) (closing : Bool) (input : List ℕ) → IsPresent spelling tags closing input → IsPresent basic_form tags closing input
there_ber spelling (one_tag None) closing input h = h
there_ber spelling (one_tag (Some tag)) closing input h = (h.0, next_ber h.1)
there_ber spelling (any_of P) closing input h = (h.0, h.1, next_ber h.2, h.3)

perhaps_in : {X : Type 0} (spelling : Form) (tags : Sought) (without : X) (reads wide : Reading X) → IsIn reads wide → (closing : Bool)
    → IsIn (ReadsOptional spelling tags without reads closing) (ReadsOptional basic_form tags without wide closing)
perhaps_in spelling tags without reads wide into closing input x rest (inl (p, q, r)) = inl (left_out_ber spelling tags closing input p, q, r)
perhaps_in spelling tags without reads wide into closing input x rest (inr (p, q)) = inr (there_ber spelling tags closing input p, into input x rest q)

pub bool_in : (rule : Codec) (l : List ℕ) (z : ℤ) → IsBool rule l z → IsBool Ber l z
bool_in Ber l z h = h
bool_in Cer l z (inl (e, f)) = (0, e, inl (refl, f))
bool_in Cer l z (inr (e, f)) = (255, e, inr (λ p. cc, f))
bool_in Der l z (inl (e, f)) = (0, e, inl (refl, f))
bool_in Der l z (inr (e, f)) = (255, e, inr (λ p. cc, f))

contents_in : (rule : Codec) (kind : Kind) (l : List ℕ) (t : Tree) → Contents rule kind l t → Contents Ber kind l t
contents_in rule boolean l t (z, e, h) = (z, e, bool_in rule l z h)
contents_in rule (integer range) l t h = h
contents_in rule (enumerated known) l t h = h
contents_in rule null l t h = h
contents_in rule object_identifier l t h = h
contents_in rule real l t (octets, e, (r, d, c, w)) = (octets, e, (r, d, c, λ z. absurd z))
contents_in rule time_text l t h = h
contents_in rule (time_digits n) l t h = h
contents_in rule kind l t h = absurd h

text_in : (rule : Codec) (kind : Kind) (l : List ℕ) (t : Tree) → Text rule kind l t → Text Ber kind l t
text_in rule octet_string l t h = h
text_in rule (fixed n) l t h = h
text_in rule numeric l t h = h
text_in rule printable l t h = h
text_in rule visible l t h = h
text_in rule ia5 l t h = h
text_in rule any_octets l t h = h
text_in rule bmp l t h = h
text_in rule universal l t h = h
text_in rule utf8 l t h = h
text_in rule utc_time l t h = utc_in rule l t h
text_in rule generalized_time l t h = generalized_in rule l t h
text_in rule date l t h = h
text_in rule kind l t h = absurd h

mutual
  str_in : {X : Type 0} (rule : Codec) (segment wide : List ℕ → List X → Type 0) → ((l : List ℕ) (xs : List X) → segment l xs → wide l xs) → (inner : Tag) (depth : ℕ) (tag : Tag)
      → IsIn (ReadsString rule segment inner depth tag) (ReadsString Ber wide inner depth tag)
  str_in rule segment wide into inner depth tag input xs rest (primitive c f s) = primitive c (frame_ber f) (into c xs s)
  str_in rule segment wide into inner (suc depth) tag input xs rest (segments c has f m) =
      segments c (λ s. s) (frame_ber f) (segments_in rule segment wide into inner depth false c xs [] m)
  str_in rule segment wide into inner (suc depth) tag input xs rest (closed_segments body has f m) =
      closed_segments body (λ s. s) (frame_ber f) (segments_in rule segment wide into inner depth true body xs (0 ∷ 0 ∷ rest) m)

  segments_in : {X : Type 0} (rule : Codec) (segment wide : List ℕ → List X → Type 0) → ((l : List ℕ) (xs : List X) → segment l xs → wide l xs) → (inner : Tag) (depth : ℕ) (closing : Bool)
      → IsIn (ReadsSegments rule segment inner depth closing) (ReadsSegments Ber wide inner depth closing)
  segments_in rule segment wide into inner depth closing input xs rest (ReadsSegments.none e) = ReadsSegments.none e
  segments_in rule segment wide into inner depth closing input xs rest (ReadsSegments.one_more first others middle n s more is) =
      ReadsSegments.one_more first others middle n (str_in rule segment wide into inner depth inner input first middle s) (segments_in rule segment wide into inner depth closing middle others rest more) is

in_in : (which : Family) (rule : Codec) (kind : Kind) (tag : Tag) (depth : ℕ) → IsIn (ReadsIn which rule kind tag depth) (ReadsIn which Ber kind tag depth)
in_in plain_family rule kind tag depth input t rest (b, c, f, h, z) = (b, c, frame_ber f, contents_in rule kind c t h, λ e. absurd e)
in_in bit_family rule kind tag depth input t rest (bs, e, n, h) = (bs, e, n, str_in rule (ReadsBitSegment rule) (ReadsBitSegment Ber) (λ l xs s. (s.0, λ z. absurd z)) _ depth tag input bs rest h)
in_in named_family rule kind tag depth input t rest (bs, e, n, h, z) =
    (bs, e, n, str_in rule (ReadsBitSegment rule) (ReadsBitSegment Ber) (λ l xs s. (s.0, λ z. absurd z)) _ depth tag input bs rest h, λ z. absurd z)
in_in text_family rule kind tag depth input t rest (l, h, k) = (l, str_in rule OctetSegment OctetSegment (λ c xs s. s) _ depth tag input l rest h, text_in rule kind l t k)

open_in : (rule : Codec) (tag : Tag) → IsIn (ReadsOpen rule tag) (ReadsOpen Ber tag)
open_in rule tag input t rest (b, c, e, z, inl f) = (b, c, e, (λ s. absurd s), inl (frame_ber f))
open_in rule tag input t rest (b, c, e, z, inr (d, f, w, g)) = (b, c, e, (λ s. absurd s), inr (d, frame_ber f, wholes_ber w, g))

any_in : (rule : Codec) → IsIn (ReadsAny rule) (ReadsAny Ber)
any_in rule input t rest h = (h.0, h.1, whole_ber h.2, h.3)

-- Each part's readings are among BER's.
abbrev pub EachIn : Codec → ℕ → Bool → Parts → Type 0
EachIn rule depth closing Parts.none = Unit {0}
EachIn rule depth closing (part presence s ps) = IsIn (Reads rule s depth closing) (Reads Ber s depth closing) × EachIn rule depth closing ps

part_in : (rule : Codec) (presence : Presence) (tags : Sought) (reads wide : Reading Tree) → IsIn reads wide → (closing : Bool)
    → IsIn (ReadsPart rule presence tags reads closing) (ReadsPart Ber presence tags wide closing)
part_in rule required tags reads wide into closing = into
part_in rule addition tags reads wide into closing = into
part_in rule (optional_by key) tags reads wide into closing = perhaps_in (form rule) tags absent reads wide into closing
part_in rule (default_by key d) tags reads wide into closing =
    perhaps_in (form rule) tags d (λ input t rest. reads input t rest × (IsStrict rule → IsNoDefault (default_by key d) t)) (λ input t rest. wide input t rest × (IsStrict Ber → IsNoDefault (default_by key d) t))
    (λ input t rest h. (into input t rest h.0, λ z. absurd z)) closing

in_order_in : (ps : Parts) (rule : Codec) (depth : ℕ) (c : Bool) → EachIn rule depth c ps → (closing : Bool) (input : List ℕ) (ts : List Tree) (rest : List ℕ)
    → ReadsInOrder rule (parts_of rule ps depth c) closing input ts rest → ReadsInOrder Ber (parts_of Ber ps depth c) closing input ts rest
unfolding Reads parts_of
in_order_in Parts.none rule depth c into closing input ts rest h = h
in_order_in (part presence s ps) rule depth c into closing input ts rest (t, us, m, e, h, k) =
    (t, us, m, e, part_in rule presence (sought_in presence s) (Reads rule s depth c) (Reads Ber s depth c) into.0 closing input t m h, in_order_in ps rule depth c into.1 closing m us rest k)

required_same : (ps : Parts) (rule other : Codec) (depth : ℕ) (c : Bool) → HasRequired (parts_of rule ps depth c) → HasRequired (parts_of other ps depth c)
unfolding Reads parts_of
required_same Parts.none rule other depth c h = h
required_same (part presence s ps) rule other depth c (inl h) = inl h
required_same (part presence s ps) rule other depth c (inr h) = inr (required_same ps rule other depth c h)

missing_same : (ps : Parts) (rule other : Codec) (depth : ℕ) (c : Bool) (ts : List Tree) → AllMissing (presences_in (parts_of rule ps depth c)) ts → AllMissing (presences_in (parts_of other ps depth c)) ts
unfolding Reads parts_of
missing_same Parts.none rule other depth c ts h = h
missing_same (part presence s ps) rule other depth c ts (t, us, e, h, k) = (t, us, e, h, missing_same ps rule other depth c us k)

seq_in : (ps : Parts) (rule : Codec) (depth : ℕ) (c : Bool) → EachIn rule depth c ps → (closing : Bool)
    → IsIn (ReadsSeq rule (parts_of rule ps depth c) closing) (ReadsSeq Ber (parts_of Ber ps depth c) closing)
unfolding Reads parts_of
seq_in ps rule depth c into closing input t rest (ts, e, inl ((a, b, d), m, f)) =
    (ts, e, inl (((λ r. a (required_same ps Ber rule depth c r)), b, d), missing_same ps rule Ber depth c ts m, f))
seq_in ps rule depth c into closing input t rest (ts, e, inr (a, m)) =
    (ts, e, inr ((λ b. a ((λ r. b.0 (required_same ps rule Ber depth c r)), b.1, b.2)), in_order_in ps rule depth c into closing input ts rest m))

choice_in : (ps : Parts) (rule : Codec) (depth : ℕ) (c : Bool) → EachIn rule depth c ps → (k : ℕ)
    → IsIn (ReadsChoice rule k (parts_of rule ps depth c)) (ReadsChoice Ber k (parts_of Ber ps depth c))
unfolding Reads parts_of
choice_in Parts.none rule depth c into k input t rest h = h
choice_in (part presence s ps) rule depth c into k input t rest (inl (u, e, n, p, f, h, z)) = inl (u, e, n, next_ber p, f, into.0 input u rest h, λ y. absurd y)
choice_in (part presence s ps) rule depth c into k input t rest (inr h) = inr (choice_in ps rule depth c into.1 (suc k) input t rest h)

set_in : (ps : Parts) (rule : Codec) (depth : ℕ) (c : Bool) → EachIn rule depth c ps → (closing : Bool)
    → IsIn (ReadsSet rule (presences ps) (ReadsChoice rule 0 (parts_of rule ps depth c)) closing) (ReadsSet Ber (presences ps) (ReadsChoice Ber 0 (parts_of Ber ps depth c)) closing)
set_in ps rule depth c into closing input t rest (rs, ts, e, m, b, z) =
    let reads = ReadsChoice rule 0 (parts_of rule ps depth c) in
    let wide = ReadsChoice Ber 0 (parts_of Ber ps depth c) in
    (rs, ts, e, many_in reads wide (choice_in ps rule depth c into 0) closing input rs rest m, b, λ s. absurd s)

-- A CHOICE with an extension marker.
open_choice_in : (ps : Parts) (rule : Codec) (depth : ℕ) (c : Bool) → EachIn rule depth c ps
    → IsIn (ReadsOpenChoice rule (IsFirstOf ps) (count ps) (ReadsChoice rule 0 (parts_of rule ps depth c))) (ReadsOpenChoice Ber (IsFirstOf ps) (count ps) (ReadsChoice Ber 0 (parts_of Ber ps depth c)))
open_choice_in ps rule depth c into input t rest (inl h) = inl (choice_in ps rule depth c into 0 input t rest h)
open_choice_in ps rule depth c into input t rest (inr (u, e, n, next, other, h)) = inr (u, e, n, next_ber next, other, any_in rule input u rest h)

-- A SET in the order of its tags.
sorted_set_in : (extensible : Bool) (ps : Parts) (rule : Codec) (depth : ℕ) (c : Bool) → EachIn rule depth c ps → (closing : Bool)
    → IsIn (ReadsSortedSet rule extensible (presences ps) (count ps) (ReadsOpenChoice rule (IsFirstOf ps) (count ps) (ReadsChoice rule 0 (parts_of rule ps depth c))) closing)
    (ReadsSortedSet Ber extensible (presences ps) (count ps) (ReadsOpenChoice Ber (IsFirstOf ps) (count ps) (ReadsChoice Ber 0 (parts_of Ber ps depth c))) closing)
sorted_set_in extensible ps rule depth c into closing input t rest (rs, ts, us, e, m, b, a, z) =
    let reads = ReadsOpenChoice rule (IsFirstOf ps) (count ps) (ReadsChoice rule 0 (parts_of rule ps depth c)) in
    let wide = ReadsOpenChoice Ber (IsFirstOf ps) (count ps) (ReadsChoice Ber 0 (parts_of Ber ps depth c)) in
    (rs, ts, us, e, many_in reads wide (open_choice_in ps rule depth c into) closing input rs rest m, b, a, λ s. absurd s)

list_in : (size : Option (Bound ℕ)) (reads wide : Reading Tree) → IsIn reads wide → (closing : Bool) → IsIn (ReadsList size reads closing) (ReadsList size wide closing)
list_in size reads wide into closing input t rest (ts, e, b, m) = (ts, e, b, many_in reads wide into closing input ts rest m)

set_of_in : (rule : Codec) (size : Option (Bound ℕ)) (reads wide : Reading Tree) → IsIn reads wide → (closing : Bool) → IsIn (ReadsSetOf rule size reads closing) (ReadsSetOf Ber size wide closing)
set_of_in rule size reads wide into closing input t rest (ts, e, b, m, z) = (ts, e, b, many_in reads wide into closing input ts rest m, λ s. absurd s)

mutual
  unfolding Reads parts_of

  pub reads_in : (s : Shape) (rule : Codec) (depth : ℕ) (closing : Bool) → IsIn (Reads rule s depth closing) (Reads Ber s depth closing)
  reads_in (leaf kind tag bounds) rule depth closing = λ input t rest h. (in_in (family kind) rule kind tag depth input t rest h.0, h.1)
  reads_in (any (Some tag)) rule depth closing = open_in rule tag
  reads_in (any None) rule depth closing = any_in rule
  reads_in (prefix tag s) rule depth closing = λ input t rest h.
      (h.0, h.1, (λ z. absurd z), inside_in (λ c. Reads rule s (depth - 1) c) (λ c. Reads Ber s (depth - 1) c) (λ c. reads_in s rule (depth - 1) c) input t rest h.3)
  reads_in (choice ps) rule depth closing = choice_in ps rule depth closing (parts_in ps rule depth closing) 0
  reads_in (open_choice ps) rule depth closing = open_choice_in ps rule depth closing (parts_in ps rule depth closing)
  reads_in (option tag s) rule depth closing = perhaps_in (form rule) (one_tag tag) absent (Reads rule s depth closing) (Reads Ber s depth closing) (reads_in s rule depth closing) closing
  reads_in (seq tag ps) rule depth closing = λ input t rest h. (
    h.0,
    inside_in (λ c. ReadsSeq rule (parts_of rule ps (depth - 1) c) c) (λ c. ReadsSeq Ber (parts_of Ber ps (depth - 1) c) c)
        (λ c. seq_in ps rule (depth - 1) c (parts_in ps rule (depth - 1) c) c) input t rest h.1,
  )
  reads_in (set tag ps) rule depth closing = λ input t rest h. (
    h.0,
    inside_in (λ c. ReadsSet rule (presences ps) (ReadsChoice rule 0 (parts_of rule ps (depth - 1) c)) c) (λ c. ReadsSet Ber (presences ps) (ReadsChoice Ber 0 (parts_of Ber ps (depth - 1) c)) c)
        (λ c. set_in ps rule (depth - 1) c (parts_in ps rule (depth - 1) c) c) input t rest h.1,
  )
  reads_in (sorted_set extensible tag ps) rule depth closing = λ input t rest h. (
    h.0,
    inside_in (λ c. ReadsSortedSet rule extensible (presences ps) (count ps) (ReadsOpenChoice rule (IsFirstOf ps) (count ps) (ReadsChoice rule 0 (parts_of rule ps (depth - 1) c))) c)
        (λ c. ReadsSortedSet Ber extensible (presences ps) (count ps) (ReadsOpenChoice Ber (IsFirstOf ps) (count ps) (ReadsChoice Ber 0 (parts_of Ber ps (depth - 1) c))) c)
        (λ c. sorted_set_in extensible ps rule (depth - 1) c (parts_in ps rule (depth - 1) c) c) input t rest h.1,
  )
  reads_in (list tag s size) rule depth closing = λ input t rest h. (
    h.0,
    inside_in (λ c. ReadsList size (Reads rule s (depth - 2) c) c) (λ c. ReadsList size (Reads Ber s (depth - 2) c) c)
        (λ c. list_in size (Reads rule s (depth - 2) c) (Reads Ber s (depth - 2) c) (reads_in s rule (depth - 2) c) c) input t rest h.1,
  )
  reads_in (set_of tag s size) rule depth closing = λ input t rest h. (
    h.0,
    inside_in (λ c. ReadsSetOf rule size (Reads rule s (depth - 2) c) c) (λ c. ReadsSetOf Ber size (Reads Ber s (depth - 2) c) c)
        (λ c. set_of_in rule size (Reads rule s (depth - 2) c) (Reads Ber s (depth - 2) c) (reads_in s rule (depth - 2) c) c) input t rest h.1,
  )
  reads_in unknown rule depth closing = list_in None (ReadsAny rule) (ReadsAny Ber) (any_in rule) closing

  parts_in : (ps : Parts) (rule : Codec) (depth : ℕ) (c : Bool) → EachIn rule depth c ps
  parts_in Parts.none rule depth c = tt
  parts_in (part presence s ps) rule depth c = (reads_in s rule depth c, parts_in ps rule depth c)

pub to_top : (s : Shape) → (rule : Codec) (depth : ℕ) (input : List ℕ) (t : Tree) (rest : List ℕ)
    → Reads rule s depth false input t rest → IsAlwaysPresent s ⊎ IsOptional s → Reads rule s depth true input t rest
to_top s rule depth input t rest h (inl solid) = solid_closing s solid rule depth false true input t rest h
to_top s rule depth input t rest h (inr (tag, u, e, solid)) =
    subst (λ x. Reads rule x depth true input t rest) (sym e) (wider tag u solid rule depth input t rest (subst (λ x. Reads rule x depth false input t rest) e h))

alternatives_solid : (ps : Parts) → AreAlternatives ps → AreAlwaysPresent ps
unfolding IsLawful
alternatives_solid Parts.none h = tt
alternatives_solid (part presence s ps) h = (h.2, alternatives_solid ps h.4)

pub solid_of : (s : Shape) → IsLawful s → IsAlwaysPresent s ⊎ IsOptional s
unfolding IsLawful
solid_of (leaf kind tag bounds) lawful = inl tt
solid_of (any tag) lawful = inl tt
solid_of (prefix tag s) lawful = inl tt
solid_of (choice ps) lawful = inl (alternatives_solid ps lawful.0)
solid_of (open_choice ps) lawful = inl (alternatives_solid ps lawful.0)
solid_of (option tag s) lawful = inr (tag, s, refl, lawful.1)
solid_of (seq tag ps) lawful = inl tt
solid_of (set tag ps) lawful = inl tt
solid_of (sorted_set extensible tag ps) lawful = inl tt
solid_of (list tag s size) lawful = inl tt
solid_of (set_of tag s size) lawful = inl tt
solid_of unknown lawful = absurd lawful

-- What a rule reads at its top, BER reads at its top.
pub included : (s : Shape) → IsLawful s → (rule : Codec) (depth : ℕ) (input : List ℕ) (t : Tree) (rest : List ℕ)
    → Reads rule s depth (top rule) input t rest → Reads Ber s depth true input t rest
included s lawful Ber depth input t rest h = h
included s lawful Cer depth input t rest h = reads_in s Cer depth true input t rest h
included s lawful Der depth input t rest h = to_top s Ber depth input t rest (reads_in s Der depth false input t rest h) (solid_of s lawful)

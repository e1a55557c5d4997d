-- The grammar: which inputs begin with a value of a shape, which value that is, and what remains.
use Rattle.std.specs.Prelude.{◌≡◌, ℕ, ◌+◌, ◌*◌, ◌-◌, ◌^◌, ◌<◌, ◌≤◌, ◌⊎◌, List, [], ◌∷◌, ◌++◌, length, Bool, true, false, ◌≤ℤ◌, chars, IsUtf8, Option, Some, None}
use Rattle.rasn_types.specs.Tags.{tag_bit, form, IsStrict, IsCanonical, Codec, Ber, Cer, Der, Tag, in_universal}
use Rattle.rasn_types.specs.Order.{IsLess, AreAscending}
use Rattle.rasn_types.specs.Framing.{Frame, definite, indefinite, CompleteEncoding, CompleteEncodings}
use Rattle.rasn_types.specs.Calendar.{Day, Stamp}
use Rattle.rasn_types.specs.Time.{GeneralUtc, CanonicalUtc, GeneralGeneralized, CanonicalGeneralized, StrictGeneralized, DateText}
use Rattle.rasn_types.specs.Shapes.{Tree, number, bits, numbers, instant, on_day, items, set_elements, absent, Kind, boolean, null, object_identifier, bit_string, named_bits, octet_string, integer, enumerated, fixed, numeric, printable, visible, ia5, any_octets, bmp, universal, utf8, real, time_text, time_digits, utc_time, generalized_time, date, Bound, Constraints, Admits, AdmitsPadded, Shape, leaf, any, prefix, choice, open_choice, option, seq, set, sorted_set, list, set_of, unknown, Parts, part, count, IsFirst, IsFirstOf, one_tag, sought_in, presences}
use Rattle.rasn_types.specs.Shapes.Parts.{none}
use Rattle.rasn_types.specs.declared.types.strings.alphabet.Alphabet.TheVariants.{Numeric, Printable, Visible, Ia5}
use Rattle.rasn_types.specs.CharacterString.{AreAdmitted}
use Rattle.rasn_types.specs.BitString.{significant}
use Rattle.rasn_types.specs.Readings.{Reading, ReadsContents, ReadsMany, ReadsFrom, ReadsOptional, Part, ReadsSeq, ReadsChoice, ReadsUnknown, ReadsSet, ReadsSortedSet}
use Rattle.rasn_types.specs.Contents.{IsShortest, Contents, ReadsString, ReadsBitSegment, OctetSegment}

-- The texts of times: BER reads the general forms, CER and DER the canonical ones, DER only the shortest of these
-- (11.7, 11.8).
abbrev pub UtcText : Codec → List ℕ → Stamp → Type 0
UtcText Ber = GeneralUtc
UtcText Cer = CanonicalUtc
UtcText Der = CanonicalUtc

abbrev pub GeneralizedText : Codec → List ℕ → Stamp → Type 0
GeneralizedText Ber = GeneralGeneralized
GeneralizedText Cer = CanonicalGeneralized
GeneralizedText Der = StrictGeneralized

-- 16-bit units, the high octet first.
abbrev pub units : List ℕ → List ℕ → Type 0
units [] us = us ≡ []
units (a ∷ []) us = ⊥
units (a ∷ b ∷ l) us = (vs : List ℕ) × (us ≡ (256 * a + b) ∷ vs) × units l vs

-- The numbers of characters, each of four octets, the high octet first (8.23.7). None is that of a surrogate, and none is
-- above 10FFFF (ISO/IEC 10646).
abbrev pub IsCharacter : ℕ → Type 0
IsCharacter n = (n < 55296) ⊎ ((57344 ≤ n) × (n < 1114112))

abbrev pub quads : List ℕ → List ℕ → Type 0
quads [] ns = ns ≡ []
quads (a ∷ []) ns = ⊥
quads (a ∷ b ∷ []) ns = ⊥
quads (a ∷ b ∷ c ∷ []) ns = ⊥
quads (a ∷ b ∷ c ∷ d ∷ l) ns = (n : ℕ) × (ms : List ℕ) × (n ≡ 256 * (256 * (256 * a + b) + c) + d) × IsCharacter n × (ns ≡ n ∷ ms) × quads l ms

-- What all octets of a string mean.
abbrev pub Text : Codec → Kind → List ℕ → Tree → Type 0
Text rule octet_string l t = t ≡ numbers l
Text rule (fixed n) l t = (t ≡ numbers l) × (length l ≡ n)
Text rule numeric l t = (t ≡ numbers l) × AreAdmitted Numeric l
Text rule printable l t = (t ≡ numbers l) × AreAdmitted Printable l
Text rule visible l t = (t ≡ numbers l) × AreAdmitted Visible l
Text rule ia5 l t = (t ≡ numbers l) × AreAdmitted Ia5 l
Text rule any_octets l t = t ≡ numbers l
Text rule bmp l t = (us : List ℕ) × (t ≡ numbers us) × units l us
Text rule universal l t = (ns : List ℕ) × (t ≡ numbers ns) × quads l ns
Text rule utf8 l t = (t ≡ numbers (chars l)) × IsUtf8 l
Text rule utc_time l t = (s : Stamp) × (t ≡ instant s.moment) × UtcText rule l s
Text rule generalized_time l t = (s : Stamp) × (t ≡ instant s.moment) × GeneralizedText rule l s
Text rule date l t = (d : Day) × (t ≡ on_day d) × DateText l d
Text rule kind l t = ⊥

-- What a bound applies to: nothing, the value, the size, or the size with some number of trailing 0 bits.
pub data Measure : Type 0 where
  unmeasured by_value by_size by_named_bits : Measure

abbrev pub measure : Kind → Measure
measure boolean = unmeasured
measure null = unmeasured
measure object_identifier = unmeasured
measure (enumerated known) = unmeasured
measure utc_time = unmeasured
measure generalized_time = unmeasured
measure date = unmeasured
measure (integer range) = by_value
measure bit_string = by_size
measure named_bits = by_named_bits
measure octet_string = by_size
measure (fixed n) = by_size
measure numeric = by_size
measure printable = by_size
measure visible = by_size
measure ia5 = by_size
measure any_octets = by_size
measure bmp = by_size
measure universal = by_size
measure real = unmeasured
measure time_text = unmeasured
measure (time_digits n) = unmeasured
measure utf8 = by_size

-- The tree meets the constraints that apply to its kind (X.680 51).
abbrev pub Fulfils : Measure → Constraints → Tree → Type 0
Fulfils unmeasured c t = Unit {0}
Fulfils by_value c (number z) = Admits ◌≤ℤ◌ c.value z
Fulfils by_size c (bits bs) = Admits ◌≤◌ c.size (length bs)
Fulfils by_size c (numbers ns) = Admits ◌≤◌ c.size (length ns)
Fulfils by_named_bits c (bits bs) = AdmitsPadded c.size (length bs)
Fulfils m c t = ⊥

abbrev pub IsBounded : Kind → Constraints → Tree → Type 0
IsBounded kind c t = Fulfils (measure kind) c t

-- How contents are read: at once, or as bits or octets collected from segments.
pub data Family : Type 0 where
  plain_family bit_family named_family text_family : Family

abbrev pub family : Kind → Family
family boolean = plain_family
family null = plain_family
family object_identifier = plain_family
family real = plain_family
family time_text = plain_family
family (time_digits n) = plain_family
family bit_string = bit_family
family named_bits = named_family
family (integer range) = plain_family
family (enumerated known) = plain_family
family octet_string = text_family
family (fixed n) = text_family
family numeric = text_family
family printable = text_family
family visible = text_family
family ia5 = text_family
family any_octets = text_family
family bmp = text_family
family universal = text_family
family utf8 = text_family
family utc_time = text_family
family generalized_time = text_family
family date = text_family

-- The value of a leaf. Trailing 0 bits of named bits aren't part of the value, and canonical rules have none (11.2.2).
abbrev pub ReadsIn : Family → Codec → Kind → Tag → ℕ → Reading Tree
ReadsIn plain_family rule kind tag depth input t rest =
    (bit : Bool) × (contents : List ℕ) × Frame (form rule) input tag bit rest (definite contents) × Contents rule kind contents t
    × (IsStrict rule → (bit ≡ tag_bit tag) × IsShortest kind contents)
ReadsIn bit_family rule kind tag depth input t rest =
    (bs : List Bool) × (t ≡ bits bs) × (length bs < 2 ^ 64) × ReadsString rule (ReadsBitSegment rule) (in_universal 3) depth tag input bs rest
ReadsIn named_family rule kind tag depth input t rest =
    (bs : List Bool) × (t ≡ bits (significant bs)) × (length bs < 2 ^ 64) × ReadsString rule (ReadsBitSegment rule) (in_universal 3) depth tag input bs rest
    × (IsCanonical rule → significant bs ≡ bs)
ReadsIn text_family rule kind tag depth input t rest =
    (octets : List ℕ) × ReadsString rule OctetSegment (in_universal 4) depth tag input octets rest × Text rule kind octets t

abbrev pub ReadsLeaf : Codec → Kind → Tag → Constraints → ℕ → Reading Tree
ReadsLeaf rule kind tag bounds depth input t rest = ReadsIn (family kind) rule kind tag depth input t rest × IsBounded kind bounds t

-- The contents octets of a value with the tag, without end-of-contents octets.
abbrev pub ReadsOpen : Codec → Tag → Reading Tree
ReadsOpen rule tag input t rest = (bit : Bool) × (contents : List ℕ) × (t ≡ numbers contents) × (IsStrict rule → bit ≡ true)
    × (Frame (form rule) input tag bit rest (definite contents)
    ⊎ ((body : List ℕ) × Frame (form rule) input tag bit body indefinite × CompleteEncodings rule contents × (body ≡ contents ++ (0 ∷ 0 ∷ rest))))

-- One complete encoding, with all its octets.
abbrev pub ReadsAny : Codec → Reading Tree
ReadsAny rule input t rest = (text : List ℕ) × (t ≡ numbers text) × CompleteEncoding rule text × (input ≡ text ++ rest)

-- Elements up to the end, as a list and as set elements. Under DER the encodings of set elements are in ascending order
-- (11.6).
abbrev pub ReadsList : Option (Bound ℕ) → Reading Tree → Bool → Reading Tree
ReadsList size reads closing input t rest = (ts : List Tree) × (t ≡ items ts) × Admits ◌≤◌ size (length ts) × ReadsMany reads closing input ts rest

abbrev pub ReadsSetOf : Codec → Option (Bound ℕ) → Reading Tree → Bool → Reading Tree
ReadsSetOf rule size reads closing input t rest = (ts : List Tree) × (t ≡ set_elements (items ts)) × Admits ◌≤◌ size (length ts) × ReadsMany reads closing input ts rest
    × (IsStrict rule → (bs : List (List ℕ)) × ReadsFrom reads input ts rest bs × AreAscending IsLess bs)

-- An alternative, or an unknown value. Inside, the latter is lenient, as an open type is.
abbrev pub ReadsOpenChoice : Codec → (Tag → Type 0) → ℕ → Reading Tree → Reading Tree
ReadsOpenChoice rule P k reads input t rest = reads input t rest ⊎ ReadsUnknown rule P k (ReadsAny rule) input t rest

-- Reads rule shape depth closing input tree rest: the input begins with a value of the shape and this tree, before the
-- rest.
unfoldable mutual
  pub Reads : Codec → Shape → ℕ → Bool → Reading Tree
  Reads rule (leaf kind tag bounds) depth closing = ReadsLeaf rule kind tag bounds depth
  Reads rule (any None) depth closing = ReadsAny rule
  Reads rule (any (Some tag)) depth closing = ReadsOpen rule tag
  Reads rule (prefix tag s) depth closing = λ input t rest. (0 < depth) × (bit : Bool) × (IsStrict rule → bit ≡ true) × ReadsContents rule tag bit (λ c. Reads rule s (depth - 1) c) input t rest
  Reads rule (choice ps) depth closing = ReadsChoice rule 0 (parts_of rule ps depth closing)
  Reads rule (open_choice ps) depth closing = ReadsOpenChoice rule (IsFirstOf ps) (count ps) (ReadsChoice rule 0 (parts_of rule ps depth closing))
  Reads rule (option tag s) depth closing = ReadsOptional (form rule) (one_tag tag) absent (Reads rule s depth closing) closing
  Reads rule (seq tag ps) depth closing = λ input t rest. (0 < depth) × ReadsContents rule tag true (λ c. ReadsSeq rule (parts_of rule ps (depth - 1) c) c) input t rest
  Reads rule (set tag ps) depth closing = λ input t rest. (0 < depth) × ReadsContents rule tag true (λ c. ReadsSet rule (presences ps) (ReadsChoice rule 0 (parts_of rule ps (depth - 1) c)) c) input t rest
  Reads rule (sorted_set extensible tag ps) depth closing = λ input t rest. (0 < depth)
      × ReadsContents rule tag true (λ c. ReadsSortedSet rule extensible (presences ps) (count ps) (ReadsOpenChoice rule (IsFirstOf ps) (count ps) (ReadsChoice rule 0 (parts_of rule ps (depth - 1) c))) c) input t rest
  Reads rule (list tag s size) depth closing = λ input t rest. (0 < depth) × ReadsContents rule tag true (λ c. ReadsList size (Reads rule s (depth - 2) c) c) input t rest
  Reads rule (set_of tag s size) depth closing = λ input t rest. (0 < depth) × ReadsContents rule tag true (λ c. ReadsSetOf rule size (Reads rule s (depth - 2) c) c) input t rest
  Reads rule unknown depth closing = ReadsList None (ReadsAny rule) closing

  pub parts_of : Codec → Parts → ℕ → Bool → List Part
  parts_of rule none depth closing = []
  parts_of rule (part presence s ps) depth closing =
      record { presence = presence; sought = sought_in presence s; IsFirst = IsFirst s; reads = Reads rule s depth closing } ∷ parts_of rule ps depth closing

-- Whether end-of-contents octets may follow a value that isn't nested in another.
abbrev pub top : Codec → Bool
top Ber = true
top Cer = true
top Der = false

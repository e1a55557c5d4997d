-- The octets that a tree is written as, by recursion on the shape. A tree that can't be written is related to no
-- octets.
use Rattle.std.specs.Prelude.{◌≡◌, ℕ, suc, ◌<◌, ◌≤◌, ◌⊎◌, ◌≢◌, List, [], ◌∷◌, ◌++◌, length, Bool, true, Option, Some, None}
use Rattle.rasn_types.specs.Tags.{tag_bit, Codec, Ber, Cer, Der, Tag, in_universal, IsTagBelow}
use Rattle.rasn_types.specs.Framing.{SpellsAnyIdentifier, SpellsLength, IsShortestIdentifier, IsShortestLength, Begins, AreOctets}
use Rattle.rasn_types.specs.Calendar.{Day, IsDay, Moment, IsMoment}
use Rattle.rasn_types.specs.Time.{written_date, written_generalized, written_utc}
pub use Rattle.rasn_types.specs.Order.{Each, IsLess, AreAscending, IsBeforeAll, AreInOrder, IsReordered}
pub use Rattle.rasn_types.specs.Shapes.{Same}
use Rattle.rasn_types.specs.Shapes.{Tree, bits, numbers, instant, on_day, items, IsSetTree, set_elements, chosen, absent, Kind, utc_time, generalized_time, date, Bound, Admits, Shape, leaf, any, prefix, choice, open_choice, option, seq, set, sorted_set, list, set_of, unknown, Parts, part, count, IsFirst, Presence, required, addition, optional_by, default_by}
use Rattle.rasn_types.specs.Shapes.Parts.{none}
pub use Rattle.rasn_types.specs.Contents.{AllFalse}
use Rattle.rasn_types.specs.Contents.{IsShortest, Contents, BitSegment, joined_lists}
use Rattle.rasn_types.specs.BitString.{significant}
use Rattle.rasn_types.specs.Grammar.{Family, plain_family, bit_family, named_family, text_family, family, IsBounded, Text}

abbrev pub Writing : Type 0 → Type 1
Writing X = X → List ℕ → Type 0

-- An identifier and a definite length before contents, both in their fewest octets (8.1).
pub record DefiniteForm (tag : Tag) (bit : Bool) (contents b : List ℕ) : Type 0 where
  pub id : List ℕ
  pub len : List ℕ
  pub id_spells : SpellsAnyIdentifier id tag bit
  pub id_shortest : IsShortestIdentifier id tag
  pub id_octets : AreOctets id
  pub len_spells : SpellsLength len (length contents)
  pub len_shortest : IsShortestLength len (length contents)
  pub len_octets : AreOctets len
  pub is : b ≡ id ++ (len ++ contents)

-- An identifier, the octet 80, the contents of a constructed encoding, and end-of-contents octets (8.1.3.6, 8.1.5).
pub record IndefiniteForm (tag : Tag) (contents b : List ℕ) : Type 0 where
  pub id : List ℕ
  pub id_spells : SpellsAnyIdentifier id tag true
  pub id_shortest : IsShortestIdentifier id tag
  pub id_octets : AreOctets id
  pub is : b ≡ id ++ (128 ∷ (contents ++ (0 ∷ 0 ∷ [])))

-- The constructed bit is that of the tag: EXTERNAL, SEQUENCE and SET are always constructed.
abbrev pub PrimitiveEncoding : Tag → List ℕ → List ℕ → Type 0
PrimitiveEncoding tag = DefiniteForm tag (tag_bit tag)

abbrev pub ConstructedEncoding : Codec → Tag → List ℕ → List ℕ → Type 0
ConstructedEncoding Ber tag = DefiniteForm tag true
ConstructedEncoding Cer tag = IndefiniteForm tag
ConstructedEncoding Der tag = DefiniteForm tag true

-- A part as it is written, and which of its trees are written as untagged open types.
pub record Field : Type 1 where
  pub presence : Presence
  pub writes : Writing Tree
  pub is_untagged_open : Tree → Type 0

abbrev pub WritesPart : Presence → Writing Tree → Writing Tree
WritesPart required writes t b = writes t b
WritesPart (optional_by key) writes t b = ((t ≡ absent) × (b ≡ [])) ⊎ ((t ≢ absent) × writes t b)
WritesPart addition writes t b = ((t ≡ absent) × (b ≡ [])) ⊎ ((t ≢ absent) × writes t b)
WritesPart (default_by key d) writes t b = (Same t d × (b ≡ [])) ⊎ ((Same t d → ⊥) × writes t b)

abbrev pub PartsWritten : List Field → List Tree → List (List ℕ) → Type 0
PartsWritten [] ts bs = (ts ≡ []) × (bs ≡ [])
PartsWritten (f ∷ fs) ts bs = (t : Tree) × (us : List Tree) × (b : List ℕ) × (cs : List (List ℕ)) × (ts ≡ t ∷ us) × (bs ≡ b ∷ cs)
    × WritesPart f.presence f.writes t b × PartsWritten fs us cs

-- The tags that the lists begin with, except the empty lists.
abbrev pub TagsOf : List (List ℕ) → List Tag → Type 0
TagsOf [] tags = tags ≡ []
TagsOf ([] ∷ bs) tags = TagsOf bs tags
TagsOf ((o ∷ b) ∷ bs) tags = (tag : Tag) × (more : List Tag) × (tags ≡ tag ∷ more) × Begins (o ∷ b) tag × TagsOf bs more

-- No part of a SET is written as an untagged open type, since its position in the order of tags isn't known.
abbrev pub NoneUntaggedOpen : List Field → List Tree → List (List ℕ) → Type 0
NoneUntaggedOpen (f ∷ fs) (t ∷ ts) (b ∷ bs) = (f.is_untagged_open t → b ≡ []) × NoneUntaggedOpen fs ts bs
NoneUntaggedOpen fs ts bs = Unit {0}

-- A component of a SET: its octets, the tag that decides where it is, and its number among the parts. Unknown values
-- have the numbers after those of the parts.
pub record Component : Type 0 where
  pub tag : Tag
  pub number : ℕ
  pub octets : List ℕ

-- A component is ordered by the tag that it begins with (10.3) or, under CER, by the least of those that values of its
-- type may begin with (9.3). The two are one unless the type is a CHOICE without a tag.
abbrev pub IsPlacedBy : Codec → (Tag → Type 0) → List ℕ → Tag → Type 0
IsPlacedBy Ber P b tag = Begins b tag
IsPlacedBy Cer P b tag = P tag × ((n : Tag) → P n → IsTagBelow n tag → ⊥)
IsPlacedBy Der P b tag = Begins b tag

-- The components that these octets of the parts are; the first part has the number k. A part that is left out has no
-- octets.
abbrev pub ComponentsOf : Codec → ℕ → Parts → List (List ℕ) → List Component → Type 0
ComponentsOf rule k (part presence s ps) ([] ∷ bs) cs = ComponentsOf rule (suc k) ps bs cs
ComponentsOf rule k (part presence s ps) ((o ∷ b) ∷ bs) cs = (tag : Tag) × (more : List Component) × (cs ≡ record { tag = tag; number = k; octets = o ∷ b } ∷ more)
    × IsPlacedBy rule (IsFirst s) (o ∷ b) tag × ComponentsOf rule (suc k) ps bs more
ComponentsOf rule k ps bs cs = cs ≡ []

-- The components that unknown values are. The first has the number k.
abbrev pub UnknownComponents : ℕ → List Tree → List Component → Type 0
UnknownComponents k [] cs = cs ≡ []
UnknownComponents k (u ∷ us) cs = (tag : Tag) × (b : List ℕ) × (more : List Component) × (u ≡ numbers b) × Begins b tag
    × (cs ≡ record { tag = tag; number = k; octets = b } ∷ more) × UnknownComponents (suc k) us more

-- Components are in ascending order of their tags. Those with the same tag, which no two parts of a lawful shape have,
-- are in the order of their numbers.
abbrev pub ComesBefore : Component → Component → Type 0
ComesBefore c d = IsTagBelow c.tag d.tag ⊎ ((c.tag ≡ d.tag) × (c.number < d.number))

abbrev pub contents_of : List Component → List ℕ
contents_of [] = []
contents_of (c ∷ cs) = c.octets ++ contents_of cs

-- Contents octets as they are written: under DER, and in the fewest octets.
pub record Written (kind : Kind) (t : Tree) (l : List ℕ) : Type 0 where
  pub is : Contents Der kind l t
  pub octets : AreOctets l
  pub shortest : IsShortest kind l

-- Every piece except the last has this size; the last isn't empty and isn't larger.
abbrev pub AreCut : {X : Type 0} → ℕ → List (List X) → Type 0
AreCut size [] = ⊥
AreCut size (p ∷ []) = (0 < length p) × (length p ≤ size)
AreCut size (p ∷ q ∷ ps) = (length p ≡ size) × AreCut size (q ∷ ps)

abbrev pub IsCer : Codec → Type 0
IsCer Ber = ⊥
IsCer Cer = Unit {0}
IsCer Der = ⊥

-- A string is written as one primitive encoding or, under CER and with more than `size` units, in segments (9.2).
abbrev pub WritesString : {X : Type 0} → Codec → Writing (List X) → ℕ → Tag → Tag → Writing (List X)
WritesString {X} rule writes size inner tag xs b =
    ((IsCer rule → length xs ≤ size) × (contents : List ℕ) × writes xs contents × PrimitiveEncoding tag contents b)
    ⊎ (IsCer rule × (size < length xs) × (pieces : List (List X)) × (bs : List (List ℕ)) × (xs ≡ joined_lists pieces) × AreCut size pieces
    × Each (λ p c. (contents : List ℕ) × writes p contents × PrimitiveEncoding inner contents c) pieces bs × ConstructedEncoding rule tag (joined_lists bs) b)

pub record WrittenBits (bs : List Bool) (l : List ℕ) : Type 0 where
  pub is : BitSegment l bs
  pub zeros : AllFalse is.unused
  pub octets : AreOctets l

-- The contents octets of a string; those of a time are its canonical form (11.7, 11.8).
abbrev pub WritesText : Kind → List ℕ → Tree → Type 0
WritesText utc_time l t = (m : Moment) × (t ≡ instant m) × IsMoment m × (l ≡ written_utc m)
WritesText generalized_time l t = (m : Moment) × (t ≡ instant m) × IsMoment m × (l ≡ written_generalized m)
WritesText date l t = (d : Day) × (t ≡ on_day d) × IsDay d × (l ≡ written_date d)
WritesText kind l t = Text Der kind l t

abbrev pub WritesOctets : Writing (List ℕ)
WritesOctets xs l = (l ≡ xs) × AreOctets l

-- No rule writes trailing 0 bits of named bits.
abbrev pub WritesIn : Family → Codec → Kind → Tag → Writing Tree
WritesIn plain_family rule kind tag t b = (contents : List ℕ) × Written kind t contents × PrimitiveEncoding tag contents b
WritesIn bit_family rule kind tag t b = (bs : List Bool) × (t ≡ bits bs) × WritesString rule WrittenBits 7992 (in_universal 3) tag bs b
WritesIn named_family rule kind tag t b = (bs : List Bool) × (t ≡ bits bs) × (significant bs ≡ bs) × WritesString rule WrittenBits 7992 (in_universal 3) tag bs b
WritesIn text_family rule kind tag t b = (octets : List ℕ) × WritesText kind octets t × WritesString rule WritesOctets 1000 (in_universal 4) tag octets b

abbrev pub WritesChoice : ℕ → List Field → Writing Tree
WritesChoice k [] t b = ⊥
WritesChoice k (f ∷ fs) t b = ((u : Tree) × (t ≡ chosen k u) × f.writes u b) ⊎ WritesChoice (suc k) fs t b

abbrev pub WritesSeq : Codec → Tag → List Field → Writing Tree
WritesSeq rule tag fs t b = (ts : List Tree) × (bs : List (List ℕ)) × (t ≡ items ts) × PartsWritten fs ts bs × ConstructedEncoding rule tag (joined_lists bs) b

abbrev pub WritesSet : Codec → Tag → List Field → Writing Tree
WritesSet rule tag fs t b = (ts : List Tree) × (bs : List (List ℕ)) × (tags : List Tag) × (t ≡ items ts) × PartsWritten fs ts bs
    × NoneUntaggedOpen fs ts bs × TagsOf bs tags × AreAscending IsTagBelow tags × ConstructedEncoding rule tag (joined_lists bs) b

-- The components, unknown ones among them, are in ascending order of their tags, whatever the order of the parts is
-- (9.3, 10.3).
abbrev pub WritesSortedSet : Codec → Bool → Tag → Parts → List Field → Writing Tree
WritesSortedSet rule extensible tag ps fs t b = (ts : List Tree) × (us : List Tree) × (bs : List (List ℕ)) × (cs : List Component) × (es : List Component) × (ds : List Component)
    × IsSetTree extensible ts us t × PartsWritten fs ts bs × ComponentsOf rule 0 ps bs cs × UnknownComponents (count ps) us es
    × IsReordered (cs ++ es) ds × AreInOrder ComesBefore ds × ConstructedEncoding rule tag (contents_of ds) b

abbrev pub WritesList : Codec → Tag → Option (Bound ℕ) → Writing Tree → Writing Tree
WritesList rule tag size writes t b = (ts : List Tree) × (bs : List (List ℕ)) × (t ≡ items ts) × Admits ◌≤◌ size (length ts)
    × Each writes ts bs × ConstructedEncoding rule tag (joined_lists bs) b

abbrev pub WritesSetOf : Codec → Tag → Option (Bound ℕ) → Writing Tree → Writing Tree
WritesSetOf rule tag size writes t b = (ts : List Tree) × (bs : List (List ℕ)) × (t ≡ set_elements (items ts)) × Admits ◌≤◌ size (length ts)
    × Each writes ts bs × AreAscending IsLess bs × ConstructedEncoding rule tag (joined_lists bs) b

-- Values whose octets are kept, one after another.
abbrev pub WritesUnknown : Writing Tree
WritesUnknown t b = (us : List Tree) × (bs : List (List ℕ)) × (t ≡ items us) × Each (λ u c. u ≡ numbers c) us bs × (b ≡ joined_lists bs)

-- The tree is written as untagged open types.
unfoldable mutual
  pub IsUntaggedOpen : Shape → Tree → Type 0
  IsUntaggedOpen (leaf kind tag bounds) t = ⊥
  IsUntaggedOpen (any None) t = Unit {0}
  IsUntaggedOpen (any (Some tag)) t = ⊥
  IsUntaggedOpen (prefix tag s) t = ⊥
  IsUntaggedOpen (choice ps) t = IsUntaggedOpenIn 0 ps t
  IsUntaggedOpen (open_choice ps) t = IsUntaggedOpenIn 0 ps t ⊎ ((u : Tree) × (t ≡ chosen (count ps) u))
  IsUntaggedOpen (option tag s) t = IsUntaggedOpen s t
  IsUntaggedOpen (seq tag ps) t = ⊥
  IsUntaggedOpen (set tag ps) t = ⊥
  IsUntaggedOpen (sorted_set extensible tag ps) t = ⊥
  IsUntaggedOpen (list tag s size) t = ⊥
  IsUntaggedOpen (set_of tag s size) t = ⊥
  IsUntaggedOpen unknown t = Unit {0}

  pub IsUntaggedOpenIn : ℕ → Parts → Tree → Type 0
  IsUntaggedOpenIn k none t = ⊥
  IsUntaggedOpenIn k (part presence s ps) t = ((u : Tree) × (t ≡ chosen k u) × IsUntaggedOpen s u) ⊎ IsUntaggedOpenIn (suc k) ps t

-- Bytes rule shape tree octets: the tree of a value of the shape is written as these octets.
unfoldable mutual
  pub Bytes : Codec → Shape → Writing Tree
  Bytes rule (leaf kind tag bounds) = λ t b. IsBounded kind bounds t × WritesIn (family kind) rule kind tag t b
  Bytes rule (any None) = λ t b. t ≡ numbers b
  Bytes rule (any (Some tag)) = λ t b. (octets : List ℕ) × (t ≡ numbers octets)
      × (((octets ≡ []) × (b ≡ [])) ⊎ ((octets ≢ []) × ConstructedEncoding rule tag octets b))
  Bytes rule (prefix tag s) = λ t b. (inner : List ℕ) × Bytes rule s t inner × ConstructedEncoding rule tag inner b
  Bytes rule (choice ps) = WritesChoice 0 (fields_of rule ps)
  Bytes rule (open_choice ps) = λ t b. WritesChoice 0 (fields_of rule ps) t b ⊎ (t ≡ chosen (count ps) (numbers b))
  Bytes rule (option tag s) = λ t b. ((t ≡ absent) × (b ≡ [])) ⊎ ((t ≢ absent) × Bytes rule s t b)
  Bytes rule (seq tag ps) = WritesSeq rule tag (fields_of rule ps)
  Bytes rule (set tag ps) = WritesSet rule tag (fields_of rule ps)
  Bytes rule (sorted_set extensible tag ps) = WritesSortedSet rule extensible tag ps (fields_of rule ps)
  Bytes rule (list tag s size) = WritesList rule tag size (Bytes rule s)
  Bytes rule (set_of tag s size) = WritesSetOf rule tag size (Bytes rule s)
  Bytes rule unknown = WritesUnknown

  pub fields_of : Codec → Parts → List Field
  fields_of rule none = []
  fields_of rule (part presence s ps) = record { presence = presence; writes = Bytes rule s; is_untagged_open = IsUntaggedOpen s } ∷ fields_of rule ps

-- Where the part at the end of a path is.
use Rattle.std.specs.Prelude.{[], ◌≡◌, ◌≢◌, ◌⊎◌, ◌+◌, ◌≤◌, ◌<◌, ℕ, suc, List, ◌∷◌, ◌++◌, length, Bool, true, false, slice_get, Option, Some, None, Ok}
use Rattle.rasn_types.specs.declared.types.codec.Codec.{Codec}
use Rattle.rasn_types.specs.declared.types.codec.Codec.TheVariants.{Ber}
use Rattle.rasn_types.specs.declared.types.tag.Tag.{Tag}
use Rattle.rasn_types.specs.Framing.{Frame, SpellsLength, definite, indefinite, Ended}
use Rattle.rasn_types.specs.Tags.{form}
use Rattle.rasn_types.specs.Shapes.{Shape, Tree, choice_by, Presence, sought_by}
use Rattle.rasn_types.specs.Grammar.{Reads}
use Rattle.rasn_types.specs.Readings.{Reading, NoneOf}
use Rattle.rasn_de.specs.State.{State}
use Rattle.rasn_de.specs.declared.ber.de.constructed.ConstructedHeader.{ConstructedHeader}
use Rattle.rasn_de.specs.Constructed.{sequence_header, list_header, prefix_header}
use Rattle.rasn_de.specs.Outcomes.{Exact, Got}
use Rattle.rasn_de.specs.Decodes.{DecodesBy}
use Rattle.rasn_de.specs.Optional.{NextIs}
use Rattle.rasn_de.specs.SequenceOf.{DecodesInTurn, DecodesInTurnFrom}
use Rattle.rasn_schema.specs.declared.types.«Type».{«Type»}
use Rattle.rasn_schema.specs.declared.types.«Type».TheVariants.{Leaf, Enumerated, Any, Tagged, Choice, Sequence, Set, SequenceOf, SetOf, Unknown}
use Rattle.rasn_schema.specs.declared.types.Component.{Component}
use Rattle.rasn_schema.specs.declared.types.Alternative.{Alternative}
use Rattle.rasn_schema.specs.Shapes.{shape_of_type, components_by, presence_of, key_of}
use Rattle.rasn_schema.specs.FirstTags.{IsAlwaysThere}
use Rattle.rasn_dynamic.specs.Inside.{DecodesTree}
use Rattle.rasn_dynamic.specs.Sets.{is_extensible, named_components}
use Rattle.rasn_dynamic.specs.Calls.{LeavesAllOut, DecodesPresent}
use Rattle.rasn_dynamic.specs.Faults.{IsNextAlternative, ComponentsInTurn, Enters, Leads, start}
use Rattle.rasn_dynamic.specs.declared.part.Part.{Part}

-- The octets begin with length octets (8.1.3), and with one identifier octet before them there are n. As many octets as they spell follow.
abbrev pub BeginsWithLength : List ℕ → ℕ → Type 0
BeginsWithLength octets n = (len : List ℕ) × (count : ℕ) × (l : List ℕ) × (octets ≡ len ++ l) × SpellsLength len count × (count ≤ length l) × (n ≡ 1 + length len)

-- The octets begin with a header of so many octets, of the definite or the indefinite form (X.690 8.1.3).
abbrev pub IsHeader : List ℕ → ℕ → Bool → Type 0
IsHeader octets n false = (tag : Tag) × (bit : Bool) × (contents : List ℕ) × (rest : List ℕ) × Frame (form Ber) octets tag bit rest (definite contents) × (n + (length contents + length rest) ≡ length octets)
IsHeader octets n true = (tag : Tag) × (bit : Bool) × (rest : List ℕ) × Frame (form Ber) octets tag bit rest indefinite × (n + length rest ≡ length octets)

-- So does a part, unless it has no octets, as unknown values of which there are none.
abbrev pub IsPartHeader : List ℕ → ℕ → Bool → Type 0
IsPartHeader octets n b = ((octets ≡ []) × (n ≡ 0) × (b ≡ false)) ⊎ IsHeader octets n b

-- how many octets end it (8.1.5)
abbrev pub end_len : Bool → ℕ
end_len false = 0
end_len true = 2

-- These are its contents octets (8.1.4): what follows the header, without end-of-contents octets.
abbrev pub AreContents : Part → List ℕ → Type 0
AreContents p contents = (header : List ℕ) × (end : List ℕ) × (p.octets.now ≡ header ++ (contents ++ end)) × (length header ≡ p.header_len) × (length end ≡ end_len p.is_indefinite)

-- The inner octets are among the outer ones. If these end at the one offset of a message, those end at the other.
abbrev pub IsSeen : List ℕ → ℕ → List ℕ → ℕ → Type 0
IsSeen outer end inner new_end = (front : List ℕ) × (back : List ℕ) × (outer ≡ front ++ (inner ++ back)) × (new_end + length back ≡ end)

-- ---- values that are read and not kept

-- Some value is read by R.
abbrev pub PassesBy : (Codec → ℕ → Bool → Reading Tree) → State → State → Type 0
PassesBy R old new = (t : Tree) × DecodesBy R (λ (u : Tree). u) old (Ok t) new

-- Some value is read by its shape, and takes some of the octets; one of a component that is present.
abbrev pub PassesElement : Shape → State → State → Type 0
PassesElement s old new = (t : Tree) × DecodesTree s old (Ok t) new × (length new.rest ≢ length old.rest)

abbrev pub PassesPresent : Presence → Shape → State → State → Type 0
PassesPresent p s old new = (t : Tree) × DecodesPresent p s old (Ok t) new × (length new.rest ≢ length old.rest)

-- ---- no part k in what is read in the state s. f gives the shape of the type with a number.

-- The alternative that follows is another one.
abbrev pub LacksAlternative : (ℕ → Shape) → List Alternative → State → ℕ → Type 0
LacksAlternative f ks s k = (j : ℕ) × (a : Alternative) × IsNextAlternative f ks s j a × (j ≢ k)

-- The component may be absent, and none of the tags that it is recognized by follows.
abbrev pub IsAbsentHere : (ℕ → Shape) → Component → State → Type 0
IsAbsentHere f p s = (IsAlwaysThere (presence_of p.presence) → ⊥) × NextIs (sought_by (key_of (f p.type_id.0)) (f p.type_id.0)) s (Ok false)

-- All components are left out; or there are no more of them; or the component is absent after those before it.
abbrev pub LacksComponent : (ℕ → Shape) → List Component → State → ℕ → Type 0
LacksComponent f ps s k = LeavesAllOut ps s ⊎ ((length ps ≤ k)
    ⊎ ((done : List Component) × (p : Component) × (after : List Component) × (here : State) × (ps ≡ done ++ p ∷ after) × (length done ≡ k) × ComponentsInTurn f done s here × IsAbsentHere f p here))

-- Other components of the SET are read up to the end, and unknown ones, which are no part.
abbrev pub LacksMember : (ℕ → Shape) → Bool → List Component → State → ℕ → Type 0
LacksMember f extensible ps s k = (done : List Tree) × (bs : List (List ℕ)) × (here : State) × DecodesInTurnFrom (DecodesTree (choice_by extensible (components_by f ps))) s done bs here × (k < length ps → NoneOf k done) × Ended here.closing here.rest

-- There are no more elements.
abbrev pub LacksElement : (ℕ → Shape) → ℕ → State → ℕ → Type 0
LacksElement f id s k = (ts : List Tree) × (here : State) × DecodesInTurn (DecodesTree (f id)) s ts here × Ended here.closing here.rest × (length ts ≤ k)

abbrev pub LacksPart : (ℕ → Shape) → «Type» → State → ℕ → Type 0
LacksPart f (Leaf kind tag c names) s k = Unit {0}
LacksPart f (Enumerated tag ns) s k = Unit {0}
LacksPart f (Any tag) s k = Unit {0}
LacksPart f Unknown s k = Unit {0}
LacksPart f (Tagged tag id) s k = k ≢ 0
LacksPart f (Choice name ks) s k = LacksAlternative f ks.items s k
LacksPart f (Sequence tag ps) s k = LacksComponent f ps.items s k
LacksPart f (Set name tag ps) s k = LacksMember f (is_extensible f ps.items) (named_components f ps.items) s k
LacksPart f (SequenceOf tag id c) s k = LacksElement f id.0 s k
LacksPart f (SetOf tag id c) s k = LacksElement f id.0 s k

-- The state in which the contents of a value are read, if it holds others; else the state in which the value is.
abbrev pub IsEntered : «Type» → State → State → Type 0
IsEntered (Leaf kind tag c names) s inner = inner ≡ s
IsEntered (Enumerated tag ns) s inner = inner ≡ s
IsEntered (Any tag) s inner = inner ≡ s
IsEntered Unknown s inner = inner ≡ s
IsEntered (Tagged tag id) s inner = Enters (Tagged tag id) s inner
IsEntered (Choice name ks) s inner = Enters (Choice name ks) s inner
IsEntered (Sequence tag ps) s inner = Enters (Sequence tag ps) s inner
IsEntered (Set name tag ps) s inner = Enters (Set name tag ps) s inner
IsEntered (SequenceOf tag id c) s inner = Enters (SequenceOf tag id c) s inner
IsEntered (SetOf tag id c) s inner = Enters (SetOf tag id c) s inner

-- The header of a value of the type, if it holds others after one.
abbrev pub IsHeaderOf : «Type» → Option ConstructedHeader → Type 0
IsHeaderOf (Leaf kind tag c names) d = d ≡ None
IsHeaderOf (Enumerated tag ns) d = d ≡ None
IsHeaderOf (Any tag) d = d ≡ None
IsHeaderOf Unknown d = d ≡ None
IsHeaderOf (Tagged tag id) d = d ≡ Some (prefix_header tag)
IsHeaderOf (Choice name ks) d = d ≡ None
IsHeaderOf (Sequence tag ps) d = d ≡ Some (sequence_header tag)
IsHeaderOf (Set name tag ps) d = d ≡ Some (sequence_header tag)
IsHeaderOf (SequenceOf tag id c) d = d ≡ Some (list_header tag)
IsHeaderOf (SetOf tag id c) d = d ≡ Some (list_header tag)

-- A value of the type with the number has no part k.
abbrev pub LacksPartAt : List «Type» → ℕ → ℕ → State → ℕ → Type 0
LacksPartAt types levels id s k = (n : ℕ) × (levels ≡ suc n) × (ty : «Type») × (slice_get types id ≡ Some ty) × (inner : State) × IsEntered ty s inner × LacksPart (shape_of_type types n) ty inner k

-- The path leads to a value that has no such part.
abbrev pub LacksPath : List «Type» → List ℕ → ℕ → ℕ → State → Type 0
LacksPath types path levels id s = (done : List ℕ) × (k : ℕ) × (after : List ℕ) × (path ≡ done ++ k ∷ after)
    × (below : ℕ) × (next : ℕ) × (here : State) × Leads types done levels id s below next here × LacksPartAt types below next here k

-- ---- a part

-- A value of the type with the number is read from these octets.
pub record IsReadHere (types : List «Type») (levels id : ℕ) (s : State) (octets : List ℕ) (header_len : ℕ) (is_indefinite : Bool) : Type 0 where
  pub tree : Tree
  pub rest : List ℕ
  pub is : s.rest ≡ octets ++ rest
  pub reads : Exact (Reads s.rule (shape_of_type types levels id) s.depth s.closing) s.rest (Got tree rest)
  pub header : IsPartHeader octets header_len is_indefinite

-- The path leads to a value that the grammar relates to the octets of the part, and they are at its offset in the input.
pub record IsPartAt (types : List «Type») (rule : Codec) (id : ℕ) (input path : List ℕ) (p : Part) : Type 0 where
  pub below : ℕ
  pub last : State
  pub front : List ℕ
  pub back : List ℕ
  pub is : input ≡ front ++ (last.rest ++ back)
  pub offset : length front ≡ p.offset
  pub leads : Leads types path 18446744073709551615 id (start rule input) below p.id.0 last
  pub read : IsReadHere types below p.id.0 last p.octets.now p.header_len p.is_indefinite

-- SET: components in any order, from which a function makes the value.
use Rattle.std.specs.Prelude.{◌≡◌, ◌⊎◌, ℕ, Bool, List, [], ◌∷◌, ◌++◌, map, Vec, Option, Some, None, Result, Ok, Err, IfErr}
use Rattle.std.specs.Global.{Global}
use Rattle.rasn_types.specs.declared.types.codec.Codec.{Codec}
use Rattle.rasn_types.specs.declared.types.tag.Tag.{Tag}
use Rattle.rasn_types.specs.declared.error.decode.DecodeError.{DecodeError}
use Rattle.rasn_types.specs.declared.error.decode.DerDecodeErrorKind.TheVariants.{SetComponentsOutOfOrder}
use Rattle.rasn_types.specs.Tags.{form, IsStrict, IsTagBelow}
use Rattle.rasn_types.specs.Framing.{NextTag, Ended}
use Rattle.rasn_types.specs.Shapes.{Tree, Shape, items, choice, set, Parts, presences, count, IsSetTree}
use Rattle.rasn_types.specs.Readings.{ByPart, AllOf, AreInTagOrder}
use Rattle.rasn_de.specs.declared.ber.de.parser.ParseError.TheVariants.{Der}
use Rattle.rasn_de.specs.State.{State, Call}
use Rattle.rasn_de.specs.Decodes.{Decodes}
use Rattle.rasn_de.specs.Constructed.{sequence_header, DecodesInside}
use Rattle.rasn_de.specs.Steps.{IsErrorOf, PeeksTag}
use Rattle.rasn_de.specs.SequenceOf.{DecodesInTurnFrom, RefusesElement, FailsAtElement}
use Rattle.rasn_de.specs.Outcomes.{Exact, refusal}

-- A tag is less than the last one, if there is one.
abbrev pub IsBelowLast : Tag → Option Tag → Type 0
IsBelowLast tag None = ⊥
IsBelowLast tag (Some last) = IsTagBelow tag last

-- The look at the next tag, which only the strict rule requires.
abbrev pub PeeksInOrder : Option Tag → State → Result (Option Tag) DecodeError → Type 0
PeeksInOrder last s (Ok None) = IsStrict s.rule → ⊥
PeeksInOrder last s (Ok (Some tag)) = NextTag (form s.rule) s.rest tag × (IsBelowLast tag last → ⊥)
PeeksInOrder last s (Err e) = IsStrict s.rule
    × (PeeksTag s (Err e) ⊎ ((tag : Tag) × NextTag (form s.rule) s.rest tag × IsBelowLast tag last × IsErrorOf (Der SetComponentsOutOfOrder) s e))

-- The next component has no valid tag, or its tag is out of order after those of these octets, or a call fails at it so.
-- Only the strict rule requires a look at the tag.
pub data FailsAtComponent (fails : State → DecodeError → State → Type 0) (bs : List (List ℕ)) (here : State) (e : DecodeError) (new : State) : Type 0 where
  no_tag : IsStrict here.rule → PeeksTag here (Err e) → new ≡ here → FailsAtComponent fails bs here e new
  falls : IsStrict here.rule → (tag : Tag) → NextTag (form here.rule) here.rest tag → (AreInTagOrder (bs ++ here.rest ∷ []) → ⊥) → IsErrorOf (Der SetComponentsOutOfOrder) here e → new ≡ here → FailsAtComponent fails bs here e new
  not_read : (IsStrict here.rule → (tag : Tag) × NextTag (form here.rule) here.rest tag × AreInTagOrder (bs ++ here.rest ∷ [])) → fails here e new → FailsAtComponent fails bs here e new

module _ {D : Type 0} (read : Call D) where
  -- Components are read from these octets. Under the strict rule their tags are in ascending order (10.3).
  abbrev pub DecodesInTagOrder : State → List D → List (List ℕ) → State → Type 0
  DecodesInTagOrder old vs bs here = DecodesInTurnFrom read old vs bs here × (IsStrict old.rule → AreInTagOrder bs)

  -- Components up to the end, or up to the first one at which a call fails so.
  abbrev pub DecodesUpTo : (State → DecodeError → State → Type 0) → {L : Type 0} → (L → List D) → Call L
  DecodesUpTo fails elements old (Ok v) new = (bs : List (List ℕ)) × DecodesInTagOrder old (elements v) bs new × Ended new.closing new.rest
  DecodesUpTo fails elements old (Err e) new = (vs : List D) × (bs : List (List ℕ)) × (here : State) × DecodesInTagOrder old vs bs here × (Ended here.closing here.rest → ⊥) × FailsAtComponent fails bs here e new

  -- Components up to the end, or up to the first one that has no valid tag or is out of order, that can't be read or
  -- consumes nothing, or after which an allocation fails.
  abbrev pub DecodesComponents : {L : Type 0} → (L → List D) → Call L
  DecodesComponents elements = DecodesUpTo (FailsAtElement read) elements

  -- The same without the last of these cases.
  abbrev pub DecodesIntoSlots : Call (List D)
  DecodesIntoSlots = DecodesUpTo (RefusesElement read) (λ (l : List D). l)

-- A function is called once on what was read. An error is that of the read or that of the function.
abbrev pub DecodesSetContents : {L D : Type 0} → Call L → (L → Result D DecodeError → Type 0) → Call D
DecodesSetContents {L} read made old (Ok v) new = (fields : L) × read old (Ok fields) new × made fields (Ok v)
DecodesSetContents {L} read made old (Err e) new = read old (Err e) new ⊎ ((fields : L) × read old (Ok fields) new × made fields (Err e))

-- Whatever the function is called on, its errors name these rules.
abbrev pub MakesByRules : {F D : Type 0} → Codec → (Vec F Global → Result D DecodeError → Type 0) → Type 0
MakesByRules {F} {D} rule made = (fields : Vec F Global) (r : Result D DecodeError) → made fields r → IfErr r (λ e. e.codec ≡ rule)

-- The components of a SET are read one by one by the call read, and made says what a function makes from them.
abbrev pub DecodesSetBy : {F D : Type 0} → Call F → (Vec F Global → Result D DecodeError → Type 0) → Tag → Call D
DecodesSetBy {F} read made tag = DecodesInside (DecodesSetContents (DecodesComponents read (λ (v : Vec F Global). v.items)) made) (sequence_header tag)

-- The readings of the components, in any order, are these parts, and t is their tree.
abbrev pub AreParts : Parts → List Tree → Tree → Type 0
AreParts parts readings t = (ts : List Tree) × (t ≡ items ts) × ByPart 0 (presences parts) readings ts

-- The same, with an extension marker or without one: with one, the unknown components, in the order in which they are
-- read, are the last part.
abbrev pub AreMembers : Bool → Parts → List Tree → Tree → Type 0
AreMembers extensible parts readings t =
    (ts : List Tree) × (us : List Tree) × IsSetTree extensible ts us t × ByPart 0 (presences parts) readings ts × AllOf (count parts) readings us

-- What a function makes from components, given their readings: the parts, or an error if they aren't parts.
abbrev pub MakesSet : {D : Type 0} → Parts → (D → Tree) → List Tree → Result D DecodeError → Type 0
MakesSet parts tree readings (Ok v) = AreParts parts readings (tree v)
MakesSet parts tree readings (Err e) = Exact (λ input t rest. AreParts parts readings t) [] (refusal e.kind)

-- A SET of these parts is read, if each component is one of the parts and the function makes the parts from what was
-- read.
abbrev pub DecodesSet : {F D : Type 0} → Shape → (F → Tree) → (Vec F Global → Result D DecodeError → Type 0) → Parts → (D → Tree) → Tag → Call D
DecodesSet {F} {D} component reading made parts tree tag old result new = component ≡ choice parts
    → ((fields : Vec F Global) (r : Result D DecodeError) → made fields r → MakesSet parts tree (map reading fields.items) r)
    → Decodes (set tag parts) tree old result new

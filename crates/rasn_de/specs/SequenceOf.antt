-- Elements up to the end of the contents (X.690 8.10, 8.12).
use Rattle.std.specs.Prelude.{◌≡◌, ◌≢◌, ◌⊎◌, ◌≤◌, ℕ, List, [], ◌∷◌, ◌++◌, length, Vec, vec_len, Bool, Result, Ok, Err}
use Rattle.std.specs.Global.{Global}
use Rattle.rasn_types.specs.declared.types.tag.Tag.{Tag}
use Rattle.rasn_types.specs.declared.types.codec.Codec.{Codec}
use Rattle.rasn_types.specs.declared.types.constraints.Constraints.{Constraints}
use Rattle.rasn_types.specs.declared.error.decode.DecodeError.{DecodeError}
use Rattle.rasn_types.specs.declared.error.decode.DerDecodeErrorKind.TheVariants.{SetOfOutOfOrder}
use Rattle.rasn_types.specs.Shapes.{Tree, Shape, items, set_elements, list, set_of, Admits, constraint_of}
use Rattle.rasn_types.specs.Trees.{list_tree}
use Rattle.rasn_types.specs.Tags.{IsStrict}
use Rattle.rasn_types.specs.Order.{IsLess, AreAscending}
use Rattle.rasn_types.specs.Framing.{Ended}
use Rattle.rasn_types.specs.Readings.{Reading, ReadsMany, ReadsFrom}
use Rattle.rasn_types.specs.Grammar.{Reads}
use Rattle.rasn_de.specs.declared.ber.de.parser.ParseError.TheVariants.{SizeConstraintNotSatisfied, UnexpectedExtraData, OutOfMemory, Der}
use Rattle.rasn_de.specs.State.{State, Call}
use Rattle.rasn_de.specs.Steps.{IsErrorOf}
use Rattle.rasn_de.specs.Decodes.{Decodes}
use Rattle.rasn_de.specs.Constructed.{list_header, DecodesInside}

unfoldable pub ReadsElements : Shape → Codec → ℕ → Bool → Reading Tree
ReadsElements s rule depth closing input t rest = (ts : List Tree) × (t ≡ items ts) × ReadsMany (Reads rule s depth closing) closing input ts rest

-- The elements of a SET OF, whose octets are in ascending order under the strict rule (11.6).
unfoldable pub ReadsSetElements : Shape → Codec → ℕ → Bool → Reading Tree
ReadsSetElements s rule depth closing input t rest = (ts : List Tree) × (t ≡ set_elements (items ts)) × ReadsMany (Reads rule s depth closing) closing input ts rest
    × (IsStrict rule → (bs : List (List ℕ)) × ReadsFrom (Reads rule s depth closing) input ts rest bs × AreAscending IsLess bs)

-- What was read here consumes nothing, which is reported with the number of octets that are left.
abbrev pub ConsumesNothing : State → DecodeError → State → Type 0
ConsumesNothing here e new = (length new.rest ≡ length here.rest) × IsErrorOf (UnexpectedExtraData (length here.rest)) here e

-- What reads of elements do, one after the other.
module _ {D : Type 0} (read : Call D) where
  -- These elements are read, and each consumes octets.
  abbrev pub DecodesInTurn : State → List D → State → Type 0
  DecodesInTurn old [] here = here ≡ old
  DecodesInTurn old (v ∷ vs) here = (next : State) × (Ended old.closing old.rest → ⊥) × read old (Ok v) next × (length next.rest ≢ length old.rest) × DecodesInTurn next vs here

  -- An element can't be read, or it consumes nothing.
  abbrev pub RefusesElement : State → DecodeError → State → Type 0
  RefusesElement here e new = read here (Err e) new ⊎ ((v : D) × read here (Ok v) new × ConsumesNothing here e new)

  -- The same; or an allocation fails after the element is read, for the list that it is appended to.
  abbrev pub FailsAtElement : State → DecodeError → State → Type 0
  FailsAtElement here e new = read here (Err e) new ⊎ ((v : D) × read here (Ok v) new × (ConsumesNothing here e new ⊎ IsErrorOf OutOfMemory here e))

  -- One more element, which consumes octets, is appended to the others.
  abbrev pub DecodesElement : State → List D → Result (Unit {0}) DecodeError → State → List D → Type 0
  DecodesElement old vs (Ok u) new all = (v : D) × (all ≡ vs ++ (v ∷ [])) × read old (Ok v) new × (length new.rest ≢ length old.rest)
  DecodesElement old vs (Err e) new all = FailsAtElement old e new

  -- Elements up to the end, or the error of the first one that can't be read.
  abbrev pub DecodesElements : {L : Type 0} → (L → List D) → Call L
  DecodesElements elements old (Ok v) new = DecodesInTurn old (elements v) new × Ended new.closing new.rest
  DecodesElements elements old (Err e) new = (vs : List D) × (here : State) × DecodesInTurn old vs here × (Ended here.closing here.rest → ⊥) × FailsAtElement here e new

  -- These elements are read from these octets, and each consumes some.
  abbrev pub DecodesInTurnFrom : State → List D → List (List ℕ) → State → Type 0
  DecodesInTurnFrom old [] bs here = (bs ≡ []) × (here ≡ old)
  DecodesInTurnFrom old (v ∷ vs) bs here = (b : List ℕ) × (more : List (List ℕ)) × (next : State) × (bs ≡ b ∷ more) × (old.rest ≡ b ++ next.rest)
      × (Ended old.closing old.rest → ⊥) × read old (Ok v) next × (length next.rest ≢ length old.rest) × DecodesInTurnFrom next vs more here

  -- One more element is read under the strict rule, and its octets are out of order after those of the others.
  abbrev pub IsOutOfOrder : List (List ℕ) → State → DecodeError → State → Type 0
  IsOutOfOrder bs here e new = (v : D) × (b : List ℕ) × read here (Ok v) new × (here.rest ≡ b ++ new.rest) × (length new.rest ≢ length here.rest)
      × IsStrict here.rule × (AreAscending IsLess (bs ++ (b ∷ [])) → ⊥) × IsErrorOf (Der SetOfOutOfOrder) here e

  -- Elements up to the end, or the error of the first one that can't be read or is out of order.
  abbrev pub DecodesElementsInOrder : {L : Type 0} → (L → List D) → Call L
  DecodesElementsInOrder elements old (Ok v) new = (bs : List (List ℕ)) × DecodesInTurnFrom old (elements v) bs new × (IsStrict old.rule → AreAscending IsLess bs) × Ended new.closing new.rest
  DecodesElementsInOrder elements old (Err e) new = (vs : List D) × (bs : List (List ℕ)) × (here : State) × DecodesInTurnFrom old vs bs here
      × (IsStrict old.rule → AreAscending IsLess bs) × (Ended here.closing here.rest → ⊥) × (FailsAtElement here e new ⊎ IsOutOfOrder bs here e new)

-- The elements inside a value with the tag, before their number is checked.
abbrev pub DecodesInList : {L : Type 0} → Call L → Tag → Call L
DecodesInList read tag = DecodesInside read (list_header tag)

-- If the number of elements isn't admitted, there is an error, and the whole value is consumed.
abbrev pub DecodesSized : {L : Type 0} → Call L → (L → ℕ) → Tag → Constraints → Call L
DecodesSized read size tag c old (Ok v) new = Admits ◌≤◌ c.size (size v) × DecodesInList read tag old (Ok v) new
DecodesSized {L} read size tag c old (Err e) new = DecodesInList read tag old (Err e) new
    ⊎ ((v : L) × DecodesInList read tag old (Ok v) new × (Admits ◌≤◌ c.size (size v) → ⊥) × IsErrorOf (SizeConstraintNotSatisfied (size v) (constraint_of c.size)) old e)

-- A SEQUENCE OF and a SET OF, whose elements are read one by one by the call read.
abbrev pub DecodesSequenceOfBy : {D : Type 0} → Call D → Tag → Constraints → Call (Vec D Global)
DecodesSequenceOfBy {D} read = DecodesSized (DecodesElements read (λ (v : Vec D Global). v.items)) (λ (v : Vec D Global). vec_len v)

abbrev pub DecodesSetOfBy : {D : Type 0} → Call D → Tag → Constraints → Call (List D)
DecodesSetOfBy {D} read = DecodesSized (DecodesElementsInOrder read (λ (v : List D). v)) (λ (v : List D). length v)

-- A SEQUENCE OF and a SET OF of elements of the shape are read.
abbrev pub DecodesSequenceOf : {D : Type 0} → Shape → (D → Tree) → Tag → Constraints → Call (Vec D Global)
DecodesSequenceOf {D} s tree tag c = Decodes (list tag s c.size) (λ (v : Vec D Global). list_tree tree v.items)

abbrev pub DecodesSetOf : {D : Type 0} → Shape → (D → Tree) → Tag → Constraints → Call (List D)
DecodesSetOf {D} s tree tag c = Decodes (set_of tag s c.size) (λ (v : List D). set_elements (list_tree tree v))

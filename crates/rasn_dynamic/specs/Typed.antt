-- How a value of each type is read: as rasn_de's call for such a value reads it.
use Rattle.std.specs.Prelude.{◌≡◌, ◌⊎◌, ℕ, suc, ◌≤◌, List, Result, Ok, Err, IfErr}
use Rattle.std.specs.String.{string_bytes}
use Rattle.rasn_types.specs.declared.types.constraints.Constraints.{Constraints}
use Rattle.rasn_types.specs.declared.error.decode.DecodeError.{DecodeError}
use Rattle.rasn_types.specs.Errors.{IsOutOfMemory}
use Rattle.rasn_types.specs.Shapes.{Tree, items, joined, set_elements, Shape, Parts, Admits, constraint_of}
use Rattle.rasn_de.specs.declared.ber.de.parser.ParseError.TheVariants.{SizeConstraintNotSatisfied}
use Rattle.rasn_de.specs.State.{State, Call}
use Rattle.rasn_de.specs.Steps.{IsErrorOf}
use Rattle.rasn_de.specs.Decodes.{DecodesBy}
use Rattle.rasn_de.specs.Constructed.{sequence_header, prefix_header, Keeps, DecodesInside}
use Rattle.rasn_de.specs.SequenceOf.{DecodesElements, DecodesElementsInOrder, DecodesSized}
use Rattle.rasn_de.specs.PartTypes.{FailsAtPart}
use Rattle.rasn_de.specs.SetPartTypes.{DecodesSetPartContents}
use Rattle.rasn_schema.specs.declared.types.«Type».{«Type»}
use Rattle.rasn_schema.specs.declared.types.«Type».TheVariants.{Leaf, Enumerated, Any, Tagged, Choice, Sequence, Set, SequenceOf, SetOf, Unknown}
use Rattle.rasn_schema.specs.Shapes.{type_by, alternatives_by, choice_among, components_by}
use Rattle.rasn_dynamic.specs.Inside.{ReadsSequence, DecodesTree}
use Rattle.rasn_dynamic.specs.Making.{these}
use Rattle.rasn_dynamic.specs.Sets.{is_extensible, named_components}
use Rattle.rasn_dynamic.specs.Calls.{names_of, IsNoAlternative}

-- The tree is made of those that a call reads.
abbrev pub Makes : (List Tree → Tree) → Call (List Tree) → Call Tree
Makes make read old (Ok t) new = (ts : List Tree) × (t ≡ make ts) × read old (Ok ts) new
Makes make read old (Err e) new = read old (Err e) new

abbrev pub elements : List Tree → Tree
elements ts = set_elements (items ts)

-- The components of a SEQUENCE are read in their order, up to the first that isn't read; or memory runs out.
abbrev pub DecodesComponents : Parts → Call (List Tree)
DecodesComponents ps old r new = DecodesBy (ReadsSequence ps) items old r new × IfErr r (λ e. FailsAtPart ps old e new ⊎ IsOutOfMemory e.kind)

-- It is read so; or memory runs out before.
abbrev pub MayRunOut : {D : Type 0} → Call D → Call D
MayRunOut {D} read old (Ok v) new = read old (Ok v) new
MayRunOut {D} read old (Err e) new = read old (Err e) new ⊎ (IsOutOfMemory e.kind × Keeps old new)

-- the number of elements of a list or a set
abbrev pub element_count : Tree → ℕ
element_count (joined t ts) = suc (element_count ts)
element_count (set_elements ts) = element_count ts
element_count _ = 0

-- The number of elements is within the bound.
abbrev pub IsSized : Constraints → State → ℕ → Result (Unit {0}) DecodeError → Type 0
IsSized c s n (Ok done) = Admits ◌≤◌ c.size n
IsSized c s n (Err e) = (Admits ◌≤◌ c.size n → ⊥) × IsErrorOf (SizeConstraintNotSatisfied n (constraint_of c.size)) s e

-- The values of the type hold other values, after a header of their own.
abbrev pub HoldsOthers : «Type» → Type 0
HoldsOthers (Leaf kind tag c names) = ⊥
HoldsOthers (Enumerated tag ns) = ⊥
HoldsOthers (Any tag) = ⊥
HoldsOthers Unknown = ⊥
HoldsOthers (Tagged tag k) = Unit {0}
HoldsOthers (Choice name ks) = ⊥
HoldsOthers (Sequence tag ps) = Unit {0}
HoldsOthers (Set name tag ps) = Unit {0}
HoldsOthers (SequenceOf tag k c) = Unit {0}
HoldsOthers (SetOf tag k c) = Unit {0}

-- f gives the shape of the type with a number.
module _ (f : ℕ → Shape) where
  -- The contents of such a value, without a bound of the number of elements.
  abbrev pub DecodesContents : «Type» → Call Tree
  DecodesContents (Leaf kind tag c names) = λ old r new. ⊥
  DecodesContents (Enumerated tag ns) = λ old r new. ⊥
  DecodesContents (Any tag) = λ old r new. ⊥
  DecodesContents Unknown = λ old r new. ⊥
  DecodesContents (Tagged tag k) = DecodesTree (f k.0)
  DecodesContents (Choice name ks) = λ old r new. ⊥
  DecodesContents (Sequence tag ps) = Makes items (DecodesComponents (components_by f ps.items))
  DecodesContents (Set name tag ps) = Makes items (MayRunOut (DecodesSetPartContents (is_extensible f ps.items) (components_by f (named_components f ps.items)) items (names_of (named_components f ps.items))))
  DecodesContents (SequenceOf tag k c) = Makes items (DecodesElements (DecodesTree (f k.0)) these)
  DecodesContents (SetOf tag k c) = Makes elements (DecodesElementsInOrder (DecodesTree (f k.0)) these)

  -- A value: its header and its contents, and then the number of its elements.
  abbrev pub DecodesType : «Type» → Call Tree
  DecodesType (Leaf kind tag c names) = DecodesTree (type_by f (Leaf kind tag c names))
  DecodesType (Enumerated tag ns) = DecodesTree (type_by f (Enumerated tag ns))
  DecodesType (Any tag) = DecodesTree (type_by f (Any tag))
  DecodesType Unknown = DecodesTree (type_by f Unknown)
  DecodesType (Tagged tag k) = DecodesInside (DecodesContents (Tagged tag k)) (prefix_header tag)
  DecodesType (Choice name ks) = λ old r new.
      DecodesTree (choice_among (alternatives_by f ks.items)) old r new × IfErr r (λ e. IsNoAlternative (alternatives_by f ks.items) (string_bytes name) old e new)
  DecodesType (Sequence tag ps) = DecodesInside (DecodesContents (Sequence tag ps)) (sequence_header tag)
  DecodesType (Set name tag ps) = DecodesInside (DecodesContents (Set name tag ps)) (sequence_header tag)
  DecodesType (SequenceOf tag k c) = DecodesSized (DecodesContents (SequenceOf tag k c)) element_count tag c
  DecodesType (SetOf tag k c) = DecodesSized (DecodesContents (SetOf tag k c)) element_count tag c

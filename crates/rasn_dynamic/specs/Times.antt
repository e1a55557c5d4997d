-- The times in a value that is read by a schema: besides its instant, a GeneralizedTime has the offset of its text.
use Rattle.std.specs.Prelude.{◌≡◌, ℕ, zero, suc, List, Option, Some, None, Ok, pos, slice_get}
use Rattle.rasn_types.specs.declared.types.codec.Codec.{Codec}
use Rattle.rasn_types.specs.declared.types.tag.Tag.{Tag}
use Rattle.rasn_types.specs.Grammar.{GeneralizedText}
use Rattle.rasn_de.specs.State.{State}
use Rattle.rasn_de.specs.Beyond.{Beyond}
use Rattle.rasn_de.specs.Time.{DecodesTime}
use Rattle.rasn_schema.specs.declared.types.LeafKind.{LeafKind}
use Rattle.rasn_schema.specs.declared.types.LeafKind.TheVariants.{UtcTime, GeneralizedTime}
use Rattle.rasn_schema.specs.declared.types.«Type».{«Type»}
use Rattle.rasn_schema.specs.declared.types.«Type».TheVariants.{Leaf, Enumerated, Any, Tagged, Choice, Sequence, Set, SequenceOf, SetOf, Unknown}
use Rattle.rasn_schema.specs.declared.value.Value.{Value, Instant}
use Rattle.rasn_schema.specs.Fitting.{FitsLeaf, FitsBy}
use Rattle.rasn_dynamic.specs.Faults.{IsWithin, start}

-- A GeneralizedTime is what its text says, offset included, as one that is read by its Rattle type. A UTCTime has no offset.
abbrev pub KeepsOffset : LeafKind → Tag → Beyond Value
KeepsOffset GeneralizedTime tag old (Instant t) new = DecodesTime (GeneralizedText old.rule) tag old (Ok t) new
KeepsOffset UtcTime tag old (Instant t) new = t.offset ≡ pos 0
KeepsOffset _ tag old v new = Unit {0}

-- What a decoder sees in the state here is within what it sees in the state s, and is read by the same rules.
abbrev pub Covers : State → State → Type 0
Covers s here = (here.rule ≡ s.rule) × (left : ℕ) × IsWithin s.rest here.rest left

-- The same of a time that is read somewhere in what is seen in the state s.
abbrev pub KeepsOffsetIn : State → LeafKind → Tag → Value → Type 0
KeepsOffsetIn s kind tag v = (here : State) × (next : State) × Covers s here × KeepsOffset kind tag here v next

-- The value is one of the type, and such a time if the type is one of times. Of the types that a type names, g tells this.
abbrev pub FitsFromBy : State → (ℕ → Value → Type 0) → «Type» → Value → Type 0
FitsFromBy s g (Leaf kind tag c names) v = FitsLeaf kind v × KeepsOffsetIn s kind tag v
FitsFromBy s g (Enumerated tag ns) v = FitsBy g (Enumerated tag ns) v
FitsFromBy s g (Any tag) v = FitsBy g (Any tag) v
FitsFromBy s g (Tagged tag k) v = FitsBy g (Tagged tag k) v
FitsFromBy s g (Choice name ks) v = FitsBy g (Choice name ks) v
FitsFromBy s g (Sequence tag ps) v = FitsBy g (Sequence tag ps) v
FitsFromBy s g (Set name tag ps) v = FitsBy g (Set name tag ps) v
FitsFromBy s g (SequenceOf tag k c) v = FitsBy g (SequenceOf tag k c) v
FitsFromBy s g (SetOf tag k c) v = FitsBy g (SetOf tag k c) v
FitsFromBy s g Unknown v = FitsBy g Unknown v

abbrev pub FitsFromFound : State → (ℕ → Value → Type 0) → Option «Type» → Value → Type 0
FitsFromFound s g None v = ⊥
FitsFromFound s g (Some ty) v = FitsFromBy s g ty v

-- The value is one of the type with this number, types followed so many levels deep, and so is each value in it.
unfoldable pub FitsFrom : State → List «Type» → ℕ → ℕ → Value → Type 0
FitsFrom s types zero k v = ⊥
FitsFrom s types (suc levels) k v = FitsFromFound s (λ j w. FitsFrom s types levels j w) (slice_get types k) v

-- Each time in the value, unless a component has it by default, is the one of a text in the input.
abbrev pub HasItsTimes : List «Type» → Codec → ℕ → List ℕ → Value → Type 0
HasItsTimes types rule id input v = FitsFrom (start rule input) types 18446744073709551615 id v

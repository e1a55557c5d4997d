-- Why a value isn't written as JSON, and which part of it.
use Rattle.std.specs.Prelude.{◌≡◌, ◌⊎◌, ◌++◌, ◌<◌, ◌+◌, ◌-◌, ℕ, zero, suc, Bool, List, [], ◌∷◌, Option, Some, None, length, slice_get}
use Rattle.std.specs.String.{string_bytes}
use Rattle.json.specs.Json.{Json}
use Rattle.rasn_types.specs.CowBits.{cow_bits}
use Rattle.rasn_types.specs.Shapes.{constraint_of}
use Rattle.rasn_types.specs.declared.types.constraints.Constraints.{Constraints}
use Rattle.rasn_schema.specs.declared.type_id.TypeId.{TypeId}
use Rattle.rasn_schema.specs.declared.types.LeafKind.{LeafKind}
use Rattle.rasn_schema.specs.declared.types.LeafKind.TheVariants.{Real}
use Rattle.std.specs.Cow.{cow_slice_items}
use Rattle.rasn_json.specs.Reals.{IsDecimalReal}
use Rattle.rasn_schema.specs.declared.types.NamedNumber.{NamedNumber}
use Rattle.rasn_schema.specs.declared.types.Alternative.{Alternative}
use Rattle.rasn_schema.specs.declared.types.Component.{Component}
use Rattle.rasn_schema.specs.declared.types.«Type».{«Type»}
use Rattle.rasn_schema.specs.declared.types.«Type».TheVariants.{Leaf, Enumerated, Any, Tagged, Choice, Sequence, Set, SequenceOf, SetOf, Unknown}
use Rattle.rasn_schema.specs.declared.value.Value.{Value, Bits, Octets, Integer as Number, Units, Arcs, Instant, Day as OnDay}
use Rattle.rasn_schema.specs.Fitting.{AreItems, AreElements, FitsLeaf, IsChosen, IsNoList, IsNoSet}
use Rattle.rasn_json.specs.declared.error.JsonError.{JsonError}
use Rattle.rasn_json.specs.declared.error.JsonErrorKind.{JsonErrorKind}
use Rattle.rasn_json.specs.declared.error.JsonErrorKind.TheVariants.{LongNumber, OutOfMemory, NoJson, NoType, TooDeep, Unfit, WrongSize}
use Rattle.rasn_json.specs.declared.error.JsonStep.{JsonStep}
use Rattle.rasn_json.specs.declared.error.JsonStep.TheVariants.{Member, Element}
use Rattle.rasn_json.specs.Json.{ArcsJson, DayJson, EnumeratedJson, InstantJson, IntegerJson, IsLeftOut, IsSize, JsonWithin, OpenJson, UnitsJson, one_size, unknown_in}

-- Memory ran out; or the error is another one, which is such.
abbrev pub IsMemory : JsonError → Type 0
IsMemory e = e.kind ≡ OutOfMemory

abbrev pub OrMemory : (JsonError → Type 0) → JsonError → Type 0
OrMemory P e = IsMemory e ⊎ P e

-- ---- which part

-- The error is of the value itself, and this is its reason.
abbrev pub IsOfItself : JsonErrorKind → JsonError → Type 0
IsOfItself kind e = (e.kind ≡ kind) × (e.steps.items ≡ [])

-- The error is that of a part, to which this step leads.
abbrev pub IsOfPart : (JsonStep → Type 0) → (JsonError → Type 0) → JsonError → Type 0
IsOfPart S P e =
    (d : JsonError) × (step : JsonStep) × S step × P d × (e.kind ≡ d.kind)
    × (e.steps.items ≡ d.steps.items ++ step ∷ [])

abbrev pub LeadsToMember : List ℕ → JsonStep → Type 0
LeadsToMember name (Member s) = string_bytes s ≡ name
LeadsToMember name (Element i) = ⊥

-- The part is the member with this name, or the element with this index.
abbrev pub IsOfMember : List ℕ → (JsonError → Type 0) → JsonError → Type 0
IsOfMember name = IsOfPart (LeadsToMember name)

abbrev pub IsOfElement : ℕ → (JsonError → Type 0) → JsonError → Type 0
IsOfElement i = IsOfPart (λ step. step ≡ Element i)

-- ---- values that hold no others

-- Nothing is the JSON of the value, for this reason.
abbrev pub HasNone : JsonErrorKind → (Json → Type 0) → JsonError → Type 0
HasNone kind P e = ((j : Json) → P j → ⊥) × IsOfItself kind e

-- Bits aren't as many as those of the type, or they would be an object where none may be nested.
abbrev pub AreRefusedBits : ℕ → LeafKind → Constraints → Option ℕ → List Bool → JsonError → Type 0
AreRefusedBits depth kind c (Some n) bs e =
    (IsSize kind n (length bs) → ⊥) × IsOfItself (WrongSize (length bs) (constraint_of c.size)) e
AreRefusedBits depth kind c None bs e = (depth ≡ 0) × IsOfItself TooDeep e

-- A REAL with base 10 would be an object where none may be nested.
abbrev pub IsRefusedReal : LeafKind → ℕ → List ℕ → JsonError → Type 0
IsRefusedReal Real depth o e = IsDecimalReal o × (depth ≡ 0) × IsOfItself TooDeep e
IsRefusedReal _ depth o e = ⊥

-- A value of the kind has no text, or its bits are refused, or its number has too many octets.
abbrev pub IsRefusedForm : ℕ → LeafKind → Constraints → List NamedNumber → Value → JsonError → Type 0
IsRefusedForm depth kind c names (Number n) e = HasNone LongNumber (IntegerJson kind names n) e
IsRefusedForm depth kind c names (Bits b) e = AreRefusedBits depth kind c (one_size c) (cow_bits b) e
IsRefusedForm depth kind c names (Units u) e = HasNone NoJson (UnitsJson u) e
IsRefusedForm depth kind c names (Octets o) e = IsRefusedReal kind depth (cow_slice_items o) e
IsRefusedForm depth kind c names (Arcs a) e = HasNone NoJson (ArcsJson kind a) e
IsRefusedForm depth kind c names (Instant t) e = HasNone NoJson (InstantJson kind t.moment) e
IsRefusedForm depth kind c names (OnDay d) e = HasNone NoJson (DayJson d) e
IsRefusedForm depth kind c names _ e = ⊥

abbrev pub IsRefusedLeaf : ℕ → LeafKind → Constraints → List NamedNumber → Value → JsonError → Type 0
IsRefusedLeaf depth kind c names v e =
    ((FitsLeaf kind v → ⊥) × IsOfItself Unfit e) ⊎ (FitsLeaf kind v × IsRefusedForm depth kind c names v e)

abbrev pub IsRefusedOpen : Value → JsonError → Type 0
IsRefusedOpen v e = HasNone Unfit (OpenJson v) e

abbrev pub HasOpen : Value → Type 0
HasOpen v = (j : Json) × OpenJson v j

-- ---- values that hold others. Of a type with a number, h tells which values have JSON that may be nested there, g why one
-- hasn't, and u whether it is that of unknown values.

abbrev pub IsAlternative : List Alternative → ℕ → Value → Type 0
IsAlternative ks i w = (a : Alternative) × (Some a ≡ slice_get ks i)

abbrev pub IsRefusedAlternative : (ℕ → Value → JsonError → Type 0) → List Alternative → JsonError → ℕ → Value → Type 0
IsRefusedAlternative g ks e i w =
    (a : Alternative) × (Some a ≡ slice_get ks i) × IsOfMember (string_bytes a.name) (g a.type_id.0 w) e

-- The value is no alternative of the type, or that of the alternative is refused.
abbrev pub IsRefusedChoice : (ℕ → Value → JsonError → Type 0) → List Alternative → Value → JsonError → Type 0
IsRefusedChoice g ks v e =
    ((IsChosen (IsAlternative ks) v → ⊥) × IsOfItself Unfit e) ⊎ IsChosen (IsRefusedAlternative g ks e) v

-- The component isn't left out, and its value is refused; or it is left out, or its value has JSON.
abbrev pub IsRefusedComponent : (ℕ → Bool) → (ℕ → Value → JsonError → Type 0) → Component → Value → JsonError → Type 0
IsRefusedComponent u g p v e = (IsLeftOut u p v → ⊥) × IsOfMember (string_bytes p.name) (g p.type_id.0 v) e

abbrev pub IsWritten : (ℕ → Bool) → (ℕ → Value → Type 0) → Component → Value → Type 0
IsWritten u h p v = IsLeftOut u p v ⊎ h p.type_id.0 v

-- A component is refused, of which those before are written; or there are more or fewer values than components.
abbrev pub AreRefusedComponents : (ℕ → Bool) → (ℕ → Value → Type 0) → (ℕ → Value → JsonError → Type 0) → List Component
    → List Value → JsonError → Type 0
AreRefusedComponents u h g [] [] e = ⊥
AreRefusedComponents u h g [] (v ∷ vs) e = IsOfItself Unfit e
AreRefusedComponents u h g (p ∷ ps) [] e = IsOfItself Unfit e
AreRefusedComponents u h g (p ∷ ps) (v ∷ vs) e =
    IsRefusedComponent u g p v e ⊎ (IsWritten u h p v × AreRefusedComponents u h g ps vs e)

-- An element is refused, of which those before have JSON. The first has this index.
abbrev pub AreRefusedElements : (Value → Type 0) → (Value → JsonError → Type 0) → ℕ → List Value → JsonError → Type 0
AreRefusedElements h g i [] e = ⊥
AreRefusedElements h g i (v ∷ vs) e = IsOfElement i (g v) e ⊎ (h v × AreRefusedElements h g (i + 1) vs e)

-- The value is no list, or no set; or one of its values is refused.
abbrev pub IsRefusedList : (List Value → JsonError → Type 0) → Value → JsonError → Type 0
IsRefusedList P v e = (IsNoList v × IsOfItself Unfit e) ⊎ AreItems (λ vs. P vs e) v

abbrev pub IsRefusedSet : (List Value → JsonError → Type 0) → Value → JsonError → Type 0
IsRefusedSet P v e = (IsNoSet v × IsOfItself Unfit e) ⊎ AreElements (λ vs. P vs e) v

abbrev pub IsRefusedInside : (ℕ → Bool) → (ℕ → Value → Type 0) → (ℕ → Value → JsonError → Type 0) → «Type» → Value
    → JsonError → Type 0
IsRefusedInside u h g (Choice name ks) v e = IsRefusedChoice g ks.items v e
IsRefusedInside u h g (Sequence tag ps) v e = IsRefusedList (AreRefusedComponents u h g ps.items) v e
IsRefusedInside u h g (Set name tag ps) v e = IsRefusedList (AreRefusedComponents u h g ps.items) v e
IsRefusedInside u h g (SequenceOf tag k c) v e = IsRefusedList (AreRefusedElements (h k.0) (g k.0) 0) v e
IsRefusedInside u h g (SetOf tag k c) v e = IsRefusedSet (AreRefusedElements (h k.0) (g k.0) 0) v e
IsRefusedInside u h g Unknown v e = IsRefusedList (AreRefusedElements HasOpen IsRefusedOpen 0) v e
IsRefusedInside u h g _ v e = IsOfItself Unfit e

-- An array or an object may not be nested there, or what is in it is refused.
abbrev pub IsRefusedNested : (ℕ → Bool) → (ℕ → ℕ → Value → Type 0) → (ℕ → ℕ → Value → JsonError → Type 0) → ℕ → «Type»
    → Value → JsonError → Type 0
IsRefusedNested u h g depth ty v e =
    ((depth ≡ 0) × IsOfItself TooDeep e) ⊎ ((0 < depth) × IsRefusedInside u (h (depth - 1)) (g (depth - 1)) ty v e)

abbrev pub IsRefusedBy : (ℕ → Bool) → (ℕ → ℕ → Value → Type 0) → (ℕ → ℕ → Value → JsonError → Type 0) → ℕ → «Type»
    → Value → JsonError → Type 0
IsRefusedBy u h g depth (Leaf kind tag c names) v e = IsRefusedLeaf depth kind c names.items v e
IsRefusedBy u h g depth (Enumerated tag ns) v e = HasNone Unfit (EnumeratedJson ns.items v) e
IsRefusedBy u h g depth (Any tag) v e = IsRefusedOpen v e
IsRefusedBy u h g depth (Tagged tag k) v e = g depth k.0 v e
IsRefusedBy u h g depth ty v e = IsRefusedNested u h g depth ty v e

abbrev pub IsRefusedFound : (ℕ → Bool) → (ℕ → ℕ → Value → Type 0) → (ℕ → ℕ → Value → JsonError → Type 0) → ℕ → ℕ
    → Option «Type» → Value → JsonError → Type 0
IsRefusedFound u h g depth k None v e = (id : TypeId) × (id.0 ≡ k) × IsOfItself (NoType id) e
IsRefusedFound u h g depth k (Some ty) v e = IsRefusedBy u h g depth ty v e

abbrev pub HasJsonWithin : List «Type» → ℕ → ℕ → ℕ → Value → Type 0
HasJsonWithin types levels depth k v = (j : Json) × JsonWithin types levels depth k v j

-- The value of the type with this number is refused, types followed so many levels deep, where so many arrays and objects
-- may be nested.
unfoldable pub IsRefusedAt : List «Type» → ℕ → ℕ → ℕ → Value → JsonError → Type 0
IsRefusedAt types zero depth k v e = IsOfItself Unfit e
IsRefusedAt types (suc levels) depth k v e =
    IsRefusedFound (unknown_in types) (λ d i w. HasJsonWithin types levels d i w) (λ d i w x. IsRefusedAt types levels d i w x)
    depth k (slice_get types k) v e

-- What a schema has to be: the rules that each type keeps.
use Rattle.std.specs.Prelude.{◌≡◌, ◌≢◌, ℕ, suc, ◌<◌, true, List, [], length, Option, Some, None, slice_get}
use Rattle.rasn_types.specs.declared.types.tag.Tag.{Tag}
use Rattle.rasn_types.specs.Tags.{eoc}
use Rattle.rasn_types.specs.Grammar.{family}
use Rattle.rasn_types.specs.Shapes.{Shape, prefix, IsFirst, looked_for, addition}
use Rattle.rasn_types.specs.Lawful.{IsBitFree, HasTag}
use Rattle.rasn_schema.specs.declared.types.Component.{Component}
use Rattle.rasn_schema.specs.declared.types.Alternative.{Alternative}
use Rattle.rasn_schema.specs.declared.types.NamedNumber.{NamedNumber}
use Rattle.rasn_schema.specs.declared.types.«Type».{«Type»}
use Rattle.rasn_schema.specs.declared.types.«Type».TheVariants.{Leaf, Enumerated, Any, Tagged, Choice, Sequence, Set, SequenceOf, SetOf, Unknown}
use Rattle.rasn_schema.specs.Shapes.{presence_of, kind_of, is_open, is_unknown, tag_at, shape_of_type}
use Rattle.rasn_schema.specs.FirstTags.{EachFirst, IsAlwaysThere}
use Rattle.rasn_schema.specs.declared.types.Presence.{Presence}
use Rattle.rasn_schema.specs.declared.types.Presence.TheVariants.{Required, Default}
use Rattle.rasn_schema.specs.declared.value.Value.{Value}
use Rattle.rasn_schema.specs.Fitting.{Fits}

-- ---- rules, where f gives the shape of the type with a number

-- No value of the one begins with a tag with which one of the other begins.
abbrev pub AreDistinct : Shape → Shape → Type 0
AreDistinct s t = EachFirst s (λ n. IsFirst t n → ⊥)

abbrev pub IsPrefix : Shape → Type 0
IsPrefix (prefix tag s) = Unit {0}
IsPrefix _ = ⊥

abbrev pub IsUnknown : Shape → Type 0
IsUnknown s = is_unknown s ≡ true

abbrev pub IsTaggedOrUnknown : Shape → Type 0
IsTaggedOrUnknown s = (IsUnknown s → ⊥) → HasTag s

abbrev pub IsRequired : Presence → Type 0
IsRequired Required = Unit {0}
IsRequired _ = ⊥

-- Alternative i has a tag, or it is the last of several and an open type: the unknown values of an extensible CHOICE (X.680 29).
abbrev pub IsTaggedOrOpen : (ℕ → Shape) → List Alternative → ℕ → Alternative → Type 0
IsTaggedOrOpen f ks i a = (HasTag (f a.type_id.0) → ⊥) → (0 < i) × (suc i ≡ length ks) × (is_open (f a.type_id.0) ≡ true)

-- Each alternative of the CHOICE with number id has a lower number, and a tag unless it is an open type at the end.
abbrev pub AreLowerAndTagged : (ℕ → Shape) → ℕ → List Alternative → Type 0
AreLowerAndTagged f id ks = (i : ℕ) (a : Alternative) → Some a ≡ slice_get ks i → (a.type_id.0 < id) × IsTaggedOrOpen f ks i a

-- No two alternatives that have tags begin with the same tag (X.680 29.3). One without a tag is the last.
abbrev pub AreDistinctAlternatives : (ℕ → Shape) → List Alternative → Type 0
AreDistinctAlternatives f ks = (i j : ℕ) (a b : Alternative) → i < j → Some a ≡ slice_get ks i → Some b ≡ slice_get ks j → HasTag (f b.type_id.0) → AreDistinct (f a.type_id.0) (f b.type_id.0)

-- No two numbers of an ENUMERATED are the same (X.680 20.3).
abbrev pub AreDistinctNumbers : List NamedNumber → Type 0
AreDistinctNumbers ns = (i j : ℕ) (m n : NamedNumber) → i < j → Some m ≡ slice_get ns i → Some n ≡ slice_get ns j → m.number ≢ n.number

-- If component i is absent, component j may follow what is before it: each one between them may be absent too.
abbrev pub MayFollow : List Component → ℕ → ℕ → Type 0
MayFollow ps i j = (i < j) × ((m : ℕ) (p : Component) → i < m → m < j → Some p ≡ slice_get ps m → IsAlwaysThere (presence_of p.presence) → ⊥)

-- The type isn't an open type without a tag, and some value begins with some tag.
abbrev pub IsRecognizable : Shape → Type 0
IsRecognizable s = HasTag s × (((n : Tag) → IsFirst s n → ⊥) → ⊥)

-- A component is distinguished by its tag or, if it is a CHOICE, by those of its alternatives (X.680 29.3).
abbrev pub IsToldFrom : Option Tag → Shape → Shape → Type 0
IsToldFrom None s t = IsRecognizable s × AreDistinct s t
IsToldFrom (Some tag) s t = IsFirst t tag → ⊥

-- A component that may be absent is distinguished from each one that may follow then (X.680 25.6).
abbrev pub AreToldInOrder : (ℕ → Option Tag) → (ℕ → Shape) → List Component → Type 0
AreToldInOrder own f ps = (i j : ℕ) (p q : Component) → Some p ≡ slice_get ps i → Some q ≡ slice_get ps j → (IsAlwaysThere (presence_of p.presence) → ⊥) → MayFollow ps i j → IsToldFrom (own p.type_id.0) (f p.type_id.0) (f q.type_id.0)

-- Only the last component may be unknown values, and it is required.
abbrev pub EndsUnknown : (ℕ → Shape) → List Component → Type 0
EndsUnknown f ps = (i : ℕ) (p : Component) → Some p ≡ slice_get ps i → IsUnknown (f p.type_id.0) → (suc i ≡ length ps) × IsRequired p.presence

-- Each component of a SET has a tag, except unknown values, and none is an extension addition.
abbrev pub AreTagged : (ℕ → Shape) → List Component → Type 0
AreTagged f ps = (i : ℕ) (p : Component) → Some p ≡ slice_get ps i → (presence_of p.presence ≢ addition) × IsTaggedOrUnknown (f p.type_id.0)

-- No two components of a SET begin with the same tag (X.680 27.3).
abbrev pub AreDistinctComponents : (ℕ → Shape) → List Component → Type 0
AreDistinctComponents f ps = (i j : ℕ) (p q : Component) → i < j → Some p ≡ slice_get ps i → Some q ≡ slice_get ps j → AreDistinct (f p.type_id.0) (f q.type_id.0)

-- What is asked of the type with number id. An explicit tag within another one has a lower number, so that tags end. Of the types that it names, f tells how they begin.
abbrev pub IsWellFormed : (ℕ → Option Tag) → (ℕ → Shape) → ℕ → «Type» → Type 0
IsWellFormed own f id (Leaf kind tag c names) = (tag ≢ eoc) × IsBitFree (family (kind_of kind)) tag
IsWellFormed own f id (Enumerated tag ns) = (tag ≢ eoc) × (ns.items ≢ []) × AreDistinctNumbers ns.items
IsWellFormed own f id (Any tag) = Unit {0}
IsWellFormed own f id (Tagged tag k) = (tag ≢ eoc) × (IsPrefix (f k.0) → k.0 < id) × (IsUnknown (f k.0) → ⊥)
IsWellFormed own f id (Choice name ks) = (ks.items ≢ []) × AreLowerAndTagged f id ks.items × AreDistinctAlternatives f ks.items
IsWellFormed own f id (Sequence tag ps) = (tag ≢ eoc) × AreToldInOrder own f ps.items × EndsUnknown f ps.items
IsWellFormed own f id (Set name tag ps) = (tag ≢ eoc) × AreTagged f ps.items × EndsUnknown f ps.items × AreDistinctComponents f ps.items
IsWellFormed own f id (SequenceOf tag k c) = (tag ≢ eoc) × (IsUnknown (f k.0) → ⊥)
IsWellFormed own f id (SetOf tag k c) = (tag ≢ eoc) × (IsUnknown (f k.0) → ⊥)
IsWellFormed own f id Unknown = Unit {0}

-- ---- of all types

abbrev pub own_at : List «Type» → ℕ → Option Tag
own_at types k = looked_for (tag_at types k)

-- A CHOICE within a CHOICE has a lower number, so that this deep all tags are seen with which a type may begin.
abbrev pub begin_at : List «Type» → ℕ → Shape
begin_at types k = shape_of_type types (suc (length types)) k

abbrev pub AreWellFormed : (ℕ → Option Tag) → (ℕ → Shape) → List «Type» → Type 0
AreWellFormed own f types = (k : ℕ) (ty : «Type») → Some ty ≡ slice_get types k → IsWellFormed own f k ty

abbrev pub IsChoice : «Type» → Type 0
IsChoice (Choice name ks) = Unit {0}
IsChoice _ = ⊥

abbrev pub AreOthersWellFormed : (ℕ → Option Tag) → (ℕ → Shape) → List «Type» → Type 0
AreOthersWellFormed own f types = (k : ℕ) (ty : «Type») → Some ty ≡ slice_get types k → (IsChoice ty → ⊥) → IsWellFormed own f k ty

abbrev pub AreChoicesWellFormed : (ℕ → Option Tag) → (ℕ → Shape) → List «Type» → Type 0
AreChoicesWellFormed own f types = (k : ℕ) (ty : «Type») → Some ty ≡ slice_get types k → IsChoice ty → IsWellFormed own f k ty

-- ---- defaults

abbrev pub components_in : «Type» → List Component
components_in (Sequence tag ps) = ps.items
components_in (Set name tag ps) = ps.items
components_in _ = []

abbrev pub IsDefaultWithout : (Value → Type 0) → Presence → Type 0
IsDefaultWithout P (Default v) = P v → ⊥
IsDefaultWithout P _ = ⊥

-- The component has a default that isn't a value of its type. Of a type, g tells which values fit.
abbrev pub IsUnfitDefault : (ℕ → Value → Type 0) → Component → Type 0
IsUnfitDefault g p = IsDefaultWithout (g p.type_id.0) p.presence

-- So has component i of the type.
abbrev pub HasUnfitDefault : (ℕ → Value → Type 0) → «Type» → ℕ → Type 0
HasUnfitDefault g ty i = (p : Component) × (Some p ≡ slice_get (components_in ty) i) × IsUnfitDefault g p

-- No default isn't a value of its component's type (X.680 25).
abbrev pub HaveFitDefaults : List «Type» → Type 0
HaveFitDefaults types = (k : ℕ) (ty : «Type») → Some ty ≡ slice_get types k → (i : ℕ) → HasUnfitDefault (Fits types 18446744073709551615) ty i → ⊥

-- The same of the type with number k alone.
abbrev pub IsWellFormedAt : List «Type» → ℕ → Type 0
IsWellFormedAt types k = (ty : «Type») → Some ty ≡ slice_get types k → IsWellFormed (own_at types) (begin_at types) k ty

abbrev pub HasFitDefaultsAt : List «Type» → ℕ → Type 0
HasFitDefaultsAt types k = (ty : «Type») → Some ty ≡ slice_get types k → (i : ℕ) → HasUnfitDefault (Fits types 18446744073709551615) ty i → ⊥

abbrev pub IsSchema : List «Type» → Type 0
IsSchema types = AreWellFormed (own_at types) (begin_at types) types × HaveFitDefaults types

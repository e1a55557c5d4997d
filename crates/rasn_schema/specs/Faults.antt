-- Which rule a type breaks.
use Rattle.std.specs.Prelude.{◌≡◌, ◌⊎◌, ℕ, ◌+◌, ◌<◌, List, [], length, Option, Some, None, slice_get, suc}
use Rattle.rasn_types.specs.declared.types.tag.Tag.{Tag}
use Rattle.rasn_types.specs.Tags.{eoc}
use Rattle.rasn_types.specs.Grammar.{family}
use Rattle.rasn_types.specs.Shapes.{Shape, addition}
use Rattle.rasn_types.specs.Lawful.{IsBitFree, HasTag}
use Rattle.rasn_schema.specs.declared.types.Component.{Component}
use Rattle.rasn_schema.specs.declared.types.Alternative.{Alternative}
use Rattle.rasn_schema.specs.declared.types.NamedNumber.{NamedNumber}
use Rattle.rasn_schema.specs.declared.types.LeafKind.{LeafKind}
use Rattle.rasn_schema.specs.declared.types.«Type».{«Type»}
use Rattle.rasn_schema.specs.declared.types.«Type».TheVariants.{Leaf, Enumerated, Any, Tagged, Choice, Sequence, Set, SequenceOf, SetOf, Unknown}
use Rattle.rasn_schema.specs.declared.error.SchemaError.{SchemaError}
use Rattle.rasn_schema.specs.declared.error.SchemaError.TheVariants.{ReservedTag, ConstructedTag, LateInner, NumbersClash, NoNumbers, NoAlternatives, LateAlternative, UntaggedAlternative, AlternativesClash, ComponentsClash, UntaggedComponent, AdditionInSet, UntaggedInSet, SetClash, UnfitDefault, MisplacedUnknown}
use Rattle.rasn_schema.specs.Shapes.{presence_of, kind_of}
use Rattle.rasn_schema.specs.FirstTags.{IsAlwaysThere}
use Rattle.rasn_schema.specs.Fitting.{Fits}
use Rattle.rasn_schema.specs.Schemas.{IsPrefix, IsUnknown, IsRequired, IsTaggedOrUnknown, AreDistinct, IsTaggedOrOpen, MayFollow, IsRecognizable, IsToldFrom, HasUnfitDefault, own_at, begin_at}

-- The tag is universal 0, or the elements of the list are unknown values.
abbrev pub IsListFault : (ℕ → Shape) → ℕ → Tag → ℕ → SchemaError → Type 0
IsListFault f id tag k (ReservedTag j) = (j.0 ≡ id) × (tag ≡ eoc)
IsListFault f id tag k (MisplacedUnknown j i) = (j.0 ≡ id) × IsUnknown (f k)
IsListFault f id tag k _ = ⊥

-- The same, or the inner type has an explicit tag too, and no lower number.
abbrev pub IsTaggedFault : (ℕ → Shape) → ℕ → Tag → ℕ → SchemaError → Type 0
IsTaggedFault f id tag k (ReservedTag j) = (j.0 ≡ id) × (tag ≡ eoc)
IsTaggedFault f id tag k (LateInner j) = (j.0 ≡ id) × IsPrefix (f k) × (k < id → ⊥)
IsTaggedFault f id tag k (MisplacedUnknown j i) = (j.0 ≡ id) × IsUnknown (f k)
IsTaggedFault f id tag k _ = ⊥

abbrev pub IsLeafFault : ℕ → LeafKind → Tag → SchemaError → Type 0
IsLeafFault id kind tag (ReservedTag k) = (k.0 ≡ id) × (tag ≡ eoc)
IsLeafFault id kind tag (ConstructedTag k) = (k.0 ≡ id) × (IsBitFree (family (kind_of kind)) tag → ⊥)
IsLeafFault id kind tag _ = ⊥

-- Numbers i and j, which is after it, are the same.
abbrev pub IsNumbersFault : ℕ → Tag → List NamedNumber → SchemaError → Type 0
IsNumbersFault id tag ns (ReservedTag k) = (k.0 ≡ id) × (tag ≡ eoc)
IsNumbersFault id tag ns (NoNumbers k) = (k.0 ≡ id) × (ns ≡ [])
IsNumbersFault id tag ns (NumbersClash k i j) = (k.0 ≡ id) × (i < j) × ((m n : NamedNumber) × (Some m ≡ slice_get ns i) × (Some n ≡ slice_get ns j) × (m.number ≡ n.number))
IsNumbersFault id tag ns _ = ⊥

-- Alternatives i and j, which is after it and has a tag, may begin with the same tag; or alternative i breaks another rule.
abbrev pub IsAlternativesFault : (ℕ → Shape) → ℕ → List Alternative → SchemaError → Type 0
IsAlternativesFault f id ks (NoAlternatives k) = (k.0 ≡ id) × (ks ≡ [])
IsAlternativesFault f id ks (LateAlternative k i) = (k.0 ≡ id) × ((a : Alternative) × (Some a ≡ slice_get ks i) × (a.type_id.0 < id → ⊥))
IsAlternativesFault f id ks (UntaggedAlternative k i) = (k.0 ≡ id) × ((a : Alternative) × (Some a ≡ slice_get ks i) × (IsTaggedOrOpen f ks i a → ⊥))
IsAlternativesFault f id ks (AlternativesClash k i j) = (k.0 ≡ id) × (i < j) × ((a b : Alternative) × (Some a ≡ slice_get ks i) × (Some b ≡ slice_get ks j) × HasTag (f b.type_id.0) × (AreDistinct (f a.type_id.0) (f b.type_id.0) → ⊥))
IsAlternativesFault f id ks _ = ⊥

-- Component i is unknown values, and isn't the last or may be absent.
abbrev pub IsMisplaced : (ℕ → Shape) → List Component → ℕ → Type 0
IsMisplaced f ps i = (p : Component) × (Some p ≡ slice_get ps i) × ((IsUnknown (f p.type_id.0) → (suc i ≡ length ps) × IsRequired p.presence) → ⊥)

-- Component i is misplaced unknown values; or it may be absent, and isn't distinguished from component j, which may follow then; or no tag tells that it follows, and it isn't the last.
abbrev pub IsSequenceFault : (ℕ → Option Tag) → (ℕ → Shape) → ℕ → Tag → List Component → SchemaError → Type 0
IsSequenceFault own f id tag ps (ReservedTag k) = (k.0 ≡ id) × (tag ≡ eoc)
IsSequenceFault own f id tag ps (ComponentsClash k i j) = (k.0 ≡ id) × MayFollow ps i j × ((p q : Component) × (Some p ≡ slice_get ps i) × (Some q ≡ slice_get ps j)
    × (IsAlwaysThere (presence_of p.presence) → ⊥) × (IsToldFrom (own p.type_id.0) (f p.type_id.0) (f q.type_id.0) → ⊥))
IsSequenceFault own f id tag ps (UntaggedComponent k i) = (k.0 ≡ id) × (i + 1 < length ps) × ((p : Component) × (Some p ≡ slice_get ps i) × (IsAlwaysThere (presence_of p.presence) → ⊥) × (own p.type_id.0 ≡ None)
    × (IsRecognizable (f p.type_id.0) → ⊥))
IsSequenceFault own f id tag ps (MisplacedUnknown k i) = (k.0 ≡ id) × IsMisplaced f ps i
IsSequenceFault own f id tag ps _ = ⊥

-- Components i and j of a SET, which is after it, may begin with the same tag; or component i breaks another rule.
abbrev pub IsSetFault : (ℕ → Shape) → ℕ → Tag → List Component → SchemaError → Type 0
IsSetFault f id tag ps (ReservedTag k) = (k.0 ≡ id) × (tag ≡ eoc)
IsSetFault f id tag ps (AdditionInSet k i) = (k.0 ≡ id) × ((p : Component) × (Some p ≡ slice_get ps i) × (presence_of p.presence ≡ addition))
IsSetFault f id tag ps (UntaggedInSet k i) = (k.0 ≡ id) × ((p : Component) × (Some p ≡ slice_get ps i) × (IsTaggedOrUnknown (f p.type_id.0) → ⊥))
IsSetFault f id tag ps (SetClash k i j) = (k.0 ≡ id) × (i < j) × ((p q : Component) × (Some p ≡ slice_get ps i) × (Some q ≡ slice_get ps j) × (AreDistinct (f p.type_id.0) (f q.type_id.0) → ⊥))
IsSetFault f id tag ps (MisplacedUnknown k i) = (k.0 ≡ id) × IsMisplaced f ps i
IsSetFault f id tag ps _ = ⊥

-- The error names a rule that the type with number id breaks.
abbrev pub IsFaultOf : (ℕ → Option Tag) → (ℕ → Shape) → ℕ → «Type» → SchemaError → Type 0
IsFaultOf own f id (Leaf kind tag c names) e = IsLeafFault id kind tag e
IsFaultOf own f id (Enumerated tag ns) e = IsNumbersFault id tag ns.items e
IsFaultOf own f id (Any tag) e = ⊥
IsFaultOf own f id (Tagged tag k) e = IsTaggedFault f id tag k.0 e
IsFaultOf own f id (Choice name ks) e = IsAlternativesFault f id ks.items e
IsFaultOf own f id (Sequence tag ps) e = IsSequenceFault own f id tag ps.items e
IsFaultOf own f id (Set name tag ps) e = IsSetFault f id tag ps.items e
IsFaultOf own f id (SequenceOf tag k c) e = IsListFault f id tag k.0 e
IsFaultOf own f id (SetOf tag k c) e = IsListFault f id tag k.0 e
IsFaultOf own f id Unknown e = ⊥

abbrev pub SomeFault : (ℕ → Option Tag) → (ℕ → Shape) → List «Type» → SchemaError → Type 0
SomeFault own f types e = (k : ℕ) × (ty : «Type») × (Some ty ≡ slice_get types k) × IsFaultOf own f k ty e

-- The error names a component whose default isn't a value of its type.
abbrev pub IsDefaultFault : List «Type» → SchemaError → Type 0
IsDefaultFault types (UnfitDefault k i) = (ty : «Type») × (Some ty ≡ slice_get types k.0) × HasUnfitDefault (Fits types 18446744073709551615) ty i
IsDefaultFault types _ = ⊥

-- The error names a rule that one of the types breaks.
abbrev pub IsFault : List «Type» → SchemaError → Type 0
IsFault types e = SomeFault (own_at types) (begin_at types) types e ⊎ IsDefaultFault types e

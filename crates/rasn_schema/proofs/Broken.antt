-- A type that has a fault breaks a rule.
use Rattle.std.proofs.Common.{◌≡◌, ◌≢◌, ℕ, zero, suc, ◌+◌, ◌<◌, List, [], ◌∷◌, length, Option, Some, None, inl, inr, refl, subst, arith}
use Rattle.std.specs.Prelude.{slice_get}
use Rattle.rasn_types.specs.declared.types.tag.Tag.{Tag}
use Rattle.rasn_types.specs.Tags.{eoc}
use Rattle.rasn_types.specs.Grammar.{family}
use Rattle.rasn_types.specs.Shapes.{Shape}
use Rattle.rasn_types.specs.Lawful.{IsBitFree}
use Rattle.rasn_schema.specs.declared.types.Component.{Component}
use Rattle.rasn_schema.specs.declared.types.Alternative.{Alternative}
use Rattle.rasn_schema.specs.declared.types.NamedNumber.{NamedNumber}
use Rattle.rasn_schema.specs.declared.types.LeafKind.{LeafKind}
use Rattle.rasn_schema.specs.declared.types.«Type».{«Type»}
use Rattle.rasn_schema.specs.declared.types.«Type».TheVariants.{Leaf, Enumerated, Any, Tagged, Choice, Sequence, Set, SequenceOf, SetOf, Unknown}
use Rattle.rasn_schema.specs.declared.error.SchemaError.{SchemaError}
use Rattle.rasn_schema.specs.declared.error.SchemaError.TheVariants.{ReservedTag, ConstructedTag, LateInner, NumbersClash, NoNumbers, NoAlternatives, LateAlternative, UntaggedAlternative, AlternativesClash, ComponentsClash, UntaggedComponent, AdditionInSet, UntaggedInSet, SetClash, UnfitDefault, MisplacedUnknown}
use Rattle.rasn_schema.specs.Shapes.{kind_of, presence_of, shape_of_type}
use Rattle.rasn_schema.specs.Schemas.{IsPrefix, IsUnknown, EndsUnknown, AreLowerAndTagged, AreDistinctAlternatives, AreDistinctNumbers, AreToldInOrder, IsRecognizable, IsToldFrom, AreTagged, AreDistinctComponents, IsWellFormed, AreWellFormed, AreChoicesWellFormed, AreOthersWellFormed, HaveFitDefaults, IsSchema, own_at, begin_at}
use Rattle.rasn_schema.specs.FirstTags.{IsAlwaysThere}
use Rattle.rasn_schema.specs.Faults.{IsListFault, IsTaggedFault, IsLeafFault, IsNumbersFault, IsAlternativesFault, IsSequenceFault, IsSetFault, IsFaultOf, SomeFault, IsDefaultFault, IsFault}

-- the element at an index that is within the list
slice_get_in : {X : Type 0} (l : List X) (i : ℕ) → i < length l → (x : X) × (Some x ≡ slice_get l i)
slice_get_in [] i h = absurd (omega (arith, h))
slice_get_in (x ∷ l) zero h = (x, refl)
slice_get_in (x ∷ l) (suc i) h = slice_get_in l i (omega (arith, h))

list_broken : (f : ℕ → Shape) (id : ℕ) (tag : Tag) (j : ℕ) (e : SchemaError) → IsListFault f id tag j e → (tag ≢ eoc) × (IsUnknown (f j) → ⊥) → ⊥
list_broken f id tag m (ReservedTag k) h w = w.0 h.1
list_broken f id tag m (ConstructedTag k) h w = h
list_broken f id tag m (LateInner k) h w = h
list_broken f id tag m (NumbersClash k i j) h w = h
list_broken f id tag m (NoNumbers k) h w = h
list_broken f id tag m (NoAlternatives k) h w = h
list_broken f id tag m (LateAlternative k i) h w = h
list_broken f id tag m (UntaggedAlternative k i) h w = h
list_broken f id tag m (AlternativesClash k i j) h w = h
list_broken f id tag m (ComponentsClash k i j) h w = h
list_broken f id tag m (UntaggedComponent k i) h w = h
list_broken f id tag m (AdditionInSet k i) h w = h
list_broken f id tag m (UntaggedInSet k i) h w = h
list_broken f id tag m (SetClash k i j) h w = h
list_broken f id tag m (UnfitDefault k i) h w = h
list_broken f id tag m (MisplacedUnknown k i) h w = w.1 h.1

tagged_broken : (f : ℕ → Shape) (id : ℕ) (tag : Tag) (j : ℕ) (e : SchemaError) → IsTaggedFault f id tag j e → (tag ≢ eoc) × (IsPrefix (f j) → j < id) × (IsUnknown (f j) → ⊥) → ⊥
tagged_broken f id tag m (ReservedTag k) h w = w.0 h.1
tagged_broken f id tag m (ConstructedTag k) h w = h
tagged_broken f id tag m (LateInner k) h w = h.2 (w.1 h.1)
tagged_broken f id tag m (NumbersClash k i j) h w = h
tagged_broken f id tag m (NoNumbers k) h w = h
tagged_broken f id tag m (NoAlternatives k) h w = h
tagged_broken f id tag m (LateAlternative k i) h w = h
tagged_broken f id tag m (UntaggedAlternative k i) h w = h
tagged_broken f id tag m (AlternativesClash k i j) h w = h
tagged_broken f id tag m (ComponentsClash k i j) h w = h
tagged_broken f id tag m (UntaggedComponent k i) h w = h
tagged_broken f id tag m (AdditionInSet k i) h w = h
tagged_broken f id tag m (UntaggedInSet k i) h w = h
tagged_broken f id tag m (SetClash k i j) h w = h
tagged_broken f id tag m (UnfitDefault k i) h w = h
tagged_broken f id tag m (MisplacedUnknown k i) h w = w.2 h.1

leaf_broken : (id : ℕ) (kind : LeafKind) (tag : Tag) (e : SchemaError) → IsLeafFault id kind tag e → (tag ≢ eoc) × IsBitFree (family (kind_of kind)) tag → ⊥
leaf_broken id kind tag (ReservedTag k) h w = w.0 h.1
leaf_broken id kind tag (ConstructedTag k) h w = h.1 w.1
leaf_broken id kind tag (LateInner k) h w = h
leaf_broken id kind tag (NumbersClash k i j) h w = h
leaf_broken id kind tag (NoNumbers k) h w = h
leaf_broken id kind tag (NoAlternatives k) h w = h
leaf_broken id kind tag (LateAlternative k i) h w = h
leaf_broken id kind tag (UntaggedAlternative k i) h w = h
leaf_broken id kind tag (AlternativesClash k i j) h w = h
leaf_broken id kind tag (ComponentsClash k i j) h w = h
leaf_broken id kind tag (UntaggedComponent k i) h w = h
leaf_broken id kind tag (AdditionInSet k i) h w = h
leaf_broken id kind tag (UntaggedInSet k i) h w = h
leaf_broken id kind tag (SetClash k i j) h w = h
leaf_broken id kind tag (UnfitDefault k i) h w = h
leaf_broken id kind tag (MisplacedUnknown k i) h w = h

numbers_broken : (id : ℕ) (tag : Tag) (ns : List NamedNumber) (e : SchemaError) → IsNumbersFault id tag ns e → (tag ≢ eoc) × (ns ≢ []) × AreDistinctNumbers ns → ⊥
numbers_broken id tag ns (ReservedTag k) h w = w.0 h.1
numbers_broken id tag ns (ConstructedTag k) h w = h
numbers_broken id tag ns (LateInner k) h w = h
numbers_broken id tag ns (NumbersClash k i j) (g, l, (m, n, d, e, s)) w = w.2 i j m n l d e s
numbers_broken id tag ns (NoNumbers k) h w = w.1 h.1
numbers_broken id tag ns (NoAlternatives k) h w = h
numbers_broken id tag ns (LateAlternative k i) h w = h
numbers_broken id tag ns (UntaggedAlternative k i) h w = h
numbers_broken id tag ns (AlternativesClash k i j) h w = h
numbers_broken id tag ns (ComponentsClash k i j) h w = h
numbers_broken id tag ns (UntaggedComponent k i) h w = h
numbers_broken id tag ns (AdditionInSet k i) h w = h
numbers_broken id tag ns (UntaggedInSet k i) h w = h
numbers_broken id tag ns (SetClash k i j) h w = h
numbers_broken id tag ns (UnfitDefault k i) h w = h
numbers_broken id tag ns (MisplacedUnknown k i) h w = h

choice_broken : (f : ℕ → Shape) (id : ℕ) (ks : List Alternative) (e : SchemaError) → IsAlternativesFault f id ks e → (ks ≢ []) × AreLowerAndTagged f id ks × AreDistinctAlternatives f ks → ⊥
choice_broken f id ks (ReservedTag k) h w = h
choice_broken f id ks (ConstructedTag k) h w = h
choice_broken f id ks (LateInner k) h w = h
choice_broken f id ks (NumbersClash k i j) h w = h
choice_broken f id ks (NoNumbers k) h w = h
choice_broken f id ks (NoAlternatives k) h w = w.0 h.1
choice_broken f id ks (LateAlternative k i) (g, (a, e, n)) w = n (w.1 i a e).0
choice_broken f id ks (UntaggedAlternative k i) (g, (a, e, n)) w = n (w.1 i a e).1
choice_broken f id ks (AlternativesClash k i j) (g, l, (a, b, d, e, t, n)) w = n (w.2 i j a b l d e t)
choice_broken f id ks (ComponentsClash k i j) h w = h
choice_broken f id ks (UntaggedComponent k i) h w = h
choice_broken f id ks (AdditionInSet k i) h w = h
choice_broken f id ks (UntaggedInSet k i) h w = h
choice_broken f id ks (SetClash k i j) h w = h
choice_broken f id ks (UnfitDefault k i) h w = h
choice_broken f id ks (MisplacedUnknown k i) h w = h

next : (own : ℕ → Option Tag) (f : ℕ → Shape) (ps : List Component) (i : ℕ) (p : Component) → i + 1 < length ps → Some p ≡ slice_get ps i → (IsAlwaysThere (presence_of p.presence) → ⊥) → own p.type_id.0 ≡ None
    → (IsRecognizable (f p.type_id.0) → ⊥) → AreToldInOrder own f ps → ⊥
next own f ps i p l d a n r w = let q = slice_get_in ps (i + 1) l in
    r (subst (λ o. IsToldFrom o (f p.type_id.0) (f q.0.type_id.0)) n (w i (i + 1) p q.0 d q.1 a (omega arith, λ m r u v. absurd (omega (arith, u, v))))).0

sequence_broken : (own : ℕ → Option Tag) (f : ℕ → Shape) (id : ℕ) (tag : Tag) (ps : List Component) (e : SchemaError) → IsSequenceFault own f id tag ps e → (tag ≢ eoc) × AreToldInOrder own f ps × EndsUnknown f ps → ⊥
sequence_broken own f id tag ps (ReservedTag k) h w = w.0 h.1
sequence_broken own f id tag ps (ConstructedTag k) h w = h
sequence_broken own f id tag ps (LateInner k) h w = h
sequence_broken own f id tag ps (NumbersClash k i j) h w = h
sequence_broken own f id tag ps (NoNumbers k) h w = h
sequence_broken own f id tag ps (NoAlternatives k) h w = h
sequence_broken own f id tag ps (LateAlternative k i) h w = h
sequence_broken own f id tag ps (UntaggedAlternative k i) h w = h
sequence_broken own f id tag ps (AlternativesClash k i j) h w = h
sequence_broken own f id tag ps (ComponentsClash k i j) (g, m, (p, q, d, e, a, n)) w = n (w.1 i j p q d e a m)
sequence_broken own f id tag ps (UntaggedComponent k i) (g, l, (p, d, a, n, r)) w = next own f ps i p l d a n r w.1
sequence_broken own f id tag ps (AdditionInSet k i) h w = h
sequence_broken own f id tag ps (UntaggedInSet k i) h w = h
sequence_broken own f id tag ps (SetClash k i j) h w = h
sequence_broken own f id tag ps (UnfitDefault k i) h w = h
sequence_broken own f id tag ps (MisplacedUnknown k i) (g, (p, d, n)) w = n (w.2 i p d)

set_broken : (f : ℕ → Shape) (id : ℕ) (tag : Tag) (ps : List Component) (e : SchemaError) → IsSetFault f id tag ps e → (tag ≢ eoc) × AreTagged f ps × EndsUnknown f ps × AreDistinctComponents f ps → ⊥
set_broken f id tag ps (ReservedTag k) h w = w.0 h.1
set_broken f id tag ps (ConstructedTag k) h w = h
set_broken f id tag ps (LateInner k) h w = h
set_broken f id tag ps (NumbersClash k i j) h w = h
set_broken f id tag ps (NoNumbers k) h w = h
set_broken f id tag ps (NoAlternatives k) h w = h
set_broken f id tag ps (LateAlternative k i) h w = h
set_broken f id tag ps (UntaggedAlternative k i) h w = h
set_broken f id tag ps (AlternativesClash k i j) h w = h
set_broken f id tag ps (ComponentsClash k i j) h w = h
set_broken f id tag ps (UntaggedComponent k i) h w = h
set_broken f id tag ps (AdditionInSet k i) (g, (p, e, n)) w = (w.1 i p e).0 n
set_broken f id tag ps (UntaggedInSet k i) (g, (p, e, n)) w = n (w.1 i p e).1
set_broken f id tag ps (SetClash k i j) (g, l, (p, q, d, e, n)) w = n (w.3 i j p q l d e)
set_broken f id tag ps (UnfitDefault k i) h w = h
set_broken f id tag ps (MisplacedUnknown k i) (g, (p, d, n)) w = n (w.2 i p d)

type_broken : (own : ℕ → Option Tag) (f : ℕ → Shape) (id : ℕ) (ty : «Type») (e : SchemaError) → IsFaultOf own f id ty e → IsWellFormed own f id ty → ⊥
type_broken own f id (Leaf kind tag c names) e h w = leaf_broken id kind tag e h w
type_broken own f id (Enumerated tag ns) e h w = numbers_broken id tag ns.items e h w
type_broken own f id (Any tag) e h w = h
type_broken own f id (Tagged tag k) e h w = tagged_broken f id tag k.0 e h w
type_broken own f id (Choice name ks) e h w = choice_broken f id ks.items e h w
type_broken own f id (Sequence tag ps) e h w = sequence_broken own f id tag ps.items e h w
type_broken own f id (Set name tag ps) e h w = set_broken f id tag ps.items e h w
type_broken own f id (SequenceOf tag k c) e h w = list_broken f id tag k.0 e h w
type_broken own f id (SetOf tag k c) e h w = list_broken f id tag k.0 e h w
type_broken own f id Unknown e h w = h

default_broken : (types : List «Type») (e : SchemaError) → IsDefaultFault types e → HaveFitDefaults types → ⊥
default_broken types (ReservedTag k) h w = h
default_broken types (ConstructedTag k) h w = h
default_broken types (LateInner k) h w = h
default_broken types (NumbersClash k i j) h w = h
default_broken types (NoNumbers k) h w = h
default_broken types (NoAlternatives k) h w = h
default_broken types (LateAlternative k i) h w = h
default_broken types (UntaggedAlternative k i) h w = h
default_broken types (AlternativesClash k i j) h w = h
default_broken types (ComponentsClash k i j) h w = h
default_broken types (UntaggedComponent k i) h w = h
default_broken types (AdditionInSet k i) h w = h
default_broken types (UntaggedInSet k i) h w = h
default_broken types (SetClash k i j) h w = h
default_broken types (UnfitDefault k i) (ty, e, h) w = w k.0 ty e i h
default_broken types (MisplacedUnknown k i) h w = h

-- Types that have a fault aren't a schema.
pub no_schema : (types : List «Type») (e : SchemaError) → IsFault types e → IsSchema types → ⊥
no_schema types e (inl (k, ty, g, h)) w = type_broken (own_at types) (begin_at types) k ty e h (w.0 k ty g)
no_schema types e (inr h) w = default_broken types e h w.1

module _ (types : List «Type») (levels : ℕ) (n : levels ≡ suc (length types)) where
  pub fault_by : (e : SchemaError) → SomeFault (own_at types) (shape_of_type types levels) types e → IsFault types e
  fault_by e h = inl (subst (λ m. SomeFault (own_at types) (shape_of_type types m) types e) n h)

  pub well_formed_by : AreWellFormed (own_at types) (shape_of_type types levels) types → AreWellFormed (own_at types) (begin_at types) types
  well_formed_by h = subst (λ m. AreWellFormed (own_at types) (shape_of_type types m) types) n h

-- the same of a slice that has the types
module _ (types ts : List «Type») (levels : ℕ) (s : ts ≡ types) (n : levels ≡ suc (length types)) where
  pub fault_of : (e : SchemaError) → SomeFault (own_at ts) (shape_of_type ts levels) ts e → IsFault types e
  fault_of e h = fault_by types levels n e (subst (λ l. SomeFault (own_at l) (shape_of_type l levels) l e) s h)

pub default_fault_of : (types ts : List «Type») → ts ≡ types → (e : SchemaError) → IsDefaultFault ts e → IsFault types e
default_fault_of types ts s e h = inr (subst (λ l. IsDefaultFault l e) s h)

module _ (own : ℕ → Option Tag) (f : ℕ → Shape) (types : List «Type») where
  -- Types keep the rules if CHOICEs and the others do.
  pub both_well_formed : AreChoicesWellFormed own f types → AreOthersWellFormed own f types → AreWellFormed own f types
  both_well_formed c o k ty e = go ty e
    where
      go : (ty : «Type») → Some ty ≡ slice_get types k → IsWellFormed own f k ty
      go (Leaf kind tag b names) e = o k (Leaf kind tag b names) e (λ h. h)
      go (Enumerated tag ns) e = o k (Enumerated tag ns) e (λ h. h)
      go (Any tag) e = o k (Any tag) e (λ h. h)
      go (Tagged tag j) e = o k (Tagged tag j) e (λ h. h)
      go (Choice name ks) e = c k (Choice name ks) e tt
      go (Sequence tag ps) e = o k (Sequence tag ps) e (λ h. h)
      go (Set name tag ps) e = o k (Set name tag ps) e (λ h. h)
      go (SequenceOf tag j b) e = o k (SequenceOf tag j b) e (λ h. h)
      go (SetOf tag j b) e = o k (SetOf tag j b) e (λ h. h)
      go Unknown e = o k Unknown e (λ h. h)

module _ (types ts us vs : List «Type») (levels : ℕ) (s : ts ≡ types) (u : us ≡ types) (v : vs ≡ types) (n : levels ≡ suc (length types)) where
  -- the same of slices that have the types
  pub schema_from : AreChoicesWellFormed (own_at ts) (shape_of_type ts levels) ts → AreOthersWellFormed (own_at us) (shape_of_type us levels) us → HaveFitDefaults vs → IsSchema types
  schema_from c o d = (
    well_formed_by types levels n (both_well_formed (own_at types) (shape_of_type types levels) types
        (subst (λ l. AreChoicesWellFormed (own_at l) (shape_of_type l levels) l) s c) (subst (λ l. AreOthersWellFormed (own_at l) (shape_of_type l levels) l) u o)),
    subst HaveFitDefaults v d,
  )

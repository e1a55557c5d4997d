-- The values that a value holds, and their names.
use Rattle.std.specs.Prelude.{◌≡◌, ◌≢◌, ◌<◌, ℕ, zero, suc, List, [], Bool, true, false, Option, Some, None, option_map, slice_get}
use Rattle.std.specs.String.{string_bytes}
use Rattle.rasn_types.specs.declared.types.tag.Tag.{Tag}
use Rattle.rasn_schema.specs.declared.type_id.TypeId.{TypeId}
use Rattle.rasn_schema.specs.declared.types.Component.{Component}
use Rattle.rasn_schema.specs.declared.types.Alternative.{Alternative}
use Rattle.rasn_schema.specs.declared.types.«Type».{«Type»}
use Rattle.rasn_schema.specs.declared.types.«Type».TheVariants.{Tagged, Choice, Sequence, Set, SequenceOf, SetOf, Unknown}
use Rattle.rasn_schema.specs.declared.value.Value.{Value, Items', Elements', items-the_row-Value}
use Rattle.rasn_schema.specs.Fitting.{IsChosen}
use Rattle.rasn_schema.specs.Schemas.{components_in}

-- ---- the type inside explicit tags

abbrev pub IsTagged : «Type» → Type 0
IsTagged (Tagged tag inner) = Unit {0}
IsTagged _ = ⊥

-- So many explicit tags lead from the type with number k to this one, which has none.
unfoldable pub IsInside : List «Type» → ℕ → ℕ → «Type» → Type 0
IsInside types zero k ty = (Some ty ≡ slice_get types k) × (IsTagged ty → ⊥)
IsInside types (suc tags) k ty = (tag : Tag) × (inner : TypeId) × (Some (Tagged tag inner) ≡ slice_get types k) × IsInside types tags inner.0 ty

-- The type with number k is this one, without its explicit tags.
abbrev pub IsUntagged : List «Type» → ℕ → «Type» → Type 0
IsUntagged types k ty = (tags : ℕ) × IsInside types tags k ty

-- ---- unknown values

abbrev pub is_unknown : «Type» → Bool
is_unknown Unknown = true
is_unknown _ = false

abbrev pub is_unknown_found : Option «Type» → Bool
is_unknown_found None = false
is_unknown_found (Some ty) = is_unknown ty

-- ---- parts by index

-- The values of a list or a set.
abbrev pub held_in : Value → List Value
held_in (Items' _ row) = items-the_row-Value _ row
held_in (Elements' _ row) = items-the_row-Value _ row
held_in _ = []

-- The number of the type of part i of a value of this type: of a component, an alternative or an element. Of what an explicit tag holds, the index doesn't count.
abbrev pub part_type : «Type» → ℕ → Option TypeId
part_type (Tagged tag inner) i = Some inner
part_type (Choice name ks) i = option_map (λ (a : Alternative). a.type_id) (slice_get ks.items i)
part_type (Sequence tag ps) i = option_map (λ (c : Component). c.type_id) (slice_get ps.items i)
part_type (Set name tag ps) i = option_map (λ (c : Component). c.type_id) (slice_get ps.items i)
part_type (SequenceOf tag element c) i = Some element
part_type (SetOf tag element c) i = Some element
part_type _ i = None

-- The name of component or alternative i.
abbrev pub part_name : «Type» → ℕ → Option (List ℕ)
part_name (Choice name ks) i = option_map (λ (a : Alternative). string_bytes a.name) (slice_get ks.items i)
part_name ty i = option_map (λ (c : Component). string_bytes c.name) (slice_get (components_in ty) i)

-- The value is component or element i of a value of type k.
abbrev pub IsPartAt : List «Type» → ℕ → Value → ℕ → TypeId → Value → Type 0
IsPartAt types k v i id part = ((ty : «Type») × IsUntagged types k ty × (Some id ≡ part_type ty i)) × (Some part ≡ slice_get (held_in v) i)

-- ---- parts by name

-- Component i is the first with this name, and its type has this number.
abbrev pub IsComponentNamed : List Component → List ℕ → ℕ → TypeId → Type 0
IsComponentNamed ps name i id = ((c : Component) × (Some c ≡ slice_get ps i) × (string_bytes c.name ≡ name) × (c.type_id ≡ id))
    × ((j : ℕ) (c : Component) → j < i → Some c ≡ slice_get ps j → string_bytes c.name ≢ name)

abbrev pub IsComponentValue : List Component → List ℕ → Value → TypeId → Value → Type 0
IsComponentValue ps name v id part = (i : ℕ) × IsComponentNamed ps name i id × (Some part ≡ slice_get (held_in v) i)

-- Alternative i has this name, and its type this number.
abbrev pub IsAlternativeNamed : List Alternative → List ℕ → ℕ → TypeId → Type 0
IsAlternativeNamed ks name i id = (a : Alternative) × (Some a ≡ slice_get ks i) × (string_bytes a.name ≡ name) × (a.type_id ≡ id)

abbrev pub IsChosenValue : List Alternative → List ℕ → Value → TypeId → Value → Type 0
IsChosenValue ks name v id part = IsChosen (λ i w. IsAlternativeNamed ks name i id × (w ≡ part)) v

-- The part with this name of a value of this type: a component, or the alternative that is chosen.
abbrev pub IsPartNamed : «Type» → List ℕ → Value → TypeId → Value → Type 0
IsPartNamed (Sequence tag ps) name v id part = IsComponentValue ps.items name v id part
IsPartNamed (Set n tag ps) name v id part = IsComponentValue ps.items name v id part
IsPartNamed (Choice n ks) name v id part = IsChosenValue ks.items name v id part
IsPartNamed _ name v id part = ⊥

-- The value is the part with this name of a value of type k.
abbrev pub IsNamedPartOf : List «Type» → ℕ → Value → List ℕ → TypeId → Value → Type 0
IsNamedPartOf types k v name id part = (ty : «Type») × IsUntagged types k ty × IsPartNamed ty name v id part

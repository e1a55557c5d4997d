-- Names that are those of one part.
use Rattle.std.specs.Prelude.{◌≡◌, ℕ, List, Some, slice_get}
use Rattle.std.specs.String.{string_bytes}
use Rattle.rasn_schema.specs.declared.types.Alternative.{Alternative}
use Rattle.rasn_schema.specs.declared.types.Component.{Component}
use Rattle.rasn_schema.specs.declared.types.NamedNumber.{NamedNumber}
use Rattle.rasn_schema.specs.declared.types.«Type».{«Type»}
use Rattle.rasn_schema.specs.declared.types.«Type».TheVariants.{Leaf, Enumerated, Choice, Sequence, Set}

-- No two elements of the list have the same name.
abbrev pub HaveOwnNames : {X : Type 0} → (X → List ℕ) → List X → Type 0
HaveOwnNames {X = X} name l = (i k : ℕ) (x y : X) → Some x ≡ slice_get l i → Some y ≡ slice_get l k → name x ≡ name y → i ≡ k

abbrev pub name_of_number : NamedNumber → List ℕ
name_of_number m = string_bytes m.name

abbrev pub name_of_alternative : Alternative → List ℕ
name_of_alternative a = string_bytes a.name

abbrev pub name_of_component : Component → List ℕ
name_of_component p = string_bytes p.name

-- No two numbers, alternatives or components of the type have the same name (X.680 19, 20, 25, 27, 29).
abbrev pub HasDistinctNames : «Type» → Type 0
HasDistinctNames (Leaf kind tag c names) = HaveOwnNames name_of_number names.items
HasDistinctNames (Enumerated tag ns) = HaveOwnNames name_of_number ns.items
HasDistinctNames (Choice name ks) = HaveOwnNames name_of_alternative ks.items
HasDistinctNames (Sequence tag ps) = HaveOwnNames name_of_component ps.items
HasDistinctNames (Set name tag ps) = HaveOwnNames name_of_component ps.items
HasDistinctNames _ = Unit {0}

abbrev pub HaveDistinctNames : List «Type» → Type 0
HaveDistinctNames types = (k : ℕ) (ty : «Type») → Some ty ≡ slice_get types k → HasDistinctNames ty

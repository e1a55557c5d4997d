-- Names and refusals that were worked out by hand, and what isn't one.
use Rattle.std.specs.Prelude.{◌≡◌, ℕ, Vec, List, [], ◌∷◌, true, Some, None, codes}
use Rattle.std.specs.Global.{Global}
use Rattle.std.specs.String.{string_bytes}
use Rattle.rasn_types.specs.Tags.{eoc}
use Rattle.rasn_types.specs.Shapes.{constraint_of}
use Rattle.rasn_types.specs.declared.types.constraints.Constraints.{Constraints}
use Rattle.rasn_schema.specs.declared.type_id.TypeId.{TypeId}
use Rattle.rasn_schema.specs.declared.types.LeafKind.TheVariants.{BitString, NamedBits}
use Rattle.rasn_schema.specs.declared.types.Alternative.{Alternative}
use Rattle.rasn_schema.specs.declared.types.Component.{Component}
use Rattle.rasn_schema.specs.declared.types.NamedNumber.{NamedNumber}
use Rattle.rasn_schema.specs.declared.types.«Type».{«Type»}
use Rattle.rasn_schema.specs.declared.types.«Type».TheVariants.{Any, Enumerated}
use Rattle.rasn_schema.specs.declared.value.Value.{Value, Null, Octets}
use Rattle.rasn_json.specs.declared.error.JsonError.{JsonError}
use Rattle.rasn_json.specs.declared.error.JsonErrorKind.{JsonErrorKind}
use Rattle.rasn_json.specs.declared.error.JsonErrorKind.TheVariants.{NoType, TooDeep, Unfit, WrongSize}
use Rattle.rasn_json.specs.Names.{HaveDistinctNames, HaveOwnNames, name_of_alternative}
use Rattle.rasn_json.specs.Reading.{AreNames, IsComponentName, IsNameOfBits}
use Rattle.rasn_json.specs.Refusals.{AreRefusedBits, AreRefusedElements, HasOpen, IsMemory, IsOfElement, IsOfItself, IsOfMember, IsRefusedAt, IsRefusedOpen}

pub record WorkedNames : Type 0 where
  pub two_names : AreNames IsNameOfBits (codes "length" ∷ (codes "value" ∷ []))
  pub no_name_twice : AreNames IsNameOfBits (codes "value" ∷ (codes "value" ∷ [])) → ⊥
  pub no_other_name : AreNames IsNameOfBits (codes "bits" ∷ []) → ⊥
  pub name_of_the_second : (p q : Component) → IsComponentName (p ∷ (q ∷ [])) (string_bytes q.name)
  pub no_name_of_none : (s : List ℕ) → IsComponentName [] s → ⊥
  pub one_alternative : (a : Alternative) → HaveOwnNames name_of_alternative (a ∷ [])
  pub no_types : HaveDistinctNames []
  pub type_without_names : HaveDistinctNames (Any eoc ∷ [])
  pub not_two_of_a_name : (m n : NamedNumber) (ns : Vec NamedNumber Global) → ns.items ≡ m ∷ (n ∷ [])
      → string_bytes m.name ≡ string_bytes n.name → HaveDistinctNames (Enumerated eoc ns ∷ []) → ⊥

pub record WorkedRefusals : Type 0 where
  pub too_few_bits : (c : Constraints) (e : JsonError) → IsOfItself (WrongSize 1 (constraint_of c.size)) e
      → AreRefusedBits 0 BitString c (Some 8) (true ∷ []) e
  pub filled_bits : (c : Constraints) (e : JsonError) → AreRefusedBits 0 NamedBits c (Some 8) (true ∷ []) e → ⊥
  pub no_object_inside : (c : Constraints) (e : JsonError) → IsOfItself TooDeep e
      → AreRefusedBits 0 BitString c None [] e
  pub an_object_inside : (c : Constraints) (e : JsonError) → AreRefusedBits 1 BitString c None [] e → ⊥
  pub null_is_not_open : (e : JsonError) → IsOfItself Unfit e → IsRefusedAt (Any eoc ∷ []) 1 0 0 Null e
  pub open_value : (o : _) (e : JsonError) → HasOpen (Octets o) → IsRefusedAt (Any eoc ∷ []) 1 0 0 (Octets o) e → ⊥
  pub missing_type : (v : Value) (id : TypeId) (e : JsonError) → id.0 ≡ 7 → IsOfItself (NoType id) e
      → IsRefusedAt [] 1 0 7 v e
  pub no_memory : (types : List «Type») (k : ℕ) (v : Value) (e : JsonError) → IsMemory e → IsRefusedAt types 0 0 k v e
      → ⊥
  pub second_element : (o : _) (e : JsonError) → HasOpen (Octets o) → IsOfElement 1 (IsOfItself Unfit) e
      → AreRefusedElements HasOpen IsRefusedOpen 0 (Octets o ∷ (Null ∷ [])) e
  pub not_the_first : (o : _) (e : JsonError) → HasOpen (Octets o)
      → AreRefusedElements HasOpen IsRefusedOpen 0 (Octets o ∷ []) e → ⊥
  pub not_past_the_first : (e : JsonError) → IsOfElement 1 (IsOfItself Unfit) e
      → AreRefusedElements HasOpen IsRefusedOpen 0 (Null ∷ (Null ∷ [])) e → ⊥
  pub no_part_of_itself : (kind : JsonErrorKind) (name : List ℕ) (e : JsonError) → IsOfItself kind e
      → IsOfMember name (IsOfItself kind) e → ⊥

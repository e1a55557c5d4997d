-- The octets of a schema, and what is wrong with octets, worked out by hand.
use Rattle.std.specs.Prelude.{◌≡◌, ℕ, List, [], ◌∷◌, None}
use Rattle.rasn_types.specs.Shapes.{Tree, absent}
use Rattle.rasn_schema.specs.declared.schema.Schema.{Schema}
use Rattle.rasn_schema.specs.declared.type_id.TypeId.{TypeId}
use Rattle.rasn_schema.specs.declared.types.«Type».TheVariants.{Any, Unknown}
use Rattle.rasn_schema_octets.specs.declared.fault.ReadFault.TheVariants.{Version, NoRoot}
use Rattle.rasn_schema_octets.specs.Shapes.{context}
use Rattle.rasn_schema_octets.specs.Trees.{type_tree}
use Rattle.rasn_schema_octets.specs.Octets.{IsSchemaOctets, IsWrong, form_of, HasNoSchema}

abbrev pub first : TypeId
first = record { 0 = 0 }

-- Version 1, the type with the number 0, nothing that isn't checked, no names, and one type: an open type with the tag [0].
abbrev pub one_open_type : List ℕ
one_open_type = 48 ∷ 16 ∷ 2 ∷ 1 ∷ 1 ∷ 2 ∷ 1 ∷ 0 ∷ 2 ∷ 1 ∷ 0 ∷ 48 ∷ 5 ∷ 162 ∷ 3 ∷ 130 ∷ 1 ∷ 0 ∷ []

pub record Worked : Type 0 where
  pub written : (s : Schema) → s.types.items ≡ Any (context 0) ∷ [] → s.names ≡ None → IsSchemaOctets s first 0 one_open_type
  pub not_nothing : (s : Schema) (root : TypeId) (unchecked : ℕ) → IsSchemaOctets s root unchecked [] → ⊥
  pub is_of_a_schema : (s : Schema) → s.types.items ≡ Any (context 0) ∷ [] → s.names ≡ None → HasNoSchema one_open_type → ⊥
  pub second_version : IsWrong (form_of 2 0 0 absent []) (Version 2)
  pub not_first_version : (t : Tree) → IsWrong t (Version 1) → ⊥
  pub second_of_one : IsWrong (form_of 1 1 0 absent (type_tree Unknown ∷ [])) (NoRoot (record { 0 = 1 }) 1)
  pub not_first_of_one : (t : Tree) → IsWrong t (NoRoot first 1) → ⊥

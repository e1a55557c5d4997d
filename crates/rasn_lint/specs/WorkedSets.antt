-- Facts about an unknown component of a SET (X.680 27) that were worked out by hand: a NULL beside a BOOLEAN.
use Rattle.std.specs.Prelude.{◌≡◌, ℕ, List, [], ◌∷◌, Option, Some, None, String, Vec}
use Rattle.std.specs.Global.{Global}
use Rattle.rasn_types.specs.declared.error.decode.DecodeError.{DecodeError}
use Rattle.rasn_types.specs.declared.error.decode.DerDecodeErrorKind.TheVariants.{SetComponentsOutOfOrder}
use Rattle.rasn_types.specs.Tags.{in_universal}
use Rattle.rasn_types.specs.Trees.{unconstrained}
use Rattle.rasn_schema.specs.declared.types.NamedNumber.{NamedNumber}
use Rattle.rasn_schema.specs.declared.types.LeafKind.TheVariants.{Boolean}
use Rattle.rasn_schema.specs.declared.types.Component.{Component}
use Rattle.rasn_schema.specs.declared.types.Presence.TheVariants.{Required}
use Rattle.rasn_schema.specs.declared.types.«Type».{«Type»}
use Rattle.rasn_schema.specs.declared.types.«Type».TheVariants.{Leaf, Set, Unknown}
use Rattle.rasn_dynamic.specs.declared.span.Span.{Span}
use Rattle.rasn_dynamic.specs.SameParts.{AreReadableTypes}
use Rattle.rasn_lint.specs.declared.by_schema.OpenTypes.{OpenTypes}
use Rattle.rasn_lint.specs.declared.by_schema.OpenTypes.TheVariants.{Unexamined, Examined}
use Rattle.rasn_lint.specs.declared.departure.Departure.{Departure}
use Rattle.rasn_lint.specs.declared.judge.Faults.{Faults}
use Rattle.rasn_lint.specs.Judged.{AreFaultsOf}
use Rattle.rasn_lint.specs.Lint.{IsLint}
use Rattle.rasn_lint.specs.Place.{der_error}
use Rattle.rasn_lint.specs.Trail.{trail_after}

-- SET { BOOLEAN, ... } and the types of its components, of which the last is unknown values.
abbrev pub set_types : String Global → Vec Component Global → Vec NamedNumber Global → List «Type»
set_types name components names =
    Set name (in_universal 17) components ∷ Leaf Boolean (in_universal 1) unconstrained names ∷ Unknown ∷ []

-- The types are these.
pub record AreOfSet (types : List «Type») : Type 0 where
  pub name : String Global
  pub components : Vec Component Global
  pub names : Vec NamedNumber Global
  pub are : types ≡ set_types name components names
  pub boolean : Component
  pub unknown : Component
  pub components_are : components.items ≡ boolean ∷ unknown ∷ []
  pub required : boolean.presence ≡ Required
  pub boolean_is : boolean.type_id.0 ≡ 1
  pub unknown_is : unknown.type_id.0 ≡ 2

-- TRUE, a NULL, and a SET of TRUE and of a NULL that has contents.
abbrev pub a_true : List ℕ
a_true = 1 ∷ 1 ∷ 255 ∷ []

abbrev pub a_null : List ℕ
a_null = 5 ∷ 0 ∷ []

abbrev pub true_and_ill_null : List ℕ
true_and_ill_null = 49 ∷ 6 ∷ 1 ∷ 1 ∷ 255 ∷ 5 ∷ 1 ∷ 0 ∷ []

-- One component of the SET follows the other in the list of parts.
pub record AreInSet (set first second : Span) : Type 0 where
  pub id : set.id.0 ≡ 0
  pub outermost : set.depth ≡ 0
  pub first_inside : first.depth ≡ 1
  pub second_inside : second.depth ≡ 1

-- The second of them has this error of its place, or none.
abbrev pub HasPlaceError : List «Type» → Span → Span → Span → Option DecodeError → Type 0
HasPlaceError types set first second e = (opens : OpenTypes) (ty : «Type») (f : Faults)
    → AreFaultsOf opens types (trail_after (trail_after [] set) first) second ty f → f.order ≡ e

-- A NULL with contents departs exactly if open types are looked into, also as an unknown component. Unknown components
-- and named ones are in one order of tags.
pub record WorkedSets (types : List «Type») : Type 0 where
  pub ill_formed : (ds : List Departure) → IsLint Unexamined types 0 true_and_ill_null ds → ds ≡ []
  pub ill_formed_is_listed : AreReadableTypes types → IsLint Examined types 0 true_and_ill_null [] → ⊥
  pub rises : (set boolean null : Span) → AreInSet set boolean null
      → boolean.octets.now ≡ a_true → null.octets.now ≡ a_null → HasPlaceError types set boolean null None
  pub falls : (set boolean null : Span) → AreInSet set null boolean → boolean.octets.now ≡ a_true
      → null.octets.now ≡ a_null → HasPlaceError types set null boolean (Some (der_error SetComponentsOutOfOrder))

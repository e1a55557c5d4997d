-- Facts about an extensible CHOICE (X.680 29) that were worked out by hand.
use Rattle.std.specs.Prelude.{◌≡◌, List, [], ◌∷◌, None, String, Vec}
use Rattle.std.specs.Global.{Global}
use Rattle.rasn_types.specs.Tags.{in_universal, eoc}
use Rattle.rasn_types.specs.Trees.{unconstrained}
use Rattle.rasn.specs.WorkedShapes.{contextual}
use Rattle.rasn_schema.specs.declared.types.NamedNumber.{NamedNumber}
use Rattle.rasn_schema.specs.declared.types.LeafKind.TheVariants.{Boolean, Integer}
use Rattle.rasn_schema.specs.declared.types.Alternative.{Alternative}
use Rattle.rasn_schema.specs.declared.types.«Type».{«Type»}
use Rattle.rasn_schema.specs.declared.types.«Type».TheVariants.{Leaf, Any, Choice}
use Rattle.rasn_dynamic.specs.SameParts.{AreReadableTypes}
use Rattle.rasn_lint.specs.declared.by_schema.OpenTypes.{OpenTypes}
use Rattle.rasn_lint.specs.declared.by_schema.OpenTypes.TheVariants.{Unexamined, Examined}
use Rattle.rasn_lint.specs.declared.departure.Departure.{Departure}
use Rattle.rasn_lint.specs.Lint.{IsDer, IsLint, IsFirstDeparture}

-- CHOICE { BOOLEAN, [0] INTEGER, ... } and the types of its alternatives, of which the last is an open type.
abbrev pub reply_types : String Global → Vec Alternative Global → Vec NamedNumber Global → List «Type»
reply_types name alternatives names =
    Choice name alternatives ∷ Leaf Boolean (in_universal 1) unconstrained names
    ∷ Leaf Integer (contextual 0) unconstrained names ∷ Any eoc ∷ []

-- The types are these.
pub record AreOfReply (types : List «Type») : Type 0 where
  pub name : String Global
  pub alternatives : Vec Alternative Global
  pub names : Vec NamedNumber Global
  pub are : types ≡ reply_types name alternatives names
  pub first : Alternative
  pub second : Alternative
  pub unknown : Alternative
  pub alternatives_are : alternatives.items ≡ first ∷ second ∷ unknown ∷ []
  pub first_is : first.type_id.0 ≡ 1
  pub second_is : second.type_id.0 ≡ 2
  pub unknown_is : unknown.type_id.0 ≡ 3

-- An unknown alternative is an open type, except that its tag number, which decides, is in the fewest octets
-- (X.690 8.1.2.4), whether open types are looked into or not. So a NULL with contents departs exactly where they are.
pub record WorkedReplies (types : List «Type») : Type 0 where
  pub unknown : (ds : List Departure) → IsLint Unexamined types 0 (129 ∷ 1 ∷ 7 ∷ []) ds → ds ≡ []
  pub long_length : (ds : List Departure) → IsLint Unexamined types 0 (129 ∷ 129 ∷ 1 ∷ 7 ∷ []) ds → ds ≡ []
  pub long_tag_is_not_read : IsDer types 0 (159 ∷ 1 ∷ 1 ∷ 7 ∷ []) → ⊥
  pub long_tag_is_listed : (opens : OpenTypes) → IsLint opens types 0 (159 ∷ 1 ∷ 1 ∷ 7 ∷ []) [] → ⊥
  pub long_tag_is_found : (opens : OpenTypes) → IsFirstDeparture opens types 0 (159 ∷ 1 ∷ 1 ∷ 7 ∷ []) None → ⊥
  pub ill_formed : (ds : List Departure) → IsLint Unexamined types 0 (5 ∷ 1 ∷ 0 ∷ []) ds → ds ≡ []
  pub ill_formed_is_listed : AreReadableTypes types → IsLint Examined types 0 (5 ∷ 1 ∷ 0 ∷ []) [] → ⊥

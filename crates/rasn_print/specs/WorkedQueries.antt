-- Parts of a BOOLEAN that are asked for, worked out by hand.
use Rattle.std.specs.Prelude.{◌≡◌, ℕ, List, [], Bool, Vec, codes}
use Rattle.std.specs.Global.{Global}
use Rattle.rasn_schema.specs.declared.types.NamedNumber.{NamedNumber}
use Rattle.rasn_schema.specs.declared.value.Value.{Boolean, Absent}
use Rattle.rasn_schema.specs.declared.view.View.{View}
use Rattle.rasn_lint.specs.WorkedMessages.{a_boolean}
use Rattle.rasn_print.specs.Queries.{IsAskedFor}

-- The value is a BOOLEAN, whose type is alone in its schema.
pub record IsBooleanView (view : View) : Type 0 where
  pub names : Vec NamedNumber Global
  pub types : view.schema.now.types.items ≡ a_boolean names
  pub id : view.type_id.0 ≡ 0
  pub bit : Bool
  pub value : view.value.now ≡ Boolean bit

-- The empty path leads to the value, and that of an element nowhere. What is absent isn't asked for.
pub record WorkedQueries (view : View) : Type 0 where
  pub itself : IsAskedFor view [] view
  pub no_element : (part : View) → IsAskedFor view (codes "[0]") part → ⊥
  pub not_absent : (path : List ℕ) (part : View) → part.value.now ≡ Absent → IsAskedFor view path part → ⊥

-- Why a SET of parts isn't written.
use Rattle.std.specs.Prelude.{◌⊎◌, true}
use Rattle.rasn_types.specs.Shapes.{Tree, Parts}
use Rattle.rasn_types.specs.declared.error.encode.EncodeError.{EncodeError}
use Rattle.rasn_enc.specs.View.{View, opened, AreTagsInOrder}
use Rattle.rasn_enc.specs.Primitive.{IsAllocError, IsOrderError}
use Rattle.rasn_enc.specs.Sequence.{AppendsParts, EncodePartsFails}

-- The parts are written, and their outermost tags are out of order.
pub record FallsInSet (parts : Parts) (tree : Tree) (v : View) (e : EncodeError) : Type 0 where
  pub inner : View
  pub wrote : AppendsParts parts tree (opened v true) inner
  pub falls : AreTagsInOrder inner → ⊥
  pub is : IsOrderError v.rule e

-- An allocation fails, a part isn't written, or the parts are written and their tags are out of order.
abbrev pub FailsAtSet : Parts → Tree → View → EncodeError → Type 0
FailsAtSet parts tree v e = IsAllocError v.rule e ⊎ (EncodePartsFails parts tree (opened v true) e ⊎ FallsInSet parts tree v e)

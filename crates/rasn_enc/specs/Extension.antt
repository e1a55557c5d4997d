-- Extension addition groups.
use Rattle.std.specs.Prelude.{Option, Some, None}
use Rattle.std.specs.Borrow.{Bor}
use Rattle.rasn_types.specs.Shapes.{Tree, absent}

-- The tree of a group that may be left out.
abbrev pub group_tree : {T : Type 0} → (T → Tree) → Option (Bor T) → Tree
group_tree tree None = absent
group_tree tree (Some v) = tree v.now

-- Identifiers that modules assign to names (X.680 16).
use Rattle.std.specs.Prelude.{◌≡◌, ℕ, List, Some, slice_get}
use Rattle.std.specs.List.{All}
use Rattle.rasn_compiler.specs.declared.tree.Module.{Module}
use Rattle.rasn_compiler.specs.declared.tree.Assignment.{Assignment}
use Rattle.rasn_compiler.specs.declared.tree.Assigned.{Assigned}
use Rattle.rasn_compiler.specs.declared.tree.Assigned.TheVariants.{Value}
use Rattle.rasn_compiler.specs.declared.identifiers.NamedIdentifier.{NamedIdentifier}

-- A value, and not a type, a class, a set or a macro.
abbrev pub IsValue : Assigned → Type 0
IsValue (Value t v) = Unit {0}
IsValue _ = ⊥

-- The module assigns a value to the name.
abbrev pub AssignsValue : Module → List ℕ → Type 0
AssignsValue m name = (j : ℕ) × (a : Assignment) × (Some a ≡ slice_get m.assignments.items j) × IsValue a.assigned × (a.name.now ≡ name)

-- One of the modules assigns a value to the name.
abbrev pub HasValue : List Module → List ℕ → Type 0
HasValue modules name = (k : ℕ) × (m : Module) × (Some m ≡ slice_get modules k) × AssignsValue m name

-- Each name is one to which a module assigns a value.
unfoldable pub AreValuesOf : List Module → List NamedIdentifier → Type 0
AreValuesOf modules found = All (λ n. HasValue modules n.name.now) found

-- It is one of the modules.
abbrev pub IsOneOf : List Module → Module → Type 0
IsOneOf modules m = (k : ℕ) × (Some m ≡ slice_get modules k)

-- The texts that modules are read from.
use Rattle.std.specs.Prelude.{◌≡◌, ℕ, List, Some, slice_get}
use Rattle.std.specs.List.{All}
use Rattle.rasn_compiler.specs.declared.modules.Source.{Source}
use Rattle.rasn_compiler.specs.declared.tree.Module.{Module}

-- One of the texts has the name.
abbrev pub HasName : List Source → List ℕ → Type 0
HasName sources name = (j : ℕ) × (s : Source) × (Some s ≡ slice_get sources j) × (s.name.now ≡ name)

-- One of the modules has the name.
abbrev pub HasModule : List Module → List ℕ → Type 0
HasModule modules name = (k : ℕ) × (m : Module) × (Some m ≡ slice_get modules k) × (m.name.now ≡ name)

-- Each module has the name of one of the texts.
abbrev pub AreOf : List Source → List Module → Type 0
AreOf sources modules = All (λ m. HasName sources m.source.now) modules

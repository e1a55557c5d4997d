-- The components of a SET: those that its type names, in any order, and unknown ones among them, whose tags are none of theirs (X.680 27).
use Rattle.std.specs.Prelude.{◌≡◌, ◌-◌, ℕ, Bool, true, if◌then◌else◌, List, [], ◌∷◌, length, map, take, Ok}
use Rattle.rasn_types.specs.Shapes.{Tree, chosen, Shape, choice_by, Parts, count}
use Rattle.rasn_types.specs.Lawful.{AreComponents, AreDistinguished}
use Rattle.rasn_de.specs.State.{State}
use Rattle.rasn_schema.specs.declared.types.Component.{Component}
use Rattle.rasn_schema.specs.declared.value.Value.{Value}
use Rattle.rasn_schema.specs.Trees.{tree_of}
use Rattle.rasn_schema.specs.Shapes.{components_by, ends_unknown}
use Rattle.rasn_dynamic.specs.Inside.{DecodesTree}

-- Whether there may be unknown components. f gives the shape of the type with a number.
abbrev pub is_extensible : (ℕ → Shape) → List Component → Bool
is_extensible f ps = ends_unknown (components_by f ps)

-- The components that the type names: without the last, if that is unknown values.
abbrev pub named_components : (ℕ → Shape) → List Component → List Component
named_components f ps = if is_extensible f ps then take (length ps - 1) ps else ps

-- The number of the type of the last component, if there is one. In an extensible SET it is that of unknown values.
abbrev pub last_type : List Component → ℕ
last_type [] = 0
last_type (p ∷ []) = p.type_id.0
last_type (p ∷ (q ∷ ps)) = last_type (q ∷ ps)

-- Parts of a SET of a schema: each has a tag, and no two have one in common.
abbrev pub AreLawfulMembers : Parts → Type 0
AreLawfulMembers ps = AreComponents ps × AreDistinguished ps

-- The next component is read as an unknown value.
abbrev pub PassesUnknown : Bool → Parts → State → State → Type 0
PassesUnknown extensible ps s next = (u : Tree) × DecodesTree (choice_by extensible ps) s (Ok (chosen (count ps) u)) next

-- These are the unknown values that were read, if values are kept.
abbrev pub HoldsUnknown : Bool → List Value → List Tree → Type 0
HoldsUnknown keep values us = keep ≡ true → map tree_of values ≡ us

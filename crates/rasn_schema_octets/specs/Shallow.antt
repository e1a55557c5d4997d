-- How deep the values of defaults may be nested.
use Rattle.std.specs.Prelude.{List, [], ◌∷◌}
use Rattle.rasn_schema.specs.declared.types.Presence.{Presence}
use Rattle.rasn_schema.specs.declared.types.Presence.TheVariants.{Required, Optional, Addition, Default}
use Rattle.rasn_schema.specs.declared.types.Component.{Component}
use Rattle.rasn_schema.specs.declared.types.«Type».{«Type»}
use Rattle.rasn_schema.specs.Schemas.{components_in}
use Rattle.rasn_schema_octets.specs.Defaults.{IsWithinDepth}

-- Each element is such.
abbrev pub Every : {T : Type 0} → (T → Type 0) → List T → Type 0
Every P [] = Unit {0}
Every P (x ∷ xs) = P x × Every P xs

-- No value of a default is nested in more than 32 others.
abbrev pub IsShallowPresence : Presence → Type 0
IsShallowPresence Required = Unit {0}
IsShallowPresence Optional = Unit {0}
IsShallowPresence Addition = Unit {0}
IsShallowPresence (Default v) = IsWithinDepth v 32

abbrev pub IsShallowComponent : Component → Type 0
IsShallowComponent c = IsShallowPresence c.presence

abbrev pub IsShallowType : «Type» → Type 0
IsShallowType ty = Every IsShallowComponent (components_in ty)

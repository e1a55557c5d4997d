-- What a constructed type states about its parts and its fields.
use Rattle.std.specs.Prelude.{ℕ, ◌+◌, Bool, true, false, ◌&&◌, ◌||◌, not, nat_eq}
pub use Rattle.rasn_types.specs.Shapes.{count}
use Rattle.rasn_types.specs.Shapes.{Parts, part, required, addition, optional_by, default_by}
use Rattle.rasn_types.specs.Shapes.Parts.{none}
use Rattle.rasn_types.specs.declared.types.fields.FieldPresence.{FieldPresence}
use Rattle.rasn_types.specs.declared.types.fields.FieldPresence.TheVariants.{Required, Optional, Default}

-- Whether a part is required.
abbrev pub has_required : Parts → Bool
has_required none = false
has_required (part required s ps) = true
has_required (part _ s ps) = has_required ps

-- Whether a part is an addition with an explicit tag.
abbrev pub has_addition : Parts → Bool
has_addition none = false
has_addition (part required s ps) = has_addition ps
has_addition (part (optional_by key) s ps) = has_addition ps
has_addition (part addition s ps) = true
has_addition (part (default_by key d) s ps) = has_addition ps

abbrev pub same_bool : Bool → Bool → Bool
same_bool true b = b
same_bool false b = not b

-- Whether a type has no fields and no extension marker.
abbrev pub is_fieldless : ℕ → Bool → Bool
is_fieldless root extensible = nat_eq root 0 && not extensible

-- The flag says whether a part is required, there are as many parts as fields in the root and after the extension
-- marker together, and a type with fields after a marker has one.
abbrev pub describes : ℕ → ℕ → Bool → Bool → Parts → Bool
describes root more extensible flag parts = same_bool (has_required parts) flag && nat_eq (count parts) (root + more) && (extensible || nat_eq more 0)

-- Whether a value may lack a field of this presence.
abbrev pub is_optional_or_default : FieldPresence → Bool
is_optional_or_default Required = false
is_optional_or_default Optional = true
is_optional_or_default Default = true

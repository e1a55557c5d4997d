-- Parts of a schema, as what they are read and written.
use Rattle.std.specs.Prelude.{◌≡◌, ◌⊎◌, List, map, Option, Result, Ok, Err, Vec}
use Rattle.std.specs.Global.{Global}
use Rattle.rasn_types.specs.Shapes.{Tree}
use Rattle.rasn_schema.specs.declared.named.TypeName.{TypeName}
use Rattle.rasn_schema_octets.specs.declared.fault.Stop.{Stop}
use Rattle.rasn_schema_octets.specs.declared.name.NameForm.{NameForm}
use Rattle.rasn_schema_octets.specs.Forms.{names_form_tree}
use Rattle.rasn_schema_octets.specs.Trees.{names_tree}
use Rattle.rasn_schema_octets.specs.Shallow.{Every}
use Rattle.rasn_schema_octets.specs.Stops.{IsMemory}

-- A part is made that says this and is shallow; or memory ran out, or none is such.
abbrev pub Makes : {T : Type 0} → (T → Tree) → (T → Type 0) → Tree → Result T Stop → Type 0
Makes says is_shallow t (Ok x) = (says x ≡ t) × is_shallow x
Makes {T} says is_shallow t (Err e) = IsMemory e ⊎ ((x : T) → is_shallow x → says x ≡ t → ⊥)

-- The same of a list of parts.
abbrev pub MakesAll : {T : Type 0} → (T → Tree) → (T → Type 0) → List Tree → Result (Vec T Global) Stop → Type 0
MakesAll says is_shallow ts (Ok xs) = (map says xs.items ≡ ts) × Every is_shallow xs.items
MakesAll {T} says is_shallow ts (Err e) = IsMemory e ⊎ ((xs : List T) → Every is_shallow xs → map says xs ≡ ts → ⊥)

-- What is written of a part says this; or memory ran out, or the part isn't shallow.
abbrev pub Forms : {F : Type 0} → (F → Tree) → Tree → Type 0 → Result F Stop → Type 0
Forms tree t IsShallow (Ok f) = tree f ≡ t
Forms tree t IsShallow (Err e) = IsMemory e ⊎ (IsShallow → ⊥)

-- The same of a list of parts.
abbrev pub FormsAll : {F : Type 0} → (F → Tree) → List Tree → Type 0 → Result (Vec F Global) Stop → Type 0
FormsAll tree ts AreShallow (Ok fs) = map tree fs.items ≡ ts
FormsAll tree ts AreShallow (Err e) = IsMemory e ⊎ (AreShallow → ⊥)

-- Names of types are made that say what was read; or memory ran out.
abbrev pub MakesNames : Option (Vec NameForm Global) → Result (Option (Vec TypeName Global)) Stop → Type 0
MakesNames names (Ok made) = names_tree made ≡ names_form_tree names
MakesNames names (Err e) = IsMemory e ⊎ ((made : Option (Vec TypeName Global)) → names_tree made ≡ names_form_tree names → ⊥)

-- What is written of names says this; or memory ran out.
abbrev pub FormsNames : Option (Vec TypeName Global) → Result (Option (Vec NameForm Global)) Stop → Type 0
FormsNames names (Ok forms) = names_form_tree forms ≡ names_tree names
FormsNames names (Err e) = IsMemory e

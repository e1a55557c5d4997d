-- Values that are written anew (X.690 10, 11).
use Rattle.std.specs.Prelude.{◌≡◌, ◌↔◌, ℕ, List, [], Option, Some, None, slice_get}
use Rattle.rasn_types.specs.declared.types.codec.Codec.{Codec}
use Rattle.rasn_types.specs.Framing.{AreOctets}
use Rattle.rasn_types.specs.Shapes.{Tree}
use Rattle.rasn_types.specs.Lawful.{IsLawful}
use Rattle.rasn.specs.Normal.{IsNormal, IsCarriedIn}
use Rattle.rasn_types.specs.declared.types.tag.Tag.{Tag}
use Rattle.rasn_schema.specs.declared.types.«Type».{«Type»}
use Rattle.rasn_schema.specs.declared.types.«Type».TheVariants.{Any, Unknown}
use Rattle.rasn_dynamic.specs.declared.message.MessageParts.{MessageParts}
use Rattle.rasn_dynamic.specs.Entry.{shape_of}
use Rattle.rasn_dynamic.specs.Walk.{ArePartsOf}
use Rattle.rasn_dynamic.specs.SameParts.{AreReadableTypes}
use Rattle.rasn_lint.specs.declared.by_schema.OpenTypes.{OpenTypes}
use Rattle.rasn_lint.specs.declared.by_schema.OpenTypes.TheVariants.{Unexamined, Examined}
use Rattle.rasn_lint.specs.declared.departure.Departure.{Departure}
use Rattle.rasn_lint.specs.Lint.{AreFormed, IsLint, IsFirstDeparture}

-- The list of a normal encoding is empty if the octets of each open type and of each unknown value of the input are well
-- formed, where they are looked into: the encoding has the same ones. The input is read by any rules.
abbrev pub NormalIsClean : Type 0
NormalIsClean = (opens : OpenTypes) (types : List «Type») (id : ℕ) (rule : Codec) (input octets : List ℕ) (ds : List Departure) (parts : MessageParts)
    → AreReadableTypes types → AreOctets input → AreOctets octets → IsNormal rule (shape_of types id) input octets
    → ArePartsOf types rule id input parts → AreFormed opens types parts.list.items
    → IsLint opens types id octets ds → ds ≡ []

-- The same where the open types and the unknown values of the encoding itself are well formed, whatever the types are.
abbrev pub FormedIsClean : Type 0
FormedIsClean = (opens : OpenTypes) (types : List «Type») (id : ℕ) (rule : Codec) (input octets : List ℕ) (ds : List Departure)
    → IsNormal rule (shape_of types id) input octets → (l : IsLint opens types id octets ds)
    → AreFormed opens types l.parts.list.items → ds ≡ []

-- Open types aren't looked into, or none of the types is one, or is unknown values.
abbrev pub IsClosed : OpenTypes → List «Type» → Type 0
IsClosed Unexamined types = Unit {0}
IsClosed Examined types = ((k : ℕ) (tag : Tag) → slice_get types k ≡ Some (Any tag) → ⊥) × ((k : ℕ) → slice_get types k ≡ Some Unknown → ⊥)

-- It is empty if no open type is looked into.
abbrev pub ClosedIsClean : Type 0
ClosedIsClean = (opens : OpenTypes) (types : List «Type») (id : ℕ) (rule : Codec) (input octets : List ℕ) (ds : List Departure)
    → IsClosed opens types → IsNormal rule (shape_of types id) input octets → IsLint opens types id octets ds → ds ≡ []

-- There is a first departure exactly if the list isn't empty.
abbrev pub FirstIsListed : Type 0
FirstIsListed = (opens : OpenTypes) (types : List «Type») (id : ℕ) (input : List ℕ) (ds : List Departure) (found : Option Departure)
    → AreReadableTypes types → AreOctets input → IsLint opens types id input ds → IsFirstDeparture opens types id input found → (found ≡ None) ↔ (ds ≡ [])

-- The same whatever the types are, where open types aren't looked into, or none of the types is open.
abbrev pub ClosedFirstIsListed : Type 0
ClosedFirstIsListed = (opens : OpenTypes) (types : List «Type») (id : ℕ) (input : List ℕ) (ds : List Departure) (found : Option Departure)
    → IsClosed opens types → IsLint opens types id input ds → IsFirstDeparture opens types id input found → (found ≡ None) ↔ (ds ≡ [])

-- Of octets whose list is empty the normal encoding is these octets, if they are a carried value of a lawful shape.
abbrev pub CleanIsNormal : Type 0
CleanIsNormal = (opens : OpenTypes) (types : List «Type») (id : ℕ) (rule : Codec) (input octets : List ℕ) → IsLawful (shape_of types id) → AreOctets input
    → (t : Tree) → IsCarriedIn rule (shape_of types id) input t → IsLint opens types id input [] → IsNormal rule (shape_of types id) input octets → octets ≡ input

-- What goes over the parts of a message.
use Rattle.std.specs.Prelude.{Bool, true, false, ◌≡◌, ◌+◌, ◌-◌, ◌≤◌, ℕ, zero, suc, List, [], ◌∷◌, ◌++◌, length, slice_get, take, if◌then◌else◌, Option, Some, None}
use Rattle.std.specs.List.{All}
use Rattle.rasn_types.specs.declared.types.codec.Codec.{Codec}
use Rattle.rasn_de.specs.State.{State}
use Rattle.rasn_schema.specs.declared.types.«Type».{«Type»}
use Rattle.rasn_schema.specs.declared.types.«Type».TheVariants.{Any, Unknown}
use Rattle.rasn_schema.specs.Shapes.{shape_of_type}
use Rattle.rasn_dynamic.specs.declared.span.Span.{Span}
use Rattle.rasn_dynamic.specs.declared.part.Part.{Part}
use Rattle.rasn_dynamic.specs.declared.message.MessageParts.{MessageParts}
use Rattle.rasn_dynamic.specs.declared.message.ListedParts.{ListedParts}
use Rattle.rasn_dynamic.specs.Faults.{start}
use Rattle.rasn_dynamic.specs.Parts.{IsPartHeader}
use Rattle.rasn_dynamic.specs.Listed.{PartListed, Inside}

-- Its octets are in the input, where so many are left from its start to the end.
abbrev pub IsPlaced : List ℕ → Span → Type 0
IsPlaced input e = (front : List ℕ) × (back : List ℕ) × (input ≡ front ++ (e.octets.now ++ back)) × (length (e.octets.now ++ back) ≡ e.left)

-- The parts of the value of the type with which the input begins, up to the rest: itself and those inside it, in the order of their octets, each where it says.
pub record AreParts (types : List «Type») (rule : Codec) (id : ℕ) (input rest : List ℕ) (es : List Span) : Type 0 where
  pub last : State
  pub ends : last.rest ≡ rest
  pub listed : PartListed (shape_of_type types 18446744073709551615) 18446744073709551615 (Inside types 18446744073709551615) id 0 0 (start rule input) last es
  pub placed : All (IsPlaced input) es

-- whether values of the type are those of an open type, or unknown values
abbrev pub is_open_type : «Type» → Bool
is_open_type (Any tag) = true
is_open_type Unknown = true
is_open_type _ = false

abbrev pub is_open : Option «Type» → Bool
is_open None = false
is_open (Some ty) = is_open_type ty

-- those of the parts that are such values
abbrev pub open_of : List «Type» → List Span → List Span
open_of types [] = []
open_of types (e ∷ es) = if is_open (slice_get types e.id.0) then e ∷ open_of types es else open_of types es

-- Of the parts of the value with which the input begins, those are listed that are such values, and the rest follows the value.
abbrev pub AreOpenPartsOf : List «Type» → Codec → ℕ → List ℕ → ListedParts → Type 0
AreOpenPartsOf types rule id input o = (all : List Span) × AreParts types rule id input o.rest.now all × (o.list.items ≡ open_of types all)

-- The parts of the value of the type with which the input begins, none of which was gone over: itself and those inside it, in the order of their octets, each where it says.
pub record ArePartsOf (types : List «Type») (rule : Codec) (id : ℕ) (input : List ℕ) (ps : MessageParts) : Type 0 where
  pub last : State
  pub listed : PartListed (shape_of_type types 18446744073709551615) 18446744073709551615 (Inside types 18446744073709551615) id 0 0 (start rule input) last ps.list.items
  pub placed : All (IsPlaced input) ps.list.items
  pub input_is : ps.input.now ≡ input
  pub next : ps.next ≡ 0
  pub path : ps.path.items ≡ []

abbrev pub path_at_depth : ℕ → List ℕ → ℕ → List ℕ
path_at_depth zero path k = []
path_at_depth (suc d) path k = take d path ++ k ∷ []

-- the path of a part, after that of the part before it
abbrev pub path_after : List ℕ → Span → List ℕ
path_after path e = path_at_depth e.depth path e.index

-- The next part of the list, with its path; or there is none.
abbrev pub IsNextOf : MessageParts → Option Part → MessageParts → Type 0
IsNextOf old None new = (length old.list.items ≤ old.next) × (new.next ≡ old.next) × (new.path ≡ old.path)
IsNextOf old (Some p) new = (e : Span) × (Some e ≡ slice_get old.list.items old.next) × (p.id ≡ e.id) × (p.octets.now ≡ e.octets.now) × (p.offset ≡ length old.input.now - e.left)
    × IsPartHeader e.octets.now p.header_len p.is_indefinite × (new.next ≡ old.next + 1) × (new.path.items ≡ path_after old.path.items e)

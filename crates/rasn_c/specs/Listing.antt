-- All parts of a message.
use Rattle.std.specs.Prelude.{◌≡◌, ◌<◌, ◌≤◌, ◌⊎◌, ◌++◌, ◌∷◌, [], ◌+◌, ◌-◌, ℕ, List, length, drop, slice_get, Some, Result, Ok as Made, Err, MatchResult}
use Rattle.rasn_types.specs.declared.types.codec.Codec.{Codec}
use Rattle.rasn_schema.specs.declared.schema.Schema.{Schema}
use Rattle.rasn_schema.specs.declared.type_id.TypeId.{TypeId}
use Rattle.rasn_schema.specs.declared.types.«Type».{«Type»}
use Rattle.rasn_schema.specs.Held.{part_name, part_type}
use Rattle.rasn_dynamic.specs.declared.message.MessageParts.{MessageParts}
use Rattle.rasn_dynamic.specs.declared.part.Part.{Part}
use Rattle.rasn_dynamic.specs.declared.span.Span.{Span}
use Rattle.rasn_dynamic.specs.declared.refusal.Refusal.{Refusal}
use Rattle.rasn_dynamic.specs.Faults.{IsLocated}
use Rattle.rasn_dynamic.specs.Parts.{IsPartHeader}
use Rattle.rasn_dynamic.specs.Walk.{ArePartsOf, path_after}
use Rattle.rasn_c.specs.Schemas.{IsAsked, IsNotAsked}
use Rattle.rasn_c.specs.Extents.{IsExtentOf}
use Rattle.rasn_c.specs.Reasons.{IsStopOf, IsReported}
use Rattle.rasn_c.specs.declared.listing.Counts.{Counts}
use Rattle.rasn_c.specs.declared.listing.ListedPart.{ListedPart}
use Rattle.rasn_c.specs.declared.listing.Listing.{Listing}
use Rattle.rasn_c.specs.declared.reasons.Reason.{Reason}
use Rattle.rasn_c.specs.declared.reasons.CallStop.{CallStop}
use Rattle.rasn_c.specs.declared.status.Status.{Status}
use Rattle.rasn_c.specs.declared.status.Status.TheVariants.{Ok, Refused, BufferTooSmall}

-- The row says where the part is and what it is, how many parts it is in, and its index in the innermost of them.
pub record IsRowOf (types : List «Type») (input : List ℕ) (e : Span) (r : ListedPart) : Type 0 where
  pub part : Part
  pub of_type : part.id ≡ e.id
  pub octets : part.octets.now ≡ e.octets.now
  pub offset : part.offset ≡ length input - e.left
  pub header : IsPartHeader e.octets.now part.header_len part.is_indefinite
  pub extent : IsExtentOf types part r.part
  pub depth : r.depth ≡ e.depth
  pub index : r.index ≡ e.index

-- The path leads from the one type to the other.
abbrev pub Leads : List «Type» → «Type» → List ℕ → «Type» → Type 0
Leads types from [] ty = from ≡ ty
Leads types from (k ∷ path) ty = (id : TypeId) × (part_type from k ≡ Some id) × (inner : «Type») × (slice_get types id.0 ≡ Some inner) × Leads types inner path ty

abbrev pub LeadsToType : List «Type» → ℕ → List ℕ → «Type» → Type 0
LeadsToType types id path ty = (from : «Type») × (slice_get types id ≡ Some from) × Leads types from path ty

-- The part at the end of the path is a component or an alternative of this name.
pub record HasNameOn (types : List «Type») (id : ℕ) (path name : List ℕ) : Type 0 where
  pub front : List ℕ
  pub last : ℕ
  pub path_is : path ≡ front ++ last ∷ []
  pub outer : «Type»
  pub leads : LeadsToType types id front outer
  pub named : part_name outer last ≡ Some name

-- The name is that of the part at the end of the path; it is empty if the part has none.
abbrev pub IsNameOn : List «Type» → ℕ → List ℕ → List ℕ → Type 0
IsNameOn types id path name = HasNameOn types id path name ⊎ ((name ≡ []) × ((other : List ℕ) → HasNameOn types id path other → ⊥))

-- a name and a zero, unless it is empty
abbrev pub ended : List ℕ → List ℕ
ended [] = []
ended (first ∷ others) = first ∷ (others ++ 0 ∷ [])

-- The row has the place of a name among the names, and its length without its zero.
pub record IsNamePlaced (at : ℕ) (name : List ℕ) (r : ListedPart) : Type 0 where
  pub place : r.name ≡ at
  pub long : r.name_length ≡ length name

-- There is a row for each part, in their order, and the names are theirs, each with its zero. So many octets of names are before them, and the path is that of the part before them.
unfoldable pub AreRows : List «Type» → ℕ → List ℕ → List ℕ → ℕ → List Span → List ListedPart → List ℕ → Type 0
AreRows types root input path at [] [] names = names ≡ []
AreRows types root input path at (e ∷ es) (r ∷ rs) names =
    IsRowOf types input e r × (name : List ℕ) × IsNameOn types root (path_after path e) name × IsNamePlaced at name r
    × (others : List ℕ) × (names ≡ ended name ++ others) × AreRows types root input (path_after path e) (at + length (ended name)) es rs others
AreRows types root input path at _ _ names = ⊥

-- The rows and the names are those of the parts of the value with which the octets begin.
pub record IsListing (octets : List ℕ) (number : ℕ) (message : List ℕ) (rows : List ListedPart) (names : List ℕ) : Type 0 where
  pub schema : Schema
  pub root : TypeId
  pub rule : Codec
  pub asked : IsAsked octets number schema root rule
  pub parts : MessageParts
  pub are : ArePartsOf schema.types.items rule root.0 message parts
  pub rows_are : AreRows schema.types.items root.0 message [] 0 parts.list.items rows names

-- A value of the message can't be read, and this is where and why.
pub record IsUnreadable (octets : List ℕ) (number : ℕ) (message : List ℕ) (stop : CallStop) : Type 0 where
  pub schema : Schema
  pub root : TypeId
  pub rule : Codec
  pub asked : IsAsked octets number schema root rule
  pub refusal : Refusal
  pub located : IsLocated schema.types.items rule root.0 message refusal
  pub stops : IsStopOf schema root [] refusal stop

abbrev pub IsNoListingBy : List ℕ → ℕ → List ℕ → CallStop → Status → Type 0
IsNoListingBy octets number message stop Refused = IsUnreadable octets number message stop
IsNoListingBy octets number message stop status = IsNotAsked octets number status

-- The rows and the names are written if both fit, and their numbers in both cases.
abbrev pub IsPutListing : Listing → List ListedPart → List ListedPart → List ℕ → List ℕ → Counts → Status → Type 0
IsPutListing l old new old_names new_names counts Ok = (counts.parts ≡ length l.parts.items) × (counts.names ≡ length l.names.items)
    × (counts.parts ≤ length old) × (counts.names ≤ length old_names) × (new ≡ l.parts.items ++ drop (length l.parts.items) old) × (new_names ≡ l.names.items ++ drop (length l.names.items) old_names)
IsPutListing l old new old_names new_names counts BufferTooSmall = (counts.parts ≡ length l.parts.items) × (counts.names ≡ length l.names.items)
    × ((length old < counts.parts) ⊎ (length old_names < counts.names)) × (new ≡ old) × (new_names ≡ old_names)
IsPutListing l old new old_names new_names counts _ = ⊥

-- What the caller gets.
abbrev pub IsListedInto : Result Listing Status → List ListedPart → List ListedPart → List ℕ → List ℕ → Counts → Status → Type 0
IsListedInto (Made l) old new old_names new_names counts status = IsPutListing l old new old_names new_names counts status
IsListedInto (Err why) old new old_names new_names counts status = (status ≡ why) × (new ≡ old) × (new_names ≡ old_names) × (counts ≡ record { parts = 0; names = 0 })

-- The status of listing the parts.
pub record AnswersParts (octets : List ℕ) (number : ℕ) (message : List ℕ) (old new : List ListedPart) (old_names new_names : List ℕ) (counts : Counts) (reason : Reason) (old_text new_text : List ℕ) (status : Status) : Type 0 where
  pub made : Result Listing CallStop
  pub is : MatchResult made (λ l. IsListing octets number message l.parts.items l.names.items) (λ stop. IsNoListingBy octets number message stop stop.status)
  pub answer : Result Listing Status
  pub reported : IsReported made reason old_text new_text answer
  pub given : IsListedInto answer old new old_names new_names counts status

-- A part of a message by its path.
use Rattle.std.specs.Prelude.{◌≡◌, ℕ, List, [], Result, Ok as Made, Err, MatchResult}
use Rattle.rasn_types.specs.declared.types.codec.Codec.{Codec}
use Rattle.rasn_schema.specs.declared.schema.Schema.{Schema}
use Rattle.rasn_schema.specs.declared.type_id.TypeId.{TypeId}
use Rattle.rasn_dynamic.specs.declared.part.Part.{Part}
use Rattle.rasn_dynamic.specs.declared.refusal.Refusal.{Refusal}
use Rattle.rasn_dynamic.specs.declared.steps.Step.{Step}
use Rattle.rasn_dynamic.specs.Faults.{IsLocated, start}
use Rattle.rasn_dynamic.specs.Parts.{IsPartAt, LacksPath}
use Rattle.rasn_dynamic.specs.Steps.{IsWay, IsNoWay}
use Rattle.rasn_c.specs.Schemas.{IsAsked, IsNotAsked}
use Rattle.rasn_dynamic.specs.PathText.{AreStepsOf}
use Rattle.rasn_c.specs.Extents.{IsExtentOf, no_extent}
use Rattle.rasn_c.specs.Reasons.{IsStopOf, IsReported}
use Rattle.rasn_c.specs.declared.extent.Extent.{Extent}
use Rattle.rasn_c.specs.declared.reasons.Reason.{Reason}
use Rattle.rasn_c.specs.declared.reasons.CallStop.{CallStop}
use Rattle.rasn_c.specs.declared.status.Status.{Status}
use Rattle.rasn_c.specs.declared.status.Status.TheVariants.{Ok, Refused, OutOfMemory, UnknownPath, Absent}

-- The text is the path that leads along these indices in values of the type.
pub record IsPathOf (schema : Schema) (root : TypeId) (text indices : List ℕ) : Type 0 where
  pub steps : List Step
  pub of_text : AreStepsOf text steps
  pub way : IsWay schema.types.items 18446744073709551615 root.0 steps indices

-- The text is that of no steps, or its steps lead to no part of the type.
abbrev pub HasNoPath : Schema → TypeId → List ℕ → Type 0
HasNoPath schema root text = (steps : List Step) → AreStepsOf text steps → IsNoWay schema.types.items 18446744073709551615 root.0 steps

-- There is none; or memory ran out.
abbrev pub IsNoPath : Schema → TypeId → List ℕ → Status → Type 0
IsNoPath schema root text UnknownPath = HasNoPath schema root text
IsNoPath schema root text OutOfMemory = Unit {0}
IsNoPath schema root text _ = ⊥

-- The extent is that of the part at the path of the value with which the octets begin.
pub record IsFound (octets : List ℕ) (number : ℕ) (message path : List ℕ) (e : Extent) : Type 0 where
  pub schema : Schema
  pub root : TypeId
  pub rule : Codec
  pub asked : IsAsked octets number schema root rule
  pub indices : List ℕ
  pub path_is : IsPathOf schema root path indices
  pub part : Part
  pub at : IsPartAt schema.types.items rule root.0 message indices part
  pub extent : IsExtentOf schema.types.items part e

-- The value doesn't have the part.
pub record IsAbsent (octets : List ℕ) (number : ℕ) (message path : List ℕ) : Type 0 where
  pub schema : Schema
  pub root : TypeId
  pub rule : Codec
  pub asked : IsAsked octets number schema root rule
  pub indices : List ℕ
  pub path_is : IsPathOf schema root path indices
  pub lacks : LacksPath schema.types.items indices 18446744073709551615 root.0 (start rule message)

-- The type has no part with this path.
pub record IsUnknown (octets : List ℕ) (number : ℕ) (path : List ℕ) : Type 0 where
  pub schema : Schema
  pub root : TypeId
  pub rule : Codec
  pub asked : IsAsked octets number schema root rule
  pub none : HasNoPath schema root path

-- The type has a part with this path, but a value of the message can't be read, and this is where and why.
pub record IsUnreadOnWay (octets : List ℕ) (number : ℕ) (message path : List ℕ) (stop : CallStop) : Type 0 where
  pub schema : Schema
  pub root : TypeId
  pub rule : Codec
  pub asked : IsAsked octets number schema root rule
  pub indices : List ℕ
  pub path_is : IsPathOf schema root path indices
  pub refusal : Refusal
  pub located : IsLocated schema.types.items rule root.0 message refusal
  pub stops : IsStopOf schema root [] refusal stop

abbrev pub IsNotFoundBy : List ℕ → ℕ → List ℕ → List ℕ → CallStop → Status → Type 0
IsNotFoundBy octets number message path stop Refused = IsUnreadOnWay octets number message path stop
IsNotFoundBy octets number message path stop Absent = IsAbsent octets number message path
IsNotFoundBy octets number message path stop UnknownPath = IsUnknown octets number path
IsNotFoundBy octets number message path stop status = IsNotAsked octets number status

abbrev pub IsNotFound : List ℕ → ℕ → List ℕ → List ℕ → CallStop → Type 0
IsNotFound octets number message path stop = IsNotFoundBy octets number message path stop stop.status

-- What the caller gets: a part or none, and the status.
abbrev pub IsGiven : Result Extent Status → Extent → Status → Type 0
IsGiven (Made found) part status = (part ≡ found) × (status ≡ Ok)
IsGiven (Err why) part status = (part ≡ no_extent) × (status ≡ why)

-- The status of a search for the part at the path.
pub record AnswersFind (octets : List ℕ) (number : ℕ) (message path : List ℕ) (part : Extent) (reason : Reason) (old new : List ℕ) (status : Status) : Type 0 where
  pub made : Result Extent CallStop
  pub is : MatchResult made (IsFound octets number message path) (IsNotFound octets number message path)
  pub answer : Result Extent Status
  pub reported : IsReported made reason old new answer
  pub given : IsGiven answer part status

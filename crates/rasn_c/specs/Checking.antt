-- The check of a message by a schema.
use Rattle.std.specs.Prelude.{◌≡◌, ◌⊎◌, ◌-◌, ℕ, List, [], length, false, zero, suc, Some, None, Result, Ok as Made, Err, MatchResult}
use Rattle.rasn_types.specs.declared.types.codec.Codec.{Codec}
use Rattle.rasn_types.specs.declared.types.codec.Codec.TheVariants.{Der}
use Rattle.rasn_types.specs.Shapes.{Tree}
use Rattle.rasn_types.specs.Grammar.{Reads, top}
use Rattle.rasn_de.specs.Outcomes.{Exact, Got, refusal}
use Rattle.rasn.specs.Headline.{IsExtraData}
use Rattle.rasn_schema.specs.declared.schema.Schema.{Schema}
use Rattle.rasn_schema.specs.declared.type_id.TypeId.{TypeId}
use Rattle.rasn_schema.specs.declared.types.«Type».{«Type»}
use Rattle.rasn_dynamic.specs.declared.refusal.Refusal.{Refusal}
use Rattle.rasn_dynamic.specs.Entry.{shape_of}
use Rattle.rasn_dynamic.specs.Faults.{IsLocated}
use Rattle.rasn_lint.specs.declared.by_schema.OpenTypes.{OpenTypes}
use Rattle.rasn_lint.specs.declared.by_schema.OpenTypes.TheVariants.{Unexamined, Examined}
use Rattle.rasn_lint.specs.declared.departure.Departure.{Departure}
use Rattle.rasn_lint.specs.Lint.{IsFirstDeparture}
use Rattle.rasn_lint.specs.Shown.{indices_of}
use Rattle.rasn_c.specs.Schemas.{IsAsked, IsNotAsked}
use Rattle.rasn_c.specs.Reasons.{IsStopOf, IsReported}
use Rattle.rasn_c.specs.declared.reasons.Reason.{Reason}
use Rattle.rasn_c.specs.declared.reasons.CallStop.{CallStop}
use Rattle.rasn_c.specs.declared.status.Status.{Status}
use Rattle.rasn_c.specs.declared.status.Status.TheVariants.{Ok, Refused, OutOfMemory}

-- whether a call looks into open types
abbrev pub opens_of : ℕ → OpenTypes
opens_of zero = Unexamined
opens_of (suc n) = Examined

-- All of the octets are one value of the type.
abbrev pub IsWhole : Codec → List «Type» → ℕ → List ℕ → Type 0
IsWhole rule types id message = (t : Tree) × Exact (Reads rule (shape_of types id) 128 (top rule)) message (Got t [])

-- A value of the type is followed by other octets, and the refusal is theirs.
pub record IsFollowed (rule : Codec) (types : List «Type») (id : ℕ) (message : List ℕ) (r : Refusal) : Type 0 where
  pub tree : Tree
  pub rest : List ℕ
  pub read : Exact (Reads rule (shape_of types id) 128 (top rule)) message (Got tree rest)
  pub extra : IsExtraData rule rest r.error
  pub offset : r.offset ≡ length message - length rest
  pub type_is : r.id.0 ≡ id
  pub steps : r.steps.items ≡ []
  pub is_cut : r.is_cut ≡ false

-- The octets don't begin with a value of the type, and this is where and why.
abbrev pub IsUnread : Codec → List «Type» → ℕ → List ℕ → Refusal → Type 0
IsUnread rule types id message r = Exact (Reads rule (shape_of types id) 128 (top rule)) message (refusal r.error.kind) × IsLocated types rule id message r

-- The octets aren't exactly one value of the type.
abbrev pub IsRefusedAt : Codec → List «Type» → ℕ → List ℕ → Refusal → Type 0
IsRefusedAt rule types id message r = IsUnread rule types id message r ⊎ IsFollowed rule types id message r

-- The check passes: by DER nothing departs from it, inside open types too if they are looked into.
abbrev pub IsChecked : Codec → OpenTypes → List «Type» → ℕ → List ℕ → Type 0
IsChecked Der opens types id message = IsFirstDeparture opens types id message None
IsChecked rule opens types id message = IsWhole rule types id message

-- Octets that the reader refuses, or there is no memory to say why.
abbrev pub IsUnreadBy : Codec → Schema → TypeId → List ℕ → CallStop → Status → Type 0
IsUnreadBy rule schema root message stop Refused = (r : Refusal) × IsRefusedAt rule schema.types.items root.0 message r × IsStopOf schema root [] r stop
IsUnreadBy rule schema root message stop OutOfMemory = Unit {0}
IsUnreadBy rule schema root message stop _ = ⊥

-- The check doesn't pass, and this is where and why.
abbrev pub IsDepartedFrom : OpenTypes → Schema → TypeId → List ℕ → CallStop → Status → Type 0
IsDepartedFrom opens schema root message stop Refused = (d : Departure) × IsFirstDeparture opens schema.types.items root.0 message (Some d) × IsStopOf schema root (indices_of d.inner) d.refusal stop
IsDepartedFrom opens schema root message stop OutOfMemory = Unit {0}
IsDepartedFrom opens schema root message stop _ = ⊥

abbrev pub IsUncheckedBy : Codec → OpenTypes → Schema → TypeId → List ℕ → CallStop → Status → Type 0
IsUncheckedBy Der opens schema root message stop status = IsDepartedFrom opens schema root message stop status
IsUncheckedBy rule opens schema root message stop status = IsUnreadBy rule schema root message stop status

-- The schema and the rules are those that the call asks for, and the check by them passes.
pub record IsCheckedBy (octets : List ℕ) (number open_types : ℕ) (message : List ℕ) : Type 0 where
  pub schema : Schema
  pub root : TypeId
  pub rule : Codec
  pub asked : IsAsked octets number schema root rule
  pub checked : IsChecked rule (opens_of open_types) schema.types.items root.0 message

pub record IsNotCheckedBy (octets : List ℕ) (number open_types : ℕ) (message : List ℕ) (stop : CallStop) : Type 0 where
  pub schema : Schema
  pub root : TypeId
  pub rule : Codec
  pub asked : IsAsked octets number schema root rule
  pub unchecked : IsUncheckedBy rule (opens_of open_types) schema root message stop stop.status

-- The check doesn't pass, or there is none.
abbrev pub IsStopped : List ℕ → ℕ → ℕ → List ℕ → CallStop → Type 0
IsStopped octets number open_types message stop = IsNotCheckedBy octets number open_types message stop ⊎ IsNotAsked octets number stop.status

abbrev pub status_of : Result (Unit {0}) Status → Status
status_of (Made u) = Ok
status_of (Err status) = status

-- The status of the check.
pub record AnswersCheckBy (octets : List ℕ) (number open_types : ℕ) (message : List ℕ) (reason : Reason) (old new : List ℕ) (status : Status) : Type 0 where
  pub made : Result (Unit {0}) CallStop
  pub is : MatchResult made (λ u. IsCheckedBy octets number open_types message) (IsStopped octets number open_types message)
  pub answer : Result (Unit {0}) Status
  pub reported : IsReported made reason old new answer
  pub given : status ≡ status_of answer

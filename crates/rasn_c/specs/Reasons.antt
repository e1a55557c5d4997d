-- Why a call by a schema has no result.
use Rattle.std.specs.Prelude.{◌≡◌, ◌-◌, ◌⊎◌, ℕ, List, [], length, true, string_bytes, Some, Result, Ok as Made, Err, MatchResult, Vec}
use Rattle.std.specs.Global.{Global}
use Rattle.rasn_types.specs.Errors.{IsOutOfMemory}
use Rattle.rasn_schema.specs.declared.schema.Schema.{Schema}
use Rattle.rasn_schema.specs.declared.type_id.TypeId.{TypeId}
use Rattle.rasn_dynamic.specs.declared.refusal.Refusal.{Refusal}
use Rattle.rasn_dynamic.specs.Shown.{shown_refusal, shown_way, way_text}
use Rattle.rasn_c.specs.Buffers.{IsCutInto, IsDelivered}
use Rattle.rasn_c.specs.ErrorKinds.{kind_number}
use Rattle.rasn_c.specs.declared.reasons.Reason.{Reason}
use Rattle.rasn_c.specs.declared.reasons.CallStop.{CallStop}
use Rattle.rasn_c.specs.declared.status.Status.{Status}
use Rattle.rasn_c.specs.declared.status.Status.TheVariants.{Refused, OutOfMemory}

-- there is nothing to report
abbrev pub no_reason : Reason
no_reason = record { kind = 0; line = 0; column = 0; offset = 0; path_length = 0; text_length = 0 }

-- Nothing is reported but the status.
abbrev pub IsPlain : Status → CallStop → Type 0
IsPlain status stop = (stop.status ≡ status) × (stop.reason ≡ no_reason) × (string_bytes stop.text ≡ [])

-- The status is this one, or that of a failed allocation.
abbrev pub IsStatusOr : Status → CallStop → Type 0
IsStatusOr status stop = (stop.status ≡ status) ⊎ (stop.status ≡ OutOfMemory)

-- The reason has this place in a text, and the length of its own text.
pub record IsPlaced (line column : ℕ) (stop : CallStop) : Type 0 where
  pub kind : stop.reason.kind ≡ 0
  pub offset : stop.reason.offset ≡ 0
  pub line_is : stop.reason.line ≡ line
  pub column_is : stop.reason.column ≡ column
  pub text_length : stop.reason.text_length ≡ length (string_bytes stop.text)

-- The end for a fault at this place, with a status: its reason, or a failed allocation.
abbrev pub IsStopAt : ℕ → ℕ → CallStop → Status → Type 0
IsStopAt line column stop Refused = IsPlaced line column stop
IsStopAt line column stop OutOfMemory = Unit {0}
IsStopAt line column stop _ = ⊥

-- The text is that of the refusal, after the names on the way from the type and the indices on the way inside an open type. So many octets precede the refusal's own.
pub record IsNamedText (schema : Schema) (root : TypeId) (inner : List ℕ) (refusal : Refusal) (text : List ℕ) (path_length : ℕ) : Type 0 where
  pub shown : shown_way refusal.is_cut (way_text schema.types.items inner true root.0 refusal.steps.items) (shown_refusal refusal) ≡ Some text
  pub own : List ℕ
  pub shown_own : shown_refusal refusal ≡ Some own
  pub path : path_length ≡ (length text - length own) - 2

-- The reason and the text are those of a refusal that isn't a failed allocation.
pub record IsReasonOf (schema : Schema) (root : TypeId) (inner : List ℕ) (refusal : Refusal) (reason : Reason) (text : List ℕ) : Type 0 where
  pub memory : IsOutOfMemory refusal.error.kind → ⊥
  pub kind : reason.kind ≡ kind_number refusal.error.kind
  pub line : reason.line ≡ 0
  pub column : reason.column ≡ 0
  pub offset : reason.offset ≡ refusal.offset
  pub named : IsNamedText schema root inner refusal text reason.path_length
  pub text_length : reason.text_length ≡ length text

-- The end for a refusal with a status: its reason, or a failed allocation, which may also be that of the text.
abbrev pub IsStopBy : Schema → TypeId → List ℕ → Refusal → CallStop → Status → Type 0
IsStopBy schema root inner refusal stop Refused = IsReasonOf schema root inner refusal stop.reason (string_bytes stop.text)
IsStopBy schema root inner refusal stop OutOfMemory = Unit {0}
IsStopBy schema root inner refusal stop _ = ⊥

abbrev pub IsStopOf : Schema → TypeId → List ℕ → Refusal → CallStop → Type 0
IsStopOf schema root inner refusal stop = IsStopBy schema root inner refusal stop stop.status

-- What is reported of a call: nothing if it has a result, and else the reason, with as much of its text as fits.
abbrev pub IsReported : {T : Type 0} → Result T CallStop → Reason → List ℕ → List ℕ → Result T Status → Type 0
IsReported (Made v) reason old new answer = (answer ≡ Made v) × (reason ≡ no_reason) × IsCutInto [] old new
IsReported (Err stop) reason old new answer = (answer ≡ Err stop.status) × (reason ≡ stop.reason) × IsCutInto (string_bytes stop.text) old new

-- A call makes octets for which `Is` holds, and leaves them in the buffer if they fit; or it ends as `IsNot` says.
pub record Delivers (Is : List ℕ → Type 0) (IsNot : CallStop → Type 0) (reason : Reason) (old_text new_text old new : List ℕ) (needed : ℕ) (status : Status) : Type 0 where
  pub made : Result (Vec ℕ Global) CallStop
  pub is : MatchResult made (λ v. Is v.items) IsNot
  pub answer : Result (Vec ℕ Global) Status
  pub reported : IsReported made reason old_text new_text answer
  pub delivered : IsDelivered answer old new needed status

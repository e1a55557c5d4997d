-- The ends of calls that check.
use Rattle.std.proofs.Common.{ℕ, ◌≡◌, ◌⊎◌, inl, inr, List, [], Some, Result, Ok as Made, Err, MatchResult, sym, subst}
use Rattle.rasn_types.specs.declared.types.codec.Codec.{Codec}
use Rattle.rasn_types.specs.Errors.{IsOutOfMemory}
use Rattle.rasn_schema.specs.declared.schema.Schema.{Schema}
use Rattle.rasn_schema.specs.declared.type_id.TypeId.{TypeId}
use Rattle.rasn_dynamic.specs.declared.refusal.Refusal.{Refusal}
use Rattle.rasn_lint.specs.declared.by_schema.OpenTypes.{OpenTypes}
use Rattle.rasn_lint.specs.declared.departure.Departure.{Departure}
use Rattle.rasn_lint.specs.Lint.{IsFirstDeparture}
use Rattle.rasn_lint.specs.Shown.{indices_of}
use Rattle.rasn_c.specs.Schemas.{IsAsked}
use Rattle.rasn_c.specs.Reasons.{IsStopBy}
use Rattle.rasn_c.specs.Checking.{IsDepartedFrom, IsRefusedAt, IsUnreadBy, IsChecked, IsUncheckedBy, IsCheckedBy, IsStopped, opens_of}
use Rattle.rasn_c.specs.declared.reasons.CallStop.{CallStop}
use Rattle.rasn_c.specs.declared.status.Status.{Status}
use Rattle.rasn_c.specs.declared.status.Status.TheVariants.{Ok, Refused, OutOfMemory, BufferTooSmall, UnknownType, UnknownRule, BadSchema, UnknownPath, Absent}

pub departed_from : (opens : OpenTypes) (schema : Schema) (root : TypeId) (message : List ℕ) (d : Departure) (stop : CallStop) → IsOutOfMemory d.refusal.error.kind ⊎ IsFirstDeparture opens schema.types.items root.0 message (Some d)
    → (status : Status) → stop.status ≡ status → IsStopBy schema root (indices_of d.inner) d.refusal stop status → IsDepartedFrom opens schema root message stop status
departed_from opens schema root message d stop l Refused e h = (
  d,
  elim l [
    | inl m ↦ absurd (h.memory m)
    | inr first ↦ first
  ],
  subst (IsStopBy schema root (indices_of d.inner) d.refusal stop) (sym e) h,
)
departed_from opens schema root message d stop l OutOfMemory e h = tt
departed_from opens schema root message d stop l Ok e h = absurd h
departed_from opens schema root message d stop l BufferTooSmall e h = absurd h
departed_from opens schema root message d stop l UnknownType e h = absurd h
departed_from opens schema root message d stop l UnknownRule e h = absurd h
departed_from opens schema root message d stop l BadSchema e h = absurd h
departed_from opens schema root message d stop l UnknownPath e h = absurd h
departed_from opens schema root message d stop l Absent e h = absurd h

pub refused_at : (rule : Codec) (schema : Schema) (root : TypeId) (message : List ℕ) (r : Refusal) (stop : CallStop) → IsRefusedAt rule schema.types.items root.0 message r
    → (status : Status) → stop.status ≡ status → IsStopBy schema root [] r stop status → IsUnreadBy rule schema root message stop status
refused_at rule schema root message r stop at Refused e h = (r, at, subst (IsStopBy schema root [] r stop) (sym e) h)
refused_at rule schema root message r stop at OutOfMemory e h = tt
refused_at rule schema root message r stop at Ok e h = absurd h
refused_at rule schema root message r stop at BufferTooSmall e h = absurd h
refused_at rule schema root message r stop at UnknownType e h = absurd h
refused_at rule schema root message r stop at UnknownRule e h = absurd h
refused_at rule schema root message r stop at BadSchema e h = absurd h
refused_at rule schema root message r stop at UnknownPath e h = absurd h
refused_at rule schema root message r stop at Absent e h = absurd h

-- What holds of a check by the rules that a call asks for.
pub checked_by : (octets : List ℕ) (number open_types : ℕ) (message : List ℕ) (schema : Schema) (root : TypeId) (asked rule : Codec) → IsAsked octets number schema root asked → asked ≡ rule → (r : Result (Unit {0}) CallStop)
    → MatchResult r (λ u. IsChecked rule (opens_of open_types) schema.types.items root.0 message) (λ stop. IsUncheckedBy rule (opens_of open_types) schema root message stop stop.status)
    → MatchResult r (λ u. IsCheckedBy octets number open_types message) (IsStopped octets number open_types message)
checked_by octets number open_types message schema root asked rule a e (Made u) h = record {
  schema = schema;
  root = root;
  rule = rule;
  asked = subst (IsAsked octets number schema root) e a;
  checked = h;
}
checked_by octets number open_types message schema root asked rule a e (Err stop) h = inl (record {
  schema = schema;
  root = root;
  rule = rule;
  asked = subst (IsAsked octets number schema root) e a;
  unchecked = h;
})

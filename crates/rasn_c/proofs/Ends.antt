-- The ends of calls that convert.
use Rattle.std.proofs.Common.{ℕ, ◌≡◌, ◌↔◌, ◌++◌, ◌∷◌, [], inl, inr, Bool, false, true≢false, List, Result, Ok as Made, Err, MatchResult, refl, sym, ◌∙◌, subst}
use Rattle.std.specs.Prelude.{Vec, IsTrue}
use Rattle.std.specs.Global.{Global}
use Rattle.rasn_types.specs.declared.types.codec.Codec.{Codec}
use Rattle.rasn_schema.specs.declared.schema.Schema.{Schema}
use Rattle.rasn_schema.specs.declared.type_id.TypeId.{TypeId}
use Rattle.rasn_dynamic.specs.Entry.{shape_of}
use Rattle.rasn.specs.declared.normal.NormaliseError.{NormaliseError}
use Rattle.rasn.specs.Normal.{IsNoNormal, IsOutOfMemoryAlone}
use Rattle.rasn.proofs.Normalised.{no_normal}
use Rattle.rasn_c.specs.Schemas.{IsAsked}
use Rattle.rasn_c.specs.Reasons.{IsPlaced, IsPlain, IsStatusOr, IsStopAt}
use Rattle.rasn_c.specs.Checking.{IsUnreadBy}
use Rattle.rasn_c.specs.Converting.{IsJson, IsNoJsonBy, IsNoNormalBy, IsNotNormalised}
use Rattle.rasn_c.specs.declared.reasons.CallStop.{CallStop}
use Rattle.rasn_c.specs.declared.status.Status.{Status}
use Rattle.rasn_c.specs.declared.status.Status.TheVariants.{Ok, Refused, OutOfMemory, BufferTooSmall, UnknownType, UnknownRule, BadSchema, UnknownPath, Absent}

-- What holds of the status and of a failed allocation holds of an end with one of the two.
pub by_status : (P : Status → Type 0) (stop : CallStop) (status : Status) → IsStatusOr status stop → P status → P OutOfMemory → P stop.status
by_status P stop status (inl e) p m = subst P (sym e) p
by_status P stop status (inr e) p m = subst P (sym e) m

-- What holds of a refusal that is placed, and of a failed allocation, holds of an end for a fault at this place.
pub ended_at : (P : Status → Type 0) (line column : ℕ) (stop : CallStop) → IsStopAt line column stop stop.status → (stop.status ≡ Refused → IsPlaced line column stop → P Refused) → P OutOfMemory → P stop.status
ended_at P line column stop h r m = by stop.status refl h
  where
    by : (status : Status) → stop.status ≡ status → IsStopAt line column stop status → P status
    by Refused e p = r e p
    by OutOfMemory e p = m
    by Ok e p = absurd p
    by BufferTooSmall e p = absurd p
    by UnknownType e p = absurd p
    by UnknownRule e p = absurd p
    by BadSchema e p = absurd p
    by UnknownPath e p = absurd p
    by Absent e p = absurd p

-- A refusal isn't a failed allocation.
pub no_memory : (M : Type 0) (status : Status) → (M → status ≡ OutOfMemory) → status ≡ Refused → M → ⊥
no_memory M status h e memory = let both : Refused ≡ OutOfMemory = sym e ∙ h memory in cc

pub json_unread : (octets : List ℕ) (number : ℕ) (message : List ℕ) (stop : CallStop) (schema : Schema) (root : TypeId) (rule : Codec) → IsAsked octets number schema root rule → (status : Status) → IsUnreadBy rule schema root message stop status → IsNoJsonBy octets number message stop status
json_unread octets number message stop schema root rule a Refused h = record {
  schema = schema;
  root = root;
  rule = rule;
  asked = a;
  why = inl h;
}
json_unread octets number message stop schema root rule a OutOfMemory h = tt
json_unread octets number message stop schema root rule a Ok h = absurd h
json_unread octets number message stop schema root rule a BufferTooSmall h = absurd h
json_unread octets number message stop schema root rule a UnknownType h = absurd h
json_unread octets number message stop schema root rule a UnknownRule h = absurd h
json_unread octets number message stop schema root rule a BadSchema h = absurd h
json_unread octets number message stop schema root rule a UnknownPath h = absurd h
json_unread octets number message stop schema root rule a Absent h = absurd h

pub normal_unread : (octets : List ℕ) (number : ℕ) (message : List ℕ) (stop : CallStop) (schema : Schema) (root : TypeId) (rule : Codec) → IsNoNormalBy octets number message → (status : Status) → IsUnreadBy rule schema root message stop status → IsNotNormalised octets number message status
normal_unread octets number message stop schema root rule n Refused h = n
normal_unread octets number message stop schema root rule n OutOfMemory h = tt
normal_unread octets number message stop schema root rule n Ok h = absurd h
normal_unread octets number message stop schema root rule n BufferTooSmall h = absurd h
normal_unread octets number message stop schema root rule n UnknownType h = absurd h
normal_unread octets number message stop schema root rule n UnknownRule h = absurd h
normal_unread octets number message stop schema root rule n BadSchema h = absurd h
normal_unread octets number message stop schema root rule n UnknownPath h = absurd h
normal_unread octets number message stop schema root rule n Absent h = absurd h

-- JSON with a zero after it, if there is memory for it.
pub text_of_json : (octets : List ℕ) (number lines : ℕ) (message text : List ℕ) → IsJson octets number lines message (text ++ 0 ∷ []) → (r : Result (Vec ℕ Global) CallStop) → MatchResult r (λ v. v.items ≡ text ++ 0 ∷ []) (IsPlain OutOfMemory)
    → MatchResult r (λ v. IsJson octets number lines message v.items) (λ stop. IsNoJsonBy octets number message stop stop.status)
text_of_json octets number lines message text j (Made v) h = subst (IsJson octets number lines message) (sym h) j
text_of_json octets number lines message text j (Err stop) h = subst (IsNoJsonBy octets number message stop) (sym h.0) tt

-- What a test that is false tests doesn't hold.
pub never : (b : Bool) (P : Type 0) → IsTrue b ↔ P → b ≡ false → P → ⊥
never b P t f p = true≢false (sym (t.1 p) ∙ f)

pub not_normal : (octets : List ℕ) (number : ℕ) (message : List ℕ) (schema : Schema) (root : TypeId) (rule : Codec) (error : NormaliseError) → IsAsked octets number schema root rule → (IsOutOfMemoryAlone error → ⊥)
    → IsNoNormal rule (shape_of schema.types.items root.0) message error → IsNoNormalBy octets number message
not_normal octets number message schema root rule error a m h = record {
  schema = schema;
  root = root;
  rule = rule;
  asked = a;
  none = λ normal is. elim (no_normal error h) [
    | inl memory ↦ m memory
    | inr missing ↦ missing normal is
  ];
}

-- The end of a call for a refusal.
use Rattle.std.proofs.Common.{ℕ, ◌≡◌, List, length, sym, ap, ◌∙◌, subst}
use Rattle.std.specs.Prelude.{string_bytes}
use Rattle.rasn_types.specs.Errors.{IsOutOfMemory}
use Rattle.rasn_schema.specs.declared.schema.Schema.{Schema}
use Rattle.rasn_schema.specs.declared.type_id.TypeId.{TypeId}
use Rattle.rasn_dynamic.specs.declared.refusal.Refusal.{Refusal}
use Rattle.rasn_c.specs.ErrorKinds.{kind_number}
use Rattle.rasn_c.specs.Reasons.{IsNamedText, IsStopBy, IsStopOf, no_reason}
use Rattle.rasn_c.specs.declared.reasons.Reason.{Reason}
use Rattle.rasn_c.specs.declared.reasons.CallStop.{CallStop}
use Rattle.rasn_c.specs.declared.status.Status.TheVariants.{Refused}

pub stops : (schema : Schema) (root : TypeId) (inner : List ℕ) (refusal : Refusal) (stop : CallStop) (reason : Reason) (text : List ℕ) (n : ℕ) → (IsOutOfMemory refusal.error.kind → ⊥) → IsNamedText schema root inner refusal text n
    → reason ≡ record no_reason { kind = kind_number refusal.error.kind; offset = refusal.offset; path_length = n } → stop.status ≡ Refused → stop.reason ≡ record reason { text_length = length text } → string_bytes stop.text ≡ text
    → IsStopOf schema root inner refusal stop
stops schema root inner refusal stop reason text n m named r s w t = subst (IsStopBy schema root inner refusal stop) (sym s) (record {
  memory = m;
  kind = ap {A = Reason} (λ z. z.kind) w ∙ ap {A = Reason} (λ z. z.kind) r;
  line = ap {A = Reason} (λ z. z.line) w ∙ ap {A = Reason} (λ z. z.line) r;
  column = ap {A = Reason} (λ z. z.column) w ∙ ap {A = Reason} (λ z. z.column) r;
  offset = ap {A = Reason} (λ z. z.offset) w ∙ ap {A = Reason} (λ z. z.offset) r;
  named = subst (λ z. IsNamedText schema root inner refusal z stop.reason.path_length) (sym t) (subst (IsNamedText schema root inner refusal text) (sym (ap {A = Reason} (λ z. z.path_length) w ∙ ap {A = Reason} (λ z. z.path_length) r)) named);
  text_length = ap {A = Reason} (λ z. z.text_length) w ∙ ap length (sym t);
})

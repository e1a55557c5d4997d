-- A part that isn't found.
use Rattle.std.proofs.Common.{ℕ, ◌≡◌, ◌⊎◌, inl, inr, List, [], sym, subst}
use Rattle.rasn_types.specs.declared.types.codec.Codec.{Codec}
use Rattle.rasn_types.specs.Errors.{IsOutOfMemory}
use Rattle.rasn_schema.specs.declared.schema.Schema.{Schema}
use Rattle.rasn_schema.specs.declared.type_id.TypeId.{TypeId}
use Rattle.rasn_dynamic.specs.declared.refusal.Refusal.{Refusal}
use Rattle.std.specs.Str.{IsUtf8}
use Rattle.rasn_dynamic.specs.declared.steps.Step.{Step}
use Rattle.rasn_dynamic.specs.Steps.{IsWay, IsNoWay}
use Rattle.rasn_dynamic.specs.Faults.{IsLocated}
use Rattle.rasn_c.specs.Schemas.{IsAsked}
use Rattle.rasn_c.specs.Reasons.{IsStopBy}
use Rattle.rasn_dynamic.specs.PathText.{AreStepsOf}
use Rattle.rasn_c.specs.Finding.{IsPathOf, HasNoPath, IsNoPath, IsNotFoundBy}
use Rattle.rasn_dynamic.proofs.PathTexts.{no_way, one_path}
use Rattle.rasn_c.specs.declared.reasons.CallStop.{CallStop}
use Rattle.rasn_c.specs.declared.status.Status.{Status}
use Rattle.rasn_c.specs.declared.status.Status.TheVariants.{Ok, Refused, OutOfMemory, BufferTooSmall, UnknownType, UnknownRule, BadSchema, UnknownPath, Absent}

pub no_path : (octets : List ℕ) (number : ℕ) (message path : List ℕ) (stop : CallStop) (schema : Schema) (root : TypeId) (rule : Codec) → IsAsked octets number schema root rule → (status : Status) → IsNoPath schema root path status → IsNotFoundBy octets number message path stop status
no_path octets number message path stop schema root rule a UnknownPath h = record {
  schema = schema;
  root = root;
  rule = rule;
  asked = a;
  none = h;
}
no_path octets number message path stop schema root rule a OutOfMemory h = tt
no_path octets number message path stop schema root rule a Ok h = absurd h
no_path octets number message path stop schema root rule a Refused h = absurd h
no_path octets number message path stop schema root rule a BufferTooSmall h = absurd h
no_path octets number message path stop schema root rule a UnknownType h = absurd h
no_path octets number message path stop schema root rule a UnknownRule h = absurd h
no_path octets number message path stop schema root rule a BadSchema h = absurd h
no_path octets number message path stop schema root rule a Absent h = absurd h

pub unread_on_way : (octets : List ℕ) (number : ℕ) (message path : List ℕ) (stop : CallStop) (schema : Schema) (root : TypeId) (rule : Codec) (indices : List ℕ) (refusal : Refusal) → IsAsked octets number schema root rule → IsPathOf schema root path indices
    → IsOutOfMemory refusal.error.kind ⊎ IsLocated schema.types.items rule root.0 message refusal → (status : Status) → stop.status ≡ status → IsStopBy schema root [] refusal stop status → IsNotFoundBy octets number message path stop status
unread_on_way octets number message path stop schema root rule indices refusal a p l Refused e h = record {
  schema = schema;
  root = root;
  rule = rule;
  asked = a;
  indices = indices;
  path_is = p;
  refusal = refusal;
  located = elim l [
    | inl m ↦ absurd (h.memory m)
    | inr at ↦ at
  ];
  stops = subst (IsStopBy schema root [] refusal stop) (sym e) h;
}
unread_on_way octets number message path stop schema root rule indices refusal a p l OutOfMemory e h = tt
unread_on_way octets number message path stop schema root rule indices refusal a p l Ok e h = absurd h
unread_on_way octets number message path stop schema root rule indices refusal a p l BufferTooSmall e h = absurd h
unread_on_way octets number message path stop schema root rule indices refusal a p l UnknownType e h = absurd h
unread_on_way octets number message path stop schema root rule indices refusal a p l UnknownRule e h = absurd h
unread_on_way octets number message path stop schema root rule indices refusal a p l BadSchema e h = absurd h
unread_on_way octets number message path stop schema root rule indices refusal a p l UnknownPath e h = absurd h
unread_on_way octets number message path stop schema root rule indices refusal a p l Absent e h = absurd h

-- What isn't UTF-8 is the text of no steps, and so is what isn't that of any.
pub not_text : (schema : Schema) (root : TypeId) (path : List ℕ) → (IsUtf8 path → ⊥) → HasNoPath schema root path
not_text schema root path n steps a = absurd (n a.utf8)

pub not_steps : (schema : Schema) (root : TypeId) (path text : List ℕ) → text ≡ path → ((steps : List Step) → AreStepsOf text steps → ⊥) → HasNoPath schema root path
not_steps schema root path text e n steps a = absurd (n steps (subst (λ z. AreStepsOf z steps) (sym e) a))

pub no_part : (schema : Schema) (root : TypeId) (path text : List ℕ) (steps given : List Step) → text ≡ path → AreStepsOf text steps → given ≡ steps → IsNoWay schema.types.items 18446744073709551615 root.0 given → HasNoPath schema root path
no_part schema root path text steps given e a i n others b =
    no_way schema.types.items 18446744073709551615 root.0 steps others (one_path path steps others (subst (λ z. AreStepsOf z steps) e a) b) (subst (IsNoWay schema.types.items 18446744073709551615 root.0) i n)

pub is_path : (schema : Schema) (root : TypeId) (path text : List ℕ) (steps given : List Step) (indices : List ℕ) → text ≡ path → AreStepsOf text steps → given ≡ steps → IsWay schema.types.items 18446744073709551615 root.0 given indices → IsPathOf schema root path indices
is_path schema root path text steps given indices e a i w = record {
  steps = steps;
  of_text = subst (λ z. AreStepsOf z steps) e a;
  way = subst (λ l. IsWay schema.types.items 18446744073709551615 root.0 l indices) i w;
}

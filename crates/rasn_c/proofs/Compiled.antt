-- The schema of a type of modules as octets.
use Rattle.std.proofs.Common.{ℕ, ◌≡◌, ◌<◌, ◌≢◌, ◌+◌, ◌++◌, ◌∷◌, [], inl, inr, List, length, take, map, get_or, Some, Result, Ok as Made, Err, MatchResult, false, true≢false, refl, sym, ap, subst, ◌∙◌}
use Rattle.std.specs.Prelude.{Vec, IsUtf8, is_err, is_ok, if◌then◌else◌}
use Rattle.std.specs.Global.{Global}
use Rattle.std.proofs.lemmas.List.{map-append, map_more}
use Rattle.std.proofs.lemmas.List.Elements.{All-contains, All-from_get_or}
use Rattle.rasn_schema.specs.declared.schema.Schema.{Schema}
use Rattle.rasn_schema.specs.declared.type_id.TypeId.{TypeId}
use Rattle.rasn_schema.specs.declared.named.TypeName.{TypeName}
use Rattle.rasn_schema.specs.Named.{IsNamed}
use Rattle.rasn_schema_octets.specs.Octets.{IsSchemaOctets}
use Rattle.rasn_compiler.specs.declared.modules.Source.{Source}
use Rattle.rasn_compiler.specs.declared.tree.Module.{Module}
use Rattle.rasn_c.specs.Compiling.{AreTexts, AreNoTexts, AreModulesOf, HasNoPoint, IsTypeAsked, IsSchemaOf, IsNoSchema, IsCompiled, IsNotCompiled, source_parts, text_parts}
use Rattle.rasn_c.specs.Reasons.{IsStopAt}
use Rattle.rasn_c.specs.declared.compiling.Texts.{Texts}
use Rattle.rasn_c.specs.declared.reasons.CallStop.{CallStop}
use Rattle.rasn_c.specs.declared.status.Status.{Status}
use Rattle.rasn_c.specs.declared.status.Status.TheVariants.{Ok, Refused, OutOfMemory, BufferTooSmall, UnknownType, UnknownRule, BadSchema, UnknownPath, Absent}
use Rattle.rasn_c.proofs.Ends.{ended_at}

-- No octet of the text is that of a point.
pub no_point : (text : List ℕ) → ((i : ℕ) → i < length text → get_or text i 0 ≢ 46) → HasNoPoint text
no_point text h has = All-contains (λ c. c ≢ 46) text 46 (All-from_get_or (λ c. c ≢ 46) text 0 h) has refl

pub pushed : {T E X : Type 0} (r : Result T E) (new longer old : X) → is_err r ≡ false → new ≡ if is_ok r then longer else old → new ≡ longer
pushed (Made u) new longer old e h = h
pushed (Err x) new longer old e h = absurd (true≢false e)

pub one_more_source : (texts : List Texts) (sources : List Source) (i : ℕ) (text : Texts) (source : Source) → i < length texts → source_parts source ≡ text_parts (get_or texts i text) → map source_parts sources ≡ map text_parts (take i texts)
    → map source_parts (sources ++ source ∷ []) ≡ map text_parts (take (i + 1) texts)
one_more_source texts sources i text source h e m =
    map-append source_parts sources (source ∷ []) ∙ ap (λ l. l ++ source_parts source ∷ []) m ∙ ap (λ p. map text_parts (take i texts) ++ p ∷ []) e ∙ sym (map_more text_parts texts i text h)

-- The schema of a type, and its name.
pub record Names (schema : Schema) (root : TypeId) (type_name : List ℕ) : Type 0 where
  pub within : root.0 < length schema.types.items
  pub names : Vec TypeName Global
  pub names_are : schema.names ≡ Some names
  pub named : IsNamed names.items type_name root

pub schema_made : (modules : List Module) (name : List ℕ) (schema : Schema) (root : TypeId) (unchecked : ℕ) (type_name : List ℕ) → IsTypeAsked modules name type_name → Names schema root type_name → (r : Result (Vec ℕ Global) CallStop)
    → MatchResult r (λ v. IsSchemaOctets schema root unchecked v.items) (λ stop. IsStopAt 0 0 stop stop.status) → MatchResult r (λ v. IsSchemaOf modules name v.items) (λ stop. IsNoSchema modules name stop stop.status)
schema_made modules name schema root unchecked type_name a n (Made v) h = record {
  type_name = type_name;
  asked = a;
  schema = schema;
  root = root;
  within = n.within;
  unchecked = unchecked;
  octets = h;
  names = n.names;
  names_are = n.names_are;
  named = n.named;
}
schema_made modules name schema root unchecked type_name a n (Err stop) h = ended_at (IsNoSchema modules name stop) 0 0 stop h (λ e placed. ((type_name, a), inr placed)) tt

pub no_texts : (texts : List Texts) (name : List ℕ) (stop : CallStop) (status : Status) → AreNoTexts texts status → IsNotCompiled texts name stop status
no_texts texts name stop Refused h = inl h
no_texts texts name stop OutOfMemory h = tt
no_texts texts name stop Ok h = absurd h
no_texts texts name stop BufferTooSmall h = absurd h
no_texts texts name stop UnknownType h = absurd h
no_texts texts name stop UnknownRule h = absurd h
no_texts texts name stop BadSchema h = absurd h
no_texts texts name stop UnknownPath h = absurd h
no_texts texts name stop Absent h = absurd h

pub not_compiled : (texts : List Texts) (name : List ℕ) (modules : List Module) (stop : CallStop) → AreTexts texts → IsUtf8 name → AreModulesOf texts modules → (status : Status) → IsNoSchema modules name stop status → IsNotCompiled texts name stop status
not_compiled texts name modules stop t u m Refused h = inr (t, inr (u, modules, m, h))
not_compiled texts name modules stop t u m OutOfMemory h = tt
not_compiled texts name modules stop t u m UnknownType h = (t, inr (u, modules, m, h))
not_compiled texts name modules stop t u m Ok h = absurd h
not_compiled texts name modules stop t u m BufferTooSmall h = absurd h
not_compiled texts name modules stop t u m UnknownRule h = absurd h
not_compiled texts name modules stop t u m BadSchema h = absurd h
not_compiled texts name modules stop t u m UnknownPath h = absurd h
not_compiled texts name modules stop t u m Absent h = absurd h

pub compiled : (texts : List Texts) (name : List ℕ) (modules : List Module) → AreTexts texts → IsUtf8 name → AreModulesOf texts modules → (r : Result (Vec ℕ Global) CallStop)
    → MatchResult r (λ v. IsSchemaOf modules name v.items) (λ stop. IsNoSchema modules name stop stop.status) → MatchResult r (λ v. IsCompiled texts name v.items) (λ stop. IsNotCompiled texts name stop stop.status)
compiled texts name modules t u m (Made v) h = (t, u, modules, m, h)
compiled texts name modules t u m (Err stop) h = not_compiled texts name modules stop t u m stop.status h

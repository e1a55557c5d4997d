-- A message as JSON, JSON as a message, and the DER octets of a message.
use Rattle.std.specs.Prelude.{◌≡◌, ◌⊎◌, ◌++◌, ◌∷◌, [], ℕ, zero, suc, min, List, IsUtf8, Ok as Made}
use Rattle.rasn_types.specs.declared.types.codec.Codec.{Codec}
use Rattle.rasn.specs.Headline.{AnsweredAlone}
use Rattle.rasn.specs.Normal.{IsNormal}
use Rattle.rasn_schema.specs.declared.schema.Schema.{Schema}
use Rattle.rasn_schema.specs.declared.type_id.TypeId.{TypeId}
use Rattle.rasn_schema.specs.declared.value.Value.{Value}
use Rattle.rasn_schema.specs.Trees.{tree_of}
use Rattle.rasn_dynamic.specs.Entry.{IsEncoded, shape_of}
use Rattle.rasn_json.specs.declared.layout.Layout.{Layout}
use Rattle.rasn_json.specs.declared.layout.Layout.TheVariants.{Compact, Indented}
use Rattle.rasn_json.specs.Entry.{HasJson, IsLaidOut, IsMemoryAlone, IsNotEncodedFrom, IsReadAs, IsRefusedJson}
use Rattle.rasn_json.specs.declared.entry.EncodeJsonError.{EncodeJsonError}
use Rattle.rasn_json.specs.declared.entry.EncodeJsonError.TheVariants.{Json as NotRead, Encode as NotWritten}
use Rattle.rasn_json.specs.declared.error.JsonError.{JsonError}
use Rattle.rasn_json.specs.declared.error.JsonErrorKind.{JsonErrorKind}
use Rattle.rasn_json.specs.declared.error.JsonErrorKind.TheVariants.{Syntax, TextTooDeep}
use Rattle.rasn_c.specs.Schemas.{IsAsked, IsNotAsked}
use Rattle.rasn_c.specs.Checking.{IsUnreadBy}
use Rattle.rasn_c.specs.Reasons.{Delivers, IsPlaced}
use Rattle.rasn_c.specs.declared.reasons.Reason.{Reason}
use Rattle.rasn_c.specs.declared.reasons.CallStop.{CallStop}
use Rattle.rasn_c.specs.declared.status.Status.{Status}
use Rattle.rasn_c.specs.declared.status.Status.TheVariants.{Refused}

-- how JSON is laid out
abbrev pub layout_of : ℕ → Layout
layout_of zero = Compact
layout_of (suc n) = Indented

-- The octets are JSON of the value that all of the message is, and a zero.
pub record IsJson (octets : List ℕ) (number lines : ℕ) (message made : List ℕ) : Type 0 where
  pub schema : Schema
  pub root : TypeId
  pub rule : Codec
  pub asked : IsAsked octets number schema root rule
  pub value : Value
  pub read : AnsweredAlone rule (shape_of schema.types.items root.0) tree_of message (Made value)
  pub json : List ℕ
  pub has : HasJson schema.types.items root.0 value json
  pub laid_out : IsLaidOut (layout_of lines) json
  pub text : made ≡ json ++ 0 ∷ []

-- a line or a column as 32 bits hold it
abbrev pub cut : ℕ → ℕ
cut n = min n 4294967295

-- where a text is refused that isn't JSON; other errors have no place
abbrev pub line_of : JsonErrorKind → ℕ
line_of (Syntax line column) = cut line
line_of (TextTooDeep line column) = cut line
line_of _ = 0

abbrev pub column_of : JsonErrorKind → ℕ
column_of (Syntax line column) = cut column
column_of (TextTooDeep line column) = cut column
column_of _ = 0

-- All of the message is a value that has no JSON, and the error names the part that has none.
pub record IsWithoutJson (rule : Codec) (schema : Schema) (root : TypeId) (message : List ℕ) (stop : CallStop) : Type 0 where
  pub value : Value
  pub read : AnsweredAlone rule (shape_of schema.types.items root.0) tree_of message (Made value)
  pub error : JsonError
  pub refused : IsRefusedJson schema.types.items root.0 value error
  pub place : IsPlaced (line_of error.kind) (column_of error.kind) stop

-- The message isn't read as a value of the type, and this is where and why; or its value has no JSON.
pub record IsNoJson (octets : List ℕ) (number : ℕ) (message : List ℕ) (stop : CallStop) : Type 0 where
  pub schema : Schema
  pub root : TypeId
  pub rule : Codec
  pub asked : IsAsked octets number schema root rule
  pub why : IsUnreadBy rule schema root message stop Refused ⊎ IsWithoutJson rule schema root message stop

abbrev pub IsNoJsonBy : List ℕ → ℕ → List ℕ → CallStop → Status → Type 0
IsNoJsonBy octets number message stop Refused = IsNoJson octets number message stop
IsNoJsonBy octets number message stop status = IsNotAsked octets number status

-- What a call leaves that writes JSON.
abbrev pub AnswersJson : List ℕ → ℕ → ℕ → List ℕ → Reason → List ℕ → List ℕ → List ℕ → List ℕ → ℕ → Status → Type 0
AnswersJson octets number lines message reason old_text new_text old new needed status =
    Delivers (IsJson octets number lines message) (λ stop. IsNoJsonBy octets number message stop stop.status) reason old_text new_text old new needed status

-- The octets are those of the value that the text is.
pub record IsEncodedFrom (octets : List ℕ) (number : ℕ) (text made : List ℕ) : Type 0 where
  pub schema : Schema
  pub root : TypeId
  pub rule : Codec
  pub asked : IsAsked octets number schema root rule
  pub value : Value
  pub read : IsReadAs schema.types.items root.0 text value
  pub encoded : IsEncoded rule schema.types.items root.0 value made

-- Where the text is refused, if it isn't JSON. A value that isn't written has no place.
abbrev pub IsPlacedBy : EncodeJsonError → CallStop → Type 0
IsPlacedBy (NotRead error) stop = IsPlaced (line_of error.kind) (column_of error.kind) stop
IsPlacedBy (NotWritten error) stop = IsPlaced 0 0 stop

-- An error that isn't a failed allocation refuses the text, or its value.
pub record IsWithoutOctets (rule : Codec) (schema : Schema) (root : TypeId) (text : List ℕ) (stop : CallStop) : Type 0 where
  pub error : EncodeJsonError
  pub memory : IsMemoryAlone error → ⊥
  pub refused : IsNotEncodedFrom rule schema.types.items root.0 text error
  pub place : IsPlacedBy error stop

-- The text isn't UTF-8; or it isn't read as a value of the type, or its value has no octets.
pub record IsNotEncoded (octets : List ℕ) (number : ℕ) (text : List ℕ) (stop : CallStop) : Type 0 where
  pub schema : Schema
  pub root : TypeId
  pub rule : Codec
  pub asked : IsAsked octets number schema root rule
  pub why : (IsUtf8 text → ⊥) ⊎ IsWithoutOctets rule schema root text stop

abbrev pub IsNotEncodedBy : List ℕ → ℕ → List ℕ → CallStop → Status → Type 0
IsNotEncodedBy octets number text stop Refused = IsNotEncoded octets number text stop
IsNotEncodedBy octets number text stop status = IsNotAsked octets number status

-- What a call leaves that encodes JSON.
abbrev pub AnswersEncode : List ℕ → ℕ → List ℕ → Reason → List ℕ → List ℕ → List ℕ → List ℕ → ℕ → Status → Type 0
AnswersEncode octets number text reason old_text new_text old new needed status =
    Delivers (IsEncodedFrom octets number text) (λ stop. IsNotEncodedBy octets number text stop stop.status) reason old_text new_text old new needed status

-- The octets are the one DER encoding of the value that all of the message is.
pub record IsNormalBy (octets : List ℕ) (number : ℕ) (message made : List ℕ) : Type 0 where
  pub schema : Schema
  pub root : TypeId
  pub rule : Codec
  pub asked : IsAsked octets number schema root rule
  pub normal : IsNormal rule (shape_of schema.types.items root.0) message made

-- There is none.
pub record IsNoNormalBy (octets : List ℕ) (number : ℕ) (message : List ℕ) : Type 0 where
  pub schema : Schema
  pub root : TypeId
  pub rule : Codec
  pub asked : IsAsked octets number schema root rule
  pub none : (normal : List ℕ) → IsNormal rule (shape_of schema.types.items root.0) message normal → ⊥

abbrev pub IsNotNormalised : List ℕ → ℕ → List ℕ → Status → Type 0
IsNotNormalised octets number message Refused = IsNoNormalBy octets number message
IsNotNormalised octets number message status = IsNotAsked octets number status

-- What a call leaves that normalises a message.
abbrev pub AnswersNormaliseBy : List ℕ → ℕ → List ℕ → Reason → List ℕ → List ℕ → List ℕ → List ℕ → ℕ → Status → Type 0
AnswersNormaliseBy octets number message reason old_text new_text old new needed status =
    Delivers (IsNormalBy octets number message) (λ stop. IsNotNormalised octets number message stop.status) reason old_text new_text old new needed status

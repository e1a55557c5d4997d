-- What the entry points return.
use Rattle.std.specs.Prelude.{◌≡◌, ℕ, List, [], Some, Ok, Err}
use Rattle.json.specs.Json.{Json, value}
use Rattle.json.specs.Lex.{tokens}
use Rattle.json.specs.Print.{print}
use Rattle.json.specs.Layout.{pretty}
use Rattle.json.specs.Tree.{json_tokens}
use Rattle.rasn_types.specs.declared.types.codec.Codec.{Codec}
use Rattle.rasn.specs.Headline.{AnsweredAlone}
use Rattle.rasn_schema.specs.declared.types.«Type».{«Type»}
use Rattle.rasn_schema.specs.declared.value.Value.{Value}
use Rattle.rasn_schema.specs.Trees.{tree_of}
use Rattle.rasn_dynamic.specs.Entry.{FitsType, IsNotEncoded, shape_of}
use Rattle.rasn_json.specs.declared.layout.Layout.{Layout}
use Rattle.rasn_json.specs.declared.layout.Layout.TheVariants.{Compact, Indented}
use Rattle.rasn_json.specs.declared.entry.ToJsonError.{ToJsonError}
use Rattle.rasn_json.specs.declared.entry.ToJsonError.TheVariants.{Decode, Json as NoJson}
use Rattle.rasn_json.specs.declared.entry.EncodeJsonError.{EncodeJsonError}
use Rattle.rasn_json.specs.declared.entry.EncodeJsonError.TheVariants.{Json as NotRead, Encode}
use Rattle.rasn_dynamic.specs.declared.entry.WriteError.TheVariants.{Encode as OfEncode, Unfit}
use Rattle.rasn_types.specs.Errors.{IsEncodeOutOfMemory}
use Rattle.rasn_json.specs.declared.error.JsonError.{JsonError}
use Rattle.rasn_json.specs.Json.{JsonWithin}
use Rattle.rasn_json.specs.Reading.{ReadAt}
use Rattle.rasn_json.specs.Refusals.{IsMemory, IsRefusedAt, OrMemory}

-- The text is JSON of the value, in which at most 512 arrays and objects are nested.
abbrev pub HasJson : List «Type» → ℕ → Value → List ℕ → Type 0
HasJson types id v text = (j : Json) × (tokens text ≡ json_tokens j) × JsonWithin types 18446744073709551615 512 id v j

abbrev pub IsLaidOut : Layout → List ℕ → Type 0
IsLaidOut Compact text = text ≡ print (tokens text)
IsLaidOut Indented text = text ≡ pretty (tokens text)

-- The value has no such JSON, and the error says which part is refused, and why.
abbrev pub IsRefusedJson : List «Type» → ℕ → Value → JsonError → Type 0
IsRefusedJson types id v e =
    ((j : Json) → JsonWithin types 18446744073709551615 512 id v j → ⊥) × IsRefusedAt types 18446744073709551615 512 id v e

-- Memory ran out, or there is none.
abbrev pub HasNoJson : List «Type» → ℕ → Value → JsonError → Type 0
HasNoJson types id v = OrMemory (IsRefusedJson types id v)

-- The octets aren't those of a value, or the value has no JSON.
abbrev pub IsNoJsonOf : Codec → List «Type» → ℕ → List ℕ → ToJsonError → Type 0
IsNoJsonOf rule types id input (Decode e) = AnsweredAlone rule (shape_of types id) tree_of input (Err e)
IsNoJsonOf rule types id input (NoJson e) =
    (v : Value) × AnsweredAlone rule (shape_of types id) tree_of input (Ok v) × HasNoJson types id v e

-- The text is JSON, nested within the limit, and is read as this value.
abbrev pub IsReadAs : List «Type» → ℕ → List ℕ → Value → Type 0
IsReadAs types id text v = (j : Json) × (value 512 (tokens text) ≡ Some (j, [])) × ReadAt types 18446744073709551615 id j v

-- The value that the text is read as has no octets, unless it is the text that is refused.
abbrev pub IsNotEncodedFrom : Codec → List «Type» → ℕ → List ℕ → EncodeJsonError → Type 0
IsNotEncodedFrom rule types id text (NotRead e) = Unit {0}
IsNotEncodedFrom rule types id text (Encode e) = (v : Value) × FitsType types id v × IsReadAs types id text v × IsNotEncoded rule types id v e

-- The cause is that memory ran out.
abbrev pub IsMemoryAlone : EncodeJsonError → Type 0
IsMemoryAlone (NotRead e) = IsMemory e
IsMemoryAlone (Encode (OfEncode e)) = IsEncodeOutOfMemory e.kind
IsMemoryAlone (Encode (Unfit path)) = ⊥

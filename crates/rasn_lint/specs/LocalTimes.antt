-- Local times: GeneralizedTimes without a zone (X.680 46.3).
use Rattle.std.specs.Prelude.{◌≡◌, ◌⊎◌, ◌==◌, ◌||◌, ◌-◌, ℕ, List, [], ◌∷◌, ◌++◌, length, Bool, true, false, Option, Some, None, MatchOption, if◌then◌else◌, slice_get}
use Rattle.std.specs.List.{AllByRecursion, list_any}
use Rattle.rasn_types.specs.declared.types.codec.Codec.{Codec}
use Rattle.rasn_types.specs.declared.types.codec.Codec.TheVariants.{Ber, Der}
use Rattle.rasn_types.specs.declared.types.tag.Tag.{Tag}
use Rattle.rasn_types.specs.Shapes.{leaf, numbers, octet_string}
use Rattle.rasn_types.specs.Trees.{unconstrained}
use Rattle.rasn_types.specs.Grammar.{Reads, top}
use Rattle.rasn_de.specs.Time.{IsInvalidDate}
use Rattle.rasn_schema.specs.declared.types.LeafKind.{LeafKind}
use Rattle.rasn_schema.specs.declared.types.LeafKind.TheVariants.{GeneralizedTime}
use Rattle.rasn_schema.specs.declared.types.«Type».{«Type»}
use Rattle.rasn_schema.specs.declared.types.«Type».TheVariants.{Leaf}
use Rattle.rasn_dynamic.specs.declared.span.Span.{Span}
use Rattle.rasn_dynamic.specs.declared.message.MessageParts.{MessageParts}
use Rattle.rasn_dynamic.specs.declared.refusal.Refusal.{Refusal}
use Rattle.rasn_dynamic.specs.Walk.{ArePartsOf, path_after}

-- Z, or the sign of a difference from UTC (46.3 b, c)
abbrev pub is_of_zone : ℕ → Bool
is_of_zone c = (c == 90) || (c == 43) || (c == 45)

abbrev pub is_generalized_time : LeafKind → Bool
is_generalized_time GeneralizedTime = true
is_generalized_time kind = false

-- the tag of a type of GeneralizedTimes
abbrev pub time_tag : «Type» → Option Tag
time_tag (Leaf kind tag c names) = if is_generalized_time kind then Some tag else None
time_tag ty = None

abbrev pub time_tag_of : Option «Type» → Option Tag
time_tag_of None = None
time_tag_of (Some ty) = time_tag ty

-- The part is a GeneralizedTime with this text: that of its segments one after the other.
abbrev pub IsTimeText : List «Type» → Span → List ℕ → Type 0
IsTimeText types e text = (tag : Tag) × (rest : List ℕ) × (time_tag_of (slice_get types e.id.0) ≡ Some tag)
    × Reads Ber (leaf octet_string tag unconstrained) 128 (top Ber) e.octets.now (numbers text) rest

-- It is a local time: no character of a zone is in the text.
abbrev pub IsLocalTime : List «Type» → Span → List ℕ → Type 0
IsLocalTime types e text = IsTimeText types e text × (list_any is_of_zone text ≡ false)

-- The part isn't a GeneralizedTime, or it is one with a zone.
abbrev pub IsNotLocal : List «Type» → Span → Type 0
IsNotLocal types e = ((text : List ℕ) → IsTimeText types e text → ⊥) ⊎ ((text : List ℕ) × IsTimeText types e text × (list_any is_of_zone text ≡ true))

-- the path to the last of these parts, after that of the part before them
abbrev pub path_along : List ℕ → List Span → List ℕ
path_along path [] = path
path_along path (e ∷ es) = path_along (path_after path e) es

-- The refusal is that of the part with this path and this text, in a message of so many octets. The error is the one that
-- DER has for the text.
pub record IsRefusalOf (len : ℕ) (path : List ℕ) (e : Span) (text : List ℕ) (r : Refusal) : Type 0 where
  pub error : IsInvalidDate text Der r.error
  pub offset : r.offset ≡ len - e.left
  pub id : r.id ≡ e.id
  pub steps : r.steps.items ≡ path

-- The refusal is that of the first of the parts that is a local time.
pub record IsFirstLocal (types : List «Type») (len : ℕ) (parts : List Span) (r : Refusal) : Type 0 where
  pub before : List Span
  pub part : Span
  pub after : List Span
  pub are : parts ≡ before ++ part ∷ after
  pub none : AllByRecursion (IsNotLocal types) before
  pub text : List ℕ
  pub is_local : IsLocalTime types part text
  pub refusal : IsRefusalOf len (path_along [] (before ++ part ∷ [])) part text r

abbrev pub IsFirstOrNone : List «Type» → ℕ → List Span → Option Refusal → Type 0
IsFirstOrNone types len parts found = MatchOption found (AllByRecursion (IsNotLocal types) parts) (IsFirstLocal types len parts)

-- The same of the parts of a message, which the rules read.
abbrev pub IsFirstIn : List «Type» → Codec → ℕ → List ℕ → Option Refusal → Type 0
IsFirstIn types rule id input found = (parts : MessageParts) × ArePartsOf types rule id input parts × IsFirstOrNone types (length input) parts.list.items found

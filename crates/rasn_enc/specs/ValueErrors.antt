-- Which errors calls that write values of other types have, given those that these types have.
use Rattle.std.specs.Prelude.{ℕ, ◌≡◌, ◌⊎◌, List, ◌∷◌, ◌++◌, map, Option, None, Some}
use Rattle.rasn_types.specs.Shapes.{Shape, Tree, Presence}
use Rattle.rasn_types.specs.Bytes.{Bytes, Each, WritesPart}
use Rattle.rasn_types.specs.declared.types.codec.Codec.{Codec}
use Rattle.rasn_types.specs.declared.types.parts.OneOf.{OneOf}
use Rattle.rasn_types.specs.declared.types.parts.OneOf.TheVariants.{This, Other}
use Rattle.rasn_types.specs.declared.error.encode.EncodeError.{EncodeError}
use Rattle.rasn_enc.specs.Primitive.{IsAllocError}

-- An allocation fails, or the error is one of these.
abbrev pub IsAllocErrorOr : Codec → (EncodeError → Type 0) → EncodeError → Type 0
IsAllocErrorOr rule errors e = IsAllocError rule e ⊎ errors e

-- The error is one of the value, if there is a value.
abbrev pub IsErrorOfOption : {T : Type 0} → (T → EncodeError → Type 0) → Option T → EncodeError → Type 0
IsErrorOfOption errors None e = ⊥
IsErrorOfOption errors (Some v) e = errors v e

-- The elements before some element have octets, and the error is one of this element.
pub record IsErrorOfElement {D : Type 0} (s : Shape) (tree : D → Tree) (errors : D → EncodeError → Type 0) (vs : List D) (rule : Codec) (e : EncodeError) : Type 0 where
  pub front : List D
  pub value : D
  pub back : List D
  pub is : vs ≡ front ++ value ∷ back
  pub encoded : List (List ℕ)
  pub before : Each (Bytes rule s) (map tree front) encoded
  pub error : errors value e

-- The error is one of the part, or the part has octets and the error is one of the parts after it.
abbrev pub IsErrorOfParts : Codec → Presence → Shape → Tree → (EncodeError → Type 0) → (EncodeError → Type 0) → EncodeError → Type 0
IsErrorOfParts rule p s t first others e = first e ⊎ ((octets : List ℕ) × WritesPart p (Bytes rule s) t octets × others e)

-- The error is one of the chosen alternative.
abbrev pub one_of_errors : {A R : Type 0} → (A → Codec → EncodeError → Type 0) → (R → Codec → EncodeError → Type 0) → OneOf A R → Codec → EncodeError → Type 0
one_of_errors errors others (This a) = errors a
one_of_errors errors others (Other r) = others r

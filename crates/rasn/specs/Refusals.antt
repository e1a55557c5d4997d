-- Why an input isn't read as a whole value.
use Rattle.std.specs.Prelude.{◌⊎◌, ℕ, List}
use Rattle.rasn_types.specs.declared.types.codec.Codec.{Codec}
use Rattle.rasn_types.specs.declared.error.decode.DecodeError.{DecodeError}
use Rattle.rasn_types.specs.Shapes.{Shape}
use Rattle.rasn_types.specs.Grammar.{Reads, top}
use Rattle.rasn_de.specs.State.{at, IsEnd}
use Rattle.rasn_de.specs.Outcomes.{Exact, refusal}
use Rattle.rasn_de.specs.ValueErrors.{Errors}
use Rattle.rasn.specs.Headline.{front, IsFollowed}

-- The error is one of these, which a decoder at the front of the input has: it leaves this end of the input.
pub record FailsFirst (errors : Errors) (rule : Codec) (input : List ℕ) (e : DecodeError) : Type 0 where
  pub left : List ℕ
  pub end : IsEnd input left
  pub error : errors (front rule input) e (at (front rule input) left)

-- The input doesn't begin with a value, and the error is one of these.
pub record IsUnread (errors : Errors) (rule : Codec) (shape : Shape) (input : List ℕ) (e : DecodeError) : Type 0 where
  pub unread : Exact (Reads rule shape 128 (top rule)) input (refusal e.kind)
  pub fails : FailsFirst errors rule input e

-- The input isn't one value, alone: it doesn't begin with a value, and the error is one of these; or octets follow the
-- value, and the error has their number.
abbrev pub FailsAlone : Errors → Codec → Shape → List ℕ → DecodeError → Type 0
FailsAlone errors rule shape input e = IsUnread errors rule shape input e ⊎ IsFollowed rule shape input e

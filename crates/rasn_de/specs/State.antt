-- The state of a decoder, as its callers see it.
use Rattle.std.specs.Prelude.{◌≡◌, ℕ, List, ◌++◌, Bool, Result}
use Rattle.rasn_types.specs.declared.types.codec.Codec.{Codec}
use Rattle.rasn_types.specs.declared.error.decode.DecodeError.{DecodeError}

-- The rules, the remaining depth, whether end-of-contents octets may end the contents, the whole input, and the
-- remaining input.
pub record State : Type 0 where
  pub rule : Codec
  pub depth : ℕ
  pub closing : Bool
  pub whole : List ℕ
  pub rest : List ℕ

-- The state with another remaining input.
abbrev pub at : State → List ℕ → State
at s r = record s { rest = r }

-- l is a suffix of m.
abbrev pub IsEnd : List ℕ → List ℕ → Type 0
IsEnd m l = (front : List ℕ) × (m ≡ front ++ l)

-- What calls of a decoder do: read o r n means that a call on the decoder o may return r and leave n.
abbrev pub Call : Type 0 → Type 1
Call D = State → Result D DecodeError → State → Type 0

-- Every result that these allow, those allow too.
abbrev pub EachCall : {D : Type 0} → Call D → Call D → Type 0
EachCall {D} these those = (o : State) (r : Result D DecodeError) (n : State) → these o r n → those o r n

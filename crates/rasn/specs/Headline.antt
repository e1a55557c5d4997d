-- What an entry point returns.
use Rattle.std.specs.Prelude.{◌≡◌, ◌≢◌, ◌⊎◌, ◌↔◌, ℕ, List, [], ◌++◌, length, Result, Ok, Err, false}
use Rattle.std.specs.Borrow.{Bor}
use Rattle.rasn_types.specs.declared.types.codec.Codec.{Codec}
use Rattle.rasn_types.specs.declared.types.codec.Codec.TheVariants.{Der}
use Rattle.rasn_types.specs.declared.error.decode.DecodeError.{DecodeError}
use Rattle.rasn_types.specs.declared.error.decode.DecodeErrorKind.TheVariants.{UnexpectedExtraData}
use Rattle.rasn_types.specs.declared.error.encode.EncodeError.{EncodeError}
use Rattle.rasn_types.specs.Shapes.{Shape, Tree}
use Rattle.rasn_types.specs.Grammar.{Reads, top}
use Rattle.rasn_types.specs.Bytes.{Same}
use Rattle.rasn_types.specs.Carried.{Carried, IsWithinLimits}
use Rattle.rasn_types.specs.Lawful.{IsLawful}
use Rattle.rasn_types.specs.Errors.{IsEncodeOutOfMemory}
use Rattle.rasn_de.specs.State.{State, at}
use Rattle.rasn_de.specs.Beyond.{Beyond}
use Rattle.rasn_de.specs.Outcomes.{Exact, Outcome, Got, refusal}
use Rattle.rasn_enc.specs.Encoding.{NoEncoding}
use Rattle.rasn_enc.specs.View.{started}
use Rattle.rasn_enc.specs.Primitive.{IsAllocError}
use Rattle.rasn_enc.specs.Closures.{EncodeClosure, MayFail}

abbrev pub remainder_of : {T : Type 0} → (T → Tree) → Result (T × Bor (List ℕ)) DecodeError → Outcome
remainder_of tree (Ok p) = Got (tree p.0) p.1.now
remainder_of tree (Err e) = refusal e.kind

-- The value and the rest that are returned are those to which the grammar relates the input, and it relates the input
-- to no others. An error other than `OutOfMemory` means that the grammar relates the input to nothing.
abbrev pub Answered : {T : Type 0} → Codec → Shape → (T → Tree) → List ℕ → Result (T × Bor (List ℕ)) DecodeError → Type 0
Answered rule shape tree input result = Exact (Reads rule shape 128 (top rule)) input (remainder_of tree result)

-- The value that is returned is one to which the grammar relates the input, with some rest. Errors are as in
-- `Answered`.
abbrev pub AnsweredFirst : {T : Type 0} → Codec → Shape → (T → Tree) → List ℕ → Result T DecodeError → Type 0
AnsweredFirst rule shape tree input (Ok v) = (rest : List ℕ) × Exact (Reads rule shape 128 (top rule)) input (Got (tree v) rest)
AnsweredFirst rule shape tree input (Err e) = Exact (Reads rule shape 128 (top rule)) input (refusal e.kind)

-- There are octets after a value, and the error holds their number and the rule.
pub record IsExtraData (rule : Codec) (rest : List ℕ) (e : DecodeError) : Type 0 where
  pub some : rest ≢ []
  pub told : e ≡ record { kind = UnexpectedExtraData (length rest); codec = rule }

-- The input begins with a value, and octets follow it, which are refused.
pub record IsFollowed (rule : Codec) (shape : Shape) (input : List ℕ) (e : DecodeError) : Type 0 where
  pub t : Tree
  pub rest : List ℕ
  pub read : Exact (Reads rule shape 128 (top rule)) input (Got t rest)
  pub extra : IsExtraData rule rest e

-- The value that is returned is the one to which the grammar relates the input, with no rest. An error says that there
-- is no such value, or that octets follow it.
abbrev pub AnsweredAlone : {T : Type 0} → Codec → Shape → (T → Tree) → List ℕ → Result T DecodeError → Type 0
AnsweredAlone rule shape tree input (Ok v) = Exact (Reads rule shape 128 (top rule)) input (Got (tree v) [])
AnsweredAlone rule shape tree input (Err e) = Exact (Reads rule shape 128 (top rule)) input (refusal e.kind) ⊎ IsFollowed rule shape input e

-- A decoder at the front of the input.
abbrev pub front : Codec → List ℕ → State
front rule input = record { rule = rule; depth = 128; closing = top rule; whole = input; rest = input }

-- What is said of the value, beyond its tree, if it is read from the front of the input, and this rest remains.
abbrev pub BeyondFirst : {T : Type 0} → Beyond T → Codec → List ℕ → T → List ℕ → Type 0
BeyondFirst held rule input v rest = held (front rule input) v (at (front rule input) rest)

-- If the shape is lawful and `t` is within limits, a carried tree has these DER octets exactly if it is the same as
-- `t`.
abbrev pub Identify : Shape → Tree → List ℕ → Type 0
Identify s t octets = IsLawful s → IsWithinLimits Der s 128 t → (u : Tree) (c : Carried Der s u) → (Same t u ↔ (octets ≡ c.octets))

-- If the shape is lawful and the value that is returned is carried, the input is the value's DER octets, followed by
-- the rest.
abbrev pub ConsumesWritten : {T : Type 0} → Shape → (T → Tree) → List ℕ → Result (T × Bor (List ℕ)) DecodeError → Type 0
ConsumesWritten s tree input (Ok p) = IsLawful s → (c : Carried Der s (tree p.0)) → input ≡ c.octets ++ p.1.now
ConsumesWritten s tree input (Err e) = Unit {0}

-- If the shape is lawful and the value that is returned is carried, the input is the value's DER octets.
abbrev pub IsAsWritten : {T : Type 0} → Shape → (T → Tree) → List ℕ → Result T DecodeError → Type 0
IsAsWritten s tree input (Ok v) = IsLawful s → (c : Carried Der s (tree v)) → input ≡ c.octets
IsAsWritten s tree input (Err e) = Unit {0}

-- As `IsAsWritten`, for a lawful shape of which every value that DER reads is carried: the value that is returned is
-- carried, and the input is the value's DER octets.
abbrev pub IsCarriedAsWritten : {T : Type 0} → Shape → (T → Tree) → List ℕ → Result T DecodeError → Type 0
IsCarriedAsWritten s tree input (Ok v) = (c : Carried Der s (tree v)) × (input ≡ c.octets)
IsCarriedAsWritten s tree input (Err e) = Unit {0}

-- As `Identify`, for a lawful shape.
abbrev pub Identifies : Shape → Tree → List ℕ → Type 0
Identifies s t octets = IsWithinLimits Der s 128 t → (u : Tree) (c : Carried Der s u) → (Same t u ↔ (octets ≡ c.octets))

-- Why a whole value isn't written: an allocation fails, or the value has no octets.
abbrev pub EncodingFails : Codec → Shape → Tree → EncodeError → Type 0
EncodingFails rule s t e = IsEncodeOutOfMemory e.kind ⊎ NoEncoding rule s t

-- Why the values of a closure aren't written: an allocation fails, or the closure fails on a new encoder.
abbrev pub ScopeRefuses : {F T : Type 0} → EncodeClosure F T → F → Codec → EncodeError → Type 0
ScopeRefuses g f rule e = IsAllocError rule e ⊎ MayFail g f (started rule false) e

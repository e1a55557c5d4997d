-- The exact errors of values that hold no others.
use Rattle.std.specs.Prelude.{ℕ, ℤ, ◌≡◌, ◌≤◌, ◌≤ℤ◌, ◌⊎◌, List, Bool, length, Box}
use Rattle.std.specs.Global.{Global}
use Rattle.rasn_types.specs.declared.types.constraints.Bounded.{Bounded}
use Rattle.rasn_types.specs.Shapes.{Admits, AdmitsPadded, constraint_of}
use Rattle.rasn_types.specs.declared.types.constraints.Constraints.{Constraints}
use Rattle.rasn_types.specs.declared.types.codec.Codec.{Codec}
use Rattle.rasn_types.specs.declared.error.encode.EncodeError.{EncodeError}
use Rattle.rasn_types.specs.declared.error.encode.EncodeErrorKind.TheVariants.{SizeConstraintNotSatisfied, ValueConstraintNotSatisfied}
use Rattle.rasn_enc.specs.Primitive.{IsAllocError}

-- The size is out of bounds, and the error holds the size and its bounds.
pub record FailsAtSize (c : Constraints) (size : ℕ) (rule : Codec) (e : EncodeError) : Type 0 where
  pub unmet : Admits ◌≤◌ c.size size → ⊥
  pub is : e ≡ record { kind = SizeConstraintNotSatisfied size (constraint_of c.size); codec = rule }

-- The size is within bounds, and an allocation fails.
pub record AllocFailsWithinSize (c : Constraints) (size : ℕ) (rule : Codec) (e : EncodeError) : Type 0 where
  pub met : Admits ◌≤◌ c.size size
  pub memory : IsAllocError rule e

-- Why a string isn't written: its size is out of bounds; otherwise an allocation fails.
abbrev pub FailsAtString : Constraints → ℕ → Codec → EncodeError → Type 0
FailsAtString c size rule e = FailsAtSize c size rule e ⊎ AllocFailsWithinSize c size rule e

-- No number of trailing 0 bits makes the bits fit, and the error holds their size and its bounds.
pub record FailsAtPaddedSize (c : Constraints) (bs : List Bool) (rule : Codec) (e : EncodeError) : Type 0 where
  pub unmet : AdmitsPadded c.size (length bs) → ⊥
  pub is : e ≡ record { kind = SizeConstraintNotSatisfied (length bs) (constraint_of c.size); codec = rule }

-- The bits fit, and an allocation fails.
pub record AllocFailsPadded (c : Constraints) (bs : List Bool) (rule : Codec) (e : EncodeError) : Type 0 where
  pub met : AdmitsPadded c.size (length bs)
  pub memory : IsAllocError rule e

-- Why named bits aren't written: they don't fit; otherwise an allocation fails.
abbrev pub FailsAtNamedBits : Constraints → List Bool → Codec → EncodeError → Type 0
FailsAtNamedBits c bs rule e = FailsAtPaddedSize c bs rule e ⊎ AllocFailsPadded c bs rule e

-- The number is out of bounds, and the error holds the number and its bounds.
pub record FailsAtValue (c : Constraints) (number : ℤ) (rule : Codec) (e : EncodeError) : Type 0 where
  pub unmet : Admits ◌≤ℤ◌ c.value number → ⊥
  pub bound : Box (Bounded ℤ) Global
  pub tells : bound.value ≡ constraint_of c.value
  pub is : e ≡ record { kind = ValueConstraintNotSatisfied number bound; codec = rule }

-- Why an INTEGER isn't written: the number is out of bounds, or an allocation fails.
abbrev pub FailsAtInteger : Constraints → ℤ → Codec → EncodeError → Type 0
FailsAtInteger c number rule e = FailsAtValue c number rule e ⊎ IsAllocError rule e

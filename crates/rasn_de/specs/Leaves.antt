-- Values that contain no others, read from lists: the value and what follows it, or the cause of an error and the
-- remaining octets.
use Rattle.std.specs.Prelude.{◌≡◌, ◌≢◌, ◌⊎◌, ℕ, ℤ, ◌≤ℤ◌, Bool, true, false, nat_eq, IfErr, if◌then◌else◌, List, [], ◌∷◌, length, Result, Ok, Err}
use Rattle.rasn_types.specs.declared.types.tag.Tag.{Tag}
use Rattle.rasn_types.specs.declared.types.codec.Codec.{Codec}
use Rattle.rasn_types.specs.declared.types.codec.Codec.TheVariants.{Ber, Cer, Der}
use Rattle.rasn_types.specs.declared.error.decode.DecodeError.{DecodeError}
use Rattle.rasn_types.specs.declared.error.decode.DerDecodeErrorKind.TheVariants.{NonMinimalInteger}
use Rattle.rasn_types.specs.Framing.{Extent, definite, indefinite}
use Rattle.rasn_types.specs.Tags.{form, tag_bit, IsStrict}
use Rattle.rasn_de.specs.declared.ber.de.parser.ParseError.{ParseError}
use Rattle.rasn_de.specs.declared.ber.de.parser.ParseError.TheVariants.{IndefiniteLengthNotAllowed, InvalidBool, MismatchedLength, UnexpectedEmptyInput, IntegerOverflow, Der}
use Rattle.rasn_de.specs.Headers.{Header, header_at, as_written}
use Rattle.rasn_types.specs.Shapes.{Interval, IsIn, Admits, constraint_of}
use Rattle.rasn_types.specs.declared.types.constraints.Constraints.{Constraints}
use Rattle.rasn_types.specs.declared.types.constraints.Bounded.{Bounded}
use Rattle.rasn_types.specs.Contents.{signed, IsShortestInteger}
use Rattle.rasn_types.specs.Errors.{IsOutOfMemory}
use Rattle.rasn_de.specs.Causes.{Cause, fault, out_of_bound, HasCause}
use Rattle.rasn_de.specs.State.{State, at}

-- A fault in a header consumes nothing.
abbrev pub on_header : {Y : Type 0} → List ℕ → Result Header ParseError → (Header → Result Y (Cause × List ℕ)) → Result Y (Cause × List ℕ)
on_header l (Ok h) f = f h
on_header l (Err e) f = Err (fault e, l)

-- The contents of definite length and what follows them. An indefinite length is refused after the header is consumed.
abbrev pub definite_in : Extent → List ℕ → Result (List ℕ × List ℕ) (Cause × List ℕ)
definite_in (definite contents) rest = Ok (contents, rest)
definite_in indefinite rest = Err (fault IndefiniteLengthNotAllowed, rest)

abbrev pub definite_at : Codec → Tag → List ℕ → Result (List ℕ × List ℕ) (Cause × List ℕ)
definite_at rule tag l = on_header l (header_at (form rule) (as_written rule tag (tag_bit tag)) l) (λ h. definite_in h.extent h.rest)

-- A statement about the result of reading a list: a value and what follows it, or the cause of an error and the
-- remaining octets.
abbrev pub Readings : Type 0 → Type 1
Readings Y = Result (Y × List ℕ) (Cause × List ℕ) → Type 0

-- The result of reading contents. Whether they are accepted or refused, what follows the value remains.
abbrev pub FromContents : {X : Type 0} → (List ℕ → Result X Cause → Type 0) → Result (List ℕ × List ℕ) (Cause × List ℕ) → Readings X
FromContents read (Ok p) (Ok q) = read p.0 (Ok q.0) × (q.1 ≡ p.1)
FromContents read (Ok p) (Err q) = read p.0 (Err q.0) × (q.1 ≡ p.1)
FromContents read (Err e) r = r ≡ Err e

abbrev pub LeafAt : {X : Type 0} → (List ℕ → Result X Cause → Type 0) → Codec → Tag → List ℕ → Readings X
LeafAt read rule tag l = FromContents read (definite_at rule tag l)

abbrev pub as_cause : {X : Type 0} → Result X ParseError → Result X Cause
as_cause (Ok x) = Ok x
as_cause (Err e) = Err (fault e)

abbrev pub is_ber : Codec → Bool
is_ber Ber = true
is_ber Cer = false
is_ber Der = false

-- The contents of a BOOLEAN (8.2, 11.1).
abbrev pub bool_in : Codec → List ℕ → Result Bool ParseError
bool_in rule [] = Err (MismatchedLength 1 0)
bool_in rule (b ∷ []) =
    if nat_eq b 0 then Ok false else (if nat_eq b 255 then Ok true else (if is_ber rule then Ok true else Err (InvalidBool b)))
bool_in rule (b ∷ c ∷ l) = Err (MismatchedLength 1 (length (b ∷ c ∷ l)))

abbrev pub BoolAt : Codec → Tag → List ℕ → Readings Bool
BoolAt rule tag l = LeafAt (λ c r. as_cause (bool_in rule c) ≡ r) rule tag l

-- Octets encode a number (8.3.1, 8.3.2): there is at least one, and under the strict rule they are the fewest possible.
abbrev pub IsIntegerContents : Codec → List ℕ → Type 0
IsIntegerContents rule c = (c ≢ []) × (IsStrict rule → IsShortestInteger c)

-- Why octets don't encode a number: there are none, or under the strict rule the first one only repeats the sign.
abbrev pub IsNotIntegerContents : Codec → List ℕ → ParseError → Type 0
IsNotIntegerContents rule c f =
    ((c ≡ []) × (f ≡ UnexpectedEmptyInput)) ⊎ ((c ≢ []) × IsStrict rule × (IsShortestInteger c → ⊥) × (f ≡ Der NonMinimalInteger))

abbrev pub ChecksIntegerContents : Codec → List ℕ → Result (Unit {0}) ParseError → Type 0
ChecksIntegerContents rule c (Ok u) = IsIntegerContents rule c
ChecksIntegerContents rule c (Err f) = IsNotIntegerContents rule c f

-- The contents of an INTEGER (8.3) that is within bounds, for a type of width bits with the numbers in range.
abbrev pub IntegerIn : Codec → ℕ → Interval → Constraints → List ℕ → Result ℤ Cause → Type 0
IntegerIn rule width range bounds c (Ok z) = IsIntegerContents rule c × IsIn range (signed c) × Admits ◌≤ℤ◌ bounds.value (signed c) × (z ≡ signed c)
IntegerIn rule width range bounds c (Err (fault f)) = IsNotIntegerContents rule c f ⊎ (IsIntegerContents rule c × (IsIn range (signed c) → ⊥) × (f ≡ IntegerOverflow width))
IntegerIn rule width range bounds c (Err (out_of_bound z bound)) =
    IsIntegerContents rule c × IsIn range (signed c) × (Admits ◌≤ℤ◌ bounds.value (signed c) → ⊥) × (z ≡ signed c) × (bound ≡ constraint_of bounds.value)

abbrev pub IntegerAt : ℕ → Interval → Constraints → Codec → Tag → List ℕ → Readings ℤ
IntegerAt width range bounds rule tag l = LeafAt (IntegerIn rule width range bounds) rule tag l

-- The call fails as the reading does, and changes nothing except the remaining input.
abbrev pub FailsAs : {Y : Type 0} → Readings Y → State → DecodeError → State → Type 0
FailsAs Is old e new = (cause : Cause) × Is (Err (cause, new.rest)) × HasCause cause e.kind × (e.codec ≡ old.rule) × (new ≡ at old new.rest)

-- A call returns the result of reading the remaining input, leaves what the reading leaves, and changes nothing else.
abbrev pub DecodesLeaf : {X Y : Type 0} → (X → Y) → Readings Y → State → Result X DecodeError → State → Type 0
DecodesLeaf see Is old (Ok v) new = Is (Ok (see v, new.rest)) × (new ≡ at old new.rest)
DecodesLeaf see Is old (Err e) new = FailsAs Is old e new

-- A call returns the result of reading an INTEGER. If an allocation fails, the contents encode a number that Takes says
-- is stored on the heap, and the value is consumed.
abbrev pub DecodesInteger : {X : Type 0} → (X → ℤ) → (ℤ → Type 0) → Tag → Readings ℤ → State → Result X DecodeError → State → Type 0
DecodesInteger see Takes tag Is old (Ok v) new = DecodesLeaf see Is old (Ok v) new
DecodesInteger see Takes tag Is old (Err e) new =
    (IsOutOfMemory e.kind × (e.codec ≡ old.rule) × (new ≡ at old new.rest) × (c : List ℕ) × (definite_at old.rule tag old.rest ≡ Ok (c, new.rest)) × IsIntegerContents old.rule c × Takes (signed c)) ⊎ FailsAs Is old e new

-- A call reads an INTEGER that is within bounds, for a type of width bits with the numbers in range.
abbrev pub DecodesNumber : {X : Type 0} → (X → ℤ) → (ℤ → Type 0) → ℕ → Interval → Tag → Constraints → State → Result X DecodeError → State → Type 0
DecodesNumber see Takes width range tag bounds old result new = DecodesInteger see Takes tag (IntegerAt width range bounds old.rule tag old.rest) old result new

-- The number is out of its bound.
abbrev pub IsOutOfBound : Readings ℤ → List ℕ → Type 0
IsOutOfBound Is rest = (z : ℤ) × (bound : Bounded ℤ) × Is (Err (out_of_bound z bound, rest))

-- The next number is one that is stored on the heap.
abbrev pub TakesThere : (ℤ → Type 0) → Tag → State → List ℕ → Type 0
TakesThere Takes tag old rest = (c : List ℕ) × (definite_at old.rule tag old.rest ≡ Ok (c, rest)) × Takes (signed c)

-- An allocation can fail only for a number that is stored on the heap, or for the error of a number out of its bound.
abbrev pub AllocMayFail : {X : Type 0} → (ℤ → Type 0) → ℕ → Interval → Tag → Constraints → State → Result X DecodeError → State → Type 0
AllocMayFail Takes width range tag bounds old result new =
    IfErr result (λ e. IsOutOfMemory e.kind → TakesThere Takes tag old new.rest ⊎ IsOutOfBound (IntegerAt width range bounds old.rule tag old.rest) new.rest)

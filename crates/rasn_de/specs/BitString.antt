-- BIT STRING, read from lists.
use Rattle.std.specs.Prelude.{◌≡◌, ◌≢◌, ◌≤◌, ◌<◌, ◌^◌, ◌⊎◌, ℕ, ◌-◌, ◌*◌, Bool, false, ◌||◌, ◌&&◌, nat_lt, if◌then◌else◌, List, [], ◌∷◌, length, drop, Option, Some, None, Result, Ok, Err}
use Rattle.rasn_types.specs.declared.types.tag.Tag.{Tag}
use Rattle.rasn_types.specs.declared.types.codec.Codec.{Codec}
use Rattle.rasn_types.specs.declared.types.constraints.Constraints.{Constraints}
use Rattle.rasn_types.specs.declared.error.decode.DecodeError.{DecodeError}
use Rattle.rasn_types.specs.Tags.{in_universal}
use Rattle.rasn_types.specs.Shapes.{Tree, bits, Admits, constraint_of}
use Rattle.rasn_types.specs.BitString.{bits_in, but_last}
use Rattle.rasn_types.specs.CowBits.{cow_bits}
use Rattle.rasn_types.specs.declared.types.bits.cow_bits.CowBits.{CowBits}
use Rattle.rasn_types.specs.declared.types.bits.cow_bits.CowBits.TheVariants.{Borrowed, Owned}
use Rattle.rasn_types.specs.Errors.{IsOutOfMemory}
use Rattle.rasn_de.specs.declared.ber.de.parser.ParseError.{ParseError}
use Rattle.rasn_de.specs.declared.ber.de.parser.ParseError.TheVariants.{OutOfMemory, UnexpectedEmptyInput, InvalidBitString, LengthExceedsPlatformWidth, SizeConstraintNotSatisfied, Der}
use Rattle.rasn_types.specs.declared.error.decode.DerDecodeErrorKind.TheVariants.{NonzeroUnusedBits}
use Rattle.rasn_de.specs.Headers.{is_der}
use Rattle.rasn_de.specs.Segments.{string_at, without_memory}
use Rattle.rasn_de.specs.OctetString.{IsPrimitive, IsConstructed}
use Rattle.rasn_de.specs.CharacterString.{AllocFailsCollecting}
use Rattle.rasn_de.specs.State.{State, at}
use Rattle.rasn_de.specs.Causes.{Cause, fault}
use Rattle.rasn_de.specs.Leaves.{Readings, FailsAs, DecodesLeaf}
use Rattle.rasn_de.specs.Steps.{IsErrorOf}

-- The number of unused bits is above 7, or above 0 although no octet follows.
abbrev pub is_miscounted : ℕ → List ℕ → Bool
is_miscounted unused [] = nat_lt 0 unused
is_miscounted unused (b ∷ l) = nat_lt 7 unused

-- The unused bits.
abbrev pub last_bits : ℕ → List ℕ → List Bool
last_bits unused octets = drop (8 * length octets - unused) (bits_in octets)

-- One of these bits is set.
abbrev pub is_any_set : List Bool → Bool
is_any_set [] = false
is_any_set (b ∷ bs) = b || is_any_set bs

-- The bits of a segment, which is the number of unused bits and octets (8.6.2). Under DER no unused bit is set
-- (11.2.1).
abbrev pub segment_bits : Codec → List ℕ → Result (List Bool) ParseError
segment_bits rule [] = Err UnexpectedEmptyInput
segment_bits rule (unused ∷ octets) =
    if is_miscounted unused octets then Err (InvalidBitString unused)
    else (if is_der rule && is_any_set (last_bits unused octets) then Err (Der NonzeroUnusedBits) else Ok (but_last unused octets))

abbrev pub bit_string_at : Codec → ℕ → Tag → List ℕ → Result (List Bool × List ℕ) ParseError
bit_string_at rule depth tag l = string_at rule (segment_bits rule) (in_universal 3) depth tag l

-- There is something to collect, as in CollectsOctets.
abbrev pub CollectsBits : Codec → ℕ → Tag → List ℕ → Type 0
CollectsBits rule depth tag l = IsConstructed rule tag l × (string_at rule (without_memory (segment_bits rule)) (in_universal 3) depth tag l ≡ Err OutOfMemory)

abbrev pub bits_tree : List Bool → Tree
bits_tree bs = bits bs

-- Why no bits are returned, and the remaining octets. If the reading refuses the bits, or an allocation fails while
-- segments are collected, nothing is consumed. If an allocation fails for the bits of a valid primitive value, of which
-- there is at least one, the value is consumed.
pub data FailsAtBits (rule : Codec) (depth : ℕ) (tag : Tag) (l : List ℕ) : ParseError → List ℕ → Type 0 where
  refused : (f : ParseError) → f ≢ OutOfMemory → bit_string_at rule depth tag l ≡ Err f → FailsAtBits rule depth tag l f l
  gathering : CollectsBits rule depth tag l → FailsAtBits rule depth tag l OutOfMemory l
  copying : (bs : List Bool) (rest : List ℕ) → bs ≢ [] → IsPrimitive rule tag l → bit_string_at rule depth tag l ≡ Ok (bs, rest) → FailsAtBits rule depth tag l OutOfMemory rest

-- What a decoder collects of a string: its bits and what follows.
abbrev pub DecodesBits : Tag → State → Result (List Bool) DecodeError → State → Type 0
DecodesBits tag old (Ok bs) new = (bit_string_at old.rule old.depth tag old.rest ≡ Ok (bs, new.rest)) × (new ≡ at old new.rest)
DecodesBits tag old (Err e) new = (f : ParseError) × IsErrorOf f old e × (new ≡ at old new.rest) × FailsAtBits old.rule old.depth tag old.rest f new.rest

-- Why bits that were read are refused: there are 2 ^ 64 or more, which is checked first, or their number is out of
-- bounds.
abbrev pub IsOversized : Constraints → List Bool → Cause → Type 0
IsOversized bounds bs cause =
    ((2 ^ 64 ≤ length bs) × (cause ≡ fault LengthExceedsPlatformWidth))
    ⊎ ((length bs < 2 ^ 64) × (Admits ◌≤◌ bounds.size (length bs) → ⊥) × (cause ≡ fault (SizeConstraintNotSatisfied (length bs) (constraint_of bounds.size))))

-- A BIT STRING whose size is within bounds.
abbrev pub BitsAt : Constraints → Codec → ℕ → Tag → List ℕ → Readings (List Bool)
BitsAt bounds rule depth tag l (Ok p) = (bit_string_at rule depth tag l ≡ Ok p) × (length p.0 < 2 ^ 64) × Admits ◌≤◌ bounds.size (length p.0)
BitsAt bounds rule depth tag l (Err e) =
    ((f : ParseError) × (bit_string_at rule depth tag l ≡ Err f) × (e ≡ (fault f, l)))
    ⊎ ((bs : List Bool) × (bit_string_at rule depth tag l ≡ Ok (bs, e.1)) × IsOversized bounds bs e.0)

-- An allocation fails for the copy of a primitive string's bits, of which there is at least one, before their number is
-- checked, and the value is consumed.
abbrev pub AllocFailsCopyingBits : Tag → State → DecodeError → State → Type 0
AllocFailsCopyingBits tag old e new = IsOutOfMemory e.kind × (e.codec ≡ old.rule) × (new ≡ at old new.rest) × IsPrimitive old.rule tag old.rest
    × (bs : List Bool) × (bs ≢ []) × (bit_string_at old.rule old.depth tag old.rest ≡ Ok (bs, new.rest))

-- A call returns the result of the reading, or an allocation fails.
abbrev pub DecodesBitString : Tag → Constraints → State → Result (List Bool) DecodeError → State → Type 0
DecodesBitString tag bounds old (Ok bs) new = DecodesLeaf (λ s. s) (BitsAt bounds old.rule old.depth tag old.rest) old (Ok bs) new
DecodesBitString tag bounds old (Err e) new =
    AllocFailsCollecting CollectsBits tag old e new ⊎ (AllocFailsCopyingBits tag old e new
    ⊎ ((IsOutOfMemory e.kind → ⊥) × FailsAs (BitsAt bounds old.rule old.depth tag old.rest) old e new))

-- ---- bits that are borrowed

-- Bits are borrowed from a primitive string alone.
abbrev pub AreBorrowedIfPrimitive : Codec → Tag → List ℕ → CowBits → Type 0
AreBorrowedIfPrimitive rule tag l (Borrowed bs) = IsPrimitive rule tag l
AreBorrowedIfPrimitive rule tag l (Owned bs) = IsConstructed rule tag l

-- The same call, which copies no bits of a primitive string.
abbrev pub DecodesCowBits : Tag → Constraints → State → Result CowBits DecodeError → State → Type 0
DecodesCowBits tag bounds old (Ok b) new = DecodesBitString tag bounds old (Ok (cow_bits b)) new × AreBorrowedIfPrimitive old.rule tag old.rest b
DecodesCowBits tag bounds old (Err e) new = DecodesBitString tag bounds old (Err e) new × (IsPrimitive old.rule tag old.rest → IsOutOfMemory e.kind → ⊥)

-- The bits of a primitive string; or it is constructed, and nothing is consumed; or it is refused, whatever its bounds are.
abbrev pub DecodesPrimitiveBits : Tag → State → Result (Option (List Bool)) DecodeError → State → Type 0
DecodesPrimitiveBits tag old (Ok (Some bs)) new = DecodesBits tag old (Ok bs) new × IsPrimitive old.rule tag old.rest
DecodesPrimitiveBits tag old (Ok None) new = (new ≡ old) × IsConstructed old.rule tag old.rest
DecodesPrimitiveBits tag old (Err e) new = ((bounds : Constraints) → DecodesBitString tag bounds old (Err e) new) × (IsOutOfMemory e.kind → ⊥)

-- A BIT STRING whose bits have names, read from one whose bits have none.
use Rattle.std.specs.Prelude.{◌≡◌, ◌≢◌, ◌⊎◌, Bool, List, length, Result, Ok, Err}
use Rattle.rasn_types.specs.declared.types.tag.Tag.{Tag}
use Rattle.rasn_types.specs.declared.types.codec.Codec.{Codec}
use Rattle.rasn_types.specs.declared.types.constraints.Constraints.{Constraints}
use Rattle.rasn_types.specs.declared.types.bits.cow_bits.CowBits.{CowBits}
use Rattle.rasn_types.specs.declared.error.decode.DecodeError.{DecodeError}
use Rattle.rasn_types.specs.Tags.{IsCanonical}
use Rattle.rasn_types.specs.Shapes.{AdmitsPadded, constraint_of}
use Rattle.rasn_types.specs.BitString.{significant}
use Rattle.rasn_types.specs.CowBits.{cow_bits}
use Rattle.rasn_types.specs.Errors.{IsOutOfMemory}
use Rattle.rasn_types.specs.Trees.{unconstrained}
use Rattle.rasn_de.specs.declared.ber.de.parser.ParseError.{ParseError}
use Rattle.rasn_de.specs.declared.ber.de.parser.ParseError.TheVariants.{TrailingZeroBits, SizeConstraintNotSatisfied}
use Rattle.rasn_de.specs.BitString.{DecodesBitString, AreBorrowedIfPrimitive}
use Rattle.rasn_de.specs.OctetString.{IsPrimitive}
use Rattle.rasn_de.specs.State.{State}
use Rattle.rasn_de.specs.Steps.{IsErrorOf}

-- Whether bits that were read may be named bits. Canonical rules refuse trailing 0 bits (X.690 11.2.2), before the size is
-- looked at.
abbrev pub AreNamedBits : Codec → Constraints → List Bool → Result (Unit {0}) ParseError → Type 0
AreNamedBits rule bounds read (Ok u) = (IsCanonical rule → significant read ≡ read) × AdmitsPadded bounds.size (length (significant read))
AreNamedBits rule bounds read (Err f) =
    (IsCanonical rule × (significant read ≢ read) × (f ≡ TrailingZeroBits))
    ⊎ ((IsCanonical rule → significant read ≡ read) × (AdmitsPadded bounds.size (length (significant read)) → ⊥) × (f ≡ SizeConstraintNotSatisfied (length (significant read)) (constraint_of bounds.size)))

-- A call reads bits of any number, and returns those that are significant. If they aren't named bits, the value is consumed.
abbrev pub DecodesNamedBits : Tag → Constraints → State → Result (List Bool) DecodeError → State → Type 0
DecodesNamedBits tag bounds old (Ok bs) new = (read : List Bool) × DecodesBitString tag unconstrained old (Ok read) new × AreNamedBits old.rule bounds read (Ok tt) × (bs ≡ significant read)
DecodesNamedBits tag bounds old (Err e) new =
    DecodesBitString tag unconstrained old (Err e) new
    ⊎ ((read : List Bool) × (f : ParseError) × DecodesBitString tag unconstrained old (Ok read) new × AreNamedBits old.rule bounds read (Err f) × IsErrorOf f new e)

-- The same call, which copies no bits of a primitive string.
abbrev pub DecodesSignificantBits : Tag → Constraints → State → Result CowBits DecodeError → State → Type 0
DecodesSignificantBits tag bounds old (Ok b) new = DecodesNamedBits tag bounds old (Ok (cow_bits b)) new × AreBorrowedIfPrimitive old.rule tag old.rest b
DecodesSignificantBits tag bounds old (Err e) new = DecodesNamedBits tag bounds old (Err e) new × (IsPrimitive old.rule tag old.rest → IsOutOfMemory e.kind → ⊥)

-- Character strings, read from lists: all octets are collected, and then checked as a whole.
use Rattle.std.specs.Prelude.{◌≡◌, ◌≢◌, ◌<◌, ◌≤◌, ◌⊎◌, ℕ, List, [], length, slice_index, Option, Result, Ok, Err, chars, IsUtf8}
use Rattle.std.specs.List.{AllWithin}
use Rattle.std.specs.Cow.{cow_slice_items, cow_str_bytes, IsOwnedSlice, IsOwnedStr}
use Rattle.std.specs.declared.borrow.CowSlice.{CowSlice}
use Rattle.std.specs.declared.alloc.Global.{Global}
use Rattle.std.specs.declared.borrow.CowStr.{CowStr}
use Rattle.std.specs.declared.borrow.CowStr.TheVariants as text
use Rattle.rasn_types.specs.declared.types.constraints.Constraints.{Constraints}
use Rattle.rasn_types.specs.Tags.{in_universal}
use Rattle.rasn_types.specs.declared.types.tag.Tag.{Tag}
use Rattle.rasn_types.specs.declared.types.tag.TheConstants.Tag.{UTF8_STRING, BMP_STRING}
use Rattle.rasn_types.specs.declared.types.codec.Codec.{Codec}
use Rattle.rasn_types.specs.declared.types.constraints.Bounded.TheVariants.{Single}
use Rattle.rasn_types.specs.declared.types.strings.alphabet.Alphabet.{Alphabet}
use Rattle.rasn_types.specs.declared.error.decode.DecodeError.{DecodeError}
use Rattle.rasn_types.specs.CharacterString.{IsAdmitted, AreAdmitted}
use Rattle.rasn_types.specs.Errors.{IsOutOfMemory}
use Rattle.rasn_types.specs.Grammar.{units}
use Rattle.rasn_types.specs.declared.types.constraints.Bound.{Bound}
use Rattle.rasn_types.specs.Shapes.{Admits, constraint_of}
use Rattle.rasn_de.specs.declared.ber.de.parser.ParseError.{ParseError}
use Rattle.rasn_de.specs.declared.ber.de.parser.ParseError.TheVariants.{SizeConstraintNotSatisfied, PermittedAlphabetError, StringConversionFailed}
use Rattle.rasn_de.specs.Causes.{fault}
use Rattle.rasn_de.specs.Leaves.{Readings, FailsAs, DecodesLeaf}
use Rattle.rasn_de.specs.OctetString.{octet_string_at, IsPrimitive, IsConstructed, CollectsOctets, IsBorrowedIfPrimitive}
use Rattle.rasn_de.specs.State.{State, at}

-- A statement about all octets of a string: the numbers that they mean, or the first fault.
abbrev pub StringCheck : Type 1
StringCheck = List ℕ → Result (List ℕ) ParseError → Type 0

abbrev pub IsOutOfSize : Option (Bound ℕ) → ℕ → ParseError → Type 0
IsOutOfSize size n f = (Admits ◌≤◌ size n → ⊥) × (f ≡ SizeConstraintNotSatisfied n (constraint_of size))

-- The first octet that isn't in the alphabet, with its position.
abbrev pub IsOutsideAlphabet : Alphabet → List ℕ → ParseError → Type 0
IsOutsideAlphabet a l f = (k : ℕ) × (k < length l) × AllWithin (IsAdmitted a) l 0 k × (IsAdmitted a (slice_index l k) → ⊥)
    × (f ≡ PermittedAlphabetError (slice_index l k) k)

-- The number of octets is within the size, which is checked first, and each octet is in the alphabet.
abbrev pub ByAlphabet : Alphabet → Option (Bound ℕ) → StringCheck
ByAlphabet a size l (Ok ns) = (ns ≡ l) × Admits ◌≤◌ size (length l) × AreAdmitted a l
ByAlphabet a size l (Err f) = IsOutOfSize size (length l) f ⊎ (Admits ◌≤◌ size (length l) × IsOutsideAlphabet a l f)

-- The octets mean characters, which is checked first, and the number of characters is within the size.
abbrev pub ByCharacters : (List ℕ → List ℕ → Type 0) → Tag → Option (Bound ℕ) → StringCheck
ByCharacters Mean tag size l (Ok ns) = Mean l ns × Admits ◌≤◌ size (length ns)
ByCharacters Mean tag size l (Err f) =
    (((ns : List ℕ) → Mean l ns → ⊥) × (f ≡ StringConversionFailed tag)) ⊎ ((ns : List ℕ) × Mean l ns × IsOutOfSize size (length ns) f)

-- There are n octets, which is checked first, and n is within the size.
abbrev pub ByLength : ℕ → Option (Bound ℕ) → StringCheck
ByLength n size l (Ok ns) = (ns ≡ l) × (length l ≡ n) × Admits ◌≤◌ size (length l)
ByLength n size l (Err f) =
    ((length l ≢ n) × (f ≡ SizeConstraintNotSatisfied (length l) (Single n))) ⊎ ((length l ≡ n) × IsOutOfSize size (length l) f)

abbrev pub AreUtf8 : List ℕ → List ℕ → Type 0
AreUtf8 l ns = IsUtf8 l × (ns ≡ chars l)

-- The number of octets is within the size.
abbrev pub BySize : Option (Bound ℕ) → StringCheck
BySize size l (Ok ns) = (ns ≡ l) × Admits ◌≤◌ size (length l)
BySize size l (Err f) = IsOutOfSize size (length l) f

-- The octets are UTF-8, which is checked first, and the number of characters is within the size.
abbrev pub ByUtf8 : Option (Bound ℕ) → StringCheck
ByUtf8 size = ByCharacters AreUtf8 UTF8_STRING size

-- The octets are 16-bit units, which is checked first, and the number of units is within the size.
abbrev pub ByUnits : Option (Bound ℕ) → StringCheck
ByUnits size = ByCharacters units BMP_STRING size

-- A fault in the framing or in a segment consumes nothing; a fault in the collected octets consumes the value.
abbrev pub StringAt : StringCheck → Codec → ℕ → Tag → List ℕ → Readings (List ℕ)
StringAt Told rule depth tag l (Ok p) = (xs : List ℕ) × (octet_string_at rule depth tag l ≡ Ok (xs, p.1)) × Told xs (Ok p.0)
StringAt Told rule depth tag l (Err e) =
    ((f : ParseError) × (octet_string_at rule depth tag l ≡ Err f) × (e ≡ (fault f, l)))
    ⊎ ((xs : List ℕ) × (f : ParseError) × (octet_string_at rule depth tag l ≡ Ok (xs, e.1)) × Told xs (Err f) × (e.0 ≡ fault f))

-- An allocation fails while segments are collected, at least one of which isn't empty, and nothing is consumed.
abbrev pub AllocFailsCollecting : (Codec → ℕ → Tag → List ℕ → Type 0) → Tag → State → DecodeError → State → Type 0
AllocFailsCollecting Collects tag old e new = IsOutOfMemory e.kind × (e.codec ≡ old.rule) × (new ≡ old) × Collects old.rule old.depth tag old.rest

-- An allocation fails for the copy of a primitive string that passes its check and isn't empty, and the value is consumed.
abbrev pub AllocFailsCopying : StringCheck → Tag → State → DecodeError → State → Type 0
AllocFailsCopying Told tag old e new = IsOutOfMemory e.kind × (e.codec ≡ old.rule) × (new ≡ at old new.rest) × IsPrimitive old.rule tag old.rest
    × (p : List ℕ × List ℕ) × StringAt Told old.rule old.depth tag old.rest (Ok p) × (p.1 ≡ new.rest) × (p.0 ≢ [])

-- A call returns the result of the reading, or an allocation fails.
abbrev pub DecodesString : {X : Type 0} → (X → List ℕ) → StringCheck → Tag → State → Result X DecodeError → State → Type 0
DecodesString see Told tag old (Ok v) new = DecodesLeaf see (StringAt Told old.rule old.depth tag old.rest) old (Ok v) new
DecodesString see Told tag old (Err e) new =
    AllocFailsCollecting CollectsOctets tag old e new ⊎ (AllocFailsCopying Told tag old e new
    ⊎ ((IsOutOfMemory e.kind → ⊥) × FailsAs (StringAt Told old.rule old.depth tag old.rest) old e new))

-- The characters are borrowed from a primitive string, and owned otherwise.
abbrev pub IsTextBorrowedIfPrimitive : Codec → Tag → List ℕ → CowStr Global → Type 0
IsTextBorrowedIfPrimitive rule tag l (text.Borrowed s) = IsPrimitive rule tag l
IsTextBorrowedIfPrimitive rule tag l (text.Owned s) = IsConstructed rule tag l

-- A call returns the result of the reading, or an allocation fails while segments are collected. A primitive string is
-- borrowed, so nothing is copied.
abbrev pub DecodesBorrowed : {X : Type 0} → (X → List ℕ) → (Codec → Tag → List ℕ → X → Type 0) → StringCheck → Tag → State → Result X DecodeError → State → Type 0
DecodesBorrowed see borrowed Told tag old (Ok s) new =
    DecodesLeaf see (StringAt Told old.rule old.depth tag old.rest) old (Ok s) new × borrowed old.rule tag old.rest s
DecodesBorrowed see borrowed Told tag old (Err e) new =
    AllocFailsCollecting CollectsOctets tag old e new ⊎ ((IsOutOfMemory e.kind → ⊥) × FailsAs (StringAt Told old.rule old.depth tag old.rest) old e new)

abbrev pub DecodesOctetString : Tag → Constraints → State → Result (CowSlice ℕ Global) DecodeError → State → Type 0
DecodesOctetString tag bounds = DecodesBorrowed cow_slice_items IsBorrowedIfPrimitive (BySize bounds.size) tag

abbrev pub DecodesRestricted : Alphabet → Tag → Constraints → State → Result (CowSlice ℕ Global) DecodeError → State → Type 0
DecodesRestricted alphabet tag bounds = DecodesBorrowed cow_slice_items IsBorrowedIfPrimitive (ByAlphabet alphabet bounds.size) tag

abbrev pub DecodesText : Tag → Constraints → State → Result (CowStr Global) DecodeError → State → Type 0
DecodesText tag bounds = DecodesBorrowed (λ s. chars (cow_str_bytes s)) IsTextBorrowedIfPrimitive (ByUtf8 bounds.size) tag

-- A function that checks octets accepts those that mean ns, or returns the first fault.
abbrev pub ChecksString : StringCheck → List ℕ → List ℕ → Result (Unit {0}) ParseError → Type 0
ChecksString Told l ns (Ok u) = Told l (Ok ns)
ChecksString Told l ns (Err f) = Told l (Err f)

-- A size is within its bound, or the fault reports that it isn't.
abbrev pub IsWithinSize : Constraints → ℕ → Result (Unit {0}) ParseError → Type 0
IsWithinSize c n (Ok u) = Admits ◌≤◌ c.size n
IsWithinSize c n (Err f) = IsOutOfSize c.size n f

-- Octets as text, which is owned exactly if they are, or the fault if they aren't UTF-8.
abbrev pub ParsesUtf8 : CowSlice ℕ Global → Result (CowStr Global) ParseError → Type 0
ParsesUtf8 s (Ok t) = (cow_str_bytes t ≡ cow_slice_items s) × (IsOwnedSlice s → IsOwnedStr t) × (IsOwnedStr t → IsOwnedSlice s)
ParsesUtf8 s (Err f) = (IsUtf8 (cow_slice_items s) → ⊥) × (f ≡ StringConversionFailed (in_universal 12))

-- The input lines of the program.
use Rattle.std.specs.Prelude.{◌≡◌, ◌≢◌, ℕ, ◌+◌, ◌-◌, ◌*◌, ◌<◌, ◌==◌, length, Bool, ◌&&◌, nat_le, nat_eq, if◌then◌else◌, List, [], ◌∷◌, Option, Some, None, Vec, codes}
use Rattle.std.specs.List.{position_or_len, before_first, after_first}
use Rattle.rasn_types.specs.declared.types.codec.Codec.{Codec}
use Rattle.rasn_types.specs.declared.types.codec.Codec.TheVariants.{Ber, Cer, Der}
use Rattle.rasn_bench.specs.declared.line.Request.{Request}
use Rattle.rasn_bench.specs.declared.line.ValueType.{ValueType}
use Rattle.rasn_bench.specs.declared.line.ValueType.TheVariants.{Bool as BoolType, I32, U32, Octets, Pair, Integer, UtcTime, GeneralizedTime, Date, Null, ObjectIdentifier, Bits, Colour, Utf8, Ia5, Printable, NamedFlag, OptionalBool, Validity, Any, AlgorithmIdentifier, RelativeDistinguishedName, Set3, Bag}

abbrev pub name_of : ValueType → List ℕ
name_of BoolType = codes "bool"
name_of I32 = codes "i32"
name_of U32 = codes "u32"
name_of Octets = codes "octets"
name_of Pair = codes "pair"
name_of Integer = codes "integer"
name_of UtcTime = codes "utctime"
name_of GeneralizedTime = codes "gentime"
name_of Date = codes "date"
name_of Null = codes "null"
name_of ObjectIdentifier = codes "oid"
name_of Bits = codes "bits"
name_of Colour = codes "colour"
name_of Utf8 = codes "utf8"
name_of Ia5 = codes "ia5"
name_of Printable = codes "printable"
name_of NamedFlag = codes "foo"
name_of OptionalBool = codes "optbool"
name_of Validity = codes "validity"
name_of Any = codes "any"
name_of AlgorithmIdentifier = codes "algid"
name_of RelativeDistinguishedName = codes "rdn"
name_of Set3 = codes "set3"
name_of Bag = codes "bag"

-- the word that the program prints for a value of the type
abbrev pub type_word : ValueType → List ℕ
type_word BoolType = codes "BOOLEAN"
type_word I32 = codes "INTEGER"
type_word U32 = codes "INTEGER"
type_word Octets = codes "OCTET-STRING"
type_word Pair = codes "SEQUENCE"
type_word Integer = codes "INTEGER"
type_word UtcTime = codes "TIME"
type_word GeneralizedTime = codes "TIME"
type_word Date = codes "TIME"
type_word Null = codes "NULL"
type_word ObjectIdentifier = codes "OID"
type_word Bits = codes "BIT-STRING"
type_word Colour = codes "ENUMERATED"
type_word Utf8 = codes "STRING"
type_word Ia5 = codes "STRING"
type_word Printable = codes "STRING"
type_word NamedFlag = codes "SEQUENCE"
type_word OptionalBool = codes "OPTIONAL"
type_word Validity = codes "SEQUENCE"
type_word Any = codes "ANY"
type_word AlgorithmIdentifier = codes "SEQUENCE"
type_word RelativeDistinguishedName = codes "SET"
type_word Set3 = codes "SET"
type_word Bag = codes "SET"

abbrev pub rule_name : Codec → List ℕ
rule_name Ber = codes "ber"
rule_name Cer = codes "cer"
rule_name Der = codes "der"

abbrev pub is_space : ℕ → Bool
is_space c = c == 32

abbrev pub HasSpace : List ℕ → Type 0
HasSpace l = position_or_len is_space l < length l

-- the text before the first space, and the text after it
abbrev pub word : List ℕ → List ℕ
word l = before_first is_space l

abbrev pub others : List ℕ → List ℕ
others l = after_first is_space l

-- The line is the name of these rules, the name of this type and these digits, separated by single spaces.
pub record IsRequest (line : List ℕ) (rule : Codec) (kind : ValueType) (digits : List ℕ) : Type 0 where
  pub first_space : HasSpace line
  pub rule_is : word line ≡ rule_name rule
  pub second_space : HasSpace (others line)
  pub kind_is : word (others line) ≡ name_of kind
  pub digits_are : digits ≡ others (others line)

abbrev pub between : ℕ → ℕ → ℕ → Bool
between low high c = nat_le low c && nat_le c high

-- the value of a hexadecimal digit, in upper or lower case
abbrev pub digit_at : ℕ → Option ℕ
digit_at c = if between 48 57 c then Some (c - 48) else if between 65 70 c then Some (c - 55) else if between 97 102 c then Some (c - 87) else None

abbrev pub joined : Option ℕ → Option ℕ → Option ℕ
joined (Some high) (Some low) = Some (16 * high + low)
joined high low = None

-- the octet that two digits spell
abbrev pub pair_at : ℕ → ℕ → Option ℕ
pair_at a b = joined (digit_at a) (digit_at b)

abbrev pub behind : Option ℕ → Option (List ℕ) → Option (List ℕ)
behind (Some octet) (Some octets) = Some (octet ∷ octets)
behind octet octets = None

-- the octets that digits spell, two digits for each
unfoldable pub pairs_at : List ℕ → Option (List ℕ)
pairs_at [] = Some []
pairs_at (a ∷ []) = None
pairs_at (a ∷ b ∷ l) = behind (pair_at a b) (pairs_at l)

-- The first two digits spell this octet, and the rest follows them.
abbrev pub BeginsWithPair : List ℕ → ℕ → List ℕ → Type 0
BeginsWithPair digits octet rest = pairs_at digits ≡ behind (Some octet) (pairs_at rest)

-- If there are digits, they spell no octets.
abbrev pub BeginsWithoutPair : List ℕ → Type 0
BeginsWithoutPair digits = digits ≢ [] → pairs_at digits ≡ None

-- What digits spell: a hyphen spells the empty list of octets, and an empty text spells nothing.
abbrev pub octets_of_digits : List ℕ → Option (List ℕ)
octets_of_digits [] = None
octets_of_digits (c ∷ []) = if nat_eq c 45 then Some [] else None
octets_of_digits (a ∷ b ∷ l) = pairs_at (a ∷ b ∷ l)

-- The result of reading digits: their octets, or `None` if they spell nothing.
abbrev pub Spells : {A : Type 0} → (List ℕ → Option (List ℕ)) → List ℕ → Option (Vec ℕ A) → Type 0
Spells read digits None = read digits ≡ None
Spells read digits (Some octets) = read digits ≡ Some octets.items

-- The line asks for a type under these rules, with digits that spell these octets.
pub record Asks (line : List ℕ) (rule : Codec) (kind : ValueType) (octets : List ℕ) : Type 0 where
  pub digits : List ℕ
  pub request : IsRequest line rule kind digits
  pub spelled : octets_of_digits digits ≡ Some octets

-- The request of the line with its octets, or `None` if the line asks for nothing.
abbrev pub IsAsked : {A : Type 0} → List ℕ → Option (Request × Vec ℕ A) → Type 0
IsAsked line None = (rule : Codec) (kind : ValueType) (octets : List ℕ) → Asks line rule kind octets → ⊥
IsAsked line (Some p) = Asks line p.0.rule p.0.value_type p.1.items

-- The shapes of the types that a line may name, as types of a schema.
use Rattle.std.specs.Prelude.{◌≡◌, ◌⊎◌, ℕ, Bool, true, List, Some, Result, Ok, Err}
use Rattle.rasn_types.specs.declared.types.codec.Codec.{Codec}
use Rattle.rasn_types.specs.declared.error.decode.DecodeError.{DecodeError}
use Rattle.rasn_types.specs.Tags.{in_universal}
use Rattle.rasn_types.specs.Shapes.{Shape, option}
use Rattle.rasn_types.specs.Grammar.{top}
use Rattle.rasn_de.specs.Optional.{NextTagIs}
use Rattle.rasn_bench.specs.declared.line.ValueType.{ValueType}
use Rattle.rasn_bench.specs.declared.line.ValueType.TheVariants.{Bool as BoolType, I32, U32, Octets, Pair, Integer, UtcTime, GeneralizedTime, Date, Null, ObjectIdentifier, Bits, Colour, Utf8, Ia5, Printable, NamedFlag, OptionalBool, Validity, Any, AlgorithmIdentifier, RelativeDistinguishedName, Set3, Bag}
use Rattle.rasn_schema.specs.declared.types.«Type».{«Type»}
use Rattle.rasn_schema.specs.declared.value.Value.{Value, Absent}
use Rattle.rasn_dynamic.specs.Entry.{FitsType, shape_of}

-- the number of a line's type
abbrev pub type_number : ValueType → ℕ
type_number BoolType = 0
type_number OptionalBool = 0
type_number I32 = 1
type_number U32 = 2
type_number Octets = 3
type_number Integer = 4
type_number UtcTime = 5
type_number GeneralizedTime = 6
type_number Date = 7
type_number Null = 8
type_number ObjectIdentifier = 9
type_number Bits = 10
type_number Colour = 11
type_number Utf8 = 12
type_number Ia5 = 13
type_number Printable = 14
type_number Any = 15
type_number Pair = 16
type_number NamedFlag = 17
type_number Validity = 19
type_number AlgorithmIdentifier = 20
type_number RelativeDistinguishedName = 22
type_number Set3 = 26
type_number Bag = 27

-- A type by its number; that of OptionalBool may be absent, which no type of a schema is by itself.
abbrev pub line_shape : List «Type» → ValueType → Shape
line_shape types OptionalBool = option (Some (in_universal 1)) (shape_of types (type_number OptionalBool))
line_shape types kind = shape_of types (type_number kind)

-- Whether the input begins with a value of the type. Only OptionalBool may be absent.
abbrev pub LooksAhead : Codec → ValueType → List ℕ → Result Bool DecodeError → Type 0
LooksAhead rule OptionalBool input result = NextTagIs (in_universal 1) (record { rule = rule; depth = 128; closing = top rule; whole = input; rest = input }) result
LooksAhead rule kind input (Ok there) = there ≡ true
LooksAhead rule kind input (Err e) = ⊥

-- The value is one of the type, or absent if the type may be absent.
abbrev pub FitsLine : List «Type» → ValueType → Value → Type 0
FitsLine types kind v = ((kind ≡ OptionalBool) × (v ≡ Absent)) ⊎ FitsType types (type_number kind) v

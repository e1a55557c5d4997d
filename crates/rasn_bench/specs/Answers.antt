-- The results that the program prints for lines.
use Rattle.std.specs.Prelude.{◌≡◌, ℕ, ◌⊎◌, List, Some, None, length, codes, Vec, Result, Ok, Err}
use Rattle.std.specs.Global.{Global}
use Rattle.rasn_types.specs.declared.types.codec.Codec.{Codec}
use Rattle.rasn_types.specs.declared.types.codec.Codec.TheVariants.{Der}
use Rattle.rasn_types.specs.Tags.{in_universal}
use Rattle.rasn_types.specs.Shapes.{Tree, Shape, leaf, boolean, integer, octet_string, every, utc_time, generalized_time, date, null, object_identifier, bit_string, enumerated, utf8, ia5, printable, any}
use Rattle.rasn_types.specs.Trees.{unconstrained, signed_range, unsigned_range}
use Rattle.rasn_types.specs.Grammar.{Reads, top}
use Rattle.rasn_types.specs.Bytes.{Bytes}
use Rattle.rasn_types.specs.Errors.{IsEncodeOutOfMemory}
use Rattle.rasn_types.specs.declared.error.encode.EncodeError.{EncodeError}
use Rattle.rasn_bench.specs.declared.line.ValueType.{ValueType}
use Rattle.rasn_bench.specs.declared.line.ValueType.TheVariants.{Bool, I32, U32, Octets, Pair, Integer, UtcTime, GeneralizedTime, Date, Null, ObjectIdentifier, Bits, Colour, Utf8, Ia5, Printable, NamedFlag, OptionalBool, Validity, Any, AlgorithmIdentifier, RelativeDistinguishedName, Set3, Bag}
use Rattle.rasn_bench.specs.declared.answer.Answer.{Answer}
use Rattle.rasn_bench.specs.declared.answer.Answer.TheVariants.{Read, NotWritten, Refused, Malformed}
use Rattle.rasn_bench.specs.Lines.{Asks, type_word}
use Rattle.rasn.specs.WorkedShapes.{named, perhaps_bool, octets_in_set_of}
use Rattle.rasn_examples.specs.Pair.{pair_shape}
use Rattle.rasn_examples.specs.Period.{validity_shape}
use Rattle.rasn_examples.specs.Colour.{colours}
use Rattle.rasn_examples.specs.Algorithm.{algorithm_shape}
use Rattle.rasn_examples.specs.Names.{relative_shape}
use Rattle.rasn_examples.specs.Set3.{set3_shape}

abbrev pub shape_of : ValueType → Shape
shape_of Bool = leaf boolean (in_universal 1) unconstrained
shape_of I32 = leaf (integer (signed_range 32)) (in_universal 2) unconstrained
shape_of U32 = leaf (integer (unsigned_range 32)) (in_universal 2) unconstrained
shape_of Octets = leaf octet_string (in_universal 4) unconstrained
shape_of Pair = pair_shape
shape_of Integer = leaf (integer every) (in_universal 2) unconstrained
shape_of UtcTime = leaf utc_time (in_universal 23) unconstrained
shape_of GeneralizedTime = leaf generalized_time (in_universal 24) unconstrained
shape_of Date = leaf date (in_universal 31) unconstrained
shape_of Null = leaf null (in_universal 5) unconstrained
shape_of ObjectIdentifier = leaf object_identifier (in_universal 6) unconstrained
shape_of Bits = leaf bit_string (in_universal 3) unconstrained
shape_of Colour = leaf (enumerated colours) (in_universal 10) unconstrained
shape_of Utf8 = leaf utf8 (in_universal 12) unconstrained
shape_of Ia5 = leaf ia5 (in_universal 22) unconstrained
shape_of Printable = leaf printable (in_universal 19) unconstrained
shape_of NamedFlag = named
shape_of OptionalBool = perhaps_bool
shape_of Validity = validity_shape
shape_of Any = any None
shape_of AlgorithmIdentifier = algorithm_shape
shape_of RelativeDistinguishedName = relative_shape
shape_of Set3 = set3_shape
shape_of Bag = octets_in_set_of

-- The relation `Is` of a rule, octets and a result, for the shape and the word of the type that a line names.
abbrev pub OfNamedType : {A : Type 0} → (Codec → Shape → List ℕ → List ℕ → A → Type 0) → Codec → ValueType → List ℕ → A → Type 0
OfNamedType Is rule kind octets answer = Is rule (shape_of kind) (type_word kind) octets answer

-- Under the rules the input begins with this value, followed by `count` octets.
pub record IsRead (rule : Codec) (shape : Shape) (input : List ℕ) (t : Tree) (count : ℕ) : Type 0 where
  pub rest : List ℕ
  pub reads : Reads rule shape 128 (top rule) input t rest
  pub count_is : length rest ≡ count

-- The result of reading these octets as the shape under the rules, and writing the value by DER. The cause
-- `OutOfMemory` may be reported for any octets.
abbrev pub IsAnswer : Codec → Shape → List ℕ → List ℕ → Answer → Type 0
IsAnswer rule shape kind input (Read name count octets) = (name.now ≡ kind) × ((t : Tree) × IsRead rule shape input t count × Bytes Der shape t octets.items)
IsAnswer rule shape kind input (NotWritten name count cause) = (name.now ≡ kind)
    × ((t : Tree) × IsRead rule shape input t count × ((cause.now ≡ codes "OutOfMemory") ⊎ ((octets : List ℕ) → Bytes Der shape t octets → ⊥)))
IsAnswer rule shape kind input (Refused cause) = (cause.now ≡ codes "OutOfMemory") ⊎ ((t : Tree) (rest : List ℕ) → Reads rule shape 128 (top rule) input t rest → ⊥)
IsAnswer rule shape kind input Malformed = ⊥

-- The result for the line, if its types have these shapes.
abbrev pub IsAnswerBy : (ValueType → Shape) → List ℕ → Answer → Type 0
IsAnswerBy shape line Malformed = (rule : Codec) (kind : ValueType) (octets : List ℕ) → Asks line rule kind octets → ⊥
IsAnswerBy shape line answer = (rule : Codec) × (kind : ValueType) × (octets : List ℕ) × Asks line rule kind octets × IsAnswer rule (shape kind) (type_word kind) octets answer

abbrev pub IsAnswerTo : List ℕ → Answer → Type 0
IsAnswerTo line answer = IsAnswerBy shape_of line answer

-- The result says that no value was read, with the cause `OutOfMemory` if an allocation failed.
abbrev pub IsRefusal : Type 0 → Answer → Type 0
IsRefusal MemoryRanOut (Refused cause) = MemoryRanOut → cause.now ≡ codes "OutOfMemory"
IsRefusal MemoryRanOut _ = ⊥

-- The result says that a value was read, how many octets follow it, and its octets or why there are none.
abbrev pub IsWrittenAnswer : List ℕ → ℕ → Result (Vec ℕ Global) EncodeError → Answer → Type 0
IsWrittenAnswer kind count (Ok octets) (Read name n written) = (name.now ≡ kind) × (n ≡ count) × (written ≡ octets)
IsWrittenAnswer kind count (Err e) (NotWritten name n cause) = (name.now ≡ kind) × (n ≡ count) × (IsEncodeOutOfMemory e.kind → cause.now ≡ codes "OutOfMemory")
IsWrittenAnswer kind count _ _ = ⊥

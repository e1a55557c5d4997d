-- The law of one refusal for values that contain no others.
use Rattle.std.specs.Prelude.{◌≡◌, ℕ, ℤ, pos, List, true}
use Rattle.rasn_types.specs.declared.types.tag.Tag.{Tag}
use Rattle.rasn_types.specs.declared.types.constraints.Constraints.{Constraints}
use Rattle.rasn_types.specs.declared.types.strings.alphabet.Alphabet.{Alphabet}
use Rattle.rasn_types.specs.Inline.{IsLong}
use Rattle.rasn_types.specs.Numbered.{fit_isize}
use Rattle.rasn_types.specs.CharacterString.{string_kind}
use Rattle.rasn_types.specs.Time.{DateText}
use Rattle.rasn_types.specs.Grammar.{UtcText, GeneralizedText}
use Rattle.rasn_types.specs.Shapes.{Tree, number, numbers, instant, on_day, Interval, every, leaf, boolean, null, object_identifier, bit_string, named_bits, octet_string, integer, enumerated, fixed, bmp, utf8, utc_time, generalized_time, date, any, unknown, looked_for}
use Rattle.rasn_types.specs.Trees.{unconstrained, bool_tree, list_tree}
use Rattle.rasn_types.specs.NamedBits.{named_bits_tree}
use Rattle.rasn_types.specs.Calendar.{Moment, Stamp, Day}
use Rattle.rasn_types.specs.declared.types.unknown.Unknown.{Unknown}
use Rattle.rasn_de.specs.Leaves.{BoolAt, FailsAs}
use Rattle.rasn_de.specs.Enumerated.{EnumeratedAt, NullAt}
use Rattle.rasn_de.specs.ObjectIdentifier.{DecodesObjectIdentifier}
use Rattle.rasn_de.specs.BitString.{bits_tree, DecodesBitString}
use Rattle.rasn_de.specs.NamedBits.{DecodesNamedBits}
use Rattle.rasn_de.specs.CharacterString.{ByAlphabet, ByLength, BySize, ByUtf8, ByUnits, DecodesString}
use Rattle.rasn_de.specs.Time.{AtAnyOffset, DecodesTime}
use Rattle.rasn_de.specs.Any.{DecodesOpenType}
use Rattle.rasn_de.specs.Unknown.{DecodesUnknown}
use Rattle.rasn_de.specs.ValueErrors.{errors_of, integer_errors, DecodesOr}
use Rattle.rasn.specs.OneRefusal.{ReadsShape, AreApart, LeaveNone, Settles}

-- Each kind of value that contains no others, under any tag and, where they apply, any constraints.
pub record LeavesAreApart : Type 0 where
  pub of_boolean : (tag : Tag) → AreApart (λ old. FailsAs (BoolAt old.rule tag old.rest) old) (ReadsShape (leaf boolean tag unconstrained))
  pub of_null : (tag : Tag) → AreApart (λ old. FailsAs (NullAt old.rule tag old.rest) old) (ReadsShape (leaf null tag unconstrained))
  -- For a type with a fixed number of bits, and for one whose long numbers are on the heap.
  pub of_integer : (width : ℕ) (range : Interval) (tag : Tag) (c : Constraints) → AreApart (integer_errors (λ z. ⊥) width range tag c) (ReadsShape (leaf (integer range) tag c))
  pub of_long_integer : (tag : Tag) (c : Constraints) → AreApart (integer_errors IsLong 0 every tag c) (ReadsShape (leaf (integer every) tag c))
  pub of_enumerated : (known : List ℤ) → fit_isize known ≡ true → (tag : Tag)
      → AreApart (λ old. FailsAs (EnumeratedAt known old.rule tag old.rest) old) (ReadsShape (leaf (enumerated known) tag unconstrained))
  pub of_object_identifier : (tag : Tag) → AreApart (errors_of (DecodesObjectIdentifier tag)) (ReadsShape (leaf object_identifier tag unconstrained))
  pub of_bit_string : (tag : Tag) (c : Constraints) → AreApart (errors_of (DecodesBitString tag c)) (ReadsShape (leaf bit_string tag c))
  pub of_named_bits : (tag : Tag) (c : Constraints) → AreApart (errors_of (DecodesNamedBits tag c)) (ReadsShape (leaf named_bits tag c))
  pub of_octet_string : (tag : Tag) (c : Constraints) → AreApart (errors_of (DecodesString (λ (l : List ℕ). l) (BySize c.size) tag)) (ReadsShape (leaf octet_string tag c))
  pub of_fixed : (n : ℕ) (tag : Tag) (c : Constraints) → AreApart (errors_of (DecodesString (λ (l : List ℕ). l) (ByLength n c.size) tag)) (ReadsShape (leaf (fixed n) tag c))
  pub of_characters : (a : Alphabet) (tag : Tag) (c : Constraints) → AreApart (errors_of (DecodesString (λ (l : List ℕ). l) (ByAlphabet a c.size) tag)) (ReadsShape (leaf (string_kind a) tag c))
  pub of_utf8 : (tag : Tag) (c : Constraints) → AreApart (errors_of (DecodesString (λ (l : List ℕ). l) (ByUtf8 c.size) tag)) (ReadsShape (leaf utf8 tag c))
  pub of_bmp : (tag : Tag) (c : Constraints) → AreApart (errors_of (DecodesString (λ (l : List ℕ). l) (ByUnits c.size) tag)) (ReadsShape (leaf bmp tag c))
  pub of_utc_time : (tag : Tag) (c : Constraints) → AreApart (λ old. errors_of (DecodesTime (AtAnyOffset (UtcText old.rule)) tag) old) (ReadsShape (leaf utc_time tag c))
  pub of_generalized_time : (tag : Tag) (c : Constraints) → AreApart (λ old. errors_of (DecodesTime (GeneralizedText old.rule) tag) old) (ReadsShape (leaf generalized_time tag c))
  pub of_date : (tag : Tag) (c : Constraints) → AreApart (errors_of (DecodesTime DateText tag)) (ReadsShape (leaf date tag c))
  pub of_open_type : (tag : Tag) → AreApart (errors_of (DecodesOpenType tag)) (ReadsShape (any (looked_for tag)))
  pub of_unknown : AreApart (errors_of DecodesUnknown) (ReadsShape unknown)

-- The same kinds: each input is read or refused.
pub record LeavesLeaveNone : Type 0 where
  pub of_boolean : (tag : Tag) → LeaveNone (λ old. FailsAs (BoolAt old.rule tag old.rest) old) (ReadsShape (leaf boolean tag unconstrained))
  pub of_null : (tag : Tag) → LeaveNone (λ old. FailsAs (NullAt old.rule tag old.rest) old) (ReadsShape (leaf null tag unconstrained))
  pub of_integer : (width : ℕ) (range : Interval) (tag : Tag) (c : Constraints) → LeaveNone (integer_errors (λ z. ⊥) width range tag c) (ReadsShape (leaf (integer range) tag c))
  pub of_long_integer : (tag : Tag) (c : Constraints) → LeaveNone (integer_errors IsLong 0 every tag c) (ReadsShape (leaf (integer every) tag c))
  pub of_enumerated : (known : List ℤ) → fit_isize known ≡ true → (tag : Tag)
      → LeaveNone (λ old. FailsAs (EnumeratedAt known old.rule tag old.rest) old) (ReadsShape (leaf (enumerated known) tag unconstrained))
  pub of_object_identifier : (tag : Tag) → LeaveNone (errors_of (DecodesObjectIdentifier tag)) (ReadsShape (leaf object_identifier tag unconstrained))
  pub of_bit_string : (tag : Tag) (c : Constraints) → LeaveNone (errors_of (DecodesBitString tag c)) (ReadsShape (leaf bit_string tag c))
  pub of_named_bits : (tag : Tag) (c : Constraints) → LeaveNone (errors_of (DecodesNamedBits tag c)) (ReadsShape (leaf named_bits tag c))
  pub of_octet_string : (tag : Tag) (c : Constraints) → LeaveNone (errors_of (DecodesString (λ (l : List ℕ). l) (BySize c.size) tag)) (ReadsShape (leaf octet_string tag c))
  pub of_fixed : (n : ℕ) (tag : Tag) (c : Constraints) → LeaveNone (errors_of (DecodesString (λ (l : List ℕ). l) (ByLength n c.size) tag)) (ReadsShape (leaf (fixed n) tag c))
  pub of_characters : (a : Alphabet) (tag : Tag) (c : Constraints) → LeaveNone (errors_of (DecodesString (λ (l : List ℕ). l) (ByAlphabet a c.size) tag)) (ReadsShape (leaf (string_kind a) tag c))
  pub of_utf8 : (tag : Tag) (c : Constraints) → LeaveNone (errors_of (DecodesString (λ (l : List ℕ). l) (ByUtf8 c.size) tag)) (ReadsShape (leaf utf8 tag c))
  pub of_bmp : (tag : Tag) (c : Constraints) → LeaveNone (errors_of (DecodesString (λ (l : List ℕ). l) (ByUnits c.size) tag)) (ReadsShape (leaf bmp tag c))
  pub of_utc_time : (tag : Tag) (c : Constraints) → LeaveNone (λ old. errors_of (DecodesTime (AtAnyOffset (UtcText old.rule)) tag) old) (ReadsShape (leaf utc_time tag c))
  pub of_generalized_time : (tag : Tag) (c : Constraints) → LeaveNone (λ old. errors_of (DecodesTime (GeneralizedText old.rule) tag) old) (ReadsShape (leaf generalized_time tag c))
  pub of_date : (tag : Tag) (c : Constraints) → LeaveNone (errors_of (DecodesTime DateText tag)) (ReadsShape (leaf date tag c))
  pub of_open_type : (tag : Tag) → LeaveNone (errors_of (DecodesOpenType tag)) (ReadsShape (any (looked_for tag)))
  pub of_unknown : LeaveNone (errors_of DecodesUnknown) (ReadsShape unknown)

-- The tree of NULL.
abbrev pub null_tree : Unit {0} → Tree
null_tree u = number (pos 0)

-- The same of what calls return: each input is decoded as a value, or refused.
pub record LeavesSettle : Type 0 where
  pub of_boolean : (tag : Tag) → Settles (DecodesOr (leaf boolean tag unconstrained) bool_tree (λ old. FailsAs (BoolAt old.rule tag old.rest) old))
  pub of_null : (tag : Tag) → Settles (DecodesOr (leaf null tag unconstrained) null_tree (λ old. FailsAs (NullAt old.rule tag old.rest) old))
  pub of_integer : (width : ℕ) (range : Interval) (tag : Tag) (c : Constraints) → Settles (DecodesOr (leaf (integer range) tag c) number (integer_errors (λ z. ⊥) width range tag c))
  pub of_long_integer : (tag : Tag) (c : Constraints) → Settles (DecodesOr (leaf (integer every) tag c) number (integer_errors IsLong 0 every tag c))
  pub of_enumerated : (known : List ℤ) → fit_isize known ≡ true → (tag : Tag)
      → Settles (DecodesOr (leaf (enumerated known) tag unconstrained) number (λ old. FailsAs (EnumeratedAt known old.rule tag old.rest) old))
  pub of_object_identifier : (tag : Tag) → Settles (DecodesOr (leaf object_identifier tag unconstrained) numbers (errors_of (DecodesObjectIdentifier tag)))
  pub of_bit_string : (tag : Tag) (c : Constraints) → Settles (DecodesOr (leaf bit_string tag c) bits_tree (errors_of (DecodesBitString tag c)))
  pub of_named_bits : (tag : Tag) (c : Constraints) → Settles (DecodesOr (leaf named_bits tag c) named_bits_tree (errors_of (DecodesNamedBits tag c)))
  pub of_octet_string : (tag : Tag) (c : Constraints) → Settles (DecodesOr (leaf octet_string tag c) numbers (errors_of (DecodesString (λ (l : List ℕ). l) (BySize c.size) tag)))
  pub of_fixed : (n : ℕ) (tag : Tag) (c : Constraints) → Settles (DecodesOr (leaf (fixed n) tag c) numbers (errors_of (DecodesString (λ (l : List ℕ). l) (ByLength n c.size) tag)))
  pub of_characters : (a : Alphabet) (tag : Tag) (c : Constraints) → Settles (DecodesOr (leaf (string_kind a) tag c) numbers (errors_of (DecodesString (λ (l : List ℕ). l) (ByAlphabet a c.size) tag)))
  pub of_utf8 : (tag : Tag) (c : Constraints) → Settles (DecodesOr (leaf utf8 tag c) numbers (errors_of (DecodesString (λ (l : List ℕ). l) (ByUtf8 c.size) tag)))
  pub of_bmp : (tag : Tag) (c : Constraints) → Settles (DecodesOr (leaf bmp tag c) numbers (errors_of (DecodesString (λ (l : List ℕ). l) (ByUnits c.size) tag)))
  pub of_utc_time : (tag : Tag) (c : Constraints) → Settles (DecodesOr (leaf utc_time tag c) (λ (m : Moment). instant m) (λ old. errors_of (DecodesTime (AtAnyOffset (UtcText old.rule)) tag) old))
  pub of_generalized_time : (tag : Tag) (c : Constraints) → Settles (DecodesOr (leaf generalized_time tag c) (λ (s : Stamp). instant s.moment) (λ old. errors_of (DecodesTime (GeneralizedText old.rule) tag) old))
  pub of_date : (tag : Tag) (c : Constraints) → Settles (DecodesOr (leaf date tag c) (λ (d : Day). on_day d) (errors_of (DecodesTime DateText tag)))
  pub of_open_type : (tag : Tag) → Settles (DecodesOr (any (looked_for tag)) numbers (errors_of (DecodesOpenType tag)))
  pub of_unknown : Settles (DecodesOr unknown (λ (u : Unknown). list_tree numbers u.values.items) (errors_of DecodesUnknown))

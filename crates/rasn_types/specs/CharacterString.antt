-- The octets that the restricted character string types admit, and the characters that they mean (X.680 41).
use Rattle.std.specs.Prelude.{◌≡◌, ℕ, ◌+◌, ◌*◌, ◌<◌, ◌≤◌, ◌⊎◌, ◌%◌, List, [], ◌∷◌, length, All, Contains, slice_index}
use Rattle.std.specs.List.{AllWithin}
use Rattle.std.proofs.Common.{inl, inr, arith, rules}
use Rattle.std.proofs.lemmas.List.Elements.{All-from_recursion}
use Rattle.rasn_types.specs.declared.types.strings.alphabet.Alphabet.{Alphabet}
use Rattle.rasn_types.specs.declared.types.strings.alphabet.Alphabet.TheVariants.{Numeric, Printable, Visible, Ia5, Every}
use Rattle.rasn_types.specs.Shapes.{Kind, numeric, printable, visible, ia5, any_octets}

abbrev pub IsDigitOrSpace : ℕ → Type 0
IsDigitOrSpace c = ((48 ≤ c) × (c < 58)) ⊎ (c ≡ 32)

-- The characters of PrintableString besides letters and digits: space and ' ( ) + , - . / : = ?
abbrev pub printable_marks : List ℕ
printable_marks = 32 ∷ 39 ∷ 40 ∷ 41 ∷ 43 ∷ 44 ∷ 45 ∷ 46 ∷ 47 ∷ 58 ∷ 61 ∷ 63 ∷ []

-- Letters, digits and these characters (X.680 41.4).
abbrev pub IsPrintable : ℕ → Type 0
IsPrintable c = ((65 ≤ c) × (c < 91)) ⊎ (((97 ≤ c) × (c < 123)) ⊎ (((48 ≤ c) × (c < 58)) ⊎ Contains printable_marks c))

abbrev pub IsAdmitted : Alphabet → ℕ → Type 0
IsAdmitted Numeric c = IsDigitOrSpace c
IsAdmitted Printable c = IsPrintable c
IsAdmitted Visible c = (32 ≤ c) × (c < 127)
IsAdmitted Ia5 c = c < 128
IsAdmitted Every c = Unit {0}

abbrev pub AreAdmitted : Alphabet → List ℕ → Type 0
AreAdmitted a l = All (IsAdmitted a) l

-- The first octet that isn't admitted is at this position.
abbrev pub IsFirstForeign : Alphabet → List ℕ → ℕ → Type 0
IsFirstForeign a octets place = (place < length octets) × AllWithin (IsAdmitted a) octets 0 place × (IsAdmitted a (slice_index octets place) → ⊥)

-- Only ASCII is admitted.
abbrev pub IsWithinAscii : Alphabet → Type 0
IsWithinAscii a = (c : ℕ) → IsAdmitted a c → c < 128

pub numeric_ascii : IsWithinAscii Numeric
numeric_ascii c (inl h) = omega arith
numeric_ascii c (inr h) = omega arith

marks_ascii : All (λ c. c < 128) printable_marks
marks_ascii = All-from_recursion (λ c. c < 128) printable_marks (search rules)

pub printable_ascii : IsWithinAscii Printable
printable_ascii c (inl h) = omega arith
printable_ascii c (inr (inl h)) = omega arith
printable_ascii c (inr (inr (inl h))) = omega arith
printable_ascii c (inr (inr (inr h))) = grind (arith, marks_ascii)

pub visible_ascii : IsWithinAscii Visible
visible_ascii c h = omega arith

pub ia5_ascii : IsWithinAscii Ia5
ia5_ascii c h = h

-- The kind of the string types with this alphabet.
abbrev pub string_kind : Alphabet → Kind
string_kind Numeric = numeric
string_kind Printable = printable
string_kind Visible = visible
string_kind Ia5 = ia5
string_kind Every = any_octets

-- The octets are a whole number of 16-bit units.
abbrev pub ArePaired : List ℕ → Type 0
ArePaired l = length l % 2 ≡ 0

-- The 16-bit units of octets, the high octet first.
abbrev pub units_of : List ℕ → List ℕ
units_of [] = []
units_of (a ∷ []) = []
units_of (a ∷ b ∷ l) = (256 * a + b) ∷ units_of l

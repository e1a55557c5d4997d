-- The texts of values in JSON strings.
use Rattle.std.specs.Prelude.{◌≡◌, ◌⊎◌, ℕ, ◌+◌, ◌/◌, ◌<◌, List, [], ◌∷◌, Bool, length, IsUtf8}
use Rattle.std.specs.String.{IsUtf16Of}
use Rattle.rasn_types.specs.Calendar.{Day, Moment, IsMoment}
use Rattle.rasn_types.specs.Time.{GeneralUtc, GeneralGeneralized, CarriedDay, CarriedUtc, written_generalized, written_utc}
use Rattle.rasn_types.specs.Text.{IsDotted, shown_day}
use Rattle.rasn_types.specs.BitString.{bits_from}
use Rattle.rasn_types.specs.CharacterString.{units_of}
use Rattle.rasn_schema.specs.Relative.{IsRelativeText}
pub use Rattle.rasn_schema.specs.TimeTexts.{shown_digits}
use Rattle.rasn_schema.specs.declared.types.LeafKind.{LeafKind}
use Rattle.rasn_schema.specs.declared.types.LeafKind.TheVariants.{UtcTime}

-- The text of a time of the type, as BER has it.
abbrev pub InstantText : LeafKind → List ℕ → Moment → Type 0
InstantText UtcTime s m = (offset : _) × GeneralUtc s (record { moment = m; offset = offset })
InstantText _ s m = (offset : _) × GeneralGeneralized s (record { moment = m; offset = offset })

-- The text of a time of the type, as DER has it (X.690 11.7, 11.8), which has less than all instants.
abbrev pub IsCarriedInstant : LeafKind → Moment → Type 0
IsCarriedInstant UtcTime m = CarriedUtc m
IsCarriedInstant _ m = CarriedDay m.day

abbrev pub written_instant : LeafKind → Moment → List ℕ
written_instant UtcTime m = written_utc m
written_instant _ m = written_generalized m

abbrev pub WrittenInstant : LeafKind → List ℕ → Moment → Type 0
WrittenInstant kind s m = IsMoment m × IsCarriedInstant kind m × IsUtf8 s × (s ≡ written_instant kind m)

-- So many bits, in as few octets as they take.
abbrev pub ArePacked : List ℕ → ℕ → List Bool → Type 0
ArePacked o n bs = (length o ≡ (n + 7) / 8) × (bs ≡ bits_from 0 n o)

-- The characters that the 16-bit units of these octets are, in UTF-8. A pair of surrogates is one character, which is none of the
-- Basic Multilingual Plane (X.680 41.15). An unpaired surrogate is no character.
abbrev pub UnitsText : List ℕ → List ℕ → Type 0
UnitsText s octets = IsUtf8 s × IsUtf16Of (units_of octets) s

-- The first two arcs have a subidentifier: under 0 and 1 there are 40 arcs (X.660 7.6, X.690 8.19.4).
abbrev pub HaveSubidentifier : List ℕ → Type 0
HaveSubidentifier [] = ⊥
HaveSubidentifier (x ∷ []) = ⊥
HaveSubidentifier (x ∷ y ∷ l) = (x ≡ 2) ⊎ (y < 40)

-- Arcs of 32 bits in decimal, with a point between each two.
abbrev pub ArcsText : List ℕ → List ℕ → Type 0
ArcsText s a = IsDotted s a × HaveSubidentifier a

-- The arcs of a RELATIVE-OID, as those of an OBJECT IDENTIFIER hold them.
abbrev pub RelativeText : List ℕ → List ℕ → Type 0
RelativeText s a = IsRelativeText s a

-- A day with a year of four digits: YYYY-MM-DD.
abbrev pub DayText : List ℕ → Day → Type 0
DayText s d = CarriedDay d × (s ≡ shown_day d)

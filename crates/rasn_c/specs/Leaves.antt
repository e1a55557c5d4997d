-- Values that hold no others, each from one whole encoding, whatever its tag is.
use Rattle.std.specs.Prelude.{◌≡◌, ◌≤◌, ◌<◌, ◌⊎◌, ℕ, ℤ, pos, List, [], ◌∷◌, ◌++◌, length, Ok as Passes}
use Rattle.rasn_types.specs.declared.types.codec.Codec.{Codec}
use Rattle.rasn_types.specs.declared.types.tag.Tag.{Tag}
use Rattle.rasn_types.specs.Shapes.{Kind, Tree, leaf, every, integer, object_identifier, utc_time, generalized_time, number, numbers, instant}
use Rattle.rasn_types.specs.Calendar.{Moment}
use Rattle.rasn_types.specs.Trees.{IsShortestOf, signed_range, unconstrained}
use Rattle.rasn_types.specs.Grammar.{Reads, top}
use Rattle.rasn_types.specs.Text.{dotted}
use Rattle.rasn_types.specs.Contents.{signed}
use Rattle.rasn_de.specs.Leaves.{definite_at}
use Rattle.rasn_types.specs.Inline.{IsLong}
use Rattle.rasn_c.specs.Rules.{rule_number, IsUnknownRule}
use Rattle.rasn_c.specs.Buffers.{written_over}
use Rattle.rasn_c.specs.declared.status.Status.{Status}
use Rattle.rasn_c.specs.declared.time.Time.{Time}
use Rattle.rasn_c.specs.declared.status.Status.TheVariants.{Ok, Refused, OutOfMemory, BufferTooSmall, UnknownType, UnknownRule}

-- All of the octets are a value of the kind with some tag.
abbrev pub IsLeaf : Codec → Kind → List ℕ → Tree → Type 0
IsLeaf rule kind octets t = (tag : Tag) × Reads rule (leaf kind tag unconstrained) 128 (top rule) octets t []

-- Of which octets reading a value may take memory, under a rule: of none; of an INTEGER that has more octets than a
-- value holds without; of any.
abbrev pub TakesNone : Codec → List ℕ → Type 0
TakesNone rule octets = ⊥

abbrev pub TakesLong : Codec → List ℕ → Type 0
TakesLong rule octets = (tag : Tag) × (contents : List ℕ) × (rest : List ℕ) × (definite_at rule tag octets ≡ Passes (contents, rest)) × IsLong (signed contents)

abbrev pub MayTake : Codec → List ℕ → Type 0
MayTake rule octets = Unit {0}

-- They are none; or there is no memory for it.
abbrev pub IsNoLeaf : (Codec → List ℕ → Type 0) → Codec → Kind → List ℕ → Status → Type 0
IsNoLeaf Takes rule kind octets Refused = (t : Tree) → IsLeaf rule kind octets t → ⊥
IsNoLeaf Takes rule kind octets OutOfMemory = Takes rule octets
IsNoLeaf Takes rule kind octets _ = ⊥

-- The number that an INTEGER has, if 64 bits hold it.
abbrev pub AnswersInteger : ℕ → List ℕ → ℤ → Status → Type 0
AnswersInteger code octets n Ok = (rule : Codec) × (code ≡ rule_number rule) × IsLeaf rule (integer (signed_range 64)) octets (number n)
AnswersInteger code octets n UnknownRule = IsUnknownRule code × (n ≡ pos 0)
AnswersInteger code octets n status = (rule : Codec) × (code ≡ rule_number rule) × IsNoLeaf TakesNone rule (integer (signed_range 64)) octets status × (n ≡ pos 0)

-- the numbers of an OBJECT IDENTIFIER with points between them, and a zero
abbrev pub dotted_text : List ℕ → List ℕ
dotted_text arcs = dotted arcs ++ 0 ∷ []

-- Nothing is written.
abbrev pub IsUnwritten : List ℕ → List ℕ → ℕ → Type 0
IsUnwritten old new needed = (new ≡ old) × (needed ≡ 0)

-- The text of an OBJECT IDENTIFIER, in a buffer.
abbrev pub AnswersIdentifier : ℕ → List ℕ → List ℕ → List ℕ → ℕ → Status → Type 0
AnswersIdentifier code octets old new needed Ok =
    (rule : Codec) × (code ≡ rule_number rule) × (arcs : List ℕ) × IsLeaf rule object_identifier octets (numbers arcs) × (needed ≡ length (dotted_text arcs)) × (needed ≤ length old) × (new ≡ written_over (dotted_text arcs) old)
AnswersIdentifier code octets old new needed BufferTooSmall =
    (rule : Codec) × (code ≡ rule_number rule) × (arcs : List ℕ) × IsLeaf rule object_identifier octets (numbers arcs) × (needed ≡ length (dotted_text arcs)) × (length old < needed) × (new ≡ old)
AnswersIdentifier code octets old new needed UnknownRule = IsUnknownRule code × IsUnwritten old new needed
AnswersIdentifier code octets old new needed status = (rule : Codec) × (code ≡ rule_number rule) × IsNoLeaf MayTake rule object_identifier octets status × IsUnwritten old new needed

-- The number of an INTEGER as its shortest octets in two's complement (8.3.3), in a buffer.
abbrev pub AnswersNumber : ℕ → List ℕ → List ℕ → List ℕ → ℕ → Status → Type 0
AnswersNumber code octets old new needed Ok =
    (rule : Codec) × (code ≡ rule_number rule) × (n : ℤ) × IsLeaf rule (integer every) octets (number n) × (text : List ℕ) × IsShortestOf n text × (needed ≡ length text) × (needed ≤ length old) × (new ≡ written_over text old)
AnswersNumber code octets old new needed BufferTooSmall =
    (rule : Codec) × (code ≡ rule_number rule) × (n : ℤ) × IsLeaf rule (integer every) octets (number n) × (text : List ℕ) × IsShortestOf n text × (needed ≡ length text) × (length old < needed) × (new ≡ old)
AnswersNumber code octets old new needed UnknownRule = IsUnknownRule code × IsUnwritten old new needed
AnswersNumber code octets old new needed status = (rule : Codec) × (code ≡ rule_number rule) × IsNoLeaf TakesLong rule (integer every) octets status × IsUnwritten old new needed

-- The types of times, by their numbers in C.
abbrev pub IsTimeKind : ℕ → Kind → Type 0
IsTimeKind type kind = ((type ≡ 9) × (kind ≡ utc_time)) ⊎ ((type ≡ 10) × (kind ≡ generalized_time))

-- These are the fields of the instant, in UTC.
pub record IsTime (m : Moment) (t : Time) : Type 0 where
  pub year : t.year ≡ m.day.year
  pub month : t.month ≡ m.day.month
  pub day : t.day ≡ m.day.day
  pub hour : t.hour ≡ m.hour
  pub minute : t.minute ≡ m.minute
  pub second : t.second ≡ m.second
  pub nanosecond : t.nanosecond ≡ m.nanosecond

abbrev pub no_time : Time
no_time = record { year = pos 0; month = 0; day = 0; hour = 0; minute = 0; second = 0; nanosecond = 0 }

-- All of the octets are such a time, or they are none.
abbrev pub IsInstant : ℕ → Codec → List ℕ → Moment → Type 0
IsInstant type rule octets m = (kind : Kind) × IsTimeKind type kind × IsLeaf rule kind octets (instant m)

abbrev pub IsNoInstant : ℕ → Codec → List ℕ → Status → Type 0
IsNoInstant type rule octets UnknownType = (kind : Kind) → IsTimeKind type kind → ⊥
IsNoInstant type rule octets status = (kind : Kind) × IsTimeKind type kind × IsNoLeaf MayTake rule kind octets status

-- The instant of a UTCTime or a GeneralizedTime.
abbrev pub AnswersTime : ℕ → ℕ → List ℕ → Time → Status → Type 0
AnswersTime type code octets t Ok = (rule : Codec) × (code ≡ rule_number rule) × (m : Moment) × IsInstant type rule octets m × IsTime m t
AnswersTime type code octets t UnknownRule = IsUnknownRule code × (t ≡ no_time)
AnswersTime type code octets t status = (rule : Codec) × (code ≡ rule_number rule) × IsNoInstant type rule octets status × (t ≡ no_time)

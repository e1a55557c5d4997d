-- The laws of the grammar.
use Rattle.std.specs.Prelude.{◌≡◌, ◌↔◌, ℕ, ◌*◌, ◌≤◌, List, [], ◌++◌, length, Bool, true, false, Option}
use Rattle.rasn_types.specs.declared.types.codec.Codec.{Codec}
use Rattle.rasn_types.specs.declared.types.codec.Codec.TheVariants.{Ber, Der}
use Rattle.rasn_types.specs.declared.types.tag.Tag.{Tag}
use Rattle.rasn_types.specs.declared.types.constraints.Bound.{Bound}
use Rattle.rasn_types.specs.declared.types.constraints.Constraints.{Constraints}
use Rattle.rasn_types.specs.Framing.{CompleteEncoding, steps_in, AreOctets}
use Rattle.rasn_types.specs.Shapes.{Tree, Kind, Shape, leaf, any, prefix, choice, open_choice, option, seq, set, sorted_set, list, set_of, unknown, Parts, part, Presence, default_by, IsAlwaysPresent}
use Rattle.rasn_types.specs.Shapes.Parts.{none}
use Rattle.rasn_types.specs.Grammar.{Reads, top}
use Rattle.rasn_types.specs.Bytes.{Same, Bytes}
use Rattle.rasn_types.specs.Carried.{IsWithinLimits, Carried}
use Rattle.rasn_types.specs.Lawful.{AreDistinguished, IsLawful}
use Rattle.rasn_types.specs.LawfulTest.{is_lawful}
use Rattle.rasn.specs.Carries.{carries_all}

-- At every depth, an input is read as at most one tree with at most one rest.
abbrev pub IsReadOnce : Codec → Shape → Type 0
IsReadOnce rule s = (depth : ℕ) (closing : Bool) (input : List ℕ) (t u : Tree) (rest other : List ℕ)
    → Reads rule s depth closing input t rest → Reads rule s depth closing input u other → (t ≡ u) × (rest ≡ other)

abbrev pub AreReadOnce : Codec → Parts → Type 0
AreReadOnce rule none = Unit {0}
AreReadOnce rule (part presence s ps) = IsReadOnce rule s × AreReadOnce rule ps

-- A shape is lawful exactly if it passes the test `is_lawful`.
abbrev pub LawfulTested : Type 0
LawfulTested = (s : Shape) → (IsLawful s ↔ (is_lawful s ≡ true))

-- The law of one reading for each kind of shape, given the law for its parts.
abbrev pub OneLeaf : Type 0
OneLeaf = (rule : Codec) (kind : Kind) (tag : Tag) (bounds : Constraints) → IsReadOnce rule (leaf kind tag bounds)

abbrev pub OneOpen : Type 0
OneOpen = (rule : Codec) (tag : Option Tag) → IsReadOnce rule (any tag)

abbrev pub OnePrefix : Type 0
OnePrefix = (rule : Codec) (tag : Tag) (s : Shape) → IsReadOnce rule s → IsReadOnce rule (prefix tag s)

abbrev pub OneChoice : Type 0
OneChoice = (rule : Codec) (ps : Parts) → AreReadOnce rule ps → AreDistinguished ps → IsReadOnce rule (choice ps)

abbrev pub OneOpenChoice : Type 0
OneOpenChoice = (rule : Codec) (ps : Parts) → AreReadOnce rule ps → AreDistinguished ps → IsReadOnce rule (open_choice ps)

abbrev pub OneOption : Type 0
OneOption = (rule : Codec) (tag : Option Tag) (s : Shape) → IsReadOnce rule s → IsReadOnce rule (option tag s)

abbrev pub OneSequence : Type 0
OneSequence = (rule : Codec) (tag : Tag) (ps : Parts) → AreReadOnce rule ps → IsReadOnce rule (seq tag ps)

abbrev pub OneSet : Type 0
OneSet = (rule : Codec) (tag : Tag) (ps : Parts) → AreReadOnce rule ps → AreDistinguished ps → IsReadOnce rule (set tag ps)

abbrev pub OneSortedSet : Type 0
OneSortedSet = (rule : Codec) (extensible : Bool) (tag : Tag) (ps : Parts) → AreReadOnce rule ps → AreDistinguished ps → IsReadOnce rule (sorted_set extensible tag ps)

abbrev pub OneSequenceOf : Type 0
OneSequenceOf = (rule : Codec) (tag : Tag) (s : Shape) (size : Option (Bound ℕ)) → IsReadOnce rule s → IsReadOnce rule (list tag s size)

abbrev pub OneSetOf : Type 0
OneSetOf = (rule : Codec) (tag : Tag) (s : Shape) (size : Option (Bound ℕ)) → IsReadOnce rule s → IsReadOnce rule (set_of tag s size)

abbrev pub OneUnknown : Type 0
OneUnknown = (rule : Codec) → IsReadOnce rule unknown

abbrev pub OneReading : Type 0
OneReading = (s : Shape) → IsLawful s → (rule : Codec) (depth : ℕ) (closing : Bool) (input : List ℕ) (t u : Tree) (rest other : List ℕ)
    → Reads rule s depth closing input t rest → Reads rule s depth closing input u other → (t ≡ u) × (rest ≡ other)

abbrev pub Included : Type 0
Included = (s : Shape) → IsLawful s → (rule : Codec) (depth : ℕ) (input : List ℕ) (t : Tree) (rest : List ℕ)
    → Reads rule s depth (top rule) input t rest → Reads Ber s depth true input t rest

abbrev pub ReadAgain : Type 0
ReadAgain = (s : Shape) → IsLawful s → (rule : Codec) (t : Tree) (c : Carried rule s t)
    → (u : Tree) × Same t u × Reads rule s 128 (top rule) c.octets u []
    × (IsAlwaysPresent s → (rest : List ℕ) → Reads rule s 128 (top rule) (c.octets ++ rest) u rest)

abbrev pub Canonical : Type 0
Canonical = (s : Shape) → IsLawful s → (t u : Tree) (c : Carried Der s t) (d : Carried Der s u) → (Same t u ↔ (c.octets ≡ d.octets))

abbrev pub WrittenOnce : Type 0
WrittenOnce = (s : Shape) (rule : Codec) (t u : Tree) (a b : List ℕ) → Same t u → Bytes rule s t a → Bytes rule s u b → a ≡ b

-- A lawful SET whose parts are listed in the order of their tags is read and written as one that is put in this order.
abbrev pub ListedAlike : Type 0
ListedAlike = (rule : Codec) (tag : Tag) (ps : Parts) → IsLawful (set tag ps)
    → ((depth : ℕ) (closing : Bool) (input : List ℕ) (t : Tree) (rest : List ℕ) → (Reads rule (set tag ps) depth closing input t rest ↔ Reads rule (sorted_set false tag ps) depth closing input t rest))
    × ((t : Tree) (b : List ℕ) → (Bytes rule (set tag ps) t b ↔ Bytes rule (sorted_set false tag ps) t b))

-- Each default is the same as itself, as the tree of every value is.
abbrev pub IsOwnDefault : Presence → Type 0
IsOwnDefault (default_by key d) = Same d d
IsOwnDefault presence = Unit {0}

abbrev mutual
  pub HasOwnDefaults : Shape → Type 0
  HasOwnDefaults (leaf kind tag bounds) = Unit {0}
  HasOwnDefaults (any tag) = Unit {0}
  HasOwnDefaults (prefix tag s) = HasOwnDefaults s
  HasOwnDefaults (choice ps) = HaveOwnDefaults ps
  HasOwnDefaults (open_choice ps) = HaveOwnDefaults ps
  HasOwnDefaults (option tag s) = HasOwnDefaults s
  HasOwnDefaults (seq tag ps) = HaveOwnDefaults ps
  HasOwnDefaults (set tag ps) = HaveOwnDefaults ps
  HasOwnDefaults (sorted_set extensible tag ps) = HaveOwnDefaults ps
  HasOwnDefaults (list tag s size) = HasOwnDefaults s
  HasOwnDefaults (set_of tag s size) = HasOwnDefaults s
  HasOwnDefaults unknown = Unit {0}

  pub HaveOwnDefaults : Parts → Type 0
  HaveOwnDefaults none = Unit {0}
  HaveOwnDefaults (part presence s ps) = IsOwnDefault presence × HasOwnDefaults s × HaveOwnDefaults ps

-- What DER reads of a lawful shape whose defaults are the same as themselves is carried if it is within limits.
abbrev pub OnlyCarried : Type 0
OnlyCarried = (s : Shape) → IsLawful s → HasOwnDefaults s → (input : List ℕ) → AreOctets input → (t : Tree) (rest : List ℕ) → Reads Der s 128 (top Der) input t rest → IsWithinLimits Der s 128 t
    → (c : Carried Der s t) × (input ≡ c.octets ++ rest)

-- What DER reads of a lawful shape that passes the test `carries_all` is carried.
abbrev pub AllCarried : Type 0
AllCarried = (s : Shape) → IsLawful s → carries_all s ≡ true → (input : List ℕ) → AreOctets input → (t : Tree) (rest : List ℕ) → Reads Der s 128 (top Der) input t rest
    → (c : Carried Der s t) × (input ≡ c.octets ++ rest)

-- What DER reads of the octets of a carried tree of a lawful shape is carried too, with the same octets.
abbrev pub StaysCarried : Type 0
StaysCarried = (s : Shape) → IsLawful s → (t : Tree) (c : Carried Der s t) → AreOctets c.octets → (u : Tree) → Reads Der s 128 (top Der) c.octets u [] → (d : Carried Der s u) × (d.octets ≡ c.octets)

-- If DER reads a carried tree of a lawful shape, the octets that are consumed are the tree's DER octets.
abbrev pub StrictDer : Type 0
StrictDer = (s : Shape) → IsLawful s → (input : List ℕ) → AreOctets input → (t : Tree) (rest : List ℕ) → Reads Der s 128 (top Der) input t rest → Carried Der s t
    → (text : List ℕ) × Bytes Der s t text × (input ≡ text ++ rest)

-- Two complete encodings at the front of the same input are equal, and skipping either takes the same number of steps.
abbrev pub OneEncoding : Type 0
OneEncoding = (rule other : Codec) (a b x y : List ℕ) (v : CompleteEncoding rule a) (w : CompleteEncoding other b) → a ++ x ≡ b ++ y
    → (a ≡ b) × (x ≡ y) × (steps_in v ≡ steps_in w)

-- Each step of skipping an encoding skips at least two octets.
abbrev pub EncodingSteps : Type 0
EncodingSteps = (rule : Codec) (text : List ℕ) (w : CompleteEncoding rule text) → 2 * steps_in w ≤ length text

-- Identifier, length and contents octets (X.690 8.1).
use Rattle.std.specs.Prelude.{◌≡◌, ℕ, ◌+◌, ◌*◌, ◌^◌, ◌%◌, ◌<◌, ◌≤◌, ◌⊎◌, ◌≢◌, List, [], ◌∷◌, ◌++◌, length, Bool, true, false}
use Rattle.rasn_types.specs.Tags.{Form, basic_form, der_form, loose_form, loose, HasStrictForm, Codec, Tag, rank, eoc}

-- Every octet except the last has its high bit set.
abbrev pub IsChain : List ℕ → Type 0
IsChain [] = ⊥
IsChain (b ∷ l) = ((b < 128) × (l ≡ [])) ⊎ ((128 ≤ b) × IsChain l)

-- The number that a list of digits represents, most significant first. Each digit is taken modulo the base.
abbrev pub number_in : ℕ → List ℕ → ℕ
number_in base [] = 0
number_in base (b ∷ l) = b % base * base ^ length l + number_in base l

-- The octets spell the number in base 128 (8.1.2.4, 8.19.2).
pub record Spells128 (l : List ℕ) (n : ℕ) : Type 0 where
  pub chain : IsChain l
  pub is : n ≡ number_in 128 l
  pub below : n < 2 ^ 32

abbrev pub bit_of : Bool → ℕ
bit_of true = 1
bit_of false = 0

-- The first octet of an identifier, and the octets after it (8.1.2).
pub record IsIdentifier (first : ℕ) (more : List ℕ) (tag : Tag) (bit : Bool) : Type 0 where
  pub low : ℕ
  pub leading : first ≡ 64 * rank tag.class + (32 * bit_of bit + low)
  pub number : ((low < 31) × (more ≡ []) × (tag.value ≡ low)) ⊎ ((low ≡ 31) × Spells128 more tag.value)

-- The octets spell the tag, which may be universal 0.
abbrev pub SpellsAnyIdentifier : List ℕ → Tag → Bool → Type 0
SpellsAnyIdentifier [] tag bit = ⊥
SpellsAnyIdentifier (first ∷ more) tag bit = IsIdentifier first more tag bit

-- The octets spell the tag of a value, which isn't universal 0.
pub record SpellsIdentifier (l : List ℕ) (tag : Tag) (bit : Bool) : Type 0 where
  pub spells : SpellsAnyIdentifier l tag bit
  pub is_one : tag ≢ eoc

-- The first length octet, and the octets after it (8.1.3).
abbrev pub SpellsLength : List ℕ → ℕ → Type 0
SpellsLength [] n = ⊥
SpellsLength (first ∷ more) n =
    ((first < 128) × (more ≡ []) × (n ≡ first))
    ⊎ ((first ≡ 128 + length more) × (0 < length more) × (length more < 127) × (n ≡ number_in 256 more) × (n < 2 ^ 64))

-- The identifier and the length are spelled in the fewest octets.
abbrev pub IsShortestIdentifier : List ℕ → Tag → Type 0
IsShortestIdentifier [] tag = ⊥
IsShortestIdentifier (first ∷ []) tag = Unit {0}
IsShortestIdentifier (first ∷ b ∷ more) tag = (31 ≤ tag.value) × (b ≢ 128)

abbrev pub IsShortestLength : List ℕ → ℕ → Type 0
IsShortestLength [] n = ⊥
IsShortestLength (first ∷ []) n = Unit {0}
IsShortestLength (first ∷ b ∷ more) n = (128 ≤ n) × (b ≢ 0)

pub data Extent : Type 0 where
  definite : List ℕ → Extent
  indefinite : Extent

abbrev pub HasIndefinite : Form → Type 0
HasIndefinite basic_form = Unit {0}
HasIndefinite der_form = ⊥
HasIndefinite loose_form = ⊥

-- The input begins with the header of a value. After a definite length, the contents follow and then the rest; after an
-- indefinite length, the rest.
pub data Frame (spelling : Form) (input : List ℕ) (tag : Tag) (bit : Bool) (rest : List ℕ) : Extent → Type 0 where
  with_length : (id len contents : List ℕ) → SpellsIdentifier id tag bit → SpellsLength len (length contents)
      → (HasStrictForm spelling → IsShortestIdentifier id tag × IsShortestLength len (length contents))
      → input ≡ id ++ (len ++ (contents ++ rest)) → Frame spelling input tag bit rest (definite contents)
  without_length : (id : List ℕ) → SpellsIdentifier id tag bit → bit ≡ true → HasIndefinite spelling
      → input ≡ id ++ (128 ∷ rest) → Frame spelling input tag bit rest indefinite

-- The octets begin with an identifier of this tag, which may be universal 0.
pub record Begins (octets : List ℕ) (tag : Tag) : Type 0 where
  pub id : List ℕ
  pub bit : Bool
  pub more : List ℕ
  pub spells : SpellsAnyIdentifier id tag bit
  pub is : octets ≡ id ++ more

-- The input begins with the identifier of a value with this tag.
pub record NextTag (spelling : Form) (input : List ℕ) (tag : Tag) : Type 0 where
  pub begins : Begins input tag
  pub is_one : tag ≢ eoc
  pub shortest : HasStrictForm spelling → IsShortestIdentifier begins.id tag

-- The contents end here: the input is empty, or begins with end-of-contents octets that may end the contents.
abbrev pub Ended : Bool → List ℕ → Type 0
Ended closing input = (input ≡ []) ⊎ ((closing ≡ true) × (more : List ℕ) × (input ≡ 0 ∷ 0 ∷ more))

-- Complete encodings, including end-of-contents octets (8.1.4, 8.1.5).
mutual
  pub data CompleteEncoding (rule : Codec) : List ℕ → Type 0 where
    plain : {text : List ℕ} (tag : Tag) (bit : Bool) (contents : List ℕ) → Frame (loose rule) text tag bit [] (definite contents) → CompleteEncoding rule text
    closed : {text : List ℕ} (tag : Tag) (bit : Bool) (body nested : List ℕ) → Frame (loose rule) text tag bit body indefinite
        → CompleteEncodings rule nested → body ≡ nested ++ (0 ∷ 0 ∷ []) → CompleteEncoding rule text

  pub data CompleteEncodings (rule : Codec) : List ℕ → Type 0 where
    none : CompleteEncodings rule []
    one_more : {text : List ℕ} (front back : List ℕ) → CompleteEncoding rule front → CompleteEncodings rule back → text ≡ front ++ back → CompleteEncodings rule text

-- The number of steps that skipping an encoding takes: one for each nested header with its definite contents, and for
-- each pair of end-of-contents octets.
abbrev mutual
  pub steps_in : {rule : Codec} {text : List ℕ} → CompleteEncoding rule text → ℕ
  steps_in (plain tag bit contents frame) = 0
  steps_in (closed tag bit body nested frame inside is) = 1 + steps_of inside

  pub steps_of : {rule : Codec} {text : List ℕ} → CompleteEncodings rule text → ℕ
  steps_of none = 0
  steps_of (one_more front back first others is) = (1 + steps_in first) + steps_of others

-- A list of octets.
abbrev pub AreOctets : List ℕ → Type 0
AreOctets [] = Unit {0}
AreOctets (b ∷ l) = (b < 256) × AreOctets l

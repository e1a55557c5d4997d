-- Tags (X.680 8) and encoding rules.
use Rattle.std.specs.Prelude.{T, Bool, true, false, ◌==◌, ◌||◌, ◌&&◌, ◌≡◌, ℕ, ◌<◌, ◌⊎◌}
pub use Rattle.rasn_types.specs.declared.types.codec.Codec.{Codec}
pub use Rattle.rasn_types.specs.declared.types.codec.Codec.TheVariants.{Ber, Cer, Der}
pub use Rattle.rasn_types.specs.declared.types.tag.Class.{Class}
pub use Rattle.rasn_types.specs.declared.types.tag.Class.TheVariants.{Universal, Application, Context, Private}
pub use Rattle.rasn_types.specs.declared.types.tag.Tag.{Tag}

-- How headers are spelled: as in BER and CER, as in DER, or as in DER but in any number of octets.
pub data Form : Type 0 where
  basic_form der_form loose_form : Form

abbrev pub form : Codec → Form
form Ber = basic_form
form Cer = basic_form
form Der = der_form

-- Open types are read leniently under DER.
abbrev pub loose : Codec → Form
loose Ber = basic_form
loose Cer = basic_form
loose Der = loose_form

-- The form in which only the shortest spellings are allowed.
abbrev pub HasStrictForm : Form → Type 0
HasStrictForm basic_form = ⊥
HasStrictForm der_form = Unit {0}
HasStrictForm loose_form = ⊥

-- Whether the rule is strict: nothing is read except what the encoder writes.
abbrev pub is_der : Codec → Bool
is_der Ber = false
is_der Cer = false
is_der Der = true

abbrev pub IsStrict : Codec → Type 0
IsStrict rule = T (is_der rule)

-- The rules of X.690 11 hold: those that have one encoding for each value.
abbrev pub IsCanonical : Codec → Type 0
IsCanonical Ber = ⊥
IsCanonical Cer = Unit {0}
IsCanonical Der = Unit {0}

abbrev pub rank : Class → ℕ
rank Universal = 0
rank Application = 1
rank Context = 2
rank Private = 3

-- What an identifier says (X.690 8.1.2): a tag, and whether the encoding is constructed.
pub record TagAndBit : Type 0 where
  pub tag : Tag
  pub bit : Bool

-- The tag of end-of-contents octets, which no value has.
abbrev pub eoc : Tag
eoc = record { class = Universal; value = 0 }

abbrev pub in_universal : ℕ → Tag
in_universal n = record { class = Universal; value = n }

-- The order of tags, by class and then by number (X.680 8.6).
abbrev pub IsTagBelow : Tag → Tag → Type 0
IsTagBelow s t = (rank s.class < rank t.class) ⊎ ((rank s.class ≡ rank t.class) × (s.value < t.value))

-- EXTERNAL, SEQUENCE and SET are always constructed.
abbrev pub bit_in : Class → ℕ → Bool
bit_in Universal n = (n == 8) || ((n == 16) || (n == 17))
bit_in Application n = false
bit_in Context n = false
bit_in Private n = false

abbrev pub tag_bit : Tag → Bool
tag_bit tag = bit_in tag.class tag.value

-- Whether a tag is universal 0, which in a call means that no tag is looked for.
abbrev pub is_universal : Class → Bool
is_universal Universal = true
is_universal Application = false
is_universal Context = false
is_universal Private = false

abbrev pub is_eoc : Tag → Bool
is_eoc tag = is_universal tag.class && (tag.value == 0)

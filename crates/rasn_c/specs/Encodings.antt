-- One whole encoding at the front of octets, and where its parts are (X.690 8.1).
use Rattle.std.specs.Prelude.{◌≡◌, ◌+◌, ◌/◌, ◌%◌, ℕ, List, [], ◌∷◌, ◌++◌, length, Bool, true, false}
use Rattle.rasn_types.specs.declared.types.codec.Codec.{Codec}
use Rattle.rasn_types.specs.declared.types.tag.Tag.{Tag}
use Rattle.rasn_types.specs.Tags.{loose, rank}
use Rattle.rasn_types.specs.Framing.{Frame, definite, indefinite, CompleteEncodings, bit_of}
use Rattle.rasn_c.specs.Rules.{rule_number, IsUnknownRule}
use Rattle.rasn_c.specs.Skipping.{IsUnpassed}
use Rattle.rasn_c.specs.declared.status.Status.{Status}
use Rattle.rasn_c.specs.declared.status.Status.TheVariants.{Ok, Refused, UnknownRule}
use Rattle.rasn_c.specs.declared.encoding.Encoding.{Encoding}

-- the bit of an identifier that is 1 for a constructed encoding (8.1.2.5)
abbrev pub constructed_bit : List ℕ → ℕ
constructed_bit [] = 0
constructed_bit (first ∷ more) = first / 32 % 2

-- how many end-of-contents octets there are
abbrev pub end_length : Bool → ℕ
end_length true = 2
end_length false = 0

-- nothing is there
abbrev pub no_encoding : Encoding
no_encoding = record { class = 0; number = 0; constructed = 0; header = 0; contents = 0; length = 0 }

-- The contents of a value, and the end-of-contents octets after them if its length is indefinite (8.1.5).
pub data Encloses (rule : Codec) (text : List ℕ) (tag : Tag) (bit : Bool) (contents : List ℕ) : List ℕ → Type 0 where
  by_length : Frame (loose rule) text tag bit [] (definite contents) → Encloses rule text tag bit contents []
  by_end : Frame (loose rule) text tag bit (contents ++ (0 ∷ 0 ∷ [])) indefinite → CompleteEncodings rule contents → Encloses rule text tag bit contents (0 ∷ 0 ∷ [])

-- The octets are one whole encoding: a header, contents, and end-of-contents octets if the length is indefinite.
pub record HasParts (rule : Codec) (text : List ℕ) (e : Encoding) : Type 0 where
  pub tag : Tag
  pub bit : Bool
  pub contents : List ℕ
  pub end : List ℕ
  pub encloses : Encloses rule text tag bit contents end
  pub class_is : e.class ≡ rank tag.class
  pub number_is : e.number ≡ tag.value
  pub constructed_is : e.constructed ≡ bit_of bit
  pub contents_are : e.contents ≡ length contents
  pub header_is : e.header + (length contents + length end) ≡ length text
  pub length_is : e.length ≡ length text

-- The octets begin with one whole encoding, which has these parts.
pub record IsEncoding (rule : Codec) (octets : List ℕ) (e : Encoding) : Type 0 where
  pub text : List ℕ
  pub rest : List ℕ
  pub is : octets ≡ text ++ rest
  pub parts : HasParts rule text e

-- The status of looking at the encoding at the front of the octets.
abbrev pub AnswersNext : ℕ → List ℕ → Encoding → Status → Type 0
AnswersNext number octets e Ok = (rule : Codec) × (number ≡ rule_number rule) × IsEncoding rule octets e
AnswersNext number octets e Refused = (rule : Codec) × (number ≡ rule_number rule) × IsUnpassed rule octets × (e ≡ no_encoding)
AnswersNext number octets e UnknownRule = IsUnknownRule number × (e ≡ no_encoding)
AnswersNext number octets e _ = ⊥

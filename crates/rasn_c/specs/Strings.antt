-- Strings as UTF-8, and the bits of a BIT STRING.
use Rattle.std.specs.Prelude.{◌≡◌, ◌≢◌, ◌⊎◌, ◌++◌, ◌∷◌, [], ℕ, List, length, chars, Bool, IsUtf8}
use Rattle.rasn_types.specs.declared.types.codec.Codec.{Codec}
use Rattle.rasn_types.specs.Shapes.{bit_string, bits, numbers, Kind, utf8, numeric, printable, ia5, visible}
use Rattle.rasn_types.specs.BitString.{Packs}
use Rattle.rasn_c.specs.Rules.{rule_number, IsUnknownRule}
use Rattle.rasn_c.specs.Buffers.{IsFilled}
use Rattle.rasn_c.specs.Leaves.{IsLeaf, IsNoLeaf, MayTake, IsUnwritten}
use Rattle.rasn_c.specs.declared.status.Status.{Status}
use Rattle.rasn_c.specs.declared.status.Status.TheVariants.{Ok, Refused, OutOfMemory, BufferTooSmall, UnknownType, UnknownRule}

-- The types of strings whose characters are octets, by the numbers of their universal tags.
abbrev pub IsOctetKind : ℕ → Kind → Type 0
IsOctetKind number kind = ((number ≡ 18) × (kind ≡ numeric)) ⊎ (((number ≡ 19) × (kind ≡ printable)) ⊎ (((number ≡ 22) × (kind ≡ ia5)) ⊎ ((number ≡ 26) × (kind ≡ visible))))

-- All of the octets are a string of the type with this number, and its characters are this text in UTF-8.
abbrev pub IsString : ℕ → Codec → List ℕ → List ℕ → Type 0
IsString number rule octets text = ((number ≡ 12) × IsUtf8 text × IsLeaf rule utf8 octets (numbers (chars text))) ⊎ ((kind : Kind) × IsOctetKind number kind × IsLeaf rule kind octets (numbers text))

-- They are none, or there is no memory for it; or no such type has the number.
abbrev pub IsNoString : ℕ → Codec → List ℕ → Status → Type 0
IsNoString number rule octets UnknownType = (number ≢ 12) × ((kind : Kind) → IsOctetKind number kind → ⊥)
IsNoString number rule octets Refused = ((number ≡ 12) × IsNoLeaf MayTake rule utf8 octets Refused) ⊎ ((kind : Kind) × IsOctetKind number kind × IsNoLeaf MayTake rule kind octets Refused)
IsNoString number rule octets OutOfMemory = Unit {0}
IsNoString number rule octets _ = ⊥

-- The status of writing the characters of a string, and a zero.
abbrev pub AnswersCharacters : ℕ → ℕ → List ℕ → List ℕ → List ℕ → ℕ → Status → Type 0
AnswersCharacters number code octets old new needed Ok = (rule : Codec) × (code ≡ rule_number rule) × (text : List ℕ) × IsString number rule octets text × IsFilled (text ++ 0 ∷ []) old new needed Ok
AnswersCharacters number code octets old new needed BufferTooSmall = (rule : Codec) × (code ≡ rule_number rule) × (text : List ℕ) × IsString number rule octets text × IsFilled (text ++ 0 ∷ []) old new needed BufferTooSmall
AnswersCharacters number code octets old new needed UnknownRule = IsUnknownRule code × IsUnwritten old new needed
AnswersCharacters number code octets old new needed status = (rule : Codec) × (code ≡ rule_number rule) × IsNoString number rule octets status × IsUnwritten old new needed

-- All of the octets are a BIT STRING of so many bits, which these octets hold.
abbrev pub AreBits : Codec → List ℕ → List ℕ → ℕ → Type 0
AreBits rule octets packed count = (bs : List Bool) × IsLeaf rule bit_string octets (bits bs) × Packs bs packed × (count ≡ length bs)

-- The status of writing the bits of a BIT STRING.
abbrev pub AnswersBits : ℕ → List ℕ → List ℕ → List ℕ → ℕ → ℕ → Status → Type 0
AnswersBits code octets old new needed count Ok = (rule : Codec) × (code ≡ rule_number rule) × (packed : List ℕ) × AreBits rule octets packed count × IsFilled packed old new needed Ok
AnswersBits code octets old new needed count BufferTooSmall = (rule : Codec) × (code ≡ rule_number rule) × (packed : List ℕ) × AreBits rule octets packed count × IsFilled packed old new needed BufferTooSmall
AnswersBits code octets old new needed count UnknownRule = IsUnknownRule code × IsUnwritten old new needed × (count ≡ 0)
AnswersBits code octets old new needed count status = (rule : Codec) × (code ≡ rule_number rule) × IsNoLeaf MayTake rule bit_string octets status × IsUnwritten old new needed × (count ≡ 0)

-- The text of a distinguished name, in a buffer.
use Rattle.std.specs.Prelude.{◌≡◌, ◌≤◌, ◌<◌, ℕ, List, [], ◌∷◌, ◌++◌, length}
use Rattle.rasn_types.specs.declared.types.codec.Codec.{Codec}
use Rattle.rasn_types.specs.Grammar.{Reads, top}
use Rattle.rasn_pkix.specs.declared.name.Name.{Name}
use Rattle.rasn_pkix.specs.contracts.name.NameAsnType.TheImpl.{ghosts as name_ghosts}
use Rattle.rasn_text.specs.Names.{IsNameText}
use Rattle.rasn_c.specs.Rules.{rule_number, IsUnknownRule}
use Rattle.rasn_c.specs.Whole.{IsNoWhole}
use Rattle.rasn_c.specs.Buffers.{written_over}
use Rattle.rasn_c.specs.Leaves.{IsUnwritten}
use Rattle.rasn_c.specs.declared.status.Status.{Status}
use Rattle.rasn_c.specs.declared.status.Status.TheVariants.{Ok, Refused, OutOfMemory, BufferTooSmall, UnknownRule}

-- All of the octets are this Name (RFC 5280, 4.1.2.4).
abbrev pub IsName : Codec → List ℕ → Name → Type 0
IsName rule octets name = Reads rule name_ghosts.shape 128 (top rule) octets (name_ghosts.tree name) []

-- They are none; or there is no memory for it.
abbrev pub IsNoName : Codec → List ℕ → Status → Type 0
IsNoName rule octets status = IsNoWhole rule name_ghosts.shape octets status

-- The text of the name, and a zero.
abbrev pub IsEndedText : Name → List ℕ → Type 0
IsEndedText name ended = (text : List ℕ) × IsNameText name text × (ended ≡ text ++ 0 ∷ [])

-- The octets are a Name with this text, by the rules of this number.
abbrev pub IsNamed : ℕ → List ℕ → List ℕ → Type 0
IsNamed code octets ended = (rule : Codec) × (code ≡ rule_number rule) × (name : Name) × IsName rule octets name × IsEndedText name ended

-- The text of a Name with its zero, in a buffer.
abbrev pub AnswersName : ℕ → List ℕ → List ℕ → List ℕ → ℕ → Status → Type 0
AnswersName code octets old new needed Ok = (ended : List ℕ) × IsNamed code octets ended × (needed ≡ length ended) × (needed ≤ length old) × (new ≡ written_over ended old)
AnswersName code octets old new needed BufferTooSmall = (ended : List ℕ) × IsNamed code octets ended × (needed ≡ length ended) × (length old < needed) × (new ≡ old)
AnswersName code octets old new needed UnknownRule = IsUnknownRule code × IsUnwritten old new needed
AnswersName code octets old new needed status = (rule : Codec) × (code ≡ rule_number rule) × IsNoName rule octets status × IsUnwritten old new needed

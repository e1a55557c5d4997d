-- One whole encoding at the front of octets.
use Rattle.std.specs.Prelude.{◌≡◌, ◌+◌, ℕ, List, length, Ok as Passes, Err}
use Rattle.rasn_types.specs.declared.types.codec.Codec.{Codec}
use Rattle.rasn_de.specs.declared.ber.de.parser.ParseError.{ParseError}
use Rattle.rasn_de.specs.Skipping.{Skipped, IsFault, Exactly}
use Rattle.rasn_c.specs.Rules.{rule_number, IsUnknownRule}
use Rattle.rasn_c.specs.declared.status.Status.{Status}
use Rattle.rasn_c.specs.declared.status.Status.TheVariants.{Ok, Refused, UnknownRule}
use Rattle.rasn_c.specs.declared.skipping.Passed.{Passed}

-- nothing was skipped
abbrev pub nothing_passed : Passed
nothing_passed = record { consumed = 0; steps = 0 }

-- The octets begin with one whole encoding, and no other. It has `consumed` octets, and skipping it takes `steps`
-- steps.
pub record IsPassed (rule : Codec) (octets : List ℕ) (passed : Passed) : Type 0 where
  pub rest : List ℕ
  pub consumed : passed.consumed + length rest ≡ length octets
  pub is : Exactly (Skipped rule octets) (IsFault rule octets) (Passes (passed.steps, rest))

-- The octets don't begin with a whole encoding.
abbrev pub IsUnpassed : Codec → List ℕ → Type 0
IsUnpassed rule octets = (fault : ParseError) × Exactly (Skipped rule octets) (IsFault rule octets) (Err fault)

-- The status of skipping the encoding at the front of the octets.
abbrev pub AnswersSkip : ℕ → List ℕ → Passed → Status → Type 0
AnswersSkip number octets passed Ok = (rule : Codec) × (number ≡ rule_number rule) × IsPassed rule octets passed
AnswersSkip number octets passed Refused = (rule : Codec) × (number ≡ rule_number rule) × IsUnpassed rule octets × (passed ≡ nothing_passed)
AnswersSkip number octets passed UnknownRule = IsUnknownRule number × (passed ≡ nothing_passed)
AnswersSkip number octets passed _ = ⊥

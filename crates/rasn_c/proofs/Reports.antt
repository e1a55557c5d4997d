-- What is reported of octets that are refused.
use Rattle.std.proofs.Common.{ℕ, List}
use Rattle.rasn_types.specs.declared.types.codec.Codec.{Codec}
use Rattle.rasn_types.specs.declared.error.decode.DecodeError.{DecodeError}
use Rattle.rasn_types.specs.Shapes.{Shape}
use Rattle.rasn_c.specs.declared.errors.Fault.{Fault}
use Rattle.rasn_c.specs.declared.status.Status.{Status}
use Rattle.rasn_c.specs.declared.status.Status.TheVariants.{Ok, Refused, OutOfMemory, BufferTooSmall, UnknownType, UnknownRule, BadSchema, UnknownPath, Absent}
use Rattle.rasn_c.specs.Types.{errors_at, numbered_errors}
use Rattle.rasn_c.specs.Normal.{Asks}
use Rattle.rasn_c.specs.Errors.{IsRefusedAt, IsReportOf, AnswersError}

pub reported : {type number : ℕ} {rule : Codec} {shape : Shape} {octets : List ℕ} {offset : ℕ} (text : List ℕ) (fault : Fault) (error : DecodeError) (status : Status) → Asks type number shape rule
    → IsRefusedAt rule shape (errors_at numbered_errors type) octets offset error → IsReportOf offset error fault text status → AnswersError type number octets fault text status
reported {type} {number} {rule} {shape} {octets} {offset} text fault error Refused asks refused is = (rule, shape, asks, record { offset = offset; error = error; refused = refused; report = is })
reported {type} {number} {rule} {shape} text fault error OutOfMemory asks refused is = ((rule, shape, asks), is)
reported text fault error Ok asks refused is = absurd is
reported text fault error BufferTooSmall asks refused is = absurd is
reported text fault error UnknownType asks refused is = absurd is
reported text fault error UnknownRule asks refused is = absurd is
reported text fault error BadSchema asks refused is = absurd is
reported text fault error UnknownPath asks refused is = absurd is
reported text fault error Absent asks refused is = absurd is

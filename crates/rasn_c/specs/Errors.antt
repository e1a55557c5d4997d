-- The reason why octets aren't exactly one value of a type.
use Rattle.std.specs.Prelude.{◌≡◌, ◌+◌, ◌⊎◌, ℕ, List, [], Some, length}
use Rattle.rasn_types.specs.declared.types.codec.Codec.{Codec}
use Rattle.rasn_types.specs.declared.error.decode.DecodeError.{DecodeError}
use Rattle.rasn_types.specs.Errors.{IsOutOfMemory}
use Rattle.rasn_types.specs.ErrorText.{shown_decode_error}
use Rattle.rasn_types.specs.Shapes.{Shape, Tree}
use Rattle.rasn_types.specs.Grammar.{Reads, top}
use Rattle.rasn_de.specs.Outcomes.{Exact, Got, refusal}
use Rattle.rasn_de.specs.ValueErrors.{Errors}
use Rattle.rasn.specs.Headline.{IsExtraData}
use Rattle.rasn.specs.Refusals.{FailsFirst}
use Rattle.rasn_c.specs.Types.{errors_at, numbered_errors, IsUnknownType}
use Rattle.rasn_c.specs.Rules.{IsUnknownRule}
use Rattle.rasn_c.specs.Buffers.{IsCutInto}
use Rattle.rasn_c.specs.ErrorKinds.{kind_number}
use Rattle.rasn_c.specs.Normal.{Asks}
use Rattle.rasn_c.specs.declared.errors.Fault.{Fault}
use Rattle.rasn_c.specs.declared.reading.Reading.{Reading}
use Rattle.rasn_c.specs.declared.reading.Reading.TheVariants.{Alone, Refused as RefusedAt}
use Rattle.rasn_c.specs.declared.status.Status.{Status}
use Rattle.rasn_c.specs.declared.status.Status.TheVariants.{Ok, Refused, OutOfMemory, UnknownType, UnknownRule}

-- All of the octets are one value.
abbrev pub IsAlone : Codec → Shape → List ℕ → Type 0
IsAlone rule shape octets = (tree : Tree) × Exact (Reads rule shape 128 (top rule)) octets (Got tree [])

-- The octets begin with a value, others follow it from this offset on, and the error reports how many.
pub record IsFollowedAt (rule : Codec) (shape : Shape) (octets : List ℕ) (offset : ℕ) (e : DecodeError) : Type 0 where
  pub tree : Tree
  pub rest : List ℕ
  pub read : Exact (Reads rule shape 128 (top rule)) octets (Got tree rest)
  pub offset_is : offset + length rest ≡ length octets
  pub extra : IsExtraData rule rest e

-- Under these rules the octets don't begin with a value, and the error is one of these. The offset is 0.
abbrev pub IsUnread : Codec → Shape → Errors → List ℕ → ℕ → DecodeError → Type 0
IsUnread rule shape errors octets offset e = Exact (Reads rule shape 128 (top rule)) octets (refusal e.kind) × FailsFirst errors rule octets e × (offset ≡ 0) × (e.codec ≡ rule)

abbrev pub IsRefusedAt : Codec → Shape → Errors → List ℕ → ℕ → DecodeError → Type 0
IsRefusedAt rule shape errors octets offset e = IsFollowedAt rule shape octets offset e ⊎ IsUnread rule shape errors octets offset e

-- The result of reading octets as exactly one value of a shape under these rules.
abbrev pub IsReading : Codec → Shape → Errors → List ℕ → Reading → Type 0
IsReading rule shape errors octets Alone = IsAlone rule shape octets
IsReading rule shape errors octets (RefusedAt offset error) = IsRefusedAt rule shape errors octets offset error

-- There is nothing to report: all fields are 0.
pub record IsNoFault (fault : Fault) : Type 0 where
  pub kind : fault.kind ≡ 0
  pub offset : fault.offset ≡ 0
  pub text_length : fault.text_length ≡ 0

-- The fault and the text are those of this error, at this offset. It isn't a failed allocation.
pub record IsFaultOf (offset : ℕ) (error : DecodeError) (fault : Fault) (text : List ℕ) : Type 0 where
  pub memory : IsOutOfMemory error.kind → ⊥
  pub kind : fault.kind ≡ kind_number error.kind
  pub offset_is : fault.offset ≡ offset
  pub shown : shown_decode_error error ≡ Some text

-- The result for an error at this offset: its fault; or a failed allocation, which may also be that of the text.
abbrev pub IsReportOf : ℕ → DecodeError → Fault → List ℕ → Status → Type 0
IsReportOf offset error fault text Refused = IsFaultOf offset error fault text
IsReportOf offset error fault text OutOfMemory = IsNoFault fault
IsReportOf offset error fault text _ = ⊥

-- The octets are refused for an error, and the fault and the text are its own.
pub record ReportsRefusal (rule : Codec) (shape : Shape) (errors : Errors) (octets : List ℕ) (fault : Fault) (text : List ℕ) : Type 0 where
  pub offset : ℕ
  pub error : DecodeError
  pub refused : IsRefusedAt rule shape errors octets offset error
  pub report : IsFaultOf offset error fault text

-- The status, fault and text of a call that reads octets as exactly one value, with the numbers of a type and of rules.
abbrev pub AnswersError : ℕ → ℕ → List ℕ → Fault → List ℕ → Status → Type 0
AnswersError type number octets fault text Ok = ((rule : Codec) × (shape : Shape) × Asks type number shape rule × IsAlone rule shape octets) × IsNoFault fault
AnswersError type number octets fault text Refused = (rule : Codec) × (shape : Shape) × Asks type number shape rule × ReportsRefusal rule shape (errors_at numbered_errors type) octets fault text
AnswersError type number octets fault text OutOfMemory = ((rule : Codec) × (shape : Shape) × Asks type number shape rule) × IsNoFault fault
AnswersError type number octets fault text UnknownType = IsUnknownType type × IsNoFault fault
AnswersError type number octets fault text UnknownRule = IsUnknownRule number × IsNoFault fault
AnswersError type number octets fault text _ = ⊥

-- The buffer holds a text of which this is true, truncated if it doesn't fit, and the fault has its length.
pub record HoldsText (Is : List ℕ → Type 0) (fault : Fault) (old new : List ℕ) : Type 0 where
  pub text : List ℕ
  pub is : Is text
  pub long : fault.text_length ≡ length text
  pub cut : IsCutInto text old new

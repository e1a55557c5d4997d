-- What is read of a UTCTime or a GeneralizedTime.
use Rattle.std.proofs.Common.{ℕ, List, Result, Ok as Passes, Err, MatchResult}
use Rattle.rasn_types.specs.declared.types.codec.Codec.{Codec}
use Rattle.rasn_types.specs.Calendar.{Moment}
use Rattle.rasn_types.specs.Shapes.{Kind, instant}
use Rattle.rasn_c.specs.declared.status.Status.{Status}
use Rattle.rasn_c.specs.declared.status.Status.TheVariants.{Ok, Refused, OutOfMemory, BufferTooSmall, UnknownType, UnknownRule, BadSchema, UnknownPath, Absent}
use Rattle.rasn_c.specs.Leaves.{IsLeaf, IsNoLeaf, MayTake, IsTimeKind, IsInstant, IsNoInstant}

pub no_instant : (type : ℕ) (rule : Codec) (octets : List ℕ) (kind : Kind) → IsTimeKind type kind → (status : Status) → IsNoLeaf MayTake rule kind octets status → IsNoInstant type rule octets status
no_instant type rule octets kind k Refused h = (kind, k, h)
no_instant type rule octets kind k OutOfMemory h = (kind, k, h)
no_instant type rule octets kind k Ok h = absurd h
no_instant type rule octets kind k BufferTooSmall h = absurd h
no_instant type rule octets kind k UnknownType h = absurd h
no_instant type rule octets kind k UnknownRule h = absurd h
no_instant type rule octets kind k BadSchema h = absurd h
no_instant type rule octets kind k UnknownPath h = absurd h
no_instant type rule octets kind k Absent h = absurd h

pub an_instant : (type : ℕ) (rule : Codec) (octets : List ℕ) (kind : Kind) → IsTimeKind type kind → (r : Result Moment Status) → MatchResult r (λ m. IsLeaf rule kind octets (instant m)) (IsNoLeaf MayTake rule kind octets) → MatchResult r (IsInstant type rule octets) (IsNoInstant type rule octets)
an_instant type rule octets kind k (Passes m) h = (kind, k, h)
an_instant type rule octets kind k (Err status) h = no_instant type rule octets kind k status h

-- Octets that are no string of a type whose characters are octets.
use Rattle.std.proofs.Common.{ℕ, List, inr}
use Rattle.rasn_types.specs.declared.types.codec.Codec.{Codec}
use Rattle.rasn_types.specs.Shapes.{Kind}
use Rattle.rasn_c.specs.Leaves.{IsNoLeaf, MayTake}
use Rattle.rasn_c.specs.Strings.{IsOctetKind, IsNoString}
use Rattle.rasn_c.specs.declared.status.Status.{Status}
use Rattle.rasn_c.specs.declared.status.Status.TheVariants.{Ok, Refused, OutOfMemory, BufferTooSmall, UnknownType, UnknownRule, BadSchema, UnknownPath, Absent}

pub no_octets : (number : ℕ) (rule : Codec) (octets : List ℕ) (kind : Kind) → IsOctetKind number kind → (status : Status) → IsNoLeaf MayTake rule kind octets status → IsNoString number rule octets status
no_octets number rule octets kind k Refused h = inr (kind, k, h)
no_octets number rule octets kind k OutOfMemory h = tt
no_octets number rule octets kind k Ok h = absurd h
no_octets number rule octets kind k BufferTooSmall h = absurd h
no_octets number rule octets kind k UnknownType h = absurd h
no_octets number rule octets kind k UnknownRule h = absurd h
no_octets number rule octets kind k BadSchema h = absurd h
no_octets number rule octets kind k UnknownPath h = absurd h
no_octets number rule octets kind k Absent h = absurd h

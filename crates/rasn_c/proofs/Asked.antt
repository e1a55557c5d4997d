-- Octets that aren't those of a schema.
use Rattle.std.proofs.Common.{ℕ, ◌≡◌, List}
use Rattle.rasn_types.specs.declared.types.codec.Codec.{Codec}
use Rattle.rasn_schema_octets.specs.Octets.{IsReadFault}
use Rattle.rasn_schema_octets.specs.declared.fault.ReadFault.{ReadFault}
use Rattle.rasn_schema_octets.proofs.Complete.{fault_refuses}
use Rattle.rasn_c.specs.Rules.{rule_number}
use Rattle.rasn_c.specs.Schemas.{IsNotAsked, IsStatusOf}
use Rattle.rasn_c.specs.declared.status.Status.{Status}
use Rattle.rasn_c.specs.declared.status.Status.TheVariants.{Ok, Refused, OutOfMemory, BufferTooSmall, UnknownType, UnknownRule, BadSchema, UnknownPath, Absent}

pub not_asked : (octets : List ℕ) (number : ℕ) (rule : Codec) (fault : ReadFault) → number ≡ rule_number rule → IsReadFault octets fault → (status : Status) → IsStatusOf fault status → IsNotAsked octets number status
not_asked octets number rule fault e f BadSchema h = record {
  rule = rule;
  rule_is = e;
  fault = fault;
  is_fault = f;
  memory = h;
  refused = fault_refuses octets fault f;
}
not_asked octets number rule fault e f OutOfMemory h = tt
not_asked octets number rule fault e f Ok h = absurd h
not_asked octets number rule fault e f Refused h = absurd h
not_asked octets number rule fault e f BufferTooSmall h = absurd h
not_asked octets number rule fault e f UnknownType h = absurd h
not_asked octets number rule fault e f UnknownRule h = absurd h
not_asked octets number rule fault e f UnknownPath h = absurd h
not_asked octets number rule fault e f Absent h = absurd h

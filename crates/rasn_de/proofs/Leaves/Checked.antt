-- Where nothing is made of the contents, memory doesn't run out.
use Rattle.std.proofs.Common.{◌≡◌, ℕ, List, Err, sym, ap, ◌∙◌}
use Rattle.rasn_types.specs.Errors.{IsOutOfMemory}
use Rattle.rasn_types.specs.declared.types.codec.Codec.{Codec}
use Rattle.rasn_types.specs.declared.types.tag.Tag.{Tag}
use Rattle.rasn_types.specs.declared.error.decode.DecodeError.{DecodeError}
use Rattle.rasn_de.specs.declared.ber.de.parser.ParseError.{ParseError}
use Rattle.rasn_de.specs.Causes.{Cause, fault, out_of_bound}
use Rattle.rasn_de.specs.Leaves.{definite_at, FailsAs}
use Rattle.rasn_de.specs.ObjectIdentifier.{FailsAtSubidentifier, ObjectIdentifierIn}
use Rattle.rasn_de.specs.State.{State}
use Rattle.rasn_de.specs.Steps.{IsErrorOf}
use Rattle.rasn_de.proofs.Headers.NextTag.{kind_memory}
use Rattle.rasn_de.proofs.Leaves.Errors.{leaf_refused}
use Rattle.rasn_de.proofs.Leaves.Memory.{leaf_plain, IsPlainCause}
use Rattle.rasn_de.proofs.Leaves.ObjectIdentifier.{stops_memory}

object_cause : (rule : Codec) (c : List ℕ) (e : Cause) → ObjectIdentifierIn rule c (Err e) → IsPlainCause e
object_cause rule c (fault f) s = stops_memory rule c f s
object_cause rule c (out_of_bound z bound) b = b

pub object_unframed_plain : (tag : Tag) (old new : State) (e : DecodeError) → FailsAs (λ r. definite_at old.rule tag old.rest ≡ r) old e new → IsOutOfMemory e.kind → ⊥
object_unframed_plain tag old new e r = leaf_plain (ObjectIdentifierIn old.rule) (object_cause old.rule) tag old new e (leaf_refused (ObjectIdentifierIn old.rule) tag old new e r)

pub stops_plain : (rule : Codec) (c : List ℕ) (f : ParseError) (s : State) (e : DecodeError) → FailsAtSubidentifier rule c f → IsErrorOf f s e → IsOutOfMemory e.kind → ⊥
stops_plain rule c f s e t k m = kind_memory f (stops_memory rule c f t) (sym (ap (λ (x : DecodeError). x.kind) k) ∙ m)

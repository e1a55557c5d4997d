-- Elements whose number is out of its bound.
use Rattle.std.proofs.Common.{ℕ, Ok, Err, inr, subst}
use Rattle.rasn_types.specs.declared.types.tag.Tag.{Tag}
use Rattle.rasn_types.specs.declared.types.constraints.Constraints.{Constraints}
use Rattle.rasn_types.specs.declared.error.decode.DecodeError.{DecodeError}
use Rattle.rasn_de.specs.declared.ber.de.parser.ParseError.{ParseError}
use Rattle.rasn_de.specs.State.{State, Call}
use Rattle.rasn_de.specs.Steps.{IsErrorOf}
use Rattle.rasn_de.specs.Constructed.{list_header}
use Rattle.rasn_de.specs.CharacterString.{IsOutOfSize}
use Rattle.rasn_de.specs.SequenceOf.{DecodesInList, DecodesSized}
use Rattle.rasn_de.proofs.Constructed.Reads.{kept}
use Rattle.rasn_de.proofs.Constructed.Steps.{rules_same}

pub unsized : {L : Type 0} (read : Call L) (size : L → ℕ) (tag : Tag) (c : Constraints) (old new : State) (v : L) (f : ParseError) (e : DecodeError) → DecodesInList read tag old (Ok v) new
    → IsOutOfSize c.size (size v) f → IsErrorOf f new e → DecodesSized read size tag c old (Err e) new
unsized read size tag c old new v f e k (n, i) x =
    inr (v, k, n, subst (λ z. IsErrorOf z old e) i (rules_same old new f e (kept read (list_header tag) old (Ok v) new k) x))

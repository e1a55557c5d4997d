-- Which errors calls have that write values of other types.
use Rattle.std.proofs.Common.{Result, IfErr, ap, subst, inr}
use Rattle.std.proofs.lemmas.Result.{IfErr-weaker}
use Rattle.rasn_types.specs.Shapes.{Shape, Tree, Presence}
use Rattle.rasn_types.specs.declared.types.codec.Codec.{Codec}
use Rattle.rasn_types.specs.declared.error.encode.EncodeError.{EncodeError}
use Rattle.rasn_enc.specs.View.{View}
use Rattle.rasn_enc.specs.Encoding.{AppendsPart}
use Rattle.rasn_enc.specs.ValueErrors.{IsErrorOfParts}

-- An error after a part that is written is one of the other parts.
pub later_errors : (p : Presence) (s : Shape) (t : Tree) (v w : View) (first : EncodeError → Type 0) (others : Codec → EncodeError → Type 0) (r : Result (Unit {0}) EncodeError)
    → AppendsPart p s t v w → IfErr r (others w.rule) → IfErr r (IsErrorOfParts v.rule p s t first (others v.rule))
later_errors p s t v w first others r a h = IfErr-weaker r _ _ (λ e k.
    inr (a.octets, a.defined, subst (λ rule. others rule e) (ap (λ (x : View). x.rule) a.appended) k)) h

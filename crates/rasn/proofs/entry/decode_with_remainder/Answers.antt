use Rattle.std.proofs.Common.{◌≡◌, List, ℕ, sym, subst}
use Rattle.rasn_types.specs.declared.types.codec.Codec.{Codec}
use Rattle.rasn_de.specs.State.{State, at}
use Rattle.rasn_de.specs.Beyond.{Beyond, got}
use Rattle.rasn.specs.Headline.{front, BeyondFirst}
use Rattle.rasn.proofs.entry.decode_with_remainder.Goals as goal

-- What is said of a read that begins at the front and leaves this rest.
read_first : {T : Type 0} (held : Beyond T) (rule : Codec) (input : List ℕ) (v : T) (old new : State) (rest : List ℕ) → old ≡ front rule input → new ≡ at old new.rest → rest ≡ new.rest → held old v new
    → BeyondFirst held rule input v rest
read_first held rule input v old new rest e s r h =
    subst (λ z. held (front rule input) v (at (front rule input) z)) (sym r) (subst (λ (o : State). held o v (at o new.rest)) e (subst (λ z. held old v z) s h))

pub returns-clause-beyond : goal.returns-clause-beyond
returns-clause-beyond g c =
    let begun : c.new-decoder.result ≡ front c.args.codec c.args.input.now = subst (λ z. c.new-decoder.result ≡ front z c.args.input.now) c.of.ensures c.new-decoder.ensures in
    read_first (got (g.T.Decode.beyond g.T.AsnType.TAG)) c.args.codec c.args.input.now c.in_ok-value.value c.new-decoder.result c.decode.new.decoder _ begun c.in_ok-value.ensures.reads.stays c.remaining.ensures.value c.in_ok-value.ensures.beyond

use Rattle.std.proofs.Common.{◌≡◌, List, ℕ, ap, ◌∙◌, subst}
use Rattle.rasn_de.specs.State.{State, IsEnd}
use Rattle.rasn_de.proofs.Headers.Ends.{IsEnd-trans}
use Rattle.rasn_tests.proofs.sequence.closures.fn.read_by_ber.decode_sequence.Goals as goal

-- The decoder that is put in place begins with what remains.
from_there : {l m r : List ℕ} → l ≡ m → IsEnd l r → IsEnd m r
from_there {l} {m} {r} e k = subst (λ z. IsEnd z r) e k

pub returns-in_err-number : goal.returns-in_err-number
returns-in_err-number c = from_there (ap (λ (s : State). s.rest) c.new.ensures ∙ c.remaining.ensures.value) c.in_err-number.ensures.reads.end

pub returns-in_err-truth : goal.returns-in_err-truth
returns-in_err-truth c =
    from_there (ap (λ (s : State). s.rest) c.new.ensures ∙ c.remaining.ensures.value) (IsEnd-trans _ _ _ c.in_ok-number.ensures.reads.end c.in_err-truth.ensures.reads.end)

pub returns : goal.returns
returns c =
    from_there (ap (λ (s : State). s.rest) c.new.ensures ∙ c.remaining.ensures.value) (IsEnd-trans _ _ _ c.in_ok-number.ensures.reads.end c.in_ok-truth.ensures.reads.end)

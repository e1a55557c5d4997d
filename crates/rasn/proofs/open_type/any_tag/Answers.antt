use Rattle.std.proofs.Common.{◌≡◌, ℕ, List, Result, Ok, Err, sym, subst, rules}
use Rattle.std.specs.Prelude.{MatchResult}
use Rattle.rasn_types.specs.declared.types.codec.Codec.{Codec}
use Rattle.rasn_types.specs.declared.types.tag.Tag.{Tag}
use Rattle.rasn_types.specs.declared.error.decode.DecodeError.{DecodeError}
use Rattle.rasn_types.specs.Tags.{form}
use Rattle.rasn_types.specs.Framing.{NextTag}
use Rattle.rasn_de.specs.State.{State}
use Rattle.rasn_de.specs.Steps.{IsNextTag, PeeksTag}
use Rattle.rasn.specs.Headline.{front}
use Rattle.rasn.proofs.open_type.any_tag.Goals as goal

-- The next tag of a decoder that is at the front of the octets.
first_tag : (s : State) {rules : Codec} {octets : List ℕ} (r : Result Tag DecodeError) → s.rule ≡ rules → s.rest ≡ octets → IsNextTag s r
    → MatchResult r (λ t. NextTag (form rules) octets t) (λ e. (t : Tag) → NextTag (form rules) octets t → ⊥)
first_tag s {rules} {octets} (Ok t) e f h = subst (λ x. NextTag (form x) octets t) e (subst (λ l. NextTag (form s.rule) l t) f h)
first_tag s {rules} {octets} (Err k) e f h = λ t i. h t (subst (λ x. NextTag (form x) s.rest t) (sym e) (subst (λ l. NextTag (form rules) l t) (sym f) i))

pub returns-clause-next : goal.returns-clause-next
returns-clause-next c = let made = c.new.ensures in let given = c.of.ensures in let octets = c.as_bytes.ensures in first_tag c.new.result c.peek_tag.result (cc) (cc) c.peek_tag.ensures.next

pub returns-clause-exact : goal.returns-clause-exact
returns-clause-exact c =
    let begun : c.new.result ≡ front c.args.rules c.args.any.now = search rules in
    subst (λ (s : State). PeeksTag s c.peek_tag.result) begun c.peek_tag.ensures.exact

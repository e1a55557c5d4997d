use Rattle.std.proofs.Common.{List, ℕ, ◌∷◌}
use Rattle.std.specs.Prelude.{MatchOption}
use Rattle.std.proofs.lemmas.Result.{IfOk-weaker}
use Rattle.rasn_schema.specs.Reals.{IsRealOctets}
use Rattle.rasn_schema.specs.Numerals.{IsContentsOf, HasNoContents}
use Rattle.rasn_schema.proofs.RealNumerals.{found_octets, no_form}
use Rattle.rasn_schema.proofs.real_decimal.canonical_decimal.Goals as goal

pub returns-then-not-has_form : goal.returns-then-not-has_form
returns-then-not-has_form c = no_form c.args.form c.args.text.now c.in-Some.numeral c.requires c.in-Some.ensures c.if-not-has_form.ensures

pub returns : goal.returns
returns c =
    let n = c.in-Some.numeral in
    IfOk-weaker c.contents_of.result (λ r. MatchOption r (HasNoContents n) (λ v. IsContentsOf n v.items))
    (λ r. MatchOption r ((octets : List ℕ) → IsRealOctets (c.args.form ∷ c.args.text.now) octets → ⊥) (λ v. IsRealOctets (c.args.form ∷ c.args.text.now) v.items))
    (found_octets c.args.form c.args.text.now n c.requires c.in-Some.ensures c.if-not-has_form.ensures) c.contents_of.ensures

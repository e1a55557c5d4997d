use Rattle.std.proofs.Common.{List, ℕ, subst}
use Rattle.std.specs.Prelude.{MatchOption}
use Rattle.std.proofs.lemmas.Result.{IfOk-weaker}
use Rattle.rasn_schema.specs.Reals.{IsOfNumeral}
use Rattle.rasn_schema.specs.Numerals.{IsNumeral, IsNoNumeral, IsContentsOf, HasNoContents}
use Rattle.rasn_schema.proofs.RealNumerals.{found_of_numeral, of_no_numeral}
use Rattle.rasn_schema.proofs.real_decimal.contents_of_decimal.Goals as goal

pub returns-in-Some : goal.returns-in-Some
returns-in-Some c =
    let n = c.in-Some.numeral in
    let k = subst (λ l. IsNumeral l n) c.as_bytes.ensures.value c.in-Some.ensures in
    IfOk-weaker c.contents_of.result (λ r. MatchOption r (HasNoContents n) (λ v. IsContentsOf n v.items))
    (λ r. MatchOption r ((octets : List ℕ) → IsOfNumeral c.args.text.now octets → ⊥) (λ v. IsOfNumeral c.args.text.now v.items)) (found_of_numeral c.args.text.now n k) c.contents_of.ensures

pub returns-in-None : goal.returns-in-None
returns-in-None c = of_no_numeral c.args.text.now (subst IsNoNumeral c.as_bytes.ensures.value c.in-None.ensures)

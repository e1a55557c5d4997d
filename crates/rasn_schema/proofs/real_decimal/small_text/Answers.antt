use Rattle.std.proofs.Common.{◌≡◌, of_z, sym, ap, ◌∙◌, subst, List, ℕ, Global}
use Rattle.std.specs.Int.{w128}
use Rattle.std.specs.Fmt.{signed_decimal}
use Rattle.std.specs.Prelude.{Vec}
use Rattle.std.proofs.lemmas.Int.{to_z-of_z}
use Rattle.rasn_types.specs.Contents.{IsShortestExponent}
use Rattle.rasn_schema.proofs.RealDecimals.{shortest_text}
use Rattle.rasn_schema.proofs.real_decimal.small_text.Goals as goal

pub returns : goal.returns
returns c =
    let z = c.args.exponent in
    let e : c.into_bytes.result.items ≡ signed_decimal z =
    ap (λ (v : Vec ℕ Global). v.items) c.into_bytes.ensures.value ∙ (c.in_ok-format.ensures.ok ∙ ap signed_decimal (to_z-of_z w128 z c.ranges.exponent)) in
    subst (λ l. IsShortestExponent l z) (sym e) (shortest_text z c.requires.low c.requires.high (λ f. c.if-exponent-eq0.false (ap (of_z w128) f)))

use Rattle.std.proofs.Common.{◌≡◌, ◌+◌, ◌∷◌, pos, ◌+ℤ◌, ◌*ℤ◌, List, ℕ, ap, subst, sym, ◌∙◌}
use Rattle.std.specs.Option.{MatchOption}
use Rattle.std.proofs.lemmas.Result.{IfOk-weaker}
use Rattle.rasn_types.specs.Framing.{number_in}
use Rattle.rasn_types.specs.Contents.{signed, IsCanonicalBinary}
use Rattle.rasn_schema.specs.Reals.{IsRealOctets}
use Rattle.rasn_schema.proofs.RealMade.{binary_octets}
use Rattle.rasn_schema.proofs.real_binary.canonical_binary.Goals as goal

pub returns : goal.returns
returns c =
    let p = c.in-Some.parts in
    let zeros = c.in_ok-mantissa.zeros in
    let odd = c.in_ok-mantissa.mantissa.items in
    IfOk-weaker c.binary_contents.result _ _
    (λ found h. binary_octets (c.args.first ∷ c.args.after.now) p odd zeros _ _ found c.in-Some.ensures c.in_ok-mantissa.ensures.1
    (ap signed c.deref-2.ensures.value ∙ (c.in_ok-exponent.ensures.is ∙ ap (λ n. signed p.exponent.now *ℤ pos p.power +ℤ pos (zeros + n)) c.from.ensures)) (ap (number_in 256) c.deref.ensures.value) h)
    c.binary_contents.ensures

use Rattle.std.proofs.Common.{◌+◌, ◌*◌, ◌-◌, ◌/◌, length, sym, ap, subst, ◌∙◌, arith}
use Rattle.rasn_types.specs.Framing.{number_in}
use Rattle.rasn_schema.specs.RealParts.{IsOddPart}
use Rattle.rasn_schema.proofs.RealNumbers.{odd_part, unit_is}
use Rattle.rasn_schema.proofs.real_binary.odd_part.Goals as goal

pub returns : goal.returns
returns c =
    let l = c.args.octets.now in
    let kept = c.without_zeros_after-kept.result.now in
    let w = c.without_zeros_after-kept.ensures in
    let z = c.zeros_at_end-zeros.ensures in
    let odd = c.in_ok-odd.odd.items in
    let d = c.in_ok-odd.ensures ∙ ap (λ u. number_in 256 kept / u) (unit_is c.zeros_at_end-zeros.result z.0) in
    let o = odd_part l kept odd c.zeros_at_end-zeros.result c.requires w.shorter w.same z d in
    (omega arith, subst (λ n. IsOddPart (number_in 256 l) (number_in 256 odd) (8 * (length l - length kept) + n)) (sym c.from.ensures) o)

use Rattle.std.proofs.Common.{arith, ◌≡◌, ap, ◌∙◌, ◌-◌, length, subst}
use Rattle.rasn_types.specs.declared.types.codec.Codec.TheVariants.{Ber}
use Rattle.rasn_de.specs.State.{State}
use Rattle.rasn_dynamic.specs.Faults.{start}
use Rattle.rasn_dynamic.specs.Parts.{IsHeader}
use Rattle.rasn_dynamic.proofs.Parts.{inside_short, header_opened}
use Rattle.rasn_dynamic.proofs.part.header_of.Goals as goal

pub overflow_sub-end : goal.overflow_sub-end
overflow_sub-end c =
    let short = inside_short c.prefix.result c.new-decoder.result c.in_ok-inner.ensures.octets _ _ _ c.in_ok-inner.ensures.exact in
    let whole = ap (λ (s : State). length s.rest) c.new-decoder.ensures in
    omega (arith, short, whole, c.octets_after.ensures)

pub overflow_sub-result : goal.overflow_sub-result
overflow_sub-result c =
    let short = inside_short c.prefix.result c.new-decoder.result c.in_ok-inner.ensures.octets _ _ _ c.in_ok-inner.ensures.exact in
    let whole = ap (λ (s : State). length s.rest) c.new-decoder.ensures in
    let left = ap length c.remaining.ensures.value in
    omega (arith, short, whole, left, c.octets_after.ensures)

pub returns : goal.returns
returns c =
    let e : c.new-decoder.result ≡ start Ber c.args.octets.now = c.new-decoder.ensures ∙ ap (λ z. start z c.args.octets.now) c.of.ensures in
    let short = inside_short c.prefix.result c.new-decoder.result c.in_ok-inner.ensures.octets _ _ _ c.in_ok-inner.ensures.exact in
    let whole = ap (λ (s : State). length s.rest) c.new-decoder.ensures in
    let left = ap length c.remaining.ensures.value in
    let n = (length c.args.octets.now - c.octets_after.result) - length c.remaining.result.now in
    subst (λ (s : State). IsHeader s.rest n c.may_be_closed.result) e
    (header_opened c.prefix.result c.new-decoder.result c.in_ok-inner.ensures.octets _ _ _ c.in_ok-inner.ensures.exact (ap (λ (s : State). s.rule) e) n c.may_be_closed.result c.may_be_closed.ensures (omega (arith, short, whole, left, c.octets_after.ensures)))

use Rattle.std.proofs.Common.{ap, sym, ◌≡◌, ◌∙◌, length}
use Rattle.rasn_types.specs.BitString.{significant}
use Rattle.rasn_types.proofs.BitString.Significant.{significant_once, significant_packed, significant_held}
use Rattle.rasn_types.proofs.types.bits.named_bits.NamedBits.new.Goals as goal

pub unreachable-requires : goal.unreachable-requires
unreachable-requires c =
    let n : c.significant_len-len.result ≡ length (significant c.args.bits) = c.significant_len-len.ensures ∙ ap (λ l. length (significant l)) c.as_bitstr.ensures in
    c.in-None.ensures (significant_held c.args.bits c.into_vec.result.items c.significant_len-len.result c.into_vec.ensures n)

pub invariant_of-result : goal.invariant_of-result
invariant_of-result c =
    let n : c.significant_len-len.result ≡ length (significant c.args.bits) = c.significant_len-len.ensures ∙ ap (λ l. length (significant l)) c.as_bitstr.ensures in
    let e : c.in-Some.bits ≡ significant c.args.bits = c.in-Some.ensures.1 ∙ significant_packed c.args.bits c.into_vec.result.items c.significant_len-len.result c.into_vec.ensures n in
    ap significant e ∙ (significant_once c.args.bits ∙ sym e)

pub returns : goal.returns
returns c =
    let n : c.significant_len-len.result ≡ length (significant c.args.bits) = c.significant_len-len.ensures ∙ ap (λ l. length (significant l)) c.as_bitstr.ensures in
    c.in-Some.ensures.1 ∙ significant_packed c.args.bits c.into_vec.result.items c.significant_len-len.result c.into_vec.ensures n

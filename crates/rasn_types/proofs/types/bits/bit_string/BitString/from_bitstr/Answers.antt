use Rattle.std.proofs.Common.{subst}
use Rattle.rasn_types.specs.BitString.{Pushes}
use Rattle.rasn_types.proofs.BitString.Views.{pushed}
use Rattle.rasn_types.proofs.types.bits.bit_string.BitString.from_bitstr.Goals as goal

pub invariant_of-result : goal.invariant_of-result
invariant_of-result c =
    (pushed c.args.bits.now c.len.result c.append_to.new.out.items c.len.ensures (subst (λ z. Pushes c.args.bits.now z c.append_to.new.out.items) c.new-octets.ensures.items c.in_ok-append_to.ensures.ok)
    c.in_ok-append_to.ensures.octets).0

pub returns : goal.returns
returns c =
    (pushed c.args.bits.now c.len.result c.append_to.new.out.items c.len.ensures (subst (λ z. Pushes c.args.bits.now z c.append_to.new.out.items) c.new-octets.ensures.items c.in_ok-append_to.ensures.ok)
    c.in_ok-append_to.ensures.octets).1

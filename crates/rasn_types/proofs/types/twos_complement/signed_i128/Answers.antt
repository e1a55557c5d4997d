use Rattle.std.proofs.Common.{subst}
use Rattle.rasn_types.specs.Shapes.{IsIn}
use Rattle.rasn_types.specs.Trees.{signed_range}
use Rattle.rasn_types.proofs.Integer.TwosComplement.{not_in_128}
use Rattle.rasn_types.proofs.types.twos_complement.signed_i128.Goals as goal

pub returns-else-octets-le16 : goal.returns-else-octets-le16
returns-else-octets-le16 c =
    subst (λ z. IsIn (signed_range 128) z → ⊥) c.shortest-octets.ensures.same
    (not_in_128 c.shortest-octets.result.now c.shortest-octets.ensures.octets c.shortest-octets.ensures.short c.if-octets-le16.false)

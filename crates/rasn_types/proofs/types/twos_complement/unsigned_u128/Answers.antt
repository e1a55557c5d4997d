use Rattle.std.proofs.Common.{subst}
use Rattle.rasn_types.specs.Shapes.{IsIn}
use Rattle.rasn_types.specs.Trees.{unsigned_range}
use Rattle.rasn_types.proofs.Integer.TwosComplement.{shortest_some}
use Rattle.rasn_types.proofs.Integer.Octets.{not_unsigned, not_in_unsigned}
use Rattle.rasn_types.proofs.types.twos_complement.unsigned_u128.Goals as goal
use Rattle.rasn_types.proofs.types.twos_complement.unsigned_u128.Goals.{else-octets-eq17-via-then-octets-eq17+else-octets-eq0, else-octets-eq17-via-else-octets-eq17}

pub returns-then-octets-ge128 : goal.returns-then-octets-ge128
returns-then-octets-ge128 c =
    subst (λ z. IsIn (unsigned_range 128) z → ⊥) c.shortest-octets.ensures.same
    (not_unsigned c.shortest-octets.result.now c.shortest-octets.ensures.octets (shortest_some c.shortest-octets.result.now c.shortest-octets.ensures.short) c.if-octets-ge128.true)

pub returns-else-octets-eq17 : goal.returns-else-octets-eq17
returns-else-octets-eq17 c =
    subst (λ z. IsIn (unsigned_range 128) z → ⊥) c.shortest-octets.ensures.same
    (not_in_unsigned c.shortest-octets.result.now c.shortest-octets.ensures.octets c.shortest-octets.ensures.short c.if-octets-ge128.false c.if-octets-le16.false
    (elim c.else-octets-eq17.branch [
      | else-octets-eq17-via-then-octets-eq17+else-octets-eq0 w ↦ (λ e f. w.if-octets-eq0.false f)
      | else-octets-eq17-via-else-octets-eq17 w ↦ (λ e f. w.if-octets-eq17.false e)
    ]))

use Rattle.std.proofs.Common.{subst, sym}
use Rattle.rasn_types.specs.Bytes.{Same}
use Rattle.rasn_enc.proofs.OwnTypes.Sequence.{default_left}
use Rattle.rasn_enc.proofs.ber.enc.Encoder.encode_default_with_explicit_prefix.Goals as goal

pub returns-in-Ok-clause-writes : goal.returns-in-Ok-clause-writes
returns-in-Ok-clause-writes g c without made = (
  default_left _ _ without _ (subst (Same (g.E.AsnType.tree c.args.value.now)) (made c.in-Ok.left_out c.in-Ok.ensures) ((g.met.E.LawfulEq.decides c.args.value.now c.in-Ok.left_out).same (sym c.if-eq.ensures))),
  tt,
)

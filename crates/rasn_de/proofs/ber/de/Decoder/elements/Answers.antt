use Rattle.std.proofs.Common.{◌∙◌}
use Rattle.rasn_de.specs.Decodes.{Decodes}
use Rattle.rasn_de.specs.ValueErrors.{DecodesOr}
use Rattle.rasn_de.proofs.Constructed.NextElement.{passes_more, turn_rules}
use Rattle.rasn_de.specs.Beyond.{Held}
use Rattle.rasn_de.proofs.Constructed.Beyond.{beyond_more}
use Rattle.rasn_de.proofs.Constructed.ValueErrors.{turn_by, or_decodes}
use Rattle.rasn_de.proofs.Leaves.Returns.{residual}
use Rattle.rasn_de.proofs.ber.de.Decoder.elements.Goals as goal

pub returns-in_err-push_element-clause-exact : goal.returns-in_err-push_element-clause-exact
returns-in_err-push_element-clause-exact g c =
    rw (residual _ c.from_residual.ensures.1) (c.loop-self.values.items, c.loop-self.self, c.loop-self.invariant.0, c.loop-self-test.ensures, c.in_err-push_element.ensures.exact)

pub returns-in_err-push_element-clause-rules : goal.returns-in_err-push_element-clause-rules
returns-in_err-push_element-clause-rules g c =
    rw (residual _ c.from_residual.ensures.1) (c.in_err-push_element.ensures.rules ∙ (turn_rules g.D.AsnType.shape g.D.AsnType.tree _ _ _ (turn_by (DecodesOr g.D.AsnType.shape g.D.AsnType.tree (g.D.Decode.errors g.D.AsnType.TAG g.D.AsnType.CONSTRAINTS)) (Decodes g.D.AsnType.shape g.D.AsnType.tree) (or_decodes g.D.AsnType.shape g.D.AsnType.tree (g.D.Decode.errors g.D.AsnType.TAG g.D.AsnType.CONSTRAINTS)) _ _ _ c.loop-self.invariant.0)))

pub loop-self-preserved : goal.loop-self-preserved
loop-self-preserved g c =
    let k = c.in_ok-push_element.ensures.exact in (
      passes_more (DecodesOr g.D.AsnType.shape g.D.AsnType.tree (g.D.Decode.errors g.D.AsnType.TAG g.D.AsnType.CONSTRAINTS)) c.loop-self.self _ k.0 c.loop-self-test.ensures k.2 k.3 c.args.self.now c.loop-self.values.items _ k.1 c.loop-self.invariant.0,
      beyond_more (Held g.D.AsnType.shape g.D.AsnType.tree (g.D.Decode.beyond g.D.AsnType.TAG)) c.args.self.now c.loop-self.self _ c.loop-self.values.items _ c.loop-self.invariant.1 c.in_ok-push_element.ensures.beyond,
    )

use Rattle.std.proofs.Common.{[], ◌∷◌, ◌++◌, ◌∙◌}
use Rattle.rasn_de.specs.Decodes.{Decodes}
use Rattle.rasn_de.specs.ValueErrors.{DecodesOr}
use Rattle.rasn_de.specs.Beyond.{Held}
use Rattle.rasn_de.proofs.Constructed.Beyond.{beyond_more}
use Rattle.rasn_de.specs.SequenceOf.{FailsAtElement}
use Rattle.rasn_de.specs.Set.{not_read}
use Rattle.rasn_de.proofs.Constructed.SetOfElements.{passes_from, came_stays}
use Rattle.rasn_de.proofs.Headers.Tags.{tagged_order, look_refused, look_follows, look_kept}
use Rattle.rasn_de.proofs.Constructed.ValueErrors.{turn_from_by, or_decodes}
use Rattle.rasn_de.proofs.Leaves.Returns.{residual}
use Rattle.rasn_de.proofs.Leaves.Rules.{order_rules, same_rules}
use Rattle.rasn_de.proofs.ber.de.Decoder.components.Goals as goal

pub returns-in_err-last-clause-exact : goal.returns-in_err-last-clause-exact
returns-in_err-last-clause-exact g c =
    let s = came_stays g.FIELDS.AsnType.shape g.FIELDS.AsnType.tree c.args.self.now c.loop-last.self c.loop-last.values.items c.loop-last.invariant.0 (turn_from_by (DecodesOr g.FIELDS.AsnType.shape g.FIELDS.AsnType.tree (g.FIELDS.Decode.errors g.FIELDS.AsnType.TAG g.FIELDS.AsnType.CONSTRAINTS)) (Decodes g.FIELDS.AsnType.shape g.FIELDS.AsnType.tree) (or_decodes g.FIELDS.AsnType.shape g.FIELDS.AsnType.tree (g.FIELDS.Decode.errors g.FIELDS.AsnType.TAG g.FIELDS.AsnType.CONSTRAINTS)) _ _ _ _ c.loop-last.invariant.1) in
    rw (residual _ c.from_residual.ensures.1) (
      c.loop-last.values.items,
      c.loop-last.invariant.0,
      c.loop-last.self,
      (c.loop-last.invariant.1, tagged_order c.args.self.now c.loop-last.invariant.0 c.loop-last.last c.loop-last.invariant.2),
      c.loop-last-test.ensures,
      look_refused c.args.self.now c.loop-last.self s c.loop-last.invariant.0 c.loop-last.last c.loop-last.invariant.2 (FailsAtElement (DecodesOr g.FIELDS.AsnType.shape g.FIELDS.AsnType.tree (g.FIELDS.Decode.errors g.FIELDS.AsnType.TAG g.FIELDS.AsnType.CONSTRAINTS))) _ c.in_err-last.ensures,
    )

pub returns-in_err-push_element-clause-exact : goal.returns-in_err-push_element-clause-exact
returns-in_err-push_element-clause-exact g c =
    let s = came_stays g.FIELDS.AsnType.shape g.FIELDS.AsnType.tree c.args.self.now c.loop-last.self c.loop-last.values.items c.loop-last.invariant.0 (turn_from_by (DecodesOr g.FIELDS.AsnType.shape g.FIELDS.AsnType.tree (g.FIELDS.Decode.errors g.FIELDS.AsnType.TAG g.FIELDS.AsnType.CONSTRAINTS)) (Decodes g.FIELDS.AsnType.shape g.FIELDS.AsnType.tree) (or_decodes g.FIELDS.AsnType.shape g.FIELDS.AsnType.tree (g.FIELDS.Decode.errors g.FIELDS.AsnType.TAG g.FIELDS.AsnType.CONSTRAINTS)) _ _ _ _ c.loop-last.invariant.1) in
    rw (residual _ c.from_residual-in_err-push_element.ensures.1) (
      c.loop-last.values.items,
      c.loop-last.invariant.0,
      c.loop-last.self,
      (c.loop-last.invariant.1, tagged_order c.args.self.now c.loop-last.invariant.0 c.loop-last.last c.loop-last.invariant.2),
      c.loop-last-test.ensures,
      not_read (look_follows c.args.self.now c.loop-last.self s c.loop-last.invariant.0 c.loop-last.last c.loop-last.invariant.2 _ c.in_ok-last.ensures) c.in_err-push_element.ensures.exact,
    )

pub returns-in_err-last-clause-rules : goal.returns-in_err-last-clause-rules
returns-in_err-last-clause-rules g c = rw (residual _ c.from_residual.ensures.1) ((order_rules _ c.loop-last.self _ c.in_err-last.ensures) ∙ (same_rules (came_stays g.FIELDS.AsnType.shape g.FIELDS.AsnType.tree c.args.self.now c.loop-last.self c.loop-last.values.items c.loop-last.invariant.0 (turn_from_by (DecodesOr g.FIELDS.AsnType.shape g.FIELDS.AsnType.tree (g.FIELDS.Decode.errors g.FIELDS.AsnType.TAG g.FIELDS.AsnType.CONSTRAINTS)) (Decodes g.FIELDS.AsnType.shape g.FIELDS.AsnType.tree) (or_decodes g.FIELDS.AsnType.shape g.FIELDS.AsnType.tree (g.FIELDS.Decode.errors g.FIELDS.AsnType.TAG g.FIELDS.AsnType.CONSTRAINTS)) _ _ _ _ c.loop-last.invariant.1))))

pub returns-in_err-push_element-clause-rules : goal.returns-in_err-push_element-clause-rules
returns-in_err-push_element-clause-rules g c = rw (residual _ c.from_residual-in_err-push_element.ensures.1) (c.in_err-push_element.ensures.rules ∙ (same_rules (came_stays g.FIELDS.AsnType.shape g.FIELDS.AsnType.tree c.args.self.now c.loop-last.self c.loop-last.values.items c.loop-last.invariant.0 (turn_from_by (DecodesOr g.FIELDS.AsnType.shape g.FIELDS.AsnType.tree (g.FIELDS.Decode.errors g.FIELDS.AsnType.TAG g.FIELDS.AsnType.CONSTRAINTS)) (Decodes g.FIELDS.AsnType.shape g.FIELDS.AsnType.tree) (or_decodes g.FIELDS.AsnType.shape g.FIELDS.AsnType.tree (g.FIELDS.Decode.errors g.FIELDS.AsnType.TAG g.FIELDS.AsnType.CONSTRAINTS)) _ _ _ _ c.loop-last.invariant.1))))

pub loop-last-preserved : goal.loop-last-preserved
loop-last-preserved g c =
    let s = came_stays g.FIELDS.AsnType.shape g.FIELDS.AsnType.tree c.args.self.now c.loop-last.self c.loop-last.values.items c.loop-last.invariant.0 (turn_from_by (DecodesOr g.FIELDS.AsnType.shape g.FIELDS.AsnType.tree (g.FIELDS.Decode.errors g.FIELDS.AsnType.TAG g.FIELDS.AsnType.CONSTRAINTS)) (Decodes g.FIELDS.AsnType.shape g.FIELDS.AsnType.tree) (or_decodes g.FIELDS.AsnType.shape g.FIELDS.AsnType.tree (g.FIELDS.Decode.errors g.FIELDS.AsnType.TAG g.FIELDS.AsnType.CONSTRAINTS)) _ _ _ _ c.loop-last.invariant.1) in
    let k = c.in_ok-push_element.ensures.exact in
    let b = k.2.0.end.0 in (
      c.loop-last.invariant.0 ++ (b ∷ []),
      passes_from (DecodesOr g.FIELDS.AsnType.shape g.FIELDS.AsnType.tree (g.FIELDS.Decode.errors g.FIELDS.AsnType.TAG g.FIELDS.AsnType.CONSTRAINTS)) c.loop-last.self _ k.0 b
          k.2.0.end.1 c.loop-last-test.ensures k.2
          k.3 c.args.self.now c.loop-last.values.items _ c.loop-last.invariant.0 k.1 c.loop-last.invariant.1,
      look_kept c.args.self.now c.loop-last.self s c.loop-last.invariant.0 c.loop-last.last c.loop-last.invariant.2 g.FIELDS.AsnType.shape g.FIELDS.AsnType.tree _ c.in_ok-last.ensures k.0 _
          k.2.0 b k.2.0.end.1 k.3,
      beyond_more (Held g.FIELDS.AsnType.shape g.FIELDS.AsnType.tree (g.FIELDS.Decode.beyond g.FIELDS.AsnType.TAG)) c.args.self.now c.loop-last.self _ c.loop-last.values.items _ c.loop-last.invariant.3 c.in_ok-push_element.ensures.beyond,
    )

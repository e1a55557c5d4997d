use Rattle.std.proofs.Common.{refl, sym, subst, inl, inr, [], ◌∷◌, ◌++◌, ◌∙◌}
use Rattle.rasn_types.specs.Tags.{IsStrict}
use Rattle.rasn_types.specs.Order.{IsLess}
use Rattle.rasn_types.specs.declared.error.decode.DerDecodeErrorKind.TheVariants.{SetOfOutOfOrder}
use Rattle.rasn_de.specs.Decodes.{Decodes}
use Rattle.rasn_de.specs.ValueErrors.{DecodesOr}
use Rattle.rasn_de.specs.State.{State}
use Rattle.rasn_de.specs.declared.ber.de.parser.ParseError.TheVariants.{Der}
use Rattle.rasn_de.proofs.Constructed.Steps.{rules_same}
use Rattle.rasn_types.proofs.SetOf.Ascending.{ends_more, in_order, out_of_order}
use Rattle.rasn_de.proofs.Constructed.SetOfElements.{passes_from, came_stays}
use Rattle.rasn_de.specs.Beyond.{Held}
use Rattle.rasn_de.proofs.Constructed.Beyond.{beyond_more}
use Rattle.rasn_de.proofs.Constructed.ValueErrors.{turn_from_by, or_decodes}
use Rattle.rasn_de.proofs.Leaves.Returns.{residual}
use Rattle.rasn_de.proofs.ber.de.Decoder.elements_in_order.Goals.{else-is_strict-via-then-is_strict+else-is_less, else-is_strict-via-else-is_strict}
use Rattle.rasn_de.proofs.Leaves.Rules.{codec_is, same_rules}
use Rattle.rasn_de.proofs.ber.de.Decoder.elements_in_order.Goals as goal

pub loop-last-init : goal.loop-last-init
loop-last-init g c = rw c.new-values.ensures.items ([], (refl, refl), (λ strict. tt), refl, refl)

pub returns-in_err-push_element-clause-exact : goal.returns-in_err-push_element-clause-exact
returns-in_err-push_element-clause-exact g c =
    rw (residual _ c.from_residual.ensures.1) (c.loop-last.values.items, c.loop-last.invariant.0, c.loop-last.self, c.loop-last.invariant.1, c.loop-last.invariant.2, c.loop-last-test.ensures, inl c.in_err-push_element.ensures.exact)

pub returns-then-is_less-clause-exact : goal.returns-then-is_less-clause-exact
returns-then-is_less-clause-exact g c = (
  c.loop-last.values.items,
  c.loop-last.invariant.0,
  c.loop-last.self,
  c.loop-last.invariant.1,
  c.loop-last.invariant.2,
  c.loop-last-test.ensures,
  inr (
    c.in_ok-push_element.ensures.exact.0,
    c.octets_before-octets.result.now,
    c.in_ok-push_element.ensures.exact.2,
    rw (← c.self-in-loop-last-2.view_is, ← c.self-in-loop-last.view_is) c.octets_before-octets.ensures,
    c.in_ok-push_element.ensures.exact.3,
    subst (λ (s : State). IsStrict s.rule) c.in_ok-push_element.ensures.exact.2.0.stays c.if-is_strict.ensures,
    out_of_order c.loop-last.invariant.0 c.loop-last.last.now c.octets_before-octets.result.now c.loop-last.invariant.3 c.if-is_less.ensures,
    rules_same c.loop-last.self _ (Der SetOfOutOfOrder) c.error.result (record { stays = c.in_ok-push_element.ensures.exact.2.0.stays; end = c.in_ok-push_element.ensures.exact.2.0.end }) c.error.ensures,
  ),
)

pub returns-in_err-push_element-clause-rules : goal.returns-in_err-push_element-clause-rules
returns-in_err-push_element-clause-rules g c = rw (residual _ c.from_residual.ensures.1) (c.in_err-push_element.ensures.rules ∙ (same_rules (came_stays g.D.AsnType.shape g.D.AsnType.tree c.args.self.now c.loop-last.self c.loop-last.values.items c.loop-last.invariant.0 (turn_from_by (DecodesOr g.D.AsnType.shape g.D.AsnType.tree (g.D.Decode.errors g.D.AsnType.TAG g.D.AsnType.CONSTRAINTS)) (Decodes g.D.AsnType.shape g.D.AsnType.tree) (or_decodes g.D.AsnType.shape g.D.AsnType.tree (g.D.Decode.errors g.D.AsnType.TAG g.D.AsnType.CONSTRAINTS)) _ _ _ _ c.loop-last.invariant.1))))

pub returns-then-is_less-clause-rules : goal.returns-then-is_less-clause-rules
returns-then-is_less-clause-rules g c = ((codec_is c.error.ensures) ∙ (same_rules c.in_ok-push_element.ensures.exact.2.0.stays)) ∙ (same_rules (came_stays g.D.AsnType.shape g.D.AsnType.tree c.args.self.now c.loop-last.self c.loop-last.values.items c.loop-last.invariant.0 (turn_from_by (DecodesOr g.D.AsnType.shape g.D.AsnType.tree (g.D.Decode.errors g.D.AsnType.TAG g.D.AsnType.CONSTRAINTS)) (Decodes g.D.AsnType.shape g.D.AsnType.tree) (or_decodes g.D.AsnType.shape g.D.AsnType.tree (g.D.Decode.errors g.D.AsnType.TAG g.D.AsnType.CONSTRAINTS)) _ _ _ _ c.loop-last.invariant.1)))

pub loop-last-preserved : goal.loop-last-preserved
loop-last-preserved g c =
    let strict_here : IsStrict c.args.self.now.rule → IsStrict c.loop-last.self.rule = λ k.
    subst (λ (s : State). IsStrict s.rule) (sym (came_stays g.D.AsnType.shape g.D.AsnType.tree c.args.self.now c.loop-last.self c.loop-last.values.items c.loop-last.invariant.0 (turn_from_by (DecodesOr g.D.AsnType.shape g.D.AsnType.tree (g.D.Decode.errors g.D.AsnType.TAG g.D.AsnType.CONSTRAINTS)) (Decodes g.D.AsnType.shape g.D.AsnType.tree) (or_decodes g.D.AsnType.shape g.D.AsnType.tree (g.D.Decode.errors g.D.AsnType.TAG g.D.AsnType.CONSTRAINTS)) _ _ _ _ c.loop-last.invariant.1))) k in
    let not_less : IsStrict c.args.self.now.rule → IsLess c.octets_before-octets.result.now c.loop-last.last.now → ⊥ = λ k h. elim c.else-is_strict.branch [
      | else-is_strict-via-then-is_strict+else-is_less w ↦ w.if-is_less.ensures h
      | else-is_strict-via-else-is_strict w ↦ w.if-is_strict.ensures (subst (λ (s : State). IsStrict s.rule) (sym c.in_ok-push_element.ensures.exact.2.0.stays) (strict_here k))
    ] in (
      c.loop-last.invariant.0 ++ (c.octets_before-octets.result.now ∷ []),
      passes_from (DecodesOr g.D.AsnType.shape g.D.AsnType.tree (g.D.Decode.errors g.D.AsnType.TAG g.D.AsnType.CONSTRAINTS)) c.loop-last.self _ c.in_ok-push_element.ensures.exact.0 c.octets_before-octets.result.now
          (rw (← c.self-in-loop-last-2.view_is, ← c.self-in-loop-last.view_is) c.octets_before-octets.ensures) c.loop-last-test.ensures c.in_ok-push_element.ensures.exact.2
          c.in_ok-push_element.ensures.exact.3 c.args.self.now c.loop-last.values.items _ c.loop-last.invariant.0 c.in_ok-push_element.ensures.exact.1 c.loop-last.invariant.1,
      (λ k. in_order c.loop-last.invariant.0 c.loop-last.last.now c.octets_before-octets.result.now (c.loop-last.invariant.2 k) c.loop-last.invariant.3 (not_less k)),
      ends_more c.loop-last.invariant.0 c.octets_before-octets.result.now,
      beyond_more (Held g.D.AsnType.shape g.D.AsnType.tree (g.D.Decode.beyond g.D.AsnType.TAG)) c.args.self.now c.loop-last.self _ c.loop-last.values.items _ c.loop-last.invariant.4 c.in_ok-push_element.ensures.beyond,
    )

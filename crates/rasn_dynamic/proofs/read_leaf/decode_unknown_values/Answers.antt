use Rattle.std.proofs.Common.{None, inl, inr, refl, ◌∙◌, [], ◌∷◌, ◌++◌, arith}
use Rattle.rasn_types.specs.Shapes.{Tree, any}
use Rattle.rasn_de.proofs.Constructed.NextElement.{passes_more, turn_rules}
use Rattle.rasn_de.proofs.Leaves.Rules.{same_rules}
use Rattle.rasn_de.proofs.Leaves.Returns.{residual}
use Rattle.rasn_schema.specs.Trees.{tree_of}
use Rattle.rasn_schema.specs.Fitting.{AreOctets, EachFits}
use Rattle.rasn_dynamic.specs.Inside.{DecodesTree}
use Rattle.rasn_dynamic.proofs.Making.{one_made}
use Rattle.rasn_dynamic.proofs.FitsRead.{are_items, each_more}
use Rattle.rasn_dynamic.proofs.Unknown.{value_shorter, not_kept, values_read, values_stop}
use Rattle.rasn_dynamic.proofs.read_leaf.decode_unknown_values.Goals as goal

pub loop-decoder-init : goal.loop-decoder-init
loop-decoder-init g c = rw c.new-values.ensures.items (([], (λ k. refl), refl), (λ k. tt))

pub returns-in_err-value-clause-reads : goal.returns-in_err-value-clause-reads
returns-in_err-value-clause-reads g c =
    let i = c.loop-decoder.invariant.0 in
    rw (residual _ c.from_residual.ensures.1) (values_stop g.M.Made.KEEP c.args.decoder.now c.loop-decoder.decoder _ i.0 c.in_err-value.field-0.0 i.2 c.loop-decoder-test.ensures (inl c.in_err-value.ensures.reads))

pub returns-in_err-value-clause-rules : goal.returns-in_err-value-clause-rules
returns-in_err-value-clause-rules g c = rw (residual _ c.from_residual.ensures.1) (c.in_err-value.ensures.rules ∙ turn_rules (any None) (λ (z : Tree). z) _ _ _ c.loop-decoder.invariant.0.2)

pub returns-in_err-push-clause-reads : goal.returns-in_err-push-clause-reads
returns-in_err-push-clause-reads g c =
    let i = c.loop-decoder.invariant.0 in
    rw (residual _ c.from_residual-in_err-push.ensures.1) (values_stop g.M.Made.KEEP c.args.decoder.now c.loop-decoder.decoder _ i.0 c.in_err-push.field-0.0 i.2 c.loop-decoder-test.ensures (not_kept _ _ (tree_of c.in_ok-value.value) _ c.in_ok-value.ensures.reads c.in_err-push.ensures.memory))

pub returns-in_err-push-clause-rules : goal.returns-in_err-push-clause-rules
returns-in_err-push-clause-rules g c =
    rw (residual _ c.from_residual-in_err-push.ensures.1) (c.in_err-push.ensures.rules ∙ same_rules c.in_ok-value.ensures.reads.stays ∙ turn_rules (any None) (λ (z : Tree). z) _ _ _ c.loop-decoder.invariant.0.2)

pub returns-clause-reads : goal.returns-clause-reads
returns-clause-reads g c = let i = c.loop-decoder.invariant.0 in values_read g.M.Made.KEEP c.args.decoder.now c.loop-decoder.decoder c.loop-decoder.values i.0 i.1 i.2 c.loop-decoder-test.ensures

pub returns-clause-fits : goal.returns-clause-fits
returns-clause-fits g c = λ k. are_items (EachFits AreOctets) c.loop-decoder.values (c.loop-decoder.invariant.1 k)

pub loop-decoder-preserved : goal.loop-decoder-preserved
loop-decoder-preserved g c =
    let i = c.loop-decoder.invariant.0 in
    let r = c.in_ok-value.ensures.reads in
    let t = tree_of c.in_ok-value.value in (
      (
        i.0 ++ t ∷ [],
        one_made g.M.Made.KEEP c.loop-decoder.values.items _ i.0 c.in_ok-value.value t i.1 (λ k. refl) c.in_ok-push.ensures.ok,
        passes_more (DecodesTree (any None)) c.loop-decoder.decoder _ t c.loop-decoder-test.ensures r (λ n. absurd (omega (arith, value_shorter _ _ _ r, n))) c.args.decoder.now i.0 _ refl i.2,
      ),
      (λ k. each_more AreOctets c.loop-decoder.values.items _ c.in_ok-value.value (c.in_ok-push.ensures.ok k) (c.loop-decoder.invariant.1 k) c.in_ok-value.ensures.fits),
    )

pub loop-decoder-smaller : goal.loop-decoder-smaller
loop-decoder-smaller g c = value_shorter _ _ _ c.in_ok-value.ensures.reads

pub returns-in_err-value-clause-fails : goal.returns-in_err-value-clause-fails
returns-in_err-value-clause-fails g c =
    let i = c.loop-decoder.invariant.0 in
    rw (residual _ c.from_residual.ensures.1) (inr (i.0, c.loop-decoder.decoder, i.2, c.loop-decoder-test.ensures, c.in_err-value.ensures.fails))

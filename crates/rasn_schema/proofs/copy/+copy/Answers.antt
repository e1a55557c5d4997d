use Rattle.std.proofs.Common.{sym, subst}
use Rattle.rasn_types.specs.Order.{Each}
use Rattle.rasn_schema.specs.declared.value.Value.{Items, Elements}
use Rattle.rasn_schema.specs.Copies.{IsCopy}
use Rattle.rasn_schema.proofs.Copies.{copies_more, no_deeper, each_more, items_copied, elements_copied}
use Rattle.rasn_schema.proofs.copy.+copy.Goals as goal

pub copy_of-loop-inner-preserved : goal.copy_of-loop-inner-preserved
copy_of-loop-inner-preserved t c = record {
  copies = copies_more c.loop-inner.indices.items c.push.new.self.items c.in-Chosen.index c.loop-inner.inner.now c.deref-inner.result.now c.args.value.now c.in-Chosen.chosen c.in-Chosen.is c.deref-inner.ensures c.in_ok-push.ensures.items c.loop-inner.invariant.copies;
  deep = no_deeper c.in-Chosen.index c.loop-inner.inner.now c.deref-inner.result.now c.args.value.now c.in-Chosen.chosen c.in-Chosen.is c.deref-inner.ensures c.loop-inner.invariant.deep;
}

pub copies_of-loop-value-preserved : goal.copies_of-loop-value-preserved
copies_of-loop-value-preserved t c = each_more c.args.values.now c.loop-value.copies.items c.push.new.self.items c.loop-value.value-index c.value-item.result c.in_ok-copy.copy c.loop-value-test.true c.value-item.is c.in_ok-push.ensures.items c.loop-value.invariant c.in_ok-copy.ensures

pub copy_of_innermost-returns-in_ok-copies_of-in-Items : goal.copy_of_innermost-returns-in_ok-copies_of-in-Items
copy_of_innermost-returns-in_ok-copies_of-in-Items t c =
    let copies = c.in_ok-copies_of-in-Items.field-0 in
    subst (λ w. IsCopy w (Items copies)) (sym c.in-Items.is) (items_copied c.in-Items.values copies (subst (λ l. Each IsCopy l copies.items) c.as_slice-in-Items.ensures.value c.in_ok-copies_of-in-Items.ensures))

pub copy_of_innermost-returns-in_ok-copies_of-in-Elements : goal.copy_of_innermost-returns-in_ok-copies_of-in-Elements
copy_of_innermost-returns-in_ok-copies_of-in-Elements t c =
    let copies = c.in_ok-copies_of-in-Elements.field-0 in
    subst (λ w. IsCopy w (Elements copies)) (sym c.in-Elements.is) (elements_copied c.in-Elements.values copies (subst (λ l. Each IsCopy l copies.items) c.as_slice-in-Elements.ensures.value c.in_ok-copies_of-in-Elements.ensures))

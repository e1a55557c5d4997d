use Rattle.std.proofs.Common.{◌≡◌, ◌+◌, sym, ap, subst, ◌∙◌, refl, arith, true, false, true≢false}
use Rattle.std.proofs.lemmas.List.Sums.{count_by_more_yes, count_by_more_no}
use Rattle.rasn_types.specs.Shapes.{set_elements}
use Rattle.rasn_types.specs.Bytes.{Same}
use Rattle.rasn_types.specs.Trees.{list_tree}
use Rattle.rasn_schema.specs.Trees.{tree_of}
use Rattle.rasn_schema.specs.Equal.{value_eq}
use Rattle.rasn_schema.specs.Equals.{apart, one_answer, sets_same, sets_as_often}
use Rattle.rasn_schema.proofs.Values.{tree_items, tree_elements}
use Rattle.rasn_schema.proofs.OtherKinds.{list_kind, not_items, not_elements, not_chosen}
use Rattle.rasn_schema.proofs.EqualLists.{no_alternative_there, not_same, are_same, lists_same, lists_length, lists_at, sets_in_order}
use Rattle.rasn_schema.proofs.Lists.{so_far_more, so_far_end, read_at, some_is}
use Rattle.rasn_schema.proofs.equal.+same.Goals.{count-then-is_same, count-else-is_same}
use Rattle.rasn_schema.proofs.equal.+same.Goals as goal

pub is_innermost_same-returns-in-Items : goal.is_innermost_same-returns-in-Items
is_innermost_same-returns-in-Items t c = rw (c.in-Items.is, tree_items _, ← c.as_slice-in-Items.ensures.value) c.is_items.ensures

pub is_innermost_same-returns-in-Elements : goal.is_innermost_same-returns-in-Elements
is_innermost_same-returns-in-Elements t c = rw (c.in-Elements.is, tree_elements _, ← c.as_slice-in-Elements.ensures.value) c.is_elements.ensures

pub is_items-returns-in-Items : goal.is_items-returns-in-Items
is_items-returns-in-Items t c = rw (c.in-Items.is, tree_items _, ← c.as_slice.ensures.value) c.are_same.ensures

pub is_items-returns-in_default : goal.is_items-returns-in_default
is_items-returns-in_default t c = apart (list_tree tree_of c.args.values.now) (tree_of c.args.other.now) (rw (list_kind c.args.values.now) (not_items c.args.other.now c.in_default.not-Items))

pub is_elements-returns-in-Elements : goal.is_elements-returns-in-Elements
is_elements-returns-in-Elements t c = rw (c.in-Elements.is, tree_elements _, ← c.as_slice.ensures.value) c.hold_same.ensures

pub is_elements-returns-in_default : goal.is_elements-returns-in_default
is_elements-returns-in_default t c = apart (set_elements (list_tree tree_of c.args.values.now)) (tree_of c.args.other.now) (not_elements c.args.other.now c.in_default.not-Elements)

pub is_same-returns-in_default-its : goal.is_same-returns-in_default-its
is_same-returns-in_default-its t c = no_alternative_there c.loop-own.own.now c.loop-own.its.now c.args.value.now c.args.other.now _ _ c.in-Chosen.is (not_chosen c.loop-own.its.now c.in_default-its.not-Chosen) c.loop-own.invariant.tells

pub are_same-returns-then-values-others : goal.are_same-returns-then-values-others
are_same-returns-then-values-others t c = not_same _ _ (λ s. let n = lists_length c.args.values.now c.args.others.now s in omega (arith, n))

pub are_same-returns-then-not-is_same : goal.are_same-returns-then-not-is_same
are_same-returns-then-not-is_same t c = not_same _ _ (λ s. true≢false (sym (c.if-not-is_same.ensures.equal (lists_at c.args.values.now c.args.others.now s c.loop-index.index c.index-values-index.result c.index-others-index.result (read_at c.args.values.now c.loop-index.index c.index-values-index.result (let n = c.loop-index-test.true in omega arith) c.index-values-index.is) (read_at c.args.others.now c.loop-index.index c.index-others-index.result (let n = c.loop-index-test.true in omega arith) c.index-others-index.is)))))

pub are_same-loop-index-preserved : goal.are_same-loop-index-preserved
are_same-loop-index-preserved t c = so_far_more _ c.args.values.now c.loop-index.index c.index-values-index.result (read_at c.args.values.now c.loop-index.index c.index-values-index.result (let n = c.loop-index-test.true in omega arith) c.index-values-index.is)
    (λ w e. subst (λ z. Same (tree_of c.index-values-index.result) (tree_of z)) (some_is c.index-others-index.result w ((read_at c.args.others.now c.loop-index.index c.index-others-index.result (let n = c.loop-index-test.true in omega arith) c.index-others-index.is) ∙ sym e)) (c.if-not-is_same.ensures.same refl)) c.loop-index.invariant

pub are_same-returns : goal.are_same-returns
are_same-returns t c = are_same _ _ (lists_same c.args.values.now c.args.others.now (omega arith) (λ j x y d e. so_far_end _ c.args.values.now c.loop-index.index (let n = c.loop-index-test.false in omega arith) c.loop-index.invariant j x d y e))

pub hold_same-returns-then-are_same : goal.hold_same-returns-then-are_same
hold_same-returns-then-are_same t c = are_same _ _ (sets_in_order c.args.values.now c.args.others.now (c.if-are_same.ensures.same refl))

pub hold_same-returns-then-values-others : goal.hold_same-returns-then-values-others
hold_same-returns-then-values-others t c = not_same _ _ (λ s. let n = (sets_as_often c.args.values.now c.args.others.now s).0 in omega (arith, n))

pub hold_same-returns-then-count : goal.hold_same-returns-then-count
hold_same-returns-then-count t c = not_same _ _ (λ s. c.if-count.true (c.count.ensures ∙ ((sets_as_often c.args.values.now c.args.others.now s).1 c.loop-value.value-index c.value-item.result (read_at c.args.values.now c.loop-value.value-index c.value-item.result (let n = c.loop-value-test.true in omega arith) c.value-item.is) ∙ sym c.count-in-loop-value.ensures)))

pub hold_same-loop-value-preserved : goal.hold_same-loop-value-preserved
hold_same-loop-value-preserved t c = so_far_more _ c.args.values.now c.loop-value.value-index c.value-item.result (read_at c.args.values.now c.loop-value.value-index c.value-item.result (let n = c.loop-value-test.true in omega arith) c.value-item.is) (sym c.count.ensures ∙ (c.if-count.false ∙ c.count-in-loop-value.ensures)) c.loop-value.invariant

pub hold_same-returns : goal.hold_same-returns
hold_same-returns t c = are_same _ _ (sets_same c.args.values.now c.args.others.now (omega arith) (so_far_end _ c.args.values.now c.loop-value.value-index (let n = c.loop-value-test.false in omega arith) c.loop-value.invariant))

pub count-loop-other-preserved : goal.count-loop-other-preserved
count-loop-other-preserved t c =
    let p = value_eq c.args.value.now in
    elim c.if-is_same.branch [
      | count-then-is_same w ↦
          w.count-is ∙ (ap (λ n. n + 1) c.loop-other.invariant ∙ sym (count_by_more_yes p c.args.these.now c.loop-other.other-index c.other-item.result (let n = c.loop-other-test.true in omega arith)
          (subst (λ z. p z ≡ true) c.other-item.is (sym (one_answer true c.args.value.now c.other-item.result w.if-is_same.ensures)))))
      | count-else-is_same w ↦
          w.count-is ∙ (c.loop-other.invariant ∙ sym (count_by_more_no p c.args.these.now c.loop-other.other-index c.other-item.result (let n = c.loop-other-test.true in omega arith)
          (subst (λ z. p z ≡ false) c.other-item.is (sym (one_answer false c.args.value.now c.other-item.result w.if-is_same.ensures)))))
    ]

use Rattle.std.proofs.Common.{inl, inr, ◌≤◌, ◌+◌, ◌-◌, [], ℕ, length, refl, ap, subst, arith}
use Rattle.rasn_json.specs.Json.{unknown_in, ArrayJson, ChosenJson, JsonAt, JsonWithin, ObjectJson, OpenJson}
use Rattle.rasn_json.specs.Refusals.{AreRefusedComponents, HasJsonWithin, IsOfMember, IsRefusedAt, IsRefusedBy, IsRefusedComponent, LeadsToMember, OrMemory}
use Rattle.json.specs.Json.{Json}
use Rattle.json.specs.Tree.{depth}
use Rattle.rasn_schema.specs.Fitting.{AreItems, IsChosen}
use Rattle.rasn_schema.proofs.Lists.{split, nothing_left, read_at}
use Rattle.rasn_dynamic.proofs.WrittenInside.{none_when}
use Rattle.rasn_json.proofs.Appended.{on_appends, on_ok, array_more, array_end, object_more, object_end, chosen_put}
use Rattle.rasn_json.proofs.Levels.{json_below}
use Rattle.rasn_json.proofs.Refused.{are_elements, are_items, array_within, chosen_refused, chosen_within, component_refused, component_written, element_written, element_refused, has_json, kept_as, no_level, no_type, object_within, on_err, part_fails, refused_below, unknown_depth}
use Rattle.rasn_json.proofs.writer.+write.Goals as goal

pub put_at-returns-in-Some-clause-ok : goal.put_at-returns-in-Some-clause-ok
put_at-returns-in-Some-clause-ok g t c =
    on_appends _ _ _ _ c.put_value.result
    (λ j h. (json_below c.args.place.now.types.now c.args.place.now.levels (c.args.place.now.levels - 1) c.args.id.0 c.in-Some.ty.now c.args.value.now j (let n = c.if-place-eq0.false in omega arith) c.in-Some.ensures h.0, h.1)) c.put_value.ensures.ok

pub put_at-returns-in-Some-clause-err : goal.put_at-returns-in-Some-clause-err
put_at-returns-in-Some-clause-err g t c =
    let ts = c.args.place.now.types.now in
    let n = c.args.place.now.levels in
    let d = c.args.place.now.depth in
    kept_as (IsRefusedBy (unknown_in ts) (HasJsonWithin ts (n - 1)) (IsRefusedAt ts (n - 1)) d c.in-Some.ty.now c.args.value.now) (IsRefusedAt ts n d c.args.id.0 c.args.value.now) c.put_value.result c.put_value.new.error
    (refused_below c.args.place.now.types.now c.args.place.now.levels (c.args.place.now.levels - 1) c.args.place.now.depth c.args.id.0 c.in-Some.ty.now c.args.value.now c.put_value.new.error (let n = c.if-place-eq0.false in omega arith) c.in-Some.ensures) c.put_value.ensures.err

pub put_chosen-returns-clause-ok : goal.put_chosen-returns-clause-ok
put_chosen-returns-clause-ok g t c =
    rw c.in-Chosen.is (chosen_put (JsonWithin c.args.place.now.types.now c.args.place.now.levels c.args.place.now.depth) c.args.alternatives.now c.in-Chosen.index _ _ c.in-Some.alternative.now _ _ _ _ _ c.put_token-2.result (read_at _ _ _ c.in-Some.ensures.lookup.3.0 c.in-Some.ensures.lookup.1)
    c.as_str-name.ensures.value c.deref.ensures c.in_ok-put_token.ensures.ok c.in_ok-put_member.ensures.ok c.put_token-2.ensures.ok)

pub put_object-loop-rest-preserved : goal.put_object-loop-rest-preserved
put_object-loop-rest-preserved g t c =
    let first = split c.loop-rest.rest.now _ c.in-len1-up.len_at_least c.component-item.is in
    let value = split c.loop-rest.left.now _ c.in-len1-up-left.len_at_least c.value-item.is in
    let g = JsonWithin c.args.place.now.types.now c.args.place.now.levels c.args.place.now.depth in (
      object_more (unknown_in c.args.place.now.types.now) g _ _ _ _ _ _ c.component-item.result c.value-item.result _ _ _ c.loop-rest.invariant.0 first value c.in_ok-put_component.ensures.ok,
      component_written (unknown_in c.args.place.now.types.now) g (HasJsonWithin c.args.place.now.types.now c.args.place.now.levels c.args.place.now.depth) (IsRefusedAt c.args.place.now.types.now c.args.place.now.levels c.args.place.now.depth) _ _ _ _ c.loop-rest.invariant.1 _ _
          c.component-item.result c.value-item.result _ _ first value (λ k w x. x) c.in_ok-put_component.ensures.ok,
    )

pub put_object-returns-then-is_empty-clause-ok : goal.put_object-returns-then-is_empty-clause-ok
put_object-returns-then-is_empty-clause-ok g t c =
    on_ok c.put_token-then-is_empty.result _ _ (object_end (unknown_in c.args.place.now.types.now) (JsonWithin c.args.place.now.types.now c.args.place.now.levels c.args.place.now.depth) _ _ _ _ _ _ _ c.loop-rest.invariant.0 (nothing_left _ c.in_default.len_below) (none_when _ c.is_empty.result c.is_empty.ensures c.if-is_empty.true)) c.put_token-then-is_empty.ensures.ok

pub put_array-loop-left-preserved : goal.put_array-loop-left-preserved
put_array-loop-left-preserved g t c =
    let at = split c.loop-left.left.now _ c.in-len1-up.len_at_least c.value-item.is in
    let k = c.args.element.0 in (
      omega (arith, c.loop-left.invariant.0, ap length at),
      array_more (JsonWithin c.args.place.now.types.now c.args.place.now.levels c.args.place.now.depth k) _ _ _ c.value-item.result _ _ _ c.loop-left.invariant.1 at c.in-Ok.ensures.ok,
      element_written (HasJsonWithin c.args.place.now.types.now c.args.place.now.levels c.args.place.now.depth k) (IsRefusedAt c.args.place.now.types.now c.args.place.now.levels c.args.place.now.depth k) _ _ _ _ _ c.loop-left.invariant.2 at
          (has_json (JsonWithin c.args.place.now.types.now c.args.place.now.levels c.args.place.now.depth k c.value-item.result) _ _ c.in-Ok.ensures.ok),
    )

pub put_array-returns-clause-ok : goal.put_array-returns-clause-ok
put_array-returns-clause-ok g t c = on_ok c.put_token-2.result _ _ (array_end (JsonWithin c.args.place.now.types.now c.args.place.now.levels c.args.place.now.depth c.args.element.0) _ _ _ _ _ c.loop-left.invariant.1 (nothing_left _ c.in_default.len_below)) c.put_token-2.ensures.ok

pub put_array-returns-in-Err-clause-err : goal.put_array-returns-in-Err-clause-err
put_array-returns-in-Err-clause-err g t c =
    let at = split c.loop-left.left.now _ c.in-len1-up.len_at_least c.value-item.is in
    let k = c.args.element.0 in
    element_refused (HasJsonWithin c.args.place.now.types.now c.args.place.now.levels c.args.place.now.depth k) (IsRefusedAt c.args.place.now.types.now c.args.place.now.levels c.args.place.now.depth k) _ _ _ _ _ c.loop-left.invariant.2 at c.put_at.new.error _ c.in-Err.ensures.err c.refuse_in_element.ensures

pub put_at-returns-then-place-eq0-clause-err : goal.put_at-returns-then-place-eq0-clause-err
put_at-returns-then-place-eq0-clause-err g t c =
    inr (no_level c.args.place.now.types.now c.args.place.now.levels c.args.place.now.depth c.args.id.0 c.args.value.now c.refuse_unfit.new.error (let n = c.if-place-eq0.true in omega arith) c.refuse_unfit.ensures)

pub put_at-returns-in-None-clause-err : goal.put_at-returns-in-None-clause-err
put_at-returns-in-None-clause-err g t c =
    inr (no_type c.args.place.now.types.now c.args.place.now.levels c.args.place.now.depth c.args.id.0 c.args.id c.args.value.now c.refuse_type.new.error (let n = c.if-place-eq0.false in omega arith) c.in-None.ensures refl c.refuse_type.ensures)

pub put_chosen-returns-in_err-put_member-clause-err : goal.put_chosen-returns-in_err-put_member-clause-err
put_chosen-returns-in_err-put_member-clause-err g t c =
    rw c.in-Chosen.is (on_err _ c.from_residual-in_err-put_member.result
    (chosen_refused (IsRefusedAt c.args.place.now.types.now c.args.place.now.levels c.args.place.now.depth) c.args.alternatives.now c.in-Chosen.index _ _ c.in-Some.alternative.now _ c.put_member.new.error
    (read_at _ _ _ c.in-Some.ensures.lookup.3.0 c.in-Some.ensures.lookup.1) c.as_str-name.ensures.value c.deref.ensures c.in_err-put_member.ensures.err))

pub put_component-returns-clause-err : goal.put_component-returns-clause-err
put_component-returns-clause-err g t c =
    let R = IsRefusedAt c.args.place.now.types.now c.args.place.now.levels c.args.place.now.depth in
    kept_as (IsOfMember c.as_str-name.result.now (R c.args.component.now.type_id.0 c.args.value.now)) (IsRefusedComponent (unknown_in c.args.place.now.types.now) R c.args.component.now c.args.value.now) c.put_member.result c.put_member.new.error
    (λ x. (c.if-is_unwritten.ensures, subst (λ s. IsOfMember s (IsRefusedAt c.args.place.now.types.now c.args.place.now.levels c.args.place.now.depth c.args.component.now.type_id.0 c.args.value.now) c.put_member.new.error) c.as_str-name.ensures.value x)) c.put_member.ensures.err

pub put_inside-returns-in-Choice-clause-ok : goal.put_inside-returns-in-Choice-clause-ok
put_inside-returns-in-Choice-clause-ok g t c =
    rw c.in-Choice.is (on_appends _ _ _ _ c.put_chosen.result
    (λ j h. chosen_within (unknown_in c.args.place.now.types.now) (JsonAt c.args.place.now.types.now c.args.place.now.levels) c.args.place.now.depth c.in-Choice.alternatives.items j c.args.value.now
    (subst (λ ks. IsChosen (ChosenJson (JsonWithin c.args.place.now.types.now c.args.place.now.levels c.args.place.now.depth) ks j) c.args.value.now) c.deref.ensures.value h)) c.put_chosen.ensures.ok)

pub put_inside-returns-in-Some-clause-ok : goal.put_inside-returns-in-Some-clause-ok
put_inside-returns-in-Some-clause-ok g t c =
    rw c.in-SequenceOf.is (on_appends _ _ _ _ c.put_array.result
    (λ j h. let P = JsonAt c.args.place.now.types.now c.args.place.now.levels c.in-SequenceOf.element.0 in let r = array_within P c.args.place.now.depth c.in-Some.values.now j h in
    (are_items (ArrayJson P j) c.args.value.now c.in-Some.values.now c.in-Some.ensures r.0, r.1)) c.put_array.ensures.ok)

pub put_inside-returns-in-Some-elements_of-clause-ok : goal.put_inside-returns-in-Some-elements_of-clause-ok
put_inside-returns-in-Some-elements_of-clause-ok g t c =
    rw c.in-SetOf.is (on_appends _ _ _ _ c.put_array-in-Some-elements_of.result
    (λ j h. let P = JsonAt c.args.place.now.types.now c.args.place.now.levels c.in-SetOf.element.0 in let r = array_within P c.args.place.now.depth c.in-Some-elements_of.values.now j h in
    (are_elements (ArrayJson P j) c.args.value.now c.in-Some-elements_of.values.now c.in-Some-elements_of.ensures r.0, r.1)) c.put_array-in-Some-elements_of.ensures.ok)

pub put_inside-returns-in-Some-items_of-clause-ok : goal.put_inside-returns-in-Some-items_of-clause-ok
put_inside-returns-in-Some-items_of-clause-ok g t c =
    rw c.in-Unknown.is (on_appends _ _ _ _ c.kept_unknown.result
    (λ j h. (are_items (ArrayJson OpenJson j) c.args.value.now c.in-Some-items_of.values.now c.in-Some-items_of.ensures h, unknown_depth c.args.place.now.depth c.in-Some-items_of.values.now j h)) c.kept_unknown.ensures.ok)

pub put_inside-returns-in-Some-items_of-2-clause-ok : goal.put_inside-returns-in-Some-items_of-2-clause-ok
put_inside-returns-in-Some-items_of-2-clause-ok g t c =
    elim c.in-Sequence.is [
      | inl p ↦ rw p.1 (on_appends _ _ _ _ c.put_object.result (λ j h. written j h) c.put_object.ensures.ok)
      | inr p ↦ rw p.2 (on_appends _ _ _ _ c.put_object.result (λ j h. written j h) c.put_object.ensures.ok)
    ]
  where
    written : (j : Json) → ObjectJson (unknown_in c.args.place.now.types.now) (JsonWithin c.args.place.now.types.now c.args.place.now.levels c.args.place.now.depth) c.deref-in-Some-items_of-2.result.now j c.in-Some-items_of-2.values.now
        → AreItems (ObjectJson (unknown_in c.args.place.now.types.now) (JsonAt c.args.place.now.types.now c.args.place.now.levels) c.in-Sequence.components.items j) c.args.value.now × (depth j ≤ c.args.place.now.depth + 1)
    written j h =
        let r = object_within (unknown_in c.args.place.now.types.now) (JsonAt c.args.place.now.types.now c.args.place.now.levels) c.args.place.now.depth c.in-Sequence.components.items c.in-Some-items_of-2.values.now j
        (subst (λ l. ObjectJson (unknown_in c.args.place.now.types.now) (JsonWithin c.args.place.now.types.now c.args.place.now.levels c.args.place.now.depth) l j c.in-Some-items_of-2.values.now) c.deref-in-Some-items_of-2.ensures.value h) in
        (are_items (ObjectJson (unknown_in c.args.place.now.types.now) (JsonAt c.args.place.now.types.now c.args.place.now.levels) c.in-Sequence.components.items j) c.args.value.now c.in-Some-items_of-2.values.now c.in-Some-items_of-2.ensures r.0, r.1)

pub put_member-returns-in-Err-clause-err : goal.put_member-returns-in-Err-clause-err
put_member-returns-in-Err-clause-err g t c =
    part_fails (LeadsToMember c.args.name.now) (IsRefusedAt c.args.place.now.types.now c.args.place.now.levels c.args.place.now.depth c.args.id.0 c.args.value.now) c.put_at.new.error c.refuse_in_member.new.error c.in-Err.ensures.err c.refuse_in_member.ensures

pub put_object-returns-in_err-put_component-clause-err : goal.put_object-returns-in_err-put_component-clause-err
put_object-returns-in_err-put_component-clause-err g t c =
    let first = split c.loop-rest.rest.now _ c.in-len1-up.len_at_least c.component-item.is in
    let value = split c.loop-rest.left.now _ c.in-len1-up-left.len_at_least c.value-item.is in
    on_err (OrMemory (AreRefusedComponents (unknown_in c.args.place.now.types.now) (HasJsonWithin c.args.place.now.types.now c.args.place.now.levels c.args.place.now.depth) (IsRefusedAt c.args.place.now.types.now c.args.place.now.levels c.args.place.now.depth) c.args.components.now c.args.values.now) c.put_component.new.error) c.from_residual-in_err-put_component.result
    (component_refused (unknown_in c.args.place.now.types.now) (JsonWithin c.args.place.now.types.now c.args.place.now.levels c.args.place.now.depth) (HasJsonWithin c.args.place.now.types.now c.args.place.now.levels c.args.place.now.depth) (IsRefusedAt c.args.place.now.types.now c.args.place.now.levels c.args.place.now.depth)
    _ _ _ _ c.loop-rest.invariant.1 _ _ c.component-item.result c.value-item.result c.put_component.new.error first value c.in_err-put_component.ensures.err)

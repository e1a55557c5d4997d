use Rattle.std.proofs.Common.{arith, ◌≡◌, ◌≤◌, map, true, false, refl, sym, ap, ◌∙◌, subst, inr, ◌≢◌, [], rules}
use Rattle.std.proofs.lemmas.List.{length-map}
use Rattle.rasn_types.specs.declared.error.encode.EncodeError.{EncodeError}
use Rattle.rasn_types.specs.Shapes.{Admits, IsFirst}
use Rattle.rasn_de.proofs.Leaves.Returns.{residual}
use Rattle.rasn_enc.proofs.Constructed.SequenceOf.{ElementsSoFar, split_is, elements_start, elements_more, elements_end}
use Rattle.rasn_enc.proofs.Constructed.SetOf.{SetOfSoFar, set_of_start, set_of_more, set_of_end, none_left, fall_refused}
use Rattle.rasn_schema.specs.Trees.{tree_of}
use Rattle.rasn_schema.specs.Shapes.{shape_of_type, type_by, tag_of_type, components_by, key_of, presence_in}
use Rattle.rasn_schema.proofs.Reach.{fits_up, fits_down}
use Rattle.rasn_schema.proofs.Lists.{split, nothing_left}
use Rattle.rasn_schema.specs.Fitting.{Fits, ComponentsFit, EachFits}
use Rattle.rasn_dynamic.proofs.Enclosed.{enclosed, dropped, enclosed_tag}
use Rattle.rasn_dynamic.proofs.OnlyFitting.{form_refused, fits_as}
use Rattle.rasn_schema.proofs.Fitted.{fit_start, fit_more, fit_short, fit_end, each_start, each_more, each_end}
use Rattle.rasn_schema.proofs.ListsOf.{list_to, list_from, set_to, set_from, no_list, no_set, list_means, set_means}
use Rattle.rasn_dynamic.proofs.WrittenInside.{left_as_it_was, leaves_by, leaves_both, prefix_inside, seq_inside, size_refused, list_inside, set_of_inside, list_unsized, set_of_unsized, written_start, written_more, reached_written, parts_ended, part_skipped, part_written, not_opened, none_when, some_when, component_refused, element_not_written, set_element_not_written}
use Rattle.std.proofs.lemmas.Result.{on_ok_weaker}
use Rattle.rasn_types.specs.Bytes.{IsPlacedBy}
use Rattle.rasn_enc.proofs.OwnTypes.SortedSet.{no_octets, some_octets}
use Rattle.rasn_dynamic.proofs.SetWritten.{part_lacks, left_out, put_among, not_placed, other_number, unknown_fits, is_last, fit_from, unknown_not, unknown_first, none_held, holds_more, holds_all, component_fails, set_refused, set_appended, set_inside}
use Rattle.rasn_dynamic.proofs.writer.+encode.Goals.{set_components-then-extensible+else-is_left_out+in_ok-found, set_components-else-extensible}
use Rattle.rasn_types.specs.Tags.{eoc}
use Rattle.rasn_types.specs.Trees.{list_tree}
use Rattle.rasn_dynamic.proofs.writer.+encode.Goals as goal

pub encode_at-returns-in-Some : goal.encode_at-returns-in-Some
encode_at-returns-in-Some t c =
    let reaches = c.in-Some.ensures.reaches in
    fits_as _ (fits_up _ _ _ _ _ _ _ reaches) (fits_down _ _ _ _ _ _ _ reaches) (reached_written _ _ _ _ _ _ _ reaches _ _ _) c.encode_type.ensures

pub encode_at-returns-in-None : goal.encode_at-returns-in-None
encode_at-returns-in-None t c = rw c.refuse_form.ensures.1 (form_refused _ c.in-None.ensures.reaches refl c.refuse_form.ensures.2)

pub encode_contents-returns-in-Tagged : goal.encode_contents-returns-in-Tagged
encode_contents-returns-in-Tagged t c = rw c.in-Tagged.is (prefix_inside c.in-Tagged.tag ((shape_of_type c.args.types.now c.args.below) c.in-Tagged.inner.0) _ _ _ c.requires.fresh _ c.encode_at.ensures)

pub encode_contents-returns-in-Some : goal.encode_contents-returns-in-Some
encode_contents-returns-in-Some t c = rw c.in-Sequence.is (fits_as _ (list_to (ComponentsFit (Fits c.args.types.now c.args.below) c.in-Sequence.components.items) _ _ c.in-Some.ensures) (list_from (ComponentsFit (Fits c.args.types.now c.args.below) c.in-Sequence.components.items) _ _ c.in-Some.ensures)
    (λ k. seq_inside c.in-Sequence.tag (components_by (shape_of_type c.args.types.now c.args.below) c.in-Sequence.components.items) _ _ (list_means _ _ c.in-Some.ensures) _ _ c.requires.fresh _ k) (rw (← c.deref.ensures.value) c.encode_components.ensures))

pub encode_contents-returns-in-None : goal.encode_contents-returns-in-None
encode_contents-returns-in-None t c = rw (c.in-Sequence.is, c.refuse_form.ensures.1) (form_refused _ (no_list (ComponentsFit (Fits c.args.types.now c.args.below) c.in-Sequence.components.items) _ c.in-None.ensures) (left_as_it_was _ _ refl) c.refuse_form.ensures.2)

pub encode_contents-returns-in-Some-items_of : goal.encode_contents-returns-in-Some-items_of
encode_contents-returns-in-Some-items_of t c = rw c.in-Set.is (fits_as _ (list_to (ComponentsFit (Fits c.args.types.now c.args.below) c.in-Set.components.items) _ _ c.in-Some-items_of.ensures) (list_from (ComponentsFit (Fits c.args.types.now c.args.below) c.in-Set.components.items) _ _ c.in-Some-items_of.ensures)
    (λ k. set_inside c.in-Set.tag eoc (components_by (shape_of_type c.args.types.now c.args.below) c.in-Set.components.items) _ _ (list_means _ _ c.in-Some-items_of.ensures) _ _ _ k) (rw (← c.deref-in-Some-items_of.ensures.value) c.encode_set.ensures))

pub encode_contents-returns-in-None-items_of : goal.encode_contents-returns-in-None-items_of
encode_contents-returns-in-None-items_of t c = rw (c.in-Set.is, c.refuse_form-in-None-items_of.ensures.1) (form_refused _ (no_list (ComponentsFit (Fits c.args.types.now c.args.below) c.in-Set.components.items) _ c.in-None-items_of.ensures) (left_as_it_was _ _ refl) c.refuse_form-in-None-items_of.ensures.2)

pub encode_contents-returns-in_err-check_size-in-Some-items_of-2 : goal.encode_contents-returns-in_err-check_size-in-Some-items_of-2
encode_contents-returns-in_err-check_size-in-Some-items_of-2 t c = rw (residual _ c.from_residual.ensures.1, c.in-SequenceOf.is) (size_refused _ _ _ _ c.in_err-check_size-in-Some-items_of-2.ensures.fails (λ g. list_unsized c.in-SequenceOf.tag ((shape_of_type c.args.types.now c.args.below) c.in-SequenceOf.element.0) c.in-SequenceOf.constraints _ c.in-Some-items_of-2.values.now c.args.encoder.now c.args.encoder.now c.requires.fresh (list_means _ _ c.in-Some-items_of-2.ensures) (subst (λ m. Admits ◌≤◌ c.in-SequenceOf.constraints.size m → ⊥) (sym (length-map c.in-Some-items_of-2.values.now tree_of)) c.in_err-check_size-in-Some-items_of-2.ensures.fails.unmet) c.check_size.new.error))

pub encode_contents-returns-in_ok-check_size-in-Some-items_of-2 : goal.encode_contents-returns-in_ok-check_size-in-Some-items_of-2
encode_contents-returns-in_ok-check_size-in-Some-items_of-2 t c = rw c.in-SequenceOf.is (fits_as _ (list_to (EachFits ((Fits c.args.types.now c.args.below) c.in-SequenceOf.element.0)) _ _ c.in-Some-items_of-2.ensures) (list_from (EachFits ((Fits c.args.types.now c.args.below) c.in-SequenceOf.element.0)) _ _ c.in-Some-items_of-2.ensures)
    (list_inside c.in-SequenceOf.tag ((shape_of_type c.args.types.now c.args.below) c.in-SequenceOf.element.0) c.in-SequenceOf.constraints _ c.in-Some-items_of-2.values.now c.args.encoder.now _ c.requires.fresh (list_means _ _ c.in-Some-items_of-2.ensures) (subst (λ m. Admits ◌≤◌ c.in-SequenceOf.constraints.size m) (sym (length-map c.in-Some-items_of-2.values.now tree_of)) c.in_ok-check_size-in-Some-items_of-2.ensures.ok) _) c.encode_elements.ensures)

pub encode_contents-returns-in-None-items_of-2 : goal.encode_contents-returns-in-None-items_of-2
encode_contents-returns-in-None-items_of-2 t c = rw (c.in-SequenceOf.is, c.refuse_form-in-None-items_of-2.ensures.1) (form_refused _ (no_list (EachFits ((Fits c.args.types.now c.args.below) c.in-SequenceOf.element.0)) _ c.in-None-items_of-2.ensures) (left_as_it_was _ _ refl) c.refuse_form-in-None-items_of-2.ensures.2)

pub encode_contents-returns-in_err-check_size-in-Some-elements_of : goal.encode_contents-returns-in_err-check_size-in-Some-elements_of
encode_contents-returns-in_err-check_size-in-Some-elements_of t c = rw (residual _ c.from_residual-in_err-check_size-in-Some-elements_of.ensures.1, c.in-SetOf.is) (size_refused _ _ _ _ c.in_err-check_size-in-Some-elements_of.ensures.fails (λ g. set_of_unsized c.in-SetOf.tag ((shape_of_type c.args.types.now c.args.below) c.in-SetOf.element.0) c.in-SetOf.constraints _ c.in-Some-elements_of.values.now c.args.encoder.now c.args.encoder.now c.requires.fresh (set_means _ _ c.in-Some-elements_of.ensures) (subst (λ m. Admits ◌≤◌ c.in-SetOf.constraints.size m → ⊥) (sym (length-map c.in-Some-elements_of.values.now tree_of)) c.in_err-check_size-in-Some-elements_of.ensures.fails.unmet) c.check_size-in-Some-elements_of.new.error))

pub encode_contents-returns-in_ok-check_size-in-Some-elements_of : goal.encode_contents-returns-in_ok-check_size-in-Some-elements_of
encode_contents-returns-in_ok-check_size-in-Some-elements_of t c = rw c.in-SetOf.is (fits_as _ (set_to (EachFits ((Fits c.args.types.now c.args.below) c.in-SetOf.element.0)) _ _ c.in-Some-elements_of.ensures) (set_from (EachFits ((Fits c.args.types.now c.args.below) c.in-SetOf.element.0)) _ _ c.in-Some-elements_of.ensures)
    (set_of_inside c.in-SetOf.tag ((shape_of_type c.args.types.now c.args.below) c.in-SetOf.element.0) c.in-SetOf.constraints _ c.in-Some-elements_of.values.now c.args.encoder.now _ c.requires.fresh (set_means _ _ c.in-Some-elements_of.ensures) (subst (λ m. Admits ◌≤◌ c.in-SetOf.constraints.size m) (sym (length-map c.in-Some-elements_of.values.now tree_of)) c.in_ok-check_size-in-Some-elements_of.ensures.ok) _) c.encode_elements_in_order.ensures)

pub encode_contents-returns-in-None-elements_of : goal.encode_contents-returns-in-None-elements_of
encode_contents-returns-in-None-elements_of t c = rw (c.in-SetOf.is, c.refuse_form-in-None-elements_of.ensures.1) (form_refused _ (no_set (EachFits ((Fits c.args.types.now c.args.below) c.in-SetOf.element.0)) _ c.in-None-elements_of.ensures) (left_as_it_was _ _ refl) c.refuse_form-in-None-elements_of.ensures.2)

pub encode_inside-returns-in-Ok-encode_contents : goal.encode_inside-returns-in-Ok-encode_contents
encode_inside-returns-in-Ok-encode_contents t c =
    let f = shape_of_type c.args.types.now c.args.below in
    rw c.kept.ensures (enclosed (type_by f c.args.ty.now) _ _ (rw c.tag.ensures (enclosed_tag f c.args.ty.now c.requires)) c.args.encoder.now _ _ c.in-Ok.ensures.ok _ c.in-Ok-encode_contents.ensures _ _ c.close.ensures.accepted c.close.ensures.ok c.close.ensures.err c.close.ensures.refused)

pub encode_inside-returns-in-Err-encode_contents : goal.encode_inside-returns-in-Err-encode_contents
encode_inside-returns-in-Err-encode_contents t c =
    let f = shape_of_type c.args.types.now c.args.below in
    dropped (type_by f c.args.ty.now) _ (tag_of_type c.args.ty.now) (enclosed_tag f c.args.ty.now c.requires) c.args.encoder.now _ _ c.in-Ok.ensures.ok _ c.in-Err-encode_contents.ensures _ _ refl c.drop_open.ensures

pub encode_inside-returns-in-Err : goal.encode_inside-returns-in-Err
encode_inside-returns-in-Err t c = rw c.keep.ensures (not_opened _ _ _ _ _ c.in-Err.ensures.err c.in-Err.ensures.memory_alone)

pub encode_component-returns-then-is_left_out : goal.encode_component-returns-then-is_left_out
encode_component-returns-then-is_left_out t c = part_skipped (Fits c.args.types.now c.args.below) ((shape_of_type c.args.types.now c.args.below) c.args.component.now.type_id.0) c.args.component.now c.args.value.now c.args.encoder.now (key_of ((shape_of_type c.args.types.now c.args.below) c.args.component.now.type_id.0)) c.if-is_left_out.ensures

pub encode_component-returns : goal.encode_component-returns
encode_component-returns t c = part_written (Fits c.args.types.now c.args.below) ((shape_of_type c.args.types.now c.args.below) c.args.component.now.type_id.0) c.args.component.now c.args.value.now c.args.encoder.now (key_of ((shape_of_type c.args.types.now c.args.below) c.args.component.now.type_id.0)) c.if-is_left_out.ensures _ _ c.encode_at.ensures

pub encode_components-loop-rest-init : goal.encode_components-loop-rest-init
encode_components-loop-rest-init t c = record { written = written_start (shape_of_type c.args.types.now c.args.below) _ _ _; fits = fit_start (Fits c.args.types.now c.args.below) _ _; keeps = left_as_it_was _ _ refl }

pub encode_components-returns-in_default-left : goal.encode_components-returns-in_default-left
encode_components-returns-in_default-left t c = rw c.refuse_form.ensures.1 (form_refused _ (fit_short (Fits c.args.types.now c.args.below) _ _ _ _ _ c.component-item.result c.loop-rest.invariant.fits (split c.loop-rest.rest.now _ c.in-len1-up.len_at_least c.component-item.is) (nothing_left _ c.in_default-left.len_below)) c.loop-rest.invariant.keeps (c.refuse_form.ensures.2 ∙ c.loop-rest.invariant.keeps.rule))

pub encode_components-returns-in_err-encode_component : goal.encode_components-returns-in_err-encode_component
encode_components-returns-in_err-encode_component t c = rw (residual _ c.from_residual.ensures.1) (component_refused (shape_of_type c.args.types.now c.args.below) (Fits c.args.types.now c.args.below) _ _ _ c.component-item.result _ _ _ c.value-item.result _ _ c.loop-rest.invariant.written (split c.loop-rest.rest.now _ c.in-len1-up.len_at_least c.component-item.is) (split c.loop-rest.left.now _ c.in-len1-up-left.len_at_least c.value-item.is) c.loop-rest.invariant.fits c.loop-rest.invariant.keeps c.encode_component.new.error _ c.in_err-encode_component.ensures)

pub encode_components-loop-rest-preserved : goal.encode_components-loop-rest-preserved
encode_components-loop-rest-preserved t c =
    let wrote = c.in_ok-encode_component.ensures in
    record {
      written = written_more (shape_of_type c.args.types.now c.args.below) _ _ _ c.component-item.result _ _ _ c.value-item.result _ _ c.loop-rest.invariant.written (split c.loop-rest.rest.now _ c.in-len1-up.len_at_least c.component-item.is) (split c.loop-rest.left.now _ c.in-len1-up-left.len_at_least c.value-item.is) _ (wrote.does wrote.fits).ok;
      fits = fit_more (Fits c.args.types.now c.args.below) _ _ _ _ _ _ c.component-item.result c.value-item.result c.loop-rest.invariant.fits (split c.loop-rest.rest.now _ c.in-len1-up.len_at_least c.component-item.is) (split c.loop-rest.left.now _ c.in-len1-up-left.len_at_least c.value-item.is) wrote.fits;
      keeps = leaves_both c.loop-rest.invariant.keeps (leaves_by _ _ _ _ (wrote.does wrote.fits).ok.appended);
    }

pub encode_components-returns-then-is_empty : goal.encode_components-returns-then-is_empty
encode_components-returns-then-is_empty t c = record { fits = fit_end (Fits c.args.types.now c.args.below) _ _ _ _ true c.loop-rest.invariant.fits (nothing_left _ c.in_default.len_below) (none_when _ c.is_empty.result c.is_empty.ensures c.if-is_empty.true); does = λ f. c.loop-rest.invariant.written.on _ _ (parts_ended (shape_of_type c.args.types.now c.args.below) _ _ _ (nothing_left _ c.in_default.len_below) (none_when _ c.is_empty.result c.is_empty.ensures c.if-is_empty.true)); keeps = c.loop-rest.invariant.keeps; rules = tt }

pub encode_components-returns : goal.encode_components-returns
encode_components-returns t c = rw c.refuse_form-2.ensures.1 (form_refused _ (fit_end (Fits c.args.types.now c.args.below) _ _ _ _ false c.loop-rest.invariant.fits (nothing_left _ c.in_default.len_below) (some_when _ c.is_empty.result c.is_empty.ensures c.if-is_empty.false)) c.loop-rest.invariant.keeps (c.refuse_form-2.ensures.2 ∙ c.loop-rest.invariant.keeps.rule))

pub encode_elements-loop-rest-init : goal.encode_elements-loop-rest-init
encode_elements-loop-rest-init t c = record { written = elements_start ((shape_of_type c.args.types.now c.args.below) c.args.element.0) _ _ c.requires; fits = each_start ((Fits c.args.types.now c.args.below) c.args.element.0) _ }

pub encode_elements-returns-in_err-encode_at : goal.encode_elements-returns-in_err-encode_at
encode_elements-returns-in_err-encode_at t c = rw (residual _ c.from_residual.ensures.1) (element_not_written ((Fits c.args.types.now c.args.below) c.args.element.0) ((shape_of_type c.args.types.now c.args.below) c.args.element.0) _ _ _ c.value-item.result _ _ c.loop-rest.invariant.written (split c.loop-rest.rest.now _ c.in-len1-up.len_at_least c.value-item.is) c.loop-rest.invariant.fits c.encode_at.new.error _ c.in_err-encode_at.ensures)

pub encode_elements-loop-rest-preserved : goal.encode_elements-loop-rest-preserved
encode_elements-loop-rest-preserved t c =
    let wrote = c.in_ok-encode_at.ensures in
    record {
      written = elements_more ((shape_of_type c.args.types.now c.args.below) c.args.element.0) _ _ _ _ _ _ c.loop-rest.invariant.written (split_is tree_of c.loop-rest.rest.now _ c.in-len1-up.len_at_least c.value-item.is) _ (wrote.does wrote.fits).ok;
      fits = each_more ((Fits c.args.types.now c.args.below) c.args.element.0) _ _ _ c.value-item.result c.loop-rest.invariant.fits (split c.loop-rest.rest.now _ c.in-len1-up.len_at_least c.value-item.is) wrote.fits;
    }

pub encode_elements-returns : goal.encode_elements-returns
encode_elements-returns t c = record {
  fits = each_end ((Fits c.args.types.now c.args.below) c.args.element.0) _ _ c.loop-rest.invariant.fits (nothing_left _ c.in_default.len_below);
  does = λ f. record { ok = elements_end ((shape_of_type c.args.types.now c.args.below) c.args.element.0) _ _ _ (subst (λ l. ElementsSoFar ((shape_of_type c.args.types.now c.args.below) c.args.element.0) (map tree_of c.args.values.now) l c.args.encoder.now c.loop-rest.encoder) (none_left tree_of c.loop-rest.rest.now c.in_default.len_below) c.loop-rest.invariant.written); refused = tt };
  keeps = c.loop-rest.invariant.written.others;
  rules = tt;
}

pub encode_elements_in_order-loop-rest-init : goal.encode_elements_in_order-loop-rest-init
encode_elements_in_order-loop-rest-init t c = record { written = set_of_start ((shape_of_type c.args.types.now c.args.below) c.args.element.0) _ _ _ c.requires c.last_len-previous.ensures; fits = each_start ((Fits c.args.types.now c.args.below) c.args.element.0) _ }

pub encode_elements_in_order-returns-in_err-encode_at : goal.encode_elements_in_order-returns-in_err-encode_at
encode_elements_in_order-returns-in_err-encode_at t c = rw (residual _ c.from_residual.ensures.1) (set_element_not_written ((Fits c.args.types.now c.args.below) c.args.element.0) ((shape_of_type c.args.types.now c.args.below) c.args.element.0) _ _ _ c.value-item.result _ _ _ c.loop-rest.invariant.written (split c.loop-rest.rest.now _ c.in-len1-up.len_at_least c.value-item.is) c.loop-rest.invariant.fits c.encode_at.new.error _ c.in_err-encode_at.ensures)

pub encode_elements_in_order-returns-then-neighbours_out_of_order : goal.encode_elements_in_order-returns-then-neighbours_out_of_order
encode_elements_in_order-returns-then-neighbours_out_of_order t c =
    let wrote = c.in_ok-encode_at.ensures in
    let leaves = leaves_both c.loop-rest.invariant.written.so_far.others (leaves_by _ _ _ _ (wrote.does wrote.fits).ok.appended) in
    rw c.keep.ensures (record {
      fits = tt;
      does = λ f. record { ok = tt; refused = inr (fall_refused ((shape_of_type c.args.types.now c.args.below) c.args.element.0) _ _ _ _ _ _ _ _ _ c.loop-rest.invariant.written (split_is tree_of c.loop-rest.rest.now _ c.in-len1-up.len_at_least c.value-item.is) (wrote.does wrote.fits).ok c.last_len-start.ensures c.if-neighbours_out_of_order.ensures _ _ refl c.out_of_order.ensures) };
      keeps = leaves;
      rules = ap (λ (x : EncodeError). x.codec) c.out_of_order.ensures ∙ leaves.rule;
    })

pub encode_elements_in_order-loop-rest-preserved : goal.encode_elements_in_order-loop-rest-preserved
encode_elements_in_order-loop-rest-preserved t c =
    let wrote = c.in_ok-encode_at.ensures in
    record {
      written = set_of_more ((shape_of_type c.args.types.now c.args.below) c.args.element.0) _ _ _ _ _ _ _ _ _ c.loop-rest.invariant.written (split_is tree_of c.loop-rest.rest.now _ c.in-len1-up.len_at_least c.value-item.is) (wrote.does wrote.fits).ok c.last_len-start.ensures c.if-neighbours_out_of_order.ensures;
      fits = each_more ((Fits c.args.types.now c.args.below) c.args.element.0) _ _ _ c.value-item.result c.loop-rest.invariant.fits (split c.loop-rest.rest.now _ c.in-len1-up.len_at_least c.value-item.is) wrote.fits;
    }

pub encode_elements_in_order-returns : goal.encode_elements_in_order-returns
encode_elements_in_order-returns t c = record {
  fits = each_end ((Fits c.args.types.now c.args.below) c.args.element.0) _ _ c.loop-rest.invariant.fits (nothing_left _ c.in_default.len_below);
  does = λ f. record { ok = set_of_end ((shape_of_type c.args.types.now c.args.below) c.args.element.0) _ _ _ c.loop-rest.previous (subst (λ l. SetOfSoFar ((shape_of_type c.args.types.now c.args.below) c.args.element.0) (map tree_of c.args.values.now) l c.args.encoder.now c.loop-rest.encoder c.loop-rest.previous) (none_left tree_of c.loop-rest.rest.now c.in_default.len_below) c.loop-rest.invariant.written); refused = tt };
  keeps = c.loop-rest.invariant.written.so_far.others;
  rules = tt;
}

pub add_component-returns-in_err-octets-clause-refused : goal.add_component-returns-in_err-octets-clause-refused
add_component-returns-in_err-octets-clause-refused t c = rw (residual _ c.from_residual.ensures.1) (λ f. part_lacks (presence_in (shape_of_type c.args.types.now c.args.below) c.args.component.now) (shape_of_type c.args.types.now c.args.below c.args.component.now.type_id.0) (tree_of c.args.value.now) c.args.encoder.now.rule c.in_err-octets.field-0.0 (c.in_err-octets.ensures.refused f))

pub add_component-returns-then-is_empty-clause-ok : goal.add_component-returns-then-is_empty-clause-ok
add_component-returns-then-is_empty-clause-ok t c =
    let e : c.in_ok-octets.octets.items ≡ [] = no_octets _ _ _ (search rules) c.is_empty.ensures c.if-is_empty.true in
    left_out _ _ _ c.args.encoder.now.rule c.in_ok-octets.octets.items c.in_ok-octets.ensures.ok _ e

pub add_component-returns-in_default-clause-refused : goal.add_component-returns-in_default-clause-refused
add_component-returns-in_default-clause-refused t c f =
    let n : c.in_ok-octets.octets.items ≢ [] = some_octets _ _ _ (search rules) c.is_empty.ensures c.if-is_empty.false in
    let s = shape_of_type c.args.types.now c.args.below c.args.component.now.type_id.0 in
    not_placed _ s _ c.args.encoder.now.rule c.in_ok-octets.octets.items c.in_ok-octets.ensures.ok.1 n
    (λ tag k. c.in_default.ensures tag (subst (λ l. IsPlacedBy c.codec-rule.result (IsFirst s) l tag) (sym c.deref.ensures.value) (subst (λ r. IsPlacedBy r (IsFirst s) c.in_ok-octets.octets.items tag) (sym c.codec-rule.ensures) k))) c.no_place.result

pub add_component-returns-clause-ok : goal.add_component-returns-clause-ok
add_component-returns-clause-ok t c =
    let n : c.in_ok-octets.octets.items ≢ [] = some_octets _ _ _ (search rules) c.is_empty.ensures c.if-is_empty.false in
    let s = shape_of_type c.args.types.now c.args.below c.args.component.now.type_id.0 in
    on_ok_weaker c.insert_component.result (λ e. put_among _ s _ c.args.encoder.now.rule c.in_ok-octets.octets.items c.in_ok-octets.ensures.ok c.args.found.now.items n _ _
    (subst (λ l. IsPlacedBy c.args.encoder.now.rule (IsFirst s) l c.in-Some.tag) c.deref.ensures.value (subst (λ r. IsPlacedBy r (IsFirst s) c.deref.result.now c.in-Some.tag) c.codec-rule.ensures c.in-Some.ensures)) refl e) c.insert_component.ensures.ok

pub set_components-returns-then-values-components-clause-refused : goal.set_components-returns-then-values-components-clause-refused
set_components-returns-then-values-components-clause-refused t c f = absurd (other_number (Fits c.args.types.now c.args.below) c.args.components.now c.args.values.now c.if-values-components.true f)

pub set_components-returns-in_err-found-clause-refused : goal.set_components-returns-in_err-found-clause-refused
set_components-returns-in_err-found-clause-refused t c =
    let f = shape_of_type c.args.types.now c.args.below in
    let g = Fits c.args.types.now c.args.below in
    let all = c.args.components.now in
    let n = c.named_components-extensible.ensures.named in
    let e = sym c.named_components-extensible.ensures.extensible ∙ c.if-extensible.true in
    let q = c.index-components-last in
    let w = c.index-values-last in
    let k = unknown_fits c.args.types.now c.args.below q.result.type_id.0 w.result (is_last f g all _ c.args.values.now c.args.encoder.now.rule n c.if-values-components.false e q.result w.result q.is w.is) in
    rw (residual _ c.from_residual.ensures.1) (λ fit. unknown_not f g all _ c.args.values.now c.args.encoder.now.rule n c.if-values-components.false e q.result w.result q.is w.is c.in_err-found.field-0.0
    (c.in_err-found.ensures.refused (subst (λ Z. Z) k (fit_from f g all _ c.args.values.now c.args.encoder.now.rule n c.if-values-components.false e q.result w.result q.is w.is c.if-is_left_out.ensures fit))))

pub set_components-loop-left-init : goal.set_components-loop-left-init
set_components-loop-left-init t c =
    let f = shape_of_type c.args.types.now c.args.below in
    let g = Fits c.args.types.now c.args.below in
    let all = c.args.components.now in
    let n = c.named_components-extensible.ensures.named in
    let x = c.named_components-extensible.ensures.extensible in
    elim c.if-extensible.branch [
      | set_components-then-extensible+else-is_left_out+in_ok-found b ↦
          let e = sym x ∙ b.if-extensible.true in
          let q = b.index-components-last in
          let w = b.index-values-last in
          let k = unknown_fits c.args.types.now c.args.below q.result.type_id.0 w.result (is_last f g all _ c.args.values.now c.args.encoder.now.rule n c.if-values-components.false e q.result w.result q.is w.is) in
          rw (b.if-extensible.true, b.found-is) (unknown_first f g all _ c.args.values.now c.args.encoder.now.rule n c.if-values-components.false e q.result w.result q.is w.is b.in_ok-found.found.items
          (inr (subst (λ Z. Z) (sym k) b.in_ok-found.ensures.ok.0)) b.in_ok-found.ensures.ok.1)
      | set_components-else-extensible b ↦ rw (b.if-extensible.false, b.found-is) (none_held f g all _ c.args.values.now c.args.encoder.now.rule n c.if-values-components.false c.new-found.result.items (sym x ∙ b.if-extensible.false) c.new-found.ensures.items)
    ]

pub set_components-loop-left-preserved : goal.set_components-loop-left-preserved
set_components-loop-left-preserved t c = holds_more (shape_of_type c.args.types.now c.args.below) (Fits c.args.types.now c.args.below) c.named_components-extensible.result.1 c.args.components.now c.named_components-extensible.result.0.now c.args.values.now c.args.encoder.now.rule
    c.loop-left.left c.loop-left.found.items _ c.index-named-left.result c.index-values-left.result c.loop-left-test.true c.loop-left.invariant c.index-named-left.is c.index-values-left.is c.in_ok-add_component.ensures.ok

pub set_components-returns-in_err-add_component-clause-refused : goal.set_components-returns-in_err-add_component-clause-refused
set_components-returns-in_err-add_component-clause-refused t c =
    rw (residual _ c.from_residual-in_err-add_component.ensures.1) (component_fails (shape_of_type c.args.types.now c.args.below) (Fits c.args.types.now c.args.below) c.named_components-extensible.result.1 c.args.components.now c.named_components-extensible.result.0.now c.args.values.now c.args.encoder.now.rule
    c.named_components-extensible.ensures.named c.named_components-extensible.ensures.extensible c.in_err-add_component.field-0.0 c.loop-left.left c.loop-left.found.items c.index-named-left.result c.index-values-left.result c.loop-left-test.true c.loop-left.invariant c.index-named-left.is c.index-values-left.is c.in_err-add_component.ensures.refused)

pub set_components-returns-clause-ok : goal.set_components-returns-clause-ok
set_components-returns-clause-ok t c = holds_all (shape_of_type c.args.types.now c.args.below) (Fits c.args.types.now c.args.below) c.named_components-extensible.result.1 c.args.components.now c.named_components-extensible.result.0.now c.args.values.now c.args.encoder.now.rule
    c.loop-left.left c.loop-left.found.items (let z = c.loop-left-test.false in omega arith) c.named_components-extensible.ensures.named c.named_components-extensible.ensures.extensible c.loop-left.invariant

pub encode_set-returns-in-Err : goal.encode_set-returns-in-Err
encode_set-returns-in-Err t c = rw c.keep.ensures (set_refused eoc (components_by (shape_of_type c.args.types.now c.args.below) c.args.components.now) (list_tree tree_of c.args.values.now) c.args.encoder.now c.in-Err.fault c.in-Err.ensures.refused c.in-Err.ensures.rules)

pub encode_set-returns-in-Ok : goal.encode_set-returns-in-Ok
encode_set-returns-in-Ok t c =
    let leaves = c.append_components.ensures.extends in
    rw c.kept.ensures (set_appended eoc (components_by (shape_of_type c.args.types.now c.args.below) c.args.components.now) (list_tree tree_of c.args.values.now) c.args.encoder.now c.requires c.append_components.new.self c.in-Ok.found.items c.in-Ok.ensures.ok
    c.append_components.result (rw (← c.deref.ensures.value) c.append_components.ensures.ok) (leaves_by _ _ leaves.octets leaves.tags leaves.appended) c.append_components.ensures.memory_alone)

use Rattle.std.proofs.Common.{◌≡◌, ◌-◌, ◌+◌, ◌++◌, ◌∷◌, [], ℕ, List, length, take, get_or, refl, sym, ap, ◌∙◌, subst, arith, Option, Some, None, Result, Ok, Err, string_bytes}
use Rattle.json.specs.Json.{object}
use Rattle.json.specs.Value.{value_view, items_view, members_view}
use Rattle.json.proofs.Trees.{view-Array, view-Object}
use Rattle.rasn_schema.specs.declared.types.Alternative.{Alternative}
use Rattle.rasn_schema.specs.Fitting.{Fits, EachFits, ComponentsFit}
use Rattle.rasn_schema.proofs.Lists.{split, nothing_left, read_at}
use Rattle.rasn_dynamic.proofs.FitsRead.{are_items, are_elements, each_more, fit_more, fit_end}
use Rattle.rasn_json.specs.Json.{unknown_in}
use Rattle.rasn_json.specs.Reading.{AreNames, IsComponentName, ReadAt, ArrayRead, ObjectRead, names_of}
use Rattle.rasn_json.proofs.ReadParts.{fits_below, read_below, read_more, read_end, each_read_more, items_read, chosen_read, EachRead}
use Rattle.std.proofs.lemmas.List.{take_more, take_all}
use Rattle.std.proofs.lemmas.Option.{slice_get_within}
use Rattle.rasn_json.proofs.Levels.{if_ok}
use Rattle.rasn_json.proofs.MemberNames.{names_seen}
use Rattle.rasn_json.proofs.reader.+read.Goals as goal

pub value_at-returns-in-Some-clause-shallow : goal.value_at-returns-in-Some-clause-shallow
value_at-returns-in-Some-clause-shallow t c = if_ok _ _ c.value_of.result (λ v h. let n = c.if-depth-ge-MAX_LEVELS.false in omega (arith, n)) c.value_of.ensures.fits

pub value_at-returns-in-Some-clause-fits : goal.value_at-returns-in-Some-clause-fits
value_at-returns-in-Some-clause-fits t c =
    if_ok _ _ c.value_of.result (λ v h. fits_below c.args.types.now (18446744073709551615 - c.args.depth) (18446744073709551615 - (c.args.depth + 1)) c.args.id.0 c.in-Some.ty.now v (let n = c.if-depth-ge-MAX_LEVELS.false in omega (arith, n)) c.in-Some.ensures h) c.value_of.ensures.fits

pub value_at-returns-in-Some-clause-reads : goal.value_at-returns-in-Some-clause-reads
value_at-returns-in-Some-clause-reads t c =
    if_ok _ _ c.value_of.result (λ v h. read_below c.args.types.now (18446744073709551615 - c.args.depth) (18446744073709551615 - (c.args.depth + 1)) c.args.id.0 c.in-Some.ty.now (value_view c.args.json.now) v (let n = c.if-depth-ge-MAX_LEVELS.false in omega (arith, n)) c.in-Some.ensures h) c.value_of.ensures.reads

pub component_values-loop-rest-preserved : goal.component_values-loop-rest-preserved
component_values-loop-rest-preserved t c =
    let at = split c.loop-rest.rest.now _ c.in-len1-up.len_at_least c.component-item.is in (
      fit_more (Fits c.args.types.now (18446744073709551615 - c.args.depth)) _ _ _ c.component-item.result c.loop-rest.values.items _ c.in_ok-value.value c.loop-rest.invariant.0 at c.in_ok-append.ensures c.in_ok-value.ensures.fits,
      read_more (unknown_in c.args.types.now) (ReadAt c.args.types.now (18446744073709551615 - c.args.depth)) _ _ _ (value_view c.args.json.now) c.component-item.result c.loop-rest.values.items _ c.in_ok-value.value c.loop-rest.invariant.1 at c.in_ok-append.ensures c.in_ok-value.ensures.reads,
    )

pub component_values-returns-clause-fits : goal.component_values-returns-clause-fits
component_values-returns-clause-fits t c = fit_end (Fits c.args.types.now (18446744073709551615 - c.args.depth)) _ _ _ c.loop-rest.invariant.0 (nothing_left _ c.in_default.len_below)

pub component_values-returns-clause-reads : goal.component_values-returns-clause-reads
component_values-returns-clause-reads t c = read_end (unknown_in c.args.types.now) (ReadAt c.args.types.now (18446744073709551615 - c.args.depth)) _ _ (value_view c.args.json.now) _ c.loop-rest.invariant.1 (nothing_left _ c.in_default.len_below)

pub object_value-returns-clause-fits : goal.object_value-returns-clause-fits
object_value-returns-clause-fits t c = are_items (ComponentsFit (Fits c.args.types.now (18446744073709551615 - c.args.depth)) c.args.components.now) c.in_ok-values.values c.in_ok-values.ensures.fits

pub object_value-returns-clause-reads : goal.object_value-returns-clause-reads
object_value-returns-clause-reads t c =
    let l = c.in-Object.members.items in
    let names = subst (AreNames (IsComponentName c.args.components.now)) (sym (names_seen l)) (subst (λ x. AreNames (IsComponentName c.args.components.now) (names_of x)) c.as_slice.ensures.value c.in_ok-check_names.ensures) in
    are_items (ObjectRead (unknown_in c.args.types.now) (ReadAt c.args.types.now (18446744073709551615 - c.args.depth)) c.args.components.now (value_view c.args.json.now)) c.in_ok-values.values
    (_, ap value_view c.in-Object.is ∙ view-Object c.in-Object.members, names, c.in_ok-values.ensures.reads)

pub chosen_value-returns-in-Ok-new-clause-fits : goal.chosen_value-returns-in-Ok-new-clause-fits
chosen_value-returns-in-Ok-new-clause-fits t c =
    let n = c.in-Some.ensures.0 in (
      c.index-alternatives-index.result,
      read_at c.args.alternatives.now c.in-Some.index c.index-alternatives-index.result (slice_get_within c.args.alternatives.now c.in-Some.index n.0 (sym n.1)) c.index-alternatives-index.is,
      subst (Fits c.args.types.now (18446744073709551615 - c.args.depth) c.index-alternatives-index.result.type_id.0) (sym c.in-Ok-new.ensures.ok)
          (subst (λ (a : Alternative). Fits c.args.types.now (18446744073709551615 - c.args.depth) a.type_id.0 c.in-Ok.value) (sym c.index-alternatives-index.is) c.in-Ok.ensures.fits),
    )

pub chosen_value-returns-in-Ok-new-clause-reads : goal.chosen_value-returns-in-Ok-new-clause-reads
chosen_value-returns-in-Ok-new-clause-reads t c =
    let l = c.as_slice.result.now in
    let ks = c.args.alternatives.now in
    let i = c.in-Some.index in
    chosen_read (ReadAt c.args.types.now (18446744073709551615 - c.args.depth)) ks i _ c.in-Ok.value (value_view c.args.json.now) l (get_or l 0 c.index-name-0.result) (get_or l 0 c.index-member-0.result) (get_or ks i c.index-alternatives-index.result)
    (ap value_view c.in-Object.is ∙ (view-Object c.in-Object.members ∙ ap (λ x. object (members_view x)) (sym c.as_slice.ensures.value))) c.in-len1.len_at_least c.in-len1.len_below
    (ap (λ x. get_or l 0 x) c.index-name-0.is) (ap (λ x. get_or l 0 x) c.index-member-0.is) c.in-Some.ensures.0 c.in-Some.ensures.1 (ap (λ x. get_or ks i x) c.index-alternatives-index.is) c.in-Ok.ensures.reads c.in-Ok-new.ensures.ok

pub element_values-loop-index-preserved : goal.element_values-loop-index-preserved
element_values-loop-index-preserved t c =
    let i = c.loop-index.index in
    let l = c.args.items.now in
    let x = c.index-items-index.result in (
      each_more (Fits c.args.types.now (18446744073709551615 - c.args.depth) c.args.element.0) c.loop-index.values.items _ c.in-Ok.value c.in_ok-append-in-Ok.ensures c.loop-index.invariant.0 c.in-Ok.ensures.fits,
      each_read_more (ReadAt c.args.types.now (18446744073709551615 - c.args.depth) c.args.element.0) (take i l) _ x c.loop-index.values.items _ c.in-Ok.value c.loop-index.invariant.1 c.in-Ok.ensures.reads (take_more l i x (omega arith) ∙ ap (λ y. take i l ++ y ∷ []) (sym c.index-items-index.is)) c.in_ok-append-in-Ok.ensures,
    )

pub element_values-returns-clause-reads : goal.element_values-returns-clause-reads
element_values-returns-clause-reads t c =
    let i = c.loop-index.index in
    let l = c.args.items.now in
    items_read (ReadAt c.args.types.now (18446744073709551615 - c.args.depth) c.args.element.0) l c.loop-index.values.items (subst (λ x. EachRead (ReadAt c.args.types.now (18446744073709551615 - c.args.depth) c.args.element.0) x c.loop-index.values.items) (take_all i l (omega arith)) c.loop-index.invariant.1)

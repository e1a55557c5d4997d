use Rattle.std.proofs.Common.{arith, inl, inr, ◌∷◌, [], ◌++◌, ◌+◌, length, length-append, append_assoc, refl, sym, ap, ◌∙◌, subst}
use Rattle.std.proofs.lemmas.Result.{IfOk-weaker}
use Rattle.rasn_schema.specs.declared.type_id.TypeId.{TypeId}
use Rattle.rasn_schema.specs.Shapes.{shape_of_type, components_by, AreReadable}
use Rattle.rasn_schema.proofs.Lists.{split, nothing_left}
use Rattle.rasn_dynamic.proofs.Faults.{one_part_more}
use Rattle.rasn_dynamic.proofs.Parts.{option_weaker}
use Rattle.rasn_dynamic.proofs.find.go_to_component.Goals as goal

pub returns-then-leaves_all_out : goal.returns-then-leaves_all_out
returns-then-leaves_all_out c = record {
  found = inl c.if-leaves_all_out.ensures;
}

pub loop-rest-init : goal.loop-rest-init
loop-rest-init c = (c.requires.lawful, omega arith, [], refl, refl, refl)

pub returns-then-number-index : goal.returns-then-number-index
returns-then-number-index c = record {
  found =
      let i = c.loop-rest.invariant in
      let at = split c.loop-rest.rest.now _ c.in-len1-up.len_at_least c.component-item.is in
      let e = i.3 ∙ ap (λ l. i.2 ++ l) at in
      let l = i.4 ∙ c.if-number-index.true in
      IfOk-weaker c.component_here.result _ _ (λ r w. option_weaker r _ _ _ _ (λ absent. inr (inr (i.2, c.component-item.result, _, c.loop-rest.decoder, e, l, i.5, absent))) (λ id same. (i.2, c.component-item.result, _, e, l, ap (λ (z : TypeId). z.0) same, i.5)) w) c.component_here.ensures;
}

pub component_here-requires : goal.component_here-requires
component_here-requires c = record {
  lawful =
      let at = split c.loop-rest.rest.now _ c.in-len1-up.len_at_least c.component-item.is in
      (subst AreReadable (ap (components_by (shape_of_type c.args.types.now c.args.below)) at) c.loop-rest.invariant.0).0;
}

pub pass_component-requires : goal.pass_component-requires
pass_component-requires c = record {
  lawful =
      let at = split c.loop-rest.rest.now _ c.in-len1-up.len_at_least c.component-item.is in
      (subst AreReadable (ap (components_by (shape_of_type c.args.types.now c.args.below)) at) c.loop-rest.invariant.0).0;
}

pub loop-rest-preserved : goal.loop-rest-preserved
loop-rest-preserved c =
    let i = c.loop-rest.invariant in
    let w = c.in_ok-pass_component.ensures in
    let at = split c.loop-rest.rest.now _ c.in-len1-up.len_at_least c.component-item.is in (
      (subst AreReadable (ap (components_by (shape_of_type c.args.types.now c.args.below)) at) i.0).1,
      omega (arith, i.1, c.if-number-index.false),
      i.2 ++ c.component-item.result ∷ [],
      i.3 ∙ ap (λ l. i.2 ++ l) at ∙ sym (append_assoc i.2 (c.component-item.result ∷ []) _),
      length-append i.2 (c.component-item.result ∷ []) ∙ ap (λ n. n + 1) i.4,
      one_part_more (shape_of_type c.args.types.now c.args.below) i.2 c.component-item.result c.args.decoder.now c.loop-rest.decoder _ w.0 i.5 w.1,
    )

pub returns : goal.returns
returns c = record {
  found =
      let i = c.loop-rest.invariant in
      let n = ap length i.3 ∙ length-append i.2 c.loop-rest.rest.now in
      let z = ap length (nothing_left _ c.in_default.len_below) in
      inr (inl (omega (arith, n, z, i.4, i.1)));
}

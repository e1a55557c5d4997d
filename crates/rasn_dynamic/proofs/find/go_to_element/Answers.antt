use Rattle.std.proofs.Common.{arith, ◌∷◌, [], ◌++◌, ◌+◌, length-append, refl, ap, ◌∙◌}
use Rattle.rasn_de.proofs.Constructed.NextElement.{passes_more}
use Rattle.rasn_schema.specs.Shapes.{shape_of_type}
use Rattle.rasn_dynamic.specs.Inside.{DecodesTree}
use Rattle.rasn_dynamic.proofs.Parts.{shorter}
use Rattle.rasn_dynamic.proofs.find.go_to_element.Goals as goal

pub loop-element-init : goal.loop-element-init
loop-element-init c = (omega arith, [], refl, refl)

pub returns-then-number-index : goal.returns-then-number-index
returns-then-number-index c = record {
  found =
      let i = c.loop-element.invariant in
      (refl, i.1, i.2 ∙ c.if-number-index.true, i.3, c.loop-element-test.ensures);
}

pub loop-element-smaller : goal.loop-element-smaller
loop-element-smaller c =
    let w = c.in_ok-pass_element.ensures in
    shorter _ _ w.1.end w.2

pub loop-element-preserved : goal.loop-element-preserved
loop-element-preserved c =
    let i = c.loop-element.invariant in
    let w = c.in_ok-pass_element.ensures in (
      omega (arith, i.0, c.if-number-index.false),
      i.1 ++ w.0 ∷ [],
      length-append i.1 (w.0 ∷ []) ∙ ap (λ n. n + 1) i.2,
      passes_more (DecodesTree (shape_of_type c.args.types.now c.args.below c.args.element.0)) c.loop-element.decoder _ w.0 c.loop-element-test.ensures w.1 w.2 c.args.decoder.now i.1 _ refl i.3,
    )

pub returns : goal.returns
returns c = record {
  found =
      let i = c.loop-element.invariant in
      (i.1, c.loop-element.decoder, i.3, c.loop-element-test.ensures, omega (arith, i.2, i.0));
}

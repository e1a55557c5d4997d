use Rattle.std.proofs.Common.{◌∷◌, ◌∙◌, length, Vec, refl, sym, ap, arith, length-append}
use Rattle.std.specs.Global.{Global}
use Rattle.rasn_dynamic.specs.declared.span.Span.{Span}
use Rattle.rasn_dynamic.proofs.Listed.{same_list, is_finished}
use Rattle.rasn_dynamic.proofs.span.finish.Goals as goal

pub returns-then-place-len : goal.returns-then-place-len
returns-then-place-len c =
    (refl, refl, λ m q. (c.in-Some.list, c.in-Some.is, (λ far. ap (λ (v : Vec Span Global). v.items) (same_list m c.in-Some.list (sym q))), λ front e more is at. absurd (let n = ap length is ∙ length-append front (e ∷ more) in omega (arith, n, at, c.len.ensures, c.if-place-len.true))))

pub returns : goal.returns
returns c = (
  refl,
  refl,
  λ m q. (
    c.in-Some.list,
    c.in-Some.is,
    (λ far. absurd (let k = c.in-Some.list.ok.0 in omega (arith, k, far, c.len.ensures, c.if-place-len.false))),
    λ front e more is at.
        let w = is_finished c.args.place c.args.rest.now c.in-Some.list.items c.index_mut-part.result.now c.cut-part.result c.index_mut-part.ensures.value c.cut-part.ensures front e more is at in
        (w.0, sym (ap (λ (v : Vec Span Global). v.items) (same_list _ m q)) ∙ w.1, w.2, w.3, w.4, w.5, w.6),
  ),
)

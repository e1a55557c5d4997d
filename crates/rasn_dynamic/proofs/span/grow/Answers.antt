use Rattle.std.proofs.Common.{◌<◌, ◌≡◌, Vec, refl, subst, arith}
use Rattle.std.specs.Vec.{vec_len, vec_capacity}
use Rattle.std.specs.Global.{Global}
use Rattle.rasn_dynamic.specs.declared.span.Span.{Span}
use Rattle.rasn_dynamic.proofs.Listed.{same_list}
use Rattle.rasn_dynamic.proofs.span.grow.Goals as goal

pub returns-in-Ok : goal.returns-in-Ok
returns-in-Ok c = (
  refl,
  refl,
  λ m q. (
    c.in-Some.list,
    c.in-Some.is,
    subst (λ (v : Vec Span Global). v.items ≡ c.in-Some.list.items) (same_list _ m q) c.in-Ok.ensures.items,
    subst (λ (v : Vec Span Global). vec_len v < vec_capacity v) (same_list _ m q) (omega (arith, c.in-Ok.ensures.ok)),
  ),
)

use Rattle.std.proofs.Common.{◌<◌, ◌∙◌, Vec, refl, sym, subst, arith}
use Rattle.std.specs.Vec.{vec_len, vec_capacity}
use Rattle.std.specs.Global.{Global}
use Rattle.rasn_dynamic.specs.declared.span.Span.{Span}
use Rattle.rasn_dynamic.proofs.Listed.{same_list}
use Rattle.rasn_dynamic.proofs.span.make_room.Goals as goal

pub returns-else-len-capacity : goal.returns-else-len-capacity
returns-else-len-capacity c = (
  refl,
  refl,
  λ m q. (m, q, refl, subst (λ (v : Vec Span Global). vec_len v < vec_capacity v) (same_list c.in-Some.list m (sym c.in-Some.is ∙ q)) (omega (arith, c.len.ensures, c.capacity.ensures, c.if-len-capacity.false))),
)

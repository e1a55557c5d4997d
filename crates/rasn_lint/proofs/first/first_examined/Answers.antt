use Rattle.std.proofs.Common.{[], length, subst}
use Rattle.rasn_lint.specs.Lint.{IsFirstOr}
use Rattle.rasn_lint.proofs.Clean.{open_first}
use Rattle.rasn_lint.proofs.first.first_examined.Goals as goal

pub returns : goal.returns
returns c =
    open_first c.args.schema.now.types.items c.args.id.0 c.args.octets.now c.in-Ok.parts c.in-Ok.ensures.parts c.in_default.ensures c.as_slice.result.now c.as_slice.ensures.value
    (subst (λ r. IsFirstOr c.args.schema.now.types.items (length c.args.octets.now) [] c.as_slice.result.now r) c.in-None.is c.in_ok-first_inside.ensures)

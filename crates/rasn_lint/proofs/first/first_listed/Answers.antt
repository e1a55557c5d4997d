use Rattle.std.proofs.Common.{[], ap, ◌∙◌, length, subst}
use Rattle.rasn_lint.specs.Lint.{IsFirstOr, rest_after}
use Rattle.rasn_lint.proofs.Clean.{if_then, listed_parts, parts_first}
use Rattle.rasn_lint.proofs.first.first_listed.Goals as goal

pub returns : goal.returns
returns c =
    let at = c.rest_after-rest.ensures ∙ ap (λ z. rest_after z c.args.octets.now) c.as_slice-all.ensures.value in
    if_then c.first_inside.result
    (λ r h. parts_first c.args.schema.now.types.items c.args.id.0 c.args.octets.now c.in-Ok.parts.list.items c.rest_after-rest.result.now
    (listed_parts c.args.schema.now.types.items c.args.id.0 c.args.octets.now c.in-Ok.parts c.rest_after-rest.result.now c.in-Ok.ensures.parts at) c.in_default-remainder_refusal.ensures r
    (subst (λ z. IsFirstOr c.args.schema.now.types.items (length c.args.octets.now) [] z r) c.as_slice-all.ensures.value h))
    c.first_inside.ensures

use Rattle.std.proofs.Common.{ap, ◌∙◌}
use Rattle.std.specs.Prelude.{slice_get}
use Rattle.rasn_schema.proofs.Lists.{nothing_left, not_empty}
use Rattle.rasn_dynamic.proofs.LeadsTo.{no_way, nowhere, found, not_found, no_part, next_alike, no_path, weaker, is_empty, looked_up}
use Rattle.rasn_dynamic.proofs.Ways.{first_item}
use Rattle.rasn_dynamic.proofs.leads_to.component_at.Goals as goal

pub returns-in_err-ty : goal.returns-in_err-ty
returns-in_err-ty c = rw c.from_residual.ensures (λ p. no_way _ _ _ _ _ _ _ (first_item c.loop-rest.rest.now 0 c.in-len1-up.len_at_least) c.loop-rest.invariant p (λ q. nowhere _ q _ _ _ (c.in_err-ty.ensures ∙ ap (λ z. slice_get z c.loop-rest.id.0) c.types.ensures.types)))

pub returns-then-is_empty : goal.returns-then-is_empty
returns-then-is_empty c =
    let e = first_item c.loop-rest.rest.now 0 c.in-len1-up.len_at_least in
    let n = is_empty _ c.if-is_empty.ensures in
    weaker c.component_of.result _ _ _ _
    (λ h p. not_found _ _ _ _ _ _ _ e c.loop-rest.invariant _ (c.in_ok-ty.ensures ∙ ap (λ z. slice_get z c.loop-rest.id.0) c.types.ensures.types) p n (h p))
    (λ p. found _ _ _ _ _ _ _ e c.loop-rest.invariant _ (c.in_ok-ty.ensures ∙ ap (λ z. slice_get z c.loop-rest.id.0) c.types.ensures.types) p.now n) (looked_up _ _ c.component_of.ensures)

pub returns-in_err-id : goal.returns-in_err-id
returns-in_err-id c = rw c.from_residual-in_err-id.ensures (λ p. no_part _ _ _ _ _ _ _ (first_item c.loop-rest.rest.now 0 c.in-len1-up.len_at_least) c.loop-rest.invariant _ (c.in_ok-ty.ensures ∙ ap (λ z. slice_get z c.loop-rest.id.0) c.types.ensures.types) p (not_empty _ c.if-is_empty.ensures) c.in_err-id.ensures)

pub loop-rest-preserved : goal.loop-rest-preserved
loop-rest-preserved c = next_alike _ _ _ _ _ _ _ (first_item c.loop-rest.rest.now 0 c.in-len1-up.len_at_least) c.loop-rest.invariant _ (c.in_ok-ty.ensures ∙ ap (λ z. slice_get z c.loop-rest.id.0) c.types.ensures.types) _ (not_empty _ c.if-is_empty.ensures) c.in_ok-id.ensures

pub returns : goal.returns
returns c = no_path _ _ _ _ _ (nothing_left _ c.in_default.len_below) c.loop-rest.invariant

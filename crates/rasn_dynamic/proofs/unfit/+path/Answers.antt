use Rattle.std.proofs.Common.{◌-◌, [], ◌∷◌, sym, subst, append-nil, arith}
use Rattle.std.proofs.lemmas.Result.{on_ok_weaker}
use Rattle.rasn_schema.specs.Fitting.{Fits, FitsBy}
use Rattle.rasn_dynamic.specs.Unfit.{IsUnfitAt}
use Rattle.rasn_dynamic.proofs.UnfitParts.{unfit_zero, unfit_none, type_unfit, path_of_type, path_ends, path_goes_on, longer}
use Rattle.rasn_dynamic.proofs.unfit.+path.Goals as goal

pub append_unfit_path-returns-then-levels-eq0 : goal.append_unfit_path-returns-then-levels-eq0
append_unfit_path-returns-then-levels-eq0 t c = ([], sym (append-nil _), unfit_zero c.args.types.now c.args.levels c.args.id.0 c.args.value.now c.if-levels-eq0.true)

pub append_unfit_path-returns-in-None : goal.append_unfit_path-returns-in-None
append_unfit_path-returns-in-None t c = ([], sym (append-nil _), unfit_none c.args.types.now c.args.levels c.args.id.0 c.args.value.now c.in-None.ensures)

pub append_unfit_path-append_path_in-requires : goal.append_unfit_path-append_path_in-requires
append_unfit_path-append_path_in-requires t c = (let n = c.if-levels-eq0.false in omega arith, type_unfit c.args.types.now c.args.levels (c.args.levels - 1) c.args.id.0 c.in-Some.ty.now c.args.value.now (let n = c.if-levels-eq0.false in omega arith) c.in-Some.ensures c.requires)

pub append_unfit_path-returns-in-Some : goal.append_unfit_path-returns-in-Some
append_unfit_path-returns-in-Some t c = on_ok_weaker c.append_path_in.result (λ p. (p.0, p.1, path_of_type c.args.types.now c.args.levels (c.args.levels - 1) c.args.id.0 c.in-Some.ty.now c.args.value.now p.0 (let n = c.if-levels-eq0.false in omega arith) c.in-Some.ensures p.2)) c.append_path_in.ensures

pub append_path_in-append_unfit_path-requires : goal.append_path_in-append_unfit_path-requires
append_path_in-append_unfit_path-requires t c = (omega arith, subst (λ ty. FitsBy (Fits c.args.types.now c.args.below) ty c.args.value.now → ⊥) c.in-Tagged.is c.requires)

pub append_path_in-returns-in-Tagged : goal.append_path_in-returns-in-Tagged
append_path_in-returns-in-Tagged t c = rw c.in-Tagged.is c.append_unfit_path.ensures

pub append_path_in-returns-in-None : goal.append_path_in-returns-in-None
append_path_in-returns-in-None t c = ([], sym (append-nil _), path_ends (IsUnfitAt c.args.types.now c.args.below) c.args.ty.now c.args.value.now (λ tag k. c.in_default.not-Tagged tag k) c.in-None.ensures)

pub append_path_in-returns-in_ok-push-in-Some : goal.append_path_in-returns-in_ok-push-in-Some
append_path_in-returns-in_ok-push-in-Some t c = on_ok_weaker c.append_unfit_path-in-Some.result (λ p. (c.in-Some.part.index ∷ p.0, longer _ _ _ _ p.0 c.in_ok-push-in-Some.ensures.items p.1, path_goes_on (IsUnfitAt c.args.types.now c.args.below) c.args.ty.now c.args.value.now (λ tag k. c.in_default.not-Tagged tag k) _ _ _ p.0 c.in-Some.ensures.0 p.2)) c.append_unfit_path-in-Some.ensures

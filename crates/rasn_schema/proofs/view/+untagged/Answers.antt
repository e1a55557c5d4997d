use Rattle.std.proofs.Common.{◌≡◌, None, Some, subst, arith}
use Rattle.std.specs.Prelude.{slice_get}
use Rattle.rasn_schema.specs.declared.types.«Type».{«Type»}
use Rattle.rasn_schema.proofs.Untagged.{not_tagged, inside_none, inside_here, found_inside, tags_end}
use Rattle.rasn_schema.proofs.view.+untagged.Goals as goal

pub returns-in_err-ty : goal.returns-in_err-ty
returns-in_err-ty t c = rw c.from_residual.ensures (inside_none c.args.schema.now.types.items c.args.id.0 (subst (λ l. None ≡ slice_get l c.args.id.0) c.types.ensures.types c.in_err-ty.ensures))

pub untagged-requires : goal.untagged-requires
untagged-requires t c =
    let e = subst (λ (x : «Type»). Some x ≡ slice_get c.args.schema.now.types.items c.args.id.0) c.in-Tagged.is (subst (λ l. Some c.in_ok-ty.ty.now ≡ slice_get l c.args.id.0) c.types.ensures.types c.in_ok-ty.ensures) in
    let h = tags_end c.args.schema.now.types.items c.args.schema.now.lawful c.args.id.0 c.in-Tagged.tag c.in-Tagged.inner e in
    (omega (arith, h), tt)

pub returns-in-Tagged : goal.returns-in-Tagged
returns-in-Tagged t c =
    let e = subst (λ (x : «Type»). Some x ≡ slice_get c.args.schema.now.types.items c.args.id.0) c.in-Tagged.is (subst (λ l. Some c.in_ok-ty.ty.now ≡ slice_get l c.args.id.0) c.types.ensures.types c.in_ok-ty.ensures) in
    found_inside c.args.schema.now.types.items c.args.id.0 c.in-Tagged.tag c.in-Tagged.inner e c.untagged.result c.untagged.ensures

pub returns-in_default : goal.returns-in_default
returns-in_default t c = inside_here c.args.schema.now.types.items c.args.id.0 c.in_ok-ty.ty.now (subst (λ l. Some c.in_ok-ty.ty.now ≡ slice_get l c.args.id.0) c.types.ensures.types c.in_ok-ty.ensures)
    (not_tagged c.in_ok-ty.ty.now c.in_default.not-Tagged)

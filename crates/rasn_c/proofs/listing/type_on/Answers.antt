use Rattle.std.proofs.Common.{arith, ap, refl, subst, sym, ◌∙◌}
use Rattle.std.specs.Prelude.{slice_get}
use Rattle.std.proofs.lemmas.List.{drop_all, drop_more}
use Rattle.rasn_c.specs.Listing.{Leads}
use Rattle.rasn_c.proofs.PartNames.{LeadsOn, goes_on, goes_nowhere, goes_to_none}
use Rattle.rasn_c.proofs.listing.type_on.Goals as goal

pub returns-in_err-part_type : goal.returns-in_err-part_type
returns-in_err-part_type c =
    let types = c.args.schema.now.types.items in
    let path = c.args.path.now in
    let here = c.loop-index.ty.now in
    rw c.from_residual-in_err-part_type.ensures (λ ty. goes_nowhere types c.args.id.0 _ path _ here (sym c.in_err-part_type.ensures)
    (subst (LeadsOn types c.args.id.0 path here) (drop_more path c.loop-index.index-index 0 c.loop-index-test.true) c.loop-index.invariant) ty)

pub returns-in_err-ty-2 : goal.returns-in_err-ty-2
returns-in_err-ty-2 c =
    let types = c.args.schema.now.types.items in
    let path = c.args.path.now in
    let here = c.loop-index.ty.now in
    rw c.from_residual-in_err-ty-2.ensures (λ ty. goes_to_none types c.args.id.0 _ path _ here c.in_ok-part_type.field-0 (sym c.in_ok-part_type.ensures)
    (sym (c.in_err-ty-2.ensures ∙ ap (λ z. slice_get z c.in_ok-part_type.field-0.0) c.types-in-loop-index.ensures.types))
    (subst (LeadsOn types c.args.id.0 path here) (drop_more path c.loop-index.index-index 0 c.loop-index-test.true) c.loop-index.invariant) ty)

pub loop-index-preserved : goal.loop-index-preserved
loop-index-preserved c =
    let types = c.args.schema.now.types.items in
    let path = c.args.path.now in
    let here = c.loop-index.ty.now in
    goes_on types c.args.id.0 _ path _ here c.in_ok-ty-2.ty.now c.in_ok-part_type.field-0 (sym c.in_ok-part_type.ensures)
    (sym (c.in_ok-ty-2.ensures ∙ ap (λ z. slice_get z c.in_ok-part_type.field-0.0) c.types-in-loop-index.ensures.types))
    (subst (LeadsOn types c.args.id.0 path here) (drop_more path c.loop-index.index-index 0 c.loop-index-test.true) c.loop-index.invariant)

pub returns : goal.returns
returns c =
    let here = c.loop-index.ty.now in
    (c.loop-index.invariant here).0 (subst (λ l. Leads c.args.schema.now.types.items here l here) (sym (drop_all c.loop-index.index-index c.args.path.now c.loop-index-test.false)) refl)

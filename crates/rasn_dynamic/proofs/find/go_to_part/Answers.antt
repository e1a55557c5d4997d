use Rattle.std.proofs.Common.{arith, ◌-◌, sym, subst}
use Rattle.rasn_schema.specs.Shapes.{shape_of_type, IsReadable}
use Rattle.rasn_schema.proofs.TypeShapes.{shape_below}
use Rattle.rasn_dynamic.proofs.Parts.{leads_one, lawful_part, part_keeps, seen_through, seen_end, if_some, if_none}
use Rattle.rasn_dynamic.proofs.find.go_to_part.Goals as goal

pub go_inside-requires : goal.go_inside-requires
go_inside-requires c = record {
  lawful =
      subst IsReadable (shape_below c.args.types.now c.args.place.now.levels (c.args.place.now.levels - 1) c.args.place.now.id.0 c.in-Some.ty.now (let n = c.if-place-eq0.false in omega arith) c.in-Some.ensures) c.requires.lawful;
}

pub returns-in-Some-2-clause-found : goal.returns-in-Some-2-clause-found
returns-in-Some-2-clause-found c =
    let part = if_some _ _ _ _ c.in-Some-2.is c.in_ok-id.ensures.found in
    leads_one c.args.types.now c.args.place.now.levels c.args.place.now.id.0 (c.args.place.now.levels - 1) c.args.index c.in-Some.ty.now c.args.place.now.decoder _ _ _ (let n = c.if-place-eq0.false in omega arith) (sym c.in-Some.ensures) c.in_ok-enter.ensures.entered part

pub returns-in-Some-2-clause-seen : goal.returns-in-Some-2-clause-seen
returns-in-Some-2-clause-seen c = λ e.
    let part = if_some _ _ _ _ c.in-Some-2.is c.in_ok-id.ensures.found in
    seen_through _ _ _ _ _ _ c.in_ok-enter.ensures.seen (seen_end _ _ _ (part_keeps (shape_of_type c.args.types.now (c.args.place.now.levels - 1)) c.in-Some.ty.now _ c.args.index _ _ part).1)

pub returns-in-Some-2-clause-lawful : goal.returns-in-Some-2-clause-lawful
returns-in-Some-2-clause-lawful c = λ e.
    let part = if_some _ _ _ _ c.in-Some-2.is c.in_ok-id.ensures.found in
    let whole = subst IsReadable (shape_below c.args.types.now c.args.place.now.levels (c.args.place.now.levels - 1) c.args.place.now.id.0 c.in-Some.ty.now (let n = c.if-place-eq0.false in omega arith) c.in-Some.ensures) c.requires.lawful in
    lawful_part (shape_of_type c.args.types.now (c.args.place.now.levels - 1)) c.in-Some.ty.now whole _ c.args.index _ _ part

pub returns-in-None-clause-found : goal.returns-in-None-clause-found
returns-in-None-clause-found c =
    ((c.args.place.now.levels - 1), (let n = c.if-place-eq0.false in omega arith), c.in-Some.ty.now, sym c.in-Some.ensures, _, c.in_ok-enter.ensures.entered, if_none _ _ _ c.in-None.is c.in_ok-id.ensures.found)

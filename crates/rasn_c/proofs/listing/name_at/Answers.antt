use Rattle.rasn_c.proofs.PartNames.{named, nowhere}
use Rattle.rasn_c.proofs.listing.name_at.Goals as goal

pub returns-in_err-outer : goal.returns-in_err-outer
returns-in_err-outer c =
    rw c.from_residual-in_err-outer.ensures (λ name. nowhere c.args.schema.now.types.items c.args.id.0 c.in_ok-last.last.now c.args.path.now c.in_ok-last.front.now name c.in_ok-last.ensures.cases.0 c.in_err-outer.ensures)

pub returns : goal.returns
returns c = named c.args.schema.now.types.items c.args.id.0 c.in_ok-last.last.now c.args.path.now c.in_ok-last.front.now c.in_ok-outer.outer.now c.part_name.result c.in_ok-last.ensures.cases.0 c.in_ok-outer.ensures c.part_name.ensures

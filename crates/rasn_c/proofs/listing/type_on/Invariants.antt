use Rattle.std.proofs.Common.{drop}
use Rattle.rasn_c.proofs.PartNames.{LeadsOn}
use Rattle.rasn_c.proofs.listing.type_on.Given as goal

abbrev pub invariant-loop-index : goal.invariant-loop-index
invariant-loop-index l = LeadsOn l.schema.types.items l.fn.id.0 l.path l.ty (drop l.index-index l.path)

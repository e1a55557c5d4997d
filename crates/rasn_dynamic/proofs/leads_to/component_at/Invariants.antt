use Rattle.std.proofs.Common.{length}
use Rattle.rasn_dynamic.proofs.LeadsTo.{LeadAlike}
use Rattle.rasn_dynamic.proofs.leads_to.component_at.Given as goal

abbrev pub invariant-loop-rest : goal.invariant-loop-rest
invariant-loop-rest l = LeadAlike l.schema.types.items l.fn.id.0 l.path l.id.0 l.rest

abbrev pub decreases-loop-rest : goal.decreases-loop-rest
decreases-loop-rest l = length l.rest

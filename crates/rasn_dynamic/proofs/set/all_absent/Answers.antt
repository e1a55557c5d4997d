use Rattle.std.proofs.Common.{ap, length, ◌∙◌}
use Rattle.rasn_de.proofs.Leaves.Returns.{residual}
use Rattle.rasn_dynamic.proofs.Pieces.{as_many_nones, all_settled, only_memory_lacks}
use Rattle.rasn_dynamic.proofs.set.all_absent.Goals as goal

pub gather-requires : goal.gather-requires
gather-requires g c = ap length c.in_ok-found.ensures.ok ∙ as_many_nones c.args.components.now

pub returns-clause-settled : goal.returns-clause-settled
returns-clause-settled g c = all_settled _ c.args.components.now c.in_ok-found.found.items c.in_ok-found.ensures.ok _ c.gather.result c.gather.ensures.gathers

pub returns-clause-memory : goal.returns-clause-memory
returns-clause-memory g c = only_memory_lacks _ c.args.components.now c.requires c.in_ok-found.found.items c.in_ok-found.ensures.ok _ c.gather.result c.gather.ensures.gathers

pub returns-in_err-found-clause-memory : goal.returns-in_err-found-clause-memory
returns-in_err-found-clause-memory g c = rw (residual _ c.from_residual.ensures.1) c.in_err-found.ensures.err

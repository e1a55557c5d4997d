use Rattle.rasn.proofs.Normalised.{is_canonical, not_canonical}
use Rattle.rasn_dynamic.proofs.entry.is_canonical.Goals as goal

pub returns-in-Ok : goal.returns-in-Ok
returns-in-Ok c = is_canonical c.eq.result c.in-Ok.ensures.normal c.as_slice.ensures.value c.eq.ensures

pub returns-else-is_out_of_memory : goal.returns-else-is_out_of_memory
returns-else-is_out_of_memory c = not_canonical c.in-Err.error c.in-Err.ensures.fails c.is_out_of_memory.ensures c.if-is_out_of_memory.false

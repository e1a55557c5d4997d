use Rattle.std.proofs.Common.{length}
use Rattle.rasn_enc.proofs.Constructed.Order.{Same}
use Rattle.rasn_enc.proofs.ber.enc.writer.kept_tags.tags_out_of_order.Given as goal

abbrev pub invariant-loop-rest : goal.invariant-loop-rest
invariant-loop-rest l = Same l.tags l.rest

abbrev pub decreases-loop-rest : goal.decreases-loop-rest
decreases-loop-rest l = length l.rest

use Rattle.rasn_c.proofs.Stops.{stops}
use Rattle.rasn_c.proofs.reasons.CallStop.of_refusal.Goals as goal

pub returns-in-Ok : goal.returns-in-Ok
returns-in-Ok c = stops _ _ _ _ c.of_text.result c.reason_of-reason.result _ c.in-Ok.path_length c.if-is_out_of_memory.ensures c.in-Ok.ensures c.reason_of-reason.ensures c.of_text.ensures.status c.of_text.ensures.reason c.of_text.ensures.text

use Rattle.rasn_de.proofs.OwnTypes.Parts.{call_keeps, keeps_then}
use Rattle.rasn_tests.proofs.sequence.closures.fn.read_past_a_refusal.decode_sequence.Goals as goal

pub returns-in_err-number : goal.returns-in_err-number
returns-in_err-number c = keeps_then (call_keeps c.decode_bool.ensures.reads) (call_keeps c.in_err-number.ensures.reads)

pub returns : goal.returns
returns c = keeps_then (call_keeps c.decode_bool.ensures.reads) (call_keeps c.in_ok-number.ensures.reads)

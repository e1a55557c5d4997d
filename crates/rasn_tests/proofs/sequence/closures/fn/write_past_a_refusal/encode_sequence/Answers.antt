use Rattle.rasn_types.specs.Trees.{unconstrained}
use Rattle.rasn_enc.proofs.OwnTypes.Sequence.{call_keeps, keeps_then}
use Rattle.rasn_tests.proofs.sequence.closures.fn.write_past_a_refusal.encode_sequence.Goals as goal

pub returns : goal.returns
returns c = keeps_then (call_keeps _ _ _ c.encode_octet_string.ensures.ok c.encode_octet_string.ensures.err) (call_keeps _ _ _ (c.encode_bool.ensures.ok unconstrained) c.encode_bool.ensures.err)

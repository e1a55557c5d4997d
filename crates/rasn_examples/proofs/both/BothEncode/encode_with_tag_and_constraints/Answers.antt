use Rattle.std.proofs.Common.{rules}
use Rattle.rasn_enc.proofs.OwnTypes.Sequence.{sequence_ok, sequence_refused}
use Rattle.rasn_examples.proofs.both.BothEncode.encode_with_tag_and_constraints.Goals as goal

pub returns-clause-ok : goal.returns-clause-ok
returns-clause-ok g c = sequence_ok _ _ _ _ _ _ _ _ c.encode_sequence.ensures.ok (λ u k. search rules)

pub returns-clause-refused : goal.returns-clause-refused
returns-clause-refused g c = sequence_refused _ _ _ _ _ _ _ c.encode_sequence.ensures.refused (λ e u k. search rules)

use Rattle.std.proofs.Common.{rules}
use Rattle.rasn_enc.proofs.OwnTypes.Set.{set_ok, set_refused}
use Rattle.rasn_examples.proofs.event.EventEncode.encode_with_tag_and_constraints.Goals as goal

pub returns-clause-ok : goal.returns-clause-ok
returns-clause-ok c = set_ok _ _ _ _ _ _ _ _ c.encode_set.ensures.ok (λ u k. search rules)

pub returns-clause-refused : goal.returns-clause-refused
returns-clause-refused c = set_refused _ _ _ _ _ _ _ c.encode_set.ensures.refused (λ r u k. search rules)

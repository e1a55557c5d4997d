use Rattle.std.proofs.Common.{rules}
use Rattle.rasn_enc.proofs.Constructed.Any.{none_encoded, untagged_encoded, round_encoded}
use Rattle.rasn_enc.proofs.ber.enc.Encoder.encode_open.Goals as goal

pub returns-then-is_empty-clause-ok : goal.returns-then-is_empty-clause-ok
returns-then-is_empty-clause-ok c = none_encoded _ _ _ (search rules)

pub returns-then-eq-clause-ok : goal.returns-then-eq-clause-ok
returns-then-eq-clause-ok c = untagged_encoded _ _ _ _ _ (search rules) c.append_untagged.ensures.ok c.append_untagged.ensures.free

pub returns-else-eq-clause-ok : goal.returns-else-eq-clause-ok
returns-else-eq-clause-ok c = round_encoded _ _ c.args.tag _ _ _ (search rules) (search rules) c.append_tagged.ensures.ok

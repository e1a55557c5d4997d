use Rattle.rasn_enc.proofs.OwnTypes.Sequence.{part_refused, part_appended, default_encoded, default_refused}
use Rattle.rasn_enc.proofs.ber.enc.parts.PutDefaultChoiceEncodeParts.encode_parts.Goals as goal

pub returns-in_err-encode_default-clause-writes : goal.returns-in_err-encode_default-clause-writes
returns-in_err-encode_default-clause-writes g c = part_refused _ _ _ _ _ _ _ _ (default_refused _ _ _ _ _ (c.in_err-encode_default.ensures.writes g.V.DefaultValue.default_tree (λ d m. m)).1) c.in_err-encode_default.ensures.err c.from_residual.ensures.1

pub returns-clause-writes : goal.returns-clause-writes
returns-clause-writes g c = part_appended _ _ _ _ _ _ _ _ (default_encoded _ _ _ _ _ (c.in_ok-encode_default.ensures.writes g.V.DefaultValue.default_tree (λ d m. m)).0) c.encode_parts.ensures.writes

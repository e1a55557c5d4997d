use Rattle.std.proofs.Common.{sym}
use Rattle.rasn_enc.proofs.OwnTypes.Sequence.{part_refused, part_appended}
use Rattle.rasn_enc.proofs.ber.enc.parts.PutDefaultExplicitEncodeParts.encode_parts.Goals as goal

pub returns-in_err-encode_default_with_explicit_prefix-clause-writes : goal.returns-in_err-encode_default_with_explicit_prefix-clause-writes
returns-in_err-encode_default_with_explicit_prefix-clause-writes g c = rw (sym c.TAG.ensures) (part_refused _ _ _ _ _ _ _ _ (c.in_err-encode_default_with_explicit_prefix.ensures.writes g.V.DefaultValue.default_tree (λ d m. m)).1 c.in_err-encode_default_with_explicit_prefix.ensures.err c.from_residual.ensures.1)

pub returns-clause-writes : goal.returns-clause-writes
returns-clause-writes g c = rw (sym c.TAG.ensures) (part_appended _ _ _ _ _ _ _ _ (c.in_ok-encode_default_with_explicit_prefix.ensures.writes g.V.DefaultValue.default_tree (λ d m. m)).0 c.encode_parts.ensures.writes)

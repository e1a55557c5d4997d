use Rattle.std.proofs.Common.{rules}
use Rattle.rasn_enc.proofs.Constructed.Prefix.{prefix_ok, prefix_refused}
use Rattle.rasn_enc.proofs.ber.enc.Encoder.append_prefixed.Goals as goal

pub returns-clause-ok : goal.returns-clause-ok
returns-clause-ok g c = prefix_ok _ _ g.V.AsnType.shape _ c.args.tag _ _ _ c.enclose.ensures.ok (λ u k. search rules)

pub returns-clause-refused : goal.returns-clause-refused
returns-clause-refused g c = prefix_refused _ _ g.V.AsnType.shape _ c.args.tag _ _ c.enclose.ensures.refused (λ e u k. search rules)

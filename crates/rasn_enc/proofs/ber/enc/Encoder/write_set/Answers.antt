use Rattle.std.proofs.Common.{rules}
use Rattle.rasn_enc.proofs.OwnTypes.Set.{set_ok, set_refused, set_fails}
use Rattle.rasn_enc.proofs.ber.enc.Encoder.write_set.Goals as goal

pub returns-clause-ok : goal.returns-clause-ok
returns-clause-ok g c = set_ok _ _ _ _ _ _ _ _ c.enclose_in_order.ensures.ok (λ u k. search rules)

pub returns-clause-refused : goal.returns-clause-refused
returns-clause-refused g c = set_refused _ _ _ _ _ _ _ c.enclose_in_order.ensures.refused (λ r u k. search rules)

pub returns-clause-fails : goal.returns-clause-fails
returns-clause-fails g c = set_fails _ _ _ _ _ _ c.enclose_in_order.ensures.refused (λ r u k. search rules)

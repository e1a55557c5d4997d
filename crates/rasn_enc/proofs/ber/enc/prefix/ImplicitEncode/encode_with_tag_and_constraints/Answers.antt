use Rattle.std.proofs.Common.{ap}
use Rattle.rasn_enc.proofs.OwnTypes.Tagging.{tagged_encoded, tagged_refused}
use Rattle.rasn_enc.proofs.ber.enc.prefix.ImplicitEncode.encode_with_tag_and_constraints.Goals as goal

pub returns-clause-ok : goal.returns-clause-ok
returns-clause-ok g c = tagged_encoded c.args.tag c.args.constraints.now g.G.AsnType.TAG g.T.AsnType.CONSTRAINTS g.T.AsnType.shape _ _ (ap g.T.AsnType.tree c.deref-value.ensures) _ _ _
    c.encode_with_tag_and_constraints.ensures.ok

pub returns-clause-refused : goal.returns-clause-refused
returns-clause-refused g c = tagged_refused c.args.tag c.args.constraints.now g.G.AsnType.TAG g.T.AsnType.CONSTRAINTS g.T.AsnType.shape _ _ (ap g.T.AsnType.tree c.deref-value.ensures) _ _
    c.encode_with_tag_and_constraints.ensures.refused

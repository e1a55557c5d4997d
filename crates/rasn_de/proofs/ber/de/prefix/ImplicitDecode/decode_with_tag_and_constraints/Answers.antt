use Rattle.std.proofs.Common.{Ok, Err}
use Rattle.rasn_de.proofs.OwnTypes.Tagging.{tagged_decodes}
use Rattle.rasn_de.proofs.Leaves.Returns.{residual}
use Rattle.rasn_de.proofs.ber.de.prefix.ImplicitDecode.decode_with_tag_and_constraints.Goals as goal

pub returns-in_err-value-clause-reads : goal.returns-in_err-value-clause-reads
returns-in_err-value-clause-reads g c = rw (residual _ c.from_residual.ensures.1) (tagged_decodes g.T.AsnType.tree c.args.tag c.args.constraints.now g.G.AsnType.TAG g.T.AsnType.CONSTRAINTS g.T.AsnType.shape c.args.decoder.now _ (Err c.in_err-value.field-0.0) c.in_err-value.ensures.reads)

pub returns-clause-reads : goal.returns-clause-reads
returns-clause-reads g c = rw c.new.ensures
    (tagged_decodes g.T.AsnType.tree c.args.tag c.args.constraints.now g.G.AsnType.TAG g.T.AsnType.CONSTRAINTS g.T.AsnType.shape c.args.decoder.now _ (Ok c.in_ok-value.value) c.in_ok-value.ensures.reads)

use Rattle.std.proofs.Common.{Err, inl, refl}
use Rattle.rasn_de.proofs.Constructed.Beyond.{in_ok}
use Rattle.rasn_de.proofs.Constructed.Choice.{choice_by_decodes}
use Rattle.rasn_de.proofs.Leaves.Returns.{residual}
use Rattle.rasn_de.proofs.ber.de.Decoder.decode_choice.Goals as goal

pub returns-in_err-tag-clause-reads : goal.returns-in_err-tag-clause-reads
returns-in_err-tag-clause-reads g c =
    rw (residual _ c.from_residual.ensures.1) (choice_by_decodes g.D.DecodeChoice.extensible g.D.AsnType.shape g.D.DecodeChoice.alternatives g.met.D.DecodeChoice.chooses g.D.AsnType.tree c.args.self.now (Err c.in_err-tag.field-0.0) c.args.self.now (inl (c.in_err-tag.ensures.exact, refl)))

pub returns-clause-beyond : goal.returns-clause-beyond
returns-clause-beyond g c = in_ok g.D.DecodeChoice.beyond c.args.self.now c.from_tag.result _ c.from_tag.ensures.beyond

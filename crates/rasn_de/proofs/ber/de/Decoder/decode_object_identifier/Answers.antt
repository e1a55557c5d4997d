use Rattle.std.proofs.Common.{Err}
use Rattle.rasn_de.proofs.Leaves.ObjectIdentifier.{object_unframed, object_framed, object_decodes}
use Rattle.rasn_de.proofs.Leaves.Returns.{residual, with_rules}
use Rattle.rasn_de.proofs.Leaves.Rules.{object_rules}
use Rattle.rasn_de.proofs.ber.de.Decoder.decode_object_identifier.Goals as goal

pub returns-in_err-contents : goal.returns-in_err-contents
returns-in_err-contents c =
    rw (residual _ c.from_residual.ensures.1) (with_rules (object_decodes c.args.tag c.args.self.now _ (Err c.in_err-contents.field-0.0) c.contents.ensures.octets) (object_rules c.args.tag c.args.self.now _ (Err c.in_err-contents.field-0.0)) (object_unframed c.args.tag c.args.self.now _ _ c.in_err-contents.ensures.exact))

pub returns : goal.returns
returns c =
    let t = c.in_ok-contents.ensures.exact in
    with_rules (object_decodes c.args.tag c.args.self.now _ c.object_identifier.result c.contents.ensures.octets) (object_rules c.args.tag c.args.self.now _ c.object_identifier.result) (object_framed c.args.tag c.args.self.now _ _ _ t.0 t.1 (rw (← c.codec-rules.ensures) c.object_identifier.ensures))

use Rattle.std.proofs.Common.{Ok, Err, refl}
use Rattle.rasn_de.specs.Enumerated.{NullIn}
use Rattle.rasn_de.proofs.Leaves.Integer.{empty_is, not_empty}
use Rattle.rasn_de.proofs.Leaves.Null.{null_ensured}
use Rattle.rasn_de.proofs.Leaves.Errors.{leaf_refused, contents_refused, contents_read}
use Rattle.rasn_de.proofs.Leaves.Returns.{residual}
use Rattle.rasn_de.proofs.ber.de.Decoder.decode_null.Goals as goal

pub returns-in_err-contents : goal.returns-in_err-contents
returns-in_err-contents c =
    rw (residual _ c.from_residual.ensures.1) (null_ensured c.args.tag c.args.self.now _ (Err c.in_err-contents.field-0.0) c.contents.ensures.octets (leaf_refused NullIn c.args.tag c.args.self.now _ _ c.in_err-contents.ensures.exact))

pub returns-then-is_empty : goal.returns-then-is_empty
returns-then-is_empty c =
    let t = c.in_ok-contents.ensures.exact in
    null_ensured c.args.tag c.args.self.now _ (Ok tt) c.contents.ensures.octets (contents_read (λ u. u) NullIn c.args.tag c.args.self.now _ _ tt t.0 (empty_is _ c.if-is_empty.ensures) t.1)

pub returns-else-is_empty : goal.returns-else-is_empty
returns-else-is_empty c =
    let t = c.in_ok-contents.ensures.exact in
    null_ensured c.args.tag c.args.self.now _ (Err c.error.result) c.contents.ensures.octets
    (contents_refused NullIn c.args.tag c.args.self.now _ _ _ _ t.0 (not_empty _ c.if-is_empty.ensures, refl) t.1 c.error.ensures)

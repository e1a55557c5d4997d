use Rattle.std.proofs.Common.{Ok, Err, ap}
use Rattle.rasn_de.specs.Leaves.{as_cause}
use Rattle.rasn_de.proofs.Leaves.Boolean.{reads_bool, bool_ensured}
use Rattle.rasn_de.proofs.Leaves.Errors.{leaf_refused, contents_refused, contents_read}
use Rattle.rasn_de.proofs.Leaves.Returns.{residual}
use Rattle.rasn_de.proofs.ber.de.Decoder.decode_bool.Goals as goal

pub returns-in_err-contents : goal.returns-in_err-contents
returns-in_err-contents c =
    rw (residual _ c.from_residual.ensures.1) (bool_ensured c.args.tag c.args.self.now _ (Err c.in_err-contents.field-0.0) c.contents.ensures.octets
    (leaf_refused (reads_bool c.args.self.now.rule) c.args.tag c.args.self.now _ _ c.in_err-contents.ensures.exact))

pub returns-in-Ok : goal.returns-in-Ok
returns-in-Ok c =
    let t = c.in_ok-contents.ensures.exact in
    bool_ensured c.args.tag c.args.self.now _ (Ok c.in-Ok.value) c.contents.ensures.octets
    (contents_read (λ b. b) (reads_bool c.args.self.now.rule) c.args.tag c.args.self.now _ _ c.in-Ok.value t.0 (rw (← c.codec-rules.ensures) (ap as_cause c.in-Ok.ensures)) t.1)

pub returns-in-Err : goal.returns-in-Err
returns-in-Err c =
    let t = c.in_ok-contents.ensures.exact in
    bool_ensured c.args.tag c.args.self.now _ (Err c.error.result) c.contents.ensures.octets
    (contents_refused (reads_bool c.args.self.now.rule) c.args.tag c.args.self.now _ _ c.in-Err.fault _ t.0 (rw (← c.codec-rules.ensures) (ap as_cause c.in-Err.ensures)) t.1 c.error.ensures)

use Rattle.std.proofs.Common.{Ok, Err, inr}
use Rattle.rasn_types.specs.Shapes.{numbers}
use Rattle.rasn_de.proofs.Leaves.ObjectIdentifier.{object_unframed, object_framed, object_decodes, arcs_told}
use Rattle.rasn_de.proofs.Leaves.Checked.{object_unframed_plain, stops_plain}
use Rattle.rasn_de.proofs.Leaves.Returns.{residual}
use Rattle.rasn_de.proofs.Leaves.Rules.{object_rules}
use Rattle.rasn_de.proofs.ber.de.Decoder.check_object_identifier.Goals as goal

pub returns-in_err-contents-clause-reads : goal.returns-in_err-contents-clause-reads
returns-in_err-contents-clause-reads c = rw (residual _ c.from_residual.ensures.1) (object_decodes c.args.tag c.args.self.now _ (Err c.in_err-contents.field-0.0) c.contents.ensures.octets (object_unframed c.args.tag c.args.self.now _ _ c.in_err-contents.ensures.exact))

pub returns-in_err-contents-clause-rules : goal.returns-in_err-contents-clause-rules
returns-in_err-contents-clause-rules c = rw (residual _ c.from_residual.ensures.1) (object_rules c.args.tag c.args.self.now _ (Err c.in_err-contents.field-0.0) (object_unframed c.args.tag c.args.self.now _ _ c.in_err-contents.ensures.exact))

pub returns-in-Ok-clause-reads : goal.returns-in-Ok-clause-reads
returns-in-Ok-clause-reads c =
    let t = c.in_ok-contents.ensures.exact in
    let a = c.in-Ok.ensures in
    (numbers a.0, object_decodes c.args.tag c.args.self.now _ (Ok a.0) c.contents.ensures.octets (object_framed c.args.tag c.args.self.now _ _ (Ok a.0) t.0 t.1 (rw (← c.codec-rules.ensures) a.1)))

pub returns-in-Err-clause-reads : goal.returns-in-Err-clause-reads
returns-in-Err-clause-reads c =
    let t = c.in_ok-contents.ensures.exact in
    object_decodes c.args.tag c.args.self.now _ (Err c.error.result) c.contents.ensures.octets (object_framed c.args.tag c.args.self.now _ _ (Err c.error.result) t.0 t.1 (rw (← c.codec-rules.ensures) (arcs_told c.codec-rules.result _ c.contents.new.self c.in-Err.fault c.error.result (inr c.in-Err.ensures) c.error.ensures)))

pub returns-in-Err-clause-rules : goal.returns-in-Err-clause-rules
returns-in-Err-clause-rules c =
    let t = c.in_ok-contents.ensures.exact in
    object_rules c.args.tag c.args.self.now _ (Err c.error.result) (object_framed c.args.tag c.args.self.now _ _ (Err c.error.result) t.0 t.1 (rw (← c.codec-rules.ensures) (arcs_told c.codec-rules.result _ c.contents.new.self c.in-Err.fault c.error.result (inr c.in-Err.ensures) c.error.ensures)))

pub returns-in_err-contents-clause-memory : goal.returns-in_err-contents-clause-memory
returns-in_err-contents-clause-memory c = rw (residual _ c.from_residual.ensures.1) (object_unframed_plain c.args.tag c.args.self.now _ _ c.in_err-contents.ensures.exact)

pub returns-in-Err-clause-memory : goal.returns-in-Err-clause-memory
returns-in-Err-clause-memory c = stops_plain c.codec-rules.result _ c.in-Err.fault c.contents.new.self c.error.result c.in-Err.ensures c.error.ensures

pub returns-in_err-contents-clause-exact : goal.returns-in_err-contents-clause-exact
returns-in_err-contents-clause-exact c = rw (residual _ c.from_residual.ensures.1) (object_unframed c.args.tag c.args.self.now _ _ c.in_err-contents.ensures.exact)

pub returns-in-Ok-clause-exact : goal.returns-in-Ok-clause-exact
returns-in-Ok-clause-exact c =
    let t = c.in_ok-contents.ensures.exact in
    let a = c.in-Ok.ensures in
    (a.0, object_framed c.args.tag c.args.self.now _ _ (Ok a.0) t.0 t.1 (rw (← c.codec-rules.ensures) a.1))

pub returns-in-Err-clause-exact : goal.returns-in-Err-clause-exact
returns-in-Err-clause-exact c =
    let t = c.in_ok-contents.ensures.exact in
    object_framed c.args.tag c.args.self.now _ _ (Err c.error.result) t.0 t.1 (rw (← c.codec-rules.ensures) (arcs_told c.codec-rules.result _ c.contents.new.self c.in-Err.fault c.error.result (inr c.in-Err.ensures) c.error.ensures))

use Rattle.std.proofs.Common.{Ok, Err, subst}
use Rattle.std.specs.Prelude.{List, Bool}
use Rattle.rasn_de.specs.NamedBits.{AreNamedBits}
use Rattle.rasn_de.proofs.Strings.NamedBits.{named_unread, named_found, named_refused}
use Rattle.rasn_de.proofs.Leaves.Returns.{residual}
use Rattle.rasn_de.proofs.ber.de.Decoder.decode_named_bits.Goals as goal

pub returns-in_err-bits : goal.returns-in_err-bits
returns-in_err-bits c =
    rw (residual _ c.from_residual.ensures.1) (named_unread c.args.tag c.args.constraints.now c.args.self.now _ c.in_err-bits.field-0.0 c.in_err-bits.ensures.reads c.in_err-bits.ensures.exact)

pub returns-in-Ok : goal.returns-in-Ok
returns-in-Ok c =
    let n = subst (λ (l : List Bool). AreNamedBits c.args.self.now.rule c.args.constraints.now l (Ok tt)) c.as_bitstr.ensures (rw c.codec-rules.ensures at c.in-Ok.ensures) in
    named_found c.args.tag c.args.constraints.now c.args.self.now _ c.in_ok-bits.bits c.in_ok-bits.ensures.reads c.in_ok-bits.ensures.exact n.0 n.1 c.new.result c.new.ensures

pub returns-in-Err : goal.returns-in-Err
returns-in-Err c =
    let n = subst (λ (l : List Bool). AreNamedBits c.args.self.now.rule c.args.constraints.now l (Err c.in-Err.fault)) c.as_bitstr.ensures (rw c.codec-rules.ensures at c.in-Err.ensures) in
    named_refused c.args.tag c.args.constraints.now c.args.self.now _ c.in_ok-bits.bits c.in_ok-bits.ensures.reads c.in_ok-bits.ensures.exact c.in-Err.fault c.error.result n c.error.ensures

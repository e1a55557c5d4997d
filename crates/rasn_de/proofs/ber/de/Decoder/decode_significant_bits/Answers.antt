use Rattle.std.proofs.Common.{Ok, Err, subst, sym, ap, ◌∙◌}
use Rattle.std.specs.Prelude.{List, Bool}
use Rattle.rasn_types.specs.CowBits.{cow_bits, significant_cow}
use Rattle.rasn_types.specs.declared.types.bits.cow_bits.CowBits.{CowBits}
use Rattle.rasn_de.specs.BitString.{AreBorrowedIfPrimitive}
use Rattle.rasn_de.specs.NamedBits.{AreNamedBits}
use Rattle.rasn_de.proofs.Strings.NamedBits.{named_unread, named_refused, named_memory, significant_found, significant_refused, significant_bits, borrowed_as}
use Rattle.rasn_de.proofs.Leaves.Returns.{residual}
use Rattle.rasn_de.proofs.ber.de.Decoder.decode_significant_bits.Goals as goal

pub returns-in_err-bits : goal.returns-in_err-bits
returns-in_err-bits c =
    let e = c.in_err-bits.field-0.0 in
    rw (residual _ c.from_residual.ensures.1) (significant_refused c.args.tag c.args.constraints.now c.args.self.now _ e
    (named_unread c.args.tag c.args.constraints.now c.args.self.now _ e c.in_err-bits.ensures.reads c.in_err-bits.ensures.exact.0) c.in_err-bits.ensures.exact.1)

pub returns-in-Ok : goal.returns-in-Ok
returns-in-Ok c =
    let b = c.in_ok-bits.bits in
    let h = c.in_ok-bits.ensures.exact in
    let n = subst (λ (l : List Bool). AreNamedBits c.args.self.now.rule c.args.constraints.now l (Ok tt)) c.as_bitstr.ensures (rw c.codec-rules.ensures at c.in-Ok.ensures) in
    significant_found c.args.tag c.args.constraints.now c.args.self.now _ (cow_bits b) c.in_ok-bits.ensures.reads h.0 n.0 n.1 c.into_significant.result
    (ap cow_bits c.into_significant.ensures ∙ significant_bits b)
    (subst (λ (x : CowBits). AreBorrowedIfPrimitive c.args.self.now.rule c.args.tag c.args.self.now.rest x) (sym c.into_significant.ensures) (borrowed_as c.args.self.now.rule c.args.tag c.args.self.now.rest b h.1))

pub returns : goal.returns
returns c =
    let b = c.in_ok-bits.bits in
    let h = c.in_ok-bits.ensures.exact in
    let n = subst (λ (l : List Bool). AreNamedBits c.args.self.now.rule c.args.constraints.now l (Err c.in-Err.fault)) c.as_bitstr.ensures (rw c.codec-rules.ensures at c.in-Err.ensures) in
    significant_refused c.args.tag c.args.constraints.now c.args.self.now _ c.error.result
    (named_refused c.args.tag c.args.constraints.now c.args.self.now _ (cow_bits b) c.in_ok-bits.ensures.reads h.0 c.in-Err.fault c.error.result n c.error.ensures)
    (λ p m. named_memory c.args.self.now.rule c.args.constraints.now (cow_bits b) c.in-Err.fault c.decode_bits.new.self c.error.result n c.error.ensures m)

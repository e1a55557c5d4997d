use Rattle.std.proofs.Common.{◌<◌, ◌^◌, Ok, Err, List, Bool, length, sym, subst, arith}
use Rattle.rasn_de.specs.BitString.{DecodesBits}
use Rattle.rasn_de.proofs.Strings.BitString.{bits_decodes, collects_refused, collects_wide, collects_admitted, collects_size}
use Rattle.rasn_de.proofs.Leaves.Returns.{residual, with_rules}
use Rattle.rasn_de.proofs.Leaves.Rules.{bits_rules}
use Rattle.rasn_de.proofs.ber.de.Decoder.decode_bit_string.Goals as goal

pub returns-in_err-gathered : goal.returns-in_err-gathered
returns-in_err-gathered c =
    rw (residual _ c.from_residual.ensures.1) (with_rules (bits_decodes c.args.tag c.args.constraints.now c.args.self.now _ (Err c.in_err-gathered.field-0.0) c.bits.ensures.octets) (bits_rules c.args.tag c.args.constraints.now c.args.self.now _ (Err c.in_err-gathered.field-0.0))
    (collects_refused c.args.tag c.args.constraints.now c.args.self.now _ _ c.in_err-gathered.ensures.exact))

pub returns-in_default : goal.returns-in_default
returns-in_default c =
    with_rules (bits_decodes c.args.tag c.args.constraints.now c.args.self.now _ (Err c.error.result) c.bits.ensures.octets) (bits_rules c.args.tag c.args.constraints.now c.args.self.now _ (Err c.error.result))
    (collects_wide c.args.tag c.args.constraints.now c.args.self.now _ c.in_ok-gathered.gathered _ c.in_ok-gathered.ensures.exact c.in_default.ensures c.error.ensures)

pub returns-in-Ok : goal.returns-in-Ok
returns-in-Ok c =
    let g = subst (λ (z : List Bool). DecodesBits c.args.tag c.args.self.now (Ok z) c.bits.new.self) (sym c.in-Some.ensures) c.in_ok-gathered.ensures.exact in
    let n : length c.in-Some.bits < 2 ^ 64 = omega (arith, c.len.ensures, c.len.type_inv) in
    with_rules (bits_decodes c.args.tag c.args.constraints.now c.args.self.now _ (Ok c.in-Some.bits) c.bits.ensures.octets) (bits_rules c.args.tag c.args.constraints.now c.args.self.now _ (Ok c.in-Some.bits))
    (collects_admitted c.args.tag c.args.constraints.now c.args.self.now _ c.in-Some.bits g n (rw (← c.len.ensures) c.in-Ok.ensures))

pub returns-in-Err : goal.returns-in-Err
returns-in-Err c =
    let g = subst (λ (z : List Bool). DecodesBits c.args.tag c.args.self.now (Ok z) c.bits.new.self) (sym c.in-Some.ensures) c.in_ok-gathered.ensures.exact in
    let n : length c.in-Some.bits < 2 ^ 64 = omega (arith, c.len.ensures, c.len.type_inv) in
    with_rules (bits_decodes c.args.tag c.args.constraints.now c.args.self.now _ (Err c.error-in-Err.result) c.bits.ensures.octets) (bits_rules c.args.tag c.args.constraints.now c.args.self.now _ (Err c.error-in-Err.result))
    (collects_size c.args.tag c.args.constraints.now c.args.self.now _ c.in-Some.bits _ _ g n (rw (← c.len.ensures) c.in-Err.ensures) c.error-in-Err.ensures)

use Rattle.std.proofs.Common.{◌<◌, ◌^◌, Bool, List, Ok, Err, length, subst, arith}
use Rattle.std.specs.Prelude.{Option}
use Rattle.rasn_types.specs.declared.types.bits.cow_bits.CowBits.TheVariants.{Borrowed, Owned}
use Rattle.rasn_de.specs.BitString.{DecodesBitString, DecodesPrimitiveBits}
use Rattle.rasn_de.specs.State.{State}
use Rattle.rasn_de.proofs.Strings.BitString.{collects_admitted}
use Rattle.rasn_de.proofs.Strings.CowBits.{cow_reads, owned_refused, size_refused_bits}
use Rattle.rasn_de.proofs.Leaves.Returns.{residual}
use Rattle.rasn_de.proofs.ber.de.Decoder.decode_bits.Goals as goal

pub returns-in_err-bits : goal.returns-in_err-bits
returns-in_err-bits c =
    let h = c.in_err-bits.ensures.exact in
    rw (residual _ c.from_residual.ensures.1) (cow_reads c.args.tag c.args.self.now _ c.args.constraints.now c.primitive_bits.ensures.octets (Err c.in_err-bits.field-0.0) (h.0 c.args.constraints.now, λ p. h.1))

pub returns-in_default : goal.returns-in_default
returns-in_default c =
    let s = c.in_ok-decode_bit_string.field-0 in
    let h = subst (λ (x : Option (List Bool)). DecodesPrimitiveBits c.args.tag c.args.self.now (Ok x) c.primitive_bits.new.self) c.in_default.is c.in_ok-bits.ensures.exact in
    cow_reads c.args.tag c.args.self.now _ c.args.constraints.now c.primitive_bits.ensures.octets (Ok (Owned s))
    (subst (λ (z : State). DecodesBitString c.args.tag c.args.constraints.now z (Ok s) c.decode_bit_string.new.self) h.0 c.in_ok-decode_bit_string.ensures.exact, h.1)

pub returns-in_err-decode_bit_string : goal.returns-in_err-decode_bit_string
returns-in_err-decode_bit_string c =
    let e = c.in_err-decode_bit_string.field-0.0 in
    let h = subst (λ (x : Option (List Bool)). DecodesPrimitiveBits c.args.tag c.args.self.now (Ok x) c.primitive_bits.new.self) c.in_default.is c.in_ok-bits.ensures.exact in
    rw (residual _ c.from_residual-in_err-decode_bit_string.ensures.1) (cow_reads c.args.tag c.args.self.now _ c.args.constraints.now c.primitive_bits.ensures.octets (Err e)
    (owned_refused c.args.tag c.args.constraints.now c.args.self.now _ h.1 e (subst (λ (z : State). DecodesBitString c.args.tag c.args.constraints.now z (Err e) c.decode_bit_string.new.self) h.0 c.in_err-decode_bit_string.ensures.exact)))

pub returns-in-Ok : goal.returns-in-Ok
returns-in-Ok c =
    let h = subst (λ (x : Option (List Bool)). DecodesPrimitiveBits c.args.tag c.args.self.now (Ok x) c.primitive_bits.new.self) c.in-Some.is c.in_ok-bits.ensures.exact in
    let n : length c.in-Some.bits < 2 ^ 64 = omega (arith, c.len.ensures, c.len.type_inv) in
    cow_reads c.args.tag c.args.self.now _ c.args.constraints.now c.primitive_bits.ensures.octets (Ok (Borrowed c.in-Some.bits))
    (collects_admitted c.args.tag c.args.constraints.now c.args.self.now _ c.in-Some.bits h.0 n (rw (← c.len.ensures) c.in-Ok.ensures), h.1)

pub returns-in-Err : goal.returns-in-Err
returns-in-Err c =
    let h = subst (λ (x : Option (List Bool)). DecodesPrimitiveBits c.args.tag c.args.self.now (Ok x) c.primitive_bits.new.self) c.in-Some.is c.in_ok-bits.ensures.exact in
    let n : length c.in-Some.bits < 2 ^ 64 = omega (arith, c.len.ensures, c.len.type_inv) in
    cow_reads c.args.tag c.args.self.now _ c.args.constraints.now c.primitive_bits.ensures.octets (Err c.error.result)
    (size_refused_bits c.args.tag c.args.self.now _ c.args.constraints.now c.in-Some.bits c.in-Err.fault c.error.result h.0 n (rw (← c.len.ensures) c.in-Err.ensures) c.error.ensures)

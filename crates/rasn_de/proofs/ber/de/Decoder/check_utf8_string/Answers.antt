use Rattle.std.proofs.Common.{ℕ, List, Ok, chars, subst}
use Rattle.std.specs.Prelude.{Option}
use Rattle.std.specs.Borrow.{Bor}
use Rattle.rasn_de.specs.Checks.{DecodesPrimitiveOctets}
use Rattle.rasn_de.proofs.Leaves.Returns.{residual}
use Rattle.rasn_de.proofs.Strings.Checks.{by_utf8}
use Rattle.rasn_de.proofs.Strings.Seen.{check_unread, check_passed, check_failed}
use Rattle.rasn_de.proofs.ber.de.Decoder.check_utf8_string.Goals as goal

pub returns-in_err-octets : goal.returns-in_err-octets
returns-in_err-octets c =
    rw (residual _ c.from_residual.ensures.1) (check_unread (by_utf8 c.args.constraints.now) c.args.tag c.args.self.now _ c.primitive_octets.ensures.octets _ c.in_err-octets.ensures.exact)

pub returns-in-Ok : goal.returns-in-Ok
returns-in-Ok c =
    let h = subst (λ (x : Option (Bor (List ℕ))). DecodesPrimitiveOctets c.args.tag c.args.self.now (Ok x) c.primitive_octets.new.self) c.in-Some.is c.in_ok-octets.ensures.exact in
    check_passed (by_utf8 c.args.constraints.now) c.args.tag c.args.self.now _ c.primitive_octets.ensures.octets c.in-Some.octets.now h.0 h.1 (chars c.in-Some.octets.now) c.in-Ok.ensures

pub returns-in-Err : goal.returns-in-Err
returns-in-Err c =
    let h = subst (λ (x : Option (Bor (List ℕ))). DecodesPrimitiveOctets c.args.tag c.args.self.now (Ok x) c.primitive_octets.new.self) c.in-Some.is c.in_ok-octets.ensures.exact in
    check_failed (by_utf8 c.args.constraints.now) c.args.tag c.args.self.now _ c.primitive_octets.ensures.octets c.in-Some.octets.now h.0 h.1 c.in-Err.fault _ c.in-Err.ensures c.error.ensures

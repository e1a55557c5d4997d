use Rattle.std.proofs.Common.{inl, chars}
use Rattle.std.specs.Cow.{cow_str_bytes}
use Rattle.std.specs.declared.alloc.Global.{Global}
use Rattle.rasn_de.specs.CharacterString.{IsTextBorrowedIfPrimitive}
use Rattle.rasn_de.proofs.Leaves.Returns.{residual}
use Rattle.rasn_de.proofs.Strings.Checks.{by_utf8}
use Rattle.rasn_de.proofs.Strings.CharacterString.{borrowed_ungathered, borrowed_refused, borrowed_given, text_borrowed}
use Rattle.rasn_de.proofs.ber.de.Decoder.decode_utf8_text.Goals as goal

pub returns-in_err-octets : goal.returns-in_err-octets
returns-in_err-octets c =
    rw (residual _ c.from_residual.ensures.1)
    (borrowed_ungathered (by_utf8 c.args.constraints.now) (λ s. chars (cow_str_bytes {Z = Global} s)) IsTextBorrowedIfPrimitive c.args.tag c.args.self.now _ c.octets.ensures.octets _ c.in_err-octets.ensures.exact)

pub returns-in-Err : goal.returns-in-Err
returns-in-Err c =
    borrowed_refused (by_utf8 c.args.constraints.now) (λ s. chars (cow_str_bytes {Z = Global} s)) IsTextBorrowedIfPrimitive c.args.tag c.args.self.now _ c.octets.ensures.octets c.in_ok-octets.octets c.in_ok-octets.ensures.exact
    c.in-Err.fault _ (inl ((λ ns m. c.in-Err.ensures.0 m.0), c.in-Err.ensures.1)) c.error.ensures

pub returns-in-Ok-check_characters : goal.returns-in-Ok-check_characters
returns-in-Ok-check_characters c =
    borrowed_given (by_utf8 c.args.constraints.now) (λ s. chars (cow_str_bytes {Z = Global} s)) IsTextBorrowedIfPrimitive c.args.tag c.args.self.now _ c.octets.ensures.octets c.in_ok-octets.octets c.in_ok-octets.ensures.exact
    c.in-Ok.text (rw (← c.in-Ok.ensures.0, ← c.as_str.ensures.value) c.in-Ok-check_characters.ensures)
    (text_borrowed c.args.self.now.rule c.args.tag c.args.self.now.rest c.in_ok-octets.octets c.in-Ok.text c.in-Ok.ensures.1 c.in-Ok.ensures.2 c.in_ok-octets.ensures.exact.2)

pub returns : goal.returns
returns c =
    borrowed_refused (by_utf8 c.args.constraints.now) (λ s. chars (cow_str_bytes {Z = Global} s)) IsTextBorrowedIfPrimitive c.args.tag c.args.self.now _ c.octets.ensures.octets c.in_ok-octets.octets c.in_ok-octets.ensures.exact
    c.in-Err-check_characters.fault _ (rw (← c.in-Ok.ensures.0, ← c.as_str.ensures.value) c.in-Err-check_characters.ensures) c.error-in-Err-check_characters.ensures

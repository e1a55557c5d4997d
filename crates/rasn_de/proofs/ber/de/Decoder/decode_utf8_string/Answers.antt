use Rattle.std.proofs.Common.{ap, chars}
use Rattle.std.specs.Cow.{cow_str_bytes}
use Rattle.std.specs.String.{string_bytes}
use Rattle.std.specs.declared.alloc.Global.{Global}
use Rattle.rasn_types.specs.Shapes.{utf8}
use Rattle.rasn_de.specs.CharacterString.{ByUtf8, IsTextBorrowedIfPrimitive}
use Rattle.rasn_de.proofs.Leaves.Returns.{residual}
use Rattle.rasn_de.proofs.Strings.CharacterString.{copy_refused, copied, not_copied, text_primitive}
use Rattle.rasn_de.proofs.ber.de.Decoder.decode_utf8_string.Goals as goal

pub returns-in_err-text : goal.returns-in_err-text
returns-in_err-text c = rw (residual _ c.from_residual.ensures.1) (copy_refused utf8 c.args.constraints.now (ByUtf8 c.args.constraints.now.size) (λ s. chars (cow_str_bytes {Z = Global} s)) IsTextBorrowedIfPrimitive c.args.tag c.args.self.now _ (λ s. chars (string_bytes {Z = Global} s)) _ c.in_err-text.ensures)

pub returns-in-Ok : goal.returns-in-Ok
returns-in-Ok c = copied utf8 c.args.constraints.now (ByUtf8 c.args.constraints.now.size) (λ s. chars (cow_str_bytes {Z = Global} s)) IsTextBorrowedIfPrimitive c.args.tag c.args.self.now _ (λ s. chars (string_bytes {Z = Global} s)) c.in_ok-text.text c.in_ok-text.ensures c.in-Ok.text (ap chars c.in-Ok.ensures.ok)

pub returns-in-Err : goal.returns-in-Err
returns-in-Err c =
    let e = c.in_ok-text.ensures in
    not_copied utf8 c.args.constraints.now (ByUtf8 c.args.constraints.now.size) (λ s. chars (cow_str_bytes {Z = Global} s)) IsTextBorrowedIfPrimitive c.args.tag c.args.self.now _ (λ s. chars (string_bytes {Z = Global} s)) c.in_ok-text.text e (text_primitive c.args.self.now.rule c.args.tag c.args.self.now.rest c.in_ok-text.text c.in-Err.ensures.succeeds e.exact.1) c.in-Err.ensures.empty _ c.error.ensures

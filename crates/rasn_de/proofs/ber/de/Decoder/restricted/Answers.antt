use Rattle.std.proofs.Common.{◌∙◌}
use Rattle.std.specs.Cow.{cow_slice_items}
use Rattle.rasn_types.specs.CharacterString.{string_kind}
use Rattle.rasn_de.specs.CharacterString.{ByAlphabet}
use Rattle.rasn_de.specs.OctetString.{IsBorrowedIfPrimitive}
use Rattle.rasn_de.proofs.Leaves.Returns.{residual}
use Rattle.rasn_de.proofs.Strings.CharacterString.{copy_refused, copied, not_copied, slice_primitive, restricted_admitted}
use Rattle.rasn_de.proofs.ber.de.Decoder.restricted.Goals as goal

pub returns-in_err-octets : goal.returns-in_err-octets
returns-in_err-octets g c = rw (residual _ c.from_residual.ensures.1) (copy_refused (string_kind g.S.StringType.ALPHABET) c.args.constraints.now (ByAlphabet g.S.StringType.ALPHABET c.args.constraints.now.size) cow_slice_items IsBorrowedIfPrimitive c.args.tag c.args.self.now _ (λ s. s) _ (rw (← c.ALPHABET.ensures) c.in_err-octets.ensures))

pub from_admitted-requires : goal.from_admitted-requires
from_admitted-requires g c =
    rw (c.in-Ok.ensures.items) (restricted_admitted g.S.StringType.ALPHABET c.args.tag c.args.constraints.now c.args.self.now c.decode_restricted_string.new.self c.in_ok-octets.octets (rw (← c.ALPHABET.ensures) c.in_ok-octets.ensures.exact))

pub returns-in-Ok : goal.returns-in-Ok
returns-in-Ok g c = copied (string_kind g.S.StringType.ALPHABET) c.args.constraints.now (ByAlphabet g.S.StringType.ALPHABET c.args.constraints.now.size) cow_slice_items IsBorrowedIfPrimitive c.args.tag c.args.self.now _ (λ s. s) c.in_ok-octets.octets (rw (← c.ALPHABET.ensures) c.in_ok-octets.ensures) c.from_admitted.result (c.from_admitted.ensures ∙ c.in-Ok.ensures.items)

pub returns-in-Err : goal.returns-in-Err
returns-in-Err g c =
    let e = c.in_ok-octets.ensures in
    not_copied (string_kind g.S.StringType.ALPHABET) c.args.constraints.now (ByAlphabet g.S.StringType.ALPHABET c.args.constraints.now.size) cow_slice_items IsBorrowedIfPrimitive c.args.tag c.args.self.now _ (λ s. s) c.in_ok-octets.octets (rw (← c.ALPHABET.ensures) e) (slice_primitive c.args.self.now.rule c.args.tag c.args.self.now.rest c.in_ok-octets.octets c.in-Err.ensures.succeeds e.exact.1) c.in-Err.ensures.empty _ c.error.ensures

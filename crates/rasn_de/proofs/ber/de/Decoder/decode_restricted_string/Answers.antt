use Rattle.std.specs.Cow.{cow_slice_items}
use Rattle.rasn_de.specs.OctetString.{IsBorrowedIfPrimitive}
use Rattle.rasn_de.proofs.Leaves.Returns.{residual}
use Rattle.rasn_de.proofs.Strings.Checks.{by_alphabet}
use Rattle.rasn_de.proofs.Strings.CharacterString.{borrowed_ungathered, borrowed_refused, borrowed_given}
use Rattle.rasn_de.proofs.ber.de.Decoder.decode_restricted_string.Goals as goal

pub returns-in_err-octets : goal.returns-in_err-octets
returns-in_err-octets c =
    rw (residual _ c.from_residual.ensures.1)
    (borrowed_ungathered (by_alphabet c.args.alphabet c.args.constraints.now) cow_slice_items IsBorrowedIfPrimitive c.args.tag c.args.self.now _ c.octets.ensures.octets _ c.in_err-octets.ensures.exact)

pub returns-in-Ok : goal.returns-in-Ok
returns-in-Ok c =
    borrowed_given (by_alphabet c.args.alphabet c.args.constraints.now) cow_slice_items IsBorrowedIfPrimitive c.args.tag c.args.self.now _ c.octets.ensures.octets c.in_ok-octets.octets c.in_ok-octets.ensures.exact
    c.in_ok-octets.octets (rw (← c.as_slice.ensures.value) c.in-Ok.ensures) c.in_ok-octets.ensures.exact.2

pub returns : goal.returns
returns c =
    borrowed_refused (by_alphabet c.args.alphabet c.args.constraints.now) cow_slice_items IsBorrowedIfPrimitive c.args.tag c.args.self.now _ c.octets.ensures.octets c.in_ok-octets.octets c.in_ok-octets.ensures.exact
    c.in-Err.fault _ (rw (← c.as_slice.ensures.value) c.in-Err.ensures) c.error.ensures

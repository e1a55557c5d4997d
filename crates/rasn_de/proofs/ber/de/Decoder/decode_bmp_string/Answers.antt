use Rattle.std.proofs.Common.{sym, subst}
use Rattle.std.specs.Cow.{cow_slice_items}
use Rattle.rasn_types.specs.CharacterString.{ArePaired, units_of}
use Rattle.rasn_types.proofs.CharacterString.Texts.{units_only}
use Rattle.rasn_de.proofs.Leaves.Returns.{residual}
use Rattle.rasn_de.proofs.Strings.Checks.{by_units}
use Rattle.rasn_de.proofs.Strings.CharacterString.{some_units, string_refused, string_ungathered, string_alloc_failed, string_given}
use Rattle.rasn_de.proofs.ber.de.Decoder.decode_bmp_string.Goals as goal

pub returns-in_err-octets : goal.returns-in_err-octets
returns-in_err-octets c =
    rw (residual _ c.from_residual.ensures.1) (string_ungathered (by_units c.args.constraints.now) units_of c.args.tag c.args.self.now _ c.octets.ensures.octets _ c.in_err-octets.ensures.exact)

pub returns-in-Err : goal.returns-in-Err
returns-in-Err c =
    string_refused (by_units c.args.constraints.now) units_of c.args.tag c.args.self.now _ c.octets.ensures.octets c.in_ok-octets.octets c.in_ok-octets.ensures.exact
    c.in-Err.fault _ (c.in-Err.ensures (cow_slice_items c.in_ok-octets.octets) c.len.ensures) c.error.ensures

pub from_paired-requires : goal.from_paired-requires
from_paired-requires c =
    let items = cow_slice_items c.in_ok-octets.octets in
    let d = c.in_default.ensures items c.len.ensures in
    subst ArePaired (sym c.in-Ok.ensures.items) (units_only items (units_of items) d.0).0

pub returns-in-Ok : goal.returns-in-Ok
returns-in-Ok c =
    let d = c.in_default.ensures (cow_slice_items c.in_ok-octets.octets) c.len.ensures in
    string_given (by_units c.args.constraints.now) units_of c.args.tag c.args.self.now _ c.octets.ensures.octets c.in_ok-octets.octets c.in_ok-octets.ensures.exact c.from_paired.result
    (rw (c.from_paired.ensures, c.in-Ok.ensures.items) d)

pub returns-in-Err-owned : goal.returns-in-Err-owned
returns-in-Err-owned c =
    let items = cow_slice_items c.in_ok-octets.octets in
    let d = c.in_default.ensures items c.len.ensures in
    string_alloc_failed (by_units c.args.constraints.now) units_of c.args.tag c.args.self.now _ c.octets.ensures.octets c.in_ok-octets.octets c.in_ok-octets.ensures.exact
    (units_of items) _ d c.in-Err-owned.ensures.succeeds (λ z. some_units items (units_only items (units_of items) d.0).0 c.in-Err-owned.ensures.empty z) c.error-in-Err-owned.ensures

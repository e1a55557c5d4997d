use Rattle.std.specs.Prelude.{chars}
use Rattle.std.specs.String.{string_bytes}
use Rattle.std.specs.Cow.{cow_slice_items}
use Rattle.std.proofs.Common.{◌/◌, inr}
use Rattle.rasn_de.proofs.Leaves.Returns.{residual}
use Rattle.rasn_dynamic.proofs.Universals.{quads_counted, universal_got, universal_refused, universal_out, universal_unread}
use Rattle.rasn_dynamic.proofs.LeafErrors.{no_characters, too_many}
use Rattle.rasn_dynamic.proofs.read_leaf.decode_universal.Goals as goal

pub returns-in_err-octets-clause-reads : goal.returns-in_err-octets-clause-reads
returns-in_err-octets-clause-reads c =
    rw (residual _ c.from_residual.ensures.1) (universal_unread c.args.tag c.args.constraints.now c.args.decoder.now _ c.in_err-octets.field-0.0 c.in_err-octets.ensures.reads)

pub returns-in-Ok-None-clause-reads : goal.returns-in-Ok-None-clause-reads
returns-in-Ok-None-clause-reads c =
    let none = rw (c.in-Ok-None.field-0-is, c.as_slice.ensures.value) at c.in-Ok-None.ensures in
    universal_refused c.args.tag c.args.constraints.now c.args.decoder.now _ c.in_ok-octets.octets c.in_ok-octets.ensures.reads _ (λ ns h a. none ns h)

pub returns-in-Ok-None-clause-fails : goal.returns-in-Ok-None-clause-fails
returns-in-Ok-None-clause-fails c =
    let none = rw (c.in-Ok-None.field-0-is, c.as_slice.ensures.value) at c.in-Ok-None.ensures in
    inr (no_characters c.args.tag c.args.constraints.now c.args.decoder.now _ _ c.in_ok-octets.octets c.in_ok-octets.ensures.exact none c.not_converted.ensures)

pub returns-then-admits_size-clause-reads : goal.returns-then-admits_size-clause-reads
returns-then-admits_size-clause-reads c =
    let octets = cow_slice_items c.in_ok-octets.octets in
    let ns = chars (string_bytes c.in-Ok-Some.text) in
    let q = rw (c.in-Ok-Some.field-0-is, c.as_slice.ensures.value) at c.in-Ok-Some.ensures in
    universal_got c.args.tag c.args.constraints.now c.args.decoder.now _ c.in_ok-octets.octets c.in_ok-octets.ensures.reads ns (c.len-size.result / 4) q (quads_counted octets ns c.len-size.result q c.len-size.ensures) c.if-admits_size.ensures

pub returns-clause-reads : goal.returns-clause-reads
returns-clause-reads c =
    let octets = cow_slice_items c.in_ok-octets.octets in
    let ns = chars (string_bytes c.in-Ok-Some.text) in
    let q = rw (c.in-Ok-Some.field-0-is, c.as_slice.ensures.value) at c.in-Ok-Some.ensures in
    universal_out c.args.tag c.args.constraints.now c.args.decoder.now _ c.in_ok-octets.octets c.in_ok-octets.ensures.reads ns (c.len-size.result / 4) q (quads_counted octets ns c.len-size.result q c.len-size.ensures) _ c.if-admits_size.ensures

pub returns-clause-fails : goal.returns-clause-fails
returns-clause-fails c =
    let octets = cow_slice_items c.in_ok-octets.octets in
    let ns = chars (string_bytes c.in-Ok-Some.text) in
    let q = rw (c.in-Ok-Some.field-0-is, c.as_slice.ensures.value) at c.in-Ok-Some.ensures in
    inr (too_many c.args.tag c.args.constraints.now c.args.decoder.now _ _ c.in_ok-octets.octets c.in_ok-octets.ensures.exact ns (c.len-size.result / 4) c.size_bounds.result q (quads_counted octets ns c.len-size.result q c.len-size.ensures)
    c.size_bounds.ensures c.if-admits_size.ensures c.wrong_size.ensures)

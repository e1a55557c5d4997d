use Rattle.std.proofs.Common.{◌≡◌, ◌<◌, slice_index, arith, None, Some, rules, sym, ◌∙◌}
use Rattle.rasn_enc.proofs.Headers.LeadingTag.{no_tag, some_tag}
use Rattle.rasn_enc.proofs.ber.enc.writer.leading_tag.leading_tag.Goals as goal

pub returns-in_err-value : goal.returns-in_err-value
returns-in_err-value c =
    let e : c.from_residual.result ≡ None = search rules in
    let f : c.tag_number.result ≡ None = search rules in
    rw e (no_tag c.args.octets.now c.in-len1-up.len_at_least (sym c.tag_number.ensures ∙ f))

pub returns : goal.returns
returns c =
    let f : c.tag_number.result ≡ Some c.in_ok-value.value = search rules in
    let k : slice_index c.args.octets.now 0 < 256 = omega (arith, c.type_inv.octets 0) in
    some_tag c.args.octets.now c.class_at.result c.in_ok-value.value c.in-len1-up.len_at_least k (sym c.tag_number.ensures ∙ f) c.class_at.ensures

use Rattle.std.proofs.Common.{inl, inr, refl, ◌∙◌}
use Rattle.std.specs.Cow.{cow_slice_items}
use Rattle.rasn_de.proofs.Leaves.Errors.{rule_is}
use Rattle.rasn_de.proofs.Strings.CharacterString.{slice_primitive}
use Rattle.rasn_de.proofs.ber.de.octet_string.OctetStringDecode.decode_with_tag_and_constraints.Goals as goal

pub returns-in-Err-clause-errors : goal.returns-in-Err-clause-errors
returns-in-Err-clause-errors c =
    let k = c.in_ok-octets.ensures.exact in
    inr (inl (
      refl,
      c.codec.ensures ∙ rule_is c.args.decoder.now _ k.0.1,
      k.0.1,
      slice_primitive c.args.decoder.now.rule c.args.tag c.args.decoder.now.rest c.in_ok-octets.octets c.in-Err.ensures.succeeds k.1,
      (cow_slice_items c.in_ok-octets.octets, _),
      k.0.0,
      refl,
      λ n. let q = c.in-Err.ensures.empty n in cc,
    ))

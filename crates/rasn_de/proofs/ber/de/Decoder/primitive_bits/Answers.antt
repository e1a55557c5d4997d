use Rattle.std.proofs.Common.{refl}
use Rattle.rasn_types.specs.Tags.{form}
use Rattle.rasn_de.specs.declared.ber.de.parser.headers.Expected.TheVariants.{Tagged}
use Rattle.rasn_de.proofs.Headers.Forms.{primitive_form, constructed_form, header_memory}
use Rattle.rasn_de.proofs.Headers.Frames.{spelled_by}
use Rattle.rasn_de.proofs.Strings.BitString.{bits_end, collected_bits, no_header, one_segment, segment_lacks, segment_plain}
use Rattle.rasn_de.proofs.Strings.CowBits.{refused_bits, wide_bits}
use Rattle.rasn_de.proofs.ber.de.Decoder.primitive_bits.Goals as goal

pub returns-in-Err-clause-exact : goal.returns-in-Err-clause-exact
returns-in-Err-clause-exact c =
    let h = spelled_by (form c.self.inside.rules) _ c.of_rule.ensures (Tagged c.args.tag) c.self.inside.rest.now _ c.in-Err.ensures.exact in
    refused_bits c.args.tag c.args.self.now c.in-Err.fault _ (header_memory c.self.inside.rules c.args.tag c.self.inside.rest.now _ h)
    (rw (← c.self.view_is) (no_header c.self.inside.rules c.self.inside.depth c.args.tag c.self.inside.rest.now _ h)) c.error.ensures

pub returns-in_default-clause-exact : goal.returns-in_default-clause-exact
returns-in_default-clause-exact c =
    let h = spelled_by (form c.self.inside.rules) _ c.of_rule.ensures (Tagged c.args.tag) c.self.inside.rest.now _ c.in-Ok.ensures.exact in
    (refl, rw (← c.self.view_is) (constructed_form c.self.inside.rules c.args.tag c.self.inside.rest.now _ c.in-Ok.ensures.octets h c.in_default.ensures))

pub returns-in-Err-counted-clause-exact : goal.returns-in-Err-counted-clause-exact
returns-in-Err-counted-clause-exact c =
    let h = spelled_by (form c.self.inside.rules) _ c.of_rule.ensures (Tagged c.args.tag) c.self.inside.rest.now _ c.in-Ok.ensures.exact in
    refused_bits c.args.tag c.args.self.now c.in-Err-counted.fault _ (segment_plain c.self.inside.rules c.in-Some.segment.now _ c.in-Err-counted.ensures.exact)
    (rw (← c.self.view_is) (segment_lacks c.self.inside.rules c.self.inside.depth c.args.tag c.self.inside.rest.now _ h c.in-Some.segment.now _ c.in-Some.ensures c.in-Err-counted.ensures.exact)) c.error-in-Err-counted.ensures

pub advance-requires : goal.advance-requires
advance-requires c =
    let h = spelled_by (form c.self.inside.rules) _ c.of_rule.ensures (Tagged c.args.tag) c.self.inside.rest.now _ c.in-Ok.ensures.exact in
    rw (← c.self.view_is) (bits_end c.self.inside.rules c.self.inside.depth c.args.tag c.self.inside.rest.now c.in-Ok.ensures.octets _ _ (one_segment c.self.inside.rules c.self.inside.depth c.args.tag c.self.inside.rest.now _ h c.in-Some.segment.now _ c.in-Some.ensures c.in-Ok-counted.ensures.exact))

pub returns-in-Some-bits_of-clause-exact : goal.returns-in-Some-bits_of-clause-exact
returns-in-Some-bits_of-clause-exact c =
    let h = spelled_by (form c.self.inside.rules) _ c.of_rule.ensures (Tagged c.args.tag) c.self.inside.rest.now _ c.in-Ok.ensures.exact in (
      collected_bits c.args.tag c.args.self.now _ c.in-Some-bits_of.bits c.in-Ok.found.1.now
          (rw (← c.self.view_is, c.in-Some-bits_of.ensures) (one_segment c.self.inside.rules c.self.inside.depth c.args.tag c.self.inside.rest.now _ h c.in-Some.segment.now _ c.in-Some.ensures c.in-Ok-counted.ensures.exact)) c.advance.ensures,
      rw (← c.self.view_is) (primitive_form c.self.inside.rules c.args.tag c.self.inside.rest.now _ _ c.in-Ok.ensures.octets h c.in-Some.ensures),
    )

pub returns-in-None-clause-exact : goal.returns-in-None-clause-exact
returns-in-None-clause-exact c =
    let h = spelled_by (form c.self.inside.rules) _ c.of_rule.ensures (Tagged c.args.tag) c.self.inside.rest.now _ c.in-Ok.ensures.exact in
    wide_bits c.args.tag c.args.self.now _ _ _
    (collected_bits c.args.tag c.args.self.now _ _ c.in-Ok.found.1.now
    (rw (← c.self.view_is) (one_segment c.self.inside.rules c.self.inside.depth c.args.tag c.self.inside.rest.now _ h c.in-Some.segment.now _ c.in-Some.ensures c.in-Ok-counted.ensures.exact)) c.advance.ensures) c.in-None.ensures c.error-in-None.ensures

use Rattle.rasn_types.specs.Tags.{form}
use Rattle.std.proofs.Common.{refl}
use Rattle.rasn_de.specs.declared.ber.de.parser.ParseError.TheVariants.{OutOfMemory}
use Rattle.rasn_de.specs.declared.ber.de.parser.headers.Expected.TheVariants.{Tagged}
use Rattle.rasn_de.proofs.Strings.BitString.{bits_end, collected_bits, lacked_bits, no_header, one_segment, segment_lacks, segment_uncopied, many_segments, segments_lack}
use Rattle.rasn_de.proofs.Headers.Frames.{spelled_by}
use Rattle.rasn_de.proofs.ber.de.Decoder.bits.Goals as goal

pub returns-in-Err-clause-exact : goal.returns-in-Err-clause-exact
returns-in-Err-clause-exact c =
    let h = spelled_by (form c.self.inside.rules) _ c.of_rule.ensures (Tagged c.args.tag) c.self.inside.rest.now _ c.in-Err.ensures.exact in
    (c.in-Err.fault, c.error.ensures, refl, rw (← c.self.view_is) (no_header c.self.inside.rules c.self.inside.depth c.args.tag c.self.inside.rest.now _ h))

pub advance-requires : goal.advance-requires
advance-requires c =
    let h = spelled_by (form c.self.inside.rules) _ c.of_rule.ensures (Tagged c.args.tag) c.self.inside.rest.now _ c.in-Ok.ensures.exact in
    rw (← c.self.view_is) (bits_end c.self.inside.rules c.self.inside.depth c.args.tag c.self.inside.rest.now c.in-Ok.ensures.octets _ _ (many_segments c.self.inside.rules c.self.inside.depth c.args.tag c.self.inside.rest.now _ h _ c.in-Ok-string_contents.ensures.exact.1))

pub returns-in-Ok-string_contents-clause-exact : goal.returns-in-Ok-string_contents-clause-exact
returns-in-Ok-string_contents-clause-exact c =
    let h = spelled_by (form c.self.inside.rules) _ c.of_rule.ensures (Tagged c.args.tag) c.self.inside.rest.now _ c.in-Ok.ensures.exact in
    collected_bits c.args.tag c.args.self.now _ c.string_contents.new.out c.in-Ok-string_contents.rest.now
    (rw (← c.self.view_is, c.in-Ok-string_contents.ensures.exact.2 _ c.new-bits.ensures) (many_segments c.self.inside.rules c.self.inside.depth c.args.tag c.self.inside.rest.now _ h _ c.in-Ok-string_contents.ensures.exact.1)) c.advance.ensures

pub returns-in-Err-string_contents-clause-exact : goal.returns-in-Err-string_contents-clause-exact
returns-in-Err-string_contents-clause-exact c =
    let h = spelled_by (form c.self.inside.rules) _ c.of_rule.ensures (Tagged c.args.tag) c.self.inside.rest.now _ c.in-Ok.ensures.exact in
    (c.in-Err-string_contents.fault, c.error-in-Err-string_contents.ensures, refl, rw (← c.self.view_is) (segments_lack c.self.inside.rules c.self.inside.depth c.args.tag c.self.inside.rest.now _ h _ c.in-Ok.ensures.octets c.in_default.ensures c.in-Err-string_contents.ensures.exact))

pub returns-in-Err-counted-clause-exact : goal.returns-in-Err-counted-clause-exact
returns-in-Err-counted-clause-exact c =
    let h = spelled_by (form c.self.inside.rules) _ c.of_rule.ensures (Tagged c.args.tag) c.self.inside.rest.now _ c.in-Ok.ensures.exact in
    (c.in-Err-counted.fault, c.error-in-Err-counted.ensures, refl, rw (← c.self.view_is) (segment_lacks c.self.inside.rules c.self.inside.depth c.args.tag c.self.inside.rest.now _ h c.in-Some.segment.now _ c.in-Some.ensures c.in-Err-counted.ensures.exact))

pub advance-requires-2 : goal.advance-requires-2
advance-requires-2 c =
    let h = spelled_by (form c.self.inside.rules) _ c.of_rule.ensures (Tagged c.args.tag) c.self.inside.rest.now _ c.in-Ok.ensures.exact in
    rw (← c.self.view_is) (bits_end c.self.inside.rules c.self.inside.depth c.args.tag c.self.inside.rest.now c.in-Ok.ensures.octets _ _ (one_segment c.self.inside.rules c.self.inside.depth c.args.tag c.self.inside.rest.now _ h c.in-Some.segment.now _ c.in-Some.ensures c.in-Ok-counted.ensures.exact))

pub returns-in-Ok-append-clause-exact : goal.returns-in-Ok-append-clause-exact
returns-in-Ok-append-clause-exact c =
    let h = spelled_by (form c.self.inside.rules) _ c.of_rule.ensures (Tagged c.args.tag) c.self.inside.rest.now _ c.in-Ok.ensures.exact in
    collected_bits c.args.tag c.args.self.now _ c.append.new.self c.in-Ok.found.1.now
    (rw (← c.self.view_is, c.in-Ok-append.ensures.ok, c.new-bits.ensures) (one_segment c.self.inside.rules c.self.inside.depth c.args.tag c.self.inside.rest.now _ h c.in-Some.segment.now _ c.in-Some.ensures c.in-Ok-counted.ensures.exact)) c.advance-2.ensures

pub returns-in-Err-append-clause-exact : goal.returns-in-Err-append-clause-exact
returns-in-Err-append-clause-exact c =
    let h = spelled_by (form c.self.inside.rules) _ c.of_rule.ensures (Tagged c.args.tag) c.self.inside.rest.now _ c.in-Ok.ensures.exact in
    lacked_bits c.args.tag c.args.self.now _ OutOfMemory c.in-Ok.found.1.now _
    (rw (← c.self.view_is) (segment_uncopied c.self.inside.rules c.self.inside.depth c.args.tag c.self.inside.rest.now _ h c.in-Some.segment.now _ c.in-Err-append.ensures.memory c.in-Ok.ensures.octets c.in-Some.ensures c.in-Ok-counted.ensures.exact)) c.advance-2.ensures c.error-in-Err-append.ensures

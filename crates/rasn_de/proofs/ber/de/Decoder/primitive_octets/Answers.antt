use Rattle.std.proofs.Common.{refl}
use Rattle.rasn_types.specs.Tags.{form}
use Rattle.rasn_de.specs.declared.ber.de.parser.headers.Expected.TheVariants.{Tagged}
use Rattle.rasn_de.proofs.Headers.Forms.{plain_octets, header_memory}
use Rattle.rasn_de.proofs.Headers.Frames.{spelled_by}
use Rattle.rasn_de.proofs.Strings.Ends.{octets_end}
use Rattle.rasn_de.proofs.Strings.Seen.{primitive_read}
use Rattle.rasn_de.proofs.ber.de.Decoder.primitive_octets.Goals as goal

pub returns-in-Err-clause-exact : goal.returns-in-Err-clause-exact
returns-in-Err-clause-exact c =
    let h = spelled_by (form c.self.inside.rules) _ c.of_rule.ensures (Tagged c.args.tag) c.self.inside.rest.now _ c.in-Err.ensures.exact in
    (c.in-Err.fault, c.error.ensures, refl, rw (← c.self.view_is, h) refl, header_memory c.self.inside.rules c.args.tag c.self.inside.rest.now _ h)

pub advance-requires : goal.advance-requires
advance-requires c =
    let h = spelled_by (form c.self.inside.rules) _ c.of_rule.ensures (Tagged c.args.tag) c.self.inside.rest.now _ c.in-Ok.ensures.exact in
    rw (← c.self.view_is) (octets_end c.self.inside.rules c.self.inside.depth c.args.tag c.self.inside.rest.now c.in-Ok.ensures.octets _ _ (plain_octets c.self.inside.rules c.self.inside.depth c.args.tag c.self.inside.rest.now _ _ h c.in-Some.ensures))

pub returns-clause-exact : goal.returns-clause-exact
returns-clause-exact c =
    let h = spelled_by (form c.self.inside.rules) _ c.of_rule.ensures (Tagged c.args.tag) c.self.inside.rest.now _ c.in-Ok.ensures.exact in
    primitive_read c.args.tag c.args.self.now _ c.in-Some.segment c.in-Ok.found.1.now
    (rw (← c.self.view_is) (plain_octets c.self.inside.rules c.self.inside.depth c.args.tag c.self.inside.rest.now _ _ h c.in-Some.ensures)) c.advance.ensures

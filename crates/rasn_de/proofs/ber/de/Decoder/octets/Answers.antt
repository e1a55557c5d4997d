use Rattle.std.proofs.Common.{refl}
use Rattle.std.specs.declared.borrow.CowSlice.TheVariants.{Borrowed, Owned}
use Rattle.rasn_types.specs.Tags.{form}
use Rattle.rasn_de.specs.declared.ber.de.parser.headers.Expected.TheVariants.{Tagged}
use Rattle.rasn_de.proofs.Headers.Forms.{primitive_form, constructed_form, plain_octets, nested_octets, nested_bare, header_memory}
use Rattle.rasn_de.proofs.Headers.Frames.{spelled_by}
use Rattle.rasn_de.proofs.Strings.Ends.{octets_end}
use Rattle.rasn_de.proofs.Headers.Steps.{gathered}
use Rattle.rasn_de.proofs.ber.de.Decoder.octets.Goals as goal

pub returns-in-Err-clause-exact : goal.returns-in-Err-clause-exact
returns-in-Err-clause-exact c =
    let h = spelled_by (form c.self.inside.rules) _ c.of_rule.ensures (Tagged c.args.tag) c.self.inside.rest.now _ c.in-Err.ensures.exact in
    (c.in-Err.fault, c.error.ensures, refl, (λ n. rw (← c.self.view_is, h) refl), (λ m. absurd (header_memory c.self.inside.rules c.args.tag c.self.inside.rest.now _ h m)))

pub advance-requires : goal.advance-requires
advance-requires c =
    let h = spelled_by (form c.self.inside.rules) _ c.of_rule.ensures (Tagged c.args.tag) c.self.inside.rest.now _ c.in-Ok.ensures.exact in
    rw (← c.self.view_is) (octets_end c.self.inside.rules c.self.inside.depth c.args.tag c.self.inside.rest.now c.in-Ok.ensures.octets _ _ (plain_octets c.self.inside.rules c.self.inside.depth c.args.tag c.self.inside.rest.now _ _ h c.in-Some.ensures))

pub returns-in-Some-clause-exact : goal.returns-in-Some-clause-exact
returns-in-Some-clause-exact c =
    let h = spelled_by (form c.self.inside.rules) _ c.of_rule.ensures (Tagged c.args.tag) c.self.inside.rest.now _ c.in-Ok.ensures.exact in
    gathered c.args.tag c.args.self.now _ (Borrowed c.in-Some.segment) c.in-Ok.found.1.now
    (rw (← c.self.view_is) (plain_octets c.self.inside.rules c.self.inside.depth c.args.tag c.self.inside.rest.now _ _ h c.in-Some.ensures)) (rw (← c.self.view_is) (primitive_form c.self.inside.rules c.args.tag c.self.inside.rest.now _ _ c.in-Ok.ensures.octets h c.in-Some.ensures)) c.advance.ensures

pub advance-requires-in-Ok-string_contents : goal.advance-requires-in-Ok-string_contents
advance-requires-in-Ok-string_contents c =
    let h = spelled_by (form c.self.inside.rules) _ c.of_rule.ensures (Tagged c.args.tag) c.self.inside.rest.now _ c.in-Ok.ensures.exact in
    rw (← c.self.view_is) (octets_end c.self.inside.rules c.self.inside.depth c.args.tag c.self.inside.rest.now c.in-Ok.ensures.octets _ _ (nested_octets c.self.inside.rules c.self.inside.depth c.args.tag c.self.inside.rest.now _ _ h c.in-Ok-string_contents.ensures.exact.1))

pub returns-in-Ok-string_contents-clause-exact : goal.returns-in-Ok-string_contents-clause-exact
returns-in-Ok-string_contents-clause-exact c =
    let h = spelled_by (form c.self.inside.rules) _ c.of_rule.ensures (Tagged c.args.tag) c.self.inside.rest.now _ c.in-Ok.ensures.exact in
    gathered c.args.tag c.args.self.now _ (Owned c.string_contents.new.out) c.in-Ok-string_contents.rest.now
    (rw (← c.self.view_is, c.in-Ok-string_contents.ensures.exact.2 _ c.new-gathered.ensures.items) (nested_octets c.self.inside.rules c.self.inside.depth c.args.tag c.self.inside.rest.now _ _ h c.in-Ok-string_contents.ensures.exact.1))
    (rw (← c.self.view_is) (constructed_form c.self.inside.rules c.args.tag c.self.inside.rest.now _ c.in-Ok.ensures.octets h c.in_default.ensures)) c.advance-in-Ok-string_contents.ensures

pub returns-clause-exact : goal.returns-clause-exact
returns-clause-exact c =
    let h = spelled_by (form c.self.inside.rules) _ c.of_rule.ensures (Tagged c.args.tag) c.self.inside.rest.now _ c.in-Ok.ensures.exact in (
      c.in-Err-string_contents.fault,
      c.error-in-Err-string_contents.ensures,
      refl,
      (λ n. rw (← c.self.view_is) (nested_octets c.self.inside.rules c.self.inside.depth c.args.tag c.self.inside.rest.now _ _ h (c.in-Err-string_contents.ensures.exact.0 n))),
      (λ m. rw (← c.self.view_is) (
        constructed_form c.self.inside.rules c.args.tag c.self.inside.rest.now _ c.in-Ok.ensures.octets h c.in_default.ensures,
        nested_bare c.self.inside.rules c.self.inside.depth c.args.tag c.self.inside.rest.now _ h (c.in-Err-string_contents.ensures.exact.1 m),
      )),
    )

use Rattle.std.proofs.Common.{◌≡◌, Ok}
use Rattle.rasn_types.specs.Framing.{AreOctets}
use Rattle.rasn_types.specs.Tags.{form, tag_bit}
use Rattle.rasn_de.specs.Headers.{header_at, as_written}
use Rattle.rasn_de.specs.ParserViews.{header_with}
use Rattle.rasn_de.proofs.Headers.Steps.{taken}
use Rattle.rasn_de.proofs.Headers.Ends.{IsEnd-header}
use Rattle.rasn_de.proofs.ber.de.Decoder.leaf.Goals as goal

pub advance-requires : goal.advance-requires
advance-requires c =
    rw (← c.self.view_is) (IsEnd-header (form c.self.inside.rules) (as_written c.self.inside.rules c.args.tag (tag_bit c.args.tag)) c.self.inside.rest.now _ c.short_value.ensures.octets
    (c.in-Some.ensures.exact c.self.inside.rules))

pub returns-in-Some-clause-exact : goal.returns-in-Some-clause-exact
returns-in-Some-clause-exact c =
    let o : AreOctets c.args.self.now.rest = rw (← c.self.view_is) c.short_value.ensures.octets in
    let e : header_at (form c.args.self.now.rule) (as_written c.args.self.now.rule c.args.tag (tag_bit c.args.tag)) c.args.self.now.rest ≡ Ok (header_with c.in-Some.value c.in-Some.rest.now) =
    rw (← c.self.view_is) (c.in-Some.ensures.exact c.self.inside.rules) in
    taken (as_written c.args.self.now.rule c.args.tag (tag_bit c.args.tag)) c.args.self.now _ c.in-Some.value c.in-Some.rest.now o e c.advance.ensures

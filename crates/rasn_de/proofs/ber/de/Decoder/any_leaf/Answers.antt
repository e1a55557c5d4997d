use Rattle.std.proofs.Common.{◌≡◌, Ok, refl}
use Rattle.rasn_types.specs.Tags.{form, tag_bit}
use Rattle.rasn_de.proofs.Headers.Frames.{spelled_by}
use Rattle.rasn_types.specs.Framing.{AreOctets}
use Rattle.rasn_de.specs.Headers.{header_at, as_written}
use Rattle.rasn_de.specs.ParserViews.{header_with}
use Rattle.rasn_de.proofs.Headers.Steps.{taken}
use Rattle.rasn_de.proofs.Headers.Ends.{IsEnd-header}
use Rattle.rasn_de.proofs.ber.de.Decoder.any_leaf.Goals as goal

pub advance-requires : goal.advance-requires
advance-requires c =
    rw (← c.self.view_is) (IsEnd-header (form c.self.inside.rules) c.leaf-expected.result c.self.inside.rest.now _ c.read_value.ensures.octets
    (spelled_by (form c.self.inside.rules) _ c.of_rule.ensures c.leaf-expected.result c.self.inside.rest.now _ c.in-Ok.ensures.exact))

pub returns-in-Ok-clause-exact : goal.returns-in-Ok-clause-exact
returns-in-Ok-clause-exact c =
    let o : AreOctets c.args.self.now.rest = rw (← c.self.view_is) c.read_value.ensures.octets in
    let e : header_at (form c.args.self.now.rule) c.leaf-expected.result c.args.self.now.rest ≡ Ok (header_with c.in-Ok.value c.in-Ok.rest.now) =
    rw (← c.self.view_is) (spelled_by (form c.self.inside.rules) _ c.of_rule.ensures c.leaf-expected.result c.self.inside.rest.now _ c.in-Ok.ensures.exact) in
    let q : c.leaf-expected.result ≡ as_written c.args.self.now.rule c.args.tag (tag_bit c.args.tag) = rw (← c.self.view_is) c.leaf-expected.ensures in
    rw (← q) (taken c.leaf-expected.result c.args.self.now _ c.in-Ok.value c.in-Ok.rest.now o e c.advance.ensures)

pub returns-in-Err-clause-exact : goal.returns-in-Err-clause-exact
returns-in-Err-clause-exact c =
    let q : c.leaf-expected.result ≡ as_written c.args.self.now.rule c.args.tag (tag_bit c.args.tag) = rw (← c.self.view_is) c.leaf-expected.ensures in
    rw (← q) (c.in-Err.fault, rw (← c.self.view_is) (spelled_by (form c.self.inside.rules) _ c.of_rule.ensures c.leaf-expected.result c.self.inside.rest.now _ c.in-Err.ensures.exact), c.error.ensures, refl)

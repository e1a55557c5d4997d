use Rattle.std.proofs.Common.{◌≡◌, false, ◌&&◌, not, Ok, refl, rules}
use Rattle.rasn_types.specs.Tags.{form}
use Rattle.rasn_types.specs.Framing.{AreOctets}
use Rattle.rasn_de.specs.Headers.{header_at}
use Rattle.rasn_de.specs.ParserViews.{header_with}
use Rattle.rasn_de.proofs.Constructed.Opening.{opens_deep, opens_none, opens_primitive, opens_value}
use Rattle.rasn_de.proofs.Headers.Frames.{spelled_by}
use Rattle.rasn_de.proofs.Headers.Steps.{taken}
use Rattle.rasn_de.proofs.Headers.Ends.{IsEnd-header}
use Rattle.rasn_de.proofs.ber.de.Decoder.open.Goals.{else-header-via-then-header+else-not-value, else-header-via-else-header}
use Rattle.rasn_de.proofs.ber.de.Decoder.open.Goals as goal

pub returns-then-self-eq0-clause-exact : goal.returns-then-self-eq0-clause-exact
returns-then-self-eq0-clause-exact c = opens_deep c.args.header c.args.self.now _ (rw (← c.self.view_is) c.if-self-eq0.true) c.error.ensures

pub returns-in-Err-clause-exact : goal.returns-in-Err-clause-exact
returns-in-Err-clause-exact c =
    opens_none c.args.header c.args.self.now _ _ (rw (← c.self.view_is) c.if-self-eq0.false) c.expected-expected.result (rw (← c.self.view_is) c.expected-expected.ensures)
    (c.in-Err.fault, rw (← c.self.view_is) (spelled_by (form c.self.inside.rules) _ c.of_rule.ensures c.expected-expected.result c.self.inside.rest.now _ c.in-Err.ensures.exact), c.error-in-Err.ensures, refl)

pub advance-requires : goal.advance-requires
advance-requires c =
    rw (← c.self.view_is) (IsEnd-header (form c.self.inside.rules) c.expected-expected.result c.self.inside.rest.now _ c.read_value.ensures.octets
    (spelled_by (form c.self.inside.rules) _ c.of_rule.ensures c.expected-expected.result c.self.inside.rest.now _ c.in-Ok.ensures.exact))

pub returns-then-not-value-clause-exact : goal.returns-then-not-value-clause-exact
returns-then-not-value-clause-exact c =
    let o : AreOctets c.args.self.now.rest = rw (← c.self.view_is) c.read_value.ensures.octets in
    let e : header_at (form c.args.self.now.rule) c.expected-expected.result c.args.self.now.rest ≡ Ok (header_with c.in-Ok.found.0 c.in-Ok.found.1.now) =
    rw (← c.self.view_is) (spelled_by (form c.self.inside.rules) _ c.of_rule.ensures c.expected-expected.result c.self.inside.rest.now _ c.in-Ok.ensures.exact) in
    opens_primitive c.args.header c.args.self.now _ c.in-Ok.found.0 _ (rw (← c.self.view_is) c.if-self-eq0.false) c.expected-expected.result (rw (← c.self.view_is) c.expected-expected.ensures)
    (taken c.expected-expected.result c.args.self.now _ c.in-Ok.found.0 c.in-Ok.found.1.now o e c.advance.ensures)
    (rw (c.if-header.true, c.if-not-value.true) refl) c.error-then-not-value.ensures

pub returns-clause-exact : goal.returns-clause-exact
returns-clause-exact c =
    let o : AreOctets c.args.self.now.rest = rw (← c.self.view_is) c.read_value.ensures.octets in
    let e : header_at (form c.args.self.now.rule) c.expected-expected.result c.args.self.now.rest ≡ Ok (header_with c.in-Ok.found.0 c.in-Ok.found.1.now) =
    rw (← c.self.view_is) (spelled_by (form c.self.inside.rules) _ c.of_rule.ensures c.expected-expected.result c.self.inside.rest.now _ c.in-Ok.ensures.exact) in
    let bit : c.args.header.must_be_constructed && not c.in-Ok.found.0.is_constructed ≡ false = elim c.else-header.branch [
      | else-header-via-then-header+else-not-value w ↦ rw (w.if-header.true, w.if-not-value.false) refl
      | else-header-via-else-header w ↦ rw w.if-header.false refl
    ] in
    opens_value c.args.header c.args.self.now _ _ c.in-Ok.found.0 (rw (← c.self.view_is) c.if-self-eq0.false) c.expected-expected.result (rw (← c.self.view_is) c.expected-expected.ensures)
    (taken c.expected-expected.result c.args.self.now _ c.in-Ok.found.0 c.in-Ok.found.1.now o e c.advance.ensures) bit (search rules)

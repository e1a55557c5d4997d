use Rattle.std.proofs.Common.{refl}
use Rattle.rasn_types.specs.Tags.{form}
use Rattle.rasn_de.specs.declared.ber.de.parser.headers.Expected.TheVariants.{Tagged}
use Rattle.rasn_de.proofs.Headers.Forms.{header_memory}
use Rattle.rasn_de.proofs.Headers.Frames.{spelled_by}
use Rattle.rasn_de.proofs.Strings.Seen.{seen_end, whole_seen, whole_refused, parts_seen, seen_all, asks_memory}
use Rattle.rasn_de.proofs.ber.de.Decoder.see_segments.Goals as goal

pub returns-in-Err-clause-memory : goal.returns-in-Err-clause-memory
returns-in-Err-clause-memory g c =
    let h = spelled_by (form c.self.inside.rules) _ c.of_rule.ensures (Tagged c.args.tag) c.self.inside.rest.now _ c.in-Err.ensures.exact in
    asks_memory g.T.Segmented.allocates c.args.self.now c.in-Err.fault _ c.error.ensures (λ m. absurd {A = g.T.Segmented.allocates} (header_memory c.self.inside.rules c.args.tag c.self.inside.rest.now _ h m))

pub advance-requires : goal.advance-requires
advance-requires g c =
    let segment = g.T.Segmented.segment c.self.inside.rules in
    let h = spelled_by (form c.self.inside.rules) _ c.of_rule.ensures (Tagged c.args.tag) c.self.inside.rest.now _ c.in-Ok.ensures.exact in
    let e = c.in-Ok-append_segment.ensures.exact in
    rw (← c.self.view_is) (seen_end c.self.inside.rules segment c.args.inner c.self.inside.depth c.args.tag c.self.inside.rest.now c.in-Ok.ensures.octets e.0 _
    (whole_seen c.self.inside.rules segment c.args.inner c.self.inside.depth c.args.tag c.self.inside.rest.now _ h c.in-Some.segment.now e.0 c.in-Some.ensures e.1))

pub returns-in-Ok-append_segment-clause-exact : goal.returns-in-Ok-append_segment-clause-exact
returns-in-Ok-append_segment-clause-exact g c =
    let segment = g.T.Segmented.segment c.self.inside.rules in
    let h = spelled_by (form c.self.inside.rules) _ c.of_rule.ensures (Tagged c.args.tag) c.self.inside.rest.now _ c.in-Ok.ensures.exact in
    let e = c.in-Ok-append_segment.ensures.exact in
    seen_all g.T.Segmented.segment c.args.inner c.args.tag (g.T.Segmented.has_seen c.args.seen.now) (g.T.Segmented.has_seen c.append_segment.new.self) c.args.self.now _ c.in-Ok.found.1.now e.0
    (rw (← c.self.view_is) (whole_seen c.self.inside.rules segment c.args.inner c.self.inside.depth c.args.tag c.self.inside.rest.now _ h c.in-Some.segment.now e.0 c.in-Some.ensures e.1)) e.2 c.advance.ensures

pub returns-in-Err-append_segment-clause-exact : goal.returns-in-Err-append_segment-clause-exact
returns-in-Err-append_segment-clause-exact g c =
    let segment = g.T.Segmented.segment c.self.inside.rules in
    let h = spelled_by (form c.self.inside.rules) _ c.of_rule.ensures (Tagged c.args.tag) c.self.inside.rest.now _ c.in-Ok.ensures.exact in
    let e = c.in-Err-append_segment.ensures.exact in (
      c.in-Err-append_segment.fault,
      c.error-in-Err-append_segment.ensures,
      refl,
      λ n. rw (← c.self.view_is) (whole_refused c.self.inside.rules segment c.args.inner c.self.inside.depth c.args.tag c.self.inside.rest.now _ h c.in-Some.segment.now _ c.in-Some.ensures (e.0 n)),
    )

pub returns-in-Err-append_segment-clause-memory : goal.returns-in-Err-append_segment-clause-memory
returns-in-Err-append_segment-clause-memory g c =
    asks_memory g.T.Segmented.allocates c.args.self.now c.in-Err-append_segment.fault _ c.error-in-Err-append_segment.ensures c.in-Err-append_segment.ensures.memory

pub advance-requires-in-Ok-string_contents : goal.advance-requires-in-Ok-string_contents
advance-requires-in-Ok-string_contents g c =
    let segment = g.T.Segmented.segment c.self.inside.rules in
    let h = spelled_by (form c.self.inside.rules) _ c.of_rule.ensures (Tagged c.args.tag) c.self.inside.rest.now _ c.in-Ok.ensures.exact in
    let e = c.in-Ok-string_contents.ensures.exact in
    rw (← c.self.view_is) (seen_end c.self.inside.rules segment c.args.inner c.self.inside.depth c.args.tag c.self.inside.rest.now c.in-Ok.ensures.octets e.0 _
    (parts_seen c.self.inside.rules segment c.args.inner c.self.inside.depth c.args.tag c.self.inside.rest.now _ h _ e.1))

pub returns-in-Ok-string_contents-clause-exact : goal.returns-in-Ok-string_contents-clause-exact
returns-in-Ok-string_contents-clause-exact g c =
    let segment = g.T.Segmented.segment c.self.inside.rules in
    let h = spelled_by (form c.self.inside.rules) _ c.of_rule.ensures (Tagged c.args.tag) c.self.inside.rest.now _ c.in-Ok.ensures.exact in
    let e = c.in-Ok-string_contents.ensures.exact in
    seen_all g.T.Segmented.segment c.args.inner c.args.tag (g.T.Segmented.has_seen c.args.seen.now) (g.T.Segmented.has_seen c.string_contents.new.out) c.args.self.now _ c.in-Ok-string_contents.rest.now e.0
    (rw (← c.self.view_is) (parts_seen c.self.inside.rules segment c.args.inner c.self.inside.depth c.args.tag c.self.inside.rest.now _ h _ e.1)) e.2 c.advance-in-Ok-string_contents.ensures

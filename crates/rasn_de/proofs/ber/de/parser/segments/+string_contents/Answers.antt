use Rattle.std.proofs.Common.{◌-◌, ◌<◌, ◌≤◌, length, sym, inr, refl, ◌∙◌, arith}
use Rattle.rasn_types.specs.Tags.{form}
use Rattle.rasn_de.specs.declared.ber.de.parser.headers.Expected.TheVariants.{Tagged}
use Rattle.rasn_de.specs.Headers.{spelled}
use Rattle.rasn_de.specs.declared.ber.de.parser.ParseError.TheVariants.{OutOfMemory}
use Rattle.rasn_de.specs.Segments.{string_of, segment_at, without_memory}
use Rattle.rasn_de.proofs.Headers.Forms.{header_memory}
use Rattle.rasn_de.proofs.Strings.Bare.{segment_at_bare, bare_step, bare_fault}
use Rattle.rasn_de.proofs.Headers.Frames.{spelled_by}
use Rattle.rasn_de.proofs.Headers.Shorter.{header_shorter}
use Rattle.rasn_de.proofs.Strings.Segments.{ends_tested, gathering_start, gathering_step, gathering_end, gathering_fault, segment_shorter, string_der, string_deep, string_nested, string_plain, string_plain_fault, string_shorter, segment_fault, segment_parsed}
use Rattle.rasn_de.specs.ParserViews.{extent, header}
use Rattle.rasn_de.proofs.Strings.Appends.{appends_finished, finished_plain, appends_fault}
use Rattle.rasn_de.proofs.Leaves.Returns.{residual}
use Rattle.rasn_de.proofs.ber.de.parser.segments.+string_contents.Goals as goal

pub returns-in-Some : goal.returns-in-Some
returns-in-Some g t c =
    let e = c.in_ok-append_segment.ensures.exact in
    record {
      exact = (e.0, string_plain c.args.rule (g.T.Segmented.segment c.args.rule) c.args.tag c.args.depth (header (c.args.value, c.args.rest)) c.in-Some.segment.now e.0 c.in-Some.ensures.0 c.in-Some.ensures.1 e.1, e.2);
      memory = tt;
    }

pub returns-in_err-append_segment : goal.returns-in_err-append_segment
returns-in_err-append_segment g t c =
    let segment = g.T.Segmented.segment c.args.rule in
    let e = c.in_err-append_segment.ensures.exact in
    rw (residual _ c.from_residual.ensures.1) record {
      exact = (
        (λ n. string_plain_fault c.args.rule segment c.args.tag c.args.depth (header (c.args.value, c.args.rest)) c.in-Some.segment.now _ c.in-Some.ensures.0 c.in-Some.ensures.1 (e.0 n)),
        (λ m. string_plain_fault c.args.rule (without_memory segment) c.args.tag c.args.depth (header (c.args.value, c.args.rest)) c.in-Some.segment.now OutOfMemory c.in-Some.ensures.0 c.in-Some.ensures.1 (e.1 m)),
      );
      memory = c.in_err-append_segment.ensures.memory;
    }

pub returns-then-is_der : goal.returns-then-is_der
returns-then-is_der g t c = record {
  exact = ((λ n. string_der c.args.rule (g.T.Segmented.segment c.args.rule) c.args.tag c.args.depth (header (c.args.value, c.args.rest)) c.in_default.ensures (sym c.is_der.ensures ∙ c.if-is_der.true)), (λ m. cc));
  memory = λ m. absurd {A = g.T.Segmented.allocates} (cc);
}

pub returns-then-depth-eq0 : goal.returns-then-depth-eq0
returns-then-depth-eq0 g t c = record {
  exact = ((λ n. string_deep c.args.rule (g.T.Segmented.segment c.args.rule) c.args.tag c.args.depth (header (c.args.value, c.args.rest)) c.in_default.ensures (sym c.is_der.ensures ∙ c.if-is_der.false) c.if-depth-eq0.true), (λ m. cc));
  memory = λ m. absurd {A = g.T.Segmented.allocates} (cc);
}

pub returns-in_err-segment : goal.returns-in_err-segment
returns-in_err-segment g t c =
    let read = segment_at c.args.rule (g.T.Segmented.segment c.args.rule) c.args.tag (c.args.depth - 1) in
    let whole = string_nested c.args.rule (g.T.Segmented.segment c.args.rule) c.args.tag c.args.depth (header (c.args.value, c.args.rest)) c.in_default.ensures (sym c.is_der.ensures ∙ c.if-is_der.false) c.if-depth-eq0.false in
    let h = spelled_by (form c.args.rule) _ c.of_rule.ensures (Tagged c.args.tag) c.segments.left.now _ c.in_err-segment.ensures.exact in
    rw (residual _ c.from_residual-in_err-segment.ensures.1) record {
      exact = (
        (λ n. appends_fault read _ (extent c.args.value.contents) c.args.rest.now _ whole
            (gathering_fault read _ c.segments.left.now _ _ _ c.segments.invariant.0 (ends_tested _ c.segments.left.now c.has_ended.ensures ∙ c.segments-test.true)
            (segment_fault c.args.rule (g.T.Segmented.segment c.args.rule) c.args.tag (c.args.depth - 1) c.segments.left.now _ h))),
        (λ m. absurd (header_memory c.args.rule c.args.tag c.segments.left.now _ h m)),
      );
      memory = λ m. absurd {A = g.T.Segmented.allocates} (header_memory c.args.rule c.args.tag c.segments.left.now _ h m);
    }

pub returns-in_err-left : goal.returns-in_err-left
returns-in_err-left g t c =
    let segment = g.T.Segmented.segment c.args.rule in
    let read = segment_at c.args.rule segment c.args.tag (c.args.depth - 1) in
    let bare = segment_at c.args.rule (without_memory segment) c.args.tag (c.args.depth - 1) in
    let whole = string_nested c.args.rule segment c.args.tag c.args.depth (header (c.args.value, c.args.rest)) c.in_default.ensures (sym c.is_der.ensures ∙ c.if-is_der.false) c.if-depth-eq0.false in
    let all_bare = string_nested c.args.rule (without_memory segment) c.args.tag c.args.depth (header (c.args.value, c.args.rest)) c.in_default.ensures (sym c.is_der.ensures ∙ c.if-is_der.false) c.if-depth-eq0.false in
    let h = spelled_by (form c.args.rule) _ c.of_rule.ensures (Tagged c.args.tag) c.segments.left.now _ c.in_ok-segment.ensures.exact in
    let on = ends_tested _ c.segments.left.now c.has_ended.ensures ∙ c.segments-test.true in
    let e = c.in_err-left.ensures.exact in
    rw (residual _ c.from_residual-in_err-left.ensures.1) record {
      exact = (
        (λ n. appends_fault read _ (extent c.args.value.contents) c.args.rest.now _ whole
            (gathering_fault read _ c.segments.left.now _ _ _ c.segments.invariant.0 on
            (segment_parsed c.args.rule segment c.args.tag (c.args.depth - 1) c.segments.left.now (header (c.in_ok-segment.segment, c.in_ok-segment.after)) h ∙ e.0 n))),
        (λ m. appends_fault bare _ (extent c.args.value.contents) c.args.rest.now OutOfMemory all_bare
            (bare_fault bare _ c.segments.left.now c.segments.invariant.1 on
            (segment_parsed c.args.rule (without_memory segment) c.args.tag (c.args.depth - 1) c.segments.left.now (header (c.in_ok-segment.segment, c.in_ok-segment.after)) h ∙ e.1 m))),
      );
      memory = c.in_err-left.ensures.memory;
    }

pub segments-smaller : goal.segments-smaller
segments-smaller g t c =
    let h : length c.in_ok-segment.after.now < length c.segments.left.now = header_shorter (spelled (form c.args.rule)) (Tagged c.args.tag) c.segments.left.now (header (c.in_ok-segment.segment, c.in_ok-segment.after)) (spelled_by (form c.args.rule) _ c.of_rule.ensures (Tagged c.args.tag) c.segments.left.now _ c.in_ok-segment.ensures.exact) in
    let e = c.in_ok-left.ensures.exact in
    let k : length c.in_ok-left.left.now ≤ length c.in_ok-segment.after.now = string_shorter c.args.rule (g.T.Segmented.segment c.args.rule) c.args.tag (c.args.depth - 1) (header (c.in_ok-segment.segment, c.in_ok-segment.after)) (e.0, c.in_ok-left.left.now) e.1 in
    let m : length c.in_ok-left.left.now < length c.segments.left.now = omega arith in m

pub segments-preserved : goal.segments-preserved
segments-preserved g t c =
    let e = c.in_ok-left.ensures.exact in
    let segment = g.T.Segmented.segment c.args.rule in
    let read = segment_at c.args.rule segment c.args.tag (c.args.depth - 1) in
    let bare = segment_at c.args.rule (without_memory segment) c.args.tag (c.args.depth - 1) in
    let on = ends_tested _ c.segments.left.now c.has_ended.ensures ∙ c.segments-test.true in
    let k = segment_parsed c.args.rule segment c.args.tag (c.args.depth - 1) c.segments.left.now (header (c.in_ok-segment.segment, c.in_ok-segment.after)) (spelled_by (form c.args.rule) _ c.of_rule.ensures (Tagged c.args.tag) c.segments.left.now _ c.in_ok-segment.ensures.exact) ∙ e.1 in (
      gathering_step read (segment_shorter c.args.rule segment c.args.tag (c.args.depth - 1)) _ c.segments.left.now _ _ _ (e.0, c.in_ok-left.left.now) c.segments.invariant.0 on k e.2,
      bare_step bare (segment_shorter c.args.rule (without_memory segment) c.args.tag (c.args.depth - 1)) _ c.segments.left.now c.in_ok-left.left.now c.segments.invariant.1 on
          (segment_at_bare c.args.rule segment c.args.tag (c.args.depth - 1) c.segments.left.now (e.0, c.in_ok-left.left.now) k),
    )

pub returns : goal.returns
returns g t c =
    let read = segment_at c.args.rule (g.T.Segmented.segment c.args.rule) c.args.tag (c.args.depth - 1) in
    let whole = string_nested c.args.rule (g.T.Segmented.segment c.args.rule) c.args.tag c.args.depth (header (c.args.value, c.args.rest)) c.in_default.ensures (sym c.is_der.ensures ∙ c.if-is_der.false) c.if-depth-eq0.false in
    let e = gathering_end read _ c.segments.left.now _ _ c.segments.invariant.0 (ends_tested _ c.segments.left.now c.has_ended.ensures ∙ c.segments-test.false) in
    record {
      exact = appends_finished read _ (string_of c.args.rule (without_memory (g.T.Segmented.segment c.args.rule)) c.args.tag c.args.depth (header (c.args.value, c.args.rest))) (extent c.args.value.contents) c.args.rest.now c.segments.left.now
          (g.T.Segmented.has_seen c.args.out.now) (g.T.Segmented.has_seen c.segments.out) e.0 c.finish.result whole e.1 e.2 c.finish.ensures;
      memory = finished_plain g.T.Segmented.allocates (extent c.args.value.contents) c.args.rest.now c.segments.left.now c.finish.result c.finish.ensures;
    }

pub segments-init : goal.segments-init
segments-init g t c =
    rw c.contents_or_rest-left.ensures (gathering_start (segment_at c.args.rule (g.T.Segmented.segment c.args.rule) c.args.tag (c.args.depth - 1)) _ _, inr refl)

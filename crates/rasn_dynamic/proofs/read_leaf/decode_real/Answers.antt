use Rattle.std.proofs.Common.{inr}
use Rattle.rasn_types.specs.Shapes.{real}
use Rattle.rasn_types.specs.Contents.{IsReal}
use Rattle.rasn_de.proofs.Leaves.Returns.{residual}
use Rattle.rasn_dynamic.specs.LeafErrors.{IsAnyReal}
use Rattle.rasn_dynamic.proofs.LeafContents.{real_agrees, contents_unread, contents_got, contents_meaningless, contents_unkept, fails_meaningless, canonical_meant, only_canonical, under_ber, only_under_ber, is_canonical, not_ber}
use Rattle.rasn_dynamic.proofs.read_leaf.decode_real.Goals as goal

pub returns-in_err-contents-clause-reads : goal.returns-in_err-contents-clause-reads
returns-in_err-contents-clause-reads c = rw (residual _ c.from_residual.ensures.1) (contents_unread real IsReal real_agrees c.args.tag c.args.decoder.now _ c.contents.ensures.octets _ c.in_err-contents.ensures.exact)

pub returns-then-is_canonical_real-clause-reads : goal.returns-then-is_canonical_real-clause-reads
returns-then-is_canonical_real-clause-reads c =
    let contents = c.in_ok-contents.contents.now in
    let read = c.in_ok-contents.ensures.exact in
    contents_got real IsReal real_agrees c.args.tag c.args.decoder.now _ c.contents.ensures.octets contents read.0 read.1 contents (canonical_meant c.args.decoder.now.rule contents c.if-is_canonical_real.ensures)

pub returns-in_default-clause-reads : goal.returns-in_default-clause-reads
returns-in_default-clause-reads c =
    let contents = c.in_ok-contents.contents.now in
    let read = c.in_ok-contents.ensures.exact in
    contents_meaningless real IsReal real_agrees c.args.tag c.args.decoder.now _ c.contents.ensures.octets contents read.0 read.1 9 _
    (λ x h. c.if-is_canonical_real.ensures (only_canonical c.args.decoder.now.rule contents x (not_ber c.args.decoder.now _ c.codec.result read.1 c.codec.ensures c.in_default.not-Ber) h)) c.not_converted.ensures

pub returns-in_default-clause-fails : goal.returns-in_default-clause-fails
returns-in_default-clause-fails c =
    let contents = c.in_ok-contents.contents.now in
    let read = c.in_ok-contents.ensures.exact in
    inr (fails_meaningless IsAnyReal 9 c.args.tag c.args.decoder.now _ _ contents read.0 read.1
    (λ (x, h). c.if-is_canonical_real.ensures (only_canonical c.args.decoder.now.rule contents x (not_ber c.args.decoder.now _ c.codec.result read.1 c.codec.ensures c.in_default.not-Ber) h)) c.not_converted.ensures)

pub returns-in-Ok-Some-clause-reads : goal.returns-in-Ok-Some-clause-reads
returns-in-Ok-Some-clause-reads c =
    let contents = c.in_ok-contents.contents.now in
    let read = c.in_ok-contents.ensures.exact in
    let means = rw c.in-Ok-Some.field-0-is at c.in-Ok-Some.ensures in
    contents_got real IsReal real_agrees c.args.tag c.args.decoder.now _ c.contents.ensures.octets contents read.0 read.1 c.in-Ok-Some.canonical.items
    (under_ber c.args.decoder.now _ c.codec.result read.1 c.codec.ensures c.in-Ber.is contents c.in-Ok-Some.canonical.items means)

pub returns-in-Ok-Some-clause-fits : goal.returns-in-Ok-Some-clause-fits
returns-in-Ok-Some-clause-fits c = is_canonical c.in_ok-contents.contents.now c.in-Ok-Some.canonical.items (rw c.in-Ok-Some.field-0-is at c.in-Ok-Some.ensures)

pub returns-in-Ok-None-clause-reads : goal.returns-in-Ok-None-clause-reads
returns-in-Ok-None-clause-reads c =
    let contents = c.in_ok-contents.contents.now in
    let read = c.in_ok-contents.ensures.exact in
    let none = rw c.in-Ok-None.field-0-is at c.in-Ok-None.ensures in
    contents_meaningless real IsReal real_agrees c.args.tag c.args.decoder.now _ c.contents.ensures.octets contents read.0 read.1 9 _
    (λ x h. none x (only_under_ber c.args.decoder.now _ c.codec.result read.1 c.codec.ensures c.in-Ber.is contents x h)) c.not_converted-in-Ok-None.ensures

pub returns-in-Ok-None-clause-fails : goal.returns-in-Ok-None-clause-fails
returns-in-Ok-None-clause-fails c =
    let contents = c.in_ok-contents.contents.now in
    let read = c.in_ok-contents.ensures.exact in
    let none = rw c.in-Ok-None.field-0-is at c.in-Ok-None.ensures in
    inr (fails_meaningless IsAnyReal 9 c.args.tag c.args.decoder.now _ _ contents read.0 read.1
    (λ (x, h). none x (only_under_ber c.args.decoder.now _ c.codec.result read.1 c.codec.ensures c.in-Ber.is contents x h)) c.not_converted-in-Ok-None.ensures)

pub returns-in-Err-clause-reads : goal.returns-in-Err-clause-reads
returns-in-Err-clause-reads c =
    let read = c.in_ok-contents.ensures.exact in
    contents_unkept real IsReal real_agrees c.args.tag c.args.decoder.now _ c.contents.ensures.octets c.in_ok-contents.contents.now read.0 read.1 c.out_of_memory.result c.out_of_memory.ensures.kind

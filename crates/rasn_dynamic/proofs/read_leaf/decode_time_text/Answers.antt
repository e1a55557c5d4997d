use Rattle.std.proofs.Common.{refl}
use Rattle.rasn_types.specs.Shapes.{time_text}
use Rattle.rasn_types.specs.Contents.{IsTimeText}
use Rattle.rasn_de.proofs.Leaves.Returns.{residual}
use Rattle.rasn_schema.specs.KindNames.{names_of}
use Rattle.rasn_dynamic.proofs.LeafContents.{Themselves, text_agrees, contents_unread, contents_got, contents_meaningless, fails_meaningless, text_fits}
use Rattle.rasn_dynamic.proofs.read_leaf.decode_time_text.Goals as goal

pub returns-in_err-contents-clause-reads : goal.returns-in_err-contents-clause-reads
returns-in_err-contents-clause-reads c =
    rw (residual _ c.from_residual.ensures.1) (contents_unread time_text (Themselves IsTimeText) text_agrees c.args.tag c.args.decoder.now _ c.contents.ensures.octets _ c.in_err-contents.ensures.exact)

pub returns-then-is_time_text-clause-reads : goal.returns-then-is_time_text-clause-reads
returns-then-is_time_text-clause-reads c =
    let text = c.in_ok-contents.contents.now in
    let read = c.in_ok-contents.ensures.exact in
    contents_got time_text (Themselves IsTimeText) text_agrees c.args.tag c.args.decoder.now _ c.contents.ensures.octets text read.0 read.1 text (c.if-is_time_text.ensures, refl)

pub returns-then-is_time_text-clause-fits : goal.returns-then-is_time_text-clause-fits
returns-then-is_time_text-clause-fits c = text_fits c.args.kind _ c.requires c.if-is_time_text.ensures

pub returns-else-is_time_text-clause-reads : goal.returns-else-is_time_text-clause-reads
returns-else-is_time_text-clause-reads c =
    let read = c.in_ok-contents.ensures.exact in
    contents_meaningless time_text (Themselves IsTimeText) text_agrees c.args.tag c.args.decoder.now _ c.contents.ensures.octets c.in_ok-contents.contents.now read.0 read.1 (names_of c.args.kind).number _
    (λ x h. c.if-is_time_text.ensures h.0) c.not_converted.ensures

pub returns-else-is_time_text-clause-fails : goal.returns-else-is_time_text-clause-fails
returns-else-is_time_text-clause-fails c =
    let read = c.in_ok-contents.ensures.exact in
    fails_meaningless (λ rule. IsTimeText) (names_of c.args.kind).number c.args.tag c.args.decoder.now _ _ c.in_ok-contents.contents.now read.0 read.1 c.if-is_time_text.ensures c.not_converted.ensures

use Rattle.std.proofs.Common.{refl}
use Rattle.rasn_types.specs.Shapes.{time_digits}
use Rattle.rasn_types.specs.Contents.{AreTimeDigits}
use Rattle.rasn_de.proofs.Leaves.Returns.{residual}
use Rattle.rasn_schema.specs.KindNames.{names_of}
use Rattle.rasn_dynamic.proofs.LeafContents.{Themselves, digits_agree, contents_unread, contents_got, contents_meaningless, fails_meaningless, digits_fit}
use Rattle.rasn_dynamic.proofs.read_leaf.decode_time_digits.Goals as goal

pub returns-in_err-contents-clause-reads : goal.returns-in_err-contents-clause-reads
returns-in_err-contents-clause-reads c =
    rw (residual _ c.from_residual.ensures.1)
    (contents_unread (time_digits c.args.count) (Themselves (AreTimeDigits c.args.count)) (digits_agree c.args.count) c.args.tag c.args.decoder.now _ c.contents.ensures.octets _ c.in_err-contents.ensures.exact)

pub returns-then-are_time_digits-clause-reads : goal.returns-then-are_time_digits-clause-reads
returns-then-are_time_digits-clause-reads c =
    let digits = c.in_ok-contents.contents.now in
    let read = c.in_ok-contents.ensures.exact in
    contents_got (time_digits c.args.count) (Themselves (AreTimeDigits c.args.count)) (digits_agree c.args.count) c.args.tag c.args.decoder.now _ c.contents.ensures.octets digits read.0 read.1 digits
    (c.if-are_time_digits.ensures, refl)

pub returns-then-are_time_digits-clause-fits : goal.returns-then-are_time_digits-clause-fits
returns-then-are_time_digits-clause-fits c = digits_fit c.args.kind c.args.count _ c.requires c.if-are_time_digits.ensures

pub returns-else-are_time_digits-clause-reads : goal.returns-else-are_time_digits-clause-reads
returns-else-are_time_digits-clause-reads c =
    let read = c.in_ok-contents.ensures.exact in
    contents_meaningless (time_digits c.args.count) (Themselves (AreTimeDigits c.args.count)) (digits_agree c.args.count) c.args.tag c.args.decoder.now _ c.contents.ensures.octets c.in_ok-contents.contents.now read.0 read.1
    (names_of c.args.kind).number _ (λ x h. c.if-are_time_digits.ensures h.0) c.not_converted.ensures

pub returns-else-are_time_digits-clause-fails : goal.returns-else-are_time_digits-clause-fails
returns-else-are_time_digits-clause-fails c =
    let read = c.in_ok-contents.ensures.exact in
    fails_meaningless (λ rule. AreTimeDigits c.args.count) (names_of c.args.kind).number c.args.tag c.args.decoder.now _ _ c.in_ok-contents.contents.now read.0 read.1 c.if-are_time_digits.ensures c.not_converted.ensures

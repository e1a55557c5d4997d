use Rattle.std.proofs.Common.{refl, sym, ap, subst}
use Rattle.std.specs.Prelude.{IfOk}
use Rattle.std.specs.Borrow.{Bor}
use Rattle.std.proofs.Common.{List, ℕ}
use Rattle.rasn_types.specs.Shapes.{numbers, bits}
use Rattle.rasn_de.specs.OctetString.{cow_tree}
use Rattle.rasn_types.specs.CowBits.{cow_bits_tree}
use Rattle.rasn_lint.specs.declared.leaf.Segments.TheVariants.{Whole, OfOctets, OfBits}
use Rattle.rasn_lint.proofs.Mended.{IsMendedOrNone, mended_kept, none_mended}
use Rattle.rasn_lint.proofs.leaf.mended.Goals as goal

pub returns-in-Ok : goal.returns-in-Ok
returns-in-Ok c = subst (λ z. IfOk c.kept.result (IsMendedOrNone z c.args.tag c.args.octets.now)) (sym c.in-Whole.is)
    (mended_kept Whole c.args.tag c.args.octets.now (λ (o : Bor (List ℕ)). numbers o.now) _ _ c.reader_of-decoder.ensures c.in-Ok.contents c.in-Ok.ensures.reads _ refl c.write_octets.result c.write_octets.ensures c.kept.result c.kept.ensures)

pub returns-in-Ok-decode_octet_string : goal.returns-in-Ok-decode_octet_string
returns-in-Ok-decode_octet_string c = subst (λ z. IfOk c.kept-in-Ok-decode_octet_string.result (IsMendedOrNone z c.args.tag c.args.octets.now)) (sym c.in-OfOctets.is)
    (mended_kept OfOctets c.args.tag c.args.octets.now cow_tree _ _ c.reader_of-decoder.ensures c.in-Ok-decode_octet_string.contents c.in-Ok-decode_octet_string.ensures.reads _ (ap numbers c.deref.ensures.value)
    c.write_octets-in-Ok-decode_octet_string.result c.write_octets-in-Ok-decode_octet_string.ensures c.kept-in-Ok-decode_octet_string.result c.kept-in-Ok-decode_octet_string.ensures)

pub returns-in-Err-decode_octet_string : goal.returns-in-Err-decode_octet_string
returns-in-Err-decode_octet_string c = subst (λ z. IfOk c.unread-in-Err-decode_octet_string.result (IsMendedOrNone z c.args.tag c.args.octets.now)) (sym c.in-OfOctets.is)
    (none_mended OfOctets c.args.tag c.args.octets.now cow_tree _ _ c.reader_of-decoder.ensures c.in-Err-decode_octet_string.error c.in-Err-decode_octet_string.ensures.reads c.unread-in-Err-decode_octet_string.result c.unread-in-Err-decode_octet_string.ensures)

pub returns-in-Ok-decode_bits : goal.returns-in-Ok-decode_bits
returns-in-Ok-decode_bits c = subst (λ z. IfOk c.kept-in-Ok-decode_bits.result (IsMendedOrNone z c.args.tag c.args.octets.now)) (sym c.in-OfBits.is)
    (mended_kept OfBits c.args.tag c.args.octets.now cow_bits_tree _ _ c.reader_of-decoder.ensures c.in-Ok-decode_bits.bits c.in-Ok-decode_bits.ensures.reads _ (ap bits c.as_bitstr.ensures)
    c.write_bits.result c.write_bits.ensures c.kept-in-Ok-decode_bits.result c.kept-in-Ok-decode_bits.ensures)

pub returns-in-Err-decode_bits : goal.returns-in-Err-decode_bits
returns-in-Err-decode_bits c = subst (λ z. IfOk c.unread-in-Err-decode_bits.result (IsMendedOrNone z c.args.tag c.args.octets.now)) (sym c.in-OfBits.is)
    (none_mended OfBits c.args.tag c.args.octets.now cow_bits_tree _ _ c.reader_of-decoder.ensures c.in-Err-decode_bits.error c.in-Err-decode_bits.ensures.reads c.unread-in-Err-decode_bits.result c.unread-in-Err-decode_bits.ensures)

use Rattle.std.proofs.Common.{arith, length, length-append, refl, ap, ◌∙◌}
use Rattle.rasn_c.proofs.Encodings.{begins, is_peeked, is_opened, inside, is_tag, opened, is_constructed}
use Rattle.rasn_c.proofs.encoding.parts_of.Goals as goal

pub unreachable-requires : goal.unreachable-requires
unreachable-requires c = is_peeked c.requires c.new-decoder.result (begins c.of.result c.args.octets.now c.new-decoder.result c.of.ensures c.new-decoder.ensures) c.in_default.ensures.next

pub unreachable-requires-in_default-open : goal.unreachable-requires-in_default-open
unreachable-requires-in_default-open c = is_opened c.requires c.new-decoder.result (begins c.of.result c.args.octets.now c.new-decoder.result c.of.ensures c.new-decoder.ensures) c.in-Ok.tag c.in-Ok.ensures.next c.in_default-open.ensures.octets c.prefix.result c.prefix.ensures c.in_default-open.field-0 _ c.in_default-open.ensures.exact

pub overflow_sub-result : goal.overflow_sub-result
overflow_sub-result c =
    let e = begins c.of.result c.args.octets.now c.new-decoder.result c.of.ensures c.new-decoder.ensures in
    let i = inside c.requires c.new-decoder.result e c.in-Ok.tag c.in-Ok.ensures.next c.in-Ok-open.ensures.octets c.prefix.result c.prefix.ensures _ _ _ c.in-Ok-open.ensures.exact in
    let p = opened c.requires c.in-Ok.tag c.remaining-left.result.now c.may_be_closed.result (is_tag c.requires c.new-decoder.result e c.in-Ok.tag c.in-Ok.ensures.next c.in-Ok-open.ensures.octets c.prefix.result c.prefix.ensures) (c.may_be_closed.ensures ∙ i.0) (c.remaining-left.ensures.value ∙ i.1) in
    let m = ap length p.are ∙ length-append p.contents p.end in
    let s = p.short in
    omega (arith, m, s)

pub overflow_sub-result-2 : goal.overflow_sub-result-2
overflow_sub-result-2 c =
    let e = begins c.of.result c.args.octets.now c.new-decoder.result c.of.ensures c.new-decoder.ensures in
    let i = inside c.requires c.new-decoder.result e c.in-Ok.tag c.in-Ok.ensures.next c.in-Ok-open.ensures.octets c.prefix.result c.prefix.ensures _ _ _ c.in-Ok-open.ensures.exact in
    let p = opened c.requires c.in-Ok.tag c.remaining-left.result.now c.may_be_closed.result (is_tag c.requires c.new-decoder.result e c.in-Ok.tag c.in-Ok.ensures.next c.in-Ok-open.ensures.octets c.prefix.result c.prefix.ensures) (c.may_be_closed.ensures ∙ i.0) (c.remaining-left.ensures.value ∙ i.1) in
    let m = ap length p.are ∙ length-append p.contents p.end in
    let n = p.ends in
    omega (arith, m, n, c.end_length-end.ensures)

pub returns : goal.returns
returns c =
    let e = begins c.of.result c.args.octets.now c.new-decoder.result c.of.ensures c.new-decoder.ensures in
    let i = inside c.requires c.new-decoder.result e c.in-Ok.tag c.in-Ok.ensures.next c.in-Ok-open.ensures.octets c.prefix.result c.prefix.ensures _ _ _ c.in-Ok-open.ensures.exact in
    let p = opened c.requires c.in-Ok.tag c.remaining-left.result.now c.may_be_closed.result (is_tag c.requires c.new-decoder.result e c.in-Ok.tag c.in-Ok.ensures.next c.in-Ok-open.ensures.octets c.prefix.result c.prefix.ensures) (c.may_be_closed.ensures ∙ i.0) (c.remaining-left.ensures.value ∙ i.1) in
    let m = ap length p.are ∙ length-append p.contents p.end in
    let n = p.ends in
    let s = p.short in
    record {
      tag = c.in-Ok.tag;
      bit = p.bit;
      contents = p.contents;
      end = p.end;
      encloses = p.encloses;
      class_is = c.class_number.ensures;
      number_is = refl;
      constructed_is = c.constructed_bit.ensures ∙ is_constructed p.encloses;
      contents_are = omega (arith, m, n, c.end_length-end.ensures);
      header_is = omega (arith, m, s);
      length_is = refl;
    }

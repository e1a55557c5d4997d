use Rattle.std.proofs.Common.{arith, ap, length}
use Rattle.rasn_types.specs.Shapes.{looked_for}
use Rattle.rasn_lint.proofs.Opened.{opened_at, header_before}
use Rattle.rasn_lint.proofs.open.contents_at.Goals as goal

pub returns : goal.returns
returns c =
    let h = opened_at c.args.octets.now c.reader_of-decoder.result c.decode_open.new.self c.reader_of-decoder.ensures c.args.tag c.in-Ok.contents c.in-Ok.ensures.exact in
    let p = header_before (looked_for c.args.tag) c.args.octets.now c.in-Ok.contents.now c.decode_open.new.self.rest c.end_of.result h c.end_of.ensures in
    let rest = ap length c.remaining.ensures.value in (
      (c.decode_open.new.self.rest, h),
      (p.0, p.1, p.2, omega (arith, p.3, rest, c.saturating_sub.ensures, c.saturating_sub-2.ensures, c.saturating_sub-header_len.ensures)),
      omega arith,
    )

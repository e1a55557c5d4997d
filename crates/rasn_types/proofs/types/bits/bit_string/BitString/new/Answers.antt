use Rattle.std.proofs.Common.{arith}
use Rattle.rasn_types.proofs.BitString.Views.{kept}
use Rattle.rasn_types.proofs.types.bits.bit_string.BitString.new.Goals as goal

pub invariant_of-result : goal.invariant_of-result
invariant_of-result c =
    (kept c.args.len c.octets_for-kept.result c.unused_by.result c.args.octets.items _ _ (omega (arith, c.octets_for-kept.ensures, c.unused_by.ensures)) (omega (arith, c.unused_by.ensures))
    (omega arith) c.truncate.ensures.items c.clear_last.ensures.cleared c.clear_last.ensures.octets).0

pub returns : goal.returns
returns c = (
  omega arith,
  (kept c.args.len c.octets_for-kept.result c.unused_by.result c.args.octets.items _ _ (omega (arith, c.octets_for-kept.ensures, c.unused_by.ensures)) (omega (arith, c.unused_by.ensures))
      (omega arith) c.truncate.ensures.items c.clear_last.ensures.cleared c.clear_last.ensures.octets).1,
)

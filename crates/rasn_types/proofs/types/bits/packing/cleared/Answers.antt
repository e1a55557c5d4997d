use Rattle.std.proofs.Common.{◌<◌, ◌*◌, ◌/◌, ◌^◌, ◌∙◌, ap, arith}
use Rattle.std.proofs.Math.Nat.{mod-eq_of_lt}
use Rattle.std.proofs.lemmas.Nat.{shr_split}
use Rattle.rasn_types.specs.Contents.{bits_of}
use Rattle.rasn_types.proofs.BitString.Bits.{cleared_bits}
use Rattle.rasn_types.proofs.types.bits.packing.cleared.Goals as goal

pub returns : goal.returns
returns c =
    let b : c.args.octet < 256 = c.ranges.octet.fits in
    let s = shr_split c.args.octet c.args.bits in
    let m : c.args.octet / 2 ^ c.args.bits * 2 ^ c.args.bits < 256 = omega (arith, s) in
    ap bits_of (mod-eq_of_lt m) ∙ cleared_bits c.args.octet c.args.bits c.ranges.octet.fits c.requires

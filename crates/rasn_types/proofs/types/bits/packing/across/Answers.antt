use Rattle.std.proofs.Common.{ap₂, ◌+◌, ◌*◌, ◌/◌, ◌%◌, ◌-◌, ◌^◌, ◌∙◌}
use Rattle.rasn_types.specs.Contents.{bits_of}
use Rattle.rasn_types.proofs.BitString.Bits.{across_bits}
use Rattle.rasn_types.proofs.types.bits.packing.across.Goals as goal

pub returns : goal.returns
returns c =
    ap₂ (λ x y. bits_of ((x * 256 + y) / 2 ^ (8 - c.args.bits) % 256)) c.from.ensures c.from-2.ensures
    ∙ across_bits c.args.first c.args.second c.args.bits c.ranges.first.fits c.ranges.second.fits c.requires

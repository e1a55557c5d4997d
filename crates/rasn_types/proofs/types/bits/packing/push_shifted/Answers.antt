use Rattle.std.proofs.Common.{arith, refl}
use Rattle.rasn_types.proofs.BitString.Bits.{shifting_start, shifting_step, shifting_end}
use Rattle.rasn_types.proofs.types.bits.packing.push_shifted.Goals as goal

pub loop-octet-init : goal.loop-octet-init
loop-octet-init c = record { room = omega arith; shifting = shifting_start c.args.bits c.args.first c.args.more.now c.args.out.now.items }

pub loop-octet-preserved : goal.loop-octet-preserved
loop-octet-preserved c = record {
  room = omega (arith, c.loop-octet.invariant.room, c.push_reserved.ensures.len, c.push_reserved.ensures.capacity, c.loop-octet-test.true);
  shifting = shifting_step c.args.bits c.args.first c.args.more.now _ c.loop-octet.octet-index c.loop-octet.previous _ _ _ _ c.requires.few c.loop-octet-test.true refl
      c.loop-octet.invariant.shifting c.across.ensures c.push_reserved.ensures.items;
}

pub returns : goal.returns
returns c =
    shifting_end c.args.bits c.args.first c.args.more.now _ c.loop-octet.octet-index c.loop-octet.previous _ _ _ c.requires.few c.loop-octet-test.false
    c.loop-octet.invariant.shifting c.across-2.ensures c.push_reserved-2.ensures.items

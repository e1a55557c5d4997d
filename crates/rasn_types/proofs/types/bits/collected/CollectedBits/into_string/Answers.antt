use Rattle.std.proofs.Common.{arith}
use Rattle.rasn_types.proofs.BitString.Views.{length-but_last}
use Rattle.rasn_types.proofs.types.bits.collected.CollectedBits.into_string.Goals as goal

pub returns-in-Err : goal.returns-in-Err
returns-in-Err c =
    let g = c.self.inside in
    let h = c.in-Err.ensures in
    let l = c.len.ensures in
    rw (← c.self.view_is) (omega (arith, length-but_last g.unused g.octets.items, h))

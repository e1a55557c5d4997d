use Rattle.rasn_types.proofs.BitString.Views.{joins}
use Rattle.rasn_types.proofs.types.bits.packing.push_joined.Goals as goal

pub returns-in-Some : goal.returns-in-Some
returns-in-Some c =
    joins c.args.unused c.in-Some.last c.moved_down.result c.args.out.now.items c.pop.new.self.items c.args.more.now _ c.moved_down.ensures c.requires.few c.in-Some.ensures.items c.push_shifted.ensures

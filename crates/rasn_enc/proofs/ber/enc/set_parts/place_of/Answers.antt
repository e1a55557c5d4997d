use Rattle.rasn_enc.proofs.OwnTypes.SortedSet.{place_start}
use Rattle.rasn_enc.proofs.ber.enc.set_parts.place_of.Goals as goal

pub loop-at-init : goal.loop-at-init
loop-at-init c = place_start _ _

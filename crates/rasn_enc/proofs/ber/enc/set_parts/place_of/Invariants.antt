use Rattle.std.proofs.Common.{◌-◌, length}
use Rattle.rasn_enc.proofs.OwnTypes.SortedSet.{IsPlaceFrom}
use Rattle.rasn_enc.proofs.ber.enc.set_parts.place_of.Given as goal

abbrev pub invariant-loop-at : goal.invariant-loop-at
invariant-loop-at l = IsPlaceFrom l.tag l.components l.at

abbrev pub decreases-loop-at : goal.decreases-loop-at
decreases-loop-at l = length l.components - l.at

use Rattle.std.proofs.Common.{◌≤◌, ◌-◌, length, take}
use Rattle.rasn_types.specs.Bytes.{Each}
use Rattle.rasn_enc.specs.SortedSet.{IsUnknown}
use Rattle.rasn_enc.proofs.ber.enc.set_parts.components_of.Given as goal

abbrev pub invariant-loop-at : goal.invariant-loop-at
invariant-loop-at l = record { within : l.at ≤ length l.values; held : Each IsUnknown (take l.at l.values) l.components.items }

abbrev pub decreases-loop-at : goal.decreases-loop-at
decreases-loop-at l = length l.values - l.at

use Rattle.std.proofs.Common.{◌≡◌, ◌+◌, ◌-◌, ◌^◌, ◌<◌, ◌≤◌, length}
use Rattle.rasn_types.specs.Time.{digits_of}
use Rattle.rasn_enc.proofs.ber.enc.time.fraction_len.Given as goal

abbrev pub invariant-loop-left : goal.invariant-loop-left
invariant-loop-left l = record {
  place : l.place ≤ 9;
  below : l.left < 10 ^ l.place;
  same : length (digits_of l.place l.left) + (9 - l.place) ≡ length (digits_of 9 l.billionths);
}

abbrev pub decreases-loop-left : goal.decreases-loop-left
decreases-loop-left l = l.place

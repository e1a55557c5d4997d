use Rattle.std.proofs.Common.{◌≡◌, ◌+◌, ◌^◌, ◌≤◌, length}
use Rattle.rasn_types.specs.TimeParsing.{digits_at}
use Rattle.rasn_types.proofs.ber.time.text.read_digits.Given as goal

abbrev pub invariant-loop-rest : goal.invariant-loop-rest
invariant-loop-rest l = record {
  place : l.place ≤ 9;
  bound : l.total + 10 ^ l.place ≤ 1000000000;
  same : digits_at 9 l.fn.text ≡ (l.total + (digits_at l.place l.rest).0, (digits_at l.place l.rest).1);
}

abbrev pub decreases-loop-rest : goal.decreases-loop-rest
decreases-loop-rest l = length l.rest

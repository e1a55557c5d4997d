use Rattle.std.proofs.Common.{ℕ, List, ◌≡◌, ◌+◌, ◌^◌, ◌<◌, ◌≤◌, ◌++◌, map}
use Rattle.rasn_types.specs.Time.{digits_of}
use Rattle.rasn_types.proofs.ber.time.write.push_digits.Given as goal

abbrev pub invariant-loop-place : goal.invariant-loop-place
invariant-loop-place l = record {
  place : l.place ≤ 9;
  below : l.left < 10 ^ l.place;
  more : (xs : List ℕ) × (l.out.items ≡ l.fn.out.items ++ xs);
  same : l.out.items ++ map (λ d. 48 + d) (digits_of l.place l.left) ≡ l.initial.out.items ++ map (λ d. 48 + d) (digits_of 9 l.fn.billionths);
}

abbrev pub decreases-loop-place : goal.decreases-loop-place
decreases-loop-place l = l.place

use Rattle.std.proofs.Common.{ℕ, List, ◌≡◌, ◌+◌, ◌^◌, ◌<◌, ◌≤◌, ◌++◌, map}
use Rattle.std.specs.Fmt.{HasWritten, IsPlainFormatter}
use Rattle.rasn_types.specs.Time.{digits_of}
use Rattle.rasn_types.proofs.ber.time.rfc3339.write_digits.Given as goal

abbrev pub invariant-loop-place : goal.invariant-loop-place
invariant-loop-place g l =
    (l.place ≤ 9) × (l.left < 10 ^ l.place) × (done : List ℕ)
    × (done ++ map (λ d. 48 + d) (digits_of l.place l.left) ≡ map (λ d. 48 + d) (digits_of 9 l.fn.billionths))
    × (IsPlainFormatter l.initial.f → HasWritten g.W.Write.write_str_gives l.initial.f done l.f)

abbrev pub decreases-loop-place : goal.decreases-loop-place
decreases-loop-place g l = l.place

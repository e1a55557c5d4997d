-- Octets that are moved up in a buffer.
use Rattle.std.specs.Prelude.{ℕ, ◌≡◌, ◌+◌, List, ◌++◌, take, drop}

-- The octets from `lo` to `hi` are moved up by `by`. The octets before `lo + by` and those from `hi + by` on stay as
-- they are.
pub record Moves (xs ys : List ℕ) (lo hi by : ℕ) : Type 0 where
  pub is : ys ≡ take (lo + by) xs ++ (drop lo (take hi xs) ++ drop (hi + by) xs)

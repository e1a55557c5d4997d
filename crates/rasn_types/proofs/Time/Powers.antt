-- Powers of ten.
use Rattle.std.proofs.Common.{ℕ, zero, suc, ◌^◌, ◌<◌, arith, lit<}
use Rattle.std.proofs.Math.Nat.{pow-succ'}

pub ten_pos : (k : ℕ) → 0 < 10 ^ k
ten_pos zero = lit< tt
ten_pos (suc k) = omega (arith, ten_pos k, pow-succ' 10 k)

-- The numbers that an ENUMERATED names fit in 64 bits.
use Rattle.std.proofs.Common.{◌≡◌, zero, suc, ℤ, Bool, true, false, ◌&&◌, List, [], ◌∷◌, refl, arith}
use Rattle.std.specs.Prelude.{Contains}
use Rattle.std.specs.Int.Signed.{le_z_yes}
use Rattle.std.proofs.lemmas.Float.{T_from_true}
use Rattle.rasn_types.specs.Shapes.{IsIn}
use Rattle.rasn_types.specs.Trees.{signed_range}
use Rattle.rasn_types.specs.Numbered.{fit_isize}

both_true : (a b : Bool) → a && b ≡ true → (a ≡ true) × (b ≡ true)
both_true true b e = (refl, e)
both_true false b e = cc

pub fits-isize : (known : List ℤ) (z : ℤ) → fit_isize known ≡ true → Contains known z → IsIn (signed_range 64) z
fits-isize [] z f (k, l, e) = absurd (omega (arith, l))
fits-isize (x ∷ known) z f (zero, l, e) =
    let b = both_true _ _ f in
    let c = both_true _ _ b.0 in
    rw (← e) (le_z_yes (T_from_true _ c.0), le_z_yes (T_from_true _ c.1))
fits-isize (x ∷ known) z f (suc k, l, e) = fits-isize known z (both_true _ _ f).1 (k, omega (arith, l), e)

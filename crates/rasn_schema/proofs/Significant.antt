-- Bits that have no trailing 0 bits.
use Rattle.std.proofs.Common.{◌≡◌, ◌≢◌, ◌⊎◌, inl, inr, ℕ, Bool, true, false, List, length, sym, ap, ◌∙◌, subst}
use Rattle.rasn_types.specs.Truth.{IsWhether}
use Rattle.rasn_types.specs.BitString.{significant}
use Rattle.rasn_types.proofs.BitString.Significant.{all_significant}

-- They are as many as are significant.
pub significant_told : (bs : List Bool) (b : Bool) (n m : ℕ) → n ≡ length (significant bs) → m ≡ length bs → ((b ≡ true) × (n ≡ m)) ⊎ ((b ≡ false) × (n ≢ m)) → IsWhether b (significant bs ≡ bs)
significant_told bs b n m e f (inl (t, g)) = subst (λ x. IsWhether x (significant bs ≡ bs)) (sym t) (all_significant bs (sym e ∙ (g ∙ f)))
significant_told bs b n m e f (inr (t, g)) = subst (λ x. IsWhether x (significant bs ≡ bs)) (sym t) (λ h. g (e ∙ (ap length h ∙ sym f)))

-- Times of digits as texts.
use Rattle.std.specs.Prelude.{◌≡◌, ℕ, List, [], ◌∷◌}
use Rattle.rasn_types.specs.Contents.{AreTimeDigits}

-- A TIME-OF-DAY of six digits, and a DATE-TIME of fourteen, as value notation has them (X.680 38.4).
abbrev pub shown_digits : List ℕ → List ℕ
shown_digits (h ∷ i ∷ m ∷ n ∷ s ∷ t ∷ []) = h ∷ i ∷ 58 ∷ m ∷ n ∷ 58 ∷ s ∷ t ∷ []
shown_digits (a ∷ b ∷ c ∷ d ∷ e ∷ f ∷ g ∷ j ∷ h ∷ i ∷ m ∷ n ∷ s ∷ t ∷ []) =
    a ∷ b ∷ c ∷ d ∷ 45 ∷ e ∷ f ∷ 45 ∷ g ∷ j ∷ 84 ∷ h ∷ i ∷ 58 ∷ m ∷ n ∷ 58 ∷ s ∷ t ∷ []
shown_digits l = l

-- The digits of a text, of which there are so many.
abbrev pub AreDigitsOf : ℕ → List ℕ → List ℕ → Type 0
AreDigitsOf count text digits = AreTimeDigits count digits × (text ≡ shown_digits digits)

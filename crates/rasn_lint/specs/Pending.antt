-- Octets that are still to be read.
use Rattle.std.specs.Prelude.{ℕ, ◌+◌, ◌≤◌, List, [], ◌∷◌, length}
use Rattle.std.specs.Borrow.{Bor}
use Rattle.rasn_lint.specs.WellFormed.{AreEncodings}

-- Each of these octets are well-formed encodings, one after the other.
abbrev pub AllEncodings : List (Bor (List ℕ)) → Type 0
AllEncodings [] = Unit {0}
AllEncodings (x ∷ xs) = AreEncodings x.now × AllEncodings xs

-- The number of octets and of lists of them.
abbrev pub octets_in : List (Bor (List ℕ)) → ℕ
octets_in [] = 0
octets_in (x ∷ xs) = (1 + length x.now) + octets_in xs

-- The octets are kept, besides the old ones.
pub record Keeps (octets : List ℕ) (old new : List (Bor (List ℕ))) : Type 0 where
  pub sound : AreEncodings octets → AllEncodings old → AllEncodings new
  pub complete : AllEncodings new → AllEncodings old × AreEncodings octets
  pub size : octets_in new ≤ octets_in old + (1 + length octets)

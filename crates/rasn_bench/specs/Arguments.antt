-- The arguments of the program: `[--normalise] [file]`.
use Rattle.std.specs.Borrow.{Bor}
use Rattle.std.specs.Prelude.{◌≡◌, ◌≢◌, ℕ, Bool, true, false, List, [], ◌∷◌, ◌++◌, Option, Some, None, codes}

-- the option's word
abbrev pub option_word : List ℕ
option_word = codes "--normalise"

abbrev pub given : Bool → List (List ℕ)
given true = option_word ∷ []
given false = []

abbrev pub named : Option (List ℕ) → List (List ℕ)
named (Some file) = file ∷ []
named None = []

-- The words are the option if it is given, and then the file if one is named. A first word that equals the option is
-- the option.
pub record IsCall (words : List (List ℕ)) (normalises : Bool) (file : Option (List ℕ)) : Type 0 where
  pub is : words ≡ given normalises ++ named file
  pub told : normalises ≡ false → file ≢ Some option_word

abbrev pub name_in : Option (Bor (List ℕ)) → Option (List ℕ)
name_in None = None
name_in (Some name) = Some name.now

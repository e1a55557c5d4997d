-- What the steps that pack bits in octets do.
use Rattle.std.specs.Prelude.{◌≡◌, ℕ, ◌+◌, ◌-◌, ◌⊎◌, length, List, [], ◌∷◌, ◌++◌, take, drop}
use Rattle.rasn_types.specs.Contents.{bits_of}
use Rattle.rasn_types.specs.BitString.{bits_in, zeros, but_last}

-- Appended octets hold the bits of these octets except the first `bits` ones, followed by zeros.
pub record Shifts (bits : ℕ) (octets old new : List ℕ) : Type 0 where
  pub added : List ℕ
  pub is : new ≡ old ++ added
  pub all : bits_in added ≡ drop bits (bits_in octets) ++ zeros bits

-- The last `bits` bits of the last octet are cleared.
pub record ClearsOne (bits : ℕ) (old new : List ℕ) : Type 0 where
  pub front : List ℕ
  pub last : ℕ
  pub clear : ℕ
  pub was : old ≡ front ++ last ∷ []
  pub is : new ≡ front ++ clear ∷ []
  pub cleared : bits_of clear ≡ take (8 - bits) (bits_of last) ++ zeros bits

abbrev pub Clears : ℕ → List ℕ → List ℕ → Type 0
Clears bits old new = ((old ≡ []) × (new ≡ [])) ⊎ ClearsOne bits old new

-- Octets are appended to others, whose last octet has `unused` unused bits. Their bits follow the used bits without a
-- gap.
pub record Joins (unused : ℕ) (old more new : List ℕ) : Type 0 where
  pub long : length new ≡ length old + length more
  pub all : bits_in new ≡ but_last unused old ++ (bits_in more ++ zeros unused)

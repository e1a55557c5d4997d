-- Lists of octets.
use Rattle.std.proofs.Common.{ℕ, suc, ◌<◌, List, [], ◌∷◌, ◌++◌, get_or}
use Rattle.rasn_types.specs.Framing.{AreOctets}

-- what a slice of octets holds
pub octets_all : (xs : List ℕ) → ((i : ℕ) → get_or xs i 0 < 256) → AreOctets xs
octets_all [] h = tt
octets_all (x ∷ xs) h = (h 0, octets_all xs (λ i. h (suc i)))

pub joined_octets : (a b : List ℕ) → AreOctets a → AreOctets b → AreOctets (a ++ b)
joined_octets [] b h k = k
joined_octets (x ∷ a) b h k = (h.0, joined_octets a b h.1 k)

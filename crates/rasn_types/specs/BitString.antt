-- Octets that hold packed bits, the first bit of each octet highest.
use Rattle.std.specs.Prelude.{◌≡◌, ℕ, ◌-◌, ◌*◌, ◌<◌, ◌≤◌, List, [], ◌∷◌, ◌++◌, length, map, take, drop, replicate, Bool, true, false}
use Rattle.rasn_types.specs.Framing.{AreOctets}
use Rattle.rasn_types.specs.Contents.{bits_of, joined_lists}

-- The bits of a list of octets.
abbrev pub bits_in : List ℕ → List Bool
bits_in octets = joined_lists (map bits_of octets)

-- A number of bits that are 0.
abbrev pub zeros : ℕ → List Bool
zeros n = replicate n false

-- The octets hold the bits, followed by fewer than eight bits that are 0.
pub record Packs (bs : List Bool) (octets : List ℕ) : Type 0 where
  pub unused : ℕ
  pub few : unused < 8
  pub all : bits_in octets ≡ bs ++ zeros unused

-- A bit and those after it, without a 0 bit that is the last.
abbrev pub bit_before : Bool → List Bool → List Bool
bit_before true bs = true ∷ bs
bit_before false [] = []
bit_before false (b ∷ bs) = false ∷ b ∷ bs

-- The bits without the trailing 0 bits: those up to the last that is 1 (X.680 22.7).
abbrev pub significant : List Bool → List Bool
significant [] = []
significant (b ∷ bs) = bit_before b (significant bs)

-- A number of bits of the octets, from a position on.
abbrev pub bits_from : ℕ → ℕ → List ℕ → List Bool
bits_from start len octets = take len (drop start (bits_in octets))

-- Octets are appended that hold these bits, followed by zeros.
pub record Pushes (bs : List Bool) (old new : List ℕ) : Type 0 where
  pub octets : List ℕ
  pub is : new ≡ old ++ octets
  pub packs : Packs bs octets

-- The octets hold `len` bits, are as few as these take, and their unused bits are 0.
pub record HoldsBits (len : ℕ) (octets : List ℕ) : Type 0 where
  pub held : len ≤ 8 * length octets
  pub packs : Packs (bits_from 0 len octets) octets
  pub are : AreOctets octets

-- All bits of the octets except the last `unused` ones.
abbrev pub but_last : ℕ → List ℕ → List Bool
but_last unused octets = take (8 * length octets - unused) (bits_in octets)

-- Strings in segments, whose octets are kept if they are few.
use Rattle.std.specs.Prelude.{◌≡◌, ◌<◌, ◌%◌, ◌⊎◌, ℕ, Bool, true, false, nat_le, List, [], ◌∷◌, length, take, Ok}
use Rattle.rasn_types.specs.declared.types.codec.Codec.{Codec}
use Rattle.rasn_types.specs.declared.types.tag.Tag.{Tag}
use Rattle.rasn_de.specs.Checks.{Counts}
use Rattle.rasn_de.specs.OctetString.{octet_string_at, IsPrimitive, IsConstructed}
use Rattle.rasn_de.specs.State.{State}
use Rattle.rasn_de.specs.Time.{DecodesTime}

-- If at most 32 octets were seen, len is their number. If len is at most 32, they are the first len of those that are
-- kept.
abbrev pub HoldsShort : List ℕ → ℕ → List ℕ → Type 0
HoldsShort octets len seen = Counts 33 len seen × (len < 33 → seen ≡ take len octets)

-- A string that means a time begins the input, and is primitive or has a text of at most 32 octets.
abbrev pub BeginsShortTime : {X : Type 0} → (List ℕ → X → Type 0) → Tag → State → Type 0
BeginsShortTime {X} Means tag old =
    (x : X) × (text : List ℕ) × (rest : List ℕ)
    × (octet_string_at old.rule old.depth tag old.rest ≡ Ok (text, rest)) × Means text x
    × ((length text < 33) ⊎ IsPrimitive old.rule tag old.rest)

-- A string that means a time is consumed. If none is, no constructed string with a text of at most 32 octets means a
-- time.
abbrev pub TakesTime : {X : Type 0} → (Codec → List ℕ → X → Type 0) → Tag → State → Bool → State → Type 0
TakesTime {X} Means tag old true new = (x : X) × DecodesTime (Means old.rule) tag old (Ok x) new
TakesTime Means tag old false new =
    (new ≡ old) × (IsConstructed old.rule tag old.rest → BeginsShortTime (Means old.rule) tag old → ⊥)

-- Whether octets of which at most 32 are kept mean a time.
abbrev pub IsTimeExactlyIf : {X : Type 0} → Bool → (List ℕ → X → Type 0) → List ℕ → ℕ → Type 0
IsTimeExactlyIf {X} true Means octets len = (len < 33) × (x : X) × Means (take len octets) x
IsTimeExactlyIf {X} false Means octets len = len < 33 → (x : X) → Means (take len octets) x → ⊥

-- The first octet has the constructed bit.
abbrev pub is_constructed_next : List ℕ → Bool
is_constructed_next [] = false
is_constructed_next (b ∷ l) = nat_le 32 (b % 64)

-- What DER allows of the contents octets of a primitive encoding (X.690 8, 11).
use Rattle.std.specs.Prelude.{◌≡◌, ◌≢◌, ℕ, ◌^◌, ◌%◌, ◌<◌, ◌⊎◌, List, [], ◌∷◌, IsUtf8}
use Rattle.std.specs.List.{AllByRecursion}
use Rattle.rasn_types.specs.Calendar.{Day, Stamp}
use Rattle.rasn_types.specs.CharacterString.{AreAdmitted, ArePaired}
use Rattle.rasn_types.specs.Contents.{IsShortestInteger, IsShortest128, joined_lists}
use Rattle.rasn_types.specs.Framing.{IsChain}
use Rattle.rasn_types.specs.Time.{CanonicalUtc, StrictGeneralized, DateText}
use Rattle.rasn_lint.specs.declared.der.universal.ContentsRule.{ContentsRule}
use Rattle.rasn_lint.specs.declared.der.universal.ContentsRule.TheVariants.{Boolean, Integer, BitString, Null, Subidentifiers, Utf8, Characters, Units, UtcTime, GeneralizedTime, Date, Octets, Values, Set, Unknown}

-- One octet, which is 00 or FF (8.2, 11.1).
abbrev pub IsBoolean : List ℕ → Type 0
IsBoolean l = (l ≡ 0 ∷ []) ⊎ (l ≡ 255 ∷ [])

-- The last n bits of the last octet are zero. Without octets there are no bits.
abbrev pub EndsInZeros : ℕ → List ℕ → Type 0
EndsInZeros n [] = n ≡ 0
EndsInZeros n (b ∷ []) = b % 2 ^ n ≡ 0
EndsInZeros n (b ∷ c ∷ l) = EndsInZeros n (c ∷ l)

-- The number of unused bits, which is below 8, and the octets of the bits, of which the unused ones are zero (8.6.2,
-- 11.2.1).
abbrev pub IsBitString : List ℕ → Type 0
IsBitString [] = ⊥
IsBitString (unused ∷ octets) = (unused < 8) × EndsInZeros unused octets

-- A subidentifier of any size: each octet except the last has its high bit set, and the first isn't 80 (8.19.2).
abbrev pub IsSubidentifier : List ℕ → Type 0
IsSubidentifier l = IsChain l × IsShortest128 l

-- Subidentifiers, one after the other, of which there is at least one (8.19, 8.20).
abbrev pub AreSubidentifiers : List ℕ → Type 0
AreSubidentifiers l = (parts : List (List ℕ)) × (l ≡ joined_lists parts) × (parts ≢ []) × AllByRecursion IsSubidentifier parts

-- The canonical texts of times (11.7, 11.8), and of a day (8.26).
abbrev pub IsUtcTime : List ℕ → Type 0
IsUtcTime l = (t : Stamp) × CanonicalUtc l t

abbrev pub IsGeneralizedTime : List ℕ → Type 0
IsGeneralizedTime l = (t : Stamp) × StrictGeneralized l t

abbrev pub IsDate : List ℕ → Type 0
IsDate l = (d : Day) × DateText l d

-- A primitive encoding that follows the rule may have these contents octets.
abbrev pub AllowsContents : ContentsRule → List ℕ → Type 0
AllowsContents Boolean l = IsBoolean l
AllowsContents Integer l = IsShortestInteger l
AllowsContents BitString l = IsBitString l
AllowsContents Null l = l ≡ []
AllowsContents Subidentifiers l = AreSubidentifiers l
AllowsContents Utf8 l = IsUtf8 l
AllowsContents (Characters alphabet) l = AreAdmitted alphabet l
AllowsContents Units l = ArePaired l
AllowsContents UtcTime l = IsUtcTime l
AllowsContents GeneralizedTime l = IsGeneralizedTime l
AllowsContents Date l = IsDate l
AllowsContents Octets l = Unit {0}
AllowsContents Values l = ⊥
AllowsContents Set l = ⊥
AllowsContents Unknown l = Unit {0}

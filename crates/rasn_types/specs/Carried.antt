-- The values that are read back after they are written: those that are carried.
use Rattle.std.specs.Prelude.{◌≡◌, ℕ, suc, ◌-◌, ◌^◌, ◌<◌, ◌⊎◌, ◌≢◌, List, [], ◌∷◌, length, Bool, false}
use Rattle.rasn_types.specs.Tags.{loose_form, form, Codec, Tag}
use Rattle.rasn_types.specs.Framing.{Frame, definite, NextTag}
use Rattle.rasn_types.specs.Calendar.{Day, Moment}
use Rattle.rasn_types.specs.Time.{CarriedUtc, CarriedDay}
use Rattle.rasn_types.specs.Shapes.{Tree, bits, numbers, instant, on_day, items, IsSetTree, joined, set_elements, chosen, absent, Kind, utc_time, generalized_time, date, Shape, leaf, any, prefix, choice, open_choice, option, seq, set, sorted_set, list, set_of, unknown, Parts, part, count, IsFirstOf, Presence, required, addition, optional_by, default_by, sought_in}
use Rattle.rasn_types.specs.Shapes.Parts.{none}
use Rattle.rasn_types.specs.Readings.{IsLeftOut, AreInTagOrder}
use Rattle.rasn_types.specs.Grammar.{Family, plain_family, bit_family, named_family, text_family, family}
use Rattle.rasn_types.specs.Bytes.{Each, Same, IsCer, WritesText, Bytes}

abbrev pub EachOf : (Tree → Type 0) → List Tree → Type 0
EachOf P [] = Unit {0}
EachOf P (t ∷ ts) = P t × EachOf P ts

-- A part that is written meets the limits. An absent optional part and a default aren't written; an addition has to be
-- present.
abbrev pub PartIsWithinLimits : Presence → (Tree → Type 0) → Tree → Type 0
PartIsWithinLimits required within_limits t = within_limits t
PartIsWithinLimits (optional_by key) within_limits t = (t ≡ absent) ⊎ within_limits t
PartIsWithinLimits addition within_limits t = (t ≢ absent) × within_limits t
PartIsWithinLimits (default_by key d) within_limits t = Same t d ⊎ within_limits t

-- The times whose written text is read back: UTCTime has two digits of the year and no fraction, the others have four
-- digits of the year.
abbrev pub IsCarriedTime : Kind → Tree → Type 0
IsCarriedTime utc_time t = (m : Moment) → t ≡ instant m → CarriedUtc m
IsCarriedTime generalized_time t = (m : Moment) → t ≡ instant m → CarriedDay m.day
IsCarriedTime date t = (d : Day) → t ≡ on_day d → CarriedDay d
IsCarriedTime kind t = Unit {0}

-- A string has fewer than 2 ^ 64 bits, and the depth suffices for its segments.
abbrev pub LeafIsWithinLimits : Family → Codec → Kind → ℕ → Tree → Type 0
LeafIsWithinLimits plain_family rule kind depth t = Unit {0}
LeafIsWithinLimits bit_family rule kind depth t = (bs : List Bool) → t ≡ bits bs → (length bs < 2 ^ 64) × (IsCer rule → 7992 < length bs → 0 < depth)
LeafIsWithinLimits named_family rule kind depth t = (bs : List Bool) → t ≡ bits bs → (length bs < 2 ^ 64) × (IsCer rule → 7992 < length bs → 0 < depth)
LeafIsWithinLimits text_family rule kind depth t = IsCarriedTime kind t × ((octets : List ℕ) → WritesText kind octets t → IsCer rule → 1000 < length octets → 0 < depth)

pub record IsOneEncoding (t : Tree) : Type 0 where
  pub octets : List ℕ
  pub is : t ≡ numbers octets
  pub tag : Tag
  pub bit : Bool
  pub contents : List ℕ
  pub frame : Frame loose_form octets tag bit [] (definite contents)

-- One encoding, whose tag is none for which P holds. The tag is spelled as the rule asks, since a reader has to know it.
pub record IsUnknownValue (rule : Codec) (P : Tag → Type 0) (u : Tree) : Type 0 where
  pub one : IsOneEncoding u
  pub tag : Tag
  pub next : NextTag (form rule) one.octets tag
  pub other : P tag → ⊥

-- Unknown values of a SET, in the order of their tags, in which they are read back.
abbrev pub AreUnknownValues : Codec → (Tag → Type 0) → List Tree → Type 0
AreUnknownValues rule P us = EachOf (IsUnknownValue rule P) us × ((bs : List (List ℕ)) × Each (λ u b. u ≡ numbers b) us bs × AreInTagOrder bs)

-- The tree isn't written.
abbrev pub IsUnwritten : Presence → Tree → Type 0
IsUnwritten required t = ⊥
IsUnwritten (optional_by key) t = t ≡ absent
IsUnwritten addition t = t ≡ absent
IsUnwritten (default_by key d) t = Same t d

-- What is written first of these parts is an unknown value, of these octets.
abbrev pub BeginsUnknown : Parts → List Tree → List ℕ → Type 0
BeginsUnknown (part presence s ps) (t ∷ ts) b = ((s ≡ unknown) × (us : Tree) × (t ≡ joined (numbers b) us)) ⊎ (IsUnwritten presence t × BeginsUnknown ps ts b)
BeginsUnknown ps ts b = ⊥

-- No part that isn't written is taken for present where an unknown value is what is written next.
abbrev pub NoneTaken : Codec → Parts → List Tree → Type 0
NoneTaken rule (part presence s ps) (t ∷ ts) =
    (IsUnwritten presence t → (b : List ℕ) → BeginsUnknown ps ts b → IsLeftOut (form rule) (sought_in presence s) false b) × NoneTaken rule ps ts
NoneTaken rule ps ts = Unit {0}

-- The limits of a carried value: the depth, counted down from 128, suffices, open types, times and additions are within
-- their limits, and no unknown value is taken for a part.
unfoldable mutual
  pub IsWithinLimits : Codec → Shape → ℕ → Tree → Type 0
  IsWithinLimits rule (leaf kind tag bounds) depth t = LeafIsWithinLimits (family kind) rule kind depth t
  IsWithinLimits rule (any tag) depth t = IsOneEncoding t
  IsWithinLimits rule (prefix tag s) depth t = (0 < depth) × IsWithinLimits rule s (depth - 1) t
  IsWithinLimits rule (choice ps) depth t = ChosenIsWithinLimits rule 0 ps depth t
  IsWithinLimits rule (open_choice ps) depth t = ChosenIsWithinLimits rule 0 ps depth t ⊎ ((u : Tree) × (t ≡ chosen (count ps) u) × IsUnknownValue rule (IsFirstOf ps) u)
  IsWithinLimits rule (option tag s) depth t = (t ≡ absent) ⊎ IsWithinLimits rule s depth t
  IsWithinLimits rule (seq tag ps) depth t = (0 < depth) × (ts : List Tree) × (t ≡ items ts) × AreWithinLimits rule ps (depth - 1) ts × NoneTaken rule ps ts
  IsWithinLimits rule (set tag ps) depth t = (0 < depth) × (ts : List Tree) × (t ≡ items ts) × AreWithinLimits rule ps (depth - 1) ts
  IsWithinLimits rule (sorted_set extensible tag ps) depth t = (0 < depth) × (ts : List Tree) × (us : List Tree) × IsSetTree extensible ts us t × AreWithinLimits rule ps (depth - 1) ts
      × AreUnknownValues rule (IsFirstOf ps) us
  IsWithinLimits rule (list tag s size) depth t = (0 < depth) × (ts : List Tree) × (t ≡ items ts) × EachOf (IsWithinLimits rule s (depth - 2)) ts
  IsWithinLimits rule (set_of tag s size) depth t = (0 < depth) × (ts : List Tree) × (t ≡ set_elements (items ts)) × EachOf (IsWithinLimits rule s (depth - 2)) ts
  IsWithinLimits rule unknown depth t = (us : List Tree) × (t ≡ items us) × EachOf IsOneEncoding us

  pub AreWithinLimits : Codec → Parts → ℕ → List Tree → Type 0
  AreWithinLimits rule none depth ts = ts ≡ []
  AreWithinLimits rule (part presence s ps) depth ts = (t : Tree) × (us : List Tree) × (ts ≡ t ∷ us) × PartIsWithinLimits presence (IsWithinLimits rule s depth) t × AreWithinLimits rule ps depth us

  pub ChosenIsWithinLimits : Codec → ℕ → Parts → ℕ → Tree → Type 0
  ChosenIsWithinLimits rule k none depth t = ⊥
  ChosenIsWithinLimits rule k (part presence s ps) depth t = ((u : Tree) × (t ≡ chosen k u) × IsWithinLimits rule s depth u) ⊎ ChosenIsWithinLimits rule (suc k) ps depth t

-- The value is written under the rule, and is read back under it.
pub record Carried (rule : Codec) (s : Shape) (t : Tree) : Type 0 where
  pub octets : List ℕ
  pub is : Bytes rule s t octets
  pub within_limits : IsWithinLimits rule s 128 t

-- Shapes of types and trees of values.
use Rattle.std.specs.Prelude.{◌≡◌, ℕ, suc, ◌+◌, ◌≤◌, ◌⊎◌, List, [], ◌∷◌, ◌++◌, Bool, true, false, ℤ, ◌≤ℤ◌, Option, Some, None, IfSome, if◌then◌else◌, IsPermutation}
use Rattle.rasn_types.specs.Calendar.{Day, Moment}
use Rattle.rasn_types.specs.Tags.{Tag, is_eoc}
use Rattle.rasn_types.specs.declared.types.constraints.Bounded.{Bounded}
use Rattle.rasn_types.specs.declared.types.constraints.Bounded.TheVariants.{None as Free, Single, Range}
pub use Rattle.rasn_types.specs.declared.types.constraints.Bound.{Bound}
pub use Rattle.rasn_types.specs.declared.types.constraints.Constraints.{Constraints}

-- What a value means. A list of trees is a chain of `joined` that ends in `done`.
pub data Tree : Type 0 where
  number : ℤ → Tree
  bits : List Bool → Tree
  numbers : List ℕ → Tree
  instant : Moment → Tree
  on_day : Day → Tree
  done : Tree
  joined : Tree → Tree → Tree
  set_elements : Tree → Tree
  chosen : ℕ → Tree → Tree
  absent : Tree

abbrev pub items : List Tree → Tree
items [] = done
items (t ∷ ts) = joined t (items ts)

-- The trees of a SET's parts and, last, one of its unknown values. Without an extension marker there are none of these.
abbrev pub IsSetTree : Bool → List Tree → List Tree → Tree → Type 0
IsSetTree true ts us t = t ≡ items (ts ++ (items us ∷ []))
IsSetTree false ts us t = (us ≡ []) × (t ≡ items ts)

-- Equality of trees, except that the order of set elements doesn't count.
abbrev pub Same : Tree → Tree → Type 0
Same (number z) u = u ≡ number z
Same (bits bs) u = u ≡ bits bs
Same (numbers ns) u = u ≡ numbers ns
Same done u = u ≡ done
Same (joined t ts) u = (v : Tree) × (vs : Tree) × (u ≡ joined v vs) × Same t v × Same ts vs
Same (set_elements ts) u = (vs : List Tree) × (ws : List Tree) × (u ≡ set_elements (items ws)) × IsPermutation vs ws × Same ts (items vs)
Same (chosen k t) u = (v : Tree) × (u ≡ chosen k v) × Same t v
Same (instant m) u = u ≡ instant m
Same (on_day d) u = u ≡ on_day d
Same absent u = u ≡ absent

-- The whole numbers that a type holds: all, or those between two ends, which are included.
pub data Interval : Type 0 where
  every : Interval
  between : ℤ → ℤ → Interval

abbrev pub IsIn : Interval → ℤ → Type 0
IsIn every z = Unit {0}
IsIn (between low high) z = (low ≤ℤ z) × (z ≤ℤ high)

-- `named_bits` is a BIT STRING whose bits have names: trailing 0 bits don't count (X.680 22.7). `time_text` is the
-- characters of a TIME or a DURATION, `time_digits` so many digits: those of a TIME-OF-DAY or a DATE-TIME (X.690 8.26).
pub data Kind : Type 0 where
  boolean null object_identifier bit_string named_bits octet_string : Kind
  integer : Interval → Kind
  enumerated : List ℤ → Kind
  fixed : ℕ → Kind
  numeric printable visible ia5 any_octets bmp universal utf8 : Kind
  real time_text : Kind
  time_digits : ℕ → Kind
  utc_time generalized_time date : Kind

abbrev pub IsWithin : {X : Type 0} → (X → X → Type 0) → Bounded X → X → Type 0
IsWithin le Free x = Unit {0}
IsWithin le (Single y) x = x ≡ y
IsWithin le (Range start end) x = IfSome start (λ l. le l x) × IfSome end (λ h. le x h)

-- The bound holds, or is extensible.
abbrev pub Admits : {X : Type 0} → (X → X → Type 0) → Option (Bound X) → X → Type 0
Admits le None x = Unit {0}
Admits le (Some bound) x = (bound.extensible ≡ true) ⊎ IsWithin le bound.constraint x

-- The bound holds of a size, or of one that is larger: of bits with some number of trailing 0 bits.
abbrev pub AdmitsPadded : Option (Bound ℕ) → ℕ → Type 0
AdmitsPadded bound size = (zeros : ℕ) × Admits ◌≤◌ bound (size + zeros)

-- The range of a bound, even if the bound is extensible.
abbrev pub constraint_of : {X : Type 0} → Option (Bound X) → Bounded X
constraint_of None = Free
constraint_of (Some bound) = bound.constraint

-- What a part that may be left out is recognized by: its own tag if it has one, or any of its first tags.
pub data Key : Type 0 where
  own_tag first_tags : Key

-- A default has its tree. An addition has an explicit tag; it is read unless the contents are empty.
pub data Presence : Type 0 where
  required addition : Presence
  optional_by : Key → Presence
  default_by : Key → Tree → Presence

abbrev pub optional : Presence
optional = optional_by own_tag

abbrev pub default : Tree → Presence
default d = default_by own_tag d

-- The presences of a CHOICE, which has no tag of its own, before other parts.
abbrev pub optional_choice : Presence
optional_choice = optional_by first_tags

abbrev pub default_choice : Tree → Presence
default_choice d = default_by first_tags d

-- `any None` is an open type without a tag. The tag of `option` is the one that is looked for. `unknown` is any number
-- of values up to the end of the contents: those that a SEQUENCE with an extension marker doesn't name (X.680 25).
-- `open_choice` has an extension marker: a value with a tag that is none of its parts' is unknown (X.680 29).
-- `sorted_set` is a SET that is written in the order of its tags, whatever the order of its parts. It may have an
-- extension marker: components with a tag that is none of its parts' are unknown then (X.680 27).
mutual
  pub data Shape : Type 0 where
    leaf : Kind → Tag → Constraints → Shape
    any : Option Tag → Shape
    prefix : Tag → Shape → Shape
    choice open_choice : Parts → Shape
    option : Option Tag → Shape → Shape
    seq : Tag → Parts → Shape
    set : Tag → Parts → Shape
    sorted_set : Bool → Tag → Parts → Shape
    list : Tag → Shape → Option (Bound ℕ) → Shape
    set_of : Tag → Shape → Option (Bound ℕ) → Shape
    unknown : Shape

  -- The parts of a SEQUENCE or a SET, or the alternatives of a CHOICE, which are all required.
  pub data Parts : Type 0 where
    none : Parts
    part : Presence → Shape → Parts → Parts

abbrev pub presences : Parts → List Presence
presences none = []
presences (part presence s parts) = presence ∷ presences parts

-- How many parts there are. An unknown value has this number, after those of the parts.
abbrev pub count : Parts → ℕ
count none = 0
count (part presence s parts) = suc (count parts)

-- The tag that all values of the shape begin with, if there is one.
abbrev pub own : Shape → Option Tag
own (leaf kind tag bounds) = Some tag
own (any tag) = tag
own (prefix tag s) = Some tag
own (choice parts) = None
own (open_choice parts) = None
own (option tag s) = own s
own (seq tag parts) = Some tag
own (set tag parts) = Some tag
own (sorted_set extensible tag parts) = Some tag
own (list tag s size) = Some tag
own (set_of tag s size) = Some tag
own unknown = None

abbrev pub IsTagOf : Option Tag → Tag → Type 0
IsTagOf None n = Unit {0}
IsTagOf (Some tag) n = n ≡ tag

-- A CHOICE, with an extension marker or without one.
abbrev pub choice_by : Bool → Parts → Shape
choice_by true parts = open_choice parts
choice_by false parts = choice parts

-- The tags that values of the shape may begin with. Unknown values of a SEQUENCE have none of their own: what precedes
-- them isn't told from them by a tag. An unknown alternative has any tag.
abbrev mutual
  pub IsFirst : Shape → Tag → Type 0
  IsFirst (leaf kind tag bounds) n = n ≡ tag
  IsFirst (any tag) n = IsTagOf tag n
  IsFirst (prefix tag s) n = n ≡ tag
  IsFirst (choice parts) n = IsFirstOf parts n
  IsFirst (open_choice parts) n = Unit {0}
  IsFirst (option tag s) n = IsFirst s n
  IsFirst (seq tag parts) n = n ≡ tag
  IsFirst (set tag parts) n = n ≡ tag
  IsFirst (sorted_set extensible tag parts) n = n ≡ tag
  IsFirst (list tag s size) n = n ≡ tag
  IsFirst (set_of tag s size) n = n ≡ tag
  IsFirst unknown n = ⊥

  pub IsFirstOf : Parts → Tag → Type 0
  IsFirstOf none n = ⊥
  IsFirstOf (part presence s parts) n = IsFirst s n ⊎ IsFirstOf parts n

-- What the next tag has to be if a value isn't left out: this tag, or any tag if there is none; or one of these tags.
pub data Sought : Type 1 where
  one_tag : Option Tag → Sought
  any_of : (Tag → Type 0) → Sought

abbrev pub sought_by : Key → Shape → Sought
sought_by own_tag s = one_tag (own s)
sought_by first_tags s = any_of (IsFirst s)

abbrev pub sought_in : Presence → Shape → Sought
sought_in required s = one_tag (own s)
sought_in addition s = one_tag (own s)
sought_in (optional_by key) s = sought_by key s
sought_in (default_by key d) s = sought_by key s

-- The tag that is looked for: universal 0 means none.
abbrev pub looked_for : Tag → Option Tag
looked_for tag = if is_eoc tag then None else Some tag

-- The shape under another outermost tag and other constraints: an implicit tag replaces the outermost one
-- (X.680 31.2.7). A CHOICE has no tag to replace, and universal 0 removes the tag of an open type.
abbrev pub tagged_as : Tag → Constraints → Shape → Shape
tagged_as t c (leaf kind tag bounds) = leaf kind t c
tagged_as t c (any tag) = any (looked_for t)
tagged_as t c (prefix tag s) = prefix t s
tagged_as t c (choice parts) = choice parts
tagged_as t c (open_choice parts) = open_choice parts
tagged_as t c (option tag s) = option (looked_for t) (tagged_as t c s)
tagged_as t c (seq tag parts) = seq t parts
tagged_as t c (set tag parts) = set t parts
tagged_as t c (sorted_set extensible tag parts) = sorted_set extensible t parts
tagged_as t c (list tag s size) = list t s c.size
tagged_as t c (set_of tag s size) = set_of t s c.size
tagged_as t c unknown = unknown

-- Each value of the shape has octets. There may be no unknown values.
abbrev mutual
  pub IsAlwaysPresent : Shape → Type 0
  IsAlwaysPresent (leaf kind tag bounds) = Unit {0}
  IsAlwaysPresent (any tag) = Unit {0}
  IsAlwaysPresent (prefix tag s) = Unit {0}
  IsAlwaysPresent (choice parts) = AreAlwaysPresent parts
  IsAlwaysPresent (open_choice parts) = AreAlwaysPresent parts
  IsAlwaysPresent (option tag s) = ⊥
  IsAlwaysPresent (seq tag parts) = Unit {0}
  IsAlwaysPresent (set tag parts) = Unit {0}
  IsAlwaysPresent (sorted_set extensible tag parts) = Unit {0}
  IsAlwaysPresent (list tag s size) = Unit {0}
  IsAlwaysPresent (set_of tag s size) = Unit {0}
  IsAlwaysPresent unknown = ⊥

  pub AreAlwaysPresent : Parts → Type 0
  AreAlwaysPresent none = Unit {0}
  AreAlwaysPresent (part presence s parts) = IsAlwaysPresent s × AreAlwaysPresent parts

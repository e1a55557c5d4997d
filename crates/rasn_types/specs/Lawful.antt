-- Lawful shapes.
use Rattle.std.specs.Prelude.{◌≡◌, ◌⊎◌, ◌≢◌, false, Option, Some, None}
use Rattle.rasn_types.specs.Tags.{tag_bit, Tag, eoc, IsTagBelow}
use Rattle.rasn_types.specs.Shapes.{Shape, leaf, any, prefix, choice, open_choice, option, seq, set, sorted_set, list, set_of, unknown, Parts, part, own, IsFirst, IsFirstOf, Key, own_tag, first_tags, Presence, required, addition, optional_by, default_by, IsAlwaysPresent}
use Rattle.rasn_types.specs.Shapes.Parts.{none}
use Rattle.rasn_types.specs.Grammar.{Family, plain_family, bit_family, named_family, text_family, family}

abbrev pub AreDisjoint : (Tag → Type 0) → (Tag → Type 0) → Type 0
AreDisjoint P Q = (n : Tag) → P n → Q n → ⊥

-- No two parts begin with the same tag.
abbrev pub AreDistinguished : Parts → Type 0
AreDistinguished none = Unit {0}
AreDistinguished (part presence s ps) = AreDisjoint (IsFirst s) (IsFirstOf ps) × AreDistinguished ps

-- The first tags of the parts, up to and including the next part that is always present.
abbrev pub IsFirstBehind : Parts → Tag → Type 0
IsFirstBehind none n = ⊥
IsFirstBehind (part required s ps) n = IsFirst s n
IsFirstBehind (part addition s ps) n = IsFirst s n
IsFirstBehind (part (optional_by key) s ps) n = IsFirst s n ⊎ IsFirstBehind ps n
IsFirstBehind (part (default_by key d) s ps) n = IsFirst s n ⊎ IsFirstBehind ps n

-- The shape is no open type without a tag, no unknown values, and no CHOICE with an extension marker, whose unknown
-- alternative has any tag.
abbrev pub HasTag : Shape → Type 0
HasTag (any None) = ⊥
HasTag unknown = ⊥
HasTag (open_choice ps) = ⊥
HasTag s = Unit {0}

-- The own tag of a part that may be left out distinguishes it from what follows. A part without an own tag is the last.
abbrev pub IsDistinguished : Option Tag → Parts → Type 0
IsDistinguished (Some tag) ps = IsFirstBehind ps tag → ⊥
IsDistinguished None ps = ps ≡ none

-- The part is recognized by its own tag; or none of its first tags is a first tag of what follows, which doesn't begin
-- with any tag at all.
abbrev pub IsRecognized : Key → Shape → Parts → Type 0
IsRecognized own_tag s ps = IsDistinguished (own s) ps
IsRecognized first_tags s ps = HasTag s × (((n : Tag) → IsFirstBehind ps n) → ⊥) × AreDisjoint (IsFirst s) (IsFirstBehind ps)

abbrev pub MayBeLeftOut : Presence → Shape → Parts → Type 0
MayBeLeftOut required s ps = Unit {0}
MayBeLeftOut addition s ps = Unit {0}
MayBeLeftOut (optional_by key) s ps = IsRecognized key s ps
MayBeLeftOut (default_by key d) s ps = IsRecognized key s ps

-- No string and no time has a tag that is always written as constructed.
abbrev pub IsBitFree : Family → Tag → Type 0
IsBitFree plain_family tag = Unit {0}
IsBitFree bit_family tag = tag_bit tag ≡ false
IsBitFree named_family tag = tag_bit tag ≡ false
IsBitFree text_family tag = tag_bit tag ≡ false

-- Unknown values are the last part of a SEQUENCE.
abbrev pub EndsUnknown : Presence → Shape → Parts → Type 0
EndsUnknown presence s ps = (presence ≡ required) × (s ≡ unknown) × (ps ≡ none)

unfoldable mutual
  pub IsLawful : Shape → Type 0
  IsLawful (leaf kind tag bounds) = (tag ≢ eoc) × IsBitFree (family kind) tag
  IsLawful (any None) = Unit {0}
  IsLawful (any (Some tag)) = tag ≢ eoc
  IsLawful (prefix tag s) = (tag ≢ eoc) × IsAlwaysPresent s × IsLawful s
  IsLawful (choice ps) = AreAlternatives ps × AreDistinguished ps
  IsLawful (open_choice ps) = AreAlternatives ps × AreDistinguished ps
  IsLawful (option tag s) = (tag ≡ own s) × IsAlwaysPresent s × IsLawful s
  IsLawful (seq tag ps) = (tag ≢ eoc) × AreLawfulInOrder ps
  IsLawful (set tag ps) = (tag ≢ eoc) × AreLawfulByTag ps
  IsLawful (sorted_set extensible tag ps) = (tag ≢ eoc) × AreComponents ps × AreDistinguished ps
  IsLawful (list tag s size) = (tag ≢ eoc) × IsAlwaysPresent s × IsLawful s
  IsLawful (set_of tag s size) = (tag ≢ eoc) × IsAlwaysPresent s × IsLawful s
  IsLawful unknown = ⊥

  pub AreAlternatives : Parts → Type 0
  AreAlternatives none = Unit {0}
  AreAlternatives (part presence s ps) = (presence ≡ required) × HasTag s × IsAlwaysPresent s × IsLawful s × AreAlternatives ps

  pub AreLawfulInOrder : Parts → Type 0
  AreLawfulInOrder none = Unit {0}
  AreLawfulInOrder (part presence s ps) = EndsUnknown presence s ps ⊎ (IsAlwaysPresent s × IsLawful s × MayBeLeftOut presence s ps × AreLawfulInOrder ps)

  -- The parts are in ascending order of tags, in ranges that don't overlap.
  pub AreLawfulByTag : Parts → Type 0
  AreLawfulByTag none = Unit {0}
  AreLawfulByTag (part presence s ps) = (presence ≢ addition) × HasTag s × IsAlwaysPresent s × IsLawful s
      × ((m n : Tag) → IsFirst s m → IsFirstOf ps n → IsTagBelow m n) × AreLawfulByTag ps

  -- Parts in any order, each of which has a tag.
  pub AreComponents : Parts → Type 0
  AreComponents none = Unit {0}
  AreComponents (part presence s ps) = (presence ≢ addition) × HasTag s × IsAlwaysPresent s × IsLawful s × AreComponents ps

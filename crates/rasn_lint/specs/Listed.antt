-- That no departure inside a value of an open type, or inside unknown values, is left out.
use Rattle.std.specs.Prelude.{◌≡◌, ◌≢◌, ◌⊎◌, ◌+◌, ◌<◌, ℕ, zero, suc, List, [], ◌∷◌, ◌++◌, length, take, Option, Some, Vec}
use Rattle.std.specs.Global.{Global}
use Rattle.rasn_types.specs.declared.types.tag.Tag.{Tag}
use Rattle.rasn_types.specs.declared.error.decode.DecodeError.{DecodeError}
use Rattle.rasn_schema.specs.declared.types.«Type».{«Type»}
use Rattle.rasn_schema.specs.declared.types.«Type».TheVariants.{Any, Unknown}
use Rattle.rasn_dynamic.specs.declared.span.Span.{Span}
use Rattle.rasn_lint.specs.declared.by_schema.OpenTypes.{OpenTypes}
use Rattle.rasn_lint.specs.declared.by_schema.OpenTypes.TheVariants.{Unexamined, Examined}
use Rattle.rasn_lint.specs.declared.departure.Departure.{Departure}
use Rattle.rasn_lint.specs.declared.departure.Aspect.{Aspect}
use Rattle.rasn_lint.specs.declared.departure.Aspect.TheVariants.{Header, Contents, Place}
use Rattle.rasn_lint.specs.declared.open.Pending.{Pending}
use Rattle.rasn_lint.specs.Header.{is_constructed, IsTagFault, IsLengthFault}
use Rattle.rasn_lint.specs.Universal.{rule_of}
use Rattle.rasn_lint.specs.Untyped.{HasOpen, HasContents, HasNoContents, HasNoForm, HasWrongContents, IsFollowedBy, IsUnread, FollowsAfter, IsValueIn, LeadsInto}
use Rattle.rasn_lint.specs.WellFormed.{IsWellFormed}

-- Of what the octets begin with the identifier or length octets depart; or the form isn't that of the tag, or BER doesn't
-- read it.
abbrev pub HasHeaderFault : List ℕ → Type 0
HasHeaderFault octets = ((e : DecodeError) × (IsTagFault octets (Some e) ⊎ IsLengthFault octets (Some e)))
    ⊎ (((tag : Tag) × (contents : List ℕ) × HasContents tag octets contents × HasNoForm (rule_of tag) (is_constructed octets)) ⊎ (HasNoContents octets ⊎ IsUnread octets))

-- Of the encoding that the octets begin with the header departs, or the contents do, although the form is allowed.
abbrev pub DepartsItself : Aspect → List ℕ → Type 0
DepartsItself Header octets = HasHeaderFault octets
DepartsItself Contents octets = (tag : Tag) × (contents : List ℕ) × HasContents tag octets contents × HasWrongContents tag (is_constructed octets) contents
DepartsItself Place octets = ⊥

-- The indices lead from the encoding that the octets begin with to one that departs itself. BER reads those on the way, and
-- those before them: nothing is said of what follows octets that it can't read.
abbrev pub LeadsToOne : List ℕ → List ℕ → Aspect → Type 0
LeadsToOne indices octets aspect = (there : List ℕ) × (there ≢ []) × LeadsInto indices octets there × DepartsItself aspect there

-- The same from the encoding of an open type with these octets; or octets follow it there.
abbrev pub DepartsIn : List ℕ → List ℕ → Aspect → Type 0
DepartsIn octets indices aspect = LeadsToOne indices octets aspect ⊎ ((indices ≡ []) × (aspect ≡ Contents) × (rest : List ℕ) × (rest ≢ []) × IsFollowedBy octets rest)

-- One of the departures has these indices and this aspect.
abbrev pub HasOne : List ℕ → Aspect → List Departure → Type 0
HasOne indices aspect [] = ⊥
HasOne indices aspect (d ∷ ds) = ((v : Vec ℕ Global) × (d.inner ≡ Some v) × (v.items ≡ indices) × (d.aspect ≡ aspect)) ⊎ HasOne indices aspect ds

-- Whatever departs in an open type with these octets has one.
abbrev pub HasAll : List ℕ → List Departure → Type 0
HasAll octets ds = (indices : List ℕ) (aspect : Aspect) → DepartsIn octets indices aspect → HasOne indices aspect ds

-- So has whatever departs in one of unknown values with these octets.
abbrev pub HasAllOfEach : List ℕ → List Departure → Type 0
HasAllOfEach octets ds = (value : List ℕ) → IsValueIn octets value → (IsWellFormed value → ⊥) → HasAll value ds

-- The same of a part that is a value of an open type whose octets aren't well formed, or unknown values.
abbrev pub HasAllInside : Span → Option «Type» → List Departure → Type 0
HasAllInside e (Some (Any tag)) ds = (inside : List ℕ) → HasOpen tag e.octets.now inside → (IsWellFormed inside → ⊥) → HasAll inside ds
HasAllInside e (Some Unknown) ds = HasAllOfEach e.octets.now ds
HasAllInside e ty ds = Unit {0}

abbrev pub HasAllIf : OpenTypes → Span → Option «Type» → List Departure → Type 0
HasAllIf Unexamined e ty ds = Unit {0}
HasAllIf Examined e ty ds = HasAllInside e ty ds

-- ---- unknown values that are still to be looked at

-- These octets alone follow the encoding.
abbrev pub IsOnlyRest : List ℕ → List ℕ → Type 0
IsOnlyRest octets rest = (other : List ℕ) → IsFollowedBy octets other → other ≡ rest

-- The octets begin with the first encoding, as BER skips it, and the others alone follow it.
pub record IsSplit (octets first others : List ℕ) : Type 0 where
  pub is : octets ≡ first ++ others
  pub follows : IsFollowedBy octets others
  pub only : IsOnlyRest octets others

-- Whatever departs in one of the values has been listed, besides those that were listed before, or is in one of the rest.
abbrev pub IsListedUpTo : List ℕ → List ℕ → List Departure → List Departure → Type 0
IsListedUpTo octets rest before list = (ds : List Departure) → list ≡ before ++ ds → (value : List ℕ) → IsValueIn octets value → (IsWellFormed value → ⊥) → HasAll value ds ⊎ IsValueIn rest value

-- ---- encodings that are still to be looked at

-- In so many encodings, to the last of which so many indices of the path lead, the octets at this index are still to be
-- looked at, and lead to what departs at the indices.
abbrev pub OwesAt : List ℕ → ℕ → ℕ → List ℕ → List ℕ → Aspect → Type 0
OwesAt path zero zero octets indices aspect = DepartsIn octets indices aspect
OwesAt path zero (suc k) octets indices aspect = (octets ≢ []) × (indices ≡ []) × (aspect ≡ Contents)
OwesAt path (suc d) k octets indices aspect = (j : ℕ) × (first : List ℕ) × (js : List ℕ) × (indices ≡ take d path ++ (k + j) ∷ js) × FollowsAfter j octets first × LeadsToOne js first aspect

abbrev pub Owes : List ℕ → Pending → List ℕ → Aspect → Type 0
Owes path p indices aspect = OwesAt path p.depth p.index p.octets.now indices aspect

abbrev pub OneOwes : List ℕ → List Pending → List ℕ → Aspect → Type 0
OneOwes path [] indices aspect = ⊥
OneOwes path (p ∷ ps) indices aspect = Owes path p indices aspect ⊎ OneOwes path ps indices aspect

abbrev pub octets_left : List Pending → ℕ
octets_left [] = 0
octets_left (p ∷ ps) = length p.octets.now + octets_left ps

abbrev pub AreSome : List Pending → Type 0
AreSome [] = Unit {0}
AreSome (p ∷ ps) = (p.octets.now ≢ []) × AreSome ps

-- From the encoding to which the path leads, these indices lead to what departs.
abbrev pub OwesWithin : List ℕ → List ℕ → List ℕ → Aspect → Type 0
OwesWithin path octets indices aspect = (js : List ℕ) × (indices ≡ path ++ js) × LeadsToOne js octets aspect

-- What departs at the first of the encodings, and inside it, was appended or is kept for later, besides the others.
pub record IsLookedInto (path : List ℕ) (octets : List ℕ) (list new_list : List Departure) (old new : List Pending) : Type 0 where
  pub listed : (ds : List Departure) → new_list ≡ list ++ ds → (indices : List ℕ) (aspect : Aspect) → OwesWithin path octets indices aspect → HasOne indices aspect ds ⊎ OneOwes path new indices aspect
  pub kept : (indices : List ℕ) (aspect : Aspect) → OneOwes path old indices aspect → OneOwes path new indices aspect
  pub some : AreSome old → AreSome new
  pub fewer : (rest : List ℕ) → IsFollowedBy octets rest → IsOnlyRest octets rest → octets_left new + length rest < octets_left old + length octets

pub record IsLooked (path : List ℕ) (next : Pending) (list new_list : List Departure) (old new : List Pending) : Type 0 where
  pub listed : (ds : List Departure) → new_list ≡ list ++ ds → (indices : List ℕ) (aspect : Aspect) → Owes path next indices aspect → HasOne indices aspect ds ⊎ OneOwes path new indices aspect
  pub kept : (indices : List ℕ) (aspect : Aspect) → OneOwes path old indices aspect → OneOwes path new indices aspect
  pub some : AreSome old → AreSome new
  pub fewer : next.octets.now ≢ [] → octets_left new < octets_left old + length next.octets.now

-- Octets inside a value of an open type, and where they are.
use Rattle.std.specs.Prelude.{◌≡◌, ◌≢◌, ◌⊎◌, ◌+◌, ◌-◌, ◌^◌, ◌<◌, ◌≤◌, ℕ, zero, suc, List, [], ◌∷◌, ◌++◌, length, take, min, Option, Some, None, Vec}
use Rattle.std.specs.Global.{Global}
use Rattle.std.specs.List.{AllByRecursion}
use Rattle.rasn_types.specs.declared.types.codec.Codec.TheVariants.{Ber, Der}
use Rattle.rasn_types.specs.declared.types.tag.Tag.{Tag}
use Rattle.rasn_types.specs.declared.error.decode.DecodeError.{DecodeError}
use Rattle.rasn.specs.Headline.{IsExtraData}
use Rattle.rasn_de.specs.Skipping.{Skipped}
use Rattle.rasn_dynamic.specs.declared.span.Span.{Span}
use Rattle.rasn_lint.specs.declared.departure.Departure.{Departure}
use Rattle.rasn_lint.specs.declared.departure.Aspect.{Aspect}
use Rattle.rasn_lint.specs.declared.departure.Aspect.TheVariants.{Contents as OfContents}
use Rattle.rasn_lint.specs.declared.open.Contents.{Contents}
use Rattle.rasn_lint.specs.declared.open.Pending.{Pending}
use Rattle.rasn_dynamic.specs.Walk.{path_at_depth}
use Rattle.rasn_lint.specs.Refusals.{IsUnreadable}
use Rattle.rasn_lint.specs.Untyped.{IsFollowedBy, IsValueIn, HoldsAt, LeadsInto, Departs}
use Rattle.rasn_lint.specs.WellFormed.{IsWellFormed}

-- So many octets end the complete encoding with which the octets begin: two if its length is indefinite, and then
-- skipping it takes steps (8.1.5).
pub record IsEndLen (octets : List ℕ) (n : ℕ) : Type 0 where
  pub definite : (rest : List ℕ) → Skipped Ber octets 0 rest → n ≡ 0
  pub indefinite : (k : ℕ) (rest : List ℕ) → Skipped Ber octets k rest → 0 < k → n ≡ 2

-- The same of a value of an open type. Without a tag, its octets are those of the encoding that it holds.
abbrev pub IsEndOf : Option Tag → List ℕ → ℕ → Type 0
IsEndOf None octets n = n ≡ 0
IsEndOf (Some tag) octets n = IsEndLen octets n

-- The contents are in the octets, after so many.
abbrev pub IsAfterHeader : List ℕ → Contents → Type 0
IsAfterHeader octets c = (header : List ℕ) × (end : List ℕ) × (octets ≡ header ++ (c.octets.now ++ end)) × (length header ≡ c.header_len)

-- These octets, of which there are some, follow the encoding of the open type with the octets inside; or they are all of
-- them, and no encoding that is well formed. The error is that of octets after a value, or that of the reader.
abbrev pub IsOfWhole : List ℕ → List ℕ → DecodeError → Type 0
IsOfWhole inside octets e = ((octets ≢ []) × IsFollowedBy inside octets × IsExtraData Der octets e) ⊎ ((octets ≡ inside) × (IsWellFormed inside → ⊥) × IsUnreadable octets e)

-- The indices lead from the encoding of the open type with the octets inside to what these octets begin with, and that
-- departs itself; or there are no indices, and it departs by being in the open type.
abbrev pub DepartsThere : List ℕ → List ℕ → List ℕ → Aspect → DecodeError → Type 0
DepartsThere inside indices octets aspect e = (LeadsInto indices inside octets × Departs aspect octets e)
    ⊎ ((indices ≡ []) × (aspect ≡ OfContents) × IsOfWhole inside octets e)

-- The octets are in those of the part, from whose start e.left are left to the end of the message: from theirs so many.
abbrev pub IsFoundIn : Span → List ℕ → ℕ → Type 0
IsFoundIn e octets left = (front : List ℕ) × (back : List ℕ) × (e.octets.now ≡ front ++ (octets ++ back)) × (left ≡ e.left - length front)

-- The departure is one of the part with this path, in a message of so many octets, at octets that are in those of the
-- part. Its indices lead to what departs there, in the open type with the octets inside.
pub record IsInside (len : ℕ) (e : Span) (path inside : List ℕ) (d : Departure) : Type 0 where
  pub id : d.refusal.id ≡ e.id
  pub steps : d.refusal.steps.items ≡ path
  pub indices : Vec ℕ Global
  pub inner : d.inner ≡ Some indices
  pub octets : List ℕ
  pub left : ℕ
  pub found : IsFoundIn e octets left
  pub offset : d.refusal.offset ≡ len - left
  pub departs : DepartsThere inside indices.items octets d.aspect d.refusal.error

-- The departure is inside one of unknown values; or these aren't encodings, one after the other.
abbrev pub IsOfUnknown : ℕ → Span → List ℕ → Departure → Type 0
IsOfUnknown len e path d = (inside : List ℕ) × (IsValueIn e.octets.now inside ⊎ (inside ≡ e.octets.now)) × IsInside len e path inside d

-- Some are appended.
abbrev pub GrowsInside : ℕ → Span → List ℕ → List ℕ → List Departure → List Departure → Type 0
GrowsInside len e path inside old new = (ds : List Departure) × (new ≡ old ++ ds) × AllByRecursion (IsInside len e path inside) ds

abbrev pub GrowsUnknown : ℕ → Span → List ℕ → List Departure → List Departure → Type 0
GrowsUnknown len e path old new = (ds : List Departure) × (new ≡ old ++ ds) × AllByRecursion (IsOfUnknown len e path) ds

-- ---- encodings that are still to be looked at

-- In so many encodings, to the last of which so many indices of the path lead, the octets are at this index: they are all
-- those of the open type, those after its first encoding, or some in the contents of an encoding inside.
abbrev pub IsThere : List ℕ → List ℕ → ℕ → ℕ → List ℕ → Type 0
IsThere inside path zero k octets = ((k ≡ 0) × (octets ≡ inside)) ⊎ ((0 < k) × (octets ≢ []) × IsFollowedBy inside octets)
IsThere inside path (suc d) k octets = (d ≤ length path) × (holder : List ℕ) × LeadsInto (take d path) inside holder × HoldsAt k holder octets

pub record IsPending (e : Span) (inside path : List ℕ) (p : Pending) : Type 0 where
  pub found : IsFoundIn e p.octets.now p.left
  pub size : p.index + length p.octets.now < 2 ^ 64
  pub there : IsThere inside path p.depth p.index p.octets.now

-- Each is in as many encodings as those before it, or in more.
abbrev pub AllPending : Span → List ℕ → List ℕ → List Pending → Type 0
AllPending e inside path [] = Unit {0}
AllPending e inside path (p ∷ ps) = IsPending e inside path p × AllByRecursion (λ q. p.depth ≤ q.depth) ps × AllPending e inside path ps

-- The path leads to the first of these encodings, and the others are in no more encodings than they are.
pub record IsReached (e : Span) (inside path : List ℕ) (p : Pending) (others : List Pending) : Type 0 where
  pub pending : IsPending e inside path p
  pub path_is : path ≡ path_at_depth p.depth path p.index
  pub below : AllByRecursion (λ q. q.depth ≤ p.depth) others
  pub all : AllPending e inside path others

-- They follow the encoding of the open type.
abbrev pub IsExtra : Pending → Type 0
IsExtra p = (p.depth ≡ 0) × (0 < p.index)

-- They are those after the first of the others, which these octets follow.
pub record IsAfter (next : Pending) (rest : List ℕ) (p : Pending) : Type 0 where
  pub octets : p.octets.now ≡ rest
  pub index : p.index ≡ min (next.index + 1) (2 ^ 64 - 1)
  pub depth : p.depth ≡ next.depth
  pub left : p.left ≡ next.left - (length next.octets.now - length rest)

-- They are kept, unless there are none.
abbrev pub IsKept : Pending → List Pending → List Pending → Type 0
IsKept p old new = ((p.octets.now ≡ []) × (new ≡ old)) ⊎ ((p.octets.now ≢ []) × (new ≡ old ++ p ∷ []))

-- What is returned of a message.
use Rattle.std.specs.Prelude.{◌≡◌, ◌≢◌, ◌⊎◌, ◌↔◌, ◌-◌, ℕ, List, [], ◌∷◌, length, drop, true, false, Option, Some, None, Result, Ok, Err, MatchOption, slice_get}
use Rattle.std.specs.List.{AllByRecursion}
use Rattle.std.specs.List.Sorted.{IsNonDecreasingBy, IsPermutation}
use Rattle.rasn_types.specs.declared.types.codec.Codec.TheVariants.{Ber, Der}
use Rattle.rasn_types.specs.declared.types.tag.Tag.{Tag}
use Rattle.rasn_types.specs.Errors.{IsOutOfMemory}
use Rattle.rasn_types.specs.Shapes.{Tree}
use Rattle.rasn_types.specs.Grammar.{Reads, top}
use Rattle.rasn.specs.Headline.{IsExtraData}
use Rattle.rasn_schema.specs.declared.types.«Type».{«Type»}
use Rattle.rasn_schema.specs.declared.types.«Type».TheVariants.{Any, Unknown}
use Rattle.rasn_dynamic.specs.declared.span.Span.{Span}
use Rattle.rasn_dynamic.specs.declared.message.MessageParts.{MessageParts}
use Rattle.rasn_dynamic.specs.declared.refusal.Refusal.{Refusal}
use Rattle.rasn_dynamic.specs.Entry.{IsCheckedUpTo, shape_of}
use Rattle.rasn_dynamic.specs.Faults.{IsLocated}
use Rattle.rasn_dynamic.specs.Walk.{AreParts, ArePartsOf, path_after}
use Rattle.rasn_lint.specs.declared.by_schema.LintError.{LintError}
use Rattle.rasn_lint.specs.declared.by_schema.LintError.TheVariants.{Refused, Remainder, OutOfMemory}
use Rattle.rasn_lint.specs.declared.by_schema.OpenTypes.{OpenTypes}
use Rattle.rasn_lint.specs.declared.by_schema.OpenTypes.TheVariants.{Unexamined, Examined}
use Rattle.rasn_lint.specs.declared.departure.Departure.{Departure}
use Rattle.rasn_lint.specs.Judged.{AreJudged}
use Rattle.rasn_lint.specs.Open.{IsInside, IsOfUnknown}
use Rattle.rasn_lint.specs.Refusals.{aspect_of}
use Rattle.rasn_lint.specs.Untyped.{HasOpen}
use Rattle.rasn_lint.specs.WellFormed.{IsWellFormed, AreEncodings}

-- DER reads all of the octets as a value of the type.
abbrev pub IsDer : List «Type» → ℕ → List ℕ → Type 0
IsDer types id input = (t : Tree) × Reads Der (shape_of types id) 128 (top Der) input t []

-- If the part is a value of an open type, its octets are well formed; if it is unknown values, each of them is.
abbrev pub HasFormed : List «Type» → Span → Type 0
HasFormed types e = ((tag : Tag) (inside : List ℕ) → slice_get types e.id.0 ≡ Some (Any tag) → HasOpen tag e.octets.now inside → IsWellFormed inside)
    × (slice_get types e.id.0 ≡ Some Unknown → AreEncodings e.octets.now)

-- If open types are looked into, the octets of each are well formed.
abbrev pub AreFormed : OpenTypes → List «Type» → List Span → Type 0
AreFormed Unexamined types parts = Unit {0}
AreFormed Examined types parts = AllByRecursion (HasFormed types) parts

-- Nothing is to be mended: DER reads the message, and its open types are well formed, if they are looked into.
abbrev pub IsClean : OpenTypes → List «Type» → ℕ → List ℕ → List Span → Type 0
IsClean opens types id input parts = IsDer types id input × AreFormed opens types parts

-- The refusal is that of this rest of the input, at its start.
pub record IsRemainderOf (input rest : List ℕ) (r : Refusal) : Type 0 where
  pub extra : IsExtraData Der rest r.error
  pub offset : r.offset ≡ length input - length rest
  pub steps : r.steps.items ≡ []

-- DER reads no value of the type there, and this is where and why; or octets follow the value, and this is their number.
abbrev pub IsAtFault : List «Type» → ℕ → List ℕ → Refusal → Type 0
IsAtFault types id input r = IsLocated types Der id input r ⊎ ((t : Tree) × (rest : List ℕ) × Reads Der (shape_of types id) 128 (top Der) input t rest × IsRemainderOf input rest r)

-- The departure is that refusal, of what its error is about.
abbrev pub IsRefusal : List «Type» → ℕ → List ℕ → Departure → Type 0
IsRefusal types id input d = IsAtFault types id input d.refusal × (d.inner ≡ None) × (d.aspect ≡ aspect_of d.refusal.error.kind)

-- The departures of the parts, by their types if DER doesn't read the message; if it doesn't although no part departs,
-- that it doesn't, with the place that its reader has.
abbrev pub AreAll : OpenTypes → List «Type» → ℕ → List ℕ → List Span → List Departure → Type 0
AreAll opens types id input parts ds = (IsDer types id input × AreJudged true opens types (length input) [] [] parts ds)
    ⊎ ((IsDer types id input → ⊥) × ((AreJudged false opens types (length input) [] [] parts ds × (ds ≢ []))
    ⊎ (AreJudged false opens types (length input) [] [] parts [] × (d : Departure) × (ds ≡ d ∷ []) × IsRefusal types id input d)))

-- the octets after the first of the parts, which is the whole value
abbrev pub rest_after : List Span → List ℕ → List ℕ
rest_after [] input = input
rest_after (e ∷ es) input = drop (length e.octets.now) input

-- where a departure is in the message
abbrev pub offset_of : Departure → ℕ
offset_of d = d.refusal.offset

-- The list of a message, whose parts are those of one reading by BER of all of its octets: what was found, in the order of
-- its places.
pub record IsLint (opens : OpenTypes) (types : List «Type») (id : ℕ) (input : List ℕ) (ds : List Departure) : Type 0 where
  pub parts : MessageParts
  pub are_parts : ArePartsOf types Ber id input parts
  pub whole : are_parts.last.rest ≡ []
  pub found : List Departure
  pub all : AreAll opens types id input parts.list.items found
  pub same : IsPermutation found ds
  pub in_order : IsNonDecreasingBy offset_of ds
  pub clean : (ds ≡ []) ↔ IsClean opens types id input parts.list.items

-- BER doesn't read the message, or memory ran out; or octets follow the value that BER reads.
abbrev pub IsNoLint : List «Type» → ℕ → List ℕ → LintError → Type 0
IsNoLint types id input (Refused r) = IsOutOfMemory r.error.kind ⊎ (IsLocated types Ber id input r × IsCheckedUpTo Ber (shape_of types id) input (Err r.error))
IsNoLint types id input (Remainder n) = (t : Tree) × (rest : List ℕ) × Reads Ber (shape_of types id) 128 (top Ber) input t rest × (length rest ≡ n) × (rest ≢ [])
IsNoLint types id input OutOfMemory = Unit {0}

-- What is looked into, if DER reads the message: the parts of that reading.
abbrev pub AreLookedInto : OpenTypes → List «Type» → ℕ → List ℕ → (List Span → Type 0) → Type 0
AreLookedInto Unexamined types id input P = Unit {0}
AreLookedInto Examined types id input P = (parts : List Span) × AreParts types Der id input [] parts × P parts

-- The octets of the part's open type aren't well formed, and the departure is inside them; or the part is unknown values of
-- which one isn't.
abbrev pub IsIllFormedAt : List «Type» → ℕ → List ℕ → Span → Departure → Type 0
IsIllFormedAt types len path e d = ((slice_get types e.id.0 ≡ Some Unknown) × (AreEncodings e.octets.now → ⊥) × IsOfUnknown len e path d)
    ⊎ ((tag : Tag) × (inside : List ℕ) × (slice_get types e.id.0 ≡ Some (Any tag)) × HasOpen tag e.octets.now inside × (IsWellFormed inside → ⊥) × IsInside len e path inside d)

-- The departure is inside the first of the parts whose open type isn't well formed, where the path leads to the part
-- before them.
abbrev pub IsFirstIn : List «Type» → ℕ → List ℕ → List Span → Departure → Type 0
IsFirstIn types len path [] d = ⊥
IsFirstIn types len path (e ∷ es) d = IsIllFormedAt types len (path_after path e) e d ⊎ (HasFormed types e × IsFirstIn types len (path_after path e) es d)

-- Each of the parts is well formed inside; or this is the first departure there.
abbrev pub IsFirstOr : List «Type» → ℕ → List ℕ → List Span → Option Departure → Type 0
IsFirstOr types len path parts found = MatchOption found (AllByRecursion (HasFormed types) parts) (IsFirstIn types len path parts)

-- The first thing to be mended, if there is one: why DER doesn't read the message, or what departs inside an open type.
abbrev pub IsFirstDeparture : OpenTypes → List «Type» → ℕ → List ℕ → Option Departure → Type 0
IsFirstDeparture opens types id input None = IsDer types id input × AreLookedInto opens types id input (AllByRecursion (HasFormed types))
IsFirstDeparture Unexamined types id input (Some d) = (IsDer types id input → ⊥) × IsRefusal types id input d
IsFirstDeparture Examined types id input (Some d) = ((IsDer types id input → ⊥) × IsRefusal types id input d)
    ⊎ (IsDer types id input × AreLookedInto Examined types id input (λ parts. IsFirstIn types (length input) [] parts d))

-- Nothing is to be mended; or this is the first thing, or memory ran out.
abbrev pub IsCheckOf : OpenTypes → List «Type» → ℕ → List ℕ → Result (Unit {0}) Departure → Type 0
IsCheckOf opens types id input (Ok u) = IsFirstDeparture opens types id input None
IsCheckOf opens types id input (Err d) = IsOutOfMemory d.refusal.error.kind ⊎ IsFirstDeparture opens types id input (Some d)

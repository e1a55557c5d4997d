-- What departs of the parts of a message.
use Rattle.std.specs.Prelude.{◌≡◌, ◌⊎◌, ◌↔◌, ◌-◌, ℕ, List, [], ◌∷◌, ◌++◌, Vec, Bool, true, false, Option, Some, None, Result, Ok, Err, slice_get}
use Rattle.std.specs.List.{AllByRecursion}
use Rattle.std.specs.Borrow.{Bor}
use Rattle.std.specs.Global.{Global}
use Rattle.rasn_types.specs.declared.types.tag.Tag.{Tag}
use Rattle.rasn_de.specs.Any.{BorrowsOpenType}
use Rattle.rasn_de.specs.State.{State}
use Rattle.rasn_types.specs.declared.error.decode.DecodeError.{DecodeError}
use Rattle.rasn_types.specs.Tags.{eoc}
use Rattle.rasn_schema.specs.declared.types.«Type».{«Type»}
use Rattle.rasn_schema.specs.declared.types.«Type».TheVariants.{Leaf, Enumerated, Any, Tagged, Choice, Sequence, Set, SequenceOf, SetOf, Unknown}
use Rattle.rasn_dynamic.specs.declared.span.Span.{Span}
use Rattle.rasn_dynamic.specs.Walk.{path_after}
use Rattle.rasn_lint.specs.declared.departure.Departure.{Departure}
use Rattle.rasn_lint.specs.declared.departure.Aspect.{Aspect}
use Rattle.rasn_lint.specs.declared.departure.Aspect.TheVariants.{Header, Contents, Place}
use Rattle.rasn_lint.specs.declared.judge.Faults.{Faults}
use Rattle.rasn_lint.specs.declared.judge.Site.{Site}
use Rattle.rasn_lint.specs.declared.trail.Step.{Step}
use Rattle.rasn_lint.specs.Trail.{trail_after, holder_in, before_in}
use Rattle.rasn_lint.specs.Place.{order_if, default_if, type_of, IsOrderFault, IsDefaultFault}
use Rattle.rasn_lint.specs.Header.{has_own_header, is_constructed, IsTagFault, IsFormFault, IsLengthFault}
use Rattle.rasn_lint.specs.Leaf.{IsContentsFault}
use Rattle.rasn_lint.specs.Encoding.{start}
use Rattle.rasn_lint.specs.Listed.{HasAllIf}
use Rattle.rasn_lint.specs.Open.{IsInside, IsOfUnknown}
use Rattle.rasn_lint.specs.Untyped.{HasOpen}
use Rattle.rasn_lint.specs.WellFormed.{IsWellFormed, AreEncodings}
use Rattle.rasn_lint.specs.declared.by_schema.OpenTypes.{OpenTypes}
use Rattle.rasn_lint.specs.declared.by_schema.OpenTypes.TheVariants.{Unexamined, Examined}

-- ---- departures at a site

-- The path is the same.
abbrev pub IsCopied : Option (Bor (List ℕ)) → Option (Vec ℕ Global) → Type 0
IsCopied None copy = copy ≡ None
IsCopied (Some path) copy = (v : Vec ℕ Global) × (copy ≡ Some v) × (v.items ≡ path.now)

-- The site of the part with this path, or of an encoding inside it, in a message of so many octets, of which so many are
-- left from its start.
pub record IsSiteAt (len left : ℕ) (e : Span) (path : List ℕ) (inner : Option (Bor (List ℕ))) (site : Site) : Type 0 where
  pub offset : site.offset ≡ len - left
  pub id : site.id ≡ e.id
  pub path_is : site.path.now ≡ path
  pub inner_is : site.inner ≡ inner

pub record IsDepartureAt (site : Site) (aspect : Aspect) (error : DecodeError) (d : Departure) : Type 0 where
  pub error_is : d.refusal.error ≡ error
  pub offset : d.refusal.offset ≡ site.offset
  pub id : d.refusal.id ≡ site.id
  pub steps : d.refusal.steps.items ≡ site.path.now
  pub whole : d.refusal.is_cut ≡ false
  pub aspect_is : d.aspect ≡ aspect
  pub inner : IsCopied site.inner d.inner

-- One departure if there is an error, else none.
abbrev pub AreNoted : Site → Aspect → Option DecodeError → List Departure → Type 0
AreNoted site aspect None ds = ds ≡ []
AreNoted site aspect (Some error) ds = (d : Departure) × (ds ≡ d ∷ []) × IsDepartureAt site aspect error d

-- Those of these errors, in this order.
pub record AreListed (site : Site) (f : Faults) (ds : List Departure) : Type 0 where
  pub order : List Departure
  pub default : List Departure
  pub tag : List Departure
  pub form : List Departure
  pub length : List Departure
  pub contents : List Departure
  pub are : ds ≡ order ++ (default ++ (tag ++ (form ++ (length ++ contents))))
  pub in_order : AreNoted site Place f.order order
  pub by_default : AreNoted site Place f.default default
  pub by_tag : AreNoted site Header f.tag tag
  pub by_form : AreNoted site Header f.form form
  pub by_length : AreNoted site Header f.length length
  pub in_contents : AreNoted site Contents f.contents contents

-- ---- those of a part

-- There is an error exactly if DER refuses a value of an open type, and it is the reader's.
abbrev pub IsRefusedBy : {T : Type 0} → Result T DecodeError → Option DecodeError → Type 0
IsRefusedBy (Ok v) f = f ≡ None
IsRefusedBy (Err e) f = f ≡ Some e

abbrev pub IsAnyRefusal : List ℕ → Option DecodeError → Type 0
IsAnyRefusal octets f = (r : Result (Bor (List ℕ)) DecodeError) × (new : State) × BorrowsOpenType eoc (start octets) r new × IsRefusedBy r f

-- If open types are looked into, there is none: it is found there.
abbrev pub IsAnyFault : OpenTypes → List ℕ → Option DecodeError → Type 0
IsAnyFault Unexamined octets f = IsAnyRefusal octets f
IsAnyFault Examined octets f = f ≡ None

abbrev pub IsOpenFault : OpenTypes → «Type» → List ℕ → Option DecodeError → Type 0
IsOpenFault opens (Leaf kind tag c names) octets f = f ≡ None
IsOpenFault opens (Enumerated tag ns) octets f = f ≡ None
IsOpenFault opens (Any tag) octets f = IsAnyFault opens octets f
IsOpenFault opens (Tagged tag id) octets f = f ≡ None
IsOpenFault opens (Choice name ks) octets f = f ≡ None
IsOpenFault opens (Sequence tag ps) octets f = f ≡ None
IsOpenFault opens (Set name tag ps) octets f = f ≡ None
IsOpenFault opens (SequenceOf tag id c) octets f = f ≡ None
IsOpenFault opens (SetOf tag id c) octets f = f ≡ None
IsOpenFault opens Unknown octets f = f ≡ None

-- The header is judged where the value has one of its own.
abbrev pub AreHeaderFaults : Bool → OpenTypes → «Type» → List ℕ → Option DecodeError → Option DecodeError → Option DecodeError → Type 0
AreHeaderFaults true opens ty octets tag form length = IsTagFault octets tag × IsFormFault ty (is_constructed octets) form × IsLengthFault octets length
AreHeaderFaults false opens ty octets tag form length = (tag ≡ None) × (form ≡ None) × IsOpenFault opens ty octets length

-- The errors of a part: in its place, in its header, and in its contents.
pub record AreFaultsOf (opens : OpenTypes) (types : List «Type») (trail : List Step) (e : Span) (ty : «Type») (f : Faults) : Type 0 where
  pub order : IsOrderFault (order_if (type_of types (holder_in trail e))) e.octets.now (before_in trail e) f.order
  pub default : IsDefaultFault types e.id.0 e.octets.now (default_if (type_of types (holder_in trail e)) e.index) f.default
  pub header : AreHeaderFaults (has_own_header ty) opens ty e.octets.now f.tag f.form f.length
  pub contents : IsContentsFault types e.id.0 ty e.octets.now f.contents

abbrev pub AreDepartures : OpenTypes → List «Type» → ℕ → List Step → List ℕ → Span → Option «Type» → List Departure → Type 0
AreDepartures opens types len trail path e None ds = ds ≡ []
AreDepartures opens types len trail path e (Some ty) ds = (f : Faults) × (site : Site) × AreFaultsOf opens types trail e ty f × IsSiteAt len e.left e path None site × AreListed site f ds

-- ---- open types

-- There are none exactly if the octets of the open type are well formed.
abbrev pub AreInside : Tag → ℕ → List ℕ → Span → List Departure → Type 0
AreInside tag len path e ds = (inside : List ℕ) × HasOpen tag e.octets.now inside × ((ds ≡ []) ↔ IsWellFormed inside) × AllByRecursion (IsInside len e path inside) ds

-- There are none exactly if unknown values are well-formed encodings, one after the other.
abbrev pub AreOfUnknown : ℕ → List ℕ → Span → List Departure → Type 0
AreOfUnknown len path e ds = ((ds ≡ []) ↔ AreEncodings e.octets.now) × AllByRecursion (IsOfUnknown len e path) ds

-- The same of a part of any type; of one that isn't open, and where BER finds no octets, there are none.
abbrev pub AreOpenDepartures : ℕ → List ℕ → Span → Option «Type» → List Departure → Type 0
AreOpenDepartures len path e (Some (Any tag)) ds = AreInside tag len path e ds ⊎ (((inside : List ℕ) → HasOpen tag e.octets.now inside → ⊥) × (ds ≡ []))
AreOpenDepartures len path e (Some Unknown) ds = AreOfUnknown len path e ds
AreOpenDepartures len path e ty ds = ds ≡ []

-- ---- all parts

-- The departures of a part by its type, unless DER reads the message, and then those inside it, if open types are
-- looked into.
abbrev pub TypedUnless : Bool → OpenTypes → List «Type» → ℕ → List Step → List ℕ → Span → Option «Type» → List Departure → Type 0
TypedUnless true opens types len trail path e o ds = ds ≡ []
TypedUnless false opens types len trail path e o ds = AreDepartures opens types len trail path e o ds

abbrev pub OpenIf : OpenTypes → ℕ → List ℕ → Span → Option «Type» → List Departure → Type 0
OpenIf Unexamined len path e o ds = ds ≡ []
OpenIf Examined len path e o ds = AreOpenDepartures len path e o ds

pub record AreOfPart (is_read : Bool) (opens : OpenTypes) (types : List «Type») (len : ℕ) (trail : List Step) (path : List ℕ) (e : Span) (ds : List Departure) : Type 0 where
  pub typed : List Departure
  pub inside : List Departure
  pub are : ds ≡ typed ++ inside
  pub by_type : TypedUnless is_read opens types len trail path e (slice_get types e.id.0) typed
  pub by_octets : OpenIf opens len path e (slice_get types e.id.0) inside
  pub complete : HasAllIf opens e (slice_get types e.id.0) inside

-- Those of parts, one after the other, where the trail and the path lead to the part before them.
abbrev pub AreJudged : Bool → OpenTypes → List «Type» → ℕ → List Step → List ℕ → List Span → List Departure → Type 0
AreJudged is_read opens types len trail path [] ds = ds ≡ []
AreJudged is_read opens types len trail path (e ∷ es) ds = (mine : List Departure) × (others : List Departure) × (ds ≡ mine ++ others)
    × AreOfPart is_read opens types len trail (path_after path e) e mine × AreJudged is_read opens types len (trail_after trail e) (path_after path e) es others

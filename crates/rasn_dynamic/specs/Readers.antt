-- What the functions leave that read values of a type, and their contents.
use Rattle.std.specs.Prelude.{◌≡◌, ℕ, Bool, true, List, Option, None, Result, Ok, Err, IfOk, IfErr}
use Rattle.rasn_types.specs.declared.error.decode.DecodeError.{DecodeError}
use Rattle.rasn_types.specs.Shapes.{Shape, Tree}
use Rattle.rasn_de.specs.State.{State, Call}
use Rattle.rasn_schema.specs.declared.types.«Type».{«Type»}
use Rattle.rasn_schema.specs.declared.types.«Type».TheVariants.{Leaf, Enumerated, Any, Tagged, Choice, Sequence, Set, SequenceOf, SetOf, Unknown}
use Rattle.rasn_schema.specs.declared.value.Value.{Value}
use Rattle.rasn_schema.specs.Shapes.{shape_of_type, type_by}
use Rattle.rasn_schema.specs.Trees.{tree_of}
use Rattle.rasn_dynamic.specs.declared.walk.Refused.{Refused}
use Rattle.rasn_dynamic.specs.declared.trace.UnreadValue.{UnreadValue}
use Rattle.rasn_dynamic.specs.declared.span.Spans.{Spans}
use Rattle.rasn_dynamic.specs.Inside.{DecodesTree}
use Rattle.rasn_dynamic.specs.Making.{Making}
use Rattle.rasn_dynamic.specs.Typed.{element_count, IsSized, DecodesContents, DecodesType}
use Rattle.rasn_dynamic.specs.Faults.{IsFaultIn, IsFaultOf, IsAnyPart, IsMoved, Told, StopsInside, FailsItself}
use Rattle.rasn_dynamic.specs.Listed.{Lists, Inside, ContentsListed, ValueListed}
use Rattle.rasn_dynamic.specs.Times.{Covers, FitsFromBy, FitsFrom}

-- The outcome is passed on. If it is that contents weren't read, n octets after them are counted.
abbrev pub IsCounted : ℕ → Result ℕ Refused → Option UnreadValue → Result ℕ Refused → Option UnreadValue → Type 0
IsCounted n (Ok k) old (Ok m) new = (m ≡ k) × (new ≡ old)
IsCounted n (Ok k) old (Err q) new = ⊥
IsCounted n (Err p) old (Ok m) new = ⊥
IsCounted n (Err p) old (Err q) new = IsMoved n old new

-- It is read so, and holds n elements.
abbrev pub DecodesCounted : Call Tree → ℕ → Call Tree
DecodesCounted read n old (Ok t) new = (n ≡ element_count t) × read old (Ok t) new
DecodesCounted read n old (Err e) new = read old (Err e) new

-- the number that is returned, if one is
abbrev pub count_of : Result ℕ Refused → ℕ
count_of (Ok n) = n
count_of (Err r) = 0

-- The contents of a value of the type are read. If they are elements, there are n.
abbrev pub DecodesHeld : (ℕ → Shape) → «Type» → ℕ → Call Tree
DecodesHeld f (Leaf kind tag c names) n = DecodesContents f (Leaf kind tag c names)
DecodesHeld f (Enumerated tag ns) n = DecodesContents f (Enumerated tag ns)
DecodesHeld f (Any tag) n = DecodesContents f (Any tag)
DecodesHeld f Unknown n = DecodesContents f Unknown
DecodesHeld f (Tagged tag k) n = DecodesContents f (Tagged tag k)
DecodesHeld f (Choice name ks) n = DecodesContents f (Choice name ks)
DecodesHeld f (Sequence tag ps) n = DecodesContents f (Sequence tag ps)
DecodesHeld f (Set name tag ps) n = DecodesContents f (Set name tag ps)
DecodesHeld f (SequenceOf tag k c) n = DecodesCounted (DecodesContents f (SequenceOf tag k c)) n
DecodesHeld f (SetOf tag k c) n = DecodesCounted (DecodesContents f (SetOf tag k c)) n

-- The number of elements is within the bound of the type, if it has one.
abbrev pub IsSizedAs : «Type» → State → ℕ → Result (Unit {0}) DecodeError → Type 0
IsSizedAs (Leaf kind tag c names) s n r = r ≡ Ok tt
IsSizedAs (Enumerated tag ns) s n r = r ≡ Ok tt
IsSizedAs (Any tag) s n r = r ≡ Ok tt
IsSizedAs Unknown s n r = r ≡ Ok tt
IsSizedAs (Tagged tag k) s n r = r ≡ Ok tt
IsSizedAs (Choice name ks) s n r = r ≡ Ok tt
IsSizedAs (Sequence tag ps) s n r = r ≡ Ok tt
IsSizedAs (Set name tag ps) s n r = r ≡ Ok tt
IsSizedAs (SequenceOf tag k c) s n r = IsSized c s n r
IsSizedAs (SetOf tag k c) s n r = IsSized c s n r

-- The contents of a value of the type are read as `read` says. A value that is kept fits the type, with its times. An error is by the
-- same rules; what is named then is a part that can't be read, and if nothing is, each part is read. The parts inside
-- are listed.
pub record ReadsContents (types : List «Type») (below : ℕ) (keep : Bool) (ty : «Type») (read : Call Tree)
    (old : State) (before : Spans) (r : Result Value DecodeError) (new : State) (fault : Option UnreadValue) (after : Spans) : Type 0 where
  pub exact : Making keep tree_of read old r new
  pub fits : keep ≡ true → (s : State) → Covers s old → IfOk r (FitsFromBy s (FitsFrom s types below) ty)
  pub rules : IfErr r (λ e. e.codec ≡ old.rule)
  pub told : Told (IsFaultIn types below (IsAnyPart (shape_of_type types below) ty old) old old) r fault
  pub itself : IfErr r (λ e. fault ≡ None → StopsInside (shape_of_type types below) ty old e)
  pub listed : IfOk r (λ v. Lists (λ b es. ContentsListed (shape_of_type types below) below (Inside types below) ty b old es) before after)

-- The same of a value of the type, with its header.
pub record ReadsType (types : List «Type») (below : ℕ) (keep : Bool) (ty : «Type»)
    (old : State) (before : Spans) (r : Result Value DecodeError) (new : State) (fault : Option UnreadValue) (after : Spans) : Type 0 where
  pub exact : Making keep tree_of (DecodesType (shape_of_type types below) ty) old r new
  pub reads : Making keep tree_of (DecodesTree (type_by (shape_of_type types below) ty)) old r new
  pub fits : keep ≡ true → (s : State) → Covers s old → IfOk r (FitsFromBy s (FitsFrom s types below) ty)
  pub rules : IfErr r (λ e. e.codec ≡ old.rule)
  pub told : Told (IsFaultOf types below ty old) r fault
  pub itself : IfErr r (λ e. fault ≡ None → FailsItself (shape_of_type types below) ty old e)
  pub listed : IfOk r (λ v. Lists (λ b es. ValueListed (shape_of_type types below) below (Inside types below) ty b old es) before after)

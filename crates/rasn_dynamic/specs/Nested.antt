-- CHOICEs directly in one another: which of them are gone into, and what is read of them.
use Rattle.std.specs.Prelude.{◌≡◌, ◌≢◌, ℕ, suc, Bool, true, false, List, [], ◌∷◌, ◌++◌, length, reverse, slice_get, Option, Some, Vec, String, Result, Ok, Err, IfOk, IfErr}
use Rattle.std.specs.Global.{Global}
use Rattle.std.specs.String.{string_bytes}
use Rattle.rasn_types.specs.declared.error.decode.DecodeError.{DecodeError}
use Rattle.rasn_types.specs.Errors.{IsOutOfMemory}
use Rattle.rasn_de.specs.State.{State}
use Rattle.rasn_schema.specs.declared.types.Alternative.{Alternative}
use Rattle.rasn_schema.specs.declared.types.«Type».{«Type»}
use Rattle.rasn_schema.specs.declared.types.«Type».TheVariants.{Choice}
use Rattle.rasn_schema.specs.declared.value.Value.{Value}
use Rattle.rasn_schema.specs.Shapes.{shape_of_type, IsReadable}
use Rattle.rasn_schema.specs.Trees.{tree_of}
use Rattle.rasn_schema.specs.Fitting.{IsChosen}
use Rattle.rasn_dynamic.specs.declared.nested.NextPart.{NextPart}
use Rattle.rasn_dynamic.specs.declared.nested.OuterChoice.{OuterChoice}
use Rattle.rasn_dynamic.specs.declared.nested.Nested.{Nested}
use Rattle.rasn_dynamic.specs.declared.trace.UnreadValue.{UnreadValue}
use Rattle.rasn_dynamic.specs.declared.span.Spans.{Spans}
use Rattle.rasn_dynamic.specs.Inside.{DecodesTree}
use Rattle.rasn_dynamic.specs.Making.{Making}
use Rattle.rasn_dynamic.specs.Faults.{IsFaultIn, IsOnly, IsNextAlternative, IsMarked, IsStepped, FailsAt, TellsOf}
use Rattle.rasn_dynamic.specs.Listed.{Lists, Inside, PartListed, IsNoted, IsFinished}
use Rattle.rasn_dynamic.specs.Times.{Covers, FitsFrom}

-- ---- a part whose type is a CHOICE

-- These are the alternatives of a CHOICE with this name.
abbrev pub IsChoiceOf : List ℕ → List Alternative → «Type» → Type 0
IsChoiceOf text l (Choice name ks) = (text ≡ string_bytes name) × (l ≡ ks.items)
IsChoiceOf text l _ = ⊥

abbrev pub IsChoiceHere : List «Type» → NextPart → List ℕ → List Alternative → Type 0
IsChoiceHere types part text l = (part.levels ≢ 0) × (ty : «Type») × (slice_get types part.id.0 ≡ Some ty) × IsChoiceOf text l ty

abbrev pub IsNoChoice : List «Type» → NextPart → Type 0
IsNoChoice types part = (text : List ℕ) (l : List Alternative) → IsChoiceHere types part text l → ⊥

-- ---- the way in

-- The part outer of some value, which is read in the state s, is a CHOICE, and the part inner is its alternative to which the next tag belongs. The
-- outer one was noted.
pub record IsAlternativeOf (types : List «Type») (s : State) (choice : OuterChoice) (outer : NextPart) (before : Spans) (inner : NextPart) (after : Spans) : Type 0 where
  pub deep : outer.levels ≡ suc inner.levels
  pub name : String Global
  pub alternatives : Vec Alternative Global
  pub found : slice_get types outer.id.0 ≡ Some (Choice name alternatives)
  pub chosen : Alternative
  pub next : IsNextAlternative (shape_of_type types inner.levels) alternatives.items s inner.index chosen
  pub id_is : inner.id ≡ chosen.type_id
  pub lawful : IsReadable (shape_of_type types outer.levels outer.id.0)
  pub same_id : choice.id ≡ outer.id
  pub same_index : choice.index ≡ outer.index
  pub left : choice.left ≡ length s.rest
  pub noted : IsNoted outer.id outer.index outer.levels s.rest before choice.place after

-- The CHOICEs lead from the part outer to the part inner, each directly in the next of the list.
abbrev pub LeadsInto : List «Type» → State → List OuterChoice → NextPart → Spans → NextPart → Spans → Type 0
LeadsInto types s [] outer before inner after = (inner ≡ outer) × (after ≡ before)
LeadsInto types s (choice ∷ choices) outer before inner after = (part : NextPart) × (spans : Spans)
    × LeadsInto types s choices outer before part spans × IsAlternativeOf types s choice part spans inner after

-- A value of the part's type can't be read, and it is the value itself that can't.
abbrev pub IsRefusedHere : List «Type» → State → NextPart → DecodeError → Type 0
IsRefusedHere types s part e = DecodesTree (shape_of_type types part.levels part.id.0) s (Err e) s × FailsAt types part.levels part.id.0 s e × (e.codec ≡ s.rule)

-- The next part is a CHOICE, and its alternative is the next part then; or it is none; or it can't be read.
abbrev pub GoesDown : List «Type» → State → Nested → Spans → Result Bool DecodeError → Nested → Spans → Type 0
GoesDown types s old before (Ok true) new after = (choice : OuterChoice) × (new.choices.items ≡ old.choices.items ++ choice ∷ [])
    × IsAlternativeOf types s choice old.part before new.part after × IsReadable (shape_of_type types new.part.levels new.part.id.0)
GoesDown types s old before (Ok false) new after = IsNoChoice types old.part × (new ≡ old) × (after ≡ before)
GoesDown types s old before (Err e) new after = (new.choices.items ≡ old.choices.items) × (new.part ≡ old.part) × IsRefusedHere types s old.part e

-- The CHOICEs lead from the part outer to the next part, which is none, or can't be read.
abbrev pub Descends : List «Type» → State → NextPart → Spans → Result (Unit {0}) DecodeError → Nested → Spans → Type 0
Descends types s outer before (Ok done) new after = LeadsInto types s (reverse new.choices.items) outer before new.part after
    × IsReadable (shape_of_type types new.part.levels new.part.id.0) × IsNoChoice types new.part
Descends types s outer before (Err e) new after = (spans : Spans) × LeadsInto types s (reverse new.choices.items) outer before new.part spans
    × IsRefusedHere types s new.part e

-- ---- the way out

-- A value of the part's type is read as the part, which is listed with those inside it; or something in it is named.
pub record ReadsPart (types : List «Type») (keep : Bool) (part : NextPart) (old : State) (before : Spans) (r : Result Value DecodeError) (new : State) (fault : Option UnreadValue) (after : Spans) : Type 0 where
  pub reads : Making keep tree_of (DecodesTree (shape_of_type types part.levels part.id.0)) old r new
  pub fits : keep ≡ true → (s : State) → Covers s old → IfOk r (FitsFrom s types part.levels part.id.0)
  pub rules : IfErr r (λ e. e.codec ≡ old.rule)
  pub told : TellsOf (IsFaultIn types part.levels (IsOnly part.index part.id.0 old) old old) r fault
  pub listed : IfOk r (λ v. Lists (λ b es. PartListed (shape_of_type types part.levels) part.levels (Inside types part.levels) part.id.0 part.index b old new es) before after)

-- The alternative with this index was read, then it is the value of the CHOICE, whose part is ended, unless memory runs out; or it wasn't. If there is
-- an error, the CHOICE is named, unless something inside it is.
abbrev pub Leaves : Bool → OuterChoice → ℕ → State → Result Value DecodeError → Option UnreadValue → Spans → Result Value DecodeError → Option UnreadValue → Spans → Type 0
Leaves keep choice index s (Ok v) old before (Ok w) new after = (keep ≡ true → IsChosen (λ k u. (k ≡ index) × (u ≡ v)) w) × (new ≡ old) × IsFinished choice.place s.rest before after
Leaves keep choice index s (Ok v) old before (Err e) new after = IsOutOfMemory e.kind × (e.codec ≡ s.rule)
    × (mid : Option UnreadValue) × IsMarked choice.id choice.left old mid × IsStepped choice.index mid new
Leaves keep choice index s (Err d) old before (Ok w) new after = ⊥
Leaves keep choice index s (Err d) old before (Err e) new after = (e ≡ d)
    × (mid : Option UnreadValue) × IsMarked choice.id choice.left old mid × IsStepped choice.index mid new

-- The CHOICEs lead from the part outer to a part with this index, and that is read.
abbrev pub ReadsWithin : List «Type» → Bool → NextPart → State → Spans → List OuterChoice → ℕ → Result Value DecodeError → State → Option UnreadValue → Spans → Type 0
ReadsWithin types keep outer s before choices index r new fault after = (inner : NextPart) × (spans : Spans) × (inner.index ≡ index)
    × LeadsInto types s choices outer before inner spans × ReadsPart types keep inner s spans r new fault after

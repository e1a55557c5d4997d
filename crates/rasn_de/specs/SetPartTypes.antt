-- The parts of a SET as types: what their slots contain while components are read, and what is made from them.
use Rattle.std.specs.Prelude.{◌≡◌, ◌≢◌, ◌⊎◌, ℕ, Bool, true, false, zero, suc, ◌+◌, List, [], ◌∷◌, ◌++◌, length, Contains, IfErr, Option, Some, None, Result, Ok, Err}
use Rattle.std.specs.Borrow.{Bor}
use Rattle.rasn_types.specs.declared.types.codec.Codec.{Codec}
use Rattle.rasn_types.specs.declared.types.tag.Tag.{Tag}
use Rattle.rasn_types.specs.declared.error.decode.DecodeError.{DecodeError}
use Rattle.rasn_types.specs.Errors.{IsOutOfMemory}
use Rattle.rasn_types.specs.Tags.{form, eoc}
use Rattle.rasn_types.specs.Framing.{NextTag}
use Rattle.rasn_types.specs.Shapes.{Tree, chosen, Shape, choice_by, set, sorted_set, IsSetTree, Parts, part, count, Presence, required, default_by, presences}
use Rattle.rasn_types.specs.Shapes.Parts.{none}
use Rattle.rasn_types.specs.Readings.{IsMissing, NoneOf, OneOf}
use Rattle.rasn_de.specs.State.{State, Call}
use Rattle.rasn_de.specs.Outcomes.{Got, refusal}
use Rattle.rasn_de.specs.NamedErrors.{IsNamedError, IsMissingField, IsDuplicateField}
use Rattle.rasn_de.specs.Decodes.{DecodesExactly, Decodes}
use Rattle.rasn_de.specs.Constructed.{sequence_header, DecodesInside}
use Rattle.rasn_de.specs.SequenceOf.{RefusesElement, DecodesInTurnFrom}
use Rattle.rasn_de.specs.Set.{DecodesIntoSlots, DecodesSetContents, AreMembers}
use Rattle.rasn_de.specs.Beyond.{Beyond}
use Rattle.rasn_types.specs.declared.types.any.Any.{Any}
use Rattle.rasn_de.specs.declared.ber.de.parser.ParseError.TheVariants.{OutOfMemory}
use Rattle.rasn_de.specs.Any.{DecodesOpenType}
use Rattle.rasn_de.specs.Steps.{IsErrorOf, PeeksTag}
use Rattle.rasn_de.specs.ValueErrors.{Errors, IsErrorByTag}
use Rattle.rasn_de.specs.AlternativeTypes.{ReadsNumberedBy, FailsAtAlternativeBy}

-- The tree of the value in a slot.
abbrev pub held_tree : {T : Type 0} → (T → Tree) → Option T → Option Tree
held_tree tree None = None
held_tree tree (Some v) = Some (tree v)

-- The octets of a borrowed name.
abbrev pub text : Bor (List ℕ) → List ℕ
text name = name.now

-- The name of part k, which is empty if there are too few names.
abbrev pub name_at : List (List ℕ) → ℕ → List ℕ
name_at [] k = []
name_at (n ∷ names) zero = n
name_at (n ∷ names) (suc k) = name_at names k

-- There is a part with the number k.
abbrev pub IsPart : ℕ → Parts → Type 0
IsPart k none = ⊥
IsPart zero (part p s ps) = Unit {0}
IsPart (suc k) (part p s ps) = IsPart k ps

-- The slots of these parts are empty.
abbrev pub AreEmpty : Parts → List (Option Tree) → Type 0
AreEmpty none held = held ≡ []
AreEmpty (part p s ps) held = (others : List (Option Tree)) × (held ≡ None ∷ others) × AreEmpty ps others

-- The slot of part k is filled.
abbrev pub IsFilled : List (Option Tree) → ℕ → Type 0
IsFilled [] k = ⊥
IsFilled (h ∷ held) zero = h ≢ None
IsFilled (h ∷ held) (suc k) = IsFilled held k

-- The slot of part k was empty, and now contains this tree.
abbrev pub IsPlacedAt : List (Option Tree) → ℕ → Tree → List (Option Tree) → Type 0
IsPlacedAt [] k u held = ⊥
IsPlacedAt (h ∷ before) zero u held = (h ≡ None) × (held ≡ Some u ∷ before)
IsPlacedAt (h ∷ before) (suc k) u held = (others : List (Option Tree)) × (held ≡ h ∷ others) × IsPlacedAt before k u others

-- The component is read as part k, whatever number the first part has. An unknown component has the number after those of
-- the parts.
pub record ReadsPartAt (extensible : Bool) (ps : Parts) (k : ℕ) (u : Tree) (old new : State) : Type 0 where
  pub from : (j : ℕ) → DecodesExactly (ReadsNumberedBy extensible j ps) old (Got (chosen (j + k) u) new.rest) new

-- The component can't be read as any part.
pub record RefusesPart (extensible : Bool) (ps : Parts) (e : DecodeError) (old new : State) : Type 0 where
  pub from : (j : ℕ) → DecodesExactly (ReadsNumberedBy extensible j ps) old (refusal e.kind) new

-- An empty slot is filled with a value; or it is filled already, and the name of the part is returned.
abbrev pub IsPlaced : {T : Type 0} → Option T → T → List ℕ → Option (Bor (List ℕ)) → Option T → Type 0
IsPlaced before v name None after = (before ≡ None) × (after ≡ Some v)
IsPlaced before v name (Some repeated) after = (before ≢ None) × (after ≡ before) × (text repeated ≡ name)

-- The value is the one in the slot or, if the slot is empty, one that equals the default. An error means that the slot
-- is empty and an allocation failed.
abbrev pub IsOrDefault : {T : Type 0} → (T → Tree) → Tree → Option T → Result T DecodeError → Type 0
IsOrDefault tree d slot (Ok v) = (slot ≡ Some v) ⊎ ((slot ≡ None) × (tree v ≡ d))
IsOrDefault tree d slot (Err e) = IsOutOfMemory e.kind × (slot ≡ None)

-- With an extension marker, a component with the tag of no part is unknown, and is read as an open type without a tag. It
-- is kept after those before it, for which an allocation may fail.
abbrev pub FailsToKeep : State → DecodeError → State → Type 0
FailsToKeep old e new = (a : Any) × DecodesOpenType eoc old (Ok a) new × IsErrorOf OutOfMemory new e

-- The component with this tag can't be read, as an alternative can't, or isn't kept.
abbrev pub FailsAtSetPart : Bool → Parts → List ℕ → Tag → State → DecodeError → State → Type 0
FailsAtSetPart extensible ps name tag old e new = FailsAtAlternativeBy extensible ps name tag old e new ⊎ ((extensible ≡ true) × FailsToKeep old e new)

-- A component is read as read_choice reads one of these parts. If it is no part, and there is no extension marker, the
-- error contains the name of the type, and nothing of the component is consumed. An error of a part is one of those for
-- its tag.
abbrev pub DecodesOneOf : Bool → Parts → List ℕ → (Tag → Errors) → Call Tree
DecodesOneOf extensible ps name errors old r new = Decodes (choice_by extensible ps) (λ (t : Tree). t) old r new
    × IfErr r (λ e. ((PeeksTag old (Err e) × (new ≡ old)) ⊎ ((tag : Tag) × NextTag (form old.rule) old.rest tag × FailsAtSetPart extensible ps name tag old e new)) × IsErrorByTag errors old e new)

module _ (extensible : Bool) (ps : Parts) (names : List (List ℕ)) (before : List (Option Tree)) (unknown : List Tree) (old : State) where
  -- The next component is read as a part, and fills the slot of the part if that is empty, or else the name of the part
  -- is returned; or it is one more unknown component; or it can't be read.
  abbrev pub DecodesPlaced : Result (Option (Bor (List ℕ))) DecodeError → State → List (Option Tree) → List Tree → Type 0
  DecodesPlaced (Ok None) new held more = ((k : ℕ) × (u : Tree) × IsPlacedAt before k u held × (more ≡ unknown) × ReadsPartAt extensible ps k u old new)
      ⊎ ((u : Tree) × (held ≡ before) × (more ≡ unknown ++ u ∷ []) × ReadsPartAt extensible ps (count ps) u old new)
  DecodesPlaced (Ok (Some repeated)) new held more =
      (k : ℕ) × (u : Tree) × IsFilled before k × (held ≡ before) × (more ≡ unknown) × (text repeated ≡ name_at names k) × ReadsPartAt extensible ps k u old new
  DecodesPlaced (Err e) new held more = RefusesPart extensible ps e old new

  abbrev pub DecodesComponent : ℕ → Tree → State → Type 0
  DecodesComponent k u new = Decodes (choice_by extensible ps) (λ (t : Tree). t) old (Ok (chosen k u)) new × (length new.rest ≢ length old.rest)

  -- One more component is read in the same way, and consumes octets; or it can't be read, or consumes nothing.
  abbrev pub DecodesNext : Result (Option (Bor (List ℕ))) DecodeError → State → List (Option Tree) → List Tree → Type 0
  DecodesNext (Ok None) new held more = ((k : ℕ) × (u : Tree) × IsPlacedAt before k u held × (more ≡ unknown) × DecodesComponent k u new)
      ⊎ ((u : Tree) × (held ≡ before) × (more ≡ unknown ++ u ∷ []) × DecodesComponent (count ps) u new)
  DecodesNext (Ok (Some repeated)) new held more =
      (k : ℕ) × (u : Tree) × IsFilled before k × (held ≡ before) × (more ≡ unknown) × (text repeated ≡ name_at names k) × DecodesComponent k u new
  DecodesNext (Err e) new held more = RefusesElement (Decodes (choice_by extensible ps) (λ (t : Tree). t)) old e new

-- Each part is the value in its slot. If the slot is empty, the part is one that may be left out, and is absent or its
-- default.
abbrev pub AreGathered : List Presence → List (Option Tree) → List Tree → Type 0
AreGathered [] [] ts = ts ≡ []
AreGathered [] (h ∷ held) ts = ⊥
AreGathered (p ∷ ps) [] ts = ⊥
AreGathered (p ∷ ps) (None ∷ held) ts = (t : Tree) × (us : List Tree) × (ts ≡ t ∷ us) × IsMissing p t × AreGathered ps held us
AreGathered (p ∷ ps) (Some u ∷ held) ts = (us : List Tree) × (ts ≡ u ∷ us) × AreGathered ps held us

-- With an extension marker, the unknown components are the last part.
abbrev pub IsGathered : Bool → Parts → List (Option Tree) → List Tree → Tree → Type 0
IsGathered extensible ps held unknown t = (ts : List Tree) × IsSetTree extensible ts unknown t × AreGathered (presences ps) held ts

-- The first required part whose slot is empty has the number k.
abbrev pub LacksSlot : List Presence → List (Option Tree) → ℕ → Type 0
LacksSlot [] held k = ⊥
LacksSlot (p ∷ ps) [] k = ⊥
LacksSlot (p ∷ ps) (h ∷ held) zero = (p ≡ required) × (h ≡ None)
LacksSlot (p ∷ ps) (h ∷ held) (suc k) = (p ≡ required → h ≢ None) × LacksSlot ps held k

-- The error reports the first required part that is missing; or an allocation failed.
abbrev pub IsLackOf : Parts → List (List ℕ) → Codec → List (Option Tree) → DecodeError → Type 0
IsLackOf ps names rule held e = IsOutOfMemory e.kind ⊎ ((k : ℕ) × LacksSlot (presences ps) held k × IsNamedError (IsMissingField (name_at names k)) rule e)

-- A part with this presence is required, or has a default. If it isn't read, memory is needed for the error that
-- contains its name, or for the default.
abbrev pub IsRequiredOrDefault : Presence → Type 0
IsRequiredOrDefault required = Unit {0}
IsRequiredOrDefault (default_by key d) = Unit {0}
IsRequiredOrDefault _ = ⊥

-- The slot of a part that is required, or that has a default, is empty.
abbrev pub HasGap : List Presence → List (Option Tree) → Type 0
HasGap [] held = ⊥
HasGap (p ∷ ps) [] = ⊥
HasGap (p ∷ ps) (h ∷ held) = (IsRequiredOrDefault p × (h ≡ None)) ⊎ HasGap ps held

-- The parts that are made from the slots, or the error for the first one that is missing.
abbrev pub MakesParts : {D : Type 0} → Bool → Parts → (D → Tree) → List (List ℕ) → Codec → List (Option Tree) → List Tree → Result D DecodeError → Type 0
MakesParts extensible ps tree names rule held unknown (Ok v) = IsGathered extensible ps held unknown (tree v)
MakesParts extensible ps tree names rule held unknown (Err e) = IsLackOf ps names rule held e

-- Each part has at most one reading. The first part has the number j.
abbrev pub AreOnce : ℕ → List Presence → List Tree → Type 0
AreOnce j [] readings = Unit {0}
AreOnce j (p ∷ ps) readings = (NoneOf j readings ⊎ ((t : Tree) × OneOf j t readings)) × AreOnce (suc j) ps readings

-- The first reading whose part was read before is one of part k.
pub record RepeatsFirst (ps : Parts) (k : ℕ) (readings : List Tree) : Type 0 where
  pub before : List Tree
  pub value : Tree
  pub after : List Tree
  pub is : readings ≡ before ++ (chosen k value ∷ after)
  pub once : AreOnce 0 (presences ps) before
  pub is_part : IsPart k ps
  pub read : (t : Tree) × OneOf k t before

-- The first required part that isn't read is part k of these, the first of which has the number j.
abbrev pub LacksFirst : ℕ → List Presence → List Tree → ℕ → Type 0
LacksFirst j [] readings k = ⊥
LacksFirst j (p ∷ ps) readings zero = (p ≡ required) × NoneOf j readings
LacksFirst j (p ∷ ps) readings (suc k) = (p ≡ required → NoneOf j readings → ⊥) × LacksFirst (suc j) ps readings k

-- What is made from all components, given their readings: the parts; or the error for the first component that repeats
-- a part or, if none does, for the first required part that is missing; or an allocation failed.
abbrev pub MakesOfReadings : {D : Type 0} → Bool → Parts → (D → Tree) → List (List ℕ) → Codec → List Tree → Result D DecodeError → Type 0
MakesOfReadings extensible ps tree names rule readings (Ok v) = AreMembers extensible ps readings (tree v)
MakesOfReadings extensible ps tree names rule readings (Err e) = IsOutOfMemory e.kind
    ⊎ (((k : ℕ) × RepeatsFirst ps k readings × IsNamedError (IsDuplicateField (name_at names k)) rule e)
    ⊎ (AreOnce 0 (presences ps) readings × ((k : ℕ) × LacksFirst 0 (presences ps) readings k × IsNamedError (IsMissingField (name_at names k)) rule e)))

-- A part that is required, or that has a default, isn't read. The first part has the number j.
abbrev pub LeavesGap : ℕ → List Presence → List Tree → Type 0
LeavesGap j [] readings = ⊥
LeavesGap j (p ∷ ps) readings = (IsRequiredOrDefault p × NoneOf j readings) ⊎ LeavesGap (suc j) ps readings

-- The same as MakesOfReadings. An allocation fails only where a part is repeated, or where a required part or one with
-- a default isn't read.
abbrev pub MakesNamed : {D : Type 0} → Bool → Parts → (D → Tree) → List (List ℕ) → Codec → List Tree → Result D DecodeError → Type 0
MakesNamed extensible ps tree names rule readings r = MakesOfReadings extensible ps tree names rule readings r
    × IfErr r (λ e. IsOutOfMemory e.kind → ((k : ℕ) × RepeatsFirst ps k readings) ⊎ LeavesGap 0 (presences ps) readings)

-- Components are read one by one, each as read_choice reads one of the parts, and at the end the parts are made from all
-- of them. An error is one of DecodesIntoSlots or, once all components are read, one of MakesOfReadings.
abbrev pub DecodesSetPartContents : {D : Type 0} → Bool → Parts → (D → Tree) → List (List ℕ) → Call D
DecodesSetPartContents extensible ps tree names old =
    DecodesSetContents (DecodesIntoSlots (Decodes (choice_by extensible ps) (λ (t : Tree). t))) (MakesOfReadings extensible ps tree names old.rule) old

abbrev pub DecodesSetParts : {D : Type 0} → Bool → Parts → (D → Tree) → List (List ℕ) → Tag → Call D
DecodesSetParts extensible ps tree names tag = DecodesInside (DecodesSetPartContents extensible ps tree names) (sequence_header tag)

-- The same, if each component is read as in DecodesOneOf, and the parts are made as in MakesNamed.
abbrev pub DecodesNamedContents : {D : Type 0} → Bool → Parts → (D → Tree) → List ℕ → List (List ℕ) → (Tag → Errors) → Call D
DecodesNamedContents extensible ps tree name names errors old =
    DecodesSetContents (DecodesIntoSlots (DecodesOneOf extensible ps name errors)) (MakesNamed extensible ps tree names old.rule) old

abbrev pub DecodesNamedParts : {D : Type 0} → Bool → Parts → (D → Tree) → List ℕ → List (List ℕ) → (Tag → Errors) → Tag → Call D
DecodesNamedParts extensible ps tree name names errors tag = DecodesInside (DecodesNamedContents extensible ps tree name names errors) (sequence_header tag)

-- The shape of a SET whose parts are listed: with an extension marker, in the order of the tags that are written.
abbrev pub set_by : Bool → Tag → Parts → Shape
set_by false tag ps = set tag ps
set_by true tag ps = sorted_set true tag ps

-- A component begins here, after these others.
abbrev pub IsStart : Bool → Parts → State → State → Type 0
IsStart extensible ps old here = (before : List Tree) × (bs : List (List ℕ)) × DecodesInTurnFrom (Decodes (choice_by extensible ps) (λ (t : Tree). t)) old before bs here

-- What is said of the parts of a SET, each of which was read where a component begins.
abbrev pub BeyondSet : {D : Type 0} → Bool → Parts → (List State → D → Type 0) → Beyond D
BeyondSet extensible ps beyond old v new = (starts : List State) × ((here : State) → Contains starts here → IsStart extensible ps old here) × beyond starts v

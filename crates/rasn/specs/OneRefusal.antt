-- Which inputs are refused, and as what: the relation beside the grammar's.
use Rattle.std.specs.Prelude.{◌≡◌, ◌<◌, ◌+◌, ◌^◌, ℕ, ℤ, List, [], length, Bool, IsUtf8, Vec, Option, Some, IfSome, Result, Ok, Err}
use Rattle.std.specs.Global.{Global}
use Rattle.std.specs.Borrow.{Bor}
use Rattle.std.specs.declared.alloc.AllocError.{AllocError}
use Rattle.rasn_types.specs.declared.types.codec.Codec.{Codec}
use Rattle.rasn_types.specs.declared.types.tag.Tag.{Tag}
use Rattle.rasn_types.specs.declared.types.constraints.Bounded.{Bounded}
use Rattle.rasn_types.specs.declared.error.decode.DecodeError.{DecodeError}
use Rattle.rasn_types.specs.declared.error.decode.DecodeErrorKind.{DecodeErrorKind}
use Rattle.rasn_types.specs.declared.error.decode.DecodeErrorKind.TheVariants.{ValueConstraintNotSatisfied}
use Rattle.rasn_types.specs.declared.error.decode.BerDecodeErrorKind.TheVariants.{InvalidDate}
use Rattle.rasn_types.specs.Errors.{IsOutOfMemory}
use Rattle.rasn_types.specs.Tags.{form}
use Rattle.rasn_types.specs.Framing.{AreOctets, NextTag}
use Rattle.rasn_types.specs.Shapes.{Tree, Shape, own, Parts, part, presences, required, IsFirstOf}
use Rattle.rasn_types.specs.Shapes.Parts.{none}
use Rattle.rasn_types.specs.Readings.{Reading}
use Rattle.rasn_types.specs.Grammar.{Reads}
use Rattle.rasn_de.specs.Causes.{in_ber}
use Rattle.rasn_de.specs.NamedErrors.{IsNoValidChoice, IsMissingField, IsDuplicateField}
use Rattle.rasn_de.specs.State.{State, Call}
use Rattle.rasn_de.specs.Constructed.{Keeps}
use Rattle.rasn_de.specs.ValueErrors.{Errors, errors_of, IsErrorByTag}
use Rattle.rasn_de.specs.AlternativeTypes.{FailsAtAlternativeBy, DecodesAlternativeBy}
use Rattle.rasn_de.specs.SetPartTypes.{ReadsPartAt, RefusesPart, AreEmpty, DecodesPlaced, IsGathered, LacksSlot}

-- The input of the state before is refused with this error, and the state after has what remains: it is one of these
-- errors, other than a failed allocation.
abbrev pub Refuses : Errors → Errors
Refuses errors old e new = errors old e new × (IsOutOfMemory e.kind → ⊥)

-- The error reports this number and this bound.
abbrev pub ReportsBound : ℤ → Bounded ℤ → DecodeErrorKind → Type 0
ReportsBound z bound (ValueConstraintNotSatisfied value expected) = (value ≡ z) × (expected.value ≡ bound)
ReportsBound z bound _ = ⊥

-- The error reports this text, which isn't a time or a date.
abbrev pub ReportsText : List ℕ → DecodeErrorKind → Type 0
ReportsText text kind = (octets : Vec ℕ Global) × (octets.items ≡ text) × (kind ≡ in_ber (InvalidDate octets))

-- Two errors are of the same kind, with the same fields: names, texts and bounds are compared by what they contain.
pub data IsSameKind (k l : DecodeErrorKind) : Type 0 where
  equal : k ≡ l → IsSameKind k l
  same_choice : (name : List ℕ) → IsNoValidChoice name k → IsNoValidChoice name l → IsSameKind k l
  same_missing : (name : List ℕ) → IsMissingField name k → IsMissingField name l → IsSameKind k l
  same_duplicate : (name : List ℕ) → IsDuplicateField name k → IsDuplicateField name l → IsSameKind k l
  same_bound : (z : ℤ) (bound : Bounded ℤ) → ReportsBound z bound k → ReportsBound z bound l → IsSameKind k l
  same_text : (text : List ℕ) → ReportsText text k → ReportsText text l → IsSameKind k l

abbrev pub IsSameError : DecodeError → DecodeError → Type 0
IsSameError e f = IsSameKind e.kind f.kind × (e.codec ≡ f.codec)

-- Readings by rules, depth, and whether end-of-contents octets may end the contents.
abbrev pub ReadingBy : Type 1
ReadingBy = Codec → ℕ → Bool → Reading Tree

abbrev pub ReadsShape : Shape → ReadingBy
ReadsShape s rule = Reads rule s

-- An input is refused as one error alone, and one rest remains.
abbrev pub IsRefusedOnce : Errors → Type 0
IsRefusedOnce errors = (old : State) → AreOctets old.rest → (e f : DecodeError) (new other : State) → Refuses errors old e new → Refuses errors old f other → IsSameError e f × (new ≡ other)

-- An input is read or refused in one way at most. Reading it once is the grammar's law; this is the rest of it.
pub record AreApart (errors : Errors) (reads : ReadingBy) : Type 0 where
  -- What is refused isn't read.
  pub unread : (old : State) → AreOctets old.rest → (e : DecodeError) (new : State) → Refuses errors old e new → (t : Tree) (rest : List ℕ) → reads old.rule old.depth old.closing old.rest t rest → ⊥
  -- What is refused is refused as one error, and one rest remains.
  pub once : IsRefusedOnce errors
  -- What remains is an end of the input, and nothing else changes.
  pub kept : (old : State) → AreOctets old.rest → (e : DecodeError) (new : State) → Refuses errors old e new → Keeps old new

-- Each input that memory can hold is read or refused: none is neither.
abbrev pub LeaveNone : Errors → ReadingBy → Type 0
LeaveNone errors reads = (old : State) → AreOctets old.rest → length old.rest < 2 ^ 63
    → ((t : Tree) (rest : List ℕ) → reads old.rule old.depth old.closing old.rest t rest → ⊥) → ((e : DecodeError) (new : State) → Refuses errors old e new → ⊥) → ⊥

-- A call decodes or refuses each input that memory can hold: it isn't so that it does neither.
abbrev pub Settles : {D : Type 0} → Call D → Type 0
Settles {D} read = (old : State) → AreOctets old.rest → length old.rest < 2 ^ 63
    → ((v : D) (new : State) → read old (Ok v) new → ⊥) → ((e : DecodeError) (new : State) → Refuses (errors_of read) old e new → ⊥) → ⊥

-- Why none of these alternatives is read, the error being one of these for the next tag.
abbrev pub FailsByTag : Bool → Parts → List ℕ → (Tag → Errors) → Tag → Errors
FailsByTag extensible ps name errors tag old e new = FailsAtAlternativeBy extensible ps name tag old e new × errors tag old e new

-- Whatever the next tag is, an input that isn't read as one of these alternatives is refused as one error.
abbrev pub AreRefusedOnce : Bool → Parts → List ℕ → (Tag → Errors) → Type 0
AreRefusedOnce extensible ps name errors = (tag : Tag) → IsRefusedOnce (FailsByTag extensible ps name errors tag)

-- Each alternative is required and has a tag of its own, with which none of those after it may begin.
abbrev pub HaveOwnTags : Parts → Type 0
HaveOwnTags none = Unit {0}
HaveOwnTags (part p s ps) = (p ≡ required) × ((tag : Tag) × (own s ≡ Some tag) × (IsFirstOf ps tag → ⊥)) × HaveOwnTags ps

-- The errors of a CHOICE with these alternatives: why none of them is read, the error being one of these for the next tag.
abbrev pub ErrorsOfChoice : {D : Type 0} → Bool → Parts → (D → Tree) → List ℕ → (Tag → Errors) → Errors
ErrorsOfChoice extensible ps tree name errors old e new = errors_of (DecodesAlternativeBy extensible ps tree name) old e new × IsErrorByTag errors old e new

-- A text that memory can hold, as each name of a type or a part is.
abbrev pub IsName : List ℕ → Type 0
IsName name = IsUtf8 name × (length name < 2 ^ 63)

-- A call that is made where this is the next tag decodes or refuses each input that memory can hold.
abbrev pub SettlesAt : {D : Type 0} → Tag → Call D → Type 0
SettlesAt {D} tag read = (old : State) → AreOctets old.rest → length old.rest < 2 ^ 63 → NextTag (form old.rule) old.rest tag
    → ((v : D) (new : State) → read old (Ok v) new → ⊥) → ((e : DecodeError) (new : State) → Refuses (errors_of read) old e new → ⊥) → ⊥

-- The input is read as none of these parts, and the error is one of these for the next tag.
abbrev pub RefusesByTag : Bool → Parts → List ℕ → (Tag → Errors) → Tag → Errors
RefusesByTag extensible ps name errors tag old e new = RefusesPart extensible ps e old new × FailsByTag extensible ps name errors tag old e new

-- The alternative that the value is one of is read, or none is.
abbrev pub DecodesByTag : {D : Type 0} → Bool → Parts → (D → ℕ) → (D → Tree) → List ℕ → (Tag → Errors) → Tag → Call D
DecodesByTag extensible ps number inner name errors tag old (Ok v) new = ReadsPartAt extensible ps (number v) (inner v) old new
DecodesByTag extensible ps number inner name errors tag old (Err e) new = RefusesByTag extensible ps name errors tag old e new

-- Whatever the next tag is, an input is decoded as one of these alternatives, or refused.
abbrev pub AreSettled : {D : Type 0} → Bool → Parts → (D → ℕ) → (D → Tree) → List ℕ → (Tag → Errors) → Type 0
AreSettled extensible ps number inner name errors = (tag : Tag) → SettlesAt tag (DecodesByTag extensible ps number inner name errors tag)

-- The next component is read and put into one of these slots, or the name of the part whose slot is filled is returned; or
-- it is read as none of the parts.
abbrev pub PutsByTag : {S : Type 0} → Bool → Parts → (S → List (Option Tree)) → (S → List Tree) → List (List ℕ) → List ℕ → (Tag → Errors) → S → Tag → Call (Option (Bor (List ℕ)) × S)
PutsByTag extensible ps held others names name errors slots tag old (Ok p) new = DecodesPlaced extensible ps names (held slots) (others slots) old (Ok p.0) new (held p.1) (others p.1)
PutsByTag extensible ps held others names name errors slots tag old (Err e) new = RefusesByTag extensible ps name errors tag old e new

-- The parts of a SET, with slots that have these trees.
pub record AreSlotsSettled {P S : Type 0} (extensible : Bool) (ps : Parts) (tree : P → Tree) (held : S → List (Option Tree)) (others : S → List Tree) (name : List ℕ) (errors : Tag → Errors) : Type 0 where
  -- There are empty slots.
  pub empty : (slots : S) × AreEmpty ps (held slots) × (others slots ≡ [])
  -- Whatever the next tag is, a component is put into slots that have room for one more unknown component, or refused.
  pub put : (names : List (List ℕ)) (slots : S) → length (others slots) + 1 < 2 ^ 63 → (tag : Tag) → SettlesAt tag (PutsByTag extensible ps held others names name errors slots tag)
  -- The parts are made of the slots, or a required one is missing.
  pub made : (slots : S) → ((v : P) → IsGathered extensible ps (held slots) (others slots) (tree v) → ⊥) → ((k : ℕ) → LacksSlot (presences ps) (held slots) k → ⊥) → ⊥

-- A call decodes or refuses each input in one way at most.
pub record IsDetermined {D : Type 0} (read : Call D) : Type 0 where
  -- What is decoded isn't refused.
  pub unrefused : (old : State) → AreOctets old.rest → (v : D) (e : DecodeError) (new other : State) → read old (Ok v) new → Refuses (errors_of read) old e other → ⊥
  -- Whatever is decoded, one rest remains.
  pub left : (old : State) → AreOctets old.rest → (v w : D) (new other : State) → read old (Ok v) new → read old (Ok w) other → new ≡ other
  -- What is refused is refused as one error, and one rest remains.
  pub once : IsRefusedOnce (errors_of read)

-- A function that is called on components returns this error, other than a failed allocation.
abbrev pub Rejects : {L D : Type 0} → (L → Result D DecodeError → Type 0) → L → DecodeError → Type 0
Rejects made fields e = made fields (Err e) × (IsOutOfMemory e.kind → ⊥)

-- Whether a function makes a value of components, and which error it returns, depends on their readings alone.
pub record IsMadeOnce {L D : Type 0} (readings : L → List Tree) (made : L → Result D DecodeError → Type 0) : Type 0 where
  -- Where a value is made of components, it returns no error of others with the same readings.
  pub unrefused : (fields others : L) → readings fields ≡ readings others → (v : D) (e : DecodeError) → made fields (Ok v) → Rejects made others e → ⊥
  -- The errors of components with the same readings are the same.
  pub once : (fields others : L) → readings fields ≡ readings others → (e f : DecodeError) → Rejects made fields e → Rejects made others f → IsSameError e f

-- Whatever components a function is called on, it makes a value or returns an error: it isn't so that it does neither.
abbrev pub IsAlwaysMade : {L D : Type 0} → (L → Result D DecodeError → Type 0) → Type 0
IsAlwaysMade {L} {D} made = (fields : L) → ((v : D) → made fields (Ok v) → ⊥) → ((e : DecodeError) → Rejects made fields e → ⊥) → ⊥

-- An initializer, if there is one, can make a value.
abbrev pub CanMake : {I D : Type 0} → (I → Result D AllocError → Type 0) → Option I → Type 0
CanMake {I} {D} made init = IfSome init (λ i. ((v : D) → made i (Ok v) → ⊥) → ⊥)

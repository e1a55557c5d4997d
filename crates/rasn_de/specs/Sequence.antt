-- SEQUENCE, read by an initializer or by a closure.
use Rattle.std.specs.Prelude.{◌≡◌, ◌⊎◌, ℕ, Bool, true, false, ◌&&◌, ◌||◌, not, List, [], ◌∷◌, Option, Some, None, Result, Ok, Err}
use Rattle.std.specs.declared.alloc.AllocError.{AllocError}
use Rattle.rasn_types.specs.declared.types.tag.Tag.{Tag}
use Rattle.rasn_types.specs.declared.error.decode.DecodeError.{DecodeError}
use Rattle.rasn_types.specs.Shapes.{Tree, items, Parts, presences, seq}
use Rattle.rasn_types.specs.Readings.{AllMissing}
use Rattle.rasn_types.specs.Described.{is_fieldless, has_required}
use Rattle.rasn_de.specs.declared.ber.de.parser.ParseError.TheVariants.{UnexpectedEmptyInput}
use Rattle.std.specs.Fn.{FnOnceReturnsAtMut}
use Rattle.rasn_de.specs.State.{State, Call, EachCall}
use Rattle.rasn_de.specs.Decodes.{Decodes, DecodesParts}
use Rattle.rasn_de.specs.Steps.{IsErrorOf}
use Rattle.rasn_de.specs.Optional.{MakesValue}
use Rattle.rasn_de.specs.Constructed.{sequence_header, Closure, DecodesInside}

abbrev pub is_empty : List ℕ → Bool
is_empty [] = true
is_empty (b ∷ l) = false

-- An initializer reads a type without fields and extension marker, and the empty contents of a type without required
-- fields.
abbrev pub is_read_by_initializer : ℕ → Bool → Bool → List ℕ → Bool
is_read_by_initializer root extensible needs_field input = is_fieldless root extensible || (not needs_field && is_empty input)

-- What an initializer returns: its value, or OutOfMemory; without an initializer, UnexpectedEmptyInput.
abbrev pub MakesInitial : {I D : Type 0} → (I → Result D AllocError → Type 0) → Option I → State → Result D DecodeError → Type 0
MakesInitial made None s (Ok v) = ⊥
MakesInitial made None s (Err e) = IsErrorOf UnexpectedEmptyInput s e
MakesInitial made (Some i) s (Ok v) = MakesValue (made i) s (Ok v)
MakesInitial made (Some i) s (Err e) = MakesValue (made i) s (Err e)

-- Inside, either the initializer or the closure is called, once.
abbrev pub DecodesContents : {D : Type 0} → (List ℕ → Bool) → (State → Result D DecodeError → Type 0) → Call D → Call D
DecodesContents starts initial called o r n = ((starts o.rest ≡ true) × initial o r × (n ≡ o)) ⊎ ((starts o.rest ≡ false) × called o r n)

-- A SEQUENCE of a type with this number of root fields is read by the initializer or by f.
abbrev pub DecodesSequenceBy : {I F D : Type 0} → ℕ → Bool → Bool → (I → Result D AllocError → Type 0) → Option I → Closure F D → F → Tag → Call D
DecodesSequenceBy root extensible needs_field made init g f tag =
    DecodesInside (DecodesContents (is_read_by_initializer root extensible needs_field) (MakesInitial made init) (FnOnceReturnsAtMut g f)) (sequence_header tag)

-- Each value that the initializer makes consists of parts that are all absent. Only a type with a required part needs
-- no initializer.
abbrev pub MakesAllMissing : {I D : Type 0} → Parts → (D → Tree) → (I → Result D AllocError → Type 0) → Option I → Type 0
MakesAllMissing {I} {D} parts tree made None = has_required parts ≡ true
MakesAllMissing {I} {D} parts tree made (Some i) = (v : D) → made i (Ok v) → (ts : List Tree) × (tree v ≡ items ts) × AllMissing (presences parts) ts

-- A SEQUENCE of these parts is read, if each call of f reads the parts and the initializer makes the value of parts
-- that are all absent.
abbrev pub DecodesSequence : {I F D : Type 0} → Closure F D → F → (I → Result D AllocError → Type 0) → Option I → Parts → (D → Tree) → Tag → Call D
DecodesSequence g f made init parts tree tag old result new =
    EachCall (FnOnceReturnsAtMut g f) (DecodesParts parts tree) → MakesAllMissing parts tree made init → Decodes (seq tag parts) tree old result new

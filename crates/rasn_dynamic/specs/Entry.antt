-- What the entry points return.
use Rattle.std.specs.Prelude.{◌≡◌, ◌⊎◌, ℕ, Bool, true, false, List, [], Result, Ok, Err}
use Rattle.std.specs.Borrow.{Bor}
use Rattle.rasn_types.specs.declared.types.codec.Codec.{Codec}
use Rattle.rasn_types.specs.declared.types.codec.Codec.TheVariants.{Der}
use Rattle.rasn_types.specs.declared.error.encode.EncodeError.{EncodeError}
use Rattle.rasn_types.specs.Shapes.{Shape, Tree}
use Rattle.rasn_types.specs.Grammar.{Reads, top}
use Rattle.rasn_types.specs.Bytes.{Bytes, Same}
use Rattle.rasn_types.specs.declared.error.decode.DecodeError.{DecodeError}
use Rattle.rasn_de.specs.State.{State}
use Rattle.rasn_de.specs.Outcomes.{Exact, Got, refusal}
use Rattle.rasn.specs.Headline.{AnsweredAlone, EncodingFails}
use Rattle.rasn.specs.Normal.{Means, IsNormal, IsNoNormal}
use Rattle.rasn.specs.declared.normal.NormaliseError.{NormaliseError}
use Rattle.rasn.specs.declared.normal.NormaliseError.TheVariants.{Decode as NotRead, Encode as NotWritten, NotCanonical}
use Rattle.rasn_schema.specs.declared.types.«Type».{«Type»}
use Rattle.rasn_schema.specs.Shapes.{shape_of_type}
use Rattle.rasn_schema.specs.declared.value.Value.{Value}
use Rattle.rasn_types.specs.Errors.{IsOutOfMemory, IsEncodeOutOfMemory}
use Rattle.rasn_enc.specs.Encoding.{NoEncoding}
use Rattle.rasn_schema.specs.Trees.{tree_of}
use Rattle.rasn_schema.specs.Fitting.{Fits}
use Rattle.rasn_dynamic.specs.Unfit.{IsUnfitAt}
use Rattle.rasn_dynamic.specs.Inside.{DecodesTree}
use Rattle.rasn_dynamic.specs.Making.{Making}
use Rattle.rasn_dynamic.specs.Faults.{start}
use Rattle.rasn_dynamic.specs.declared.refusal.Refusal.{Refusal}
use Rattle.rasn_dynamic.specs.declared.entry.WriteError.{WriteError}
use Rattle.rasn_dynamic.specs.declared.entry.WriteError.TheVariants.{Unfit, Encode as Written}

-- The shape of the type with a number, as deep as any message goes: reading stops at 128 values in one another.
abbrev pub shape_of : List «Type» → ℕ → Shape
shape_of types id = shape_of_type types 18446744073709551615 id

-- The grammar relates all of the octets to some value, and to no other; or the error is one of those that `AnsweredAlone` has.
abbrev pub IsChecked : Codec → Shape → List ℕ → Result (Unit {0}) DecodeError → Type 0
IsChecked rule s input (Ok u) = (t : Tree) × AnsweredAlone rule s (λ (z : Tree). z) input (Ok t)
IsChecked rule s input (Err e) = AnsweredAlone rule s (λ (z : Tree). z) input (Err e)

-- Both read the input, or both refuse it; or the one that refuses it ran out of memory.
abbrev pub Agree : {T : Type 0} → Result (Unit {0}) DecodeError → Result T DecodeError → Type 0
Agree (Ok u) (Ok v) = Unit {0}
Agree (Ok u) (Err e) = IsOutOfMemory e.kind
Agree (Err e) (Ok v) = IsOutOfMemory e.kind
Agree (Err e) (Err d) = Unit {0}

-- The grammar relates the octets to some value with this rest, and to nothing else; or to nothing.
abbrev pub IsCheckedUpTo : Codec → Shape → List ℕ → Result (Bor (List ℕ)) DecodeError → Type 0
IsCheckedUpTo rule s input (Ok rest) = (t : Tree) × Exact (Reads rule s 128 (top rule)) input (Got t rest.now)
IsCheckedUpTo rule s input (Err e) = Exact (Reads rule s 128 (top rule)) input (refusal e.kind)

-- A value is read from the front of the input, and this rest is left; or nothing is. If values are kept, it is the one that is returned.
abbrev pub IsReadFirst : Bool → Codec → Shape → List ℕ → Result (Value × Bor (List ℕ)) Refusal → Type 0
IsReadFirst keep rule s input (Ok read) = (last : State) × (last.rest ≡ read.1.now) × Making keep tree_of (DecodesTree s) (start rule input) (Ok read.0) last
IsReadFirst keep rule s input (Err r) = (last : State) × DecodesTree s (start rule input) (Err r.error) last

-- The value is one of the type.
abbrev pub FitsType : List «Type» → ℕ → Value → Type 0
FitsType types id v = Fits types 18446744073709551615 id v

-- The path leads from a value of the type to a part that isn't of its type's form.
abbrev pub IsUnfit : List «Type» → ℕ → Value → List ℕ → Type 0
IsUnfit types id v path = IsUnfitAt types 18446744073709551615 id v path

-- The value is one of the type, and these are its octets.
abbrev pub IsEncoded : Codec → List «Type» → ℕ → Value → List ℕ → Type 0
IsEncoded rule types id v octets = FitsType types id v × Bytes rule (shape_of types id) (tree_of v) octets

-- The value isn't one of the type, and the path leads to the part at fault; or memory runs out; or it is one, and has no octets.
abbrev pub IsNotEncoded : Codec → List «Type» → ℕ → Value → WriteError → Type 0
IsNotEncoded rule types id v (Unfit path) = (FitsType types id v → ⊥) × IsUnfit types id v path.indices.items
IsNotEncoded rule types id v (Written e) = IsEncodeOutOfMemory e.kind ⊎ (FitsType types id v × NoEncoding rule (shape_of types id) (tree_of v))

-- Of a value of the type: memory runs out, or it has no octets.
abbrev pub FailsIfFits : Codec → List «Type» → ℕ → Value → EncodeError → Type 0
FailsIfFits rule types id v e = FitsType types id v → EncodingFails rule (shape_of types id) (tree_of v) e

-- The error of a value of the type names the rules.
abbrev pub NamesRules : Codec → WriteError → Type 0
NamesRules rule (Unfit path) = Unit {0}
NamesRules rule (Written e) = e.codec ≡ rule

-- DER reads the octets, alone, as a value that means the same; or it doesn't.
abbrev pub IsReadBack : Bool → Shape → Tree → List ℕ → Type 0
IsReadBack true s t octets = (again : Tree) × Means Der s octets again × Same t again
IsReadBack false s t octets = (again : Tree) → Reads Der s 128 (top Der) octets again [] → Same t again → ⊥

-- Of each input that means the tree, these are the normal octets.
abbrev pub IsNormalOf : Shape → Tree → List ℕ → Type 0
IsNormalOf s t octets = (rule : Codec) (input : List ℕ) → Means rule s input t → IsNormal rule s input octets

-- Memory runs out while the octets are read back by DER; or the error is of DER's writer; or they aren't canonical.
abbrev pub IsByDer : NormaliseError → Type 0
IsByDer (NotRead e) = IsOutOfMemory e.kind × (e.codec ≡ Der)
IsByDer (NotWritten e) = e.codec ≡ Der
IsByDer NotCanonical = Unit {0}

-- No input that means the tree has normal octets, or memory runs out.
abbrev pub IsNoNormalOf : Shape → Tree → NormaliseError → Type 0
IsNoNormalOf s t e = (rule : Codec) (input : List ℕ) → Means rule s input t → IsNoNormal rule s input e

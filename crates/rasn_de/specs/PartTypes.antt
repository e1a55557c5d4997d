-- Parts as types: tests on them that compute, and the first part that can't be read.
use Rattle.std.specs.Prelude.{◌≡◌, ◌⊎◌, Bool, true, false, ◌||◌, not, IfOk, Option, Some, None, Ok, Err}
use Rattle.rasn_types.specs.declared.types.tag.Tag.{Tag}
use Rattle.rasn_types.specs.declared.error.decode.DecodeError.{DecodeError}
use Rattle.rasn_types.specs.Shapes.{Shape, Tree, own, looked_for, Parts, part, Presence, required, addition, optional_by, default_by, sought_by}
use Rattle.rasn_types.specs.Shapes.Parts.{none}
use Rattle.rasn_types.specs.Described.{has_required, has_addition}
use Rattle.rasn_de.specs.Headers.{same_tag}
use Rattle.rasn_de.specs.State.{State, Call}
use Rattle.rasn_de.specs.Outcomes.{Got}
use Rattle.rasn_de.specs.Decodes.{Decodes, DecodesExactly, DecodesParts}
pub use Rattle.rasn_de.specs.Optional.{OnePart}
use Rattle.rasn_de.specs.Optional.{DecodesIfSought, DecodesSoughtOrDefault}
use Rattle.rasn_de.specs.ValueErrors.{Errors}
use Rattle.rasn_de.specs.Constructed.{sequence_header, DecodesInside}

abbrev pub same_own : Option Tag → Option Tag → Bool
same_own None None = true
same_own (Some a) (Some b) = same_tag a b
same_own None (Some b) = false
same_own (Some a) None = false

-- Whether values of the shape are looked for by their own tag.
abbrev pub is_looked_for : Shape → Tag → Bool
is_looked_for s tag = same_own (own s) (looked_for tag)

-- Whether reading the parts in order reads empty contents correctly too: either a required part is missing, or all
-- parts are left out. Without a required part, an addition would be missing as well, so that an initializer is needed.
abbrev pub needs_no_initializer : Parts → Bool
needs_no_initializer parts = has_required parts || not (has_addition parts)

-- A value of the shape is decoded as its tree.
abbrev pub DecodesTree : Shape → Call Tree
DecodesTree s = Decodes s (λ (t : Tree). t)

-- A part can't be read: its value can't, or the look at the next tag fails for a part that may be left out, or its
-- default can't be made.
abbrev pub FailsAtOnePart : Presence → Shape → State → DecodeError → State → Type 0
FailsAtOnePart required s old e new = DecodesTree s old (Err e) new
FailsAtOnePart addition s old e new = DecodesTree s old (Err e) new
FailsAtOnePart (optional_by key) s old e new = DecodesIfSought (DecodesTree s) (sought_by key s) old (Err e) new
FailsAtOnePart (default_by key d) s old e new =
    DecodesSoughtOrDefault (DecodesTree s) (λ (t : Tree). t) (λ made. IfOk made (λ t. t ≡ d)) (sought_by key s) old (Err e) new

-- The parts before some part are read, and that part can't be read.
abbrev pub FailsAtPart : Parts → State → DecodeError → State → Type 0
FailsAtPart none old e new = ⊥
FailsAtPart (part p s ps) old e new = FailsAtOnePart p s old e new
    ⊎ ((t : Tree) × (here : State) × DecodesExactly (OnePart p s) old (Got t here.rest) here × FailsAtPart ps here e new)

-- The error is one of the part; or the part is read, and the error is one of the parts after it.
abbrev pub IsErrorOfParts : Presence → Shape → Errors → Errors → Errors
IsErrorOfParts p s first others old e new = first old e new
    ⊎ ((t : Tree) × (here : State) × DecodesExactly (OnePart p s) old (Got t here.rest) here × others here e new)

-- Parts are read in their order, up to the first one that can't be read, and the error is one of these.
abbrev pub DecodesInParts : {D : Type 0} → Parts → (D → Tree) → Errors → Call D
DecodesInParts ps tree errors old (Ok v) new = DecodesParts ps tree old (Ok v) new
DecodesInParts ps tree errors old (Err e) new = FailsAtPart ps old e new × errors old e new

-- A SEQUENCE of these parts, which have these errors, is read.
abbrev pub DecodesSequenceParts : {D : Type 0} → Parts → (D → Tree) → Errors → Tag → Call D
DecodesSequenceParts ps tree errors tag = DecodesInside (DecodesInParts ps tree errors) (sequence_header tag)

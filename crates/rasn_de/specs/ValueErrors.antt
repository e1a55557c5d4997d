-- Which errors calls have that read values of other types, given those that these types have.
use Rattle.std.specs.Prelude.{◌≡◌, ◌⊎◌, ℕ, ℤ, Err, IfErr}
use Rattle.rasn_types.specs.declared.types.tag.Tag.{Tag}
use Rattle.rasn_types.specs.declared.types.constraints.Constraints.{Constraints}
use Rattle.rasn_types.specs.declared.error.decode.DecodeError.{DecodeError}
use Rattle.rasn_types.specs.Shapes.{Shape, Tree, Interval}
use Rattle.rasn_types.specs.Tags.{form}
use Rattle.rasn_types.specs.Framing.{NextTag}
use Rattle.rasn_de.specs.State.{State, Call}
use Rattle.rasn_de.specs.Steps.{PeeksTag}
use Rattle.rasn_de.specs.Decodes.{Decodes}
use Rattle.rasn_de.specs.Leaves.{DecodesNumber}

-- Which errors calls of a decoder have: errors o e n means that a call on the decoder o may return e and leave n.
abbrev pub Errors : Type 1
Errors = State → DecodeError → State → Type 0

-- The errors of a call.
abbrev pub errors_of : {D : Type 0} → Call D → Errors
errors_of call old e new = call old (Err e) new

-- The errors of a call that reads an INTEGER for a type of width bits with the numbers in range.
abbrev pub integer_errors : (ℤ → Type 0) → ℕ → Interval → Tag → Constraints → Errors
integer_errors Takes width range tag c = errors_of (DecodesNumber (λ (z : ℤ). z) Takes width range tag c)

-- A value of the shape is decoded, or the error is one of these.
abbrev pub DecodesOr : {D : Type 0} → Shape → (D → Tree) → Errors → Call D
DecodesOr s tree errors old result new = Decodes s tree old result new × IfErr result (λ e. errors old e new)

-- The error is one of the alternative with this tag of its own, if that is the tag, or else one of the others.
abbrev pub IsErrorOfAlternative : Tag → Errors → (Tag → Errors) → Tag → Errors
IsErrorOfAlternative own first others tag old e new =
    ((tag ≡ own) × first old e new) ⊎ ((tag ≡ own → ⊥) × others tag old e new)

-- The look at the next tag fails, which consumes nothing, or the error is one of those for the next tag.
abbrev pub IsErrorByTag : (Tag → Errors) → Errors
IsErrorByTag errors old e new =
    (PeeksTag old (Err e) × (new ≡ old)) ⊎ ((tag : Tag) × NextTag (form old.rule) old.rest tag × errors tag old e new)

-- Both ::= SEQUENCE { first A, second B }
use Rattle.std.specs.Prelude.{[], ◌∷◌}
use Rattle.rasn_types.specs.Tags.{in_universal}
use Rattle.rasn_types.specs.Shapes.{Shape, Tree, items, seq, Parts, part, required}
use Rattle.rasn_types.specs.Shapes.Parts.{none}
use Rattle.rasn_types.specs.declared.types.tag.Tag.{Tag}
use Rattle.rasn_de.specs.State.{State}
use Rattle.rasn_de.specs.Beyond.{Beyond, BeyondInside}
use Rattle.rasn_de.specs.Constructed.{sequence_header}
use Rattle.rasn_de.specs.PartTypes.{IsErrorOfParts, DecodesSequenceParts}
use Rattle.rasn_de.specs.ValueErrors.{Errors, errors_of}
use Rattle.rasn_examples.specs.declared.both.Both.{Both}

abbrev pub both_parts : Shape → Shape → Parts
both_parts first second = part required first (part required second none)

abbrev pub both_shape : Shape → Shape → Shape
both_shape first second = seq (in_universal 16) (both_parts first second)

abbrev pub both_tree : {A B : Type 0} → (A → Tree) → (B → Tree) → Both A B → Tree
both_tree first second both = items (first both.first ∷ second both.second ∷ [])

-- The second value is read after the first.
abbrev pub both_inside : {A B : Type 0} → Beyond A → Beyond B → Beyond (Both A B)
both_inside first second old both new = (mid : State) × first old both.first mid × second mid both.second new

abbrev pub both_beyond : {A B : Type 0} → Beyond A → Beyond B → Tag → State → Both A B → Type 0
both_beyond first second tag old both = BeyondInside (both_inside first second) (sequence_header tag) old both

-- The error is one of the first value or, once that is read, one of the second.
abbrev pub both_part_errors : Shape → Shape → Errors → Errors → Errors
both_part_errors s u first second = IsErrorOfParts required s first (IsErrorOfParts required u second (λ _ _ _. ⊥))

abbrev pub both_errors : {A B : Type 0} → Shape → Shape → (A → Tree) → (B → Tree) → Errors → Errors → Tag → Errors
both_errors s u first second first_errors second_errors tag =
    errors_of (DecodesSequenceParts (both_parts s u) (both_tree first second) (both_part_errors s u first_errors second_errors) tag)

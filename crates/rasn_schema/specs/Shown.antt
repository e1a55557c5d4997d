-- Errors as text.
use Rattle.std.specs.Prelude.{ℕ, List, ◌++◌, codes}
use Rattle.std.specs.Fmt.{decimal}
use Rattle.rasn_schema.specs.declared.type_id.TypeId.{TypeId}
use Rattle.rasn_schema.specs.declared.error.SchemaError.{SchemaError}
use Rattle.rasn_schema.specs.declared.error.SchemaError.TheVariants.{ReservedTag, ConstructedTag, LateInner, NumbersClash, NoNumbers, NoAlternatives, LateAlternative, UntaggedAlternative, AlternativesClash, ComponentsClash, UntaggedComponent, AdditionInSet, UntaggedInSet, SetClash, MisplacedUnknown, UnfitDefault}

-- A text about the type with this number.
abbrev pub about : TypeId → List ℕ → List ℕ
about id what = codes "type " ++ (decimal id.0 ++ (codes ": " ++ what))

-- A text with the index of a part, and one with those of two.
abbrev pub with_index : List ℕ → ℕ → List ℕ → List ℕ
with_index front i back = front ++ (decimal i ++ back)

abbrev pub with_indices : List ℕ → ℕ → List ℕ → ℕ → List ℕ → List ℕ
with_indices front i between j back = front ++ (decimal i ++ (between ++ (decimal j ++ back)))

-- The texts of the rules that a type breaks.
abbrev pub shown_fault : SchemaError → List ℕ
shown_fault (ReservedTag id) = about id (codes "its tag is universal 0, which is reserved (X.690 8.1.5)")
shown_fault (ConstructedTag id) = about id (codes "a string or a time has the tag of a SEQUENCE or a SET")
shown_fault (LateInner id) = about id (codes "its inner type has an explicit tag too, and its number isn't lower")
shown_fault (NumbersClash id i j) = about id (with_indices (codes "numbers ") i (codes " and ") j (codes " of an ENUMERATED are the same (X.680 20.3)"))
shown_fault (NoNumbers id) = about id (codes "an ENUMERATED without numbers (X.680 20.1)")
shown_fault (NoAlternatives id) = about id (codes "a CHOICE without alternatives (X.680 29.1)")
shown_fault (LateAlternative id i) = about id (with_index (codes "the number of alternative ") i (codes " isn't below that of the CHOICE"))
shown_fault (UntaggedAlternative id i) = about id (with_index (codes "alternative ") i (codes " may begin with any tag (X.680 29.3)"))
shown_fault (AlternativesClash id i j) = about id (with_indices (codes "alternatives ") i (codes " and ") j (codes " may begin with the same tag (X.680 29.3)"))
shown_fault (ComponentsClash id i j) = about id (with_indices (codes "component ") i (codes " may be absent, and component ") j (codes " may begin with the same tag (X.680 25.6)"))
shown_fault (UntaggedComponent id i) = about id (with_index (codes "component ") i (codes " may be absent, has no tag of its own and isn't the last (X.680 25.6)"))
shown_fault (AdditionInSet id i) = about id (with_index (codes "component ") i (codes " of a SET is an extension addition"))
shown_fault (UntaggedInSet id i) = about id (with_index (codes "component ") i (codes " of a SET may begin with any tag (X.680 27.3)"))
shown_fault (SetClash id i j) = about id (with_indices (codes "components ") i (codes " and ") j (codes " of a SET may begin with the same tag (X.680 27.3)"))
shown_fault (MisplacedUnknown id i) = about id (with_index (codes "part ") i (codes " is unknown values, and not the last, required component of a SEQUENCE or a SET (X.680 25, 27)"))
shown_fault (UnfitDefault id i) = about id (with_index (codes "the default of component ") i (codes " isn't a value of its type (X.680 25)"))

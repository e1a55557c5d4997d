-- ENUMERATED and NULL, read from lists.
use Rattle.std.specs.Prelude.{◌≡◌, ◌≢◌, ◌⊎◌, ℕ, ℤ, Contains, List, [], length, Result, Ok, Err}
use Rattle.rasn_types.specs.declared.types.tag.Tag.{Tag}
use Rattle.rasn_types.specs.declared.types.codec.Codec.{Codec}
use Rattle.rasn_types.specs.Contents.{signed}
use Rattle.rasn_types.specs.Shapes.{IsIn}
use Rattle.rasn_types.specs.Trees.{signed_range}
use Rattle.rasn_de.specs.declared.ber.de.parser.ParseError.TheVariants.{MismatchedLength, IntegerOverflow, DiscriminantValueNotFound}
use Rattle.rasn_de.specs.Causes.{Cause, fault, out_of_bound}
use Rattle.rasn_de.specs.Leaves.{Readings, LeafAt, IsIntegerContents, IsNotIntegerContents}

-- The contents of an ENUMERATED (8.4) of a type that names these numbers. That the number fits in 64 bits is checked
-- first.
abbrev pub EnumeratedIn : Codec → List ℤ → List ℕ → Result ℤ Cause → Type 0
EnumeratedIn rule known c (Ok z) = IsIntegerContents rule c × Contains known (signed c) × (z ≡ signed c)
EnumeratedIn rule known c (Err (fault f)) =
    IsNotIntegerContents rule c f
    ⊎ ((IsIntegerContents rule c × (IsIn (signed_range 64) (signed c) → ⊥) × (f ≡ IntegerOverflow 64))
    ⊎ (IsIntegerContents rule c × IsIn (signed_range 64) (signed c) × (Contains known (signed c) → ⊥) × (f ≡ DiscriminantValueNotFound (signed c))))
EnumeratedIn rule known c (Err (out_of_bound z bound)) = ⊥

abbrev pub EnumeratedAt : List ℤ → Codec → Tag → List ℕ → Readings ℤ
EnumeratedAt known rule tag l = LeafAt (EnumeratedIn rule known) rule tag l

-- The contents of a NULL (8.8), which are empty.
abbrev pub NullIn : List ℕ → Result (Unit {0}) Cause → Type 0
NullIn c (Ok u) = c ≡ []
NullIn c (Err e) = (c ≢ []) × (e ≡ fault (MismatchedLength 0 (length c)))

abbrev pub NullAt : Codec → Tag → List ℕ → Readings (Unit {0})
NullAt rule tag l = LeafAt NullIn rule tag l

-- OBJECT IDENTIFIER, read from lists.
use Rattle.std.specs.Prelude.{◌≡◌, ◌≢◌, ◌⊎◌, ℕ, ◌-◌, ◌*◌, ◌/◌, min, ◌&&◌, if◌then◌else◌, List, [], ◌∷◌, ◌++◌, Result, Ok, Err}
use Rattle.rasn_types.specs.declared.types.tag.Tag.{Tag}
use Rattle.rasn_types.specs.declared.types.codec.Codec.{Codec}
use Rattle.rasn_types.specs.declared.error.decode.DecodeError.{DecodeError}
use Rattle.rasn_types.specs.Contents.{Arcs, ShortArcs, IsObjectIdentifier, IsShortest}
use Rattle.rasn_types.specs.Shapes.{object_identifier}
use Rattle.rasn_types.specs.Tags.{IsStrict}
use Rattle.rasn_types.specs.declared.error.decode.DerDecodeErrorKind.TheVariants.{NonMinimalArc}
use Rattle.rasn_types.specs.Errors.{IsOutOfMemory}
use Rattle.rasn_de.specs.declared.ber.de.parser.ParseError.{ParseError}
use Rattle.rasn_de.specs.declared.ber.de.parser.ParseError.TheVariants.{OutOfMemory, UnsupportedObjectIdentifierArc, Der}
use Rattle.rasn_de.specs.Headers.{number128_at, is_padded, is_der}
use Rattle.rasn_de.specs.Causes.{Cause, fault, out_of_bound, error_kind}
use Rattle.rasn_de.specs.Leaves.{Readings, LeafAt, FailsAs, DecodesLeaf, definite_at}
use Rattle.rasn_de.specs.State.{State, at}

-- The next subidentifier. Under DER its first octet is checked before the others.
abbrev pub arc_at : Codec → List ℕ → Result (ℕ × List ℕ) ParseError
arc_at rule l = if is_der rule && is_padded l then Err (Der NonMinimalArc) else number128_at UnsupportedObjectIdentifierArc 0 l

-- The first two arcs, which share the first subidentifier (8.19.4).
abbrev pub first_two : ℕ → List ℕ
first_two s = min 2 (s / 40) ∷ (s - 40 * min 2 (s / 40)) ∷ []

-- These octets encode these arcs, and under the strict rule they are the fewest possible.
abbrev pub ReadsArcs : Codec → List ℕ → List ℕ → Type 0
ReadsArcs rule c arcs = IsObjectIdentifier c arcs × (IsStrict rule → IsShortest object_identifier c)

-- After whole subidentifiers, the next one can't be read (8.19.2): octets of it are missing, its value is 2 ^ 32 or
-- more, or under the strict rule it has superfluous octets. Contents must have at least one subidentifier.
pub record FailsAtSubidentifier (rule : Codec) (c : List ℕ) (f : ParseError) : Type 0 where
  pub front : List ℕ
  pub numbers : List ℕ
  pub back : List ℕ
  pub whole : Arcs front numbers
  pub short : IsStrict rule → ShortArcs front numbers
  pub is : c ≡ front ++ back
  pub owed : (numbers ≡ []) ⊎ (back ≢ [])
  pub stops : arc_at rule back ≡ Err f

-- The contents of an OBJECT IDENTIFIER (8.19).
abbrev pub ObjectIdentifierIn : Codec → List ℕ → Result (List ℕ) Cause → Type 0
ObjectIdentifierIn rule c (Ok arcs) = ReadsArcs rule c arcs
ObjectIdentifierIn rule c (Err (fault f)) = FailsAtSubidentifier rule c f
ObjectIdentifierIn rule c (Err (out_of_bound z bound)) = ⊥

abbrev pub ObjectIdentifierAt : Codec → Tag → List ℕ → Readings (List ℕ)
ObjectIdentifierAt rule tag l = LeafAt (ObjectIdentifierIn rule) rule tag l

-- The first subidentifier is read, after which arcs are allocated.
abbrev pub HasFirstSubidentifier : Codec → List ℕ → Type 0
HasFirstSubidentifier rule c = (first : ℕ) × (after : List ℕ) × (arc_at rule c ≡ Ok (first, after))

-- What a function returns for contents. An allocation can fail only after the first subidentifier.
abbrev pub ParsesArcs : Codec → List ℕ → Result (List ℕ) ParseError → Type 0
ParsesArcs rule c (Ok arcs) = ReadsArcs rule c arcs
ParsesArcs rule c (Err f) = ((f ≡ OutOfMemory) × HasFirstSubidentifier rule c) ⊎ FailsAtSubidentifier rule c f

-- What a decoder returns for contents that are read by rule. Its errors name the decoder's own rule, the first
-- argument. An allocation can fail only after the first subidentifier.
abbrev pub DecodesArcs : Codec → Codec → List ℕ → Result (List ℕ) DecodeError → Type 0
DecodesArcs named rule c (Ok arcs) = ReadsArcs rule c arcs
DecodesArcs named rule c (Err e) = (e.codec ≡ named) × ((IsOutOfMemory e.kind × HasFirstSubidentifier rule c) ⊎ ((f : ParseError) × FailsAtSubidentifier rule c f × (e.kind ≡ error_kind f)))

-- The arcs are the only ones that the contents encode. On an error other than OutOfMemory, the contents encode none.
abbrev pub DecodesOnlyArcs : List ℕ → Result (List ℕ) DecodeError → Type 0
DecodesOnlyArcs c (Ok arcs) = IsObjectIdentifier c arcs × ((others : List ℕ) → IsObjectIdentifier c others → others ≡ arcs)
DecodesOnlyArcs c (Err e) = (IsOutOfMemory e.kind → ⊥) → (arcs : List ℕ) → IsObjectIdentifier c arcs → ⊥

-- A call returns the result of the reading; or an allocation fails after the first subidentifier, and the value is
-- consumed.
abbrev pub DecodesObjectIdentifier : Tag → State → Result (List ℕ) DecodeError → State → Type 0
DecodesObjectIdentifier tag old (Ok arcs) new = DecodesLeaf (λ o. o) (ObjectIdentifierAt old.rule tag old.rest) old (Ok arcs) new
DecodesObjectIdentifier tag old (Err e) new =
    (IsOutOfMemory e.kind × (e.codec ≡ old.rule) × (new ≡ at old new.rest) × (c : List ℕ) × (definite_at old.rule tag old.rest ≡ Ok (c, new.rest)) × HasFirstSubidentifier old.rule c)
    ⊎ ((IsOutOfMemory e.kind → ⊥) × FailsAs (ObjectIdentifierAt old.rule tag old.rest) old e new)

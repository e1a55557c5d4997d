-- Alternatives as types: the first one, or one of the others.
use Rattle.std.specs.Prelude.{◌≡◌, ◌⊎◌, ℕ, ◌+◌, Bool, true, false, not, ◌&&◌, List, Option, Some, None, Result, Ok, Err}
use Rattle.rasn_types.specs.declared.types.codec.Codec.{Codec}
use Rattle.rasn_types.specs.declared.types.tag.Tag.{Tag}
use Rattle.rasn_types.specs.declared.error.decode.DecodeError.{DecodeError}
use Rattle.rasn_types.specs.Tags.{form, eoc}
use Rattle.rasn_types.specs.Framing.{NextTag}
use Rattle.rasn_types.specs.Shapes.{Shape, Tree, chosen, choice, open_choice, Parts, part, own, count, IsFirstOf, Presence, required, addition, optional_by, default_by}
use Rattle.rasn_types.specs.Shapes.Parts.{none}
use Rattle.rasn_types.specs.Readings.{Reading, ReadsChoice}
use Rattle.rasn_types.specs.Grammar.{ReadsOpenChoice, parts_of}
use Rattle.rasn_de.specs.Any.{DecodesOpenType}
use Rattle.rasn_de.specs.State.{State, Call}
use Rattle.rasn_de.specs.Steps.{PeeksTag}
use Rattle.rasn_de.specs.NamedErrors.{IsNamedError, IsNoValidChoice}
use Rattle.rasn_de.specs.Headers.{same_tag}
use Rattle.rasn_de.specs.PartTypes.{same_own, DecodesTree, FailsAtOnePart}
use Rattle.rasn_de.specs.Decodes.{DecodesBy, Decodes}

-- One of these alternatives is read. The first one has the number k.
abbrev pub ReadsNumbered : ℕ → Parts → Codec → ℕ → Bool → Reading Tree
ReadsNumbered k ps rule depth closing = ReadsChoice rule k (parts_of rule ps depth closing)

-- The same, with an extension marker or without one. With one, a value with the tag of no alternative is read as the
-- unknown alternative, which has the number after those of the others.
abbrev pub ReadsNumberedBy : Bool → ℕ → Parts → Codec → ℕ → Bool → Reading Tree
ReadsNumberedBy false k ps = ReadsNumbered k ps
ReadsNumberedBy true k ps =
    λ rule depth closing. ReadsOpenChoice rule (IsFirstOf ps) (k + count ps) (ReadsNumbered k ps rule depth closing)

-- The value is read as the alternative that has its number, whatever number k the first alternative has.
pub record DecodesNumbered {T : Type 0} (extensible : Bool) (ps : Parts) (number : T → ℕ) (inner : T → Tree) (old : State) (result : Result T DecodeError) (new : State) : Type 0 where
  pub from : (k : ℕ) → DecodesBy (ReadsNumberedBy extensible k ps) (λ v. chosen (k + number v) (inner v)) old result new

abbrev pub is_other : Option Tag → Tag → Bool
is_other None t = false
is_other (Some u) t = not (same_tag u t)

-- Whether each of the parts has a tag of its own, which isn't t.
abbrev pub none_begins : Parts → Tag → Bool
none_begins none t = true
none_begins (part p s ps) t = is_other (own s) t && none_begins ps t

-- Whether this is the shape's own tag, and each of the parts has another tag of its own.
abbrev pub is_first_alone : Shape → Tag → Parts → Bool
is_first_alone s tag ps = same_own (own s) (Some tag) && none_begins ps tag

-- The value of a part that is present can't be read.
abbrev pub FailsAtValue : Presence → Shape → State → DecodeError → State → Type 0
FailsAtValue required s old e new = DecodesTree s old (Err e) new
FailsAtValue (optional_by key) s old e new = DecodesTree s old (Err e) new
FailsAtValue addition s old e new = DecodesTree s old (Err e) new
FailsAtValue (default_by key d) s old e new = FailsAtOnePart (default_by key d) s old e new

-- The first alternative with this tag can't be read; or no alternative has the tag, the error contains the name, and
-- nothing is consumed.
abbrev pub FailsAtAlternative : Parts → List ℕ → Tag → State → DecodeError → State → Type 0
FailsAtAlternative none name tag old e new = IsNamedError (IsNoValidChoice name) old.rule e × (new ≡ old)
FailsAtAlternative (part p s ps) name tag old e new =
    ((own s ≡ Some tag) × FailsAtValue p s old e new) ⊎ ((own s ≡ Some tag → ⊥) × FailsAtAlternative ps name tag old e new)

-- The alternative with the next tag is read. An error is that of the look at the tag, which consumes nothing, or one of
-- FailsAtAlternative.
abbrev pub DecodesAlternative : {D : Type 0} → Parts → (D → Tree) → List ℕ → Call D
DecodesAlternative ps tree name old (Ok v) new = Decodes (choice ps) tree old (Ok v) new
DecodesAlternative ps tree name old (Err e) new = (PeeksTag old (Err e) × (new ≡ old))
    ⊎ ((tag : Tag) × NextTag (form old.rule) old.rest tag × FailsAtAlternative ps name tag old e new)

-- The same, with an extension marker or without one. With one, a value with the tag of no alternative is read as an open
-- type without a tag, and the error is one of that.
abbrev pub FailsAtAlternativeBy : Bool → Parts → List ℕ → Tag → State → DecodeError → State → Type 0
FailsAtAlternativeBy false ps name tag old e new = FailsAtAlternative ps name tag old e new
FailsAtAlternativeBy true none name tag old e new = DecodesOpenType eoc old (Err e) new
FailsAtAlternativeBy true (part p s ps) name tag old e new =
    ((own s ≡ Some tag) × FailsAtValue p s old e new) ⊎ ((own s ≡ Some tag → ⊥) × FailsAtAlternativeBy true ps name tag old e new)

abbrev pub DecodesAlternativeBy : {D : Type 0} → Bool → Parts → (D → Tree) → List ℕ → Call D
DecodesAlternativeBy false ps tree name old r new = DecodesAlternative ps tree name old r new
DecodesAlternativeBy true ps tree name old (Ok v) new = Decodes (open_choice ps) tree old (Ok v) new
DecodesAlternativeBy true ps tree name old (Err e) new = (PeeksTag old (Err e) × (new ≡ old))
    ⊎ ((tag : Tag) × NextTag (form old.rule) old.rest tag × FailsAtAlternativeBy true ps name tag old e new)

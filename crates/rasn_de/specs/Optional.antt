-- Values that may be left out.
use Rattle.std.specs.Prelude.{◌≡◌, ◌≢◌, ◌⊎◌, ℕ, Bool, true, false, Option, Some, None, Result, Ok, Err}
use Rattle.std.specs.declared.alloc.AllocError.{AllocError}
use Rattle.rasn_types.specs.declared.types.tag.Tag.{Tag}
use Rattle.rasn_types.specs.declared.error.decode.DecodeError.{DecodeError}
use Rattle.rasn_types.specs.declared.error.decode.DerDecodeErrorKind.TheVariants.{DefaultValuePresent}
use Rattle.rasn_types.specs.Tags.{form, IsStrict}
use Rattle.rasn_types.specs.Framing.{Ended}
use Rattle.rasn_types.specs.declared.types.codec.Codec.{Codec}
use Rattle.rasn_types.specs.declared.types.constraints.Constraints.{Constraints}
use Rattle.rasn_types.specs.Shapes.{Tree, Same, Shape, Presence, default, optional_choice, default_choice, option, Sought, one_tag, any_of, sought_in, looked_for, tagged_as}
use Rattle.rasn_types.specs.Trees.{option_tree}
use Rattle.rasn_types.specs.Readings.{Reading, ReadsPart, IsLeftOut, IsPresent}
use Rattle.rasn_types.specs.Grammar.{Reads}
use Rattle.rasn_de.specs.Decodes.{Decodes, DecodesBy}
use Rattle.rasn_de.specs.ValueErrors.{Errors, DecodesOr}
use Rattle.rasn_de.specs.declared.ber.de.parser.ParseError.TheVariants.{OutOfMemory, Der}
use Rattle.rasn_de.specs.State.{State, Call}
use Rattle.rasn_de.specs.Steps.{IsErrorOf, PeeksTag}

-- One part, read as its presence requires.
abbrev pub OnePart : Presence → Shape → Codec → ℕ → Bool → Reading Tree
OnePart p s rule depth closing = ReadsPart rule p (sought_in p s) (Reads rule s depth closing) closing

-- The next tag is looked at.
abbrev pub NeedsTag : Sought → Type 0
NeedsTag (one_tag tag) = tag ≢ None
NeedsTag (any_of P) = Unit {0}

-- Whether the next value is the one that is looked for. The look fails if a tag is needed, and the contents continue
-- without a valid one.
abbrev pub NextIs : Sought → State → Result Bool DecodeError → Type 0
NextIs tags s (Ok true) = IsPresent (form s.rule) tags s.closing s.rest
NextIs tags s (Ok false) = IsLeftOut (form s.rule) tags s.closing s.rest
NextIs tags s (Err e) = NeedsTag tags × (Ended s.closing s.rest → ⊥) × PeeksTag s (Err e)

abbrev pub NextTagIs : Tag → State → Result Bool DecodeError → Type 0
NextTagIs tag = NextIs (one_tag (looked_for tag))

module _ {D : Type 0} (read : Call D) (tags : Sought) (old : State) where
  -- The value is left out; or it is present and read; or the look at the next tag fails, which consumes nothing.
  abbrev pub DecodesIfSought : Result (Option D) DecodeError → State → Type 0
  DecodesIfSought (Ok None) new = NextIs tags old (Ok false) × (new ≡ old)
  DecodesIfSought (Ok (Some v)) new = NextIs tags old (Ok true) × read old (Ok v) new
  DecodesIfSought (Err e) new = (NextIs tags old (Err e) × (new ≡ old)) ⊎ (NextIs tags old (Ok true) × read old (Err e) new)

abbrev pub DecodesIfPresent : {D : Type 0} → Call D → Tag → Call (Option D)
DecodesIfPresent read tag = DecodesIfSought read (one_tag (looked_for tag))

-- A value of the shape that may be left out, with this tag, these constraints and these errors.
abbrev pub DecodesIfPresentAs : {D : Type 0} → Tag → Constraints → Shape → (D → Tree) → Errors → Call (Option D)
DecodesIfPresentAs tag c s tree errors = DecodesIfPresent (DecodesOr (tagged_as tag c s) tree errors) tag

-- A value that may be left out is decoded; in the second definition, with this tag and these constraints.
abbrev pub DecodesOption : {D : Type 0} → Tag → Shape → (D → Tree) → Call (Option D)
DecodesOption tag s tree = Decodes (option (looked_for tag) s) (option_tree tree)

abbrev pub DecodesOptionAs : {D : Type 0} → Tag → Constraints → Shape → (D → Tree) → Call (Option D)
DecodesOptionAs tag c s tree = DecodesOption tag (tagged_as tag c s) tree

-- A CHOICE that may be left out, and that other parts may follow.
abbrev pub DecodesOptionalChoice : {D : Type 0} → Shape → (D → Tree) → Call (Option D)
DecodesOptionalChoice s tree = DecodesBy (OnePart optional_choice s) (option_tree tree)

-- The value that is made, or OutOfMemory. made r means that r may be the result.
abbrev pub MakesValue : {D : Type 0} → (Result D AllocError → Type 0) → State → Result D DecodeError → Type 0
MakesValue made s (Ok v) = made (Ok v)
MakesValue made s (Err e) = (x : AllocError) × made (Err x) × IsErrorOf OutOfMemory s e

-- A value that was read is returned, unless it equals its default under the strict rule, under which the default is made.
abbrev pub ReturnsUnlessDefault : {D : Type 0} → (D → Tree) → (Result D AllocError → Type 0) → State → D → Result D DecodeError → Type 0
ReturnsUnlessDefault {D} tree made s v (Ok w) = (w ≡ v) × (IsStrict s.rule → (d : D) × made (Ok d) × (Same (tree v) (tree d) → ⊥))
ReturnsUnlessDefault {D} tree made s v (Err e) = IsStrict s.rule × (MakesValue made s (Err e) ⊎ ((d : D) × made (Ok d) × Same (tree v) (tree d) × IsErrorOf (Der DefaultValuePresent) s e))

-- A value that has a default. The default is made at most once: if the value is left out, or, under the strict rule, if
-- a value is present, since it must not equal the default.
module _ {D : Type 0} (read : Call D) (tree : D → Tree) (made : Result D AllocError → Type 0) (tags : Sought) (old : State) where
  -- The cause of an error, and the remaining input. A value that was read before the error is consumed.
  pub data FailsWithDefault (e : DecodeError) (new : State) : Type 0 where
    no_look : NextIs tags old (Err e) → new ≡ old → FailsWithDefault e new
    no_default : NextIs tags old (Ok false) → MakesValue made old (Err e) → new ≡ old → FailsWithDefault e new
    no_read : NextIs tags old (Ok true) → read old (Err e) new → FailsWithDefault e new
    not_compared : NextIs tags old (Ok true) → (v : D) → read old (Ok v) new → IsStrict old.rule → MakesValue made old (Err e) → FailsWithDefault e new
    present : NextIs tags old (Ok true) → (v : D) → read old (Ok v) new → IsStrict old.rule
        → (d : D) → made (Ok d) → Same (tree v) (tree d) → IsErrorOf (Der DefaultValuePresent) old e → FailsWithDefault e new

  abbrev pub DecodesSoughtOrDefault : Result D DecodeError → State → Type 0
  DecodesSoughtOrDefault (Ok v) new = (NextIs tags old (Ok false) × made (Ok v) × (new ≡ old))
      ⊎ (NextIs tags old (Ok true) × read old (Ok v) new × (IsStrict old.rule → (d : D) × made (Ok d) × (Same (tree v) (tree d) → ⊥)))
  DecodesSoughtOrDefault (Err e) new = FailsWithDefault e new

abbrev pub DecodesOrDefault : {D : Type 0} → Call D → (D → Tree) → (Result D AllocError → Type 0) → Tag → Call D
DecodesOrDefault read tree made tag = DecodesSoughtOrDefault read tree made (one_tag (looked_for tag))

-- A value of the shape that has a default, with this tag, these constraints and these errors.
abbrev pub DecodesOrDefaultAs : {D : Type 0} → Tag → Constraints → Shape → (D → Tree) → Errors → (Result D AllocError → Type 0) → Call D
DecodesOrDefaultAs tag c s tree errors made = DecodesOrDefault (DecodesOr (tagged_as tag c s) tree errors) tree made tag

-- The value must be present.
abbrev pub DecodesAlways : {D : Type 0} → Call D → Call (Option D)
DecodesAlways read old (Ok None) new = ⊥
DecodesAlways read old (Ok (Some v)) new = read old (Ok v) new
DecodesAlways read old (Err e) new = read old (Err e) new

-- A part of a SEQUENCE that has a default if it is left out.
abbrev pub ReadsDefault : Tag → Tree → Shape → Codec → ℕ → Bool → Reading Tree
ReadsDefault tag without s rule depth closing = ReadsPart rule (default without) (one_tag (looked_for tag)) (Reads rule s depth closing) closing

-- The part is read with the tree of the default, whatever that tree is.
abbrev pub DecodesDefault : {D : Type 0} → Tag → Shape → (D → Tree) → (Result D AllocError → Type 0) → Call D
DecodesDefault {D} tag s tree made old result new = (without : Tree) → ((v : D) → made (Ok v) → tree v ≡ without) → DecodesBy (ReadsDefault tag without s) tree old result new

-- A value that has a default is decoded, with this tag and these constraints.
abbrev pub DecodesDefaultAs : {D : Type 0} → Tag → Constraints → Shape → (D → Tree) → (Result D AllocError → Type 0) → Call D
DecodesDefaultAs tag c s tree made = DecodesDefault tag (tagged_as tag c s) tree made

-- A CHOICE that has a default, and that other parts may follow.
abbrev pub DecodesDefaultChoice : {D : Type 0} → Shape → (D → Tree) → (Result D AllocError → Type 0) → Call D
DecodesDefaultChoice {D} s tree made old result new =
    (without : Tree) → ((v : D) → made (Ok v) → tree v ≡ without) → DecodesBy (OnePart (default_choice without) s) tree old result new

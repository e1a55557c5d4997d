-- Which part of a value isn't of its type.
use Rattle.std.specs.Prelude.{◌≡◌, ℕ, zero, suc, List, [], ◌∷◌, Option, Some, None, slice_get}
use Rattle.rasn_schema.specs.declared.types.Alternative.{Alternative}
use Rattle.rasn_schema.specs.declared.types.Component.{Component}
use Rattle.rasn_schema.specs.declared.types.«Type».{«Type»}
use Rattle.rasn_schema.specs.declared.types.«Type».TheVariants.{Choice, Sequence, Set, SequenceOf, SetOf, Tagged}
use Rattle.rasn_schema.specs.declared.value.Value.{Value}
use Rattle.rasn_schema.specs.Trees.{tree_of}
use Rattle.rasn_schema.specs.Shapes.{presence_of}
use Rattle.rasn_schema.specs.Fitting.{IsLeftOutAs, AreItems, AreElements, IsChosen, FitsBy}

-- Component i isn't left out, its value is w, and j is the number of its type.
abbrev pub IsComponent : List Component → ℕ → ℕ → Value → List Value → Type 0
IsComponent ps i j w vs = (Some w ≡ slice_get vs i) × ((p : Component) × (Some p ≡ slice_get ps i) × (p.type_id.0 ≡ j) × (IsLeftOutAs (presence_of p.presence) (tree_of w) → ⊥))

-- Element i is w, and k is the number of its type.
abbrev pub IsElement : ℕ → ℕ → ℕ → Value → List Value → Type 0
IsElement k i j w vs = (Some w ≡ slice_get vs i) × (k ≡ j)

-- The value of the alternative with index i is w, and j is the number of its type.
abbrev pub IsOfAlternative : List Alternative → ℕ → ℕ → Value → ℕ → Value → Type 0
IsOfAlternative ks i j w n u = (n ≡ i) × (u ≡ w) × ((a : Alternative) × (Some a ≡ slice_get ks i) × (a.type_id.0 ≡ j))

-- UnfitPart i of a value of the type is w, and j is the number of its type.
abbrev pub IsPart : «Type» → Value → ℕ → ℕ → Value → Type 0
IsPart (Choice name ks) v i j w = IsChosen (IsOfAlternative ks.items i j w) v
IsPart (Sequence tag ps) v i j w = AreItems (IsComponent ps.items i j w) v
IsPart (Set name tag ps) v i j w = AreItems (IsComponent ps.items i j w) v
IsPart (SequenceOf tag k c) v i j w = AreItems (IsElement k.0 i j w) v
IsPart (SetOf tag k c) v i j w = AreElements (IsElement k.0 i j w) v
IsPart _ v i j w = ⊥

-- The value isn't of the type's form, whatever its parts are.
abbrev pub IsOtherForm : «Type» → Value → Type 0
IsOtherForm ty v = FitsBy (λ j w. Unit {0}) ty v → ⊥

-- An empty path leads to the value itself, whose form is another one; else it goes on from a part, of which h tells. An explicit tag isn't seen.
abbrev pub IsUnfitIn : (ℕ → Value → List ℕ → Type 0) → «Type» → Value → List ℕ → Type 0
IsUnfitIn h ty v [] = IsOtherForm ty v
IsUnfitIn h ty v (i ∷ path) = (j : ℕ) × (w : Value) × IsPart ty v i j w × h j w path

abbrev pub IsUnfitBy : (ℕ → Value → List ℕ → Type 0) → «Type» → Value → List ℕ → Type 0
IsUnfitBy h (Tagged tag k) v path = h k.0 v path
IsUnfitBy h ty v path = IsUnfitIn h ty v path

abbrev pub IsUnfitFound : (ℕ → Value → List ℕ → Type 0) → Option «Type» → Value → List ℕ → Type 0
IsUnfitFound h None v path = path ≡ []
IsUnfitFound h (Some ty) v path = IsUnfitBy h ty v path

-- The path leads from a value of the type with this number to a part that isn't of its type's form.
unfoldable pub IsUnfitAt : List «Type» → ℕ → ℕ → Value → List ℕ → Type 0
IsUnfitAt types zero k v path = path ≡ []
IsUnfitAt types (suc levels) k v path = IsUnfitFound (λ j w p. IsUnfitAt types levels j w p) (slice_get types k) v path

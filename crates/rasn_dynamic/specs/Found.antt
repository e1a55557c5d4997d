-- The components of a SET that were read so far are values of their types.
use Rattle.std.specs.Prelude.{ℕ, List, [], ◌∷◌, Option, Some, None, ◌++◌, ◌≡◌, Bool, true, false}
use Rattle.rasn_schema.specs.declared.types.Component.{Component}
use Rattle.rasn_schema.specs.declared.value.Value.{Value}
use Rattle.rasn_schema.specs.Fitting.{ComponentsFit, AreItems, EachFits, AreOctets}

abbrev pub OneFound : (ℕ → Value → Type 0) → Component → Option Value → Type 0
OneFound g p None = Unit {0}
OneFound g p (Some v) = g p.type_id.0 v

-- There is a place for each component.
abbrev pub FoundFit : (ℕ → Value → Type 0) → List Component → List (Option Value) → Type 0
FoundFit g [] [] = Unit {0}
FoundFit g [] (x ∷ found) = ⊥
FoundFit g (p ∷ ps) [] = ⊥
FoundFit g (p ∷ ps) (x ∷ found) = OneFound g p x × FoundFit g ps found

-- Values of the named components and, if there may be unknown ones, the list of these after them.
abbrev pub MembersFit : (ℕ → Value → Type 0) → Bool → List Component → List Value → Type 0
MembersFit g false ps vs = ComponentsFit g ps vs
MembersFit g true ps vs = (known : List Value) × (v : Value) × (vs ≡ known ++ v ∷ []) × ComponentsFit g ps known × AreItems (EachFits AreOctets) v

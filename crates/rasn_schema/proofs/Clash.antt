-- A type whose values begin with one tag alone is distinguished from another one by that tag.
use Rattle.std.proofs.Common.{◌≡◌, ◌<◌, ℕ, List, Option, Some, None, subst}
use Rattle.std.specs.Prelude.{slice_get, MatchOption}
use Rattle.rasn_types.specs.declared.types.tag.Tag.{Tag}
use Rattle.rasn_types.specs.Shapes.{Shape, IsFirst}
use Rattle.rasn_types.specs.Lawful.{HasTag}
use Rattle.rasn_schema.specs.declared.types.Alternative.{Alternative}
use Rattle.rasn_schema.specs.Schemas.{AreDistinct}

pub clash_by_tag : (f : ℕ → Shape) (s : Shape) (tag : Tag) (ks : List Alternative) (index : ℕ) (r : Option ℕ) → IsFirst s tag → ((n : Tag) → IsFirst s n → n ≡ tag)
    → MatchOption r ((j : ℕ) (a : Alternative) → index < j → Some a ≡ slice_get ks j → HasTag (f a.type_id.0) → IsFirst (f a.type_id.0) tag → ⊥) (λ j. (index < j) × ((a : Alternative) × (Some a ≡ slice_get ks j) × HasTag (f a.type_id.0) × IsFirst (f a.type_id.0) tag))
    → MatchOption r ((j : ℕ) (a : Alternative) → index < j → Some a ≡ slice_get ks j → HasTag (f a.type_id.0) → AreDistinct s (f a.type_id.0)) (λ j. (index < j) × ((a : Alternative) × (Some a ≡ slice_get ks j) × HasTag (f a.type_id.0) × (AreDistinct s (f a.type_id.0) → ⊥)))
clash_by_tag f s tag ks index None is only h = λ j a l e t n k m. h j a l e t (subst (IsFirst (f a.type_id.0)) (only n k) m)
clash_by_tag f s tag ks index (Some j) is only (l, (a, e, t, b)) = (l, (a, e, t, λ d. d tag is b))

-- Types that were worked out by hand: which rules of X.680 they keep, and which they break.
use Rattle.std.specs.Prelude.{◌≡◌, ℕ, true, false, Vec, String, List, [], ◌∷◌, Option, Some, None}
use Rattle.std.specs.Global.{Global}
use Rattle.rasn_types.specs.declared.types.tag.Tag.{Tag}
use Rattle.rasn_types.specs.Tags.{eoc, in_universal}
use Rattle.rasn_types.specs.Shapes.{Shape, leaf, any, prefix, choice, open_choice, sorted_set, unknown, part, required, boolean, null}
use Rattle.rasn_types.specs.Shapes.Parts.{none}
use Rattle.rasn_types.specs.Trees.{unconstrained}
use Rattle.rasn_schema.specs.declared.types.Alternative.{Alternative}
use Rattle.rasn_schema.specs.declared.types.Component.{Component}
use Rattle.rasn_schema.specs.declared.types.NamedNumber.{NamedNumber}
use Rattle.rasn_schema.specs.declared.types.«Type».{«Type»}
use Rattle.rasn_schema.specs.declared.types.«Type».TheVariants.{Any, Tagged, Choice, Set, Unknown}
use Rattle.rasn_schema.specs.declared.first_tags.FirstTags.TheVariants.{Nothing, One}
use Rattle.rasn_schema.specs.declared.error.SchemaError.TheVariants.{ReservedTag}
use Rattle.rasn_schema.specs.Shapes.{presence_of, choice_among, set_among}
use Rattle.rasn_schema.specs.FirstTags.{AreFirstTags, IsAlwaysThere}
use Rattle.rasn_schema.specs.Depth.{AreDeep}
use Rattle.rasn_schema.specs.Schemas.{AreDistinct, IsPrefix, AreLowerAndTagged, AreDistinctAlternatives, AreDistinctNumbers, MayFollow, IsRecognizable, IsToldFrom, AreToldInOrder, EndsUnknown, AreTagged, AreDistinctComponents, IsSchema}
use Rattle.rasn_schema.specs.Faults.{IsFault}
use Rattle.rasn_schema.specs.declared.types.Presence.TheVariants.{Required, Addition}

-- A BOOLEAN and a NULL.
abbrev pub truth : Shape
truth = leaf boolean (in_universal 1) unconstrained

abbrev pub nothing : Shape
nothing = leaf null (in_universal 5) unconstrained

-- An explicit tag that is reserved, alone.
abbrev pub reserved_alone : List «Type»
reserved_alone = Tagged eoc (record { 0 = 0 }) ∷ []

-- An open type, one with an explicit tag, and a type after them.
abbrev pub after_open : «Type» → List «Type»
after_open ty = Any eoc ∷ (Tagged (in_universal 5) (record { 0 = 0 }) ∷ (ty ∷ []))

-- Unknown values, open types with the tags 5 and 1, and a SET after them.
abbrev pub before_set : String Global → Vec Component Global → List «Type»
before_set name ps = Unknown ∷ (Any (in_universal 5) ∷ (Any (in_universal 1) ∷ (Set name (in_universal 17) ps ∷ [])))

pub record WorkedRules : Type 0 where
  pub distinct : AreDistinct truth nothing
  pub not_distinct : AreDistinct truth truth → ⊥
  pub tagged : IsPrefix (prefix eoc truth)
  pub not_tagged : IsPrefix truth → ⊥
  pub lower_and_tagged : (a : Alternative) → a.type_id.0 ≡ 0 → AreLowerAndTagged (λ k. truth) 1 (a ∷ [])
  pub not_lower : (a : Alternative) → a.type_id.0 ≡ 1 → AreLowerAndTagged (λ k. truth) 1 (a ∷ []) → ⊥
  pub not_open_alone : (a : Alternative) → AreLowerAndTagged (λ k. any None) 1 (a ∷ []) → ⊥
  pub not_open_before_the_end : (a b : Alternative) → AreLowerAndTagged (λ k. any None) 1 (a ∷ (b ∷ [])) → ⊥
  pub none_that_ends_open : (a b : Alternative) → AreLowerAndTagged (λ k. open_choice none) 1 (a ∷ (b ∷ [])) → ⊥
  pub open_shape : choice_among (part required truth (part required (any None) none)) ≡ open_choice (part required truth none)
  pub plain_shape : choice_among (part required truth none) ≡ choice (part required truth none)
  pub one_alternative : (f : ℕ → Shape) (a : Alternative) → AreDistinctAlternatives f (a ∷ [])
  pub alternatives_clash : (a b : Alternative) → AreDistinctAlternatives (λ k. truth) (a ∷ (b ∷ [])) → ⊥
  pub one_number : (n : NamedNumber) → AreDistinctNumbers (n ∷ [])
  pub numbers_clash : (m n : NamedNumber) → m.number ≡ n.number → AreDistinctNumbers (m ∷ (n ∷ [])) → ⊥
  pub next_follows : (p q : Component) → MayFollow (p ∷ (q ∷ [])) 0 1
  pub none_follows_itself : (ps : List Component) → MayFollow ps 1 1 → ⊥
  pub not_past_one_that_is_there : (p q r : Component) → IsAlwaysThere (presence_of q.presence) → MayFollow (p ∷ (q ∷ (r ∷ []))) 0 2 → ⊥
  pub recognizable : IsRecognizable truth
  pub not_recognizable : IsRecognizable (any None) → ⊥
  pub told_by_its_tag : IsToldFrom (Some (in_universal 1)) truth nothing
  pub not_told : IsToldFrom (Some (in_universal 1)) truth truth → ⊥
  pub one_component : (own : ℕ → Option Tag) (f : ℕ → Shape) (p : Component) → AreToldInOrder own f (p ∷ [])
  pub components_clash : (p q : Component) → (IsAlwaysThere (presence_of p.presence) → ⊥) → AreToldInOrder (λ k. Some (in_universal 1)) (λ k. truth) (p ∷ (q ∷ [])) → ⊥
  pub extensible_shape : (tag : Tag) → set_among tag (part required truth (part required unknown none)) ≡ sorted_set true tag (part required truth none)
  pub closed_shape : (tag : Tag) → set_among tag (part required nothing (part required truth none)) ≡ sorted_set false tag (part required nothing (part required truth none))
  pub unknown_in_set : (p : Component) → p.presence ≡ Required → AreTagged (λ k. unknown) (p ∷ [])
  pub untagged_in_set : (p : Component) → AreTagged (λ k. any None) (p ∷ []) → ⊥
  pub addition_in_set : (p : Component) → p.presence ≡ Addition → AreTagged (λ k. truth) (p ∷ []) → ⊥
  pub not_unknown_first : (p q : Component) → EndsUnknown (λ k. unknown) (p ∷ (q ∷ [])) → ⊥
  pub set_clash : (p q : Component) → AreDistinctComponents (λ k. truth) (p ∷ (q ∷ [])) → ⊥
  pub first_tag : (f : ℕ → Shape) → AreFirstTags f truth (One (in_universal 1))
  pub not_no_tag : (f : ℕ → Shape) → AreFirstTags f truth Nothing → ⊥
  pub deep : AreDeep [] 0 1
  pub not_deep : AreDeep [] 0 0 → ⊥
  pub schema : IsSchema (Any eoc ∷ [])
  pub extensible : (name : String Global) (ks : Vec Alternative Global) (a b : Alternative) → ks.items ≡ a ∷ (b ∷ []) → a.type_id.0 ≡ 1 → b.type_id.0 ≡ 0 → IsSchema (after_open (Choice name ks))
  pub not_open_first : (name : String Global) (ks : Vec Alternative Global) (a b : Alternative) → ks.items ≡ a ∷ (b ∷ []) → a.type_id.0 ≡ 0 → IsSchema (after_open (Choice name ks)) → ⊥
  pub extensible_set : (name : String Global) (ps : Vec Component Global) (p q r : Component) → ps.items ≡ p ∷ (q ∷ (r ∷ [])) → p.presence ≡ Required → q.presence ≡ Required → r.presence ≡ Required
      → p.type_id.0 ≡ 1 → q.type_id.0 ≡ 2 → r.type_id.0 ≡ 0 → IsSchema (before_set name ps)
  pub no_set_with_one_tag_twice : (name : String Global) (ps : Vec Component Global) (p q : Component) → ps.items ≡ p ∷ (q ∷ []) → p.type_id.0 ≡ 1 → q.type_id.0 ≡ 1 → IsSchema (before_set name ps) → ⊥
  pub no_schema : IsSchema reserved_alone → ⊥
  pub fault : IsFault reserved_alone (ReservedTag (record { 0 = 0 }))
  pub no_fault : IsFault (Any eoc ∷ []) (ReservedTag (record { 0 = 0 })) → ⊥

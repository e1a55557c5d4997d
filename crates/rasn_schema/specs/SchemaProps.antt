-- That types are a schema has at most one proof.
use Rattle.std.specs.Prelude.{◌≡◌, ℕ, List, [], Option, Some, None}
use Rattle.std.specs.Coded.{×_prop, Unit-prop, le_prop}
use mathlib.Core.Bool.{Bool-set}
use native.Mathlib.Nat.{ℕ_set}
use Rattle.rasn_types.specs.declared.types.tag.Tag.{Tag}
use Rattle.rasn_types.specs.Tags.{eoc}
use Rattle.rasn_types.specs.Grammar.{Family, plain_family, bit_family, named_family, text_family, family}
use Rattle.rasn_types.specs.Shapes.{Shape, leaf, any, prefix, choice, open_choice, option, seq, set, sorted_set, list, set_of, unknown}
use Rattle.rasn_types.specs.Lawful.{HasTag, IsBitFree}
use Rattle.rasn_schema.specs.declared.types.Component.{Component}
use Rattle.rasn_schema.specs.declared.types.Alternative.{Alternative}
use Rattle.rasn_schema.specs.declared.types.NamedNumber.{NamedNumber}
use Rattle.rasn_schema.specs.declared.types.«Type».{«Type»}
use Rattle.rasn_schema.specs.declared.types.«Type».TheVariants.{Leaf, Enumerated, Any, Tagged, Choice, Sequence, Set, SequenceOf, SetOf, Unknown}
use Rattle.rasn_schema.specs.declared.types.Presence.{Presence}
use Rattle.rasn_schema.specs.declared.types.Presence.TheVariants.{Required, Optional, Addition, Default}
use Rattle.rasn_schema.specs.Shapes.{kind_of}
use Rattle.rasn_schema.specs.Schemas.{IsRequired, EndsUnknown, AreDistinct, AreLowerAndTagged, AreDistinctAlternatives, AreDistinctNumbers, IsToldFrom, AreToldInOrder, AreTagged, AreDistinctComponents, IsWellFormed, HaveFitDefaults, IsSchema, own_at, begin_at}

-- ---- facts of several parts

none_prop : IsProp ⊥
none_prop x y = absurd x

each_prop : {A : Type 0} (B : A → Type 0) → ((x : A) → IsProp (B x)) → IsProp ((x : A) → B x)
each_prop B h f g = λ i x. h x (f x) (g x) i

not_prop : (A : Type 0) → IsProp (A → ⊥)
not_prop A = each_prop (λ a. ⊥) (λ a. none_prop)

three_prop : {A B C : Type 0} → IsProp A → IsProp B → IsProp C → IsProp (A × B × C)
three_prop a b c x y = λ i. (a x.0 y.0 i, b x.1 y.1 i, c x.2 y.2 i)

four_prop : {A B C D : Type 0} → IsProp A → IsProp B → IsProp C → IsProp D → IsProp (A × B × C × D)
four_prop a b c d x y = λ i. (a x.0 y.0 i, b x.1 y.1 i, c x.2 y.2 i, d x.3 y.3 i)

-- ---- of shapes

has_tag_prop : (s : Shape) → IsProp (HasTag s)
has_tag_prop (leaf kind tag bounds) = Unit-prop
has_tag_prop (any None) = none_prop
has_tag_prop (any (Some tag)) = Unit-prop
has_tag_prop (prefix tag s) = Unit-prop
has_tag_prop (choice ps) = Unit-prop
has_tag_prop (open_choice ps) = none_prop
has_tag_prop (option tag s) = Unit-prop
has_tag_prop (seq tag ps) = Unit-prop
has_tag_prop (set tag ps) = Unit-prop
has_tag_prop (sorted_set extensible tag ps) = Unit-prop
has_tag_prop (list tag s size) = Unit-prop
has_tag_prop (set_of tag s size) = Unit-prop
has_tag_prop unknown = none_prop

bit_free_prop : (f : Family) (tag : Tag) → IsProp (IsBitFree f tag)
bit_free_prop plain_family tag = Unit-prop
bit_free_prop bit_family tag = Bool-set _ _
bit_free_prop named_family tag = Bool-set _ _
bit_free_prop text_family tag = Bool-set _ _

-- ---- of the rules

lower_prop : (f : ℕ → Shape) (id : ℕ) (ks : List Alternative) → IsProp (AreLowerAndTagged f id ks)
lower_prop f id ks = each_prop _ (λ i. each_prop _ (λ a. each_prop _ (λ e. ×_prop le_prop (each_prop _ (λ n. three_prop le_prop (ℕ_set _ _) (Bool-set _ _))))))

distinct_prop : (s t : Shape) → IsProp (AreDistinct s t)
distinct_prop s t = each_prop _ (λ n. each_prop _ (λ h. not_prop _))

alternatives_prop : (f : ℕ → Shape) (ks : List Alternative) → IsProp (AreDistinctAlternatives f ks)
alternatives_prop f ks = each_prop _ (λ i. each_prop _ (λ j. each_prop _ (λ a. each_prop _ (λ b. each_prop _ (λ h. each_prop _ (λ d. each_prop _ (λ e. each_prop _ (λ t. distinct_prop (f a.type_id.0) (f b.type_id.0)))))))))

numbers_prop : (ns : List NamedNumber) → IsProp (AreDistinctNumbers ns)
numbers_prop ns = each_prop _ (λ i. each_prop _ (λ j. each_prop _ (λ m. each_prop _ (λ n. each_prop _ (λ h. each_prop _ (λ d. each_prop _ (λ e. not_prop (m.number ≡ n.number))))))))

told_prop : (o : Option Tag) (s t : Shape) → IsProp (IsToldFrom o s t)
told_prop None s t = ×_prop (×_prop (has_tag_prop s) (not_prop _)) (distinct_prop s t)
told_prop (Some tag) s t = not_prop _

in_order_prop : (own : ℕ → Option Tag) (f : ℕ → Shape) (ps : List Component) → IsProp (AreToldInOrder own f ps)
in_order_prop own f ps = each_prop _ (λ i. each_prop _ (λ j. each_prop _ (λ p. each_prop _ (λ q. each_prop _ (λ d. each_prop _ (λ e. each_prop _ (λ a. each_prop _ (λ m. told_prop (own p.type_id.0) (f p.type_id.0) (f q.type_id.0)))))))))

required_prop : (r : Presence) → IsProp (IsRequired r)
required_prop Required = Unit-prop
required_prop Optional = none_prop
required_prop Addition = none_prop
required_prop (Default v) = none_prop

ends_prop : (f : ℕ → Shape) (ps : List Component) → IsProp (EndsUnknown f ps)
ends_prop f ps = each_prop _ (λ i. each_prop _ (λ p. each_prop _ (λ e. each_prop _ (λ a. ×_prop (ℕ_set _ _) (required_prop p.presence)))))

tagged_prop : (f : ℕ → Shape) (ps : List Component) → IsProp (AreTagged f ps)
tagged_prop f ps = each_prop _ (λ i. each_prop _ (λ p. each_prop _ (λ e. ×_prop (not_prop _) (each_prop _ (λ n. has_tag_prop (f p.type_id.0))))))

components_prop : (f : ℕ → Shape) (ps : List Component) → IsProp (AreDistinctComponents f ps)
components_prop f ps = each_prop _ (λ i. each_prop _ (λ j. each_prop _ (λ p. each_prop _ (λ q. each_prop _ (λ h. each_prop _ (λ d. each_prop _ (λ e. distinct_prop (f p.type_id.0) (f q.type_id.0))))))))

type_prop : (own : ℕ → Option Tag) (f : ℕ → Shape) (id : ℕ) (ty : «Type») → IsProp (IsWellFormed own f id ty)
type_prop own f id (Leaf kind tag c names) = ×_prop (not_prop (tag ≡ eoc)) (bit_free_prop (family (kind_of kind)) tag)
type_prop own f id (Enumerated tag ns) = three_prop (not_prop (tag ≡ eoc)) (not_prop (ns.items ≡ [])) (numbers_prop ns.items)
type_prop own f id (Any tag) = Unit-prop
type_prop own f id (Tagged tag k) = three_prop (not_prop (tag ≡ eoc)) (each_prop _ (λ h. le_prop)) (not_prop _)
type_prop own f id (Choice name ks) = three_prop (not_prop (ks.items ≡ [])) (lower_prop f id ks.items) (alternatives_prop f ks.items)
type_prop own f id (Sequence tag ps) = three_prop (not_prop (tag ≡ eoc)) (in_order_prop own f ps.items) (ends_prop f ps.items)
type_prop own f id (Set name tag ps) = four_prop (not_prop (tag ≡ eoc)) (tagged_prop f ps.items) (ends_prop f ps.items) (components_prop f ps.items)
type_prop own f id (SequenceOf tag k c) = ×_prop (not_prop _) (not_prop _)
type_prop own f id (SetOf tag k c) = ×_prop (not_prop _) (not_prop _)
type_prop own f id Unknown = Unit-prop

defaults_prop : (types : List «Type») → IsProp (HaveFitDefaults types)
defaults_prop types = each_prop _ (λ k. each_prop _ (λ ty. each_prop _ (λ e. each_prop _ (λ i. not_prop _))))

pub schema_prop : (types : List «Type») → IsProp (IsSchema types)
schema_prop types = ×_prop (each_prop _ (λ k. each_prop _ (λ ty. each_prop _ (λ e. type_prop (own_at types) (begin_at types) k ty)))) (defaults_prop types)

-- The shapes and tags of types.
use Rattle.std.proofs.Common.{◌≡◌, ◌≢◌, ℕ, zero, suc, Bool, true, false, ◌&&◌, List, Option, Some, None, inl, inr, refl, sym, ap, ap₂, subst, arith}
use Rattle.std.specs.Prelude.{nat_eq, slice_get}
use Rattle.std.proofs.lemmas.Bool.Decides.{nat_tests}
use Rattle.rasn_types.specs.declared.types.tag.Tag.{Tag}
use Rattle.rasn_types.specs.declared.types.tag.Class.{Class}
use Rattle.rasn_types.specs.declared.types.tag.Class.TheVariants.{Universal, Application, Context, Private}
use Rattle.rasn_types.specs.Tags.{eoc, is_universal, is_eoc}
use Rattle.rasn_types.specs.Shapes.{Shape, own, looked_for, leaf, any, prefix, choice, seq, set, list, set_of, unknown}
use Rattle.rasn_types.specs.Lawful.{IsLawful}
use Rattle.rasn_schema.specs.declared.types.«Type».{«Type»}
use Rattle.rasn_schema.specs.declared.types.«Type».TheVariants.{Leaf, Enumerated, Any, Tagged, Choice, Sequence, Set, SequenceOf, SetOf, Unknown}
use Rattle.rasn_schema.specs.Shapes.{type_by, found_by, nothing, alternatives_by, tag_of_type, tag_found, tag_at, shape_of_type, IsReadable}
use Rattle.rasn_schema.proofs.OpenEnds.{own_among, among_known}

tag_is : (s t : Tag) → s.class ≡ t.class → s.value ≡ t.value → s ≡ t
tag_is s t p q = ap₂ make p q
  where
    make : Class → ℕ → Tag
    make c n = record { class = c; value = n }

pub not_eoc : (tag : Tag) → tag ≢ eoc → is_eoc tag ≡ false
not_eoc tag h = go tag.class refl (nat_eq tag.value 0) refl
  where
    go : (c : Class) → tag.class ≡ c → (b : Bool) → nat_eq tag.value 0 ≡ b → is_universal c && b ≡ false
    go Universal e true f = let k : tag.value ≡ 0 = grind (arith, nat_tests) in absurd (h (tag_is tag eoc e k))
    go Universal e false f = refl
    go Application e b f = refl
    go Context e b f = refl
    go Private e b f = refl

pub looked : (tag : Tag) → tag ≢ eoc → Some tag ≡ looked_for tag
looked tag h = rw (not_eoc tag h) refl

-- A type that is there, one level deeper.
pub shape_is : (types : List «Type») (levels k : ℕ) (ty : «Type») → Some ty ≡ slice_get types k → shape_of_type types (suc levels) k ≡ type_by (shape_of_type types levels) ty
unfolding shape_of_type
shape_is types levels k ty e = sym (ap (found_by (shape_of_type types levels)) e)

node_own : (f : ℕ → Shape) (ty : «Type») → IsLawful (type_by f ty) → own (type_by f ty) ≡ looked_for (tag_of_type ty)
unfolding IsLawful
node_own f (Leaf kind tag c names) h = looked tag h.0
node_own f (Enumerated tag ns) h = looked tag h.0
node_own f (Any tag) h = refl
node_own f (Tagged tag k) h = looked tag h.0
node_own f (Choice name ks) h = own_among (alternatives_by f ks.items)
node_own f (Sequence tag ps) h = looked tag h.0
node_own f (Set name tag ps) h = looked tag h.0
node_own f (SequenceOf tag k c) h = looked tag h.0
node_own f (SetOf tag k c) h = looked tag h.0
node_own f Unknown h = absurd h

found_own : (f : ℕ → Shape) (o : Option «Type») → IsLawful (found_by f o) → own (found_by f o) ≡ looked_for (tag_found o)
found_own f None h = refl
found_own f (Some ty) h = node_own f ty h

unknown_own : (f : ℕ → Shape) (o : Option «Type») → found_by f o ≡ unknown → own (found_by f o) ≡ looked_for (tag_found o)
unknown_own f None e = cc
unknown_own f (Some (Leaf kind tag c names)) e = cc
unknown_own f (Some (Enumerated tag ns)) e = cc
unknown_own f (Some (Any tag)) e = cc
unknown_own f (Some (Tagged tag k)) e = cc
unknown_own f (Some (Choice name ks)) e = absurd (among_known (alternatives_by f ks.items) e)
unknown_own f (Some (Sequence tag ps)) e = cc
unknown_own f (Some (Set name tag ps)) e = cc
unknown_own f (Some (SequenceOf tag k c)) e = cc
unknown_own f (Some (SetOf tag k c)) e = cc
unknown_own f (Some Unknown) e = refl

readable_own : (f : ℕ → Shape) (o : Option «Type») → IsReadable (found_by f o) → own (found_by f o) ≡ looked_for (tag_found o)
readable_own f o (inl h) = found_own f o h.1
readable_own f o (inr e) = unknown_own f o e

nothing_own : (tag : Option Tag) → own (nothing tag) ≡ tag
nothing_own None = refl
nothing_own (Some tag) = refl

-- The tag by which a type is looked for is its own.
pub own_is : (types : List «Type») (levels k : ℕ) → IsReadable (shape_of_type types levels k) → own (shape_of_type types levels k) ≡ looked_for (tag_at types k)
unfolding shape_of_type
own_is types zero k h = nothing_own (looked_for (tag_at types k))
own_is types (suc levels) k h = readable_own (shape_of_type types levels) (slice_get types k) h

-- The same of a level that was counted down.
pub shape_below : (types : List «Type») (levels below k : ℕ) (ty : «Type») → levels ≡ suc below → Some ty ≡ slice_get types k → shape_of_type types levels k ≡ type_by (shape_of_type types below) ty
shape_below types levels below k ty n e = subst (λ m. shape_of_type types m k ≡ type_by (shape_of_type types below) ty) (sym n) (shape_is types below k ty e)

pub shape_none : (types : List «Type») (levels k : ℕ) → levels ≢ 0 → None ≡ slice_get types k → choice Rattle.rasn_types.specs.Shapes.Parts.none ≡ shape_of_type types levels k
unfolding shape_of_type
shape_none types zero k n e = absurd (n refl)
shape_none types (suc m) k n e = ap (found_by (shape_of_type types m)) e

pub shape_cut : (types : List «Type») (levels k : ℕ) → levels ≡ 0 → shape_of_type types levels k ≡ nothing (looked_for (tag_at types k))
unfolding shape_of_type
shape_cut types zero k e = refl
shape_cut types (suc m) k e = cc

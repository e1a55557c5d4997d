-- The least of the tags that values of a type may begin with, and where a component of a SET is.
use Rattle.std.proofs.Common.{◌≡◌, ◌⊎◌, inl, inr, ℕ, zero, suc, ◌-◌, ◌<◌, ◌≤◌, false, List, [], ◌∷◌, length, drop, get_or, Option, Some, None, MatchOption, refl, sym, ap, subst, ◌∙◌, arith}
use Rattle.std.proofs.Math.Seq.{drop-cons}
use Rattle.rasn_types.specs.declared.types.codec.Codec.{Codec}
use Rattle.rasn_types.specs.declared.types.codec.Codec.TheVariants.{Ber, Cer, Der}
use Rattle.rasn_types.specs.declared.types.tag.Tag.{Tag}
use Rattle.rasn_types.specs.Tags.{eoc, is_eoc, IsTagBelow}
use Rattle.rasn_types.specs.Framing.{Begins}
use Rattle.rasn_types.specs.Bytes.{IsCer, IsPlacedBy}
use Rattle.rasn_types.specs.Shapes.{Shape, any, Parts, part, required, looked_for, IsFirst, IsFirstOf}
use Rattle.rasn_types.proofs.InOrder.{below_or_same, not_below_itself}
use Rattle.rasn_schema.specs.declared.types.Alternative.{Alternative}
use Rattle.rasn_schema.specs.declared.types.«Type».{«Type»}
use Rattle.rasn_schema.specs.declared.types.«Type».TheVariants.{Leaf, Enumerated, Any, Tagged, Choice, Sequence, Set, SequenceOf, SetOf, Unknown}
use Rattle.rasn_schema.specs.Shapes.{type_by, tag_of_type, alternatives_by, choice_among}
use Rattle.rasn_schema.proofs.OpenEnds.{first_among, first_of_among}
use Rattle.rasn_schema.proofs.TypeShapes.{not_eoc}
use Rattle.rasn_dynamic.specs.Placed.{IsLeast}

-- ---- one tag, or any

least_one : (tag : Tag) → IsLeast (λ n. n ≡ tag) (Some tag)
least_one tag = (refl, λ n e b. not_below_itself tag (subst (λ m. IsTagBelow m tag) e b))

-- No tag is below universal 0.
none_below : (n : Tag) → IsTagBelow n eoc → ⊥
none_below n (inl h) = omega (arith, h)
none_below n (inr h) = omega (arith, h.1)

eoc_or_not : (tag : Tag) → (tag ≡ eoc) ⊎ (is_eoc tag ≡ false)
eoc_or_not tag = elim (below_or_same tag eoc) [
  | inl b ↦ absurd (none_below tag b)
  | inr (inl b) ↦ inr (not_eoc tag (λ e. not_below_itself tag (subst (λ m. IsTagBelow m tag) (sym e) b)))
  | inr (inr e) ↦ inl e
]

least_any : (tag : Tag) → IsLeast (IsFirst (any (looked_for tag))) (Some tag)
least_any tag = elim (eoc_or_not tag) [
  | inl e ↦ subst (λ m. IsLeast (IsFirst (any (looked_for m))) (Some m)) (sym e) (tt, λ n q b. none_below n b)
  | inr e ↦ rw e (least_one tag)
]

-- ---- a type that isn't a CHOICE

pub least_own : (f : ℕ → Shape) (ty : «Type») → ((name : _) (ks : _) → ty ≡ Choice name ks → ⊥) → (ty ≡ Unknown → ⊥) → IsLeast (IsFirst (type_by f ty)) (Some (tag_of_type ty))
least_own f (Leaf kind tag c names) n u = least_one tag
least_own f (Enumerated tag ns) n u = least_one tag
least_own f (Any tag) n u = least_any tag
least_own f (Tagged tag k) n u = least_one tag
least_own f (Choice name ks) n u = absurd (n name ks refl)
least_own f (Sequence tag ps) n u = least_one tag
least_own f (Set name tag ps) n u = least_one tag
least_own f (SequenceOf tag k c) n u = least_one tag
least_own f (SetOf tag k c) n u = least_one tag
least_own f Unknown n u = absurd (u refl)

-- ---- a CHOICE: the least of its alternatives

pub least_of_choice : (ps : Parts) (o : Option Tag) → IsLeast (IsFirstOf ps) o → IsLeast (IsFirst (choice_among ps)) o
least_of_choice ps None h = λ n q. h n (first_of_among ps n q)
least_of_choice ps (Some tag) h = (first_among ps tag h.0, λ n q. h.1 n (first_of_among ps n q))

module _ (f : ℕ → Shape) where
  pub least_start : (ks : List Alternative) (n : ℕ) → n ≡ length ks → IsLeast (IsFirstOf (alternatives_by f (drop n ks))) None
  least_start [] zero e = λ n q. q
  least_start [] (suc n) e = absurd (omega (arith, e))
  least_start (k ∷ ks) zero e = absurd (omega (arith, e))
  least_start (k ∷ ks) (suc n) e = least_start ks n (omega (arith, e))

  pub least_more : (ks : List Alternative) (left : ℕ) (d : Alternative) (o : Option Tag) → 0 < left → left ≤ length ks
      → IsLeast (IsFirstOf (part required (f (get_or ks (left - 1) d).type_id.0) (alternatives_by f (drop left ks)))) o → IsLeast (IsFirstOf (alternatives_by f (drop (left - 1) ks))) o
  least_more ks zero d o h l q = absurd (omega (arith, h))
  least_more ks (suc k) d o h l q =
      let i : suc k - 1 ≡ k = omega arith in
      subst (λ z. IsLeast (IsFirstOf (alternatives_by f z)) o) (sym (drop-cons ks (suc k - 1) d (omega (arith, l)) ∙ ap (λ n. get_or ks (suc k - 1) d ∷ drop (suc n) ks) i)) q

-- ---- the place of a component

pub placed_least : (rule : Codec) (P : Tag → Type 0) (octets : List ℕ) (o : Option Tag) → IsCer rule → IsLeast P o
    → MatchOption o ((tag : Tag) → IsPlacedBy rule P octets tag → ⊥) (λ tag. IsPlacedBy rule P octets tag)
placed_least Ber P octets o i h = absurd i
placed_least Cer P octets None i h = λ tag k. h tag k.0
placed_least Cer P octets (Some tag) i h = h
placed_least Der P octets o i h = absurd i

pub placed_leading : (rule : Codec) (P : Tag → Type 0) (octets : List ℕ) (o : Option Tag) → (IsCer rule → ⊥) → MatchOption o ((tag : Tag) → Begins octets tag → ⊥) (Begins octets)
    → MatchOption o ((tag : Tag) → IsPlacedBy rule P octets tag → ⊥) (λ tag. IsPlacedBy rule P octets tag)
placed_leading Ber P octets o i h = h
placed_leading Cer P octets o i h = absurd (i tt)
placed_leading Der P octets o i h = h

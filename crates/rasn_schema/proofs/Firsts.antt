-- What holds of all tags with which a type begins.
use Rattle.std.proofs.Common.{◌≡◌, ℕ, suc, inl, inr, Bool, true, false, not, List, [], ◌∷◌, Some, refl, sym, subst}
use Rattle.std.specs.Prelude.{slice_get}
use Rattle.rasn_types.specs.declared.types.tag.Tag.{Tag}
use Rattle.rasn_types.specs.Shapes.{Shape, Parts, IsFirst, IsFirstOf}
use Rattle.rasn_types.specs.Truth.{IsWhether}
use Rattle.rasn_schema.specs.declared.first_tags.FirstTags.TheVariants.{Nothing, One, Of}
use Rattle.rasn_schema.specs.declared.types.Alternative.{Alternative}
use Rattle.rasn_schema.specs.Shapes.{alternatives_by}
use Rattle.rasn_schema.proofs.Alternatives.{first_of_all, first_of_none}
use Rattle.rasn_schema.specs.FirstTags.{EachFirst, EachFirstOf, AreFirstTags}
use Rattle.std.proofs.Common.{Bor}

pub is_not : (b : Bool) (P : Type 0) → IsWhether b P → IsWhether (not b) (P → ⊥)
is_not true P h = λ n. n h
is_not false P h = h

pub whether_by : (b : Bool) (P Q : Type 0) → (P → Q) → (Q → P) → IsWhether b P → IsWhether b Q
whether_by true P Q f g h = f h
whether_by false P Q f g h = λ q. h (g q)

module _ (f : ℕ → Shape) (s : Shape) (Q : Tag → Type 0) where
  pub each_nothing : AreFirstTags f s Nothing → EachFirst s Q
  each_nothing h = λ n k. absurd (h n k)

  pub each_one : (t : Tag) (b : Bool) → AreFirstTags f s (One t) → IsWhether b (Q t) → IsWhether b (EachFirst s Q)
  each_one t b h w = whether_by b (Q t) (EachFirst s Q) (λ q n k. subst Q (sym (h.1 n k)) q) (λ e. e t h.0) w

  pub each_of : (ks : Bor (List Alternative)) (b : Bool) → AreFirstTags f s (Of ks) → IsWhether b (EachFirstOf (alternatives_by f ks.now) Q) → IsWhether b (EachFirst s Q)
  each_of ks b h w = whether_by b (EachFirstOf (alternatives_by f ks.now) Q) (EachFirst s Q) (λ q n k. q n (h.0 n k)) (λ e n k. e n (h.1 n k)) w

module _ (f : ℕ → Shape) (Q : Tag → Type 0) where
  pub each_all : (ks : List Alternative) → ((k : ℕ) (a : Alternative) → Some a ≡ slice_get ks k → EachFirst (f a.type_id.0) Q) → EachFirstOf (alternatives_by f ks) Q
  each_all [] h n k = absurd k
  each_all (b ∷ ks) h n (inl k) = h 0 b refl n k
  each_all (b ∷ ks) h n (inr k) = each_all ks (λ i a e. h (suc i) a e) n k

  pub each_at : (ks : List Alternative) (k : ℕ) (a : Alternative) → Some a ≡ slice_get ks k → EachFirstOf (alternatives_by f ks) Q → EachFirst (f a.type_id.0) Q
  each_at ks k a e h = λ n g. h n (first_of_all f n ks k a e g)

-- of beginning with some tag
abbrev pub HasFirst : Shape → Type 0
HasFirst s = (n : Tag) × IsFirst s n

abbrev pub HasFirstOf : Parts → Type 0
HasFirstOf ps = (n : Tag) × IsFirstOf ps n

pub some_of : (f : ℕ → Shape) (s : Shape) (ks : Bor (List Alternative)) (b : Bool) → AreFirstTags f s (Of ks) → IsWhether b (HasFirstOf (alternatives_by f ks.now)) → IsWhether b (HasFirst s)
some_of f s ks b h w = whether_by b (HasFirstOf (alternatives_by f ks.now)) (HasFirst s) (λ g. (g.0, h.1 g.0 g.1)) (λ g. (g.0, h.0 g.0 g.1)) w

module _ (f : ℕ → Shape) where
  pub some_at : (ks : List Alternative) (k : ℕ) (a : Alternative) → Some a ≡ slice_get ks k → HasFirst (f a.type_id.0) → HasFirstOf (alternatives_by f ks)
  some_at ks k a e h = (h.0, first_of_all f h.0 ks k a e h.1)

  pub none_of : (ks : List Alternative) → ((k : ℕ) (a : Alternative) → Some a ≡ slice_get ks k → HasFirst (f a.type_id.0) → ⊥) → HasFirstOf (alternatives_by f ks) → ⊥
  none_of ks n h = first_of_none f h.0 ks (λ k a e g. n k a e (h.0, g)) h.1

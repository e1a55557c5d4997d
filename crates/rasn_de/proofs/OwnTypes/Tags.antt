-- Which alternative a tag belongs to, by computing. If a tag is that of a type parameter, it is proved by hand (`IsOnlyAlternative`).
use Rattle.std.proofs.Common.{rules, ◌≡◌, ◌&&◌, ◌||◌, not, ℕ, zero, suc, Bool, true, false, Option, Some, None, refl, sym, ap, subst, inl, inr, ◌⊎◌}
use denote.Enum.Bare.{sameb}
use lib.Dec.{eqb}
use Rattle.rasn_types.specs.contracts.types.tag.Class.{the_type as the_class}
use Rattle.rasn_types.specs.declared.types.tag.Tag.{Tag}
use Rattle.rasn_types.specs.Truth.{IsWhether}
use Rattle.rasn_types.specs.Shapes.{Shape, leaf, any, prefix, choice, open_choice, option, seq, set, sorted_set, list, set_of, unknown, Parts, part, Presence, IsTagOf, IsFirst, IsFirstOf}
use Rattle.rasn_types.specs.Shapes.Parts.{none}
use Rattle.rasn_types.proofs.Time.Spellings.{both_true}
use Rattle.rasn_de.specs.Headers.{same_tag}
use Rattle.rasn_de.specs.Choice.{IsOnlyAlternative}
use Rattle.rasn_de.proofs.Headers.Frames.{same_tag_is, same_tag_self}

abbrev pub has_tag : Option Tag → Tag → Bool
has_tag None n = true
has_tag (Some tag) n = same_tag n tag

-- whether values of the shape may begin with the tag
abbrev mutual
  pub begins : Shape → Tag → Bool
  begins (leaf kind tag bounds) n = same_tag n tag
  begins (any tag) n = has_tag tag n
  begins (prefix tag s) n = same_tag n tag
  begins (choice parts) n = some_begins parts n
  begins (open_choice parts) n = true
  begins (option tag s) n = begins s n
  begins (seq tag parts) n = same_tag n tag
  begins (set tag parts) n = same_tag n tag
  begins (sorted_set extensible tag parts) n = same_tag n tag
  begins (list tag s size) n = same_tag n tag
  begins (set_of tag s size) n = same_tag n tag
  begins unknown n = false

  pub some_begins : Parts → Tag → Bool
  some_begins none n = false
  some_begins (part presence s parts) n = begins s n || some_begins parts n

by_either : {A B : Type 0} (a b : Bool) → (a ≡ true → A) → (b ≡ true → B) → a || b ≡ true → A ⊎ B
by_either true b f g e = inl (f refl)
by_either false b f g e = inr (g e)

or_left : (a b : Bool) → a ≡ true → a || b ≡ true
or_left a b e = ap (λ z. z || b) e

or_right : (a b : Bool) → b ≡ true → a || b ≡ true
or_right true b e = refl
or_right false b e = e

has_tag_is : (t : Option Tag) (n : Tag) → has_tag t n ≡ true → IsTagOf t n
has_tag_is None n e = tt
has_tag_is (Some tag) n e = same_tag_is n tag e

has_tag_itself : (t : Option Tag) (n : Tag) → IsTagOf t n → has_tag t n ≡ true
has_tag_itself None n e = refl
has_tag_itself (Some tag) n e = same_tag_self n tag e

mutual
  begins_is : (s : Shape) (n : Tag) → begins s n ≡ true → IsFirst s n
  begins_is (leaf kind tag bounds) n e = same_tag_is n tag e
  begins_is (any tag) n e = has_tag_is tag n e
  begins_is (prefix tag s) n e = same_tag_is n tag e
  begins_is (choice parts) n e = some_begins_is parts n e
  begins_is (open_choice parts) n e = tt
  begins_is (option tag s) n e = begins_is s n e
  begins_is (seq tag parts) n e = same_tag_is n tag e
  begins_is (set tag parts) n e = same_tag_is n tag e
  begins_is (sorted_set extensible tag parts) n e = same_tag_is n tag e
  begins_is (list tag s size) n e = same_tag_is n tag e
  begins_is (set_of tag s size) n e = same_tag_is n tag e
  begins_is unknown n e = cc

  some_begins_is : (ps : Parts) (n : Tag) → some_begins ps n ≡ true → IsFirstOf ps n
  some_begins_is none n e = cc
  some_begins_is (part presence s ps) n e = by_either (begins s n) (some_begins ps n) (λ f. begins_is s n f) (λ f. some_begins_is ps n f) e

mutual
  first_begins : (s : Shape) (n : Tag) → IsFirst s n → begins s n ≡ true
  first_begins (leaf kind tag bounds) n e = same_tag_self n tag e
  first_begins (any tag) n e = has_tag_itself tag n e
  first_begins (prefix tag s) n e = same_tag_self n tag e
  first_begins (choice parts) n e = first_of_begins parts n e
  first_begins (open_choice parts) n e = refl
  first_begins (option tag s) n e = first_begins s n e
  first_begins (seq tag parts) n e = same_tag_self n tag e
  first_begins (set tag parts) n e = same_tag_self n tag e
  first_begins (sorted_set extensible tag parts) n e = same_tag_self n tag e
  first_begins (list tag s size) n e = same_tag_self n tag e
  first_begins (set_of tag s size) n e = same_tag_self n tag e
  first_begins unknown n e = absurd e

  first_of_begins : (ps : Parts) (n : Tag) → IsFirstOf ps n → some_begins ps n ≡ true
  first_of_begins none n e = absurd e
  first_of_begins (part presence s ps) n (inl f) = or_left (begins s n) (some_begins ps n) (first_begins s n f)
  first_of_begins (part presence s ps) n (inr f) = or_right (begins s n) (some_begins ps n) (first_of_begins ps n f)

-- the alternative of this number
abbrev pub alternative_at : Parts → ℕ → Option (Presence × Shape)
alternative_at none k = None
alternative_at (part presence s ps) zero = Some (presence, s)
alternative_at (part presence s ps) (suc k) = alternative_at ps k

-- whether it alone may begin with the tag
abbrev pub begins_alone : Parts → ℕ → Tag → Bool
begins_alone none k n = false
begins_alone (part presence s ps) zero n = begins s n && not (some_begins ps n)
begins_alone (part presence s ps) (suc k) n = not (begins s n) && begins_alone ps k n

not_true : (b : Bool) → not b ≡ true → b ≡ true → ⊥
not_true true e f = cc
not_true false e f = cc

some_is : {x s : Presence × Shape} → Some x ≡ Some s → x ≡ s
some_is e = cc

only_at : (ps : Parts) (k : ℕ) (p : Presence) (s : Shape) (n : Tag) → alternative_at ps k ≡ Some (p, s) → begins_alone ps k n ≡ true → IsOnlyAlternative ps k p s n
only_at none k p s n a b = cc
only_at (part presence x ps) zero p s n a b =
    let h = both_true (begins x n) (not (some_begins ps n)) b in
    let w = some_is a in
    let e : x ≡ s = ap (λ (z : Presence × Shape). z.1) w in
    (ap (λ (z : Presence × Shape). z.0) w, e, subst (λ z. IsFirst z n) e (begins_is x n h.0), λ f. not_true (some_begins ps n) h.1 (first_of_begins ps n f))
only_at (part presence x ps) (suc k) p s n a b =
    let h = both_true (not (begins x n)) (begins_alone ps k n) b in
    (λ f. not_true (begins x n) h.0 (first_begins x n f), only_at ps k p s n a h.1)

-- The tag t belongs to the alternative of this number alone. Both tests are `refl` where the parts and t are written out.
pub only : (ps : Parts) (k : ℕ) {p : Presence} {s : Shape} (t : Tag) → alternative_at ps k ≡ Some (p, s) → begins_alone ps k t ≡ true → {tag : Tag} → tag ≡ t → IsOnlyAlternative ps k p s tag
only ps k {p} {s} t a b {tag} e = subst (λ z. IsOnlyAlternative ps k p s z) (sym e) (only_at ps k p s t a b)

abbrev pub NoneBegins : Parts → Tag → Type 0
NoneBegins none n = Unit {0}
NoneBegins (part presence s ps) n = (IsFirst s n → ⊥) × NoneBegins ps n

-- No alternative begins with the tag, stated for each of them.
pub nowhere : (ps : Parts) (n : Tag) → NoneBegins ps n → IsFirstOf ps n → ⊥
nowhere none n h f = f
nowhere (part presence s ps) n h (inl f) = h.0 f
nowhere (part presence s ps) n h (inr f) = nowhere ps n h.1 f

-- What `==` found of two tags, where `search rules` has too much beside it to read.
pub tag_is : (tag t : Tag) → true ≡ sameb the_class tag.class t.class && eqb tag.value t.value → tag ≡ t
tag_is tag t e = search rules

-- What `==` returns of two tags.
pub tag_whether : (tag t : Tag) (b : Bool) → b ≡ sameb the_class tag.class t.class && eqb tag.value t.value → IsWhether b (tag ≡ t)
tag_whether tag t true e = tag_is tag t e
tag_whether tag t false e = λ h. search rules

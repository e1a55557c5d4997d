-- The test of a lawful shape decides.
use Rattle.std.proofs.Common.{◌≡◌, ℕ, suc, ◌+◌, ◌<◌, ◌⊎◌, ◌≢◌, inl, inr, Bool, true, false, not, ◌&&◌, List, [], ◌∷◌, ◌++◌, Option, Some, None, refl, sym, ap, ap₂, subst, arith}
use Rattle.std.specs.Bool.{Decides}
use Rattle.std.specs.List.{list_all, list_any}
use Rattle.std.proofs.lemmas.Bool.Decides.{Decides-eqb, Decides-ltb, Decides-and, Decides-or, Decides-not, Decides-like, not_from_Decides}
use Rattle.rasn_types.specs.Tags.{Class, Universal, Application, Context, Private, Tag, tag_bit, rank, eoc, is_universal, is_eoc, IsTagBelow}
use Rattle.rasn_types.specs.Shapes.{Shape, leaf, any, prefix, choice, open_choice, option, seq, set, sorted_set, list, set_of, unknown, Parts, part, own, IsFirst, IsFirstOf, IsAlwaysPresent, AreAlwaysPresent, Key, own_tag, first_tags, Presence, required, addition, optional_by, default_by}
use Rattle.rasn_types.specs.Shapes.Parts.{none}
use Rattle.rasn_types.specs.Grammar.{Family, plain_family, bit_family, named_family, text_family, family}
use Rattle.rasn_types.specs.Lawful.{AreDisjoint, AreDistinguished, IsFirstBehind, IsDistinguished, IsRecognized, MayBeLeftOut, IsBitFree, HasTag, EndsUnknown, IsLawful, AreAlternatives, AreLawfulInOrder, AreLawfulByTag, AreComponents}
use Rattle.rasn_types.specs.LawfulTest.{is_same_tag, is_other_tag, is_tag_below, Firsts, either_first, firsts, firsts_of, firsts_behind, is_first, holds_between, are_distinguished, is_none, is_distinguished, is_every, is_recognized, may_be_left_out, is_bit_free, has_tag, is_unknown, ends_unknown, is_always_present, are_always_present, is_required, is_addition, is_same_own, is_lawful, are_alternatives, are_lawful_in_order, are_lawful_by_tag, are_components}

-- ---- constant tests

decides_yes : Decides true (Unit {0})
decides_yes = (λ e. tt, λ h. refl)

decides_no : {P : Type 0} → (P → ⊥) → Decides false P
decides_no n = (λ e. cc, λ h. absurd (n h))

-- ---- tags

rank_one : (a b : Class) → rank a ≡ rank b → a ≡ b
rank_one Universal Universal e = refl
rank_one Universal Application e = absurd (omega arith)
rank_one Universal Context e = absurd (omega arith)
rank_one Universal Private e = absurd (omega arith)
rank_one Application Universal e = absurd (omega arith)
rank_one Application Application e = refl
rank_one Application Context e = absurd (omega arith)
rank_one Application Private e = absurd (omega arith)
rank_one Context Universal e = absurd (omega arith)
rank_one Context Application e = absurd (omega arith)
rank_one Context Context e = refl
rank_one Context Private e = absurd (omega arith)
rank_one Private Universal e = absurd (omega arith)
rank_one Private Application e = absurd (omega arith)
rank_one Private Context e = absurd (omega arith)
rank_one Private Private e = refl

same_tag : (s t : Tag) → Decides (is_same_tag s t) (s ≡ t)
same_tag s t = Decides-like (is_same_tag s t) there (λ e. (ap (λ (x : Tag). rank x.class) e, ap (λ (x : Tag). x.value) e))
    (Decides-and _ _ (Decides-eqb (rank s.class) (rank t.class)) (Decides-eqb s.value t.value))
  where
    there : (rank s.class ≡ rank t.class) × (s.value ≡ t.value) → s ≡ t
    there h = ap₂ (λ (c : Class) (n : ℕ). record { class = c; value = n }) (rank_one s.class t.class h.0) h.1

other_tag : (s t : Tag) → Decides (is_other_tag s t) (s ≢ t)
other_tag s t = Decides-not (is_same_tag s t) (same_tag s t)

tag_below : (s t : Tag) → Decides (is_tag_below s t) (IsTagBelow s t)
tag_below s t = Decides-or _ _ (Decides-ltb (rank s.class) (rank t.class)) (Decides-and _ _ (Decides-eqb (rank s.class) (rank t.class)) (Decides-ltb s.value t.value))

universal : (c : Class) → Decides (is_universal c) (c ≡ Universal)
universal Universal = (λ e. refl, λ e. refl)
universal Application = decides_no (λ e. cc)
universal Context = decides_no (λ e. cc)
universal Private = decides_no (λ e. cc)

no_value : (tag : Tag) → Decides (not (is_eoc tag)) (tag ≢ eoc)
no_value tag = Decides-not (is_eoc tag) (Decides-like (is_eoc tag) (λ h. ap₂ (λ (c : Class) (n : ℕ). record { class = c; value = n }) h.0 h.1) (λ e. (ap (λ (x : Tag). x.class) e, ap (λ (x : Tag). x.value) e))
    (Decides-and _ _ (universal tag.class) (Decides-eqb tag.value 0)))

-- ---- first tags

abbrev pub IsAmong : List Tag → Tag → Type 0
IsAmong [] n = ⊥
IsAmong (t ∷ ts) n = (n ≡ t) ⊎ IsAmong ts n

abbrev pub IsIn : Firsts → Tag → Type 0
IsIn None n = Unit {0}
IsIn (Some tags) n = IsAmong tags n

-- The list has the tags for which P holds.
abbrev pub DescribesFirsts : Firsts → (Tag → Type 0) → Type 0
DescribesFirsts f P = (n : Tag) → (P n → IsIn f n) × (IsIn f n → P n)

among_left : (a b : List Tag) (n : Tag) → IsAmong a n → IsAmong (a ++ b) n
among_left [] b n h = absurd h
among_left (t ∷ a) b n (inl e) = inl e
among_left (t ∷ a) b n (inr h) = inr (among_left a b n h)

among_right : (a b : List Tag) (n : Tag) → IsAmong b n → IsAmong (a ++ b) n
among_right [] b n h = h
among_right (t ∷ a) b n h = inr (among_right a b n h)

among_either : (a b : List Tag) (n : Tag) → IsAmong (a ++ b) n → IsAmong a n ⊎ IsAmong b n
among_either [] b n h = inr h
among_either (t ∷ a) b n (inl e) = inl (inl e)
among_either (t ∷ a) b n (inr h) = elim (among_either a b n h) [ inl x ↦ inl (inr x) | inr x ↦ inr x ]

tells_either : (f g : Firsts) (P Q : Tag → Type 0) → DescribesFirsts f P → DescribesFirsts g Q → DescribesFirsts (either_first f g) (λ n. P n ⊎ Q n)
tells_either None g P Q p q n = (λ h. tt, λ h. inl ((p n).1 tt))
tells_either (Some a) None P Q p q n = (λ h. tt, λ h. inr ((q n).1 tt))
tells_either (Some a) (Some b) P Q p q n = (
  λ h. elim h [ inl x ↦ among_left a b n ((p n).0 x) | inr x ↦ among_right a b n ((q n).0 x) ],
  λ h. elim (among_either a b n h) [ inl x ↦ inl ((p n).1 x) | inr x ↦ inr ((q n).1 x) ],
)

tells_one : (tag : Tag) → DescribesFirsts (Some (tag ∷ [])) (λ n. n ≡ tag)
tells_one tag n = (λ e. inl e, λ h. elim h [ inl e ↦ e | inr x ↦ absurd x ])

mutual
  pub firsts_tell : (s : Shape) → DescribesFirsts (firsts s) (IsFirst s)
  firsts_tell (leaf kind tag bounds) = tells_one tag
  firsts_tell (any None) = λ n. (λ h. tt, λ h. tt)
  firsts_tell (any (Some tag)) = tells_one tag
  firsts_tell (prefix tag s) = tells_one tag
  firsts_tell (choice ps) = all_tell ps
  firsts_tell (open_choice ps) = λ n. (λ h. tt, λ h. tt)
  firsts_tell (option tag s) = firsts_tell s
  firsts_tell (seq tag ps) = tells_one tag
  firsts_tell (set tag ps) = tells_one tag
  firsts_tell (sorted_set extensible tag ps) = tells_one tag
  firsts_tell (list tag s size) = tells_one tag
  firsts_tell (set_of tag s size) = tells_one tag
  firsts_tell unknown = λ n. (λ h. h, λ h. h)

  all_tell : (ps : Parts) → DescribesFirsts (firsts_of ps) (IsFirstOf ps)
  all_tell none = λ n. (λ h. h, λ h. h)
  all_tell (part presence s ps) = tells_either (firsts s) (firsts_of ps) (IsFirst s) (IsFirstOf ps) (firsts_tell s) (all_tell ps)

behind_tell : (ps : Parts) → DescribesFirsts (firsts_behind ps) (IsFirstBehind ps)
behind_tell none = λ n. (λ h. h, λ h. h)
behind_tell (part required s ps) = firsts_tell s
behind_tell (part addition s ps) = firsts_tell s
behind_tell (part (optional_by key) s ps) = tells_either (firsts s) (firsts_behind ps) (IsFirst s) (IsFirstBehind ps) (firsts_tell s) (behind_tell ps)
behind_tell (part (default_by key d) s ps) = tells_either (firsts s) (firsts_behind ps) (IsFirst s) (IsFirstBehind ps) (firsts_tell s) (behind_tell ps)

among : (tags : List Tag) (n : Tag) → Decides (list_any (is_same_tag n) tags) (IsAmong tags n)
among [] n = decides_no (λ h. h)
among (t ∷ ts) n = Decides-or _ _ (same_tag n t) (among ts n)

is_in : (f : Firsts) (n : Tag) → Decides (is_first f n) (IsIn f n)
is_in None n = decides_yes
is_in (Some tags) n = among tags n

-- ---- what holds between first tags

abbrev Between : (Tag → Tag → Type 0) → (Tag → Type 0) → (Tag → Type 0) → Type 0
Between R P Q = (m n : Tag) → P m → Q n → R m n

module _ (test : Tag → Tag → Bool) (R : Tag → Tag → Type 0) (decides : (m n : Tag) → Decides (test m n) (R m n)) where
  holds_of : (m : Tag) (b : List Tag) → Decides (list_all (test m) b) ((n : Tag) → IsAmong b n → R m n)
  holds_of m [] = (λ e n h. absurd h, λ h. refl)
  holds_of m (t ∷ b) = Decides-like (list_all (test m) (t ∷ b))
      (λ h n x. elim x [ inl e ↦ subst (R m) (sym e) h.0 | inr y ↦ h.1 n y ])
      (λ h. (h t (inl refl), λ n x. h n (inr x)))
      (Decides-and _ _ (decides m t) (holds_of m b))

  holds_of_all : (a b : List Tag) → Decides (list_all (λ m. list_all (test m) b) a) (Between R (IsAmong a) (IsAmong b))
  holds_of_all [] b = (λ e m n h. absurd h, λ h. refl)
  holds_of_all (t ∷ a) b = Decides-like (list_all (λ m. list_all (test m) b) (t ∷ a))
      (λ h m n x y. elim x [ inl e ↦ subst (λ z. R z n) (sym e) (h.0 n y) | inr z ↦ h.1 m n z y ])
      (λ h. (λ n x. h t n (inl refl) x, λ m n x y. h m n (inr x) y))
      (Decides-and _ _ (holds_of t b) (holds_of_all a b))

  between_firsts : ((m : Tag) → R m m → ⊥) → (f g : Firsts) → Decides (holds_between test f g) (Between R (IsIn f) (IsIn g))
  between_firsts apart (Some a) (Some b) = holds_of_all a b
  between_firsts apart (Some []) None = (λ e m n h. absurd h, λ h. refl)
  between_firsts apart (Some (t ∷ a)) None = decides_no (λ h. apart t (h t t (inl refl) tt))
  between_firsts apart None (Some []) = (λ e m n h x. absurd x, λ h. refl)
  between_firsts apart None (Some (t ∷ b)) = decides_no (λ h. apart t (h t t tt (inl refl)))
  between_firsts apart None None = decides_no (λ h. apart eoc (h eoc eoc tt tt))

  between_told : ((m : Tag) → R m m → ⊥) → (f g : Firsts) (P Q : Tag → Type 0) → DescribesFirsts f P → DescribesFirsts g Q → Decides (holds_between test f g) (Between R P Q)
  between_told apart f g P Q p q = Decides-like (holds_between test f g)
      (λ h m n x y. h m n ((p m).0 x) ((q n).0 y))
      (λ h m n x y. h m n ((p m).1 x) ((q n).1 y))
      (between_firsts apart f g)

below_itself : (m : Tag) → IsTagBelow m m → ⊥
below_itself m (inl h) = omega arith
below_itself m (inr h) = omega (arith, h.1)

disjoint : (f g : Firsts) (P Q : Tag → Type 0) → DescribesFirsts f P → DescribesFirsts g Q → Decides (holds_between is_other_tag f g) (AreDisjoint P Q)
disjoint f g P Q p q = Decides-like (holds_between is_other_tag f g)
    (λ h n x y. h n n x y refl)
    (λ h m n x y e. h n (subst P e x) y)
    (between_told is_other_tag (λ m n. m ≢ n) other_tag (λ m h. h refl) f g P Q p q)

told_apart : (ps : Parts) → Decides (are_distinguished ps) (AreDistinguished ps)
told_apart none = decides_yes
told_apart (part presence s ps) = Decides-and _ _ (disjoint (firsts s) (firsts_of ps) (IsFirst s) (IsFirstOf ps) (firsts_tell s) (all_tell ps)) (told_apart ps)

no_parts : (ps : Parts) → Decides (is_none ps) (ps ≡ none)
no_parts none = (λ e. refl, λ e. refl)
no_parts (part presence s ps) = decides_no (λ e. cc)

told_behind : (tag : Option Tag) (ps : Parts) → Decides (is_distinguished tag ps) (IsDistinguished tag ps)
told_behind (Some tag) ps = Decides-not (is_first (firsts_behind ps) tag)
    (Decides-like (is_first (firsts_behind ps) tag) (behind_tell ps tag).1 (behind_tell ps tag).0 (is_in (firsts_behind ps) tag))
told_behind None ps = no_parts ps

-- Three tests in one.
both : {P Q R : Type 0} (x y z : Bool) → Decides x P → Decides y Q → Decides z R → Decides (x && (y && z)) (P × Q × R)
both x y z p q r = Decides-like (x && (y && z)) (λ h. (h.0, h.1.0, h.1.1)) (λ h. (h.0, (h.1, h.2))) (Decides-and x (y && z) p (Decides-and y z q r))

tagged : (s : Shape) → Decides (has_tag s) (HasTag s)
tagged (leaf kind tag bounds) = decides_yes
tagged (any None) = decides_no (λ h. h)
tagged (any (Some tag)) = decides_yes
tagged (prefix tag s) = decides_yes
tagged (choice ps) = decides_yes
tagged (open_choice ps) = decides_no (λ h. h)
tagged (option tag s) = decides_yes
tagged (seq tag ps) = decides_yes
tagged (set tag ps) = decides_yes
tagged (sorted_set extensible tag ps) = decides_yes
tagged (list tag s size) = decides_yes
tagged (set_of tag s size) = decides_yes
tagged unknown = decides_no (λ h. h)

-- A number above those of the tags.
abbrev above : List Tag → ℕ
above [] = 0
above (t ∷ ts) = suc (t.value + above ts)

among_below : (tags : List Tag) (n : Tag) → IsAmong tags n → n.value < above tags
among_below [] n h = absurd h
among_below (t ∷ ts) n h = subst (λ m. n.value < m) q (elim h [ inl e ↦ first (ap (λ (x : Tag). x.value) e) | inr l ↦ later (among_below ts n l) ])
  where
    q : suc (t.value + above ts) ≡ above (t ∷ ts)
    q = refl

    first : n.value ≡ t.value → n.value < suc (t.value + above ts)
    first v = omega (arith, v)

    later : n.value < above ts → n.value < suc (t.value + above ts)
    later l = omega (arith, l)

not_every : (f : Firsts) (P : Tag → Type 0) → DescribesFirsts f P → Decides (not (is_every f)) (((n : Tag) → P n) → ⊥)
not_every None P p = decides_no (λ h. h (λ n. (p n).1 tt))
not_every (Some tags) P p = (
  λ e all. none (above tags) (among_below tags (record { class = Universal; value = above tags }) ((p _).0 (all _))),
  λ h. refl,
)
  where
    none : (m : ℕ) → m < m → ⊥
    none m l = omega (arith, l)

recognized : (key : Key) (s : Shape) (ps : Parts) → Decides (is_recognized key s ps) (IsRecognized key s ps)
recognized own_tag s ps = told_behind (own s) ps
recognized first_tags s ps = both _ _ _ (tagged s) (not_every (firsts_behind ps) (IsFirstBehind ps) (behind_tell ps))
    (disjoint (firsts s) (firsts_behind ps) (IsFirst s) (IsFirstBehind ps) (firsts_tell s) (behind_tell ps))

left_out : (presence : Presence) (s : Shape) (ps : Parts) → Decides (may_be_left_out presence s ps) (MayBeLeftOut presence s ps)
left_out required s ps = decides_yes
left_out addition s ps = decides_yes
left_out (optional_by key) s ps = recognized key s ps
left_out (default_by key d) s ps = recognized key s ps

-- ---- the conditions on one shape

unset : (b : Bool) → Decides (not b) (b ≡ false)
unset true = decides_no (λ e. cc)
unset false = (λ e. refl, λ e. refl)

bit_free : (f : Family) (tag : Tag) → Decides (is_bit_free f tag) (IsBitFree f tag)
bit_free plain_family tag = decides_yes
bit_free bit_family tag = unset (tag_bit tag)
bit_free named_family tag = unset (tag_bit tag)
bit_free text_family tag = unset (tag_bit tag)

mutual
  solid : (s : Shape) → Decides (is_always_present s) (IsAlwaysPresent s)
  solid (leaf kind tag bounds) = decides_yes
  solid (any tag) = decides_yes
  solid (prefix tag s) = decides_yes
  solid (choice ps) = all_solid ps
  solid (open_choice ps) = all_solid ps
  solid (option tag s) = decides_no (λ h. h)
  solid (seq tag ps) = decides_yes
  solid (set tag ps) = decides_yes
  solid (sorted_set extensible tag ps) = decides_yes
  solid (list tag s size) = decides_yes
  solid (set_of tag s size) = decides_yes
  solid unknown = decides_no (λ h. h)

  all_solid : (ps : Parts) → Decides (are_always_present ps) (AreAlwaysPresent ps)
  all_solid none = decides_yes
  all_solid (part presence s ps) = Decides-and _ _ (solid s) (all_solid ps)

is_root : (presence : Presence) → Decides (is_required presence) (presence ≡ required)
is_root required = (λ e. refl, λ e. refl)
is_root addition = decides_no (λ e. cc)
is_root (optional_by key) = decides_no (λ e. cc)
is_root (default_by key d) = decides_no (λ e. cc)

unknown_told : (s : Shape) → Decides (is_unknown s) (s ≡ unknown)
unknown_told (leaf kind tag bounds) = decides_no (λ e. cc)
unknown_told (any tag) = decides_no (λ e. cc)
unknown_told (prefix tag s) = decides_no (λ e. cc)
unknown_told (choice ps) = decides_no (λ e. cc)
unknown_told (open_choice ps) = decides_no (λ e. cc)
unknown_told (option tag s) = decides_no (λ e. cc)
unknown_told (seq tag ps) = decides_no (λ e. cc)
unknown_told (set tag ps) = decides_no (λ e. cc)
unknown_told (sorted_set extensible tag ps) = decides_no (λ e. cc)
unknown_told (list tag s size) = decides_no (λ e. cc)
unknown_told (set_of tag s size) = decides_no (λ e. cc)
unknown_told unknown = (λ e. refl, λ e. refl)

ends : (presence : Presence) (s : Shape) (ps : Parts) → Decides (ends_unknown presence s ps) (EndsUnknown presence s ps)
ends presence s ps = both _ _ _ (is_root presence) (unknown_told s) (no_parts ps)

no_addition : (presence : Presence) → Decides (not (is_addition presence)) (presence ≢ addition)
no_addition required = (λ e f. cc, λ h. refl)
no_addition addition = decides_no (λ h. h refl)
no_addition (optional_by key) = (λ e f. cc, λ h. refl)
no_addition (default_by key d) = (λ e f. cc, λ h. refl)

same_own : (s t : Option Tag) → Decides (is_same_own s t) (s ≡ t)
same_own None None = (λ e. refl, λ e. refl)
same_own None (Some t) = decides_no (λ e. cc)
same_own (Some s) None = decides_no (λ e. cc)
same_own (Some s) (Some t) = Decides-like (is_same_tag s t) (λ e. ap Some e) (λ e. cc) (same_tag s t)

rising : (s : Shape) (ps : Parts) → Decides (holds_between is_tag_below (firsts s) (firsts_of ps)) (Between IsTagBelow (IsFirst s) (IsFirstOf ps))
rising s ps = between_told is_tag_below IsTagBelow tag_below below_itself (firsts s) (firsts_of ps) (IsFirst s) (IsFirstOf ps) (firsts_tell s) (all_tell ps)

-- ---- shapes

mutual
  unfolding IsLawful AreAlternatives AreLawfulInOrder AreLawfulByTag

  pub lawful_decides : (s : Shape) → Decides (is_lawful s) (IsLawful s)
  lawful_decides (leaf kind tag bounds) = Decides-and _ _ (no_value tag) (bit_free (family kind) tag)
  lawful_decides (any None) = decides_yes
  lawful_decides (any (Some tag)) = no_value tag
  lawful_decides (prefix tag s) = both _ _ _ (no_value tag) (solid s) (lawful_decides s)
  lawful_decides (choice ps) = Decides-and _ _ (alternatives ps) (told_apart ps)
  lawful_decides (open_choice ps) = Decides-and _ _ (alternatives ps) (told_apart ps)
  lawful_decides (option tag s) = both _ _ _ (same_own tag (own s)) (solid s) (lawful_decides s)
  lawful_decides (seq tag ps) = Decides-and _ _ (no_value tag) (in_order ps)
  lawful_decides (set tag ps) = Decides-and _ _ (no_value tag) (by_tag ps)
  lawful_decides (sorted_set extensible tag ps) = both _ _ _ (no_value tag) (components ps) (told_apart ps)
  lawful_decides (list tag s size) = both _ _ _ (no_value tag) (solid s) (lawful_decides s)
  lawful_decides (set_of tag s size) = both _ _ _ (no_value tag) (solid s) (lawful_decides s)
  lawful_decides unknown = decides_no (λ h. h)

  alternatives : (ps : Parts) → Decides (are_alternatives ps) (AreAlternatives ps)
  alternatives none = decides_yes
  alternatives (part presence s ps) = Decides-like (are_alternatives (part presence s ps)) (λ h. (h.0, h.1, h.2.0, h.2.1, h.2.2)) (λ h. (h.0, h.1, (h.2, h.3, h.4)))
      (both _ _ _ (is_root presence) (tagged s) (both _ _ _ (solid s) (lawful_decides s) (alternatives ps)))

  in_order : (ps : Parts) → Decides (are_lawful_in_order ps) (AreLawfulInOrder ps)
  in_order none = decides_yes
  in_order (part presence s ps) = Decides-or _ _ (ends presence s ps) (Decides-like (is_always_present s && (is_lawful s && (may_be_left_out presence s ps && are_lawful_in_order ps)))
      (λ h. (h.0, h.1, h.2.0, h.2.1)) (λ h. (h.0, h.1, (h.2, h.3)))
      (both _ _ _ (solid s) (lawful_decides s) (Decides-and _ _ (left_out presence s ps) (in_order ps))))

  by_tag : (ps : Parts) → Decides (are_lawful_by_tag ps) (AreLawfulByTag ps)
  by_tag none = decides_yes
  by_tag (part presence s ps) = Decides-like (are_lawful_by_tag (part presence s ps)) (λ h. (h.0, h.1, h.2.0, h.2.1, h.2.2.0, h.2.2.1)) (λ h. (h.0, h.1, (h.2, h.3, (h.4, h.5))))
      (both _ _ _ (no_addition presence) (tagged s) (both _ _ _ (solid s) (lawful_decides s) (Decides-and _ _ (rising s ps) (by_tag ps))))

  components : (ps : Parts) → Decides (are_components ps) (AreComponents ps)
  components none = decides_yes
  components (part presence s ps) = Decides-like (are_components (part presence s ps)) (λ h. (h.0, h.1, h.2.0, h.2.1, h.2.2)) (λ h. (h.0, h.1, (h.2, h.3, h.4)))
      (both _ _ _ (no_addition presence) (tagged s) (both _ _ _ (solid s) (lawful_decides s) (components ps)))

-- A shape that passes the test is lawful, and one that doesn't isn't.
pub lawful : (s : Shape) → is_lawful s ≡ true → IsLawful s
lawful s = (lawful_decides s).0

pub unlawful : (s : Shape) → is_lawful s ≡ false → IsLawful s → ⊥
unlawful s = not_from_Decides (is_lawful s) (lawful_decides s)

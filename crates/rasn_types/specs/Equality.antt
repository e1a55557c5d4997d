-- What `==` of a type decides, and how it is decided part by part.
use Rattle.std.proofs.Common.{◌≡◌, ◌≢◌, ◌≤◌, inl, inr, suc, arith, ℕ, ℤ, pos, String, chars, List, [], ◌∷◌, Bool, true, false, ◌&&◌, Some, None, refl, sym, ap, ◌∙◌, subst, true≢false}
use denote.Struct.Field.{Field}
use denote.Enum.Declared.{Record, Declared, Choice}
use denote.Enum.Bare.{Bare, sameb, same_true, true_same}
use denote.Enum.Compared.{Each, by}
use lib.Utf8.{encodes}
use Rattle.std.specs.Bool.{Decides, beq}
use Rattle.std.specs.Option.{option_eq}
use Rattle.std.specs.Cmp.{first_so, second_so, signed_Decides, unsigned_Decides}
use Rattle.std.specs.Ordering.{int_eq}
use Rattle.std.specs.Prelude.{nat_eq}
use Rattle.std.specs.String.{string_bytes, string_eq}
use Rattle.std.proofs.lemmas.Str.{encodes-chars, IsUtf8-string_bytes}
use Rattle.std.specs.Cmp.Derive.{both_true, of_values}
use Rattle.std.specs.Cmp.Lexicographic.{pointwise, pointwise_decides, bytes_decides}
use Rattle.rasn_types.specs.Calendar.{Day, Moment}
use Rattle.rasn_types.specs.Shapes.{Tree, number, bits, numbers, instant, on_day, joined, done, set_elements, chosen, absent}
use Rattle.rasn_types.specs.Bytes.{Same}
use Rattle.rasn_types.specs.Trees.{bool_tree, option_tree, list_tree}

-- The flag is true exactly if the trees are the same. It is a record so that its type shows the flag and both trees.
pub record DecidesSame (flag : Bool) (t u : Tree) : Type 0 where
  pub same : flag ≡ true → Same t u
  pub equal : Same t u → flag ≡ true

-- Values are equal exactly if their trees are the same.
abbrev pub EqDecidesSame : {E : Type 0} → (E → E → Bool) → (E → Tree) → Type 0
EqDecidesSame {E} eq tree = (a b : E) → DecidesSame (eq a b) (tree a) (tree b)

-- No value is absent.
abbrev pub AreNeverAbsent : {E : Type 0} → (E → Tree) → Type 0
AreNeverAbsent {E} tree = (a : E) → tree a ≢ absent

-- ---- leaves: two values are equal exactly if the contents of their trees are equal

number_decided : {r : Bool} (y z : ℤ) → Decides r (y ≡ z) → DecidesSame r (number y) (number z)
number_decided y z h = record { same = λ e. ap number (sym (h.0 e)); equal = λ (s : number z ≡ number y). h.1 cc }

numbers_decided : {r : Bool} (k l : List ℕ) → Decides r (k ≡ l) → DecidesSame r (numbers k) (numbers l)
numbers_decided k l h = record { same = λ e. ap numbers (sym (h.0 e)); equal = λ (s : numbers l ≡ numbers k). h.1 cc }

pub signed_decided : (y z : ℤ) → DecidesSame (int_eq y z) (number y) (number z)
signed_decided y z = number_decided y z (signed_Decides y z)

pub unsigned_decided : (m n : ℕ) → DecidesSame (nat_eq m n) (number (pos m)) (number (pos n))
unsigned_decided m n = number_decided (pos m) (pos n) ((λ e. ap pos ((unsigned_Decides m n).0 e)), (λ e. (unsigned_Decides m n).1 cc))

-- For a type with one value.
pub single_decided : (z : ℤ) → DecidesSame true (number z) (number z)
single_decided z = number_decided z z ((λ e. refl), (λ e. refl))

pub bool_decided : (b c : Bool) → DecidesSame (beq b c) (bool_tree b) (bool_tree c)
bool_decided true true = single_decided (pos 1)
bool_decided true false = number_decided (pos 1) (pos 0) ((λ e. absurd (true≢false (sym e))), (λ e. cc))
bool_decided false true = number_decided (pos 0) (pos 1) ((λ e. absurd (true≢false (sym e))), (λ e. cc))
bool_decided false false = single_decided (pos 0)

bool_decides : (b c : Bool) → Decides (beq b c) (b ≡ c)
bool_decides true true = ((λ e. refl), (λ e. refl))
bool_decides true false = ((λ e. absurd (true≢false (sym e))), (λ e. absurd (true≢false e)))
bool_decides false true = ((λ e. absurd (true≢false (sym e))), (λ e. absurd (true≢false (sym e))))
bool_decides false false = ((λ e. refl), (λ e. refl))

pub bits_decided : (k l : List Bool) → DecidesSame (pointwise beq k l) (bits k) (bits l)
bits_decided k l =
    let h = pointwise_decides bool_decides k l in
    record { same = λ e. ap bits (sym (h.0 e)); equal = λ (s : bits l ≡ bits k). h.1 cc }

pub octets_decided : (k l : List ℕ) → DecidesSame (pointwise nat_eq k l) (numbers k) (numbers l)
octets_decided k l = numbers_decided k l (bytes_decides k l)

pub text_decided : {Z : Type 0} (s t : String Z) → DecidesSame (string_eq s t) (numbers (chars (string_bytes s))) (numbers (chars (string_bytes t)))
text_decided s t =
    let k = string_bytes s in
    let l = string_bytes t in
    let back : chars k ≡ chars l → k ≡ l = λ e. sym (encodes-chars k (IsUtf8-string_bytes s)) ∙ (ap encodes e ∙ encodes-chars l (IsUtf8-string_bytes t)) in
    numbers_decided (chars k) (chars l) ((λ e. ap chars ((bytes_decides k l).0 e)), (λ e. (bytes_decides k l).1 (back e)))

-- An enum whose variants have no fields, and have different numbers.
pub enumerated_decided : (D : Declared) → Bare D.parts → (f : D.D → ℤ) → ((v w : D.D) → f v ≡ f w → v ≡ w) → EqDecidesSame (sameb D) (λ v. number (f v))
enumerated_decided D bare f distinct v w = number_decided (f v) (f w) ((λ e. ap f (same_true D bare v w e)), (λ e. true_same D v w (distinct v w e)))

-- ---- times

both_decide : {s t : Bool} {P Q : Type 0} → Decides s P → Decides t Q → Decides (s && t) (P × Q)
both_decide {s} {t} h k = ((λ e. (h.0 (first_so s t e), k.0 (second_so s t e))), (λ (p, q). both_true (h.1 p) (k.1 q)))

abbrev pub day_eq : Day → Day → Bool
day_eq c d = int_eq c.year d.year && (nat_eq c.month d.month && nat_eq c.day d.day)

day_decides : (c d : Day) → Decides (day_eq c d) (c ≡ d)
day_decides c d =
    let h = both_decide (signed_Decides c.year d.year) (both_decide (unsigned_Decides c.month d.month) (unsigned_Decides c.day d.day)) in (
      (λ e. let r = h.0 e in λ i. record { year = r.0 i; month = r.1.0 i; day = r.1.1 i }),
      (λ e. h.1 (ap (λ (w : Day). w.year) e, (ap (λ (w : Day). w.month) e, ap (λ (w : Day). w.day) e))),
    )

abbrev pub moment_eq : Moment → Moment → Bool
moment_eq m n = day_eq m.day n.day && (nat_eq m.hour n.hour && (nat_eq m.minute n.minute && (nat_eq m.second n.second && nat_eq m.nanosecond n.nanosecond)))

moment_decides : (m n : Moment) → Decides (moment_eq m n) (m ≡ n)
moment_decides m n =
    let h = both_decide (day_decides m.day n.day) (both_decide (unsigned_Decides m.hour n.hour)
    (both_decide (unsigned_Decides m.minute n.minute) (both_decide (unsigned_Decides m.second n.second) (unsigned_Decides m.nanosecond n.nanosecond)))) in (
      (λ e. let r = h.0 e in λ i. record { day = r.0 i; hour = r.1.0 i; minute = r.1.1.0 i; second = r.1.1.1.0 i; nanosecond = r.1.1.1.1 i }),
      (λ e. h.1 (ap (λ (w : Moment). w.day) e, (ap (λ (w : Moment). w.hour) e, (ap (λ (w : Moment). w.minute) e, (ap (λ (w : Moment). w.second) e, ap (λ (w : Moment). w.nanosecond) e))))),
    )

pub day_decided : (c d : Day) → DecidesSame (day_eq c d) (on_day c) (on_day d)
day_decided c d = let h = day_decides c d in record { same = λ e. ap on_day (sym (h.0 e)); equal = λ (s : on_day d ≡ on_day c). h.1 cc }

pub instant_decided : (m n : Moment) → DecidesSame (moment_eq m n) (instant m) (instant n)
instant_decided m n = let h = moment_decides m n in record { same = λ e. ap instant (sym (h.0 e)); equal = λ (s : instant n ≡ instant m). h.1 cc }

-- ---- parts

pub no_parts : DecidesSame true done done
no_parts = record { same = λ e. refl; equal = λ s. refl }

same_joined : (t ts u us : Tree) → Same (joined t ts) (joined u us) → Same t u × Same ts us
same_joined t ts u us (v, vs, e, s, h) =
    let f : v ≡ u = cc in
    let g : vs ≡ us = cc in
    (subst (Same t) f s, subst (Same ts) g h)

module _ {s : Bool} {t u : Tree} (p : DecidesSame s t u) where
  -- A part before others.
  pub part : {r : Bool} {ts us : Tree} → DecidesSame r ts us → DecidesSame (s && r) (joined t ts) (joined u us)
  part {r} {ts} {us} q = record {
    same = λ e. (u, us, refl, p.same (first_so s r e), q.same (second_so s r e));
    equal = λ h. let k = same_joined t ts u us h in both_true (p.equal k.0) (q.equal k.1);
  }

  -- The last part.
  pub last : DecidesSame s (joined t done) (joined u done)
  last = record { same = λ e. (u, done, refl, p.same e, refl); equal = λ h. p.equal (same_joined t done u done h).0 }

-- ---- alternatives of an enum with a derived `==`

same_chosen : (k m : ℕ) (t u : Tree) → Same (chosen k t) (chosen m u) → (k ≡ m) × Same t u
same_chosen k m t u (v, e, s) = let f : v ≡ u = cc in (cc, subst (Same t) f s)

-- The values of a variant are those of alternative k.
pub record Alternative {X : Type 0} (k : ℕ) (eq : X → X → Bool) (tree : X → Tree) : Type 0 where
  pub inner : X → Tree
  pub is : (x : X) → tree x ≡ chosen k (inner x)
  pub decided : EqDecidesSame eq inner

pub alternative : {X F : Type 0} {k : ℕ} (get : X → F) {eq : F → F → Bool} {tree : F → Tree} → EqDecidesSame eq tree → Alternative k (λ x y. eq (get x) (get y)) (λ x. chosen k (tree (get x)))
alternative get {eq} {tree} p = record { inner = λ x. tree (get x); is = λ x. refl; decided = λ x y. p (get x) (get y) }

abbrev pub Alternatives : ℕ → (Fss : List (List Field)) → Each Bool Fss → (Choice Fss → Tree) → Type 0
Alternatives k [] es tree = Unit {0}
Alternatives k (Fs ∷ Fss) es tree = Alternative k es.0 (λ x. tree (inl x)) × Alternatives (suc k) Fss es.1 (λ c. tree (inr c))

behind : (k : ℕ) (Fss : List (List Field)) (es : Each Bool Fss) (tree : Choice Fss → Tree) → Alternatives k Fss es tree → (c : Choice Fss) → (m : ℕ) × (u : Tree) × (k ≤ m) × (tree c ≡ chosen m u)
behind k [] es tree all c = absurd c
behind k (Fs ∷ Fss) es tree all (inl x) = (k, all.0.inner x, omega arith, all.0.is x)
behind k (Fs ∷ Fss) es tree all (inr c) = let r = behind (suc k) Fss es.1 (λ c. tree (inr c)) all.1 c in (r.0, r.1, omega (arith, r.2), r.3)

choices_decided : (k : ℕ) (Fss : List (List Field)) (es : Each Bool Fss) (tree : Choice Fss → Tree) → Alternatives k Fss es tree → (c d : Choice Fss) → DecidesSame (by false false Fss es c d) (tree c) (tree d)
choices_decided k [] es tree all c d = absurd c
choices_decided k (Fs ∷ Fss) es tree all (inl x) (inl y) =
    let p = all.0.decided x y in
    record {
      same = λ e. rw (all.0.is x, all.0.is y) (all.0.inner y, refl, p.same e);
      equal = λ s. p.equal (same_chosen k k (all.0.inner x) (all.0.inner y) (rw (all.0.is x, all.0.is y) at s)).1;
    }
choices_decided k (Fs ∷ Fss) es tree all (inl x) (inr d) =
    let r = behind (suc k) Fss es.1 (λ c. tree (inr c)) all.1 d in
    record {
      same = λ e. absurd (true≢false (sym e));
      equal = λ s. let h = (same_chosen k r.0 (all.0.inner x) r.1 (rw (all.0.is x, r.3) at s)).0 in absurd (omega (arith, h, r.2));
    }
choices_decided k (Fs ∷ Fss) es tree all (inr c) (inl y) =
    let r = behind (suc k) Fss es.1 (λ c. tree (inr c)) all.1 c in
    record {
      same = λ e. absurd (true≢false (sym e));
      equal = λ s. let h = (same_chosen r.0 k r.1 (all.0.inner y) (rw (r.3, all.0.is y) at s)).0 in absurd (omega (arith, h, r.2));
    }
choices_decided k (Fs ∷ Fss) es tree all (inr c) (inr d) = choices_decided (suc k) Fss es.1 (λ c. tree (inr c)) all.1 c d

-- An enum whose variants are the alternatives of a CHOICE, in their order.
pub choice_decided : (N : Record) (es : Each Bool N.parts) (tree : N.D → Tree) → Alternatives 0 N.parts es (λ c. tree (N.make c)) → EqDecidesSame (of_values N false false es) tree
choice_decided N es tree all a b =
    let h = choices_decided 0 N.parts es (λ c. tree (N.make c)) all (N.as_values a) (N.as_values b) in
    subst (λ z. DecidesSame (of_values N false false es a b) (tree z) (tree b)) (N.eta a)
    (subst (λ z. DecidesSame (of_values N false false es a b) (tree (N.make (N.as_values a))) (tree z)) (N.eta b) h)

-- ---- values that may be absent, and lists

same_absent : (t : Tree) → Same t absent → t ≡ absent
same_absent (number z) s = sym s
same_absent (bits bs) s = sym s
same_absent (numbers ns) s = sym s
same_absent (instant m) s = sym s
same_absent (on_day d) s = sym s
same_absent done s = sym s
same_absent (joined t ts) (v, vs, e, s, h) = cc
same_absent (set_elements ts) (vs, ws, e, p, h) = cc
same_absent (chosen k t) (v, e, s) = cc
same_absent absent s = refl

module _ {T : Type 0} {eq : T → T → Bool} {tree : T → Tree} (p : EqDecidesSame eq tree) where
  pub option_decided : AreNeverAbsent tree → EqDecidesSame (option_eq eq) (option_tree tree)
  option_decided h None None = record { same = λ e. refl; equal = λ s. refl }
  option_decided h None (Some y) = record { same = λ e. absurd (true≢false (sym e)); equal = λ s. absurd (h y s) }
  option_decided h (Some x) None = record { same = λ e. absurd (true≢false (sym e)); equal = λ s. absurd (h x (same_absent (tree x) s)) }
  option_decided h (Some x) (Some y) = p x y

  pub list_decided : EqDecidesSame (pointwise eq) (list_tree tree)
  list_decided [] [] = no_parts
  list_decided [] (y ∷ ys) = record { same = λ e. absurd (true≢false (sym e)); equal = λ (s : joined (tree y) (list_tree tree ys) ≡ done). cc }
  list_decided (x ∷ xs) [] = record { same = λ e. absurd (true≢false (sym e)); equal = λ (v, vs, e, s, h). cc }
  list_decided (x ∷ xs) (y ∷ ys) = part (p x y) (list_decided xs ys)

-- ---- values that aren't absent

pub number_not_absent : (z : ℤ) → number z ≢ absent
number_not_absent z e = cc

pub numbers_not_absent : (l : List ℕ) → numbers l ≢ absent
numbers_not_absent l e = cc

pub bits_not_absent : (l : List Bool) → bits l ≢ absent
bits_not_absent l e = cc

pub instant_not_absent : (m : Moment) → instant m ≢ absent
instant_not_absent m e = cc

pub day_not_absent : (d : Day) → on_day d ≢ absent
day_not_absent d e = cc

pub bool_not_absent : (b : Bool) → bool_tree b ≢ absent
bool_not_absent true e = cc
bool_not_absent false e = cc

pub list_not_absent : {T : Type 0} (tree : T → Tree) (l : List T) → list_tree tree l ≢ absent
list_not_absent tree [] e = cc
list_not_absent tree (x ∷ xs) e = cc

-- A SEQUENCE or a SET with a part.
pub parts_not_absent : {t ts : Tree} → joined t ts ≢ absent
parts_not_absent e = cc

pub set_elements_not_absent : {t : Tree} → set_elements t ≢ absent
set_elements_not_absent e = cc

pub chosen_not_absent : {k : ℕ} {t : Tree} → chosen k t ≢ absent
chosen_not_absent e = cc

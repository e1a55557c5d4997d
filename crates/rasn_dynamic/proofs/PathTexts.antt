-- The steps that texts of paths begin with.
use Rattle.std.proofs.Common.{arith, rules, true≢false, ℕ, zero, suc, ◌≡◌, ◌≢◌, ◌<◌, ◌≤◌, ◌^◌, ◌+◌, ◌⊎◌, inl, inr, ◌++◌, ◌∷◌, [], List, length, length-append, take, drop, get_or, Bool, true, false, Option, Some, None, Result, Ok, ◌==◌, refl, sym, ap, ◌∙◌, subst, append_assoc}
use Rattle.std.specs.Prelude.{MatchOption}
use Rattle.std.specs.Borrow.{Bor}
use Rattle.std.specs.Fmt.{decimal}
use Rattle.std.specs.List.{AllByRecursion}
use Rattle.std.specs.Result.{OkIff}
use Rattle.std.specs.Str.Pattern.{FindsCharPrefix}
use Rattle.std.specs.Str.{IsUtf8, IsCharBoundary}
use Rattle.std.specs.Str.Parse.{ParsesUnsigned, digits_value, AllDigits}
use Rattle.std.proofs.lemmas.List.{append-nil, drop_more, take_more, drop_all}
use Rattle.std.proofs.lemmas.Fmt.{decimal-digits_value, digits_decimal, decimal_nonempty, first_decimal, decimal_digit, decimal_injective}
use Rattle.std.proofs.lemmas.Str.{IsCharBoundary-end, IsCharBoundary-before_ascii, IsCharBoundary-after_ascii, IsUtf8-drop}
use Rattle.std.proofs.Math.Seq.{drop-append_seam}
use Rattle.std.proofs.lemmas.Str.Parse.{IsNumeralModel, numerals_by_value, tells_digits, parse_plain, digit_at}
use Rattle.std.proofs.lemmas.Str.Pattern.{IsSplitOnceResult, split_after, split_parts, strip_prefix_char}
use Rattle.rasn_schema.specs.declared.type_id.TypeId.{TypeId}
use Rattle.rasn_schema.specs.declared.types.«Type».{«Type»}
use Rattle.rasn_dynamic.specs.Steps.{IsNamedStep, IsIndexedStep, IsStepOf, IsNoWay}
use Rattle.rasn_dynamic.specs.PathText.{IsNameOctet, IsPlain, point, step_text, steps_text, AreStepsOf, EndsName, IsFirstName, IsFirstIndex, IsFirstStep}
use Rattle.rasn_dynamic.specs.declared.steps.Step.{Step}
use Rattle.rasn_dynamic.specs.declared.steps.Step.TheVariants.{Name, Index}

-- ---- names

pub all_push : {X : Type 0} (P : X → Type 0) (xs : List X) (x : X) → AllByRecursion P xs → P x → AllByRecursion P (xs ++ x ∷ [])
all_push P [] x a p = (p, tt)
all_push P (y ∷ ys) x a p = (a.0, all_push P ys x a.1 p)

-- One more octet of a name.
pub one_more : (bs : List ℕ) (i : ℕ) → i < length bs → AllByRecursion IsNameOctet (take i bs) → get_or bs i 0 ≢ 46 → get_or bs i 0 ≢ 91 → AllByRecursion IsNameOctet (take (i + 1) bs)
one_more bs i h a p b = subst (AllByRecursion IsNameOctet) (sym (take_more bs i 0 h)) (all_push IsNameOctet (take i bs) (get_or bs i 0) a (p, b))

-- A name ends at such an octet.
pub ends_at : (bs : List ℕ) (i : ℕ) → i < length bs → (get_or bs i 0 ≡ 46) ⊎ (get_or bs i 0 ≡ 91) → EndsName (drop i bs)
ends_at bs i h e = subst EndsName (sym (drop_more bs i 0 h)) e

pub ends_after : (bs : List ℕ) (i : ℕ) → length bs ≤ i → EndsName (drop i bs)
ends_after bs i h = subst EndsName (sym (drop_all i bs h)) tt

small : (c : ℕ) → (c ≡ 46) ⊎ (c ≡ 91) → c < 128
small c (inl e) = omega arith
small c (inr e) = omega arith

below_or_at : (a b : ℕ) → a ≤ b → (a < b) ⊎ (a ≡ b)
below_or_at a b h = grind arith

-- A text may be cut where a name ends.
pub cut_there : (bs : List ℕ) (i : ℕ) → i ≤ length bs → EndsName (drop i bs) → IsCharBoundary bs i
cut_there bs i h e = elim (below_or_at i (length bs) h) [
  | inl s ↦ IsCharBoundary-before_ascii bs i s (small (get_or bs i 0) (subst EndsName (drop_more bs i 0 s) e))
  | inr s ↦ subst (IsCharBoundary bs) (sym s) (IsCharBoundary-end bs)
]

-- No name is there where one ends.
no_start : (c : ℕ) (cs : List ℕ) (x : ℕ) (xs : List ℕ) → EndsName (c ∷ cs) → IsNameOctet x → c ∷ cs ≡ x ∷ xs → ⊥
no_start c cs x xs (inl p) o k = o.0 cc
no_start c cs x xs (inr b) o k = o.1 cc

pub none_there : (text name rest : List ℕ) → EndsName text → IsFirstName text name rest → ⊥
none_there text [] rest e n = n.some refl
none_there [] (x ∷ xs) rest e n = let k = n.text_is in cc
none_there (c ∷ cs) (x ∷ xs) rest e n = no_start c cs x (xs ++ rest) e n.octets.0 n.text_is

-- A text begins with one name at most.
same_names : (xs u ys v : List ℕ) → AllByRecursion IsNameOctet xs → EndsName u → AllByRecursion IsNameOctet ys → EndsName v → xs ++ u ≡ ys ++ v → (xs ≡ ys) × (u ≡ v)
same_names [] u [] v a e b f k = (refl, k)
same_names [] [] (y ∷ ys) v a e b f k = absurd cc
same_names [] (c ∷ cs) (y ∷ ys) v a e b f k = absurd (no_start c cs y (ys ++ v) e b.0 k)
same_names (x ∷ xs) u [] [] a e b f k = absurd cc
same_names (x ∷ xs) u [] (c ∷ cs) a e b f k = absurd (no_start c cs x (xs ++ u) f a.0 (sym k))
same_names (x ∷ xs) u (y ∷ ys) v a e b f k =
    let first : x ≡ y = cc in
    let others : xs ++ u ≡ ys ++ v = cc in
    let r = same_names xs u ys v a.1 e b.1 f others in
    (cc (r.0), r.1)

-- ---- indices

-- The octets before the first one of a kind.
up_to : (xs u ys v : List ℕ) → ((i : ℕ) → i < length xs → get_or xs i 0 ≢ 93) → ((i : ℕ) → i < length ys → get_or ys i 0 ≢ 93) → xs ++ 93 ∷ u ≡ ys ++ 93 ∷ v → (xs ≡ ys) × (u ≡ v)
up_to [] u [] v a b e = (refl, cc)
up_to [] u (y ∷ ys) v a b e = absurd (b 0 (omega arith) cc)
up_to (x ∷ xs) u [] v a b e = absurd (a 0 (omega arith) cc)
up_to (x ∷ xs) u (y ∷ ys) v a b e =
    let first : x ≡ y = cc in
    let others : xs ++ 93 ∷ u ≡ ys ++ 93 ∷ v = cc in
    let r = up_to xs u ys v (λ i l. a (suc i) (omega (arith, l))) (λ i l. b (suc i) (omega (arith, l))) others in
    (cc (r.0), r.1)

own : IsNumeralModel (AllDigits 10) (digits_value 10)
own = numerals_by_value _ tells_digits

not_bracket : (n : ℕ) → n < 2 ^ 64 → (i : ℕ) → i < length (decimal n) → get_or (decimal n) i 0 ≢ 93
not_bracket n h i l e = let r = digit_at (decimal n) i (digits_decimal own n h) l in omega (arith, r.0, r.1)

-- what `split_once` gives at the bracket after an index
pub digits_there : (text : List ℕ) (n : ℕ) (rest : List ℕ) (r : Option (Bor (List ℕ) × Bor (List ℕ))) → IsSplitOnceResult 93 text r → IsFirstIndex text n rest → MatchOption r ⊥ (λ x. (x.0.now ≡ decimal n) × (x.1.now ≡ rest))
digits_there text n rest r h f = split_after 93 text (decimal n) rest r h (omega arith) f.text_is (not_bracket n f.fits)

pub no_bracket : (text : List ℕ) (r : Option (Bor (List ℕ) × Bor (List ℕ))) → IsSplitOnceResult 93 text r → r ≡ None → (n : ℕ) (rest : List ℕ) → IsFirstIndex text n rest → ⊥
no_bracket text r h e n rest f = subst (λ q. MatchOption q ⊥ (λ x. (x.0.now ≡ decimal n) × (x.1.now ≡ rest))) e (digits_there text n rest r h f)

pub are_digits : (text : List ℕ) (r : Option (Bor (List ℕ) × Bor (List ℕ))) (a b : Bor (List ℕ)) → IsSplitOnceResult 93 text r → r ≡ Some (a, b) → (n : ℕ) (rest : List ℕ) → IsFirstIndex text n rest → a.now ≡ decimal n
are_digits text r a b h e n rest f = (subst (λ q. MatchOption q ⊥ (λ x. (x.0.now ≡ decimal n) × (x.1.now ≡ rest))) e (digits_there text n rest r h f)).0

pub parts_are : (text : List ℕ) (r : Option (Bor (List ℕ) × Bor (List ℕ))) (a b : Bor (List ℕ)) → IsSplitOnceResult 93 text r → r ≡ Some (a, b) → text ≡ a.now ++ 93 ∷ b.now
parts_are text r a b h e = (subst (λ q. MatchOption q ((i : ℕ) → i < length text → get_or text i 0 ≢ 93) (λ x. (text ≡ x.0.now ++ 93 ∷ x.1.now) × ((i : ℕ) → i < length x.0.now → get_or x.0.now i 0 ≢ 93))) e (split_parts 93 text r h (omega arith))).0

pub no_plus : (n : ℕ) → n < 2 ^ 64 → get_or (decimal n) 0 0 ≢ 43
no_plus n h e = let r = digit_at (decimal n) 0 (digits_decimal own n h) (decimal_nonempty n h) in omega (arith, r.0, r.1)

zero_or_not : (n : ℕ) → (n ≡ 0) ⊎ (0 < n)
zero_or_not n = grind arith

pub no_zero : (n : ℕ) → n < 2 ^ 64 → get_or (decimal n) 0 0 ≡ 48 → length (decimal n) ≡ 1
no_zero n h e = elim (zero_or_not n) [
  | inl z ↦ subst (λ k. length (decimal k) ≡ 1) (sym z) (ap length (decimal_digit 0 (omega arith)))
  | inr p ↦ let f = first_decimal n p h in absurd (omega (arith, f, e))
]

-- The digits are those of the number that they are read as.
pub is_index : {E : Type 0} (ds : List ℕ) (n : ℕ) (r : Result ℕ E) → ParsesUnsigned 64 10 ds r → r ≡ Ok n → get_or ds 0 0 ≢ 43 → (get_or ds 0 0 ≡ 48 → length ds ≡ 1) → (n < 2 ^ 64) × (decimal n ≡ ds)
is_index {E} ds n r p e h z =
    let q = subst (λ k. OkIff k (AllDigits 10 ds × (0 < length ds) × (digits_value 10 ds < 2 ^ 64)) (digits_value 10 ds)) e (parse_plain own 64 ds r p h) in
    let same : n ≡ digits_value 10 ds = q.1 in
    let d = decimal-digits_value own ds q.0.0 q.0.1 z q.0.2 in
    (subst (λ k. k < 2 ^ 64) (sym same) q.0.2, subst (λ k. decimal k ≡ ds) (sym same) d)

pub one_long : (ds : List ℕ) → length ds ≤ 1 → get_or ds 0 0 ≡ 48 → length ds ≡ 1
one_long [] h e = absurd (omega (arith, e))
one_long (x ∷ xs) h e = omega (arith, h)

-- ---- steps

not_both : (text after next : List ℕ) → text ≡ 91 ∷ after → text ≡ 46 ∷ next → ⊥
not_both text after next e k = let d = ap (λ l. get_or l 0 0) (sym e ∙ k) in omega (arith, d)

no_name : (b : Bool) (text after name rest : List ℕ) → text ≡ 91 ∷ after → (next : List ℕ) → text ≡ point b ++ next → IsFirstName next name rest → ⊥
no_name true text after name rest e next k n = none_there next name rest (subst EndsName (sym e ∙ k) (inr refl)) n
no_name false text after name rest e next k n = not_both text after next e k

-- no step is there: no index after a bracket; no name; or no point before one
pub no_index : (b : Bool) (text after : List ℕ) → text ≡ 91 ∷ after → ((n : ℕ) (rest : List ℕ) → IsFirstIndex after n rest → ⊥) → (step : Step) (rest : List ℕ) → IsFirstStep b text step rest → ⊥
no_index b text after e none (Name name) rest f = no_name b text after name.now rest e f.0 f.1 f.2
no_index b text after e none (Index index) rest f = none index rest (subst (λ z. IsFirstIndex z index rest) (let k = f.1 in cc) f.2)

pub no_first_name : (text : List ℕ) → ((rest : List ℕ) → text ≢ 91 ∷ rest) → ((name rest : List ℕ) → IsFirstName text name rest → ⊥) → (b : Bool) → b ≡ true → (step : Step) (rest : List ℕ) → IsFirstStep b text step rest → ⊥
no_first_name text bracket none b t (Name name) rest f = none name.now rest (subst (λ z. IsFirstName z name.now rest) (sym (f.1 ∙ ap (λ z. point z ++ f.0) t)) f.2)
no_first_name text bracket none b t (Index index) rest f = bracket f.0 f.1

pub no_next_name : (text after : List ℕ) → text ≡ 46 ∷ after → ((name rest : List ℕ) → IsFirstName after name rest → ⊥) → (b : Bool) → b ≡ false → (step : Step) (rest : List ℕ) → IsFirstStep b text step rest → ⊥
no_next_name text after e none b t (Name name) rest f =
    none name.now rest (subst (λ z. IsFirstName z name.now rest) (ap (drop 1) (sym (f.1 ∙ ap (λ z. point z ++ f.0) t) ∙ e)) f.2)
no_next_name text after e none b t (Index index) rest f = not_both text f.0 after f.1 e

pub no_point : (text : List ℕ) → ((rest : List ℕ) → text ≢ 91 ∷ rest) → ((rest : List ℕ) → text ≢ 46 ∷ rest) → (b : Bool) → b ≡ false → (step : Step) (rest : List ℕ) → IsFirstStep b text step rest → ⊥
no_point text bracket none b t (Name name) rest f = none f.0 (f.1 ∙ ap (λ z. point z ++ f.0) t)
no_point text bracket none b t (Index index) rest f = bracket f.0 f.1

-- What follows a step ends a name.
pub ends_steps : (steps : List Step) → AllByRecursion IsPlain steps → EndsName (steps_text false steps)
ends_steps [] a = tt
ends_steps (Name name ∷ steps) a = inl refl
ends_steps (Index index ∷ steps) a = inr refl

-- The first of steps is one that their text begins with.
pub begins : (b : Bool) (step : Step) (steps : List Step) → IsPlain step → AllByRecursion IsPlain steps → IsFirstStep b (steps_text b (step ∷ steps)) step (steps_text false steps)
begins b (Name name) steps p a = (
  name.now ++ steps_text false steps,
  append_assoc (point b) name.now (steps_text false steps),
  record {
    some = p.0;
    octets = p.1;
    text_is = refl;
    ends = ends_steps steps a;
  },
)
begins b (Index index) steps p a = (
  decimal index ++ 93 ∷ steps_text false steps,
  ap (λ z. 91 ∷ z) (append_assoc (decimal index) (93 ∷ []) (steps_text false steps)),
  record {
    fits = p;
    text_is = refl;
  },
)

-- what a text begins with: a plain step, whose text is its front
pub is_plain : (b : Bool) (text : List ℕ) (step : Step) (rest : List ℕ) → IsFirstStep b text step rest → IsPlain step
is_plain b text (Name name) rest f = (f.2.some, f.2.octets)
is_plain b text (Index index) rest f = f.2.fits

pub is_front : (b : Bool) (text : List ℕ) (step : Step) (rest : List ℕ) → IsFirstStep b text step rest → text ≡ step_text b step ++ rest
is_front b text (Name name) rest f = f.1 ∙ (ap (λ z. point b ++ z) f.2.text_is ∙ sym (append_assoc (point b) name.now rest))
is_front b text (Index index) rest f = f.1 ∙ ap (λ z. 91 ∷ z) (f.2.text_is ∙ sym (append_assoc (decimal index) (93 ∷ []) rest))

some_long : (xs : List ℕ) → xs ≢ [] → 0 < length xs
some_long [] n = absurd (n refl)
some_long (x ∷ xs) n = omega arith

pub shorter : (b : Bool) (text : List ℕ) (step : Step) (rest : List ℕ) → IsFirstStep b text step rest → length rest < length text
shorter b text (Name name) rest f =
    let i = ap length (f.1 ∙ ap (λ z. point b ++ z) f.2.text_is) ∙ length-append (point b) (name.now ++ rest) in
    let j = length-append name.now rest in
    let k = some_long name.now f.2.some in
    omega (arith, i, j, k)
shorter b text (Index index) rest f =
    let i = ap length f.1 in
    let j = ap length f.2.text_is ∙ length-append (decimal index) (93 ∷ rest) in
    omega (arith, i, j)

-- The same step: the same name, or the same index.
abbrev pub IsSame : Step → Step → Type 0
IsSame (Name a) (Name b) = a.now ≡ b.now
IsSame (Index i) (Index j) = i ≡ j
IsSame _ _ = ⊥

without_point : (b : Bool) (x y : List ℕ) → point b ++ x ≡ point b ++ y → x ≡ y
without_point true x y e = e
without_point false x y e = cc

-- digits up to a bracket
same_digits : (m n : ℕ) (u v : List ℕ) → m < 2 ^ 64 → n < 2 ^ 64 → decimal m ++ 93 ∷ u ≡ decimal n ++ 93 ∷ v → (decimal m ≡ decimal n) × (u ≡ v)
same_digits m n u v h k e = up_to (decimal m) u (decimal n) v (not_bracket m h) (not_bracket n k) e

-- A text begins with one step at most.
pub one_step : (b : Bool) (text : List ℕ) (s t : Step) (u v : List ℕ) → IsFirstStep b text s u → IsFirstStep b text t v → IsSame s t × (u ≡ v)
one_step b text (Name x) (Name y) u v f g =
    let e = without_point b f.0 g.0 (sym f.1 ∙ g.1) in
    same_names x.now u y.now v f.2.octets f.2.ends g.2.octets g.2.ends (sym f.2.text_is ∙ (e ∙ g.2.text_is))
one_step b text (Name x) (Index j) u v f g = absurd (no_name b text g.0 x.now u g.1 f.0 f.1 f.2)
one_step b text (Index i) (Name y) u v f g = absurd (no_name b text f.0 y.now v f.1 g.0 g.1 g.2)
one_step b text (Index i) (Index j) u v f g =
    let a = f.1 in
    let c = g.1 in
    let e : f.0 ≡ g.0 = cc in
    let r = same_digits i j u v f.2.fits g.2.fits (sym f.2.text_is ∙ (e ∙ g.2.text_is)) in
    (decimal_injective i j f.2.fits g.2.fits r.0, r.1)

-- ---- all steps

-- Whether a step is the first: none precedes.
abbrev pub is_nil : List Step → Bool
is_nil [] = true
is_nil (step ∷ steps) = false

pub nil_test : (steps : List Step) (n : ℕ) → length steps ≡ n → (n == 0) ≡ is_nil steps
nil_test [] n e = subst (λ k. (k == 0) ≡ true) e refl
nil_test (step ∷ steps) n e = subst (λ k. (k == 0) ≡ false) e (search rules)

-- What the steps from the next one on are, if the text is that of any.
abbrev pub GoesOn : List ℕ → List Step → List ℕ → Type 0
GoesOn text steps rest = (others : List Step) → AreStepsOf text others → (after : List Step) × AllByRecursion IsPlain after × (steps_text (is_nil steps) after ≡ rest)

pub at_first : (text : List ℕ) → GoesOn text [] text
at_first text others a = (others, a.plain, a.text_is)

push_next : (steps : List Step) (step : Step) → steps_text false (steps ++ step ∷ []) ≡ steps_text false steps ++ step_text false step
push_next [] step = append-nil (step_text false step)
push_next (x ∷ steps) step = ap (λ z. step_text false x ++ z) (push_next steps step) ∙ sym (append_assoc (step_text false x) (steps_text false steps) (step_text false step))

push : (steps : List Step) (step : Step) → steps_text true (steps ++ step ∷ []) ≡ steps_text true steps ++ step_text (is_nil steps) step
push [] step = append-nil (step_text true step)
push (x ∷ steps) step = ap (λ z. step_text true x ++ z) (push_next steps step) ∙ sym (append_assoc (step_text true x) (steps_text false steps) (step_text false step))

not_nil : (steps : List Step) (step : Step) → is_nil (steps ++ step ∷ []) ≡ false
not_nil [] step = refl
not_nil (x ∷ steps) step = refl

-- One more step is read.
pub text_goes_on : (text : List ℕ) (steps : List Step) (step : Step) (rest after : List ℕ) → IsFirstStep (is_nil steps) rest step after → text ≡ steps_text true steps ++ rest → text ≡ steps_text true (steps ++ step ∷ []) ++ after
text_goes_on text steps step rest after f e =
    e ∙ (ap (λ z. steps_text true steps ++ z) (is_front (is_nil steps) rest step after f) ∙ (sym (append_assoc (steps_text true steps) (step_text (is_nil steps) step) after) ∙ ap (λ z. z ++ after) (sym (push steps step))))

next_of : (b : Bool) (step : Step) (rest after : List ℕ) (all : List Step) → IsFirstStep b rest step after → AllByRecursion IsPlain all → steps_text b all ≡ rest → (more : List Step) × AllByRecursion IsPlain more × (steps_text false more ≡ after)
next_of b step rest after [] f a e = let n = shorter b rest step after f in let z = ap length e in absurd (omega (arith, n, z))
next_of b step rest after (x ∷ xs) f a e = (xs, a.1, (one_step b rest x step (steps_text false xs) after (subst (λ z. IsFirstStep b z x (steps_text false xs)) e (begins b x xs a.0 a.1)) f).1)

pub goes_on : (text : List ℕ) (steps : List Step) (step : Step) (rest after : List ℕ) → IsFirstStep (is_nil steps) rest step after → GoesOn text steps rest → GoesOn text (steps ++ step ∷ []) after
goes_on text steps step rest after f g others a =
    let h = g others a in
    let n = next_of (is_nil steps) step rest after h.0 f h.1 h.2 in
    (n.0, n.1, subst (λ z. steps_text z n.0 ≡ after) (sym (not_nil steps step)) n.2)

none_next : (b : Bool) (rest : List ℕ) (all : List Step) → rest ≢ [] → ((step : Step) (after : List ℕ) → IsFirstStep b rest step after → ⊥) → AllByRecursion IsPlain all → steps_text b all ≡ rest → ⊥
none_next b rest [] s n a e = s (sym e)
none_next b rest (x ∷ xs) s n a e = n x (steps_text false xs) (subst (λ z. IsFirstStep b z x (steps_text false xs)) e (begins b x xs a.0 a.1))

-- No step is there, and the text goes on: it isn't that of steps.
pub no_steps : (text : List ℕ) (steps : List Step) (rest : List ℕ) → rest ≢ [] → ((step : Step) (after : List ℕ) → IsFirstStep (is_nil steps) rest step after → ⊥) → GoesOn text steps rest → (others : List Step) → AreStepsOf text others → ⊥
no_steps text steps rest s n g others a = let h = g others a in none_next (is_nil steps) rest h.0 s n h.1 h.2

-- what `strip_prefix` gives
abbrev pub IsStripResult : ℕ → List ℕ → Option (Bor (List ℕ)) → Type 0
IsStripResult c bs r = MatchOption r (FindsCharPrefix c bs None) (λ x. (n : ℕ) × FindsCharPrefix c bs (Some n) × (x.now ≡ drop n bs) × (length x.now + n ≡ length bs))

pub is_missing : (c : ℕ) (bs : List ℕ) (r : Option (Bor (List ℕ))) → IsStripResult c bs r → c < 128 → r ≡ None → (rest : List ℕ) → bs ≢ c ∷ rest
is_missing c bs r h k e = subst (λ z. MatchOption z ((rest : List ℕ) → bs ≢ c ∷ rest) (λ x. bs ≡ c ∷ x.now)) e (strip_prefix_char c bs r h k)

pub is_there : (c : ℕ) (bs : List ℕ) (r : Option (Bor (List ℕ))) (x : Bor (List ℕ)) → IsStripResult c bs r → c < 128 → r ≡ Some x → bs ≡ c ∷ x.now
is_there c bs r x h k e = subst (λ z. MatchOption z ((rest : List ℕ) → bs ≢ c ∷ rest) (λ x. bs ≡ c ∷ x.now)) e (strip_prefix_char c bs r h k)

-- ---- what follows a step is text

rest_is_text : (xs ys : List ℕ) → IsUtf8 (xs ++ ys) → IsCharBoundary (xs ++ ys) (length xs) → IsUtf8 ys
rest_is_text xs ys u b = subst IsUtf8 (drop-append_seam xs ys) (IsUtf8-drop (xs ++ ys) (length xs) u b)

after_name : (b : Bool) (text next name rest : List ℕ) → IsUtf8 text → text ≡ point b ++ next → IsFirstName next name rest → IsUtf8 rest
after_name b text next name rest u e n =
    let k : text ≡ (point b ++ name) ++ rest = e ∙ (ap (λ z. point b ++ z) n.text_is ∙ sym (append_assoc (point b) name rest)) in
    let seam = drop-append_seam (point b ++ name) rest in
    let l = length-append (point b ++ name) rest in
    rest_is_text (point b ++ name) rest (subst IsUtf8 k u) (cut_there ((point b ++ name) ++ rest) (length (point b ++ name)) (omega (arith, l)) (subst EndsName (sym seam) n.ends))

bracket_after : (xs ys : List ℕ) → get_or (xs ++ 93 ∷ ys) (length xs) 0 ≡ 93
bracket_after [] ys = refl
bracket_after (x ∷ xs) ys = bracket_after xs ys

after_index : (text next : List ℕ) (n : ℕ) (rest : List ℕ) → IsUtf8 text → text ≡ 91 ∷ next → IsFirstIndex next n rest → IsUtf8 rest
after_index text next n rest u e f =
    let front = 91 ∷ decimal n in
    let k : text ≡ front ++ 93 ∷ rest = e ∙ ap (λ z. 91 ∷ z) f.text_is in
    let seam = drop-append_seam front (93 ∷ rest) in
    let l = length-append front (93 ∷ rest) in
    let first : get_or (front ++ 93 ∷ rest) (length front) 0 ≡ 93 = bracket_after front rest in
    let inner = rest_is_text front (93 ∷ rest) (subst IsUtf8 k u) (IsCharBoundary-before_ascii (front ++ 93 ∷ rest) (length front) (omega (arith, l)) (omega (arith, first))) in
    IsUtf8-drop (93 ∷ rest) (0 + 1) inner (IsCharBoundary-after_ascii (93 ∷ rest) 0 inner (omega arith) (omega arith))

pub after_step : (b : Bool) (text : List ℕ) (step : Step) (rest : List ℕ) → IsUtf8 text → IsFirstStep b text step rest → IsUtf8 rest
after_step b text (Name name) rest u f = after_name b text f.0 name.now rest u f.1 f.2
after_step b text (Index index) rest u f = after_index text f.0 index rest u f.1 f.2

pub not_empty : (xs : List ℕ) (b : Bool) → b ≡ (length xs == 0) → b ≡ false → xs ≢ []
not_empty xs b e f k = true≢false (sym (subst (λ z. b ≡ (length z == 0)) k e) ∙ f)

-- ---- steps of one text

abbrev pub AreSame : List Step → List Step → Type 0
AreSame [] [] = Unit {0}
AreSame (x ∷ xs) (y ∷ ys) = IsSame x y × AreSame xs ys
AreSame _ _ = ⊥

not_more : (b : Bool) (step : Step) (steps : List Step) → IsPlain step → AllByRecursion IsPlain steps → [] ≡ steps_text b (step ∷ steps) → ⊥
not_more b step steps p a e =
    let n = shorter b (steps_text b (step ∷ steps)) step (steps_text false steps) (begins b step steps p a) in
    let l : length (steps_text b (step ∷ steps)) ≡ 0 = ap length (sym e) in
    omega (arith, n, l)

same_steps : (b : Bool) (xs ys : List Step) → AllByRecursion IsPlain xs → AllByRecursion IsPlain ys → steps_text b xs ≡ steps_text b ys → AreSame xs ys
same_steps b [] [] p q e = tt
same_steps b [] (y ∷ ys) p q e = not_more b y ys q.0 q.1 e
same_steps b (x ∷ xs) [] p q e = not_more b x xs p.0 p.1 (sym e)
same_steps b (x ∷ xs) (y ∷ ys) p q e =
    let r = one_step b (steps_text b (y ∷ ys)) x y (steps_text false xs) (steps_text false ys) (subst (λ z. IsFirstStep b z x (steps_text false xs)) e (begins b x xs p.0 p.1)) (begins b y ys q.0 q.1) in
    (r.0, same_steps false xs ys p.1 q.1 r.1)

pub one_path : (text : List ℕ) (xs ys : List Step) → AreStepsOf text xs → AreStepsOf text ys → AreSame xs ys
one_path text xs ys a b = same_steps true xs ys a.plain b.plain (a.text_is ∙ sym b.text_is)

same_step : (ty : «Type») (x y : Step) (k : ℕ) (id : TypeId) → IsSame x y → IsStepOf ty y k id → IsStepOf ty x k id
same_step ty (Name x) (Name y) k id e h = subst (λ z. IsNamedStep ty z k id) (sym e) h
same_step ty (Index i) (Index j) k id e h = subst (λ z. IsIndexedStep ty z k id) (sym e) h
same_step ty (Name x) (Index j) k id e h = absurd e
same_step ty (Index i) (Name y) k id e h = absurd e

same_back : (x y : Step) → IsSame x y → IsSame y x
same_back (Name x) (Name y) e = sym e
same_back (Index i) (Index j) e = sym e
same_back (Name x) (Index j) e = e
same_back (Index i) (Name y) e = e

-- Steps with the text of steps that lead to no part lead to none.
pub no_way : (types : List «Type») (n id : ℕ) (xs ys : List Step) → AreSame xs ys → IsNoWay types n id xs → IsNoWay types n id ys
unfolding IsNoWay
no_way types zero id [] [] s h = h
no_way types zero id [] (y ∷ ys) s h = absurd s
no_way types zero id (x ∷ xs) [] s h = absurd s
no_way types zero id (x ∷ xs) (y ∷ ys) s h = λ e. cc
no_way types (suc n) id [] ys s h = let e = h.2 in cc
no_way types (suc n) id (x ∷ xs) [] s h = absurd s
no_way types (suc n) id (x ∷ xs) (y ∷ ys) s h =
    let first : h.0 ≡ x = let e = h.2 in cc in
    let others : h.1 ≡ xs = let e = h.2 in cc in (
      y,
      ys,
      refl,
      elim h.3 [
        | inl none ↦ inl none
        | inr (inl (tag, inner, e, gone)) ↦ inr (inl (tag, inner, e, no_way types n inner.0 (x ∷ xs) (y ∷ ys) s gone))
        | inr (inr (ty, e, t, inl never)) ↦ inr (inr (ty, e, t, inl (λ k next is. never k next (subst (λ z. IsStepOf ty z k next) (sym first) (same_step ty x y k next s.0 is)))))
        | inr (inr (ty, e, t, inr (k, next, is, gone))) ↦ inr (inr (ty, e, t, inr (k, next, same_step ty y x k next (same_back x y s.0) (subst (λ z. IsStepOf ty z k next) first is), no_way types n next.0 xs ys s.1 (subst (IsNoWay types n next.0) others gone))))
      ],
    )

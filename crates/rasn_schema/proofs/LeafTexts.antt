-- The texts of times of digits and of RELATIVE-OIDs.
use Rattle.std.proofs.Common.{◌≡◌, ◌≢◌, ◌⊎◌, inl, inr, ℕ, zero, suc, ◌+◌, ◌-◌, ◌*◌, ◌/◌, ◌<◌, ◌≤◌, min, Bool, true, false, cond, eqb, Decides, Option, Some, None, List, [], ◌∷◌, ◌++◌, length, take, drop, get_or, flat_map, decimal, refl, sym, ap, ap₂, ◌∙◌, subst, arith, rules, tests, append-nil, length-drop}
use Rattle.std.specs.Prelude.{All}
use Rattle.std.specs.Char.{encode_utf8, is_ascii_digit}
use Rattle.std.specs.List.{filter}
use Rattle.std.specs.Str.{encode_utf8_all, bytes_eq}
use Rattle.std.proofs.lemmas.Bool.Decides.{Decides-eqb}
use Rattle.std.proofs.lemmas.Fmt.{digits_decimal, decimal_injective, decimal_digit}
use Rattle.std.proofs.lemmas.List.{take_more, take_all, flat_map_more}
use Rattle.std.proofs.lemmas.List.Elements.{All-head, All-tail, All-append, All-push, All-take, All-drop, All-cons, All-weaker, filter-append, filter_passes}
use Rattle.std.proofs.lemmas.Slice.Eq.{bytes_eq-Decides}
use Rattle.std.proofs.lemmas.Str.{encodes-append, encodes-IsAscii}
use Rattle.std.proofs.lemmas.Str.Parse.{not_in_digits}
use Rattle.rasn_types.specs.Contents.{IsDigit}
use Rattle.rasn_types.specs.Numbered.{AreArcs}
use Rattle.rasn_types.specs.Options.{IsSomeExactlyIf, IsSomeRelated}
use Rattle.rasn_types.specs.Text.{point_and_arc, dotted, IsSmall, IsDotted}
use Rattle.rasn_types.proofs.Dotted.{own, wide}
use Rattle.rasn_schema.specs.TimeTexts.{shown_digits, AreDigitsOf}
use Rattle.rasn_schema.specs.Relative.{first_arc, relative_text, held_arcs, IsRelativeText}

-- ---- times of digits

-- One more octet is written.
pub octets_more : (l : List ℕ) (i : ℕ) → i < length l → encode_utf8_all (take (i + 1) l) ≡ encode_utf8_all (take i l) ++ encode_utf8 (get_or l i 0)
octets_more l i h = ap encode_utf8_all (take_more l i 0 h) ∙ (encodes-append (take i l) (get_or l i 0 ∷ []) ∙ ap (λ m. encode_utf8_all (take i l) ++ m) (append-nil (encode_utf8 (get_or l i 0))))

pub mark_after : (l : List ℕ) (c : ℕ) → encode_utf8_all (l ++ c ∷ []) ≡ encode_utf8_all l ++ encode_utf8 c
mark_after l c = encodes-append l (c ∷ []) ∙ ap (λ m. encode_utf8_all l ++ m) (append-nil (encode_utf8 c))

-- Six digits in three parts, and fourteen in four.
clock_parts : (l : List ℕ) → length l ≡ 6 → (take 2 l ++ 58 ∷ []) ++ ((take 2 (drop 2 l) ++ 58 ∷ []) ++ drop 4 l) ≡ shown_digits l
clock_parts (a ∷ b ∷ c ∷ d ∷ e ∷ f ∷ []) h = refl
clock_parts l h = absurd (omega arith)

moment_parts : (l : List ℕ) → length l ≡ 14 → (take 4 l ++ 45 ∷ []) ++ ((take 2 (drop 4 l) ++ 45 ∷ []) ++ ((take 2 (drop 6 l) ++ 84 ∷ []) ++ shown_digits (drop 8 l))) ≡ shown_digits l
moment_parts (a ∷ b ∷ c ∷ d ∷ e ∷ f ∷ g ∷ j ∷ h ∷ i ∷ m ∷ n ∷ s ∷ t ∷ []) k = refl
moment_parts l k = absurd (omega arith)

pub clock_text : (l : List ℕ) → length l ≡ 6
    → encode_utf8_all (take 2 l ++ 58 ∷ []) ++ (encode_utf8_all (take 2 (drop 2 l) ++ 58 ∷ []) ++ encode_utf8_all (drop 4 l)) ≡ encode_utf8_all (shown_digits l)
clock_text l h = simp (← encodes-append) (ap encode_utf8_all (clock_parts l h))

pub moment_text : (l : List ℕ) → length l ≡ 14
    → encode_utf8_all (take 4 l ++ 45 ∷ []) ++ (encode_utf8_all (take 2 (drop 4 l) ++ 45 ∷ []) ++ (encode_utf8_all (take 2 (drop 6 l) ++ 84 ∷ []) ++ encode_utf8_all (shown_digits (drop 8 l)))) ≡ encode_utf8_all (shown_digits l)
moment_text l h = simp (← encodes-append) (ap encode_utf8_all (moment_parts l h))

pub others_text : (l : List ℕ) → length l ≢ 6 → length l ≢ 14 → shown_digits l ≡ l
others_text (a ∷ b ∷ c ∷ d ∷ e ∷ f ∷ []) h k = absurd (h refl)
others_text (a ∷ b ∷ c ∷ d ∷ e ∷ f ∷ g ∷ j ∷ h ∷ i ∷ m ∷ n ∷ s ∷ t ∷ []) o k = absurd (k refl)
others_text l h k = refl

-- A text of six digits, of fourteen, and another one.
by_length : (Q : List ℕ → Type 0) → ((l : List ℕ) → length l ≡ 6 → Q l) → ((l : List ℕ) → length l ≡ 14 → Q l) → ((l : List ℕ) → length l ≢ 6 → length l ≢ 14 → Q l) → (l : List ℕ) → Q l
by_length Q six more others l = go (whether (length l) 6) (whether (length l) 14)
  where
    told : (b : Bool) (P : Type 0) → Decides b P → P ⊎ (P → ⊥)
    told true P d = inl (d.0 refl)
    told false P d = inr (λ p. let e = d.1 p in cc)

    whether : (a b : ℕ) → (a ≡ b) ⊎ (a ≢ b)
    whether a b = told (eqb a b) (a ≡ b) (Decides-eqb a b)

    go : (length l ≡ 6) ⊎ (length l ≢ 6) → (length l ≡ 14) ⊎ (length l ≢ 14) → Q l
    go (inl h) k = six l h
    go (inr h) (inl k) = more l k
    go (inr h) (inr k) = others l h k

-- The last six of fourteen.
short : (l : List ℕ) → length l ≡ 14 → length (drop 8 l) ≡ 6
short l h = omega (arith, length-drop 8 l)

-- What is true of digits and of the marks between them.
shown_all : (P : ℕ → Type 0) → P 45 → P 58 → P 84 → (l : List ℕ) → All P l → All P (shown_digits l)
shown_all P hyphen colon t = by_length (λ l. All P l → All P (shown_digits l)) six more (λ l h k a. subst (All P) (sym (others_text l h k)) a)
  where
    six : (l : List ℕ) → length l ≡ 6 → All P l → All P (shown_digits l)
    six l h a = subst (All P) (clock_parts l h)
        (All-append P (take 2 l ++ 58 ∷ []) ((take 2 (drop 2 l) ++ 58 ∷ []) ++ drop 4 l) (All-push P (take 2 l) 58 (All-take P 2 l a) colon)
        (All-append P (take 2 (drop 2 l) ++ 58 ∷ []) (drop 4 l) (All-push P (take 2 (drop 2 l)) 58 (All-take P 2 (drop 2 l) (All-drop P 2 l a)) colon) (All-drop P 4 l a)))

    more : (l : List ℕ) → length l ≡ 14 → All P l → All P (shown_digits l)
    more l h a = subst (All P) (moment_parts l h)
        (All-append P (take 4 l ++ 45 ∷ []) ((take 2 (drop 4 l) ++ 45 ∷ []) ++ ((take 2 (drop 6 l) ++ 84 ∷ []) ++ shown_digits (drop 8 l))) (All-push P (take 4 l) 45 (All-take P 4 l a) hyphen)
        (All-append P (take 2 (drop 4 l) ++ 45 ∷ []) ((take 2 (drop 6 l) ++ 84 ∷ []) ++ shown_digits (drop 8 l)) (All-push P (take 2 (drop 4 l)) 45 (All-take P 2 (drop 4 l) (All-drop P 4 l a)) hyphen)
        (All-append P (take 2 (drop 6 l) ++ 84 ∷ []) (shown_digits (drop 8 l)) (All-push P (take 2 (drop 6 l)) 84 (All-take P 2 (drop 6 l) (All-drop P 6 l a)) t) (six (drop 8 l) (short l h) (All-drop P 8 l a)))))

-- The text of digits is of ASCII characters, each of which is one octet.
pub shown_octets : (l : List ℕ) → All IsDigit l → encode_utf8_all (shown_digits l) ≡ shown_digits l
shown_octets l a = encodes-IsAscii (shown_digits l) (λ i. low (shown_digits l) (shown_all (λ c. c < 128) (omega arith) (omega arith) (omega arith) l (All-weaker IsDigit (λ c. c < 128) (λ c d. omega arith) l a)) i)
  where
    low : (l : List ℕ) → All (λ c. c < 128) l → (i : ℕ) → get_or l i 0 < 128
    low [] a i = omega arith
    low (c ∷ l) a zero = All-head (λ c. c < 128) c l a
    low (c ∷ l) a (suc i) = low l (All-tail (λ c. c < 128) c l a) i

-- The digits of the text of digits.
digits_kept : (l : List ℕ) → All IsDigit l → filter is_ascii_digit l ≡ l
digits_kept [] a = refl
digits_kept (c ∷ l) a = one (is_ascii_digit c) (passes c (All-head IsDigit c l a)) ∙ ap (λ m. c ∷ m) (digits_kept l (All-tail IsDigit c l a))
  where
    passes : (c : ℕ) → IsDigit c → is_ascii_digit c ≡ true
    passes c d = search (rules, tests)

    one : (b : Bool) → b ≡ true → cond b (c ∷ filter is_ascii_digit l) (filter is_ascii_digit l) ≡ c ∷ filter is_ascii_digit l
    one true e = refl
    one false e = cc

pub shown_kept : (l : List ℕ) → All IsDigit l → filter is_ascii_digit (shown_digits l) ≡ l
shown_kept = by_length (λ l. All IsDigit l → filter is_ascii_digit (shown_digits l) ≡ l) six more (λ l h k a. ap (filter is_ascii_digit) (others_text l h k) ∙ digits_kept l a)
  where
    before : (l : List ℕ) (c : ℕ) (m : List ℕ) → All IsDigit l → is_ascii_digit c ≡ false → filter is_ascii_digit ((l ++ c ∷ []) ++ m) ≡ l ++ filter is_ascii_digit m
    before l c m a e = filter-append is_ascii_digit (l ++ c ∷ []) m ∙ ap (λ x. x ++ filter is_ascii_digit m) (filter-append is_ascii_digit l (c ∷ []) ∙ (ap₂ (λ x y. x ++ cond y (c ∷ []) []) (digits_kept l a) e ∙ append-nil l))

    joined : (l : List ℕ) → length l ≡ 6 → take 2 l ++ (take 2 (drop 2 l) ++ drop 4 l) ≡ l
    joined (a ∷ b ∷ c ∷ d ∷ e ∷ f ∷ []) h = refl
    joined l h = absurd (omega arith)

    joined_more : (l : List ℕ) → length l ≡ 14 → take 4 l ++ (take 2 (drop 4 l) ++ (take 2 (drop 6 l) ++ drop 8 l)) ≡ l
    joined_more (a ∷ b ∷ c ∷ d ∷ e ∷ f ∷ g ∷ j ∷ h ∷ i ∷ m ∷ n ∷ s ∷ t ∷ []) k = refl
    joined_more l h = absurd (omega arith)

    six : (l : List ℕ) → length l ≡ 6 → All IsDigit l → filter is_ascii_digit (shown_digits l) ≡ l
    six l h a = ap (filter is_ascii_digit) (sym (clock_parts l h)) ∙ (before (take 2 l) 58 ((take 2 (drop 2 l) ++ 58 ∷ []) ++ drop 4 l) (All-take IsDigit 2 l a) refl
        ∙ (ap (λ x. take 2 l ++ x) (before (take 2 (drop 2 l)) 58 (drop 4 l) (All-take IsDigit 2 (drop 2 l) (All-drop IsDigit 2 l a)) refl
        ∙ ap (λ x. take 2 (drop 2 l) ++ x) (digits_kept (drop 4 l) (All-drop IsDigit 4 l a))) ∙ joined l h))

    more : (l : List ℕ) → length l ≡ 14 → All IsDigit l → filter is_ascii_digit (shown_digits l) ≡ l
    more l h a = ap (filter is_ascii_digit) (sym (moment_parts l h)) ∙ (before (take 4 l) 45 ((take 2 (drop 4 l) ++ 45 ∷ []) ++ ((take 2 (drop 6 l) ++ 84 ∷ []) ++ shown_digits (drop 8 l))) (All-take IsDigit 4 l a) refl
        ∙ (ap (λ x. take 4 l ++ x) (before (take 2 (drop 4 l)) 45 ((take 2 (drop 6 l) ++ 84 ∷ []) ++ shown_digits (drop 8 l)) (All-take IsDigit 2 (drop 4 l) (All-drop IsDigit 4 l a)) refl
        ∙ ap (λ x. take 2 (drop 4 l) ++ x) (before (take 2 (drop 6 l)) 84 (shown_digits (drop 8 l)) (All-take IsDigit 2 (drop 6 l) (All-drop IsDigit 6 l a)) refl
        ∙ ap (λ x. take 2 (drop 6 l) ++ x) (six (drop 8 l) (short l h) (All-drop IsDigit 8 l a)))) ∙ joined_more l h))

-- The digits of a text are digits.
are_digits : (l : List ℕ) → All IsDigit (filter is_ascii_digit l)
are_digits l = All-weaker (λ c. is_ascii_digit c ≡ true) IsDigit digit (filter is_ascii_digit l) (filter_passes is_ascii_digit l)
  where
    digit : (c : ℕ) → is_ascii_digit c ≡ true → IsDigit c
    digit c e = search (rules, tests)

-- The digits were taken from the text, all of which was read.
pub digits_found : (text digits : List ℕ) (i n : ℕ) → digits ≡ filter is_ascii_digit (take i text) → length text ≤ i → length digits ≡ n → encode_utf8_all (shown_digits digits) ≡ text → AreDigitsOf n text digits
digits_found text digits i n d h e s =
    let a : All IsDigit digits = subst (All IsDigit) (sym d) (are_digits (take i text)) in
    ((e, a), sym s ∙ shown_octets digits a)

pub digits_lost : (text digits : List ℕ) (i n : ℕ) → digits ≡ filter is_ascii_digit (take i text) → length text ≤ i → (length digits ≡ n → encode_utf8_all (shown_digits digits) ≡ text → ⊥) → (k : List ℕ) → AreDigitsOf n text k → ⊥
digits_lost text digits i n d h never k a =
    let same : digits ≡ k = d ∙ (ap (filter is_ascii_digit) (take_all i text h ∙ a.1) ∙ shown_kept k a.0.1) in
    never (ap length same ∙ a.0.0) (ap (λ l. encode_utf8_all (shown_digits l)) same ∙ (shown_octets k a.0.1 ∙ sym a.1))

-- Two texts are compared.
pub read_same : (r : Bool) (s t : List ℕ) → r ≡ bytes_eq s t → r ≡ true → s ≡ t
read_same r s t e h = (bytes_eq-Decides s t).0 (sym e ∙ h)

pub read_other : (r : Bool) (s t : List ℕ) → r ≡ bytes_eq s t → r ≡ false → s ≡ t → ⊥
read_other r s t e h k = let y = (bytes_eq-Decides s t).1 k in cc

-- ---- RELATIVE-OID

-- The first arc, and the others after a point.
relative_parts : (l : List ℕ) → relative_text l ≡ decimal (first_arc l) ++ flat_map point_and_arc (drop 2 l)
relative_parts [] = sym (append-nil (decimal 0))
relative_parts (x ∷ []) = sym (append-nil (decimal 0))
relative_parts (x ∷ y ∷ l) = refl

-- One more arc is written.
pub arcs_more : (text : List ℕ) (l : List ℕ) (i : ℕ) → i < length l → text ++ flat_map point_and_arc (take (i + 1) l) ≡ (text ++ flat_map point_and_arc (take i l)) ++ point_and_arc (get_or l i 0)
arcs_more text l i h = ap (λ m. text ++ flat_map point_and_arc m) (take_more l i 0 h) ∙ sym (flat_map_more point_and_arc text (take i l) (get_or l i 0))

pub relative_done : (held l : List ℕ) (first i : ℕ) → first ≡ first_arc held → l ≡ drop 2 held → length l ≤ i → decimal first ++ flat_map point_and_arc (take i l) ≡ relative_text held
relative_done held l first i e d h = ap₂ (λ x m. decimal x ++ flat_map point_and_arc m) e (take_all i l h ∙ d) ∙ sym (relative_parts held)

-- No digit is a point.
abbrev Lacks : List ℕ → Type 0
Lacks l = (i : ℕ) → i < length l → get_or l i 0 ≢ 46

no_point : (n : ℕ) → IsSmall n → Lacks (decimal n)
no_point n h = not_in_digits own (decimal n) 46 (digits_decimal own n (wide n h)) (λ k. omega arith)

-- Texts that are equal are equal before their first points and after them.
cut : (p q s t : List ℕ) → Lacks p → Lacks q → p ++ 46 ∷ s ≡ q ++ 46 ∷ t → (p ≡ q) × (s ≡ t)
cut [] [] s t h k e = (refl, cc)
cut [] (y ∷ q) s t h k e = absurd (k 0 (omega arith) cc)
cut (x ∷ p) [] s t h k e = absurd (h 0 (omega arith) cc)
cut (x ∷ p) (y ∷ q) s t h k e =
    let r : p ++ 46 ∷ s ≡ q ++ 46 ∷ t = cc in
    let m : x ≡ y = cc in
    let n = cut p q s t (λ i l. h (suc i) (omega arith)) (λ i l. k (suc i) (omega arith)) r in
    (ap₂ (λ a b. a ∷ b) m n.0, n.1)

-- The arc that one digit shows.
of_digit : (x d : ℕ) → d < 10 → IsSmall x → (48 + d) ∷ [] ≡ decimal x → x ≡ d
of_digit x d h s e = decimal_injective x d (wide x s) (omega arith) (sym e ∙ sym (decimal_digit d h))

one_digit : (c : ℕ) → c ≢ 46 → Lacks (c ∷ [])
one_digit c h zero l = h
one_digit c h (suc i) l = absurd (omega arith)

-- What is before the text is two arcs.
record Front (text arcs : List ℕ) : Type 0 where
  first : ℕ
  others : List ℕ
  is : arcs ≡ 2 ∷ 0 ∷ first ∷ others
  smalls : All IsSmall (first ∷ others)
  shown : text ≡ dotted (first ∷ others)

front : (text arcs : List ℕ) → IsDotted (50 ∷ 46 ∷ 48 ∷ 46 ∷ text) arcs → Front text arcs
front text [] h = absurd h.0
front text (x ∷ []) h = absurd h.0
front text (x ∷ y ∷ []) h =
    let sx = All-head IsSmall x (y ∷ []) h.1 in
    let sy = All-head IsSmall y [] (All-tail IsSmall x (y ∷ []) h.1) in
    let a = cut (50 ∷ []) (decimal x) (48 ∷ 46 ∷ text) (decimal y ++ []) (one_digit 50 (omega arith)) (no_point x sx) h.2 in
    let e : 48 ∷ 46 ∷ text ≡ decimal y = a.1 ∙ append-nil (decimal y) in
    absurd (subst Lacks (sym e) (no_point y sy) 1 (omega arith) refl)
front text (x ∷ y ∷ z ∷ l) h =
    let sx = All-head IsSmall x (y ∷ z ∷ l) h.1 in
    let t = All-tail IsSmall x (y ∷ z ∷ l) h.1 in
    let sy = All-head IsSmall y (z ∷ l) t in
    let a = cut (50 ∷ []) (decimal x) (48 ∷ 46 ∷ text) (decimal y ++ 46 ∷ dotted (z ∷ l)) (one_digit 50 (omega arith)) (no_point x sx) h.2 in
    let b = cut (48 ∷ []) (decimal y) text (dotted (z ∷ l)) (one_digit 48 (omega arith)) (no_point y sy) a.1 in
    let m : x ≡ 2 = of_digit x 2 (omega arith) sx a.0 in
    let n : y ≡ 0 = of_digit y 0 (omega arith) sy b.0 in
    record { first = z; others = l; is = ap₂ (λ u v. u ∷ v ∷ z ∷ l) m n; smalls = All-tail IsSmall y (z ∷ l) t; shown = b.1 }

-- The arcs after the two.
back : (text arcs : List ℕ) → arcs ≢ [] → All IsSmall arcs → text ≡ dotted arcs → IsDotted (50 ∷ 46 ∷ 48 ∷ 46 ∷ text) (2 ∷ 0 ∷ arcs)
back text [] h s e = absurd (h refl)
back text (x ∷ l) h s e = (
  omega arith,
  All-cons IsSmall 2 (0 ∷ x ∷ l) (omega arith) (All-cons IsSmall 0 (x ∷ l) (omega arith) s),
  ap₂ (λ a b. a ++ 46 ∷ (b ++ 46 ∷ text)) (sym (decimal_digit 2 (omega arith))) (sym (decimal_digit 0 (omega arith))) ∙ ap (λ m. decimal 2 ++ 46 ∷ (decimal 0 ++ 46 ∷ m)) e,
)

pub relative_none : (text all : List ℕ) (v : Option (List ℕ)) → all ≡ 50 ∷ 46 ∷ 48 ∷ 46 ∷ text → IsSomeRelated v (IsDotted all) → v ≡ None → (x : List ℕ) → IsRelativeText text x → ⊥
relative_none text all (Some y) e h n x r = cc
relative_none text all None e h n x r = h (2 ∷ 0 ∷ r.0) (subst (λ l. IsDotted l (2 ∷ 0 ∷ r.0)) (sym e) (back text r.0 r.1 r.2 r.3))

-- The arcs that are read.
pub relative_dotted : (text all : List ℕ) (v : Option (List ℕ)) (arcs : List ℕ) → all ≡ 50 ∷ 46 ∷ 48 ∷ 46 ∷ text → IsSomeRelated v (IsDotted all) → v ≡ Some arcs → IsDotted (50 ∷ 46 ∷ 48 ∷ 46 ∷ text) arcs
relative_dotted text all None arcs e h s = cc
relative_dotted text all (Some x) arcs e h s = let same : x ≡ arcs = cc in subst (λ l. IsDotted l arcs) e (subst (λ y. IsDotted all y) same h)

pub relative_long : (text arcs : List ℕ) → IsDotted (50 ∷ 46 ∷ 48 ∷ 46 ∷ text) arcs → 3 ≤ length arcs
relative_long text arcs h = let f = front text arcs h in omega (arith, ap length f.is)

pub relative_held : (text arcs items : List ℕ) (v : Option (List ℕ)) (top : ℕ) → IsDotted (50 ∷ 46 ∷ 48 ∷ 46 ∷ text) arcs
    → top ≡ min (get_or arcs 2 0 / 40) 2 → items ≡ top ∷ (get_or arcs 2 0 - 40 * top) ∷ drop 3 arcs → IsSomeExactlyIf v (AreArcs items) items → IsSomeRelated v (IsRelativeText text)
relative_held text arcs items v top h t i k = told v k
  where
    f : Front text arcs
    f = front text arcs h

    tops : top ≡ min 2 (f.first / 40)
    tops = t ∙ (ap (λ l. min (get_or l 2 0 / 40) 2) f.is ∙ turn (f.first / 40))
      where
        turn : (n : ℕ) → min n 2 ≡ min 2 n
        turn n = omega arith

    is : items ≡ held_arcs (f.first ∷ f.others)
    is = i ∙ ap₂ (λ a l. a ∷ (get_or l 2 0 - 40 * a) ∷ drop 3 l) tops f.is

    some : f.first ∷ f.others ≢ []
    some e = cc

    low : (n : ℕ) → min 2 n ≤ 2
    low n = omega arith

    told : (v : Option (List ℕ)) → IsSomeExactlyIf v (AreArcs items) items → IsSomeRelated v (IsRelativeText text)
    told (Some x) k = (f.first ∷ f.others, some, f.smalls, f.shown, k.1 ∙ is)
    told None k = absurd (k (subst AreArcs (sym is) (low (f.first / 40))))

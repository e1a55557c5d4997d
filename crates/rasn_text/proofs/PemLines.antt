-- The lines of a text, one after the other.
use Rattle.std.proofs.Common.{◌≡◌, ◌≢◌, ◌++◌, ◌∷◌, [], ℕ, ◌+◌, ◌<◌, ◌≤◌, List, length, refl, sym, ◌∙◌, subst, arith, append_assoc}
use Rattle.std.specs.List.{All, flat_map}
use Rattle.std.proofs.lemmas.List.Elements.{All-head, All-tail}
use Rattle.rasn_text.specs.Pem.{AreBefore}

-- An octet that isn't a line feed.
abbrev IsOther : ℕ → Type 0
IsOther c = c ≢ 10

-- What follows the first line feed.
after_one : (f g x y : List ℕ) → All IsOther f → All IsOther g → f ++ 10 ∷ x ≡ g ++ 10 ∷ y → x ≡ y
after_one [] [] x y a b e = cc
after_one [] (d ∷ g) x y a b e = let same : d ≡ 10 = cc in absurd (All-head IsOther d g b same)
after_one (c ∷ f) [] x y a b e = let same : c ≡ 10 = cc in absurd (All-head IsOther c f a same)
after_one (c ∷ f) (d ∷ g) x y a b e = after_one f g x y (All-tail IsOther c f a) (All-tail IsOther d g b) cc

-- The first of the lines, and what follows it.
first_and_more : (l : List ℕ) (left : List (List ℕ)) (rest : List ℕ) → flat_map (λ l. l ++ 10 ∷ []) (l ∷ left) ++ rest ≡ l ++ 10 ∷ (flat_map (λ l. l ++ 10 ∷ []) left ++ rest)
first_and_more l left rest = append_assoc (l ++ 10 ∷ []) (flat_map (λ l. l ++ 10 ∷ []) left) rest ∙ append_assoc l (10 ∷ []) (flat_map (λ l. l ++ 10 ∷ []) left ++ rest)

pub one_skipped : (text first after : List ℕ) (left : List (List ℕ)) (rest : List ℕ) (line number : ℕ) → text ≡ first ++ 10 ∷ after → All (λ c. c ≢ 10) first → line < number
    → AreBefore text left rest → length left + line ≡ number → (more : List (List ℕ)) × AreBefore after more rest × (length more + (line + 1) ≡ number)
one_skipped text first after [] rest line number e none k b n = absurd (omega (arith, k, n))
one_skipped text first after (l ∷ left) rest line number e none k b n = (
  left,
  record {
    text_is = after_one first l after (flat_map (λ l. l ++ 10 ∷ []) left ++ rest) none (All-head (All IsOther) l left b.none_has) (sym e ∙ (b.text_is ∙ first_and_more l left rest));
    none_has = All-tail (All IsOther) l left b.none_has;
  },
  omega (arith, n),
)

feed_among : (l x : List ℕ) → All IsOther (l ++ 10 ∷ x) → ⊥
feed_among [] x a = All-head IsOther 10 x a refl
feed_among (c ∷ l) x a = feed_among l x (All-tail IsOther c (l ++ 10 ∷ x) a)

pub no_more : (text : List ℕ) (left : List (List ℕ)) (rest : List ℕ) (line number : ℕ) → All (λ c. c ≢ 10) text → line < number → AreBefore text left rest → length left + line ≡ number → ⊥
no_more text [] rest line number none k b n = omega (arith, k, n)
no_more text (l ∷ left) rest line number none k b n =
    feed_among l (flat_map (λ l. l ++ 10 ∷ []) left ++ rest) (let P : List ℕ → Type 0 = All IsOther in subst P (b.text_is ∙ first_and_more l left rest) none)

-- If no line is left, the wanted one is next.
pub is_next : (text : List ℕ) (left : List (List ℕ)) (rest : List ℕ) (line number : ℕ) → number ≤ line → AreBefore text left rest → length left + line ≡ number → rest ≡ text
is_next text [] rest line number k b n = sym b.text_is
is_next text (l ∷ left) rest line number k b n = absurd (omega (arith, k, n))

-- Your own ENUMERATED type (X.680 20): the laws that its trait requires, each from a test that computes.
use Rattle.std.proofs.Common.{◌≡◌, ◌≢◌, zero, suc, inl, inr, arith, ℤ, List, [], ◌∷◌, Bool, true, false, ◌&&◌, ◌||◌, cond, refl, sym, ap, ◌∙◌, subst, true≢false}
use Rattle.std.specs.Prelude.{Contains}
use Rattle.std.specs.List.{list_all, list_any}
use Rattle.std.specs.Ordering.{int_eq}
use Rattle.std.specs.Cmp.{first_so, second_so, signed_Decides}
use Rattle.std.specs.Cmp.Derive.{lacks, once}
use denote.Struct.Field.{Field}
use denote.Enum.Declared.{Record, Choice, declared}
use denote.Enum.Bare.{Bare, sameb}
use Rattle.rasn_types.specs.Shapes.{number}
use Rattle.rasn_types.specs.Equality.{EqDecidesSame, enumerated_decided}

-- Whether no variant has fields.
abbrev pub are_bare : List (List Field) → Bool
are_bare [] = true
are_bare ([] ∷ Fss) = are_bare Fss
are_bare ((F ∷ Fs) ∷ Fss) = false

-- The numbers of the variants without fields, in their order.
abbrev pub numbers_in : (Fss : List (List Field)) → (Choice Fss → ℤ) → List ℤ
numbers_in [] f = []
numbers_in ([] ∷ Fss) f = f (inl tt) ∷ numbers_in Fss (λ c. f (inr c))
numbers_in ((F ∷ Fs) ∷ Fss) f = numbers_in Fss (λ c. f (inr c))

abbrev pub is_among : List ℤ → ℤ → Bool
is_among known z = list_any (λ y. int_eq y z) known

-- ---- what the tests say of choices

bare : (Fss : List (List Field)) → are_bare Fss ≡ true → Bare Fss
bare [] e = tt
bare ([] ∷ Fss) e = bare Fss e
bare ((F ∷ Fs) ∷ Fss) e = absurd (true≢false (sym e))

among : (known : List ℤ) (z : ℤ) → is_among known z ≡ true → Contains known z
among [] z e = absurd (true≢false (sym e))
among (y ∷ known) z e = at (int_eq y z) refl e (λ h. among known z h)
  where
    at : (b : Bool) → int_eq y z ≡ b → (b || is_among known z) ≡ true → (is_among known z ≡ true → Contains known z) → Contains (y ∷ known) z
    at true s e more = (zero, omega arith, (signed_Decides y z).0 s)
    at false s e more = let r = more e in (suc r.0, omega (arith, r.1), r.2)

listed_in : (known : List ℤ) (Fss : List (List Field)) (f : Choice Fss → ℤ) → are_bare Fss ≡ true → list_all (is_among known) (numbers_in Fss f) ≡ true → (c : Choice Fss) → Contains known (f c)
listed_in known [] f b e c = absurd c
listed_in known ([] ∷ Fss) f b e (inl x) = among known (f (inl tt)) (first_so (is_among known (f (inl tt))) _ e)
listed_in known ([] ∷ Fss) f b e (inr c) = listed_in known Fss (λ c. f (inr c)) b (second_so (is_among known (f (inl tt))) _ e) c
listed_in known ((F ∷ Fs) ∷ Fss) f b e c = absurd (true≢false (sym b))

apart : (s t : Bool) → cond s false t ≡ true → (s ≡ false) × (t ≡ true)
apart true t e = absurd (true≢false (sym e))
apart false t e = (refl, e)

lacked_in : (z : ℤ) (Fss : List (List Field)) (f : Choice Fss → ℤ) → are_bare Fss ≡ true → lacks z (numbers_in Fss f) ≡ true → (c : Choice Fss) → f c ≢ z
lacked_in z [] f b e c = absurd c
lacked_in z ([] ∷ Fss) f b e (inl x) = λ s. true≢false (sym ((signed_Decides (f (inl tt)) z).1 s) ∙ (apart (int_eq (f (inl tt)) z) _ e).0)
lacked_in z ([] ∷ Fss) f b e (inr c) = lacked_in z Fss (λ c. f (inr c)) b (apart (int_eq (f (inl tt)) z) _ e).1 c
lacked_in z ((F ∷ Fs) ∷ Fss) f b e c = absurd (true≢false (sym b))

one_in : (Fss : List (List Field)) (f : Choice Fss → ℤ) → are_bare Fss ≡ true → once (numbers_in Fss f) ≡ true → (c d : Choice Fss) → f c ≡ f d → c ≡ d
one_in [] f b e c d s = absurd c
one_in ([] ∷ Fss) f b e (inl x) (inl y) s = refl
one_in ([] ∷ Fss) f b e (inl x) (inr d) s = absurd (lacked_in (f (inl tt)) Fss (λ c. f (inr c)) b (first_so (lacks (f (inl tt)) _) _ e) d (sym s))
one_in ([] ∷ Fss) f b e (inr c) (inl y) s = absurd (lacked_in (f (inl tt)) Fss (λ c. f (inr c)) b (first_so (lacks (f (inl tt)) _) _ e) c s)
one_in ([] ∷ Fss) f b e (inr c) (inr d) s = ap inr (one_in Fss (λ c. f (inr c)) b (second_so (lacks (f (inl tt)) _) _ e) c d s)
one_in ((F ∷ Fs) ∷ Fss) f b e c d s = absurd (true≢false (sym b))

-- ---- an enum whose variants are the names of an ENUMERATED

module _ (N : Record) (numbered : N.D → ℤ) where
  -- The numbers of the values, in the order of the variants.
  abbrev pub numbers_of : List ℤ
  numbers_of = numbers_in N.parts (λ c. numbered (N.make c))

  -- Whether the list has the number of each value.
  abbrev pub names_listed : List ℤ → Bool
  names_listed known = are_bare N.parts && list_all (is_among known) numbers_of

  -- Whether no two values have the same number.
  abbrev pub names_distinct : Bool
  names_distinct = are_bare N.parts && once numbers_of

  pub all_listed : (known : List ℤ) → names_listed known ≡ true → (v : N.D) → Contains known (numbered v)
  all_listed known e v =
      subst (λ w. Contains known (numbered w)) (N.eta v)
      (listed_in known N.parts (λ c. numbered (N.make c)) (first_so (are_bare N.parts) _ e) (second_so (are_bare N.parts) _ e) (N.as_values v))

  module _ (e : names_distinct ≡ true) where
    pub all_distinct : (v w : N.D) → numbered v ≡ numbered w → v ≡ w
    all_distinct v w s =
        sym (N.eta v)
        ∙ (ap N.make (one_in N.parts (λ c. numbered (N.make c)) (first_so (are_bare N.parts) _ e) (second_so (are_bare N.parts) _ e) (N.as_values v) (N.as_values w) (ap numbered (N.eta v) ∙ (s ∙ sym (ap numbered (N.eta w)))))
        ∙ N.eta w)

    -- The law of a derived `==`.
    pub all_decided : EqDecidesSame (sameb (declared N)) (λ v. number (numbered v))
    all_decided = enumerated_decided (declared N) (bare N.parts (first_so (are_bare N.parts) _ e)) numbered all_distinct

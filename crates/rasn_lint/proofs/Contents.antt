-- Contents octets of BIT STRINGs, OBJECT IDENTIFIERs and times.
use Rattle.std.proofs.Common.{◌≡◌, ◌≢◌, ℕ, suc, ◌-◌, ◌*◌, ◌%◌, ◌^◌, ◌<◌, ◌≤◌, inl, inr, nat_eq, nat_lt, get_or, List, [], ◌∷◌, ◌++◌, length, Bool, true, false, refl, sym, ap, ◌∙◌, subst, arith}
use Rattle.std.specs.Prelude.{◌==◌, not}
use Rattle.std.specs.List.{AllByRecursion}
use Rattle.std.proofs.lemmas.Bool.Decides.{nat_tests}
use Rattle.rasn_types.specs.Contents.{IsShortest128, joined_lists}
use Rattle.rasn_types.specs.Framing.{IsChain}
use Rattle.rasn_types.specs.Truth.{IsWhether}
use Rattle.rasn_de.proofs.Leaves.Integer.{empty_is, not_empty}
use Rattle.rasn_de.proofs.Strings.UnusedBits.{shifted}
use Rattle.rasn_lint.specs.Contents.{EndsInZeros, IsBitString, IsSubidentifier, AreSubidentifiers}

-- ---- BIT STRING
only : (b : ℕ) → get_or (b ∷ []) (length (b ∷ []) - 1) 0 ≡ b
only b = let e : length (b ∷ []) - 1 ≡ 0 = omega arith in ap (λ i. get_or (b ∷ []) i 0) e

last_of : (b c : ℕ) (l : List ℕ) → get_or (b ∷ c ∷ l) (length (b ∷ c ∷ l) - 1) 0 ≡ get_or (c ∷ l) (length (c ∷ l) - 1) 0
last_of b c l =
    let e : length (b ∷ c ∷ l) - 1 ≡ suc (length l) = omega arith in
    let f : length l ≡ length (c ∷ l) - 1 = omega arith in
    ap (λ i. get_or (b ∷ c ∷ l) i 0) e ∙ ap (λ i. get_or (c ∷ l) i 0) f

ends : (u b : ℕ) (l : List ℕ) → get_or (b ∷ l) (length (b ∷ l) - 1) 0 % 2 ^ u ≡ 0 → EndsInZeros u (b ∷ l)
ends u b [] h = ap (λ n. n % 2 ^ u) (sym (only b)) ∙ h
ends u b (c ∷ l) h = ends u c l (ap (λ n. n % 2 ^ u) (sym (last_of b c l)) ∙ h)

ended : (u b : ℕ) (l : List ℕ) → EndsInZeros u (b ∷ l) → get_or (b ∷ l) (length (b ∷ l) - 1) 0 % 2 ^ u ≡ 0
ended u b [] h = ap (λ n. n % 2 ^ u) (only b) ∙ h
ended u b (c ∷ l) h = ap (λ n. n % 2 ^ u) (last_of b c l) ∙ ended u c l h

is_zero : (n : ℕ) (P : Type 0) → (n ≡ 0 → P) → (P → n ≡ 0) → IsWhether (nat_eq n 0) P
is_zero n P there back = go (nat_eq n 0) refl
  where
    go : (b : Bool) → nat_eq n 0 ≡ b → IsWhether b P
    go true e = let k : n ≡ 0 = grind (arith, nat_tests) in there k
    go false e = let k : n ≢ 0 = grind (arith, nat_tests) in λ p. k (back p)

-- The last octet is a multiple of a power of two.
pub unused_told : (l : List ℕ) → 2 ≤ length l → get_or l 0 0 < 8 → IsWhether (nat_eq (get_or l (length l - 1) 0 % (1 * 2 ^ get_or l 0 0 % 256)) 0) (IsBitString l)
unused_told [] n h = absurd (omega arith)
unused_told (u ∷ []) n h = absurd (omega arith)
unused_told (u ∷ b ∷ l) n h =
    let z = get_or (u ∷ b ∷ l) (length (u ∷ b ∷ l) - 1) 0 in
    let w : z % (1 * 2 ^ u % 256) ≡ z % 2 ^ u = ap (λ k. z % k) (shifted u h) in
    let s : z ≡ get_or (b ∷ l) (length (b ∷ l) - 1) 0 = last_of u b l in
    is_zero (z % (1 * 2 ^ u % 256)) (IsBitString (u ∷ b ∷ l))
    (λ e. (h, ends u b l (ap (λ k. k % 2 ^ u) (sym s) ∙ (sym w ∙ e))))
    (λ p. w ∙ (ap (λ k. k % 2 ^ u) s ∙ ended u b l p.1))

-- ---- subidentifiers, octet by octet
abbrev pub Spans : Bool → List ℕ → Type 0
Spans begins [] = begins ≡ true
Spans begins (b ∷ l) = (begins ≡ true → b ≢ 128) × Spans (nat_lt b 128) l

low : (b : ℕ) → b < 128 → nat_lt b 128 ≡ true
low b h = grind (arith, nat_tests)

high : (b : ℕ) → 128 ≤ b → nat_lt b 128 ≡ false
high b h = grind (arith, nat_tests)

chain_spans : (begins : Bool) (p r : List ℕ) → IsChain p → (begins ≡ true → IsShortest128 p) → Spans true r → Spans begins (p ++ r)
chain_spans begins [] r c s h = absurd c
chain_spans begins (b ∷ l) r (inl (n, e)) s h =
    let t : Spans true (l ++ r) = subst (λ x. Spans true (x ++ r)) (sym e) h in
    (s, subst (λ x. Spans x (l ++ r)) (sym (low b n)) t)
chain_spans begins (b ∷ l) r (inr (n, c)) s h =
    let t : Spans false (l ++ r) = chain_spans false l r c (λ e. absurd (false_true e)) h in
    (s, subst (λ x. Spans x (l ++ r)) (sym (high b n)) t)
  where
    false_true : false ≡ true → ⊥
    false_true e = cc

parts_span : (ps : List (List ℕ)) → AllByRecursion IsSubidentifier ps → Spans true (joined_lists ps)
parts_span [] h = refl
parts_span (p ∷ ps) (h, k) = chain_spans true p (joined_lists ps) h.0 (λ e. h.1) (parts_span ps k)

-- The octets are subidentifiers, or the end of one and those after it.
record Chains (l : List ℕ) : Type 0 where
  pub parts : List (List ℕ)
  pub is : l ≡ joined_lists parts
  pub are : AllByRecursion IsSubidentifier parts

record Rest (l : List ℕ) : Type 0 where
  pub end : List ℕ
  pub more : List ℕ
  pub is : l ≡ end ++ more
  pub chain : IsChain end
  pub others : Chains more

abbrev Read : Bool → List ℕ → Type 0
Read true l = Chains l
Read false l = Rest l

octet : (b : ℕ) (l : List ℕ) (t : Bool) → nat_lt b 128 ≡ t → Read t l → Rest (b ∷ l)
octet b l true e r = let n : b < 128 = grind (arith, nat_tests) in record { end = b ∷ []; more = l; is = refl; chain = inl (n, refl); others = r }
octet b l false e r =
    let n : 128 ≤ b = grind (arith, nat_tests) in
    record { end = b ∷ r.end; more = r.more; is = ap (λ x. b ∷ x) r.is; chain = inr (n, r.chain); others = r.others }

first : (b : ℕ) (l more end : List ℕ) → b ∷ l ≡ end ++ more → IsChain end → b ≢ 128 → IsShortest128 end
first b l more [] e c n = c
first b l more (x ∷ xs) e c n = let s : b ≡ x = cc in λ z. n (s ∙ z)

begun : (b : ℕ) (l : List ℕ) (t : Bool) → Rest (b ∷ l) → (t ≡ true → b ≢ 128) → Read t (b ∷ l)
begun b l true r n = record {
  parts = r.end ∷ r.others.parts;
  is = r.is ∙ ap (λ x. r.end ++ x) r.others.is;
  are = ((r.chain, first b l r.more r.end r.is r.chain (n refl)), r.others.are);
}
begun b l false r n = r

span : (l : List ℕ) (t : Bool) → Spans t l → Read t l
span [] true h = record { parts = []; is = refl; are = tt }
span [] false h = absurd (cc)
span (b ∷ l) t h = begun b l t (octet b l (nat_lt b 128) refl (span l (nat_lt b 128) h.1)) h.0

pub subidentifiers_span : (l : List ℕ) → AreSubidentifiers l → Spans true l × (l ≢ [])
subidentifiers_span l (parts, e, n, h) = (subst (Spans true) (sym e) (parts_span parts h), λ z. go parts n h (sym e ∙ z))
  where
    go : (ps : List (List ℕ)) → ps ≢ [] → AllByRecursion IsSubidentifier ps → joined_lists ps ≡ [] → ⊥
    go [] n h z = n refl
    go ([] ∷ ps) n (h, k) z = h.0
    go ((b ∷ p) ∷ ps) n (h, k) z = cc

pub span_subidentifiers : (l : List ℕ) → Spans true l → l ≢ [] → AreSubidentifiers l
span_subidentifiers l h n = let c = span l true h in (c.parts, c.is, λ e. n (c.is ∙ ap joined_lists e), c.are)

-- The octets of all subidentifiers, and those that are left.
pub record IsWithin (contents : List ℕ) (begins : Bool) (rest : List ℕ) : Type 0 where
  pub sound : Spans begins rest → Spans true contents
  pub complete : Spans true contents → Spans begins rest

pub within_start : (contents : List ℕ) → IsWithin contents true contents
within_start contents = record { sound = λ h. h; complete = λ h. h }

module _ (contents : List ℕ) (begins : Bool) (rest : List ℕ) (w : IsWithin contents begins rest) where
  pub refuses_octet : 1 ≤ length rest → begins ≡ true → get_or rest 0 0 ≡ 128 → AreSubidentifiers contents → ⊥
  refuses_octet n e z h = go rest n z (w.complete (subidentifiers_span contents h).0)
    where
      go : (l : List ℕ) → 1 ≤ length l → get_or l 0 0 ≡ 128 → Spans begins l → ⊥
      go [] n z s = absurd (omega arith)
      go (b ∷ l) n z s = s.0 e z

  nothing_left : (l : List ℕ) → length l < 1 → l ≡ []
  nothing_left [] n = refl
  nothing_left (b ∷ l) n = absurd (omega arith)

  pub refuses_end : length rest < 1 → begins ≡ false → IsWhether begins (AreSubidentifiers contents)
  refuses_end n e = subst (λ b. IsWhether b (AreSubidentifiers contents)) (sym e) (λ h. go (subst (Spans begins) (nothing_left rest n) (w.complete (subidentifiers_span contents h).0)))
    where
      go : begins ≡ true → ⊥
      go t = cc

  pub all_told : length rest < 1 → begins ≡ true → (r : Bool) → r ≡ (length contents == 0) → IsWhether (not r) (AreSubidentifiers contents)
  all_told n e true q = λ h. (subidentifiers_span contents h).1 (empty_is contents q)
  all_told n e false q = span_subidentifiers contents (w.sound (subst (Spans begins) (sym (nothing_left rest n)) e)) (not_empty contents q)

-- The shortest spellings are unique.
use Rattle.std.proofs.Common.{◌≡◌, ℕ, suc, ◌+◌, ◌*◌, ◌^◌, ◌%◌, ◌/◌, ◌<◌, ◌≤◌, ◌⊎◌, ◌≢◌, inl, inr, List, [], ◌∷◌, ◌++◌, length, Bool, refl, sym, ap, ap₂, ◌∙◌, subst, arith, mod-lt, mul-le-mul_right, one-mul}
use Rattle.std.proofs.Math.Nat.{pow-succ', mod-eq_of_lt, pow-le-pow_right, one-le-pow}
use Rattle.std.proofs.Math.Arith.{digits_lt}
use Rattle.std.proofs.lemmas.Nat.{div-mul-add}
use Rattle.std.proofs.lemmas.Bool.{cases_order}
use Rattle.rasn_types.specs.Tags.{Tag, rank}
use Rattle.rasn_types.specs.Framing.{IsChain, number_in, Spells128, bit_of, SpellsAnyIdentifier, SpellsLength, IsShortestIdentifier, IsShortestLength, AreOctets}
use Rattle.rasn_types.specs.Contents.{Arcs, IsShortest128, ShortArcs}
use Rattle.rasn_types.proofs.Headers.Frames.{chain_one}

pub number_lt : (base : ℕ) → 0 < base → (l : List ℕ) → number_in base l < base ^ length l
number_lt base h [] = one-le-pow 0 base h
number_lt base h (b ∷ l) =
    let i = number_lt base h l in
    let m : b % base < base = mod-lt b h in
    let d : b % base * base ^ length l + number_in base l < base * base ^ length l = digits_lt m i in
    subst (λ z. b % base * base ^ length l + number_in base l < z) (sym (pow-succ' base (length l))) d

-- The digits at the same position are equal.
abbrev pub SameDigits : ℕ → List ℕ → List ℕ → Type 0
SameDigits base [] l = Unit {0}
SameDigits base (a ∷ k) [] = Unit {0}
SameDigits base (a ∷ k) (b ∷ l) = (a % base ≡ b % base) × SameDigits base k l

pub heads : (p a b r s : ℕ) → r < p → s < p → a * p + r ≡ b * p + s → (a ≡ b) × (r ≡ s)
heads p a b r s h k e =
    let f : a ≡ b = sym (div-mul-add a p r h) ∙ (ap (λ z. z / p) e ∙ div-mul-add b p s k) in
    let g : a * p ≡ b * p = ap (λ z. z * p) f in
    (f, omega arith)

pub same_digits : (base : ℕ) → 0 < base → (k l : List ℕ) → length k ≡ length l → number_in base k ≡ number_in base l → SameDigits base k l
same_digits base h [] l n e = tt
same_digits base h (a ∷ k) [] n e = tt
same_digits base h (a ∷ k) (b ∷ l) n e =
    let m : length k ≡ length l = omega arith in
    let f : a % base * base ^ length l + number_in base k ≡ b % base * base ^ length l + number_in base l = subst (λ z. a % base * base ^ z + number_in base k ≡ b % base * base ^ length l + number_in base l) m e in
    let r = heads (base ^ length l) (a % base) (b % base) (number_in base k) (number_in base l)
    (subst (λ z. number_in base k < base ^ z) m (number_lt base h k)) (number_lt base h l) f in
    (r.0, same_digits base h k l m r.1)

pub lead : (base a : ℕ) (l : List ℕ) → 0 < a % base → base ^ length l ≤ number_in base (a ∷ l)
lead base a l h = let m : 1 * base ^ length l ≤ a % base * base ^ length l = mul-le-mul_right (base ^ length l) h in omega (arith, one-mul (base ^ length l))

-- The longer of two numbers is greater if its first digit isn't 0.
pub longer : (base : ℕ) → 0 < base → (k : List ℕ) (b : ℕ) (l : List ℕ) → 0 < b % base → length k ≤ length l → number_in base k < number_in base (b ∷ l)
longer base h k b l lead_b n =
    let p : base ^ length k ≤ base ^ length l = pow-le-pow_right h n in
    omega (arith, number_lt base h k, lead base b l lead_b)

high_digit : (b : ℕ) → 128 ≤ b → b ≢ 128 → b < 256 → 0 < b % 128
high_digit b h n k = omega arith

same_mod : (a b : ℕ) → 128 ≤ a → a < 256 → 128 ≤ b → b < 256 → a % 128 ≡ b % 128 → a ≡ b
same_mod a b h k i j e = omega arith

low_mod : (a b : ℕ) → a < 128 → b < 128 → a % 128 ≡ b % 128 → a ≡ b
low_mod a b h k e = omega arith

chain_digits : (k l : List ℕ) → IsChain k → IsChain l → AreOctets k → AreOctets l → length k ≡ length l → SameDigits 128 k l → k ≡ l
chain_digits [] l p q o u n s = absurd p
chain_digits (a ∷ k) [] p q o u n s = absurd q
chain_digits (a ∷ k) (b ∷ l) (inl p) (inl q) o u n s = ap₂ ◌∷◌ (low_mod a b p.0 q.0 s.0) (p.1 ∙ sym q.1)
chain_digits (a ∷ k) (b ∷ l) (inl p) (inr q) o u n s = absurd (empty k l p.1 q.1 (omega arith))
  where
    empty : (k l : List ℕ) → k ≡ [] → IsChain l → length k ≡ length l → ⊥
    empty [] [] e c n = c
    empty [] (y ∷ l) e c n = omega arith
    empty (x ∷ k) l e c n = cc
chain_digits (a ∷ k) (b ∷ l) (inr p) (inl q) o u n s = absurd (empty l k q.1 p.1 (omega arith))
  where
    empty : (k l : List ℕ) → k ≡ [] → IsChain l → length k ≡ length l → ⊥
    empty [] [] e c n = c
    empty [] (y ∷ l) e c n = omega arith
    empty (x ∷ k) l e c n = cc
chain_digits (a ∷ k) (b ∷ l) (inr p) (inr q) o u n s =
    ap₂ ◌∷◌ (same_mod a b p.0 o.0 q.0 u.0 s.0) (chain_digits k l p.1 q.1 o.1 u.1 (omega arith) s.1)

-- A chain of two octets or more begins with a digit that isn't 0.
chain_lead : (b c : ℕ) (l : List ℕ) → IsChain (b ∷ c ∷ l) → b ≢ 128 → b < 256 → 0 < b % 128
chain_lead b c l (inl h) n k = let e = h.1 in cc
chain_lead b c l (inr h) n k = high_digit b h.0 n k

pub spelling128_one : (k l : List ℕ) (m n : ℕ) → Spells128 k m → Spells128 l n → IsShortest128 k → IsShortest128 l → AreOctets k → AreOctets l → m ≡ n → k ≡ l
spelling128_one [] l m n h i p q o u e = absurd p
spelling128_one (a ∷ k) [] m n h i p q o u e = absurd q
spelling128_one (a ∷ []) (b ∷ []) m n h i p q o u e =
    chain_digits (a ∷ []) (b ∷ []) h.chain i.chain o u refl (same_digits 128 (omega arith) (a ∷ []) (b ∷ []) refl (sym h.is ∙ (e ∙ i.is)))
spelling128_one (a ∷ []) (b ∷ c ∷ l) m n h i p q o u e =
    let f = longer 128 (omega arith) (a ∷ []) b (c ∷ l) (chain_lead b c l i.chain q u.0) (omega arith) in
    let g : number_in 128 (a ∷ []) ≡ number_in 128 (b ∷ c ∷ l) = sym h.is ∙ (e ∙ i.is) in
    absurd (differ _ _ f g)
  where
    differ : (x y : ℕ) → x < y → x ≡ y → ⊥
    differ x y h e = omega arith
spelling128_one (a ∷ d ∷ k) (b ∷ []) m n h i p q o u e =
    let f = longer 128 (omega arith) (b ∷ []) a (d ∷ k) (chain_lead a d k h.chain p o.0) (omega arith) in
    let g : number_in 128 (a ∷ d ∷ k) ≡ number_in 128 (b ∷ []) = sym h.is ∙ (e ∙ i.is) in
    absurd (differ _ _ f (sym g))
  where
    differ : (x y : ℕ) → x < y → x ≡ y → ⊥
    differ x y h e = omega arith
spelling128_one (a ∷ d ∷ k) (b ∷ c ∷ l) m n h i p q o u e = go (cases_order (length k) (length l))
  where
    differ : (x y : ℕ) → x < y → x ≡ y → ⊥
    differ x y h e = omega arith

    g : number_in 128 (a ∷ d ∷ k) ≡ number_in 128 (b ∷ c ∷ l)
    g = sym h.is ∙ (e ∙ i.is)

    go : (length k ≡ length l) ⊎ ((length k < length l) ⊎ (length l < length k)) → a ∷ d ∷ k ≡ b ∷ c ∷ l
    go (inr (inl s)) = absurd (differ _ _ (longer 128 (omega arith) (a ∷ d ∷ k) b (c ∷ l) (chain_lead b c l i.chain q u.0) (omega arith)) g)
    go (inr (inr s)) = absurd (differ _ _ (longer 128 (omega arith) (b ∷ c ∷ l) a (d ∷ k) (chain_lead a d k h.chain p o.0) (omega arith)) (sym g))
    go (inl s) = chain_digits (a ∷ d ∷ k) (b ∷ c ∷ l) h.chain i.chain o u (omega arith)
        (same_digits 128 (omega arith) (a ∷ d ∷ k) (b ∷ c ∷ l) (omega arith) g)

pub id_shortest_one : (a c : List ℕ) (t : Tag) (bit : Bool) → SpellsAnyIdentifier a t bit → SpellsAnyIdentifier c t bit → IsShortestIdentifier a t → IsShortestIdentifier c t → AreOctets a → AreOctets c → a ≡ c
id_shortest_one [] c t bit h k p q o u = absurd h
id_shortest_one (x ∷ a) [] t bit h k p q o u = absurd k
id_shortest_one (x ∷ []) (y ∷ []) t bit h k p q o u = go h.number k.number
  where
    go : ((h.low < 31) × (◌≡◌ {A = List ℕ} [] []) × (t.value ≡ h.low)) ⊎ ((h.low ≡ 31) × Spells128 [] t.value)
        → ((k.low < 31) × (◌≡◌ {A = List ℕ} [] []) × (t.value ≡ k.low)) ⊎ ((k.low ≡ 31) × Spells128 [] t.value) → x ∷ [] ≡ y ∷ []
    go (inl (a, b, c)) (inl (d, e, f)) = ap (λ z. z ∷ []) (h.leading ∙ (ap (λ z. 64 * rank t.class + (32 * bit_of bit + z)) (sym c ∙ f) ∙ sym k.leading))
    go (inl a) (inr b) = absurd b.1.chain
    go (inr a) b = absurd a.1.chain
id_shortest_one (x ∷ []) (y ∷ z ∷ c) t bit h k p q o u = go h.number
  where
    go : ((h.low < 31) × (◌≡◌ {A = List ℕ} [] []) × (t.value ≡ h.low)) ⊎ ((h.low ≡ 31) × Spells128 [] t.value) → x ∷ [] ≡ y ∷ z ∷ c
    go (inl (a, b, c)) = absurd (omega (arith, q.0))
    go (inr a) = absurd a.1.chain
id_shortest_one (x ∷ w ∷ a) (y ∷ []) t bit h k p q o u = go k.number
  where
    go : ((k.low < 31) × (◌≡◌ {A = List ℕ} [] []) × (t.value ≡ k.low)) ⊎ ((k.low ≡ 31) × Spells128 [] t.value) → x ∷ w ∷ a ≡ y ∷ []
    go (inl (a, b, c)) = absurd (omega (arith, p.0))
    go (inr a) = absurd a.1.chain
id_shortest_one (x ∷ w ∷ a) (y ∷ z ∷ c) t bit h k p q o u = go h.number k.number
  where
    go : ((h.low < 31) × (w ∷ a ≡ []) × (t.value ≡ h.low)) ⊎ ((h.low ≡ 31) × Spells128 (w ∷ a) t.value)
        → ((k.low < 31) × (z ∷ c ≡ []) × (t.value ≡ k.low)) ⊎ ((k.low ≡ 31) × Spells128 (z ∷ c) t.value) → x ∷ w ∷ a ≡ y ∷ z ∷ c
    go (inl (a, b, c)) e = cc
    go (inr a) (inl (b, c, d)) = cc
    go (inr (a, b)) (inr (c, d)) = ap₂ ◌∷◌ (h.leading ∙ (ap (λ z. 64 * rank t.class + (32 * bit_of bit + z)) (a ∙ sym c) ∙ sym k.leading))
        (spelling128_one _ _ _ _ b d p.1 q.1 o.1 u.1 refl)

pub octet_digits : (k l : List ℕ) → AreOctets k → AreOctets l → length k ≡ length l → SameDigits 256 k l → k ≡ l
octet_digits [] [] o u n s = refl
octet_digits [] (b ∷ l) o u n s = absurd (omega arith)
octet_digits (a ∷ k) [] o u n s = absurd (omega arith)
octet_digits (a ∷ k) (b ∷ l) o u n s = ap₂ ◌∷◌ (sym (mod-eq_of_lt o.0) ∙ (s.0 ∙ mod-eq_of_lt u.0)) (octet_digits k l o.1 u.1 (omega arith) s.1)

pub octets_one : (k l : List ℕ) → AreOctets k → AreOctets l → length k ≡ length l → number_in 256 k ≡ number_in 256 l → k ≡ l
octets_one k l o u n e = octet_digits k l o u n (same_digits 256 (omega arith) k l n e)

octet_lead : (b : ℕ) → b ≢ 0 → b < 256 → 0 < b % 256
octet_lead b h k = omega arith

pub shortest_lengths : (b : ℕ) (k : List ℕ) (c : ℕ) (l : List ℕ) → b ≢ 0 → c ≢ 0 → b < 256 → c < 256 → number_in 256 (b ∷ k) ≡ number_in 256 (c ∷ l) → length k ≡ length l
shortest_lengths b k c l p q o u e = go (cases_order (length k) (length l))
  where
    differ : (x y : ℕ) → x < y → x ≡ y → ⊥
    differ x y h e = omega arith

    go : (length k ≡ length l) ⊎ ((length k < length l) ⊎ (length l < length k)) → length k ≡ length l
    go (inl s) = s
    go (inr (inl s)) = absurd (differ _ _ (longer 256 (omega arith) (b ∷ k) c l (octet_lead c q u) (omega arith)) e)
    go (inr (inr s)) = absurd (differ _ _ (longer 256 (omega arith) (c ∷ l) b k (octet_lead b p o) (omega arith)) (sym e))

pub length_shortest_one : (a c : List ℕ) (n : ℕ) → SpellsLength a n → SpellsLength c n → IsShortestLength a n → IsShortestLength c n → AreOctets a → AreOctets c → a ≡ c
length_shortest_one [] c n h k p q o u = absurd h
length_shortest_one (x ∷ a) [] n h k p q o u = absurd k
length_shortest_one (x ∷ a) (y ∷ c) n (inl (h, i, j)) (inl (k, l, m)) p q o u = cc
length_shortest_one (x ∷ []) (y ∷ c) n (inl h) (inr (k, l, m, e, f)) p q o u = go c k l p q
  where
    go : (c : List ℕ) → y ≡ 128 + length c → 0 < length c → IsShortestLength (x ∷ []) n → IsShortestLength (y ∷ c) n → x ∷ [] ≡ y ∷ c
    go [] k l p q = absurd (omega arith)
    go (z ∷ c) k l p q = absurd (omega (arith, q.0, h.0, h.2))
length_shortest_one (x ∷ w ∷ a) (y ∷ c) n (inl h) (inr k) p q o u = let e = h.1 in cc
length_shortest_one (x ∷ a) (y ∷ c) n (inr (k, l, m, e, f)) (inl h) p q o u = go a k l p
  where
    go : (a : List ℕ) → x ≡ 128 + length a → 0 < length a → IsShortestLength (x ∷ a) n → x ∷ a ≡ y ∷ c
    go [] k l p = absurd (omega arith)
    go (z ∷ a) k l p = absurd (omega (arith, p.0, h.0, h.2))
length_shortest_one (x ∷ []) (y ∷ c) n (inr (h, i, j, e, f)) (inr k) p q o u = absurd (omega arith)
length_shortest_one (x ∷ w ∷ a) (y ∷ []) n (inr h) (inr (k, l, m, e, f)) p q o u = absurd (omega arith)
length_shortest_one (x ∷ w ∷ a) (y ∷ z ∷ c) n (inr (h, i, j, e, f)) (inr (k, l, m, r, s)) p q o u =
    let g : number_in 256 (w ∷ a) ≡ number_in 256 (z ∷ c) = sym e ∙ r in
    let d : length a ≡ length c = shortest_lengths w a z c p.1 q.1 o.1.0 u.1.0 g in
    let t : w ∷ a ≡ z ∷ c = octets_one (w ∷ a) (z ∷ c) o.1 u.1 (omega arith) g in
    ap₂ ◌∷◌ (h ∙ (ap (λ z. 128 + z) (ap suc d) ∙ sym k)) t

no_short_arc : (l m : List ℕ) (n : ℕ) → Spells128 l n → [] ≡ l ++ m → ⊥
no_short_arc [] m n h e = h.chain
no_short_arc (x ∷ l) m n h e = cc

pub front_octets : (a b : List ℕ) → AreOctets (a ++ b) → AreOctets a × AreOctets b
front_octets [] b h = (tt, h)
front_octets (x ∷ a) b h = let r = front_octets a b h.1 in ((h.0, r.0), r.1)

pub short_arcs_one : (ns k l : List ℕ) → ShortArcs k ns → ShortArcs l ns → AreOctets k → AreOctets l → k ≡ l
short_arcs_one [] k l h i o u = h ∙ sym i
short_arcs_one (n ∷ ns) k l (f, b, s, p, e, h) (g, c, t, q, d, i) o u =
    let v = front_octets f b (subst AreOctets e o) in
    let w = front_octets g c (subst AreOctets d u) in
    e ∙ (ap₂ ◌++◌ (spelling128_one f g n n s t p q v.0 w.0 refl) (short_arcs_one ns b c h i v.1 w.1) ∙ sym d)

pub arcs_of : (l ns : List ℕ) → ShortArcs l ns → Arcs l ns
arcs_of l [] h = h
arcs_of l (n ∷ ns) (f, b, s, p, e, h) = (f, b, s, e, arcs_of b ns h)

-- Octets spell only one list of subidentifiers.
pub arcs_one : (ms ns l : List ℕ) → Arcs l ms → Arcs l ns → ms ≡ ns
arcs_one [] [] l h k = refl
arcs_one [] (n ∷ ns) l h k = absurd (no_short_arc k.0 k.1 n k.2 (sym h ∙ k.3))
arcs_one (m ∷ ms) [] l h k = absurd (no_short_arc h.0 h.1 m h.2 (sym k ∙ h.3))
arcs_one (m ∷ ms) (n ∷ ns) l h k =
    let e : h.0 ++ h.1 ≡ k.0 ++ k.1 = sym h.3 ∙ k.3 in
    let o = chain_one h.0 k.0 h.1 k.1 h.2.chain k.2.chain e in
    ap₂ ◌∷◌ (h.2.is ∙ (ap (number_in 128) o.0 ∙ sym k.2.is)) (arcs_one ms ns k.1 (subst (λ l. Arcs l ms) o.1 h.4) k.4)

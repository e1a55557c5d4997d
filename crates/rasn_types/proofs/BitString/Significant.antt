-- Bits without their trailing 0 bits.
use Rattle.std.proofs.Common.{◌≡◌, ℕ, zero, suc, ◌*◌, ◌<◌, ◌≤◌, Bool, true, false, List, [], ◌∷◌, ◌++◌, length, take, drop, get_or, refl, sym, ap, ◌∙◌, arith}
use Rattle.std.proofs.lemmas.List.{length-append, length-replicate, append-nil, take-append-le}
use Rattle.rasn_types.specs.BitString.{bits_from, zeros, Packs, bit_before, significant}
use Rattle.rasn_types.proofs.BitString.Bits.{length-bits_in}

before_once : (b : Bool) (l : List Bool) → significant l ≡ l → significant (bit_before b l) ≡ bit_before b l
before_once true l e = ap (λ k. true ∷ k) e
before_once false [] e = refl
before_once false (x ∷ l) e = ap (bit_before false) e

pub significant_once : (bs : List Bool) → significant (significant bs) ≡ significant bs
significant_once [] = refl
significant_once (b ∷ bs) = before_once b (significant bs) (significant_once bs)

-- A bit before others, of which there is one, is kept.
before_some : (b x : Bool) (l : List Bool) → bit_before b (x ∷ l) ≡ b ∷ x ∷ l
before_some true x l = refl
before_some false x l = refl

-- Bits that end in a 1 are significant.
pub significant_one : (l : List Bool) → significant (l ++ true ∷ []) ≡ l ++ true ∷ []
significant_one [] = refl
significant_one (b ∷ []) = before_some b true []
significant_one (b ∷ x ∷ l) = ap (bit_before b) (significant_one (x ∷ l)) ∙ before_some b x (l ++ true ∷ [])

-- A last 0 doesn't count.
pub significant_zero : (l : List Bool) → significant (l ++ false ∷ []) ≡ significant l
significant_zero [] = refl
significant_zero (b ∷ l) = ap (bit_before b) (significant_zero l)

-- What is left out are 0 bits at the end.
before_zeros : (b : Bool) (l bs : List Bool) (n : ℕ) → bs ≡ l ++ zeros n → (m : ℕ) × (b ∷ bs ≡ bit_before b l ++ zeros m)
before_zeros true l bs n e = (n, ap (λ k. true ∷ k) e)
before_zeros false [] bs n e = (suc n, ap (λ k. false ∷ k) e)
before_zeros false (x ∷ l) bs n e = (n, ap (λ k. false ∷ k) e)

pub then_zeros : (bs : List Bool) → (n : ℕ) × (bs ≡ significant bs ++ zeros n)
then_zeros [] = (zero, refl)
then_zeros (b ∷ bs) = let r = then_zeros bs in before_zeros b (significant bs) bs r.0 r.1

pub significant_le : (bs : List Bool) → length (significant bs) ≤ length bs
significant_le bs = let r = then_zeros bs in omega (arith, ap length r.1, length-append (significant bs) (zeros r.0))

-- As many bits are left as there were: none is left out.
pub all_significant : (bs : List Bool) → length (significant bs) ≡ length bs → significant bs ≡ bs
all_significant bs e = let r = then_zeros bs in go r.0 r.1
  where
    go : (n : ℕ) → bs ≡ significant bs ++ zeros n → significant bs ≡ bs
    go zero f = sym (f ∙ append-nil (significant bs))
    go (suc n) f = absurd (omega (arith, e, ap length f, length-append (significant bs) (zeros (suc n)), length-replicate (suc n) false))

front_of : (l k : List Bool) → take (length l) (l ++ k) ≡ l
front_of [] k = refl
front_of (x ∷ l) k = ap (λ z. x ∷ z) (front_of l k)

pub significant_front : (bs : List Bool) → take (length (significant bs)) bs ≡ significant bs
significant_front bs = let r = then_zeros bs in ap (take (length (significant bs))) r.1 ∙ front_of (significant bs) (zeros r.0)

-- The significant bits of packed octets are their first ones.
pub significant_packed : (bs : List Bool) (octets : List ℕ) (len : ℕ) → Packs bs octets → len ≡ length (significant bs) → bits_from 0 len octets ≡ significant bs
significant_packed bs octets len p e =
    ap (λ l. take len (drop 0 l)) p.all ∙ (take-append-le len bs (zeros p.unused) (omega (arith, e, significant_le bs)) ∙ (ap (λ n. take n bs) e ∙ significant_front bs))

pub significant_held : (bs : List Bool) (octets : List ℕ) (len : ℕ) → Packs bs octets → len ≡ length (significant bs) → len ≤ 8 * length octets
significant_held bs octets len p e = omega (arith, e, significant_le bs, ap length p.all, length-append bs (zeros p.unused), length-bits_in octets)

-- One bit more of a list.
one_more : (l : List Bool) (k : ℕ) (d : Bool) → k < length l → take (suc k) l ≡ take k l ++ get_or l k d ∷ []
one_more [] k d h = absurd (omega (arith, h))
one_more (x ∷ l) zero d h = refl
one_more (x ∷ l) (suc k) d h = ap (λ z. x ∷ z) (one_more l k d (omega (arith, h)))

pub dropped_zero : (l : List Bool) (k m : ℕ) → suc k ≡ m → m ≤ length l → get_or l k false ≡ false → significant (take m l) ≡ significant l → significant (take k l) ≡ significant l
dropped_zero l k m s h e g =
    let f : take m l ≡ take k l ++ false ∷ [] = ap (λ n. take n l) (sym s) ∙ (one_more l k false (omega (arith, h, s)) ∙ ap (λ b. take k l ++ b ∷ []) e) in
    sym (significant_zero (take k l)) ∙ (ap significant (sym f) ∙ g)

length_front : (l : List Bool) (m : ℕ) → m ≤ length l → length (take m l) ≡ m
length_front l zero h = refl
length_front [] (suc m) h = absurd (omega (arith, h))
length_front (x ∷ l) (suc m) h = ap suc (length_front l m (omega (arith, h)))

-- The number of significant bits: none are left, or the last that is left is a 1.
pub none_left : (l : List Bool) (m : ℕ) → m ≡ zero → significant (take m l) ≡ significant l → m ≡ length (significant l)
none_left l m z g = let e = ap length g in z ∙ (sym (ap (λ n. length (significant (take n l))) z) ∙ e)

pub one_left : (l : List Bool) (k m : ℕ) → suc k ≡ m → m ≤ length l → get_or l k false ≡ true → significant (take m l) ≡ significant l → m ≡ length (significant l)
one_left l k m s h e g =
    let f : take m l ≡ take k l ++ true ∷ [] = ap (λ n. take n l) (sym s) ∙ (one_more l k false (omega (arith, h, s)) ∙ ap (λ b. take k l ++ b ∷ []) e) in
    let w : significant (take m l) ≡ take m l = ap significant f ∙ (significant_one (take k l) ∙ sym f) in
    sym (length_front l m h) ∙ ap length (sym w ∙ g)

-- Only bits that are the same without their trailing 0 bits differ in 0 bits at the end alone.
pub significant_zeros : (bs : List Bool) (n : ℕ) → significant (bs ++ zeros n) ≡ significant bs
significant_zeros [] zero = refl
significant_zeros [] (suc n) = ap (bit_before false) (significant_zeros [] n)
significant_zeros (b ∷ bs) n = ap (bit_before b) (significant_zeros bs n)

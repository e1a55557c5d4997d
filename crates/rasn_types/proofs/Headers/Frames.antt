-- A header is read in one way.
use Rattle.std.proofs.Common.{◌≡◌, ℕ, ◌+◌, ◌*◌, ◌<◌, ◌⊎◌, inl, inr, List, [], ◌∷◌, ◌++◌, length, Bool, true, false, refl, sym, ap, ap₂, ◌∙◌, arith}
use Rattle.rasn_types.specs.Tags.{Form, basic_form, der_form, loose_form, HasStrictForm, Class, Universal, Application, Context, Private, Tag, rank, eoc}
use Rattle.rasn_types.specs.Framing.{IsChain, number_in, Spells128, bit_of, SpellsAnyIdentifier, SpellsLength, Extent, definite, Frame, with_length, without_length, HasIndefinite, Begins, NextTag, Ended}

pub split_one : {X : Type 0} (a c b d : List X) → length a ≡ length c → a ++ b ≡ c ++ d → (a ≡ c) × (b ≡ d)
split_one [] [] b d h e = (refl, e)
split_one [] (y ∷ c) b d h e = absurd (omega arith)
split_one (x ∷ a) [] b d h e = absurd (omega arith)
split_one (x ∷ a) (y ∷ c) b d h e =
    let r = split_one a c b d (omega arith) cc in
    let p = r.0 in let q = r.1 in
    (cc, cc)

pub chain_one : (a c x y : List ℕ) → IsChain a → IsChain c → a ++ x ≡ c ++ y → (a ≡ c) × (x ≡ y)
chain_one [] c x y h k e = absurd h
chain_one (b ∷ a) [] x y h k e = absurd k
chain_one (b ∷ a) (d ∷ c) x y (inl (h, p)) (inl (k, q)) e = (cc, cc)
chain_one (b ∷ a) (d ∷ c) x y (inl (h, p)) (inr (k, q)) e = let f : b ≡ d = cc in absurd (omega arith)
chain_one (b ∷ a) (d ∷ c) x y (inr (h, p)) (inl (k, q)) e = let f : b ≡ d = cc in absurd (omega arith)
chain_one (b ∷ a) (d ∷ c) x y (inr (h, p)) (inr (k, q)) e =
    let r = chain_one a c x y p q cc in
    let s = r.0 in let t = r.1 in
    (cc, cc)

pub rank_one : (c d : Class) → rank c ≡ rank d → c ≡ d
rank_one Universal Universal e = refl
rank_one Application Application e = refl
rank_one Context Context e = refl
rank_one Private Private e = refl
rank_one c d e = absurd (omega arith)

pub rank_small : (c : Class) → rank c < 4
rank_small Universal = omega arith
rank_small Application = omega arith
rank_small Context = omega arith
rank_small Private = omega arith

bit_one : (b c : Bool) → bit_of b ≡ bit_of c → b ≡ c
bit_one true true e = refl
bit_one false false e = refl
bit_one b c e = absurd (omega arith)

pub bit_small : (b : Bool) → bit_of b < 2
bit_small true = omega arith
bit_small false = omega arith

pub record IdOne (a c x y : List ℕ) (s t : Tag) (b d : Bool) : Type 0 where
  pub octets : a ≡ c
  pub rest : x ≡ y
  pub tag : s ≡ t
  pub bit : b ≡ d

leading_one : (p q b d m n : ℕ) → p < 4 → q < 4 → b < 2 → d < 2 → m < 32 → n < 32
    → 64 * p + (32 * b + m) ≡ 64 * q + (32 * d + n) → (p ≡ q) × (b ≡ d) × (m ≡ n)
leading_one p q b d m n hp hq hb hd hm hn e = (omega arith, omega arith, omega arith)

pub tag_one : (s t : Tag) → rank s.class ≡ rank t.class → s.value ≡ t.value → s ≡ t
tag_one s t p q = ap₂ make (rank_one s.class t.class p) q
  where
    make : Class → ℕ → Tag
    make c n = record { class = c; value = n }

id_number_one : (s t : Tag) (a c x y : List ℕ) (m n : ℕ) → m ≡ n
    → ((m < 31) × (a ≡ []) × (s.value ≡ m)) ⊎ ((m ≡ 31) × Spells128 a s.value)
    → ((n < 31) × (c ≡ []) × (t.value ≡ n)) ⊎ ((n ≡ 31) × Spells128 c t.value)
    → a ++ x ≡ c ++ y → (a ≡ c) × (x ≡ y) × (s.value ≡ t.value)
id_number_one s t a c x y m n e (inl (p, q, r)) (inl (u, v, w)) h =
    let f : a ++ x ≡ x = ap (λ z. z ++ x) q in let g : c ++ y ≡ y = ap (λ z. z ++ y) v in (cc, cc, cc)
id_number_one s t a c x y m n e (inl (p, q, r)) (inr (u, v)) h = absurd (omega arith)
id_number_one s t a c x y m n e (inr (p, q)) (inl (u, v, w)) h = absurd (omega arith)
id_number_one s t a c x y m n e (inr (p, q)) (inr (u, v)) h =
    let r = chain_one a c x y q.chain v.chain h in
    let f = q.is in let g = v.is in let k : number_in 128 a ≡ number_in 128 c = ap (number_in 128) r.0 in
    (r.0, r.1, cc)

low_small : (s : Tag) (a : List ℕ) (m : ℕ) → ((m < 31) × (a ≡ []) × (s.value ≡ m)) ⊎ ((m ≡ 31) × Spells128 a s.value) → m < 32
low_small s a m (inl h) = omega (arith, h.0)
low_small s a m (inr h) = omega (arith, h.0)

pub id_one : (a c x y : List ℕ) (s t : Tag) (b d : Bool) → SpellsAnyIdentifier a s b → SpellsAnyIdentifier c t d → a ++ x ≡ c ++ y → IdOne a c x y s t b d
id_one [] c x y s t b d h k e = absurd h
id_one (i ∷ a) [] x y s t b d h k e = absurd k
id_one (i ∷ a) (j ∷ c) x y s t b d h k e =
    let f : i ≡ j = cc in
    let g : a ++ x ≡ c ++ y = cc in
    let hl = h.leading in let kl = k.leading in
    let w : 64 * rank s.class + (32 * bit_of b + h.low) ≡ 64 * rank t.class + (32 * bit_of d + k.low) = cc in
    let l = leading_one (rank s.class) (rank t.class) (bit_of b) (bit_of d) h.low k.low (rank_small s.class) (rank_small t.class)
    (bit_small b) (bit_small d) (low_small s a h.low h.number) (low_small t c k.low k.number) w in
    let n = id_number_one s t a c x y h.low k.low l.2 h.number k.number g in
    let p = n.0 in
    record { octets = cc; rest = n.1; tag = tag_one s t l.0 n.2; bit = bit_one b d l.1 }

pub length_one : (a c x y : List ℕ) (m n : ℕ) → SpellsLength a m → SpellsLength c n → a ++ x ≡ c ++ y → (a ≡ c) × (x ≡ y) × (m ≡ n)
length_one [] c x y m n h k e = absurd h
length_one (i ∷ a) [] x y m n h k e = absurd k
length_one (i ∷ a) (j ∷ c) x y m n (inl (p, q, r)) (inl (u, v, w)) e =
    let f : a ++ x ≡ x = ap (λ z. z ++ x) q in let g : c ++ y ≡ y = ap (λ z. z ++ y) v in (cc, cc, cc)
length_one (i ∷ a) (j ∷ c) x y m n (inl (p, q, r)) (inr (u, v, w, z, o)) e = let f : i ≡ j = cc in absurd (omega arith)
length_one (i ∷ a) (j ∷ c) x y m n (inr (p, q, r, s, t)) (inl (u, v, w)) e = let f : i ≡ j = cc in absurd (omega arith)
length_one (i ∷ a) (j ∷ c) x y m n (inr (p, q, r, s, t)) (inr (u, v, w, z, o)) e =
    let f : i ≡ j = cc in
    let g = split_one a c x y (omega arith) cc in
    let k : number_in 256 a ≡ number_in 256 c = ap (number_in 256) g.0 in
    let l = g.0 in
    (cc, g.1, cc)

pub not_open : (a x y : List ℕ) (m : ℕ) → SpellsLength a m → a ++ x ≡ 128 ∷ y → ⊥
not_open [] x y m h e = h
not_open (i ∷ a) x y m (inl h) e = let f : i ≡ 128 = cc in omega (arith, h.0)
not_open (i ∷ a) x y m (inr h) e = let f : i ≡ 128 = cc in omega (arith, h.0, h.1)

pub record FrameOne (s t : Tag) (b d : Bool) (m n : Extent) (x y : List ℕ) : Type 0 where
  pub tag : s ≡ t
  pub bit : b ≡ d
  pub extent : m ≡ n
  pub rest : x ≡ y

pub frame_one : {rule other : Form} (input : List ℕ) {s t : Tag} {b d : Bool} {m n : Extent} {x y : List ℕ}
    → Frame rule input s b x m → Frame other input t d y n → FrameOne s t b d m n x y
frame_one input {s} {t} {b} {d} {x = x} {y = y} (with_length id len c p q z e) (with_length id' len' c' p' q' z' e') =
    let i = id_one id id' (len ++ (c ++ x)) (len' ++ (c' ++ y)) s t b d p.spells p'.spells cc in
    let l = length_one len len' (c ++ x) (c' ++ y) (length c) (length c') q q' i.rest in
    let r = split_one c c' x y l.2 l.1 in
    record { tag = i.tag; bit = i.bit; extent = ap definite r.0; rest = r.1 }
frame_one input {s} {t} {b} {d} {x = x} {y = y} (with_length id len c p q z e) (without_length id' p' q' r' e') =
    let i = id_one id id' (len ++ (c ++ x)) (128 ∷ y) s t b d p.spells p'.spells cc in
    absurd (not_open len (c ++ x) y (length c) q i.rest)
frame_one input {s} {t} {b} {d} {x = x} {y = y} (without_length id p q r e) (with_length id' len' c' p' q' z' e') =
    let i = id_one id id' (128 ∷ x) (len' ++ (c' ++ y)) s t b d p.spells p'.spells cc in
    absurd (not_open len' (c' ++ y) x (length c') q' (sym i.rest))
frame_one input {s} {t} {b} {d} {x = x} {y = y} (without_length id p q r e) (without_length id' p' q' r' e') =
    let i = id_one id id' (128 ∷ x) (128 ∷ y) s t b d p.spells p'.spells cc in
    let f = i.rest in
    record { tag = i.tag; bit = i.bit; extent = refl; rest = cc }

pub begins_one : (input : List ℕ) (s t : Tag) → Begins input s → Begins input t → s ≡ t
begins_one input s t h k = let p = h.is in let q = k.is in (id_one h.id k.id h.more k.more s t h.bit k.bit h.spells k.spells cc).tag

pub next_one : {spelling other : Form} (input : List ℕ) (s t : Tag) → NextTag spelling input s → NextTag other input t → s ≡ t
next_one input s t h k = begins_one input s t h.begins k.begins

-- An identifier that begins with a zero is that of universal 0.
id_zero : (a x y : List ℕ) (s : Tag) (b : Bool) → SpellsAnyIdentifier a s b → a ++ x ≡ 0 ∷ y → s ≡ eoc
id_zero [] x y s b h e = absurd h
id_zero (i ∷ a) x y s b h e = go h.number
  where
    zero_first : i ≡ 0
    zero_first = cc

    leads : 0 ≡ 64 * rank s.class + (32 * bit_of b + h.low)
    leads = let f = h.leading in let g = zero_first in cc

    go : ((h.low < 31) × (a ≡ []) × (s.value ≡ h.low)) ⊎ ((h.low ≡ 31) × Spells128 a s.value) → s ≡ eoc
    go (inl (p, q, r)) = let f = leads in tag_one s eoc (omega arith) (omega arith)
    go (inr (p, q)) = let f = leads in absurd (omega arith)

id_there : (l more : List ℕ) (s : Tag) (b : Bool) → SpellsAnyIdentifier l s b → l ++ more ≡ [] → ⊥
id_there [] more s b h k = h
id_there (x ∷ l) more s b h k = cc

-- If a value follows, the contents haven't ended.
pub not_ended : {spelling : Form} (closing : Bool) (input : List ℕ) (s : Tag) → NextTag spelling input s → Ended closing input → ⊥
not_ended closing input s n (inl e) = id_there n.begins.id n.begins.more s n.begins.bit n.begins.spells (sym n.begins.is ∙ e)
not_ended closing input s n (inr (c, more, e)) =
    n.is_one (id_zero n.begins.id n.begins.more (0 ∷ more) s n.begins.bit n.begins.spells (sym n.begins.is ∙ e))

-- No form with indefinite lengths is strict.
not_strict : (rule : Form) → HasIndefinite rule → HasStrictForm rule → ⊥
not_strict basic_form h k = k
not_strict der_form h k = h
not_strict loose_form h k = h

pub frame_next : {rule : Form} {input rest : List ℕ} {s : Tag} {b : Bool} {m : Extent} → Frame rule input s b rest m → NextTag rule input s
frame_next {rule = rule} {rest = rest} {b = b} (with_length id len c p q z e) =
    record { begins = record { id = id; bit = b; more = len ++ (c ++ rest); spells = p.spells; is = e }; is_one = p.is_one; shortest = λ h. (z h).0 }
frame_next {rule = rule} {rest = rest} {b = b} (without_length id p q r e) =
    record { begins = record { id = id; bit = b; more = 128 ∷ rest; spells = p.spells; is = e }; is_one = p.is_one; shortest = λ h. absurd (not_strict rule r h) }

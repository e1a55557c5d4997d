-- Rendering, taken apart.
use Rattle.std.proofs.Common.{length-append, ◌≡◌, ◌≤◌, ◌+◌, ◌-◌, ◌++◌, ℕ, [], ◌∷◌, List, drop, take, length, refl, ap, arith, ◌∙◌, sym, length-drop}
use Rattle.std.proofs.lemmas.List.{take-append-le, take-append-drop, take-take, drop-append-le, length-take-le, drop-drop, drop-take, append_assoc}
use Rattle.rasn_enc.specs.Buffer.DeferredHeaders.{deferred_octets, rendered, Rising, header_octets_count}
use Rattle.rasn_enc.specs.declared.ber.enc.writer.deferred_headers.DeferredHeader.{DeferredHeader}

pub rising-below : (a : ℕ) (ms : List DeferredHeader) (e : ℕ) → Rising a ms e → a ≤ e
rising-below a [] e h = h
rising-below a (m ∷ ms) e h = let p = h.0 in let q = rising-below m.at ms e h.1 in omega (arith, p, q)

pub rising-append : (a : ℕ) (ms : List DeferredHeader) (m : DeferredHeader) (ns : List DeferredHeader) (e : ℕ) → Rising a ms m.at → Rising m.at ns e → Rising a (ms ++ m ∷ ns) e
rising-append a [] m ns e h k = (h, k)
rising-append a (n ∷ ms) m ns e h k = (h.0, rising-append n.at ms m ns e h.1 k)

pub rising-front : (a : ℕ) (ms : List DeferredHeader) (m : DeferredHeader) (ns : List DeferredHeader) (e : ℕ) → Rising a (ms ++ m ∷ ns) e → Rising a ms m.at
rising-front a [] m ns e h = h.0
rising-front a (n ∷ ms) m ns e h = (h.0, rising-front n.at ms m ns e h.1)

pub rising-back : (a : ℕ) (ms : List DeferredHeader) (m : DeferredHeader) (ns : List DeferredHeader) (e : ℕ) → Rising a (ms ++ m ∷ ns) e → Rising m.at ns e
rising-back a [] m ns e h = h.1
rising-back a (n ∷ ms) m ns e h = rising-back n.at ms m ns e h.1

pub rising-lower : (a b : ℕ) (ms : List DeferredHeader) (e : ℕ) → a ≤ b → Rising b ms e → Rising a ms e
rising-lower a b [] e h k = omega (arith, h, k)
rising-lower a b (m ∷ ms) e h k = let q = k.0 in (omega (arith, h, q), k.1)

pub rising-more : (a : ℕ) (ms : List DeferredHeader) (e f : ℕ) → e ≤ f → Rising a ms e → Rising a ms f
rising-more a [] e f k h = omega (arith, k, h)
rising-more a (m ∷ ms) e f k h = (h.0, rising-more m.at ms e f k h.1)

-- before a deferred header is what the octets and the headers before it render to
pub rendered-append : (xs : List ℕ) (a : ℕ) (ms : List DeferredHeader) (m : DeferredHeader) (ns : List DeferredHeader) → Rising a ms m.at → rendered xs a (ms ++ m ∷ ns) ≡ rendered (take m.at xs) a ms ++ (deferred_octets m ++ rendered xs m.at ns)
rendered-append xs a [] m ns h = refl
rendered-append xs a (n ∷ ms) m ns h =
    let q : n.at ≤ m.at = rising-below n.at ms m.at h.1 in
    rw (rendered-append xs n.at ms m ns h.1, take-take n.at m.at xs q)
    (ap (λ l. drop a (take n.at xs) ++ l) (sym (append_assoc (deferred_octets n) (rendered (take m.at xs) n.at ms) (deferred_octets m ++ rendered xs m.at ns))) ∙ sym (append_assoc (drop a (take n.at xs)) (deferred_octets n ++ rendered (take m.at xs) n.at ms) (deferred_octets m ++ rendered xs m.at ns)))

pub drop-all : (xs : List ℕ) → drop (length xs) xs ≡ []
drop-all [] = refl
drop-all (x ∷ xs) = drop-all xs

pub drop-split : {X : Type 0} (a b : ℕ) (xs : List X) → a ≤ b → b ≤ length xs → drop a xs ≡ drop a (take b xs) ++ drop b xs
drop-split a b xs h k =
    let l : a ≤ length (take b xs) = rw (length-take-le b xs k) h in
    ap (drop a) (sym (take-append-drop b xs)) ∙ drop-append-le a (take b xs) (drop b xs) l

-- the octets up to the first header, and what follows
pub rendered-front : (xs : List ℕ) (a b : ℕ) (ms : List DeferredHeader) → a ≤ b → Rising b ms (length xs) → rendered xs a ms ≡ drop a (take b xs) ++ rendered xs b ms
rendered-front xs a b [] h r = drop-split a b xs h r
rendered-front xs a b (m ∷ ms) h r =
    let q : m.at ≤ length xs = rising-below m.at ms (length xs) r.1 in
    let b-within : b ≤ length (take m.at xs) = rw (length-take-le m.at xs q) r.0 in
    ap (λ l. l ++ (deferred_octets m ++ rendered xs m.at ms)) (drop-split a b (take m.at xs) h b-within ∙ rw (take-take b m.at xs r.0) refl) ∙ append_assoc (drop a (take b xs)) (drop b (take m.at xs)) (deferred_octets m ++ rendered xs m.at ms)

pub length-rendered : (xs : List ℕ) (a : ℕ) (ms : List DeferredHeader) → Rising a ms (length xs) → length (rendered xs a ms) + a ≡ length xs + header_octets_count ms
length-rendered xs a [] h = let l = length-drop a xs in omega (arith, l, h)
length-rendered xs a (m ∷ ms) h =
    let q : m.at ≤ length xs = rising-below m.at ms (length xs) h.1 in
    let i = length-rendered xs m.at ms h.1 in
    let o = h.0 in
    let t = length-take-le m.at xs q in
    let d = length-drop a (take m.at xs) in
    omega (arith, i, o, t, d, length-append (drop a (take m.at xs)) (deferred_octets m ++ rendered xs m.at ms), length-append (deferred_octets m) (rendered xs m.at ms))

-- octets after all
pub rendered-more : (xs ys : List ℕ) (a : ℕ) (ms : List DeferredHeader) → Rising a ms (length xs) → rendered (xs ++ ys) a ms ≡ rendered xs a ms ++ ys
rendered-more xs ys a [] h = drop-append-le a xs ys h
rendered-more xs ys a (m ∷ ms) h =
    let q : m.at ≤ length xs = rising-below m.at ms (length xs) h.1 in
    rw (take-append-le m.at xs ys q, rendered-more xs ys m.at ms h.1)
    (ap (λ l. drop a (take m.at xs) ++ l) (sym (append_assoc (deferred_octets m) (rendered xs m.at ms) ys)) ∙ sym (append_assoc (drop a (take m.at xs)) (deferred_octets m ++ rendered xs m.at ms) ys))

-- two parts of the deferred headers
pub rising-join : (a : ℕ) (ms : List DeferredHeader) (b : ℕ) (ns : List DeferredHeader) (e : ℕ) → Rising a ms b → Rising b ns e → Rising a (ms ++ ns) e
rising-join a [] b ns e h k = rising-lower a b ns e h k
rising-join a (m ∷ ms) b ns e h k = (h.0, rising-join m.at ms b ns e h.1 k)

pub rendered-join : (g : List ℕ) (a : ℕ) (ms : List DeferredHeader) (b : ℕ) (ns : List DeferredHeader) → Rising a ms b → Rising b ns (length g) → rendered g a (ms ++ ns) ≡ rendered (take b g) a ms ++ rendered g b ns
rendered-join g a [] b ns h k = rendered-front g a b ns h k
rendered-join g a (m ∷ ms) b ns h k =
    let q : m.at ≤ b = rising-below m.at ms b h.1 in
    rw (rendered-join g m.at ms b ns h.1 k, take-take m.at b g q)
    (ap (λ l. drop a (take m.at g) ++ l) (sym (append_assoc (deferred_octets m) (rendered (take b g) m.at ms) (rendered g b ns))) ∙ sym (append_assoc (drop a (take m.at g)) (deferred_octets m ++ rendered (take b g) m.at ms) (rendered g b ns)))

-- what precedes a place changes nothing from it on
pub rendered-same : (xs ys : List ℕ) (a : ℕ) (ms : List DeferredHeader) (e : ℕ) → drop a xs ≡ drop a ys → Rising a ms e → rendered xs a ms ≡ rendered ys a ms
rendered-same xs ys a [] e h r = h
rendered-same xs ys a (m ∷ ms) e h r =
    let front : drop a (take m.at xs) ≡ drop a (take m.at ys) = run-taken xs ∙ (ap (take (m.at - a)) h ∙ sym (run-taken ys)) in
    let behind : drop m.at xs ≡ drop m.at ys = drop-later xs ∙ (ap (drop (m.at - a)) h ∙ sym (drop-later ys)) in
    rw (front, rendered-same xs ys m.at ms e behind r.1) refl
  where
    k : a + (m.at - a) ≡ m.at
    k = let p = r.0 in omega (arith, p)

    drop-later : (zs : List ℕ) → drop m.at zs ≡ drop (m.at - a) (drop a zs)
    drop-later zs = sym (drop-drop (m.at - a) a zs ∙ ap (λ i. drop i zs) k)

    run-taken : (zs : List ℕ) → drop a (take m.at zs) ≡ take (m.at - a) (drop a zs)
    run-taken zs = ap (λ i. drop a (take i zs)) (sym k) ∙ drop-take a (m.at - a) zs

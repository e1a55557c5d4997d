-- Places in rendered octets: found from the back, and stepped forward.
use Rattle.std.proofs.Common.{length-append, ◌≡◌, ◌≤◌, ◌<◌, ◌+◌, ◌-◌, ◌++◌, ℕ, [], ◌∷◌, List, drop, take, length, refl, ap, arith, ◌∙◌, sym, suc, length-drop, append_assoc, get_or, add-one, true, false, ltb, eqb, zero}
use Rattle.std.proofs.lemmas.List.{take-append-drop, length-take-le, drop_at, drop_all}
use Rattle.std.proofs.Math.Seq.{take-suc, drop-cons}
use Rattle.std.proofs.lemmas.Grind.{common_steps}
use Rattle.rasn_enc.specs.Order.{octets_less}
use Rattle.rasn_enc.specs.Buffer.DeferredHeaders.{deferred_octets, rest_octets, rendered, Rising}
use Rattle.rasn_enc.specs.Buffer.Cursors.{ahead, Placed, Away}
use Rattle.rasn_enc.specs.declared.ber.enc.writer.deferred_headers.DeferredHeader.{DeferredHeader}
use Rattle.rasn_enc.specs.declared.ber.enc.writer.header_rest.HeaderRest.{HeaderRest}
use Rattle.rasn_enc.specs.declared.ber.enc.writer.cursors.Cursor.{Cursor}
use Rattle.rasn_enc.proofs.Buffer.Rendered.{rising-lower, rising-below, rising-front, rising-back, rendered-front, rendered-append, rendered-join}
use Rattle.rasn_enc.proofs.Buffer.Steps.{taken, left}

suffix-is : (l p q : List ℕ) (n : ℕ) → l ≡ p ++ q → length q + n ≡ length l → q ≡ drop n l
suffix-is l p q n e h =
    let s = ap length e in
    rw e (sym (drop_at p q n (omega (arith, h, s, length-append p q))))

-- backwards: k headers are left, and `back` octets up to the place
pub record Walk (g : List ℕ) (ms : List DeferredHeader) (start want k at back : ℕ) : Type 0 where
  pub below : k ≤ length ms
  pub lower : Rising start (take k ms) at
  pub upper : Rising at (drop k ms) (length g)
  pub counted : back + length (rendered g at (drop k ms)) ≡ want

run-length : (g : List ℕ) (ms : List DeferredHeader) (a b : ℕ) → a ≤ b → Rising b ms (length g) → length (rendered g a ms) + a ≡ length (rendered g b ms) + b
run-length g ms a b h k =
    let w : b ≤ length g = rising-below b ms (length g) k in
    let f = ap length (rendered-front g a b ms h k) in
    omega (arith, f, h, length-append (drop a (take b g)) (rendered g b ms), length-drop a (take b g), length-take-le b g w)

-- a place in a run of gathered octets
pub place-run : (g : List ℕ) (ms : List DeferredHeader) (start want k at back n : ℕ) → Walk g ms start want k at back → back ≤ at → Rising start (take k ms) (at - back) → want + n ≡ length (rendered g start ms) → rendered g (at - back) (drop k ms) ≡ drop n (rendered g start ms)
place-run g ms start want k at back n h b r t =
    let o : at - back ≤ at = omega arith in
    let up : Rising (at - back) (drop k ms) (length g) = rising-lower (at - back) at (drop k ms) (length g) o h.upper in
    let l = run-length g (drop k ms) (at - back) at o h.upper in
    let c = h.counted in
    let j : rendered g start ms ≡ rendered (take (at - back) g) start (take k ms) ++ rendered g (at - back) (drop k ms) = ap (rendered g start) (sym (take-append-drop k ms)) ∙ rendered-join g start (take k ms) (at - back) (drop k ms) r up in
    suffix-is _ _ _ n j (omega (arith, l, c, b, t))

module _ (g : List ℕ) (ms : List DeferredHeader) (start want k at back n : ℕ) (m d : DeferredHeader) (inside : k < length ms) (read : m ≡ get_or ms k d) (h : Walk g ms start want (suc k) at back) (t : want + n ≡ length (rendered g start ms)) where
  lower-front : Rising start (take k ms) m.at
  lower-front = rising-front start (take k ms) m [] at (rw (taken ms k m d inside read) at h.lower)

  walk-order : m.at ≤ at
  walk-order = rising-back start (take k ms) m [] at (rw (taken ms k m d inside read) at h.lower)

  upper-here : Rising m.at (drop (suc k) ms) (length g)
  upper-here = rising-lower m.at at (drop (suc k) ms) (length g) walk-order h.upper

  pub walk-within : at ≤ length g
  walk-within = rising-below at (drop (suc k) ms) (length g) h.upper

  stop-run : back ≤ at - m.at → Rising start (take (suc k) ms) (at - back)
  stop-run b =
      let o = walk-order in
      rw (taken ms k m d inside read) (rising-stop start (take k ms) m (at - back) lower-front (omega (arith, b, o)))
    where
      rising-stop : (a : ℕ) (ns : List DeferredHeader) (m : DeferredHeader) (e : ℕ) → Rising a ns m.at → m.at ≤ e → Rising a (ns ++ m ∷ []) e
      rising-stop a [] m e h k = (h, k)
      rising-stop a (n ∷ ns) m e h k = (h.0, rising-stop n.at ns m e h.1 k)

  -- a place in a head
  stop-head : (i : ℕ) → i + (back - (at - m.at)) ≡ length (deferred_octets m) → at - m.at ≤ back → drop i (deferred_octets m) ++ rendered g m.at (drop (suc k) ms) ≡ drop n (rendered g start ms)
  stop-head i e b =
      let o = walk-order in
      let l = run-length g (drop (suc k) ms) m.at at o h.upper in
      let c = h.counted in
      let p : rendered g start ms ≡ rendered (take m.at g) start (take k ms) ++ (deferred_octets m ++ rendered g m.at (drop (suc k) ms)) = ap (rendered g start) (sym (take-append-drop k ms) ∙ ap (λ x. take k ms ++ x) (left ms k m d inside read)) ∙ rendered-append g start (take k ms) m (drop (suc k) ms) lower-front in
      let q : rendered g start ms ≡ (rendered (take m.at g) start (take k ms) ++ take i (deferred_octets m)) ++ (drop i (deferred_octets m) ++ rendered g m.at (drop (suc k) ms)) = p ∙ ap (λ x. rendered (take m.at g) start (take k ms) ++ (x ++ rendered g m.at (drop (suc k) ms))) (sym (take-append-drop i (deferred_octets m))) ∙ rw (append_assoc, append_assoc) refl in
      suffix-is _ _ _ n q (omega (arith, e, b, o, l, c, t, length-append (drop i (deferred_octets m)) (rendered g m.at (drop (suc k) ms)), length-drop i (deferred_octets m)))

  walk-more : (rest : ℕ) → rest + (at - m.at) + length (deferred_octets m) ≡ back → Walk g ms start want k m.at rest
  walk-more rest e =
      let o = walk-order in
      let l = run-length g (drop (suc k) ms) m.at at o h.upper in
      let c = h.counted in
      let none : drop m.at (take m.at g) ≡ [] = let w = walk-within in drop_all m.at (take m.at g) (omega (arith, length-take-le m.at g (omega (arith, o, w)))) in
      record {
        below = omega arith;
        lower = lower-front;
        upper = rw (left ms k m d inside read) (omega arith, upper-here);
        counted = rw (left ms k m d inside read, none) (omega (arith, e, o, l, c, length-append (deferred_octets m) (rendered g m.at (drop (suc k) ms))));
      }

-- What is known at the deferred header that is reached: the place is in the run after it, in its head, or further to the front.
pub record AtHeader (g : List ℕ) (ms : List DeferredHeader) (start want k at back n : ℕ) (m : DeferredHeader) : Type 0 where
  pub order : m.at ≤ at
  pub upper : Rising m.at (drop k ms) (length g)
  pub run : back ≤ at - m.at → rendered g (at - back) (drop k ms) ≡ drop n (rendered g start ms)
  pub head : (i : ℕ) → i + (back - (at - m.at)) ≡ length (deferred_octets m) → at - m.at ≤ back → drop i (deferred_octets m) ++ rendered g m.at (drop k ms) ≡ drop n (rendered g start ms)
  pub more : (rest : ℕ) → rest + (at - m.at) + length (deferred_octets m) ≡ back → Walk g ms start want (k - 1) m.at rest

pub at_header : (g : List ℕ) (ms : List DeferredHeader) (start total k at back n : ℕ) (m d : DeferredHeader) → m ≡ get_or ms (k - 1) d → 0 < k → Walk g ms start (total - n) k at back → total ≡ length (rendered g start ms) → n ≤ total
    → AtHeader g ms start (total - n) k at back n m
at_header g ms start total zero at back n m d r p h e w = absurd (omega arith)
at_header g ms start total (suc k) at back n m d r p h e w =
    let b = h.below in
    let inside : k < length ms = omega (arith, b) in
    let all : total - n + n ≡ length (rendered g start ms) = omega (arith, e, w) in
    let last : suc k - 1 ≡ k = omega arith in
    let read : m ≡ get_or ms k d = rw last at r in
    record {
      order = walk-order g ms start (total - n) k at back n m d inside read h all;
      upper = upper-here g ms start (total - n) k at back n m d inside read h all;
      run = λ r. place-run g ms start (total - n) (suc k) at back n h (omega (arith, r)) (stop-run g ms start (total - n) k at back n m d inside read h all r) all;
      head = stop-head g ms start (total - n) k at back n m d inside read h all;
      more = λ rest r. rw last (walk-more g ms start (total - n) k at back n m d inside read h all rest r);
    }

pub walk-end : (g : List ℕ) (ms : List DeferredHeader) (start want k at back : ℕ) → Walk g ms start want k at back → k ≡ 0 → want ≤ length (rendered g start ms) → back + start ≤ at
walk-end g ms start want k at back h e w =
    let lo : start ≤ at = rw e at h.lower in
    let up : Rising at ms (length g) = rw e at h.upper in
    let c : back + length (rendered g at ms) ≡ want = rw e at h.counted in
    let l = run-length g ms start at lo up in
    omega (arith, l, c, w)

-- one octet forward
pub step-head : (g : List ℕ) (ms : List DeferredHeader) (c e : Cursor) → c.inside < length (rest_octets c.rest) → e.rest ≡ c.rest → e.inside ≡ c.inside + 1 → e.at ≡ c.at → e.first ≡ c.first → ahead g ms c ≡ get_or (rest_octets c.rest) c.inside 0 ∷ ahead g ms e
step-head g ms c e h a b p q = rw (a, b, p, q, add-one, drop-cons (rest_octets c.rest) c.inside 0 h) refl

head-done : (g : List ℕ) (ms : List DeferredHeader) (c : Cursor) → length (rest_octets c.rest) ≤ c.inside → ahead g ms c ≡ rendered g c.at (drop c.first ms)
head-done g ms c h = rw (drop_all c.inside (rest_octets c.rest) h) refl

module _ (g : List ℕ) (ms : List DeferredHeader) (c : Cursor) (done : length (rest_octets c.rest) ≤ c.inside) (p : Placed g ms c) where
  pub step-header : (h : HeaderRest) → drop c.first ms ≡ record { at = c.at; rest = h } ∷ drop (suc c.first) ms → ahead g ms c ≡ rest_octets h ++ rendered g c.at (drop (suc c.first) ms)
  step-header h e =
      let w : c.at ≤ length g = rising-below c.at (drop c.first ms) (length g) p.rising in
      let none : drop c.at (take c.at g) ≡ [] = drop_all c.at (take c.at g) (omega (arith, length-take-le c.at g w)) in
      head-done g ms c done ∙ rw (e, none) refl

  pub step-header-placed : (h : HeaderRest) → drop c.first ms ≡ record { at = c.at; rest = h } ∷ drop (suc c.first) ms → (suc c.first ≤ length ms) × Rising c.at (drop (suc c.first) ms) (length g)
  step-header-placed h e =
      let r : Rising c.at (record { at = c.at; rest = h } ∷ drop (suc c.first) ms) (length g) = rw e at p.rising in
      let l = ap length e in
      (omega (arith, l, length-drop c.first ms), r.1)

  away-rising : (at end : ℕ) (ns : List DeferredHeader) → Rising at ns end → Away at ns → at < end → Rising (suc at) ns end
  away-rising at end [] r a l = l
  away-rising at end (m ∷ ns) r a l = let q = r.0 in (omega (arith, q, a), r.1)

  pub step-placed : Away c.at (drop c.first ms) → c.at < length g → Rising (suc c.at) (drop c.first ms) (length g)
  step-placed a l = away-rising c.at (length g) (drop c.first ms) p.rising a l

  pub step-gathered : Away c.at (drop c.first ms) → c.at < length g → ahead g ms c ≡ get_or g c.at 0 ∷ rendered g (suc c.at) (drop c.first ms)
  step-gathered a l =
      let one : drop c.at (take (suc c.at) g) ≡ get_or g c.at 0 ∷ [] = rw (take-suc g c.at 0 l) (drop_at (take c.at g) (get_or g c.at 0 ∷ []) c.at (length-take-le c.at g (omega arith))) in
      head-done g ms c done ∙ rendered-front g c.at (suc c.at) (drop c.first ms) (omega arith) (step-placed a l) ∙ rw one refl

  nothing-left : (at : ℕ) (ns : List DeferredHeader) → Rising at ns (length g) → Away at ns → length g ≤ at → rendered g at ns ≡ []
  nothing-left at [] r a l = drop_all at g l
  nothing-left at (m ∷ ns) r a l = let q = r.0 in let w = rising-below m.at ns (length g) r.1 in absurd (a (omega (arith, q, w, l)))

  pub step-none : Away c.at (drop c.first ms) → length g ≤ c.at → ahead g ms c ≡ []
  step-none a l = head-done g ms c done ∙ nothing-left c.at (drop c.first ms) p.rising a l

-- one octet of a comparison
ltb-same : (x : ℕ) → ltb x x ≡ false
ltb-same x = grind (arith, common_steps)

eqb-same : (x : ℕ) → eqb x x ≡ true
eqb-same x = grind (arith, common_steps)

pub compare-more : (us vs us2 vs2 : List ℕ) (x y n : ℕ) → us ≡ x ∷ us2 → vs ≡ y ∷ vs2 → 0 < n → x ≡ y → octets_less us2 (take (n - 1) vs2) ≡ octets_less us (take n vs)
compare-more us vs us2 vs2 x y zero e f h s = absurd (omega arith)
compare-more us vs us2 vs2 x y (suc n) e f h s =
    let k : suc n - 1 ≡ n = omega arith in
    rw (k, e, f, s, ltb-same y, eqb-same y) refl

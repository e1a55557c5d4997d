-- One step of rendering from the back, and its end.
use Rattle.std.proofs.Common.{length-append, ◌≡◌, ◌≤◌, ◌<◌, ◌+◌, ◌-◌, ◌++◌, ℕ, [], ◌∷◌, List, drop, take, length, refl, ap, arith, ◌∙◌, sym, suc, length-drop, get_or}
use Rattle.std.proofs.lemmas.List.{take-append-drop, take-append-le, take-take, length-take-le, drop_at, drop_all}
use Rattle.std.proofs.Math.Seq.{take-suc, drop-cons}
use Rattle.rasn_enc.specs.Buffer.DeferredHeaders.{deferred_octets, rendered, Rising, header_octets_count, front_run}
use Rattle.rasn_enc.specs.declared.ber.enc.writer.deferred_headers.DeferredHeader.{DeferredHeader}
use Rattle.rasn_enc.proofs.Buffer.Rendered.{rising-lower, rising-below, rising-front, rising-back, rendered-front}

-- all octets, and those of a list that begins among them
pub rendered-behind : (xs : List ℕ) (start : ℕ) (ms : List DeferredHeader) → Rising start ms (length xs) → rendered xs 0 ms ≡ take start xs ++ rendered xs start ms
rendered-behind xs start ms h = rendered-front xs 0 start ms (omega arith) h

pub length-rendered-behind : (xs : List ℕ) (start : ℕ) (ms : List DeferredHeader) → Rising start ms (length xs) → length (rendered xs 0 ms) ≡ start + length (rendered xs start ms)
length-rendered-behind xs start ms h =
    let e = ap length (rendered-behind xs start ms h) in
    let l = length-take-le start xs (rising-below start ms (length xs) h) in
    omega (arith, e, l, length-append (take start xs) (rendered xs start ms))

pub rendered-from : (xs ys zs : List ℕ) (start : ℕ) (ms : List DeferredHeader) → Rising start ms (length xs) → ys ≡ rendered xs 0 ms → zs ≡ drop start ys → zs ≡ rendered xs start ms
rendered-from xs ys zs start ms h e f =
    f ∙ ap (drop start) (e ∙ rendered-behind xs start ms h) ∙ drop_at (take start xs) (rendered xs start ms) start (length-take-le start xs (rising-below start ms (length xs) h))

pub inks-append : (ms ns : List DeferredHeader) → header_octets_count (ms ++ ns) ≡ header_octets_count ms + header_octets_count ns
inks-append [] ns = omega arith
inks-append (m ∷ ms) ns = let i = inks-append ms ns in omega (arith, i)

-- two writes from the back
pub turned : (xs ys zs o run : List ℕ) (d n to : ℕ) → n ≤ d → d ≤ to → to ≤ length xs → n ≡ length o → ys ≡ take d xs ++ (run ++ drop to xs) → zs ≡ take (d - n) ys ++ (o ++ drop (d - n + length o) ys) → zs ≡ take (d - n) xs ++ (o ++ (run ++ drop to xs))
turned xs ys zs o run d n to h k l e y z =
    let t : length (take d xs) ≡ d = length-take-le d xs (omega arith) in
    let back : d - n + length o ≡ d = omega (arith, l) in
    let inside : d - n ≤ length (take d xs) = omega (arith, t) in
    let b : drop d ys ≡ run ++ drop to xs = rw y (drop_at (take d xs) (run ++ drop to xs) d t) in
    let f : take (d - n) ys ≡ take (d - n) xs = rw (y, take-append-le (d - n) (take d xs) (run ++ drop to xs) inside) (take-take (d - n) d xs (omega arith)) in
    z ∙ rw (back, b, f) refl

-- the header read at k, with the headers before it and those after it
module _ (ms : List DeferredHeader) (k : ℕ) (m d : DeferredHeader) (inside : k < length ms) (read : m ≡ get_or ms k d) where
  pub taken : take (suc k) ms ≡ take k ms ++ m ∷ []
  taken = take-suc ms k d inside ∙ ap (λ x. take k ms ++ x ∷ []) (sym read)

  pub left : drop k ms ≡ m ∷ drop (suc k) ms
  left = drop-cons ms k d inside ∙ ap (λ x. x ∷ drop (suc k) ms) (sym read)

-- what holds between steps: k headers remain, which are from 0 to `from` in the gathered octets g; the rest is rendered
pub record Rest (g : List ℕ) (ms : List DeferredHeader) (buffer : List ℕ) (k from to copies : ℕ) : Type 0 where
  pub below : k ≤ length ms
  pub rising : Rising 0 (take k ms) from
  pub others : Rising from (drop k ms) (length g)
  pub len : length buffer ≡ length g + header_octets_count ms
  pub room : to ≡ from + header_octets_count (take k ms)
  pub within : to ≤ length buffer
  pub front : take from buffer ≡ take from g
  pub behind : drop to buffer ≡ rendered g from (drop k ms)
  pub counted : copies + to ≡ length buffer
  pub first : from ≡ front_run (drop k ms) (length g)

module _ (g : List ℕ) (ms : List DeferredHeader) (buffer : List ℕ) (k from to copies : ℕ) (m d : DeferredHeader) (inside : k < length ms) (read : m ≡ get_or ms k d) (h : Rest g ms buffer (suc k) from to copies) where
  pub turn-order : m.at ≤ from
  turn-order = rising-back 0 (take k ms) m [] from (rw (taken ms k m d inside read) at h.rising)

  room-is : to ≡ from + (header_octets_count (take k ms) + length (deferred_octets m))
  room-is =
      let r : to ≡ from + header_octets_count (take k ms ++ m ∷ []) = rw (taken ms k m d inside read) at h.room in
      omega (arith, r, inks-append (take k ms) (m ∷ []))

  pub turn-room : from + length (deferred_octets m) ≤ to
  turn-room = let r = room-is in omega (arith, r)

  pub turned-rest : (written : ℕ) (new : List ℕ) → written ≡ (from - m.at) + length (deferred_octets m) → new ≡ take (to - written) buffer ++ (deferred_octets m ++ (drop m.at (take from buffer) ++ drop to buffer)) → Rest g ms new k m.at (to - written) (copies + written)
  turned-rest written new w e =
      let o = turn-order in
      let r = room-is in
      let wi = h.within in
      let go : from ≤ length g = rising-below from (drop (suc k) ms) (length g) h.others in
      let t : length (take (to - written) buffer) ≡ to - written = length-take-le (to - written) buffer (omega (arith, wi)) in
      let there : m.at ≤ to - written = omega (arith, o, r, w) in
      let f2 : take m.at buffer ≡ take m.at g = sym (take-take m.at from buffer o) ∙ ap (take m.at) h.front ∙ take-take m.at from g o in
      let fb : from ≤ length buffer = omega (arith, r, wi) in
      let ct = h.counted in
      let ln = h.len in
      let b : length new ≡ length buffer = rw e (omega (arith, t, w, o, r, wi, fb, length-append (take (to - written) buffer) (deferred_octets m ++ (drop m.at (take from buffer) ++ drop to buffer)), length-append (deferred_octets m) (drop m.at (take from buffer) ++ drop to buffer), length-append (drop m.at (take from buffer)) (drop to buffer), length-drop m.at (take from buffer), length-take-le from buffer fb, length-drop to buffer)) in
      let none : drop m.at (take m.at g) ≡ [] = drop_all m.at (take m.at g) (omega (arith, length-take-le m.at g (omega (arith, go, o)))) in
      record {
        below = omega arith;
        rising = rising-front 0 (take k ms) m [] from (rw (taken ms k m d inside read) at h.rising);
        others = rw (left ms k m d inside read) (omega arith, rising-lower m.at from (drop (suc k) ms) (length g) o h.others);
        len = omega (arith, b, ln);
        room = omega (arith, r, w, o);
        within = omega (arith, b, wi);
        front = rw (e, take-append-le m.at (take (to - written) buffer) (deferred_octets m ++ (drop m.at (take from buffer) ++ drop to buffer)) (omega (arith, t, there)), take-take m.at (to - written) buffer there) f2;
        behind = rw (e, left ms k m d inside read, drop_at (take (to - written) buffer) (deferred_octets m ++ (drop m.at (take from buffer) ++ drop to buffer)) (to - written) t, none, h.front, h.behind) (ap (λ z. deferred_octets m ++ z) (sym (rendered-front g m.at from (drop (suc k) ms) o h.others)));
        counted = omega (arith, b, ct, r, w, o);
        first = rw (left ms k m d inside read) refl;
      }

pub rest-end : (g : List ℕ) (ms : List DeferredHeader) (buffer : List ℕ) (k from to copies : ℕ) → k ≡ 0 → Rest g ms buffer k from to copies → buffer ≡ rendered g 0 ms
rest-end g ms buffer k from to copies e h =
    let z : take k ms ≡ [] = rw e refl in
    let d : drop k ms ≡ ms = rw e refl in
    let zero_left : header_octets_count (take k ms) ≡ 0 = rw z refl in
    let room = h.room in
    let r : to ≡ from = omega (arith, zero_left, room) in
    let b : drop from buffer ≡ rendered g from ms = ap (λ i. drop i buffer) (sym r) ∙ h.behind ∙ ap (rendered g from) d in
    sym (take-append-drop from buffer) ∙ rw (h.front, b) (sym (rendered-front g 0 from ms (omega arith) (rw d at h.others)))

pub rest-count : (g : List ℕ) (ms : List DeferredHeader) (buffer : List ℕ) (k from to copies : ℕ) → k ≡ 0 → Rest g ms buffer k from to copies → copies + front_run ms (length g) ≡ length buffer
rest-count g ms buffer k from to copies e h =
    let z : header_octets_count (take k ms) ≡ 0 = rw e refl in
    let f : from ≡ front_run ms (length g) = rw e at h.first in
    let r = h.room in
    let c = h.counted in
    omega (arith, z, f, r, c)

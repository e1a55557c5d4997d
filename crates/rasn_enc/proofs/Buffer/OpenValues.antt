-- Gathered octets and deferred headers, and the lists that they show.
use Rattle.std.proofs.Common.{append-nil, true, length-append, Option, Some, None, Bool, cond, ◌≡◌, ◌≤◌, ◌<◌, ◌+◌, ◌++◌, ℕ, [], ◌∷◌, List, drop, take, map, length, refl, ap, ap₂, arith, ◌∙◌, sym, append_assoc, length-drop}
use Rattle.std.proofs.lemmas.List.{take-append-le, map-append, take-take, drop-append-le, drop_at, drop_all, take_at, take-append-drop, length-take-le, same_from_push}
use Rattle.std.proofs.Math.Seq.{take-append_seam, take-length}
use Rattle.std.specs.Prelude.{IsSome}
use Rattle.rasn_types.specs.Bytes.{ConstructedEncoding}
use Rattle.rasn_enc.specs.Headers.{definite, closed}
use Rattle.rasn_types.specs.declared.types.codec.Codec.{Codec}
use Rattle.rasn_types.specs.declared.types.codec.Codec.TheVariants.{Ber, Cer, Der}
use Rattle.rasn_types.specs.declared.types.tag.Tag.{Tag}
use Rattle.rasn_enc.specs.Buffer.DeferredHeaders.{header_octets, rendered, Rising, head_of, back, constructed, Encloses}
use Rattle.rasn_enc.specs.Buffer.OpenValues.{frame_in, Chain, noted, opens, IsInnermost}
use Rattle.rasn_enc.specs.Buffer.Cuts.{list_from, Sound}
use Rattle.rasn_enc.specs.Buffer.Lists.{tags_of}
use Rattle.rasn_enc.specs.View.{View, opened, appended}
use Rattle.rasn_enc.specs.Primitive.{Appends}
use Rattle.rasn_enc.specs.declared.ber.enc.writer.Open.{Open}
use Rattle.rasn_enc.specs.declared.ber.enc.writer.deferred_headers.DeferredHeader.{DeferredHeader}
use Rattle.rasn_enc.proofs.Buffer.Rendered.{rendered-more, rising-more, rising-lower, rising-join, rendered-join, rendered-front, rendered-same, drop-all}
use Rattle.rasn_enc.proofs.Buffer.Headers.{header_two, defers-list, defers-rising}
use Rattle.rasn_enc.proofs.Headers.Spellings.{definite_is, closed_is}

pub chain-more : (xs : List ℕ) (ms : List DeferredHeader) (s0 f0 : ℕ) (os : List Open) (o : Open) → Chain xs ms s0 f0 os o.list.start o.list.first → o.end ≤ length xs → o.last ≤ length ms → Sound (take o.end xs) (take o.last ms) o.list.start o.list.first o.list.measured → Chain xs ms s0 f0 (os ++ o ∷ []) (o.end + 2) o.last
chain-more xs ms s0 f0 [] o h e l s = ((sym h.0, sym h.1, e, l, s), (refl, refl))
chain-more xs ms s0 f0 (p ∷ os) o h e l s = (h.0, chain-more xs ms (p.end + 2) p.last os o h.1 e l s)

-- what is known of the last interrupted list
pub record Top (xs : List ℕ) (ms : List DeferredHeader) (os : List Open) (o : Open) (s f : ℕ) : Type 0 where
  pub front : Chain xs ms 0 0 os o.list.start o.list.first
  pub ends : o.end + 2 ≡ s
  pub lasts : o.last ≡ f
  pub end_within : o.end ≤ length xs
  pub last_within : o.last ≤ length ms
  pub sound : Sound (take o.end xs) (take o.last ms) o.list.start o.list.first o.list.measured

chain-split : (xs : List ℕ) (ms : List DeferredHeader) (s0 f0 : ℕ) (os : List Open) (o : Open) (s f : ℕ) → Chain xs ms s0 f0 (os ++ o ∷ []) s f → Chain xs ms s0 f0 os o.list.start o.list.first × (o.end + 2 ≡ s) × (o.last ≡ f) × (o.end ≤ length xs) × (o.last ≤ length ms) × Sound (take o.end xs) (take o.last ms) o.list.start o.list.first o.list.measured
chain-split xs ms s0 f0 [] o s f h = ((sym h.0.0, sym h.0.1), h.1.0, h.1.1, h.0.2, h.0.3, h.0.4)
chain-split xs ms s0 f0 (p ∷ os) o s f h = let q = chain-split xs ms (p.end + 2) p.last os o s f h.1 in ((h.0, q.0), q.1, q.2, q.3, q.4, q.5)

pub top : (xs : List ℕ) (ms : List DeferredHeader) (all os : List Open) (o : Open) (s f : ℕ) → all ≡ os ++ o ∷ [] → Chain xs ms 0 0 all s f → Top xs ms os o s f
top xs ms all os o s f e h =
    let q = chain-split xs ms 0 0 os o s f (rw e at h) in
    record { front = q.0; ends = q.1; lasts = q.2; end_within = q.3; last_within = q.4; sound = q.5 }

chain-below : (xs : List ℕ) (ms : List DeferredHeader) (s0 f0 : ℕ) (os : List Open) (s f : ℕ) → Chain xs ms s0 f0 os s f → (s0 ≤ s) × (f0 ≤ f)
chain-below xs ms s0 f0 [] s f h = let p = h.0 in let q = h.1 in (omega (arith, p), omega (arith, q))
chain-below xs ms s0 f0 (o ∷ os) s f h =
    let q = chain-below xs ms (o.end + 2) o.last os s f h.1 in
    let a = q.0 in
    let b = q.1 in
    let s-is = h.0.0 in
    let f-is = h.0.1 in
    let sw = h.0.4.start_within in
    let fw = h.0.4.first_within in
    let l = length-take-le o.end xs h.0.2 in
    let k = length-take-le o.last ms h.0.3 in
    (omega (arith, a, s-is, sw, l), omega (arith, b, f-is, fw, k))

take-same : {X : Type 0} (n s : ℕ) (b c : List X) → n ≤ s → take s b ≡ take s c → take n b ≡ take n c
take-same n s b c h e = sym (take-take n s b h) ∙ ap (take n) e ∙ take-take n s c h

-- what changes from place s and deferred header f on changes no list below
pub frames-same : (xs ys : List ℕ) (ms ns : List DeferredHeader) (s0 f0 : ℕ) (os : List Open) (s f : ℕ) → Chain xs ms s0 f0 os s f → take s xs ≡ take s ys → take f ms ≡ take f ns → map (frame_in xs ms) os ≡ map (frame_in ys ns) os
frames-same xs ys ms ns s0 f0 [] s f h e k = refl
frames-same xs ys ms ns s0 f0 (o ∷ os) s f h e k =
    let q = chain-below xs ms (o.end + 2) o.last os s f h.1 in
    let a = q.0 in
    let b = q.1 in
    let x : take o.end xs ≡ take o.end ys = take-same o.end s xs ys (omega (arith, a)) e in
    let y : take o.last ms ≡ take o.last ns = take-same o.last f ms ns b k in
    rw (x, y, frames-same xs ys ms ns (o.end + 2) o.last os s f h.1 e k) refl

pub chain-same : (xs ys : List ℕ) (ms ns : List DeferredHeader) (s0 f0 : ℕ) (os : List Open) (s f : ℕ) → Chain xs ms s0 f0 os s f → take s xs ≡ take s ys → take f ms ≡ take f ns → s ≤ length ys → f ≤ length ns → Chain ys ns s0 f0 os s f
chain-same xs ys ms ns s0 f0 [] s f h e k c d = h
chain-same xs ys ms ns s0 f0 (o ∷ os) s f h e k c d =
    let q = chain-below xs ms (o.end + 2) o.last os s f h.1 in
    let a = q.0 in
    let b = q.1 in
    let x : take o.end xs ≡ take o.end ys = take-same o.end s xs ys (omega (arith, a)) e in
    let y : take o.last ms ≡ take o.last ns = take-same o.last f ms ns b k in
    let snd : Sound (take o.end ys) (take o.last ns) o.list.start o.list.first o.list.measured = rw (← x, ← y) h.0.4 in
    ((h.0.0, h.0.1, omega (arith, a, c), omega (arith, b, d), snd), chain-same xs ys ms ns (o.end + 2) o.last os s f h.1 e k c d)

-- A value is open, so one is the innermost.
pub is_open : (xs : List ℕ) (ms : List DeferredHeader) (around : List Open) (i : Option Open) → IsInnermost around i → 0 < length (map (frame_in xs ms) (opens around i)) → IsSome i
is_open xs ms around None e h = absurd (let z : 0 < 0 = rw e at h in omega (arith, z))
is_open xs ms around (Some o) e h = refl

-- what an encoder of these fields shows
abbrev pub shown : Codec → List ℕ → List DeferredHeader → ℕ → ℕ → Option (List Tag) → List Open → View
shown r xs ms s f t os = record { rule = r; below = map (frame_in xs ms) os; last = record { octets = list_from xs ms s f; tags = t } }

pub constructed-is : (r : Codec) (tag : Tag) (c : List ℕ) → constructed r tag c ≡ header_octets (head_of r tag (length c)) ++ (c ++ back r)
unfolding definite closed
constructed-is Ber tag c = rw (append-nil, append_assoc) refl
constructed-is Cer tag c = rw append_assoc refl
constructed-is Der tag c = rw (append-nil, append_assoc) refl

constructed-written : (r : Codec) (tag : Tag) (c : List ℕ) → tag.value < 0x1_0000_0000 → length c < 0x1_0000_0000_0000_0000 → ConstructedEncoding r tag c (constructed r tag c)
constructed-written Ber tag c h k = definite_is tag true c h k
constructed-written Cer tag c h k = closed_is tag c h
constructed-written Der tag c h k = definite_is tag true c h k

-- a new value is open
module _ (r : Codec) (xs ys : List ℕ) (ms : List DeferredHeader) (s f n : ℕ) (os : List Open) (o : Open) (h : Sound xs ms s f n) (k : Chain xs ms 0 0 os s f) (e : ys ≡ xs ++ 0 ∷ 0 ∷ []) (start : o.list.start ≡ s) (first : o.list.first ≡ f) (end : o.end ≡ length xs) (last : o.last ≡ length ms) (measured : o.list.measured ≡ n) where
  begun-front : take s xs ≡ take s ys
  begun-front = rw e (sym (take-append-le s xs (0 ∷ 0 ∷ []) h.start_within))

  begun-octets : take o.end ys ≡ xs
  begun-octets = rw (end, e) (take-append_seam xs (0 ∷ 0 ∷ []))

  begun-headers : take o.last ms ≡ ms
  begun-headers = rw last (take-length ms)

  begun-len : length ys ≡ length xs + 2
  begun-len = rw e (length-append xs (0 ∷ 0 ∷ []))

  begun-none : list_from ys ms (length ys) (length ms) ≡ []
  begun-none = rw (drop-none ms) (drop-all ys)
    where
      drop-none : (ns : List DeferredHeader) → drop (length ns) ns ≡ []
      drop-none [] = refl
      drop-none (n ∷ ns) = drop-none ns

  pub begun : (t t2 : Option (List Tag)) (os2 : List Open) (keeps : Bool) → os2 ≡ os ++ o ∷ [] → tags_of o.list.tags ≡ t → t2 ≡ cond keeps (Some []) None → shown r ys ms (length ys) (length ms) t2 os2 ≡ opened (shown r xs ms s f t os) keeps
  begun t t2 os2 keeps q tags fresh_tags =
      let below : map (frame_in ys ms) os ≡ map (frame_in xs ms) os = sym (frames-same xs ys ms ms 0 0 os s f k begun-front refl) in
      rw (q, map-append (frame_in ys ms) os (o ∷ []), below, begun-octets, begun-headers, start, first, tags, begun-none, fresh_tags) refl

  pub begun-sound : Sound ys ms (length ys) (length ms) 0
  begun-sound = record { start_within = omega arith; first_within = omega arith; rising = rw (drop_all (length ms) ms (omega arith)) (omega arith); measure = rw begun-none refl }

  pub begun-chain : (os2 : List Open) → os2 ≡ os ++ o ∷ [] → Chain ys ms 0 0 os2 (length ys) (length ms)
  begun-chain os2 q =
      let l = begun-len in
      let sw = h.start_within in
      let c : Chain ys ms 0 0 os s f = chain-same xs ys ms ms 0 0 os s f k begun-front refl (omega (arith, l, sw)) h.first_within in
      let snd : Sound (take o.end ys) (take o.last ms) o.list.start o.list.first o.list.measured = rw (begun-octets, begun-headers, start, first, measured) h in
      let c2 : Chain ys ms 0 0 os o.list.start o.list.first = rw (start, first) c in
      let all : Chain ys ms 0 0 (os ++ o ∷ []) (o.end + 2) o.last = chain-more ys ms 0 0 os o c2 (omega (arith, end, l)) (omega (arith, last)) snd in
      let place : length ys ≡ o.end + 2 = omega (arith, end, l) in
      rw (q, place, ← last) all

-- the last open value is closed
module _ (r : Codec) (xs : List ℕ) (ms : List DeferredHeader) (os : List Open) (o : Open) (s f : ℕ) (h : Top xs ms os o s f) where
  start-end : o.list.start ≤ o.end
  start-end = let a = h.sound.start_within in let b = length-take-le o.end xs h.end_within in omega (arith, a, b)

  first-last : o.list.first ≤ o.last
  first-last = let a = h.sound.first_within in let b = length-take-le o.last ms h.last_within in omega (arith, a, b)

  pub cut-chain : Chain (take o.end xs) (take o.last ms) 0 0 os o.list.start o.list.first
  cut-chain = chain-same xs (take o.end xs) ms (take o.last ms) 0 0 os o.list.start o.list.first h.front (sym (take-take o.list.start o.end xs start-end)) (sym (take-take o.list.first o.last ms first-last)) h.sound.start_within h.sound.first_within

  both : (all : List Open) → all ≡ os ++ o ∷ [] → (v : View) → map (frame_in xs ms) all ≡ v.below ++ v.last ∷ [] → (map (frame_in xs ms) os ≡ v.below) × (frame_in xs ms o ≡ v.last)
  both all is v below = same_from_push _ _ _ _ (sym (map-append (frame_in xs ms) os (o ∷ [])) ∙ ap (map (frame_in xs ms)) (sym is) ∙ below)

  module _ (tag : Tag) (n : ℕ) (sound : Sound xs ms s f n) (ys : List ℕ) (ns : List DeferredHeader) (q : Encloses o.end o.last (header_octets (head_of r tag n)) (back r) xs ms ys ns) where
    close-two : length (take 2 (header_octets (head_of r tag n))) ≡ 2
    close-two = length-take-le 2 (header_octets (head_of r tag n)) (header_two (head_of r tag n))

    close-lower : length (take o.end xs) ≡ o.end
    close-lower = length-take-le o.end xs h.end_within

    close-start : s ≤ length xs
    close-start = sound.start_within

    -- after the room
    close-split : ys ≡ (take o.end xs ++ take 2 (header_octets (head_of r tag n))) ++ (drop s xs ++ back r)
    close-split = q.octets ∙ (ap (λ i. take o.end xs ++ (take 2 (header_octets (head_of r tag n)) ++ (drop i xs ++ back r))) h.ends ∙ sym (append_assoc (take o.end xs) (take 2 (header_octets (head_of r tag n))) (drop s xs ++ back r)))

    close-front-len : length (take o.end xs ++ take 2 (header_octets (head_of r tag n))) ≡ s
    close-front-len = omega (arith, close-two, close-lower, h.ends, length-append (take o.end xs) (take 2 (header_octets (head_of r tag n))))

    close-len : length ys ≡ length xs + length (back r)
    close-len =
        let l = ap length close-split in
        let w = close-start in
        omega (arith, l, w, close-front-len, length-append (take o.end xs ++ take 2 (header_octets (head_of r tag n))) (drop s xs ++ back r), length-append (drop s xs) (back r), length-drop s xs)

    close-behind : drop s ys ≡ drop s (xs ++ back r)
    close-behind = ap (drop s) close-split ∙ (drop_at (take o.end xs ++ take 2 (header_octets (head_of r tag n))) (drop s xs ++ back r) s close-front-len ∙ sym (drop-append-le s xs (back r) close-start))

    close-room : drop o.end (take s ys) ≡ take 2 (header_octets (head_of r tag n))
    close-room =
        ap (λ z. drop o.end (take s z)) close-split
        ∙ (ap (drop o.end) (take_at (take o.end xs ++ take 2 (header_octets (head_of r tag n))) (drop s xs ++ back r) s close-front-len)
        ∙ drop_at (take o.end xs) (take 2 (header_octets (head_of r tag n))) o.end close-lower)

    close-below : take o.end ys ≡ take o.end xs
    close-below = ap (take o.end) q.octets ∙ take_at (take o.end xs) _ o.end close-lower

    inner-rising : Rising s (drop f ms) (length ys)
    inner-rising = let l = close-len in rising-more s (drop f ms) (length xs) (length ys) (omega (arith, l)) sound.rising

    close-inner : rendered ys s (drop f ms) ≡ list_from xs ms s f ++ back r
    close-inner = rendered-same ys (xs ++ back r) s (drop f ms) (length xs) close-behind sound.rising ∙ rendered-more xs (back r) s (drop f ms) sound.rising

    close-headers : drop o.list.first ns ≡ drop o.list.first (take o.last ms) ++ (q.deferred ++ drop f ms)
    close-headers = rw (q.headers, drop-append-le o.list.first (take o.last ms) _ h.sound.first_within, h.lasts) refl

    below-rising : Rising o.list.start (drop o.list.first (take o.last ms)) o.end
    below-rising = rw close-lower at h.sound.rising

    outer-rising : Rising s (q.deferred ++ drop f ms) (length ys)
    outer-rising = defers-rising s _ q.deferred (drop f ms) (length ys) (rw h.ends at q.defers) inner-rising

    outer-rising-room : Rising o.end (q.deferred ++ drop f ms) (length ys)
    outer-rising-room = let e = h.ends in rising-lower o.end s (q.deferred ++ drop f ms) (length ys) (omega (arith, e)) outer-rising

    close-value : rendered ys o.end (q.deferred ++ drop f ms) ≡ header_octets (head_of r tag n) ++ (list_from xs ms s f ++ back r)
    close-value =
        let e = h.ends in
        rendered-front ys o.end s (q.deferred ++ drop f ms) (omega (arith, e)) outer-rising
        ∙ (ap₂ (λ x y. x ++ y) close-room (defers-list s _ q.deferred ys (drop f ms) (rw h.ends at q.defers) inner-rising ∙ ap (λ z. drop 2 (header_octets (head_of r tag n)) ++ z) close-inner)
        ∙ (sym (append_assoc (take 2 (header_octets (head_of r tag n))) (drop 2 (header_octets (head_of r tag n))) (list_from xs ms s f ++ back r))
        ∙ ap (λ z. z ++ (list_from xs ms s f ++ back r)) (take-append-drop 2 (header_octets (head_of r tag n)))))

    close-contents : constructed r tag (list_from xs ms s f) ≡ header_octets (head_of r tag n) ++ (list_from xs ms s f ++ back r)
    close-contents = constructed-is r tag (list_from xs ms s f) ∙ ap (λ k. header_octets (head_of r tag k) ++ (list_from xs ms s f ++ back r)) (sym sound.measure)

    close-list : list_from ys ns o.list.start o.list.first ≡ list_from (take o.end xs) (take o.last ms) o.list.start o.list.first ++ constructed r tag (list_from xs ms s f)
    close-list =
        ap (rendered ys o.list.start) close-headers
        ∙ (rendered-join ys o.list.start (drop o.list.first (take o.last ms)) o.end (q.deferred ++ drop f ms) below-rising outer-rising-room
        ∙ ap₂ (λ x y. rendered x o.list.start (drop o.list.first (take o.last ms)) ++ y) close-below (close-value ∙ sym close-contents))

    close-front : take o.list.first ms ≡ take o.list.first ns
    close-front = rw (q.headers, take-append-le o.list.first (take o.last ms) _ h.sound.first_within) (sym (take-take o.list.first o.last ms first-last))

    close-octets-front : take o.list.start xs ≡ take o.list.start ys
    close-octets-front = sym (take-same o.list.start o.end ys xs start-end close-below)

    close-within : o.list.first ≤ length ns
    close-within =
        let b = first-last in
        rw q.headers (omega (arith, b, length-take-le o.last ms h.last_within, length-append (take o.last ms) (q.deferred ++ drop o.last ms)))

    close-start-within : o.list.start ≤ length ys
    close-start-within = let a = start-end in let w = h.end_within in let l = close-len in omega (arith, a, w, l)

    pub close-sound : (total : ℕ) → total ≡ o.list.measured + (length (header_octets (head_of r tag n)) + length (back r) + n) → Sound ys ns o.list.start o.list.first total
    close-sound total g =
        let me = h.sound.measure in
        let m = sound.measure in
        let p = ap length close-contents in
        record {
          start_within = close-start-within;
          first_within = close-within;
          rising = rw close-headers (rising-join o.list.start (drop o.list.first (take o.last ms)) o.end (q.deferred ++ drop f ms) (length ys) below-rising outer-rising-room);
          measure = rw close-list (omega (arith, g, me, p, m, length-append (list_from (take o.end xs) (take o.last ms) o.list.start o.list.first) (constructed r tag (list_from xs ms s f)), length-append (header_octets (head_of r tag n)) (list_from xs ms s f ++ back r), length-append (list_from xs ms s f) (back r)));
        }

    pub close-chain : Chain ys ns 0 0 os o.list.start o.list.first
    close-chain = chain-same xs ys ms ns 0 0 os o.list.start o.list.first h.front close-octets-front close-front close-start-within close-within

    module _ (all : List Open) (is : all ≡ os ++ o ∷ []) (v : View) (rule : r ≡ v.rule) (below : map (frame_in xs ms) all ≡ v.below ++ v.last ∷ []) where
      pub close-view : (t2 : Option (List Tag)) → t2 ≡ noted (tags_of o.list.tags) (tag ∷ []) → shown r ys ns o.list.start o.list.first t2 os ≡ appended v (constructed v.rule tag (list_from xs ms s f)) (tag ∷ [])
      close-view t2 g =
          let lower : map (frame_in ys ns) os ≡ v.below = sym (frames-same xs ys ms ns 0 0 os o.list.start o.list.first h.front close-octets-front close-front) ∙ (both all is v below).0 in
          let octets : list_from ys ns o.list.start o.list.first ≡ v.last.octets ++ constructed r tag (list_from xs ms s f) = close-list ∙ ap (λ z. z.octets ++ constructed r tag (list_from xs ms s f)) (both all is v below).1 in
          let tags : tags_of o.list.tags ≡ v.last.tags = ap (λ z. z.tags) (both all is v below).1 in
          rw (lower, octets, g, tags, rule) refl

      pub close-appends : (t2 : Option (List Tag)) → t2 ≡ noted (tags_of o.list.tags) (tag ∷ []) → tag.value < 0x1_0000_0000 → n < 0x1_0000_0000_0000_0000
          → Appends (ConstructedEncoding v.rule tag (list_from xs ms s f)) tag v (shown r ys ns o.list.start o.list.first t2 os)
      close-appends t2 g low few = record {
        octets = constructed v.rule tag (list_from xs ms s f);
        written = constructed-written v.rule tag (list_from xs ms s f) low (let m = sound.measure in omega (arith, few, m));
        appended = close-view t2 g;
      }

  module _ (all : List Open) (is : all ≡ os ++ o ∷ []) (v : View) (rule : r ≡ v.rule) (below : map (frame_in xs ms) all ≡ v.below ++ v.last ∷ []) where
    pub cut-view : shown r (take o.end xs) (take o.last ms) o.list.start o.list.first (tags_of o.list.tags) os ≡ v
    cut-view =
        let lower : map (frame_in (take o.end xs) (take o.last ms)) os ≡ v.below = sym (frames-same xs (take o.end xs) ms (take o.last ms) 0 0 os o.list.start o.list.first h.front (sym (take-take o.list.start o.end xs start-end)) (sym (take-take o.list.first o.last ms first-last))) ∙ (both all is v below).0 in
        rw (lower, (both all is v below).1, rule) refl

-- octets after all
module _ (r : Codec) (xs c : List ℕ) (ms : List DeferredHeader) (s f n : ℕ) (os : List Open) (h : Sound xs ms s f n) (k : Chain xs ms 0 0 os s f) (ys : List ℕ) (y : ys ≡ xs ++ c) where
  put-front : take s xs ≡ take s ys
  put-front = rw y (sym (take-append-le s xs c h.start_within))

  put-list : list_from ys ms s f ≡ list_from xs ms s f ++ c
  put-list = rw y (rendered-more xs c s (drop f ms) h.rising)

  put-len : length ys ≡ length xs + length c
  put-len = rw y (length-append xs c)

  pub put-there : (tags : List Tag) (t t2 : Option (List Tag)) → t2 ≡ noted t tags → shown r ys ms s f t2 os ≡ appended (shown r xs ms s f t os) c tags
  put-there tags t t2 g =
      let below : map (frame_in ys ms) os ≡ map (frame_in xs ms) os = sym (frames-same xs ys ms ms 0 0 os s f k put-front refl) in
      rw (below, put-list, g) refl

  pub put-sound : (total : ℕ) → total ≡ n + length c → Sound ys ms s f total
  put-sound total g =
      let l = put-len in
      let sw = h.start_within in
      let me = h.measure in
      record {
        start_within = omega (arith, l, sw);
        first_within = h.first_within;
        rising = rising-more s (drop f ms) (length xs) (length ys) (omega (arith, l)) h.rising;
        measure = rw put-list (omega (arith, g, me, length-append (list_from xs ms s f) c));
      }

  pub put-chain : Chain ys ms 0 0 os s f
  put-chain =
      let l = put-len in
      let sw = h.start_within in
      chain-same xs ys ms ms 0 0 os s f k put-front refl (omega (arith, l, sw)) h.first_within

-- Where the octets of encodings inside an open type are.
use Rattle.std.proofs.Common.{◌≡◌, ◌≢◌, ◌⊎◌, inl, inr, ◌<◌, ◌≤◌, ◌+◌, ◌-◌, ◌^◌, ℕ, zero, suc, take, drop, List, [], ◌∷◌, ◌++◌, length, Bool, true, Option, Some, None, Ok, Err, refl, sym, ap, ◌∙◌, subst, append_assoc, arith, length-append, Bor}
use Rattle.std.proofs.Math.Seq.{take-append_seam, take-length}
use Rattle.std.proofs.lemmas.List.{take-append-le, take-append-drop, length-take-le}
use Rattle.std.specs.List.{AllByRecursion}
use Rattle.rasn_types.specs.declared.types.codec.Codec.TheVariants.{Ber}
use Rattle.rasn_types.specs.declared.types.tag.Tag.{Tag}
use Rattle.rasn_types.specs.declared.error.decode.DecodeError.{DecodeError}
use Rattle.rasn_types.specs.Tags.{form, basic_form}
use Rattle.rasn_types.specs.Framing.{Frame, with_length, without_length, definite, indefinite, CompleteEncoding, CompleteEncodings, plain, closed, steps_of}
use Rattle.rasn_types.specs.Shapes.{looked_for}
use Rattle.rasn_de.specs.Any.{OpenAt, SkipsValue, BorrowsOpenType}
use Rattle.rasn_de.specs.Skipping.{Skipped}
use Rattle.rasn_de.specs.State.{State}
use Rattle.rasn_de.proofs.Headers.Fronts.{frame_shorter}
use Rattle.rasn_dynamic.specs.Walk.{path_at_depth}
use Rattle.rasn_dynamic.specs.declared.span.Span.{Span}
use Rattle.rasn_dynamic.specs.Faults.{start}
use Rattle.rasn_lint.specs.declared.open.Contents.{Contents}
use Rattle.rasn_lint.specs.declared.open.Pending.{Pending}
use Rattle.rasn_de.specs.ParserViews.{peeked_tag}
use Rattle.rasn_lint.specs.Header.{is_constructed}
use Rattle.rasn_lint.specs.Open.{IsEndLen, IsEndOf, IsAfterHeader, IsFoundIn, IsThere, IsPending, AllPending, IsReached, IsExtra, IsAfter, IsKept}
use Rattle.rasn_lint.specs.Untyped.{HasOpen, HasNoContents, HasContents, IsFollowedBy, IsUnread, FollowsAfter, HoldsAt, LeadsInto}
use Rattle.rasn_lint.specs.Listed.{IsOnlyRest}
use Rattle.rasn_lint.proofs.Noted.{all_append}

-- ---- end-of-contents octets

-- An encoding of definite length takes no steps to be skipped, and no octets end it; one of indefinite length takes some.
pub definite_parts : (octets : List ℕ) (tag : Tag) (bit : Bool) (c rest : List ℕ) → Frame basic_form octets tag bit rest (definite c)
    → (header : List ℕ) × (octets ≡ header ++ (c ++ rest)) × Skipped Ber octets 0 rest
definite_parts octets tag bit _ rest (with_length id len c a b s e) = (
  id ++ len,
  e ∙ sym (append_assoc id len (c ++ rest)),
  record {
    text = id ++ (len ++ (c ++ []));
    whole = plain tag bit c (with_length id len c a b s refl);
    is = e ∙ sym (simp append_assoc);
    steps_are = refl;
  },
)

pub indefinite_parts : (octets : List ℕ) (tag : Tag) (bit : Bool) (c body rest : List ℕ) → Frame basic_form octets tag bit body indefinite → CompleteEncodings Ber c → body ≡ c ++ (0 ∷ 0 ∷ rest)
    → (header : List ℕ) × (octets ≡ header ++ (c ++ (0 ∷ 0 ∷ rest))) × (k : ℕ) × Skipped Ber octets k rest × (0 < k)
indefinite_parts octets tag bit c body rest (without_length id a b i e) inside is = (
  id ++ 128 ∷ [],
  e ∙ ap (λ z. id ++ 128 ∷ z) is ∙ sym (append_assoc id (128 ∷ []) (c ++ (0 ∷ 0 ∷ rest))),
  1 + steps_of inside,
  record {
    text = id ++ (128 ∷ (c ++ (0 ∷ 0 ∷ [])));
    whole = closed tag bit (c ++ (0 ∷ 0 ∷ [])) c (without_length id a b i refl) inside refl;
    is = e ∙ ap (λ z. id ++ 128 ∷ z) is ∙ sym (simp append_assoc);
    steps_are = refl;
  },
  omega arith,
)

-- What the reader of an open type finds is in the octets, after a header and before what ends it.
split : (octets c rest front end : List ℕ) (n k : ℕ) → octets ≡ front ++ (c ++ (end ++ rest)) → length end ≡ n → n ≡ k
    → (header : List ℕ) × (after : List ℕ) × (octets ≡ header ++ (c ++ after)) × (length header ≡ ((length octets - length c) - length rest) - k)
split octets c rest front end n k e m q =
    let size = ap length e ∙ length-append front (c ++ (end ++ rest)) in
    let inner = length-append c (end ++ rest) in
    let last = length-append end rest in
    (front, end ++ rest, e, omega (arith, size, inner, last, m, q))

pub header_before : (tag : Option Tag) (octets c rest : List ℕ) (n : ℕ) → OpenAt Ber tag octets (Ok (c, rest)) → IsEndOf tag octets n
    → (header : List ℕ) × (after : List ℕ) × (octets ≡ header ++ (c ++ after)) × (length header ≡ ((length octets - length c) - length rest) - n)
header_before None octets c rest n ((text, e, w, is), one) h =
    let same : c ≡ text = cc in
    split octets c rest [] [] 0 n (is ∙ ap (λ z. z ++ rest) (sym same)) refl (sym h)
header_before (Some tag) octets c rest n ((bit, contents, e, strict, inl f), one) h =
    let same : contents ≡ c = cc in
    let p = definite_parts octets tag bit c rest (subst (λ z. Frame basic_form octets tag bit rest (definite z)) same f) in
    split octets c rest p.0 [] 0 n p.1 refl (sym (h.definite rest p.2))
header_before (Some tag) octets c rest n ((bit, contents, e, strict, inr (body, f, inside, is)), one) h =
    let same : contents ≡ c = cc in
    let p = indefinite_parts octets tag bit contents body rest f inside is in
    split octets c rest p.0 (0 ∷ 0 ∷ []) 2 n (subst (λ z. octets ≡ p.0 ++ (z ++ (0 ∷ 0 ∷ rest))) same p.1) refl (sym (h.indefinite p.2 rest p.3 p.4))

-- What skipping an encoding tells of its end.
module _ (octets : List ℕ) (s new : State) (at : s ≡ start Ber octets) where
  pub no_end : SkipsValue s (Ok 0) new → IsEndLen octets 0
  no_end h =
      let k = subst (λ z. SkipsValue z (Ok 0) new) at h in
      record { definite = λ rest x. refl; indefinite = λ n rest x p. let q = (k.0.1 n rest x).0 in absurd (omega (arith, q, p)) }

  pub some_end : (n : ℕ) → SkipsValue s (Ok n) new → n ≢ 0 → IsEndLen octets 2
  some_end n h m =
      let k = subst (λ z. SkipsValue z (Ok n) new) at h in
      record { definite = λ rest x. absurd (m (sym (k.0.1 0 rest x).0)); indefinite = λ i rest x p. refl }

  pub nothing_skipped : (e : DecodeError) → SkipsValue s (Err e) new → IsEndLen octets 0
  nothing_skipped e h =
      let k = subst (λ z. SkipsValue z (Err e) new) at h in
      record { definite = λ rest x. refl; indefinite = λ n rest x p. absurd (k.1.0 n rest x) }

  -- The encoding that is skipped, or none.
  pub unread : (e : DecodeError) → SkipsValue s (Err e) new → IsUnread octets
  unread e h rest (n, x) =
      let k = subst (λ z. SkipsValue z (Err e) new) at h in
      k.1.0 n rest x

  pub followed : (n : ℕ) (rest : List ℕ) → SkipsValue s (Ok n) new → rest ≡ new.rest → IsFollowedBy octets rest
  followed n rest h r =
      let k = subst (λ z. SkipsValue z (Ok n) new) at h in
      (n, subst (Skipped Ber octets n) (sym r) k.0.0)

  pub only_rest : (n : ℕ) (rest : List ℕ) → SkipsValue s (Ok n) new → rest ≡ new.rest → IsOnlyRest octets rest
  only_rest n rest h r other (m, x) =
      let k = subst (λ z. SkipsValue z (Ok n) new) at h in
      (k.0.1 m other x).1 ∙ sym r

  -- What an open type holds.
  pub opened_at : (tag : Tag) (o : Bor (List ℕ)) → BorrowsOpenType tag s (Ok o) new → OpenAt Ber (looked_for tag) octets (Ok (o.now, new.rest))
  opened_at tag o h = (subst (λ z. BorrowsOpenType tag z (Ok o) new) at h).0

-- Of the tag that is there no contents are found.
pub no_contents : (octets : List ℕ) (tag : Tag) → peeked_tag (form Ber) octets ≡ Ok tag → ((inside : List ℕ) → HasOpen tag octets inside → ⊥) → HasNoContents octets
no_contents octets tag p n other inside (q, h) = let e : other ≡ tag = cc in n inside (subst (λ t. HasOpen t octets inside) e h)

length_inside : (octets : List ℕ) (c : Contents) → IsAfterHeader octets c → length c.octets.now ≤ length octets
length_inside octets c (header, end, q, m) =
    let a = ap length q ∙ length-append header (c.octets.now ++ end) in
    let b = length-append c.octets.now end in
    omega (arith, a, b)

-- ---- the way inside

-- One encoding more is before what follows.
follows_one : (n : ℕ) (l m r : List ℕ) → FollowsAfter n l m → IsFollowedBy m r → FollowsAfter (suc n) l r
follows_one zero l m r e h = (r, subst (λ z. IsFollowedBy z r) e h, refl)
follows_one (suc n) l m r (more, f, g) h = (more, f, follows_one n more m r g h)

holds_next : (k : ℕ) (holder octets rest : List ℕ) → HoldsAt k holder octets → IsFollowedBy octets rest → HoldsAt (suc k) holder rest
holds_next k holder octets rest h f = record { constructed = h.constructed; tag = h.tag; contents = h.contents; has = h.has; follows = follows_one k h.contents octets rest h.follows f }

-- One index more leads one encoding deeper.
leads_more : (ks : List ℕ) (k : ℕ) (a b c : List ℕ) → LeadsInto ks a b → HoldsAt k b c → LeadsInto (ks ++ k ∷ []) a c
leads_more [] k a b c e h = (c, subst (λ z. HoldsAt k z c) e h, refl)
leads_more (j ∷ js) k a b c (first, f, g) h = (first, f, leads_more js k first b c g h)

-- A path is cut, and an index appended.
cut_same : (d k : ℕ) (path : List ℕ) → d ≤ length path → take d (take d path ++ k ∷ []) ≡ take d path
cut_same d k path h =
    let n : length (take d path) ≡ d = length-take-le d path h in
    subst (λ z. take z (take d path ++ k ∷ []) ≡ take d path) n (take-append_seam (take d path) (k ∷ []))

cut_longer : (d k : ℕ) (path : List ℕ) → d ≤ length path → length (take d path ++ k ∷ []) ≡ suc d
cut_longer d k path h = let n = length-take-le d path h in let m = length-append (take d path) (k ∷ []) in omega (arith, n, m)

take_take : (m d : ℕ) (path : List ℕ) → m ≤ d → d ≤ length path → take m (take d path) ≡ take m path
take_take m d path h g =
    let n = length-take-le d path g in
    sym (ap (λ z. take m z) (sym (take-append-drop d path)) ∙ take-append-le m (take d path) (drop d path) (omega (arith, n, h)))

pub cut_shorter : (m d k : ℕ) (path : List ℕ) → m ≤ d → d ≤ length path → take m (take d path ++ k ∷ []) ≡ take m path
cut_shorter m d k path h g =
    let n : length (take d path) ≡ d = length-take-le d path g in
    take-append-le m (take d path) (k ∷ []) (omega (arith, n, h)) ∙ take_take m d path h g

-- An encoding takes an octet at least.
encoding_some : (text : List ℕ) → CompleteEncoding Ber text → 2 ≤ length text
encoding_some text (plain tag bit c f) = let n = frame_shorter f in omega (arith, n)
encoding_some text (closed tag bit body nested f inside is) = let n = frame_shorter f in omega (arith, n)

pub followed_shorter : (octets rest : List ℕ) → IsFollowedBy octets rest → length rest + 2 ≤ length octets
followed_shorter octets rest (k, s) =
    let n = encoding_some s.text s.whole in
    let m = ap length s.is ∙ length-append s.text rest in
    omega (arith, n, m)

-- ---- places in a part

-- The contents of an encoding in a part, and what follows the encoding there.
module _ (e : Span) where
  pub found_inside : (octets : List ℕ) (left new_left : ℕ) (c : Contents) → IsFoundIn e octets left → IsAfterHeader octets c → new_left ≡ left - c.header_len → IsFoundIn e c.octets.now new_left
  found_inside octets left new_left c (front, back, p, n) (header, end, q, m) k =
      let size = length-append front header in (
        front ++ header,
        end ++ back,
        p ∙ ap (λ z. front ++ (z ++ back)) q ∙ sym (simp append_assoc),
        omega (arith, size, n, m, k),
      )

  found_after : (octets rest : List ℕ) (left new_left : ℕ) → IsFoundIn e octets left → IsFollowedBy octets rest → new_left ≡ left - (length octets - length rest) → IsFoundIn e rest new_left
  found_after octets rest left new_left (front, back, p, n) (k, s) q =
      let size = length-append front s.text in
      let all = ap length s.is ∙ length-append s.text rest in (
        front ++ s.text,
        back,
        p ∙ ap (λ z. front ++ (z ++ back)) s.is ∙ sym (simp append_assoc),
        omega (arith, size, all, n, q),
      )

  -- ---- encodings that are still to be looked at

  all_snoc : (inside path : List ℕ) (ps : List Pending) (p : Pending) → AllPending e inside path ps → IsPending e inside path p → AllByRecursion (λ (q : Pending). q.depth ≤ p.depth) ps → AllPending e inside path (ps ++ p ∷ [])
  all_snoc inside path [] p a h b = (h, tt, tt)
  all_snoc inside path (q ∷ qs) p (h, o, a) g (b, bs) = (h, all_append (λ (x : Pending). q.depth ≤ x.depth) qs (p ∷ []) o (b, tt), all_snoc inside path qs p a g bs)

  all_front : (P : Pending → Type 0) (ps : List Pending) (p : Pending) → AllByRecursion P (ps ++ p ∷ []) → AllByRecursion P ps
  all_front P [] p h = tt
  all_front P (q ∷ qs) p h = (h.0, all_front P qs p h.1)

  all_last : (P : Pending → Type 0) (ps : List Pending) (p : Pending) → AllByRecursion P (ps ++ p ∷ []) → P p
  all_last P [] p h = h.0
  all_last P (q ∷ qs) p h = all_last P qs p h.1

  -- The last of them is taken.
  taken : (inside path : List ℕ) (ps : List Pending) (p : Pending) → AllPending e inside path (ps ++ p ∷ []) → AllPending e inside path ps × IsPending e inside path p × AllByRecursion (λ (q : Pending). q.depth ≤ p.depth) ps
  taken inside path [] p (h, o, a) = (tt, h, tt)
  taken inside path (q ∷ qs) p (h, o, a) =
      let r = taken inside path qs p a in
      ((h, all_front (λ (x : Pending). q.depth ≤ x.depth) qs p o, r.0), r.1, (all_last (λ (x : Pending). q.depth ≤ x.depth) qs p o, r.2))

  -- The path goes on to encodings; those that are in no more encodings stay where they are.
  module _ (inside path new : List ℕ) (d k : ℕ) (went : new ≡ path_at_depth d path k) where
    stays_there : (n i : ℕ) (octets : List ℕ) → n ≤ d → ((m : ℕ) → d ≡ suc m → m ≤ length path) → IsThere inside path n i octets → IsThere inside new n i octets
    stays_there zero i octets h g t = t
    stays_there (suc n) i octets h g (below, holder, leads, holds) = go d refl
      where
        go : (x : ℕ) → d ≡ x → IsThere inside new (suc n) i octets
        go zero q = absurd (omega (arith, h, q))
        go (suc m) q =
            let within : m ≤ length path = g m q in
            let is : new ≡ take m path ++ k ∷ [] = went ∙ ap (λ z. path_at_depth z path k) q in
            let size : length new ≡ suc m = ap length is ∙ cut_longer m k path within in
            let same : take n new ≡ take n path = ap (λ z. take n z) is ∙ cut_shorter n m k path (omega (arith, h, q)) within in
            (omega (arith, size, h, q), holder, subst (λ z. LeadsInto z inside holder) (sym same) leads, holds)

    stays : (p : Pending) → p.depth ≤ d → ((m : ℕ) → d ≡ suc m → m ≤ length path) → IsPending e inside path p → IsPending e inside new p
    stays p h g w = record { found = w.found; size = w.size; there = stays_there p.depth p.index p.octets.now h g w.there }

    all_stay : (ps : List Pending) → AllByRecursion (λ (q : Pending). q.depth ≤ d) ps → ((m : ℕ) → d ≡ suc m → m ≤ length path) → AllPending e inside path ps → AllPending e inside new ps
    all_stay [] b g a = tt
    all_stay (p ∷ ps) (b, bs) g (h, o, a) = (stays p b g h, o, all_stay ps bs g a)

    reached_itself : (n : ℕ) → d ≡ n → ((m : ℕ) → d ≡ suc m → m ≤ length path) → new ≡ path_at_depth n new k
    reached_itself zero q g = went ∙ ap (λ z. path_at_depth z path k) q
    reached_itself (suc m) q g =
        let is : new ≡ take m path ++ k ∷ [] = went ∙ ap (λ z. path_at_depth z path k) q in
        is ∙ ap (λ z. z ++ k ∷ []) (sym (ap (λ z. take m z) is ∙ cut_same m k path (g m q)))

  within : (inside path : List ℕ) (d k : ℕ) (octets : List ℕ) → IsThere inside path d k octets → (m : ℕ) → d ≡ suc m → m ≤ length path
  within inside path d k octets t m q = (subst (λ z. IsThere inside path z k octets) q t).0

  -- The path has the indices of the last of them, and the others are in no more encodings.
  pub fits_below : (inside path : List ℕ) (old others : List Pending) (p : Pending) → AllPending e inside path old → old ≡ others ++ p ∷ []
      → ((m : ℕ) → p.depth ≡ suc m → m ≤ length path) × AllByRecursion (λ (q : Pending). q.depth ≤ p.depth) others
  fits_below inside path old others p a q =
      let r = taken inside path others p (subst (AllPending e inside path) q a) in
      (within inside path p.depth p.index p.octets.now r.1.there, r.2)

  pub reached : (inside path new : List ℕ) (old others : List Pending) (p : Pending) → AllPending e inside path old → old ≡ others ++ p ∷ [] → new ≡ path_at_depth p.depth path p.index → IsReached e inside new p others
  reached inside path new old others p a q went =
      let r = taken inside path others p (subst (AllPending e inside path) q a) in
      let w = within inside path p.depth p.index p.octets.now r.1.there in
      record {
        pending = stays inside path new p.depth p.index went p (omega arith) w r.1;
        path_is = reached_itself inside path new p.depth p.index went p.depth refl w;
        below = r.2;
        all = all_stay inside path new p.depth p.index went others r.2 w r.0;
      }

  -- The first encodings are all those of the open type.
  pub outermost : (p : Pending) → IsFoundIn e p.octets.now p.left → p.index ≡ 0 → p.depth ≡ 0 → length p.octets.now < 2 ^ 64 → AllPending e p.octets.now [] (p ∷ [])
  outermost p h i d n = (
    record {
      found = h;
      size = omega (arith, i, n);
      there = subst (λ z. IsThere p.octets.now [] z p.index p.octets.now) (sym d) (inl (i, refl));
    },
    tt,
    tt,
  )

  module _ (inside path : List ℕ) (next : Pending) where
    -- The path leads to what isn't extra.
    pub leads_there : (others : List Pending) → IsReached e inside path next others → (IsExtra next → ⊥) → LeadsInto path inside next.octets.now
    leads_there others r n = go next.depth refl r.pending.there r.path_is
      where
        go : (d : ℕ) → next.depth ≡ d → IsThere inside path d next.index next.octets.now → path ≡ path_at_depth d path next.index → LeadsInto path inside next.octets.now
        go zero q (inl (i, o)) p = subst (λ z. LeadsInto z inside next.octets.now) (sym p) o
        go zero q (inr (i, s, f)) p = absurd (n (q, i))
        go (suc d) q (b, holder, leads, holds) p = subst (λ z. LeadsInto z inside next.octets.now) (sym p) (leads_more (take d path) next.index inside holder next.octets.now leads holds)

    -- Those after the first encoding of the open type.
    pub extra_follows : (others : List Pending) → IsReached e inside path next others → IsExtra next → (path ≡ []) × (next.octets.now ≢ []) × IsFollowedBy inside next.octets.now
    extra_follows others r (d, i) = go (subst (λ z. IsThere inside path z next.index next.octets.now) d r.pending.there)
      where
        go : ((next.index ≡ 0) × (next.octets.now ≡ inside)) ⊎ ((0 < next.index) × (next.octets.now ≢ []) × IsFollowedBy inside next.octets.now) → (path ≡ []) × (next.octets.now ≢ []) × IsFollowedBy inside next.octets.now
        go (inl (q, o)) = absurd (omega (arith, q, i))
        go (inr (q, s, b)) = (r.path_is ∙ ap (λ z. path_at_depth z path next.index) d, s, b)

    after_there : (d : ℕ) (rest : List ℕ) → next.depth ≡ d → (IsExtra next → ⊥) → IsFollowedBy next.octets.now rest → rest ≢ [] → IsThere inside path d next.index next.octets.now → IsThere inside path d (suc next.index) rest
    after_there zero rest q n f s (inl (i, o)) = inr (omega arith, s, subst (λ z. IsFollowedBy z rest) o f)
    after_there zero rest q n f s (inr (i, x, y)) = absurd (n (q, i))
    after_there (suc d) rest q n f s (b, holder, leads, holds) = (b, holder, leads, holds_next next.index holder next.octets.now rest holds f)

    pending_after : (rest : List ℕ) (p : Pending) → IsPending e inside path next → (IsExtra next → ⊥) → IsFollowedBy next.octets.now rest → IsAfter next rest p → p.octets.now ≢ [] → IsPending e inside path p
    pending_after rest p h n f a s =
        let small = followed_shorter next.octets.now rest f in
        let size = h.size in
        let index = a.index in
        let i : p.index ≡ suc next.index = omega (arith, size, small, index) in
        let o = a.octets in
        record {
          found = subst (λ z. IsFoundIn e z p.left) (sym o) (found_after next.octets.now rest next.left p.left h.found f a.left);
          size = let l = ap length o in omega (arith, size, small, i, l);
          there = subst (λ z. IsThere inside path z p.index p.octets.now) (sym a.depth)
              (subst (λ z. IsThere inside path next.depth z p.octets.now) (sym i)
              (subst (λ z. IsThere inside path next.depth (suc next.index) z) (sym o)
              (after_there next.depth rest refl n f (λ z. s (o ∙ z)) h.there)));
        }

    -- What follows is kept.
    pub reached_after : (rest : List ℕ) (p : Pending) (old new : List Pending) → IsReached e inside path next old → (IsExtra next → ⊥) → IsFollowedBy next.octets.now rest → IsAfter next rest p → IsKept p old new → IsReached e inside path next new
    reached_after rest p old new r n f a (inl (q, z)) = subst (IsReached e inside path next) (sym z) r
    reached_after rest p old new r n f a (inr (s, z)) =
        let w = pending_after rest p r.pending n f a s in
        let same : p.depth ≤ next.depth = omega (arith, a.depth) in
        let low : AllByRecursion (λ (q : Pending). q.depth ≤ p.depth) old = subst (λ x. AllByRecursion (λ (q : Pending). q.depth ≤ x) old) (sym a.depth) r.below in
        subst (IsReached e inside path next) (sym z) (
        record {
          pending = r.pending;
          path_is = r.path_is;
          below = all_append (λ (q : Pending). q.depth ≤ next.depth) old (p ∷ []) r.below (same, tt);
          all = all_snoc inside path old p r.all w low;
        }
        )

    -- What is inside is kept.
    deep : (others : List Pending) → IsReached e inside path next others → length path ≡ next.depth
    deep others r = go next.depth refl r.pending.there r.path_is
      where
        go : (d : ℕ) → next.depth ≡ d → IsThere inside path d next.index next.octets.now → path ≡ path_at_depth d path next.index → length path ≡ next.depth
        go zero q t p = ap length p ∙ sym q
        go (suc d) q t p = ap length p ∙ (cut_longer d next.index path t.0 ∙ sym q)

    below_more : (d : ℕ) (ps : List Pending) → next.depth ≤ d → AllByRecursion (λ (q : Pending). q.depth ≤ next.depth) ps → AllByRecursion (λ (q : Pending). q.depth ≤ d) ps
    below_more d [] h a = tt
    below_more d (p ∷ ps) h (b, a) = (omega (arith, b, h), below_more d ps h a)

    pub kept_inside : (tag : Tag) (c : Contents) (p : Pending) (old new : List Pending) → IsReached e inside path next old → (IsExtra next → ⊥) → is_constructed next.octets.now ≡ true → HasContents tag next.octets.now c.octets.now → IsAfterHeader next.octets.now c
        → p.octets ≡ c.octets → p.index ≡ 0 → p.depth ≡ length path + 1 → p.left ≡ next.left - c.header_len → IsKept p old new → AllPending e inside path new
    kept_inside tag c p old new r n bit has header o i d l (inl (q, z)) = subst (AllPending e inside path) (sym z) r.all
    kept_inside tag c p old new r n bit has header o i d l (inr (s, z)) =
        let size = deep old r in
        let is : p.depth ≡ suc (length path) = omega (arith, d) in
        let now : p.octets.now ≡ c.octets.now = ap (λ (x : Bor (List ℕ)). x.now) o in
        let whole : take (length path) path ≡ path = take-length path in
        let holds : HoldsAt 0 next.octets.now p.octets.now = record { constructed = bit; tag = tag; contents = c.octets.now; has = has; follows = now } in
        let there : IsThere inside path (suc (length path)) 0 p.octets.now = (omega arith, next.octets.now, subst (λ x. LeadsInto x inside next.octets.now) (sym whole) (leads_there old r n), holds) in
        let w : IsPending e inside path p = record {
          found = subst (λ x. IsFoundIn e x p.left) (sym now) (found_inside next.octets.now next.left p.left c r.pending.found header l);
          size = let x = r.pending.size in let y = length_inside next.octets.now c header in let v = ap length now in omega (arith, i, x, y, v);
          there = subst (λ x. IsThere inside path x p.index p.octets.now) (sym is) (subst (λ x. IsThere inside path (suc (length path)) x p.octets.now) (sym i) there);
        } in
        subst (AllPending e inside path) (sym z) (all_snoc inside path old p r.all w (below_more p.depth old (omega (arith, is, size)) r.below))

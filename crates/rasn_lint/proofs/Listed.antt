-- No departure inside a value of an open type is left out.
use Rattle.std.specs.Prelude.{MatchOption}
use Rattle.std.proofs.Common.{◌≡◌, ◌≢◌, ◌⊎◌, inl, inr, ◌<◌, ◌≤◌, ◌+◌, ℕ, zero, suc, take, List, [], ◌∷◌, ◌++◌, length, Bool, true, false, if◌then◌else◌, Option, Some, None, Result, Ok, Err, Vec, refl, sym, ap, ◌∙◌, subst, append_assoc, append-nil, arith, length-append, Bor}
use Rattle.std.proofs.Math.Seq.{take-length}
use Rattle.std.proofs.lemmas.List.{append_cancel_left}
use Rattle.std.specs.List.{AllByRecursion}
use Rattle.std.specs.Global.{Global}
use Rattle.rasn_types.specs.declared.types.codec.Codec.TheVariants.{Ber, Der}
use Rattle.rasn_types.specs.declared.types.tag.Tag.{Tag}
use Rattle.rasn_types.specs.declared.error.decode.DecodeError.{DecodeError}
use Rattle.rasn_types.specs.Tags.{form, basic_form, is_eoc}
use Rattle.rasn_types.specs.Framing.{Frame, with_length, SpellsAnyIdentifier, definite}
use Rattle.rasn_de.specs.Any.{OpenAt}
use Rattle.rasn_de.specs.Causes.{error_kind}
use Rattle.rasn_de.specs.Headers.{◌>>=◌, identifier_by, tag_number_at, checked_identifier, tag_of}
use Rattle.rasn_de.specs.ParserViews.{peeked_tag, identified_tag}
use Rattle.rasn_de.specs.declared.ber.de.parser.ParseError.{ParseError}
use Rattle.rasn_types.proofs.Headers.Frames.{next_one}
use Rattle.rasn_dynamic.specs.Walk.{path_at_depth}
use Rattle.rasn_dynamic.specs.declared.span.Span.{Span}
use Rattle.rasn_lint.specs.declared.departure.Departure.{Departure}
use Rattle.rasn_lint.specs.declared.departure.Aspect.{Aspect}
use Rattle.rasn_lint.specs.declared.departure.Aspect.TheVariants.{Header, Contents, Place}
use Rattle.rasn_lint.specs.declared.judge.Faults.{Faults}
use Rattle.rasn_lint.specs.declared.judge.Site.{Site}
use Rattle.rasn_lint.specs.declared.open.Pending.{Pending}
use Rattle.rasn_lint.specs.Header.{is_constructed, IsTagFault, IsOfLength, IsLengthFault, IsLengthFaultAfter}
use Rattle.rasn_lint.specs.Judged.{IsCopied, IsSiteAt, AreNoted, AreListed}
use Rattle.rasn_lint.specs.Listed.{DepartsItself, LeadsToOne, DepartsIn, HasOne, HasAll, OwesAt, Owes, OneOwes, octets_left, AreSome, IsOnlyRest, OwesWithin, IsLookedInto, IsLooked, HasAllOfEach, IsSplit, IsListedUpTo}
use Rattle.rasn_lint.specs.Open.{AllPending, IsReached, IsExtra, IsAfter, IsKept}
use Rattle.rasn_lint.specs.Refusals.{form_error, IsContentsError}
use Rattle.rasn_lint.specs.Universal.{rule_of}
use Rattle.rasn_lint.specs.Untyped.{HasOpen, HasContents, HasNoContents, HasNoForm, HasWrongContents, IsFollowedBy, IsUnread, FollowsAfter, IsValueIn, AreUntypedFaults}
use Rattle.rasn_lint.specs.WellFormed.{IsWellFormed, AllowsEncoding}
use Rattle.rasn_lint.proofs.Wholes.{first_or_later}
use Rattle.rasn_lint.proofs.Opened.{cut_shorter, fits_below, definite_parts, indefinite_parts, followed_shorter}

-- ---- encodings

-- The tag of a value isn't that of end-of-contents octets.
not_end : (octets : List ℕ) (tag : Tag) → peeked_tag (form Ber) octets ≡ Ok tag → is_eoc tag ≡ false
unfolding identifier_by
not_end [] tag e = cc
not_end (b ∷ l) tag e = go (tag_number_at b l) e
  where
    checked : (p : ℕ × List ℕ) (x : Bool) → is_eoc (tag_of b p.0) ≡ x → identified_tag (checked_identifier false b l p) ≡ Ok tag → is_eoc tag ≡ false
    checked p true q h = cc
    checked p false q h = let same : tag_of b p.0 ≡ tag = cc in subst (λ t. is_eoc t ≡ false) same q

    go : (r : Result (ℕ × List ℕ) ParseError) → identified_tag (r >>= checked_identifier false b l) ≡ Ok tag → is_eoc tag ≡ false
    go (Err d) h = cc
    go (Ok p) h = checked p (is_eoc (tag_of b p.0)) refl h

some_identifier : (id : List ℕ) (tag : Tag) (bit : Bool) → SpellsAnyIdentifier id tag bit → 1 ≤ length id
some_identifier [] tag bit h = absurd h
some_identifier (b ∷ l) tag bit h = omega arith

frame_size : (octets : List ℕ) (tag : Tag) (bit : Bool) (c rest : List ℕ) → Frame basic_form octets tag bit rest (definite c) → length c + length rest < length octets
frame_size octets tag bit _ rest (with_length id len c a b s e) =
    let n = ap length e ∙ length-append id (len ++ (c ++ rest)) in
    let m = length-append len (c ++ rest) in
    let k = length-append c rest in
    let i = some_identifier id tag bit a.spells in
    omega (arith, n, m, k, i)

-- Octets follow an encoding whose contents are found.
pub contents_end : (octets : List ℕ) (tag : Tag) (c : List ℕ) → HasContents tag octets c → (rest : List ℕ) × IsFollowedBy octets rest × (length c + length rest < length octets)
contents_end octets tag c (p, (rest, h)) =
    let pick : Bool → Option Tag = λ b. if b then None else Some tag in
    go (subst (λ o. OpenAt Ber o octets (Ok (c, rest))) (ap pick (not_end octets tag p)) h)
  where
    go : OpenAt Ber (Some tag) octets (Ok (c, rest)) → (r : List ℕ) × IsFollowedBy octets r × (length c + length r < length octets)
    go ((bit, contents, e, strict, inl f), one) =
        let same : contents ≡ c = cc in
        let g = subst (λ z. Frame basic_form octets tag bit rest (definite z)) same f in
        let d = definite_parts octets tag bit c rest g in
        (rest, (0, d.2), frame_size octets tag bit c rest g)
    go ((bit, contents, e, strict, inr (body, f, inside, is)), one) =
        let same : contents ≡ c = cc in
        let d = indefinite_parts octets tag bit contents body rest f inside is in
        let n = ap length d.1 ∙ length-append d.0 (contents ++ (0 ∷ 0 ∷ rest)) in
        let m = length-append contents (0 ∷ 0 ∷ rest) in
        let k = ap length same in
        (rest, (d.2, d.3), omega (arith, n, m, k))

-- They are the only ones.
pub same_open : (octets : List ℕ) (tag : Tag) (c d : List ℕ) → HasOpen tag octets c → HasOpen tag octets d → c ≡ d
same_open octets tag c d (r, h) (s, k) = let e = (h.1 _ s k.0).0 in cc

same_contents : (octets : List ℕ) (s t : Tag) (c d : List ℕ) → HasContents s octets c → HasContents t octets d → (s ≡ t) × (c ≡ d)
same_contents octets s t c d (p, h) (q, k) =
    let e : s ≡ t = cc in
    (e, same_open octets t c d (subst (λ z. HasOpen z octets c) e h) k)

-- ---- nothing departs in no octets

pub no_rest : (rest : List ℕ) → IsFollowedBy [] rest → ⊥
no_rest rest h = let n = followed_shorter [] rest h in omega (arith, n)

pub leads_nowhere : (js : List ℕ) (aspect : Aspect) → LeadsToOne js [] aspect → ⊥
leads_nowhere [] aspect (there, s, e, x) = s e
leads_nowhere (k ∷ ks) aspect (there, s, (first, h, l), x) = let b = h.constructed in cc

owes_none : (path : List ℕ) (d k : ℕ) (octets indices : List ℕ) (aspect : Aspect) → octets ≡ [] → OwesAt path d k octets indices aspect → ⊥
owes_none path d k octets indices aspect e h = go d k (subst (λ z. OwesAt path d k z indices aspect) e h)
  where
    go : (n m : ℕ) → OwesAt path n m [] indices aspect → ⊥
    go zero zero (inl x) = leads_nowhere indices aspect x
    go zero zero (inr (i, a, rest, s, f)) = no_rest rest f
    go zero (suc m) (s, i, a) = s refl
    go (suc n) m (zero, first, js, i, f, l) = leads_nowhere js aspect (subst (λ z. LeadsToOne js z aspect) f l)
    go (suc n) m (suc j, first, js, i, (more, f, g), l) = no_rest more f

-- ---- departures that are listed

pub one_before : (indices : List ℕ) (aspect : Aspect) (ds es : List Departure) → HasOne indices aspect ds → HasOne indices aspect (ds ++ es)
one_before indices aspect [] es h = absurd h
one_before indices aspect (d ∷ ds) es (inl h) = inl h
one_before indices aspect (d ∷ ds) es (inr h) = inr (one_before indices aspect ds es h)

pub one_after : (indices : List ℕ) (aspect : Aspect) (ds es : List Departure) → HasOne indices aspect es → HasOne indices aspect (ds ++ es)
one_after indices aspect [] es h = h
one_after indices aspect (d ∷ ds) es h = inr (one_after indices aspect ds es h)

module _ (len left : ℕ) (e : Span) (path : List ℕ) (indices : Bor (List ℕ)) (site : Site) (at : IsSiteAt len left e path (Some indices) site) where
  copied_one : (o : Option (Bor (List ℕ))) (v : Option (Vec ℕ Global)) → o ≡ Some indices → IsCopied o v → (w : Vec ℕ Global) × (v ≡ Some w) × (w.items ≡ indices.now)
  copied_one None v p h = let q : Some indices ≡ None = sym p in cc
  copied_one (Some x) v p (w, r, is) = let q : x ≡ indices = cc in (w, r, is ∙ ap (λ (z : Bor (List ℕ)). z.now) q)

  pub noted_one : (aspect : Aspect) (error : DecodeError) (ds : List Departure) → AreNoted site aspect (Some error) ds → HasOne indices.now aspect ds
  noted_one aspect error ds (d, q, h) =
      let v = copied_one site.inner d.inner at.inner_is h.inner in
      subst (HasOne indices.now aspect) (sym q) (inl (v.0, v.1, v.2, h.aspect_is))

  -- What is appended at once.
  pub appended_one : (aspect : Aspect) (error : DecodeError) (a b ds : List Departure) → ((es : List Departure) × (b ≡ a ++ es) × AreNoted site aspect (Some error) es) → b ≡ a ++ ds → HasOne indices.now aspect ds
  appended_one aspect error a b ds (es, p, h) q = subst (HasOne indices.now aspect) (append_cancel_left a es ds (sym p ∙ q)) (noted_one aspect error es h)

  -- Of an encoding that BER reads each departure of its own is listed.
  module _ (f : Faults) (ds : List Departure) (l : AreListed site f ds) (tag : Tag) (contents octets : List ℕ) (u : AreUntypedFaults tag contents octets f) where
    in_tag : (x : DecodeError) → f.tag ≡ Some x → HasOne indices.now Header ds
    in_tag x q = subst (HasOne indices.now Header) (sym l.are)
        (one_after indices.now Header l.order _ (one_after indices.now Header l.default _ (one_before indices.now Header l.tag _ (noted_one Header x l.tag (subst (λ o. AreNoted site Header o l.tag) q l.by_tag)))))

    in_form : (x : DecodeError) → f.form ≡ Some x → HasOne indices.now Header ds
    in_form x q = subst (HasOne indices.now Header) (sym l.are)
        (one_after indices.now Header l.order _ (one_after indices.now Header l.default _ (one_after indices.now Header l.tag _ (one_before indices.now Header l.form _ (noted_one Header x l.form (subst (λ o. AreNoted site Header o l.form) q l.by_form))))))

    in_length : (x : DecodeError) → f.length ≡ Some x → HasOne indices.now Header ds
    in_length x q = subst (HasOne indices.now Header) (sym l.are)
        (one_after indices.now Header l.order _ (one_after indices.now Header l.default _ (one_after indices.now Header l.tag _ (one_after indices.now Header l.form _ (one_before indices.now Header l.length _ (noted_one Header x l.length (subst (λ o. AreNoted site Header o l.length) q l.by_length)))))))

    in_contents : (x : DecodeError) → f.contents ≡ Some x → HasOne indices.now Contents ds
    in_contents x q = subst (HasOne indices.now Contents) (sym l.are)
        (one_after indices.now Contents l.order _ (one_after indices.now Contents l.default _ (one_after indices.now Contents l.tag _ (one_after indices.now Contents l.form _ (one_after indices.now Contents l.length _ (noted_one Contents x l.contents (subst (λ o. AreNoted site Contents o l.contents) q l.in_contents)))))))

    by_tag : (e : DecodeError) (o : Option DecodeError) → o ≡ f.tag → IsTagFault octets o → IsTagFault octets (Some e) → HasOne indices.now Header ds
    by_tag e None q (t, h) (x, k, w) = cc
    by_tag e (Some x) q h k = in_tag x (sym q)

    one_length : (t : Tag) (more : List ℕ) (x : DecodeError) → IsLengthFaultAfter t more None → IsLengthFaultAfter t more (Some x) → ⊥
    one_length t more x (None, (h, p), k) ((y, rest, q, w), n) = cc
    one_length t more x (Some z, (y, rest, p, w), k) ((y', rest', q, w'), n) =
        let make : ParseError → DecodeError = λ v. record { kind = error_kind v; codec = Der } in
        let both : ◌≡◌ {A = ParseError × List ℕ} (y, rest) (y', rest') = cc in
        let fault : y ≡ y' = ap (λ (v : ParseError × List ℕ). v.0) both in
        let same : z ≡ x = w ∙ (ap make fault ∙ sym w') in
        k (subst IsOfLength (sym same) n)

    no_length : (x : DecodeError) → IsLengthFault octets None → IsLengthFault octets (Some x) → ⊥
    no_length x (inl (t, n, h)) (inl (s, m, k)) = one_length t octets x h (subst (λ z. IsLengthFaultAfter z octets (Some x)) (next_one octets s t m n) k)
    no_length x (inl (t, n, h)) (inr (m, k)) = m t n
    no_length x (inr (n, h)) (inl (s, m, k)) = n s m
    no_length x (inr (n, h)) (inr (m, k)) = one_length _ _ x h k

    by_length : (e : DecodeError) (o : Option DecodeError) → o ≡ f.length → IsLengthFault octets o → IsLengthFault octets (Some e) → HasOne indices.now Header ds
    by_length e None q h k = absurd (no_length e h k)
    by_length e (Some x) q h k = in_length x (sym q)

    by_form : (o : Option DecodeError) → o ≡ f.form → MatchOption o (HasNoForm (rule_of tag) (is_constructed octets) → ⊥) (λ e. HasNoForm (rule_of tag) (is_constructed octets) × (e ≡ form_error (rule_of tag) (is_constructed octets))) → HasNoForm (rule_of tag) (is_constructed octets) → HasOne indices.now Header ds
    by_form None q h k = absurd (h k)
    by_form (Some x) q h k = in_form x (sym q)

    by_contents : (o : Option DecodeError) → o ≡ f.contents → MatchOption o (HasWrongContents tag (is_constructed octets) contents → ⊥) (λ e. AllowsEncoding false tag (is_constructed octets) contents × IsContentsError (rule_of tag) tag (is_constructed octets) contents e)
        → HasWrongContents tag (is_constructed octets) contents → HasOne indices.now Contents ds
    by_contents None q h k = absurd (h k)
    by_contents (Some x) q h k = in_contents x (sym q)

    pub own_listed : HasContents tag octets contents → (rest : List ℕ) → IsFollowedBy octets rest → (aspect : Aspect) → DepartsItself aspect octets → HasOne indices.now aspect ds
    own_listed has rest fo Header (inl (e, inl x)) = by_tag e f.tag refl u.by_tag x
    own_listed has rest fo Header (inl (e, inr x)) = by_length e f.length refl u.by_length x
    own_listed has rest fo Header (inr (inl (t, c, h, x))) =
        by_form f.form refl u.by_form (subst (λ z. HasNoForm (rule_of z) (is_constructed octets)) (same_contents octets t tag c contents h has).0 x)
    own_listed has rest fo Header (inr (inr (inl x))) = absurd (x tag contents has)
    own_listed has rest fo Header (inr (inr (inr x))) = absurd (x rest fo)
    own_listed has rest fo Contents (t, c, h, x) =
        let s = same_contents octets t tag c contents h has in
        by_contents f.contents refl u.in_contents (subst (λ z. HasWrongContents tag (is_constructed octets) z) s.1 (subst (λ z. HasWrongContents z (is_constructed octets) c) s.0 x))
    own_listed has rest fo Place x = absurd x

-- Octets that BER doesn't read, or of which it finds no contents, depart in their header alone.
pub unread_header : (octets : List ℕ) → ((tag : Tag) (c : List ℕ) → HasContents tag octets c → ⊥) → (path indices js : List ℕ) (aspect : Aspect) → indices ≡ path ++ js → LeadsToOne js octets aspect → (indices ≡ path) × (aspect ≡ Header)
unread_header octets n path indices [] Header e l = (e ∙ append-nil path, refl)
unread_header octets n path indices [] Contents e (there, s, q, (t, c, h, x)) = absurd (n t c (subst (λ z. HasContents t z c) q h))
unread_header octets n path indices [] Place e (there, s, q, x) = absurd x
unread_header octets n path indices (k ∷ ks) aspect e (there, s, (first, h, l), x) = absurd (n h.tag h.contents h.has)

-- ---- encodings that are kept

module _ (path indices : List ℕ) (aspect : Aspect) where
  owes_more : (ps : List Pending) (p : Pending) → OneOwes path ps indices aspect → OneOwes path (ps ++ p ∷ []) indices aspect
  owes_more [] p h = absurd h
  owes_more (q ∷ qs) p (inl h) = inl h
  owes_more (q ∷ qs) p (inr h) = inr (owes_more qs p h)

  owes_last : (ps : List Pending) (p : Pending) → Owes path p indices aspect → OneOwes path (ps ++ p ∷ []) indices aspect
  owes_last [] p h = inl h
  owes_last (q ∷ qs) p h = inr (owes_last qs p h)

  pub last_owes : (ps : List Pending) (p : Pending) → OneOwes path (ps ++ p ∷ []) indices aspect → OneOwes path ps indices aspect ⊎ Owes path p indices aspect
  last_owes [] p (inl h) = inr h
  last_owes [] p (inr h) = absurd h
  last_owes (q ∷ qs) p (inl h) = inl (inl h)
  last_owes (q ∷ qs) p (inr h) = go (last_owes qs p h)
    where
      go : OneOwes path qs indices aspect ⊎ Owes path p indices aspect → (Owes path q indices aspect ⊎ OneOwes path qs indices aspect) ⊎ Owes path p indices aspect
      go (inl x) = inl (inr x)
      go (inr x) = inr x

  pub kept_owes : (p : Pending) (old new : List Pending) → IsKept p old new → OneOwes path old indices aspect → OneOwes path new indices aspect
  kept_owes p old new (inl (q, z)) h = subst (λ x. OneOwes path x indices aspect) (sym z) h
  kept_owes p old new (inr (s, z)) h = subst (λ x. OneOwes path x indices aspect) (sym z) (owes_more old p h)

  pub now_owes : (p : Pending) (old new : List Pending) → IsKept p old new → Owes path p indices aspect → OneOwes path new indices aspect
  now_owes p old new (inl (q, z)) h = absurd (owes_none path p.depth p.index p.octets.now indices aspect q h)
  now_owes p old new (inr (s, z)) h = subst (λ x. OneOwes path x indices aspect) (sym z) (owes_last old p h)

left_more : (ps : List Pending) (p : Pending) → octets_left (ps ++ p ∷ []) ≡ octets_left ps + length p.octets.now
left_more [] p = omega arith
left_more (q ∷ qs) p = let h = left_more qs p in omega (arith, h)

some_more : (ps : List Pending) (p : Pending) → AreSome ps → p.octets.now ≢ [] → AreSome (ps ++ p ∷ [])
some_more [] p h s = (s, tt)
some_more (q ∷ qs) p h s = (h.0, some_more qs p h.1 s)

pub kept_some : (p : Pending) (old new : List Pending) → IsKept p old new → AreSome old → AreSome new
kept_some p old new (inl (q, z)) h = subst AreSome (sym z) h
kept_some p old new (inr (s, z)) h = subst AreSome (sym z) (some_more old p h s)

pub kept_left : (p : Pending) (old new : List Pending) → IsKept p old new → octets_left new ≡ octets_left old + length p.octets.now
kept_left p old new (inl (q, z)) = let n = ap length q in let m = ap octets_left z in omega (arith, n, m)
kept_left p old new (inr (s, z)) = ap octets_left z ∙ left_more old p

-- ---- the rounds

-- The path goes on.
module _ (path new indices : List ℕ) (aspect : Aspect) (n k : ℕ) (went : new ≡ path_at_depth n path k) (fits : (m : ℕ) → n ≡ suc m → m ≤ length path) where
  owes_there : (d i : ℕ) (octets : List ℕ) → d ≤ n → OwesAt path d i octets indices aspect → OwesAt new d i octets indices aspect
  owes_there zero zero octets b h = h
  owes_there zero (suc i) octets b h = h
  owes_there (suc d) i octets b (j, first, js, e, f, l) = go n refl
    where
      go : (x : ℕ) → n ≡ x → OwesAt new (suc d) i octets indices aspect
      go zero q = absurd (omega (arith, b, q))
      go (suc m) q =
          let is : new ≡ take m path ++ k ∷ [] = went ∙ ap (λ z. path_at_depth z path k) q in
          let same : take d new ≡ take d path = ap (λ z. take d z) is ∙ cut_shorter d m k path (omega (arith, b, q)) (fits m q) in
          (j, first, js, subst (λ z. indices ≡ z ++ (i + j) ∷ js) (sym same) e, f, l)

  pub owe_there : (ps : List Pending) → AllByRecursion (λ (q : Pending). q.depth ≤ n) ps → OneOwes path ps indices aspect → OneOwes new ps indices aspect
  owe_there [] b h = h
  owe_there (p ∷ ps) (b, bs) (inl h) = inl (owes_there p.depth p.index p.octets.now b h)
  owe_there (p ∷ ps) (b, bs) (inr h) = inr (owe_there ps bs h)

  pub owes_now : (p : Pending) → p.depth ≤ n → Owes path p indices aspect → Owes new p indices aspect
  owes_now p b h = owes_there p.depth p.index p.octets.now b h

-- What the first of the encodings owes is within it or after it.
module _ (path indices : List ℕ) (aspect : Aspect) where
  pub first_or_after : (d k : ℕ) (octets : List ℕ) → path ≡ path_at_depth d path k → ((d ≡ 0) × (0 < k) → ⊥) → OwesAt path d k octets indices aspect
      → OwesWithin path octets indices aspect ⊎ ((rest : List ℕ) × IsFollowedBy octets rest × OwesAt path d (suc k) rest indices aspect)
  first_or_after zero zero octets p n (inl h) = inl (indices, subst (λ z. indices ≡ z ++ indices) (sym p) refl, h)
  first_or_after zero zero octets p n (inr (i, a, rest, s, f)) = inr (rest, f, (s, i, a))
  first_or_after zero (suc k) octets p n h = absurd (n (refl, omega arith))
  first_or_after (suc d) k octets p n (zero, first, js, e, f, l) =
      let same : take d path ++ (k + 0) ∷ js ≡ (take d path ++ k ∷ []) ++ js = ap (λ z. take d path ++ z ∷ js) (omega arith) ∙ sym (append_assoc (take d path) (k ∷ []) js) in
      inl (js, e ∙ (same ∙ ap (λ z. z ++ js) (sym p)), subst (λ z. LeadsToOne js z aspect) f l)
  first_or_after (suc d) k octets p n (suc j, first, js, e, (more, f, g), l) =
      inr (more, f, (j, first, js, e ∙ ap (λ z. take d path ++ z ∷ js) (omega arith), g, l))

-- Nothing is owed where no octets are left.
pub nothing_left : (path indices : List ℕ) (aspect : Aspect) (ps : List Pending) → octets_left ps ≡ 0 → OneOwes path ps indices aspect → ⊥
nothing_left path indices aspect [] e h = h
nothing_left path indices aspect (p ∷ ps) e (inl h) = owes_none path p.depth p.index p.octets.now indices aspect (empty p.octets.now (omega (arith, e))) h
  where
    empty : (l : List ℕ) → length l ≡ 0 → l ≡ []
    empty [] q = refl
    empty (x ∷ l) q = absurd (omega (arith, q))
nothing_left path indices aspect (p ∷ ps) e (inr h) = nothing_left path indices aspect ps (omega (arith, e)) h

pub some_before : (ps : List Pending) (p : Pending) → AreSome (ps ++ p ∷ []) → AreSome ps × (p.octets.now ≢ [])
some_before [] p h = (tt, h.0)
some_before (q ∷ qs) p h = let r = some_before qs p h.1 in ((h.0, r.0), r.1)

-- ---- what one round does

pub shorter : (octets rest : List ℕ) (a : ℕ) → IsFollowedBy octets rest → a + length rest < a + length octets
shorter octets rest a h = let n = followed_shorter octets rest h in omega (arith, n)

module _ (len left : ℕ) (e : Span) (path : List ℕ) (indices : Bor (List ℕ)) (site : Site) (at : IsSiteAt len left e path (Some indices) site) where
  -- No contents are found.
  pub looked_unread : (octets : List ℕ) → HasNoContents octets → (error : DecodeError) (list new_list : List Departure) (old : List Pending)
      → ((es : List Departure) × (new_list ≡ list ++ es) × AreNoted site Header (Some error) es) → IsLookedInto indices.now octets list new_list old old
  looked_unread octets n error list new_list old g = record {
    listed = λ ds q i a w.
        let u = unread_header octets n indices.now i w.0 a w.1 w.2 in
        let h = appended_one len left e path indices site at Header error list new_list ds g q in
        inl (subst (λ z. HasOne z a ds) (sym u.0) (subst (λ z. HasOne indices.now z ds) (sym u.1) h));
    kept = λ i a h. h;
    some = λ h. h;
    fewer = λ rest f o. shorter octets rest (octets_left old) f;
  }

  module _ (octets : List ℕ) (tag : Tag) (contents : List ℕ) (f : Faults) (has : HasContents tag octets contents) (u : AreUntypedFaults tag contents octets f)
      (list new_list : List Departure) (g : (es : List Departure) × (new_list ≡ list ++ es) × AreListed site f es) where
    own : (ds : List Departure) → new_list ≡ list ++ ds → (i : List ℕ) (a : Aspect) → i ≡ indices.now ++ [] → LeadsToOne [] octets a → HasOne i a ds
    own ds q i a p (there, s, w, x) =
        let r = contents_end octets tag contents has in
        let l = subst (AreListed site f) (append_cancel_left list g.0 ds (sym g.1 ∙ q)) g.2 in
        subst (λ z. HasOne z a ds) (sym (p ∙ append-nil indices.now)) (own_listed len left e path indices site at f ds l tag contents octets u has r.0 r.1 a (subst (DepartsItself a) w x))

    pub looked_plain : (old : List Pending) → is_constructed octets ≡ false → IsLookedInto indices.now octets list new_list old old
    looked_plain old b = record {
      listed = λ ds q i a w. listed ds q i a w.0 w.1 w.2;
      kept = λ i a h. h;
      some = λ h. h;
      fewer = λ rest f o. shorter octets rest (octets_left old) f;
    }
      where
        listed : (ds : List Departure) → new_list ≡ list ++ ds → (i : List ℕ) (a : Aspect) (js : List ℕ) → i ≡ indices.now ++ js → LeadsToOne js octets a → HasOne i a ds ⊎ OneOwes indices.now old i a
        listed ds q i a [] p l = inl (own ds q i a p l)
        listed ds q i a (k ∷ ks) p (there, s, (first, h, l), x) = let y = h.constructed in cc

    pub looked_nested : (p : Pending) (old new : List Pending) → p.octets.now ≡ contents → p.index ≡ 0 → p.depth ≡ length indices.now + 1 → IsKept p old new → IsLookedInto indices.now octets list new_list old new
    looked_nested p old new is at_first deep kept = record {
      listed = λ ds q i a w. listed ds q i a w.0 w.1 w.2;
      kept = λ i a h. kept_owes indices.now i a p old new kept h;
      some = λ h. kept_some p old new kept h;
      fewer = fewer;
    }
      where
        listed : (ds : List Departure) → new_list ≡ list ++ ds → (i : List ℕ) (a : Aspect) (js : List ℕ) → i ≡ indices.now ++ js → LeadsToOne js octets a → HasOne i a ds ⊎ OneOwes indices.now new i a
        listed ds q i a [] y l = inl (own ds q i a y l)
        listed ds q i a (k ∷ ks) y (there, s, (first, h, l), x) =
            let c = (same_contents octets h.tag tag h.contents contents h.has has).1 in
            let front : i ≡ take (length indices.now) indices.now ++ (0 + k) ∷ ks = y ∙ (ap (λ z. z ++ k ∷ ks) (sym (take-length indices.now)) ∙ ap (λ z. take (length indices.now) indices.now ++ z ∷ ks) (omega arith)) in
            let o : OwesAt indices.now (suc (length indices.now)) 0 contents i a = (k, first, ks, front, subst (λ z. FollowsAfter k z first) c h.follows, (there, s, l, x)) in
            let n : p.depth ≡ suc (length indices.now) = omega (arith, deep) in
            inr (now_owes indices.now i a p old new kept
            (subst (λ z. OwesAt indices.now z p.index p.octets.now i a) (sym n) (subst (λ z. OwesAt indices.now (suc (length indices.now)) z p.octets.now i a) (sym at_first) (subst (λ z. OwesAt indices.now (suc (length indices.now)) 0 z i a) (sym is) o))))

        fewer : (rest : List ℕ) → IsFollowedBy octets rest → IsOnlyRest octets rest → octets_left new + length rest < octets_left old + length octets
        fewer rest y o =
            let r = contents_end octets tag contents has in
            let same = ap length (o r.0 r.1) in
            let n = kept_left p old new kept in
            let m = ap length is in
            let k = r.2 in
            omega (arith, same, n, m, k)

  -- ---- the first of the encodings

  module _ (next : Pending) (inside : List ℕ) (old : List Pending) (r : IsReached e inside indices.now next old) where
    pub looked_extra : IsExtra next → (error : DecodeError) (list new_list : List Departure) → ((es : List Departure) × (new_list ≡ list ++ es) × AreNoted site Contents (Some error) es) → IsLooked indices.now next list new_list old old
    looked_extra (d, k) error list new_list g = record {
      listed = λ ds q i a h. inl (listed ds q i a next.index refl (subst (λ z. OwesAt indices.now z next.index next.octets.now i a) d h));
      kept = λ i a h. h;
      some = λ h. h;
      fewer = λ s. more next.octets.now s;
    }
      where
        empty : indices.now ≡ []
        empty = r.path_is ∙ ap (λ z. path_at_depth z indices.now next.index) d

        listed : (ds : List Departure) → new_list ≡ list ++ ds → (i : List ℕ) (a : Aspect) (n : ℕ) → next.index ≡ n → OwesAt indices.now zero n next.octets.now i a → HasOne i a ds
        listed ds q i a zero x h = absurd (omega (arith, x, k))
        listed ds q i a (suc n) x (s, y, z) =
            subst (λ w. HasOne w a ds) (empty ∙ sym y) (subst (λ w. HasOne indices.now w ds) (sym z) (appended_one len left e path indices site at Contents error list new_list ds g q))

        more : (l : List ℕ) → l ≢ [] → octets_left old < octets_left old + length l
        more [] s = absurd (s refl)
        more (x ∷ l) s = omega arith

    pub looked_unskipped : (IsExtra next → ⊥) → IsUnread next.octets.now → (error : DecodeError) (list new_list : List Departure) → ((es : List Departure) × (new_list ≡ list ++ es) × AreNoted site Header (Some error) es) → IsLooked indices.now next list new_list old old
    looked_unskipped n unread error list new_list g = record {
      listed = λ ds q i a h. listed ds q i a (first_or_after indices.now i a next.depth next.index next.octets.now r.path_is n h);
      kept = λ i a h. h;
      some = λ h. h;
      fewer = λ s. more next.octets.now s;
    }
      where
        none : (tag : Tag) (c : List ℕ) → HasContents tag next.octets.now c → ⊥
        none tag c h = let x = contents_end next.octets.now tag c h in unread x.0 x.1

        listed : (ds : List Departure) → new_list ≡ list ++ ds → (i : List ℕ) (a : Aspect) → OwesWithin indices.now next.octets.now i a ⊎ ((rest : List ℕ) × IsFollowedBy next.octets.now rest × OwesAt indices.now next.depth (suc next.index) rest i a)
            → HasOne i a ds ⊎ OneOwes indices.now old i a
        listed ds q i a (inl (js, p, l)) =
            let u = unread_header next.octets.now none indices.now i js a p l in
            inl (subst (λ z. HasOne z a ds) (sym u.0) (subst (λ z. HasOne indices.now z ds) (sym u.1) (appended_one len left e path indices site at Header error list new_list ds g q)))
        listed ds q i a (inr (rest, f, o)) = absurd (unread rest f)

        more : (l : List ℕ) → l ≢ [] → octets_left old < octets_left old + length l
        more [] s = absurd (s refl)
        more (x ∷ l) s = omega arith

pub looked_on : (path : List ℕ) (next : Pending) (e : Span) (inside rest : List ℕ) (p : Pending) (list new_list : List Departure) (old mid new : List Pending) → IsReached e inside path next old → (IsExtra next → ⊥)
    → IsFollowedBy next.octets.now rest → IsOnlyRest next.octets.now rest → IsAfter next rest p → IsKept p old mid → IsLookedInto path next.octets.now list new_list mid new → IsLooked path next list new_list old new
looked_on path next e inside rest p list new_list old mid new r n f only after kept told = record {
  listed = λ ds q i a h. listed ds q i a (first_or_after path i a next.depth next.index next.octets.now r.path_is n h);
  kept = λ i a h. told.kept i a (kept_owes path i a p old mid kept h);
  some = λ h. told.some (kept_some p old mid kept h);
  fewer = λ s.
      let k = told.fewer rest f only in
      let m = kept_left p old mid kept in
      let l = ap length after.octets in
      omega (arith, k, m, l);
}
  where
    one_more : p.index ≡ suc next.index
    one_more =
        let small = followed_shorter next.octets.now rest f in
        let size = r.pending.size in
        let index = after.index in
        omega (arith, size, small, index)

    listed : (ds : List Departure) → new_list ≡ list ++ ds → (i : List ℕ) (a : Aspect) → OwesWithin path next.octets.now i a ⊎ ((other : List ℕ) × IsFollowedBy next.octets.now other × OwesAt path next.depth (suc next.index) other i a)
        → HasOne i a ds ⊎ OneOwes path new i a
    listed ds q i a (inl w) = told.listed ds q i a w
    listed ds q i a (inr (other, g, o)) =
        let same : other ≡ p.octets.now = only other g ∙ sym after.octets in
        let x : Owes path p i a = subst (λ z. OwesAt path z p.index p.octets.now i a) (sym after.depth) (subst (λ z. OwesAt path next.depth z p.octets.now i a) (sym one_more) (subst (λ z. OwesAt path next.depth (suc next.index) z i a) same o)) in
        inr (told.kept i a (now_owes path i a p old mid kept x))

-- ---- one round after the other

either : {A B C : Type 0} → (A → C) → (B → C) → A ⊎ B → C
either f g (inl x) = f x
either f g (inr x) = g x

-- What departs in the octets is listed, or is owed.
abbrev pub IsOwed : List ℕ → List ℕ → List Pending → List Departure → List Departure → Type 0
IsOwed inside path pending start list = (ds : List Departure) → list ≡ start ++ ds → (i : List ℕ) (a : Aspect) → DepartsIn inside i a → HasOne i a ds ⊎ OneOwes path pending i a

module _ (e : Span) (inside path new : List ℕ) (p : Pending) (old others later : List Pending) (all : AllPending e inside path old) (is : old ≡ others ++ p ∷ []) (list new_list : List Departure) (looked : IsLooked new p list new_list others later) where
  pub round_owed : (start : List Departure) → IsOwed inside path old start list → (es : List Departure) → list ≡ start ++ es → (fs : List Departure) → new_list ≡ list ++ fs → new ≡ path_at_depth p.depth path p.index → IsOwed inside new later start new_list
  round_owed start owed es x fs y went ds q i a h =
      let w = fits_below e inside path old others p all is in
      let same : es ++ fs ≡ ds = append_cancel_left start (es ++ fs) ds (sym (y ∙ (ap (λ z. z ++ fs) x ∙ append_assoc start es fs)) ∙ q) in
      subst (λ z. HasOne i a z ⊎ OneOwes new later i a) same
      (either {C = HasOne i a (es ++ fs) ⊎ OneOwes new later i a} (λ o. inl (one_before i a es fs o))
      (λ o. either {C = HasOne i a (es ++ fs) ⊎ OneOwes new later i a} (λ v. inr (looked.kept i a (owe_there path new i a p.depth p.index went w.0 others w.1 v)))
      (λ v. either {C = HasOne i a (es ++ fs) ⊎ OneOwes new later i a} (λ o. inl (one_after i a es fs o)) (λ o. inr o) (looked.listed fs y i a (owes_now path new i a p.depth p.index went w.0 p (omega arith) v)))
      (last_owes path i a others p (subst (λ z. OneOwes path z i a) is o)))
      (owed es x i a h))

  pub round_some : AreSome old → AreSome later
  round_some s = looked.some (some_before others p (subst AreSome is s)).0

  pub round_left : (n m : ℕ) → AreSome old → octets_left old + n ≤ m → octets_left later + (n + 1) ≤ m
  round_left n m s h =
      let k = looked.fewer (some_before others p (subst AreSome is s)).1 in
      let l = ap octets_left is ∙ left_more others p in
      omega (arith, k, l, h)

pub none_left : (ps : List Pending) → length ps ≡ 0 → octets_left ps ≡ 0
none_left [] e = refl
none_left (p ∷ ps) e = absurd (omega (arith, e))

-- Nothing is owed at the end.
pub all_listed : (inside path : List ℕ) (pending : List Pending) (start list : List Departure) → IsOwed inside path pending start list → octets_left pending ≡ 0 → (ds : List Departure) → list ≡ start ++ ds → HasAll inside ds
all_listed inside path pending start list owed e ds q i a h = go (owed ds q i a h)
  where
    go : HasOne i a ds ⊎ OneOwes path pending i a → HasOne i a ds
    go (inl o) = o
    go (inr o) = absurd (nothing_left path i a pending e o)

-- One is appended to those.
pub more_listed : (inside : List ℕ) (start list new_list es fs : List Departure) → HasAll inside es → list ≡ start ++ es → new_list ≡ list ++ fs → (ds : List Departure) → new_list ≡ start ++ ds → HasAll inside ds
more_listed inside start list new_list es fs h x y ds q i a w =
    let same : es ++ fs ≡ ds = append_cancel_left start (es ++ fs) ds (sym (y ∙ (ap (λ z. z ++ fs) x ∙ append_assoc start es fs)) ∙ q) in
    subst (HasOne i a) same (one_before i a es fs (h i a w))

-- ---- unknown values

-- One value more is listed.
pub value_listed : (octets rest first others : List ℕ) (before list new_list es fs : List Departure) → IsListedUpTo octets rest before list → list ≡ before ++ es → new_list ≡ list ++ fs → IsSplit rest first others
    → ((IsWellFormed first → ⊥) → (ds : List Departure) → new_list ≡ list ++ ds → HasAll first ds) → IsListedUpTo octets others before new_list
value_listed octets rest first others before list new_list es fs listed p q s own ds e value v n = go (listed es p value v n)
  where
    same : es ++ fs ≡ ds
    same = append_cancel_left before (es ++ fs) ds (sym (q ∙ (ap (λ z. z ++ fs) p ∙ append_assoc before es fs)) ∙ e)

    here : (value ≡ first) ⊎ IsValueIn others value → HasAll value ds ⊎ IsValueIn others value
    here (inl g) = inl (subst (λ z. HasAll z ds) (sym g) (subst (HasAll first) same (λ i a w. one_after i a es fs (own (subst (λ z. IsWellFormed z → ⊥) g n) fs q i a w))))
    here (inr h) = inr h

    go : HasAll value es ⊎ IsValueIn rest value → HasAll value ds ⊎ IsValueIn others value
    go (inl h) = inl (subst (HasAll value) same (λ i a w. one_before i a es fs (h i a w)))
    go (inr h) = here (first_or_later rest first others value s.is s.only h)

-- No value is left.
pub values_listed : (octets rest : List ℕ) (before list : List Departure) → IsListedUpTo octets rest before list → ((value : List ℕ) → IsValueIn rest value → ⊥) → (ds : List Departure) → list ≡ before ++ ds → HasAllOfEach octets ds
values_listed octets rest before list listed none ds e value v n = go (listed ds e value v n)
  where
    go : HasAll value ds ⊎ IsValueIn rest value → HasAll value ds
    go (inl h) = h
    go (inr h) = absurd (none value h)

-- One is appended to those.
pub more_of_each : (octets : List ℕ) (start list new_list es fs : List Departure) → HasAllOfEach octets es → list ≡ start ++ es → new_list ≡ list ++ fs → (ds : List Departure) → new_list ≡ start ++ ds → HasAllOfEach octets ds
more_of_each octets start list new_list es fs h x y ds q value v n = more_listed value start list new_list es fs (h value v n) x y ds q

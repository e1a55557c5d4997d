-- Canonical texts of GeneralizedTime, whose length and last digit determine whether they are the shortest ones.
use Rattle.std.proofs.Common.{◌≡◌, ◌≢◌, ℕ, ◌+◌, ◌-◌, ◌<◌, ◌≤◌, ◌⊎◌, inl, inr, ◌&&◌, Bool, true, false, get_or, List, [], ◌∷◌, ◌++◌, map, length, Option, Some, None, refl, sym, ap, ◌∙◌, subst, true≢false, arith, append_assoc, length-append}
use Rattle.std.proofs.lemmas.Bool.Decides.{nat_tests}
use Rattle.std.specs.Prelude.{not, nat_eq}
use Rattle.rasn_types.specs.Truth.{IsWhether}
use Rattle.std.proofs.lemmas.List.{get_or_at, map-append, length-map}
use Rattle.rasn_types.specs.declared.ber.time.text.Clock.{Clock}
use Rattle.rasn_types.specs.declared.ber.time.text.Clock.TheVariants.{Hours, Minutes, Seconds}
use Rattle.rasn_types.specs.declared.ber.time.text.Zone.{Zone}
use Rattle.rasn_types.specs.declared.ber.time.text.Zone.TheVariants.{Unnamed, Utc, East, West}
use Rattle.rasn_types.specs.Calendar.{Stamp}
use Rattle.rasn_types.specs.TimeSpelling.{two, four, Spelling, tail_text, fraction_text, fraction_of, IsFraction}
use Rattle.rasn_types.specs.Time.{has_seconds, has_no_comma, is_utc, EndsInNoZero, IsShortFraction, CanonicalGeneralized}

and_left : (a b : Bool) → a && b ≡ true → a ≡ true
and_left true b e = refl
and_left false b e = cc

and_right : (a b : Bool) → a && b ≡ true → b ≡ true
and_right true b e = e
and_right false b e = cc

-- After a year: fourteen digits in all, a fraction and Z.
spelled_out : (y : ℕ) (clock : Clock) (zone : Zone) (s : Spelling) → s.clock ≡ clock → s.zone ≡ zone → has_seconds clock ≡ true → is_utc zone ≡ true
    → (front : List ℕ) × (length front ≡ 14) × (four y ++ tail_text s ≡ front ++ (fraction_text s.fraction ++ 90 ∷ []))
spelled_out y (Seconds m n) Utc s c z e f =
    (four y ++ (two s.month ++ (two s.day ++ (two s.hour ++ (two m ++ two n)))), refl, rw (c, z) refl)
spelled_out y Hours zone s c z e f = cc
spelled_out y (Minutes m) zone s c z e f = cc
spelled_out y (Seconds m n) Unnamed s c z e f = cc
spelled_out y (Seconds m n) (East h k) s c z e f = cc
spelled_out y (Seconds m n) (West h k) s c z e f = cc

-- The last of some digits.
last_digit : (d : ℕ) (ds : List ℕ) → (front : List ℕ) × (last : ℕ) × (d ∷ ds ≡ front ++ last ∷ []) × (EndsInNoZero (d ∷ ds) → last ≢ 0) × (last ≢ 0 → EndsInNoZero (d ∷ ds))
last_digit d [] = ([], d, refl, (λ h. h), (λ h. h))
last_digit d (e ∷ ds) = let r = last_digit e ds in (d ∷ r.0, r.1, ap (λ l. d ∷ l) r.2, r.3, r.4)

-- A text of fifteen octets has no fraction. For any other, the length and the octet before the last determine whether
-- the fraction is short.
abbrev pub IsTold : List ℕ → Option (ℕ × List ℕ) → Type 0
IsTold text f =
    ((length text ≡ 15) × IsShortFraction f)
    ⊎ ((15 < length text) × (length text ≤ 25 → get_or text (length text - 2) 0 ≢ 48 → IsShortFraction f) × (IsShortFraction f → (length text ≤ 25) × (get_or text (length text - 2) 0 ≢ 48)))

digits_told : (front text : List ℕ) (separator d : ℕ) (ds : List ℕ) → length front ≡ 14 → text ≡ front ++ ((separator ∷ map (λ d. 48 + d) (d ∷ ds)) ++ 90 ∷ []) → IsTold text (Some (separator, d ∷ ds))
digits_told front text separator d ds n e =
    let r = last_digit d ds in
    let before : List ℕ = front ++ (separator ∷ map (λ d. 48 + d) r.0) in
    let digits : map (λ d. 48 + d) (d ∷ ds) ≡ map (λ d. 48 + d) r.0 ++ (48 + r.1) ∷ [] = ap (map (λ d. 48 + d)) r.2 ∙ map-append (λ d. 48 + d) r.0 (r.1 ∷ []) in
    let split : text ≡ before ++ (48 + r.1) ∷ 90 ∷ [] =
    e ∙ (ap (λ l. front ++ (separator ∷ (l ++ 90 ∷ []))) digits
    ∙ (ap (λ l. front ++ (separator ∷ l)) (append_assoc (map (λ d. 48 + d) r.0) ((48 + r.1) ∷ []) (90 ∷ []))
    ∙ sym (append_assoc front (separator ∷ map (λ d. 48 + d) r.0) ((48 + r.1) ∷ 90 ∷ [])))) in
    let h = ap length split in
    let place : length before ≡ length text - 2 = omega (arith, length-append before ((48 + r.1) ∷ 90 ∷ [])) in
    let k = ap length r.2 in
    let some : length (d ∷ ds) ≡ length r.0 + 1 = omega (arith, length-append r.0 (r.1 ∷ [])) in
    let long : length text ≡ 16 + length (d ∷ ds) =
    omega (arith, place, some, length-append before ((48 + r.1) ∷ 90 ∷ []), length-append front (separator ∷ map (λ d. 48 + d) r.0), length-map r.0 (λ d. 48 + d)) in
    let at : get_or text (length text - 2) 0 ≡ 48 + r.1 = subst (λ l. get_or l (length text - 2) 0 ≡ 48 + r.1) (sym split) (get_or_at before (48 + r.1) (90 ∷ []) 0 (length text - 2) place) in
    inr (
      omega (arith, long),
      (λ l h. (omega (arith, long), r.4 (λ z. h (at ∙ ap (λ x. 48 + x) z)))),
      (λ s. (omega (arith, long, s.0), λ z. r.3 s.1 (omega (arith, at, z)))),
    )

told : (front text : List ℕ) (f : Option (ℕ × List ℕ)) → IsFraction f → length front ≡ 14 → text ≡ front ++ (fraction_text f ++ 90 ∷ []) → IsTold text f
told front text None i n e = let k = ap length e in let h = length-append front (90 ∷ []) in inl (omega arith, tt)
told front text (Some (separator, [])) i n e = absurd (i.1 refl)
told front text (Some (separator, d ∷ ds)) i n e = digits_told front text separator d ds n e

text_decided : (text : List ℕ) (t : Stamp) (c : CanonicalGeneralized text t) → IsTold text c.rest.fraction
text_decided text t c =
    let seconds = has_seconds c.rest.clock in
    let point = has_no_comma (fraction_of c.rest.fraction) in
    let a : (seconds && point) && is_utc c.rest.zone ≡ true = c.allowed in
    let p = spelled_out c.year c.rest.clock c.rest.zone c.rest refl refl (and_left seconds point (and_left (seconds && point) (is_utc c.rest.zone) a)) (and_right (seconds && point) (is_utc c.rest.zone) a) in
    told p.0 text c.rest.fraction c.spelled.fraction p.1 (c.is ∙ p.2)

-- A test that is true exactly if P holds.
whether : (b : Bool) (P : Type 0) → (b ≡ true → P) → (P → b ≡ true) → IsWhether b P
whether true P f g = f refl
whether false P f g = λ p. true≢false (sym (g p))

pub last_told : (text : List ℕ) (t : Stamp) (c : CanonicalGeneralized text t) → length text ≢ 15 → length text ≤ 25
    → IsWhether (not (nat_eq (get_or text (length text - 2) 0) 48)) (IsShortFraction c.rest.fraction)
last_told text t c e l = elim (text_decided text t c) [
  | inl k ↦ absurd (e k.0)
  | inr k ↦ whether (not (nat_eq (get_or text (length text - 2) 0) 48)) (IsShortFraction c.rest.fraction)
      (λ h. let n : get_or text (length text - 2) 0 ≢ 48 = grind (arith, nat_tests) in k.1 l n)
      (λ s. let n = (k.2 s).1 in grind (arith, nat_tests))
]

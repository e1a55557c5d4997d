-- Each parser reads exactly what is spelled.
use Rattle.std.proofs.Common.{◌≡◌, ℕ, zero, suc, ◌+◌, ◌-◌, ◌*◌, ◌/◌, ◌%◌, ◌^◌, ◌<◌, ◌≤◌, ◌⊎◌, ◌≢◌, Bool, true, false, ◌==◌, ◌&&◌, ◌||◌, List, [], ◌∷◌, ◌++◌, map, Option, Some, None, refl, sym, ap, ◌∙◌, arith, inl, inr, cond, subst}
use Rattle.std.proofs.lemmas.Bool.Decides.{nat_tests}
use Rattle.std.proofs.lemmas.Option.{cond_some, same_Some, none-some}
use Rattle.std.specs.List.{AllByRecursion}
use Rattle.std.proofs.lemmas.Bool.{lt-ltb, ltb-true}
use Rattle.std.proofs.Math.Dec.{ltb}
use Rattle.rasn_types.specs.Time.{fields_of}
use Rattle.rasn_types.specs.declared.ber.time.text.Clock.{Clock}
use Rattle.rasn_types.specs.declared.ber.time.text.Clock.TheVariants.{Hours, Minutes, Seconds}
use Rattle.rasn_types.specs.declared.ber.time.text.Zone.{Zone}
use Rattle.rasn_types.specs.declared.ber.time.text.Zone.TheVariants.{Unnamed, Utc, East, West}
use Rattle.rasn_types.specs.declared.ber.time.text.Fields.{Fields}
use Rattle.rasn_types.specs.TimeSpelling.{two, four, clock_text, IsClock, fraction_text, IsFraction, parts, fraction_of, zone_text, IsZone, Spelling, tail_text, IsSpelling}
use Rattle.rasn_types.specs.TimeParsing.{◌>>=◌, is_decimal, starts_decimal, is_nothing, two_at, four_at, clock_at, digits_at, fraction_at, offset_at, zone_at, fields_at}

decimal : (d : ℕ) → d < 10 → is_decimal (48 + d) ≡ true
decimal d h = grind (arith, nat_tests)

undecimal : (c : ℕ) → is_decimal c ≡ true → (48 ≤ c) × (c ≤ 57)
undecimal c e = grind (arith, nat_tests)

pub both_true : (a b : Bool) → (a && b) ≡ true → (a ≡ true) × (b ≡ true)
both_true true true e = (refl, refl)
both_true true false e = absurd (cc)
both_true false b e = absurd (cc)

pub two_again : (n : ℕ) (l : List ℕ) → n < 100 → two_at (two n ++ l) ≡ Some (n, l)
unfolding two_at
two_again n l h =
    let high : n / 10 < 10 = omega arith in
    let low : n % 10 < 10 = omega arith in
    let a = decimal (n / 10) high in
    let b = decimal (n % 10) low in
    let e : 10 * (48 + n / 10 - 48) + (48 + n % 10 - 48) ≡ n = omega arith in
    rw (a, b, e) refl

pub two_consumes : (l : List ℕ) (x : ℕ × List ℕ) → two_at l ≡ Some x → (l ≡ two x.0 ++ x.1) × (x.0 < 100)
unfolding two_at
two_consumes [] x e = absurd (cc)
two_consumes (a ∷ []) x e = absurd (cc)
two_consumes (a ∷ b ∷ l) x e =
    let p = cond_some (is_decimal a && is_decimal b) (10 * (a - 48) + (b - 48), l) x e in
    let q = both_true (is_decimal a) (is_decimal b) p.0 in
    let da = undecimal a q.0 in
    let db = undecimal b q.1 in
    let n : 10 * (a - 48) + (b - 48) ≡ x.0 = ap (λ (y : ℕ × List ℕ). y.0) p.1 in
    let r : l ≡ x.1 = ap (λ (y : ℕ × List ℕ). y.1) p.1 in
    let ea : a ≡ 48 + x.0 / 10 = omega arith in
    let eb : b ≡ 48 + x.0 % 10 = omega arith in
    let bound : x.0 < 100 = omega arith in
    (cc, bound)

pub bind_some : {A B : Type 0} (o : Option A) (f : A → Option B) (y : B) → (o >>= f) ≡ Some y → (x : A) × (o ≡ Some x) × (f x ≡ Some y)
bind_some None f y e = absurd (cc)
bind_some (Some x) f y e = (x, refl, e)

choice : {A : Type 0} (b : Bool) (x y z : A) → cond b x y ≡ z → ((b ≡ true) × (x ≡ z)) ⊎ ((b ≡ false) × (y ≡ z))
choice true x y z e = inl (refl, e)
choice false x y z e = inr (refl, e)

pub four_again : (n : ℕ) (l : List ℕ) → n < 10000 → four_at (four n ++ l) ≡ Some (n, l)
unfolding four_at
four_again n l h =
    let a = two_again (n / 100) (two (n % 100) ++ l) (omega arith) in
    let b = two_again (n % 100) l (omega arith) in
    let e : 100 * (n / 100) + n % 100 ≡ n = omega arith in
    rw (a, b, e) refl

pub four_consumes : (l : List ℕ) (x : ℕ × List ℕ) → four_at l ≡ Some x → (l ≡ four x.0 ++ x.1) × (x.0 < 10000)
unfolding four_at
four_consumes l x e =
    let p = bind_some (two_at l) (λ a. two_at a.1 >>= λ b. Some (100 * a.0 + b.0, b.1)) x e in
    let q = bind_some (two_at p.0.1) (λ b. Some (100 * p.0.0 + b.0, b.1)) x p.2 in
    let a = two_consumes l p.0 p.1 in
    let b = two_consumes p.0.1 q.0 q.1 in
    let r : Some (100 * p.0.0 + q.0.0, q.0.1) ≡ Some x = q.2 in
    let n : 100 * p.0.0 + q.0.0 ≡ x.0 = cc in
    let rest : q.0.1 ≡ x.1 = cc in
    let high : x.0 / 100 ≡ p.0.0 = omega arith in
    let low : x.0 % 100 ≡ q.0.0 = omega arith in
    let joined : l ≡ two p.0.0 ++ (two q.0.0 ++ q.0.1) = cc in
    (joined ∙ ap (λ k. two k ++ (two q.0.0 ++ q.0.1)) (sym high) ∙ ap (λ k. two (x.0 / 100) ++ (two k ++ q.0.1)) (sym low) ∙ ap (λ k. two (x.0 / 100) ++ (two (x.0 % 100) ++ k)) rest, omega arith)

starts_two : (n : ℕ) (l : List ℕ) → n < 100 → starts_decimal (two n ++ l) ≡ true
starts_two n l h = decimal (n / 10) (omega arith)

pub clock_again : (k : Clock) (l : List ℕ) → IsClock k → starts_decimal l ≡ false → clock_at (clock_text k ++ l) ≡ Some (k, l)
unfolding clock_at
clock_again Hours l h ends = rw ends refl
clock_again (Minutes m) l h ends = rw (starts_two m l h, two_again m l h, ends) refl
clock_again (Seconds m s) l h ends =
    rw (starts_two m (two s ++ l) h.0, two_again m (two s ++ l) h.0, starts_two s l h.1, two_again s l h.1) refl

pub clock_consumes : (l : List ℕ) (x : Clock × List ℕ) → clock_at l ≡ Some x → (l ≡ clock_text x.0 ++ x.1) × IsClock x.0
unfolding clock_at
clock_consumes l x e =
    let P : Clock × List ℕ → Type 0 = λ y. (l ≡ clock_text y.0 ++ y.1) × IsClock y.0 in
    let after : ℕ × List ℕ → Option (Clock × List ℕ) = λ m. cond (starts_decimal m.1) (two_at m.1 >>= λ s. Some (Seconds m.0 s.0, s.1)) (Some (Minutes m.0, m.1)) in
    elim (choice (starts_decimal l) (two_at l >>= after) (Some (Hours, l)) (Some x) e) [
      | inl p ↦
          let q = bind_some (two_at l) after x p.1 in
          let a = two_consumes l q.0 q.1 in
          elim (choice (starts_decimal q.0.1) (two_at q.0.1 >>= λ s. Some (Seconds q.0.0 s.0, s.1)) (Some (Minutes q.0.0, q.0.1)) (Some x) q.2) [
            | inl r ↦
                let t = bind_some (two_at q.0.1) (λ s. Some (Seconds q.0.0 s.0, s.1)) x r.1 in
                let b = two_consumes q.0.1 t.0 t.1 in
                subst P (same_Some _ _ t.2) (a.0 ∙ ap (λ k. two q.0.0 ++ k) b.0, (a.1, b.1))
            | inr r ↦ subst P (same_Some _ _ r.1) (a.0, a.1)
          ]
      | inr p ↦ subst P (same_Some _ _ p.1) (refl, tt)
    ]

parts_none : (ds : List ℕ) → parts zero ds ≡ 0
unfolding parts
parts_none [] = refl
parts_none (d ∷ ds) = refl

pub digits_again : (k : ℕ) (ds l : List ℕ) → AllByRecursion (λ d. d < 10) ds → starts_decimal l ≡ false → digits_at k (map (λ d. 48 + d) ds ++ l) ≡ (parts k ds, l)
unfolding digits_at parts
digits_again zero [] [] h ends = refl
digits_again (suc k) [] [] h ends = refl
digits_again zero [] (c ∷ l) h ends = rw ends refl
digits_again (suc k) [] (c ∷ l) h ends = rw ends refl
digits_again zero (d ∷ ds) l h ends =
    let e = digits_again zero ds l h.1 ends in
    let z = parts_none ds in
    rw (decimal d h.0, e, z) refl
digits_again (suc k) (d ∷ ds) l h ends =
    let e = digits_again k ds l h.1 ends in
    let s : 48 + d - 48 ≡ d = omega arith in
    rw (decimal d h.0, e, s) refl

is_it : (b : Bool) → (b ≡ true) ⊎ (b ≡ false)
is_it true = inl refl
is_it false = inr refl

pub digits_taken : (k : ℕ) (l : List ℕ) → (ds : List ℕ) × AllByRecursion (λ d. d < 10) ds × (l ≡ map (λ d. 48 + d) ds ++ (digits_at k l).1) × ((digits_at k l).0 ≡ parts k ds) × (starts_decimal l ≡ true → ds ≢ [])
unfolding digits_at parts
digits_taken zero [] = ([], tt, refl, refl, λ h. absurd (cc))
digits_taken (suc k) [] = ([], tt, refl, refl, λ h. absurd (cc))
digits_taken zero (c ∷ l) =
    let r = digits_taken zero l in
    elim (is_it (is_decimal c)) [
      | inl y ↦
          let u = undecimal c y in
          let back : c ≡ 48 + (c - 48) = omega arith in
          let z = parts_none r.0 in
          rw y (((c - 48) ∷ r.0, (omega arith, r.1), cc, cc, λ _ e. cc))
      | inr n ↦ rw n (([], tt, refl, refl, λ h. absurd (cc)))
    ]
digits_taken (suc k) (c ∷ l) =
    let r = digits_taken k l in
    elim (is_it (is_decimal c)) [
      | inl y ↦
          let u = undecimal c y in
          let back : c ≡ 48 + (c - 48) = omega arith in
          rw y (((c - 48) ∷ r.0, (omega arith, r.1), cc, ap (λ n. (c - 48) * 10 ^ k + n) r.3, λ _ e. cc))
      | inr n ↦ rw n (([], tt, refl, refl, λ h. absurd (cc)))
    ]

pub starts_separator : List ℕ → Bool
starts_separator [] = false
starts_separator (c ∷ l) = c == 46 || c == 44

not_decimal : (c : ℕ) → (c ≡ 46) ⊎ (c ≡ 44) → (c == 46 || c == 44) ≡ true
not_decimal c (inl e) = rw e refl
not_decimal c (inr e) = rw e refl

separated : (c : ℕ) → (c == 46 || c == 44) ≡ true → (c ≡ 46) ⊎ (c ≡ 44)
separated c e = grind (arith, nat_tests)

starts_digits : (ds l : List ℕ) → ds ≢ [] → AllByRecursion (λ d. d < 10) ds → starts_decimal (map (λ d. 48 + d) ds ++ l) ≡ true
starts_digits [] l n h = absurd (n refl)
starts_digits (d ∷ ds) l n h = decimal d h.0

pub fraction_again : (f : Option (ℕ × List ℕ)) (l : List ℕ) → IsFraction f → starts_decimal l ≡ false → starts_separator l ≡ false → fraction_at (fraction_text f ++ l) ≡ Some (fraction_of f, l)
unfolding fraction_at starts_separator
fraction_again None [] h ends other = refl
fraction_again None (c ∷ l) h ends other = rw other refl
fraction_again (Some f) l h ends other =
    rw (not_decimal f.0 h.0, starts_digits f.1 l h.1 h.2, digits_again 9 f.1 l h.2 ends) refl

pub fraction_consumes : (l : List ℕ) (x : Option (ℕ × ℕ) × List ℕ) → fraction_at l ≡ Some x → (f : Option (ℕ × List ℕ)) × IsFraction f × (l ≡ fraction_text f ++ x.1) × (fraction_of f ≡ x.0)
unfolding fraction_at
fraction_consumes [] x e =
    let P : Option (ℕ × ℕ) × List ℕ → Type 0 = λ y. (f : Option (ℕ × List ℕ)) × IsFraction f × ([] ≡ fraction_text f ++ y.1) × (fraction_of f ≡ y.0) in
    subst P (same_Some _ _ e) (None, tt, refl, refl)
fraction_consumes (c ∷ l) x e =
    let P : Option (ℕ × ℕ) × List ℕ → Type 0 = λ y. (f : Option (ℕ × List ℕ)) × IsFraction f × (c ∷ l ≡ fraction_text f ++ y.1) × (fraction_of f ≡ y.0) in
    elim (choice (c == 46 || c == 44) (cond (starts_decimal l) (Some (Some (c, (digits_at 9 l).0), (digits_at 9 l).1)) None) (Some (None, c ∷ l)) (Some x) e) [
      | inl p ↦
          let q = cond_some (starts_decimal l) (Some (c, (digits_at 9 l).0), (digits_at 9 l).1) x p.1 in
          let d = digits_taken 9 l in
          subst P q.1 (Some (c, d.0), (separated c p.0, d.4 q.0, d.1), ap (λ k. c ∷ k) d.2, ap (λ n. Some (c, n)) (sym d.3))
      | inr p ↦ subst P (same_Some _ _ p.1) (None, tt, refl, refl)
    ]

pub offset_again : (h m : ℕ) → m < 100 → 60 * h + m < 1440 → offset_at (two h ++ two m) ≡ Some (h, m)
unfolding offset_at
offset_again h m below all =
    rw (two_again h (two m) (omega arith), two_again m [] below, lt-ltb (60 * h + m) 1440 all) refl

pub nothing : (l : List ℕ) → is_nothing l ≡ true → l ≡ []
nothing [] e = refl
nothing (c ∷ l) e = absurd (cc)

pub offset_consumes : (l : List ℕ) (x : ℕ × ℕ) → offset_at l ≡ Some x → (l ≡ two x.0 ++ two x.1) × (x.1 < 100) × (60 * x.0 + x.1 < 1440)
unfolding offset_at
offset_consumes l x e =
    let P : ℕ × ℕ → Type 0 = λ y. (l ≡ two y.0 ++ two y.1) × (y.1 < 100) × (60 * y.0 + y.1 < 1440) in
    let last : ℕ → ℕ × List ℕ → Option (ℕ × ℕ) = λ h m. cond (is_nothing m.1 && ltb (60 * h + m.0) 1440) (Some (h, m.0)) None in
    let p = bind_some (two_at l) (λ h. two_at h.1 >>= last h.0) x e in
    let q = bind_some (two_at p.0.1) (last p.0.0) x p.2 in
    let a = two_consumes l p.0 p.1 in
    let b = two_consumes p.0.1 q.0 q.1 in
    let r = cond_some (is_nothing q.0.1 && ltb (60 * p.0.0 + q.0.0) 1440) (p.0.0, q.0.0) x q.2 in
    let t = both_true (is_nothing q.0.1) (ltb (60 * p.0.0 + q.0.0) 1440) r.0 in
    let z = nothing q.0.1 t.0 in
    subst P r.1 (a.0 ∙ ap (λ k. two p.0.0 ++ k) (b.0 ∙ ap (λ k. two q.0.0 ++ k) z), b.1, ltb-true _ _ t.1)

pub zone_again : (z : Zone) → IsZone z → zone_at (zone_text z) ≡ Some z
unfolding zone_at
zone_again Unnamed h = refl
zone_again Utc h = refl
zone_again (East a b) h = rw (offset_again a b h.0 h.1) refl
zone_again (West a b) h = rw (offset_again a b h.0 h.1) refl

same_number : (a b : ℕ) → (a == b) ≡ true → a ≡ b
same_number a b e = grind (arith, nat_tests)

pub zone_consumes : (l : List ℕ) (z : Zone) → zone_at l ≡ Some z → (l ≡ zone_text z) × IsZone z
unfolding zone_at
zone_consumes [] z e =
    let P : Zone → Type 0 = λ y. ([] ≡ zone_text y) × IsZone y in
    subst P (same_Some _ _ e) (refl, tt)
zone_consumes (c ∷ l) z e =
    let P : Zone → Type 0 = λ y. (c ∷ l ≡ zone_text y) × IsZone y in
    let east : Option Zone = offset_at l >>= λ o. Some (East o.0 o.1) in
    let west : Option Zone = offset_at l >>= λ o. Some (West o.0 o.1) in
    elim (choice (c == 90) (cond (is_nothing l) (Some Utc) None) (cond (c == 43) east (cond (c == 45) west None)) (Some z) e) [
      | inl p ↦
          let q = cond_some (is_nothing l) Utc z p.1 in
          subst P q.1 (ap (λ k. k ∷ l) (same_number c 90 p.0) ∙ ap (λ k. 90 ∷ k) (nothing l q.0), tt)
      | inr p ↦ elim (choice (c == 43) east (cond (c == 45) west None) (Some z) p.1) [
        | inl q ↦
            let r = bind_some (offset_at l) (λ o. Some (East o.0 o.1)) z q.1 in
            let a = offset_consumes l r.0 r.1 in
            subst P (same_Some _ _ r.2) (ap (λ k. k ∷ l) (same_number c 43 q.0) ∙ ap (λ k. 43 ∷ k) a.0, (a.1, a.2))
        | inr q ↦ elim (choice (c == 45) west None (Some z) q.1) [
          | inl t ↦
              let r = bind_some (offset_at l) (λ o. Some (West o.0 o.1)) z t.1 in
              let a = offset_consumes l r.0 r.1 in
              subst P (same_Some _ _ r.2) (ap (λ k. k ∷ l) (same_number c 45 t.0) ∙ ap (λ k. 45 ∷ k) a.0, (a.1, a.2))
          | inr t ↦ absurd (none-some _ t.1)
        ]
      ]
    ]

zone_ends : (z : Zone) → starts_decimal (zone_text z) ≡ false
zone_ends Unnamed = refl
zone_ends Utc = refl
zone_ends (East a b) = refl
zone_ends (West a b) = refl

zone_other : (z : Zone) → starts_separator (zone_text z) ≡ false
unfolding starts_separator
zone_other Unnamed = refl
zone_other Utc = refl
zone_other (East a b) = refl
zone_other (West a b) = refl

fraction_ends : (f : Option (ℕ × List ℕ)) (z : Zone) → IsFraction f → starts_decimal (fraction_text f ++ zone_text z) ≡ false
fraction_ends None z h = zone_ends z
fraction_ends (Some f) z h = elim h.0 [ inl e ↦ rw e refl | inr e ↦ rw e refl ]

pub fields_again : (s : Spelling) → IsSpelling s → fields_at (tail_text s) ≡ Some (fields_of s)
unfolding fields_at
fields_again s h =
    rw (
      two_again s.month (two s.day ++ (two s.hour ++ (clock_text s.clock ++ (fraction_text s.fraction ++ zone_text s.zone)))) h.month,
      two_again s.day (two s.hour ++ (clock_text s.clock ++ (fraction_text s.fraction ++ zone_text s.zone))) h.day,
      two_again s.hour (clock_text s.clock ++ (fraction_text s.fraction ++ zone_text s.zone)) h.hour,
      clock_again s.clock (fraction_text s.fraction ++ zone_text s.zone) h.clock (fraction_ends s.fraction s.zone h.fraction),
      fraction_again s.fraction (zone_text s.zone) h.fraction (zone_ends s.zone) (zone_other s.zone),
      zone_again s.zone h.zone,
    ) refl

joined_six : (l l1 l2 l3 l4 l5 a b c d e f : List ℕ) → l ≡ a ++ l1 → l1 ≡ b ++ l2 → l2 ≡ c ++ l3 → l3 ≡ d ++ l4 → l4 ≡ e ++ l5 → l5 ≡ f → l ≡ a ++ (b ++ (c ++ (d ++ (e ++ f))))
joined_six l l1 l2 l3 l4 l5 a b c d e f p q r s t u = cc

with_fraction : (a b c : ℕ) (k : Clock) (m n : Option (ℕ × ℕ)) (z : Zone) (f : Fields) → m ≡ n → Some (let g : Fields = record { month = a; day = b; hour = c; clock = k; fraction = n; zone = z } in g) ≡ Some f → (let g : Fields = record { month = a; day = b; hour = c; clock = k; fraction = m; zone = z } in g) ≡ f
with_fraction a b c k m n z f e r = cc

pub fields_consumes : (l : List ℕ) (f : Fields) → fields_at l ≡ Some f → (s : Spelling) × IsSpelling s × (l ≡ tail_text s) × (fields_of s ≡ f)
unfolding fields_at
fields_consumes l f e =
    let at_zone : ℕ → ℕ → ℕ → Clock → Option (ℕ × ℕ) → Zone → Option Fields = λ a b c k n z. Some (record { month = a; day = b; hour = c; clock = k; fraction = n; zone = z }) in
    let at_fraction : ℕ → ℕ → ℕ → Clock → Option (ℕ × ℕ) × List ℕ → Option Fields = λ a b c k n. zone_at n.1 >>= at_zone a b c k n.0 in
    let at_clock : ℕ → ℕ → ℕ → Clock × List ℕ → Option Fields = λ a b c k. fraction_at k.1 >>= at_fraction a b c k.0 in
    let at_hour : ℕ → ℕ → ℕ × List ℕ → Option Fields = λ a b c. clock_at c.1 >>= at_clock a b c.0 in
    let at_day : ℕ → ℕ × List ℕ → Option Fields = λ a b. two_at b.1 >>= at_hour a b.0 in
    let p1 = bind_some (two_at l) (λ a. two_at a.1 >>= at_day a.0) f e in
    let p2 = bind_some (two_at p1.0.1) (at_day p1.0.0) f p1.2 in
    let p3 = bind_some (two_at p2.0.1) (at_hour p1.0.0 p2.0.0) f p2.2 in
    let p4 = bind_some (clock_at p3.0.1) (at_clock p1.0.0 p2.0.0 p3.0.0) f p3.2 in
    let p5 = bind_some (fraction_at p4.0.1) (at_fraction p1.0.0 p2.0.0 p3.0.0 p4.0.0) f p4.2 in
    let p6 = bind_some (zone_at p5.0.1) (at_zone p1.0.0 p2.0.0 p3.0.0 p4.0.0 p5.0.0) f p5.2 in
    let a1 = two_consumes l p1.0 p1.1 in
    let a2 = two_consumes p1.0.1 p2.0 p2.1 in
    let a3 = two_consumes p2.0.1 p3.0 p3.1 in
    let a4 = clock_consumes p3.0.1 p4.0 p4.1 in
    let a5 = fraction_consumes p4.0.1 p5.0 p5.1 in
    let a6 = zone_consumes p5.0.1 p6.0 p6.1 in (
      record { month = p1.0.0; day = p2.0.0; hour = p3.0.0; clock = p4.0.0; fraction = a5.0; zone = p6.0 },
      record { month = a1.1; day = a2.1; hour = a3.1; clock = a4.1; fraction = a5.1; zone = a6.1 },
      joined_six l p1.0.1 p2.0.1 p3.0.1 p4.0.1 p5.0.1 (two p1.0.0) (two p2.0.0) (two p3.0.0) (clock_text p4.0.0) (fraction_text a5.0) (zone_text p6.0) a1.0 a2.0 a3.0 a4.0 a5.2 a6.0,
      with_fraction p1.0.0 p2.0.0 p3.0.0 p4.0.0 (fraction_of a5.0) p5.0.0 p6.0 f a5.3 p6.2,
    )

-- The days that texts mean.
use Rattle.std.proofs.Common.{◌≡◌, ℕ, ◌<◌, ◌≤◌, List, [], ◌++◌, Option, Some, None, refl, sym, ap, ◌∙◌, arith, subst, cond, ℤ, pos}
use Rattle.std.proofs.lemmas.Bool.Decides.{nat_tests}
use Rattle.std.proofs.lemmas.Option.{cond_some, same_Some, none-some}
use Rattle.rasn_types.specs.Calendar.{Day, IsDay, days_of_month}
use Rattle.rasn_types.specs.TimeSpelling.{two, four}
use Rattle.rasn_types.specs.Time.{DateText}
use Rattle.rasn_types.specs.Options.{IsSomeExactlyIf, IsSomeRelated}
use Rattle.rasn_types.specs.TimeParsing.{◌>>=◌, two_at, four_at, date_at, is_nothing}
use Rattle.rasn_types.proofs.Time.Spellings.{two_again, two_consumes, four_again, four_consumes, bind_some, nothing}

pub month_end : (y : ℤ) (m : ℕ) → days_of_month y m ≤ 31
month_end y m = grind (arith, nat_tests)

pub date_again : (text : List ℕ) (d : Day) (r : DateText text d) → date_at text ≡ Some (r.year, d.month, d.day)
unfolding date_at
date_again text d r =
    let e = month_end d.year d.month in
    let h = r.exists in
    let a = four_again r.year (two d.month ++ two d.day) r.below in
    let b = two_again d.month (two d.day) (omega (arith, h.month_to)) in
    let g = two_again d.day [] (omega (arith, h.day_to, e)) in
    ap date_at r.is ∙ rw (a, b, g) refl

pub date_consumes : (text : List ℕ) (x : ℕ × ℕ × ℕ) → date_at text ≡ Some x → (text ≡ four x.0 ++ two x.1 ++ two x.2) × (x.0 < 10000)
unfolding date_at
date_consumes text x e =
    let P : ℕ × ℕ × ℕ → Type 0 = λ y. (text ≡ four y.0 ++ two y.1 ++ two y.2) × (y.0 < 10000) in
    let at_day : ℕ → ℕ → ℕ × List ℕ → Option (ℕ × ℕ × ℕ) = λ a b d. cond (is_nothing d.1) (Some (a, b, d.0)) None in
    let at_month : ℕ → ℕ × List ℕ → Option (ℕ × ℕ × ℕ) = λ a b. two_at b.1 >>= at_day a b.0 in
    let p = bind_some (four_at text) (λ a. two_at a.1 >>= at_month a.0) x e in
    let q = bind_some (two_at p.0.1) (at_month p.0.0) x p.2 in
    let r = bind_some (two_at q.0.1) (at_day p.0.0 q.0.0) x q.2 in
    let s = cond_some (is_nothing r.0.1) (p.0.0, q.0.0, r.0.0) x r.2 in
    let a = four_consumes text p.0 p.1 in
    let b = two_consumes p.0.1 q.0 q.1 in
    let g = two_consumes q.0.1 r.0 r.1 in
    let z = nothing r.0.1 s.0 in
    subst P s.1 (a.0 ∙ ap (λ k. four p.0.0 ++ k) (b.0 ∙ ap (λ k. two q.0.0 ++ k) (g.0 ∙ ap (λ k. two r.0.0 ++ k) z)), a.1)

pub date_none : (text : List ℕ) → date_at text ≡ None → (d : Day) → DateText text d → ⊥
date_none text e d r = none-some _ (sym e ∙ date_again text d r)

pub same_day : (d : Day) (y : ℤ) (m n : ℕ) → d.year ≡ y → d.month ≡ m → d.day ≡ n → d ≡ (let v : Day = record { year = y; month = m; day = n } in v)
same_day d y m n a b c = rw (← a, ← b, ← c) refl

pub date_made : (text : List ℕ) (y m n : ℕ) (r : Option Day) → date_at text ≡ Some (y, m, n) → (let d : Day = record { year = pos y; month = m; day = n } in IsSomeExactlyIf r (IsDay d) d) → IsSomeRelated r (DateText text)
date_made text y m n None e h = λ d r.
    let p : (r.year, d.month, d.day) ≡ (y, m, n) = same_Some _ _ (sym (date_again text d r) ∙ e) in
    let a : r.year ≡ y = ap (λ (x : ℕ × ℕ × ℕ). x.0) p in
    let b : d.month ≡ m = ap (λ (x : ℕ × ℕ × ℕ). x.1) p in
    let g : d.day ≡ n = ap (λ (x : ℕ × ℕ × ℕ). x.2) p in
    let z : d.year ≡ pos y = r.same ∙ ap pos a in
    let w = same_day d (pos y) m n z b g in
    h (subst IsDay w r.exists)
date_made text y m n (Some d) e h =
    let t = date_consumes text (y, m, n) e in
    subst (DateText text) (sym h.1) (record { year = y; below = t.1; is = t.0; same = refl; exists = h.0 })

pub one_day : (text : List ℕ) (d e : Day) → DateText text d → DateText text e → d ≡ e
one_day text d e r s =
    let p : (r.year, d.month, d.day) ≡ (s.year, e.month, e.day) = same_Some _ _ (sym (date_again text d r) ∙ date_again text e s) in
    let a : d.year ≡ e.year = r.same ∙ ap (λ (x : ℕ × ℕ × ℕ). pos x.0) p ∙ sym s.same in
    same_day d e.year e.month e.day a (ap (λ (x : ℕ × ℕ × ℕ). x.1) p) (ap (λ (x : ℕ × ℕ × ℕ). x.2) p)

-- The stamps that texts mean, by the functions of the parser.
use Rattle.std.proofs.Common.{◌≡◌, ℕ, ◌<◌, Bool, true, false, ◌&&◌, List, ◌++◌, Option, Some, None, refl, sym, ap, ◌∙◌, subst, ℤ, pos}
use Rattle.std.proofs.lemmas.Option.{same_Some, none-some}
use Rattle.rasn_types.specs.declared.ber.time.text.Fields.{Fields}
use Rattle.rasn_types.specs.Calendar.{Moment, IsMoment, Stamp}
use Rattle.rasn_types.specs.TimeSpelling.{two, four, tail_text}
use Rattle.rasn_types.specs.Time.{TimeText, stamp_of, shown, fields_of, century, as_given}
use Rattle.rasn_types.specs.Options.{IsSomeExactlyIf, IsSomeRelated}
use Rattle.rasn_types.specs.TimeParsing.{◌>>=◌, two_at, four_at, fields_at, parts_at, long_at, short_at}
use Rattle.rasn_types.proofs.Time.Spellings.{fields_again, fields_consumes, two_again, two_consumes, four_again, four_consumes, bind_some}

pub record Found (year_of : ℕ → ℕ) (form : Fields → Bool) (o : Option (ℕ × Fields)) (t : Stamp) : Type 0 where
  pub year : ℕ
  pub fields : Fields
  pub is : o ≡ Some (year, fields)
  pub allowed : form fields ≡ true
  pub exists : IsMoment (shown (pos (year_of year)) fields)
  pub meant : t ≡ stamp_of (pos (year_of year)) fields

module _ (year_text : ℕ → List ℕ) (limit : ℕ) (year_at : List ℕ → Option (ℕ × List ℕ))
    (again : (n : ℕ) (l : List ℕ) → n < limit → year_at (year_text n ++ l) ≡ Some (n, l))
    (takes : (l : List ℕ) (x : ℕ × List ℕ) → year_at l ≡ Some x → (l ≡ year_text x.0 ++ x.1) × (x.0 < limit))
    (year_of : ℕ → ℕ) (form : Fields → Bool) where
  pub read_again : (text : List ℕ) (t : Stamp) → TimeText year_text limit year_of form text t → Found year_of form (parts_at year_at text) t
  read_again text t r =
      let a = again r.year (tail_text r.rest) r.below in
      let b = fields_again r.rest r.spelled in
      record {
        year = r.year;
        fields = fields_of r.rest;
        is = ap (parts_at year_at) r.is ∙ rw (a, b) refl;
        allowed = r.allowed;
        exists = r.exists;
        meant = r.meant;
      }

  pub found : (text : List ℕ) (t : Stamp) → Found year_of form (parts_at year_at text) t → TimeText year_text limit year_of form text t
  found text t r =
      let p = bind_some (year_at text) (λ y. fields_at y.1 >>= λ f. Some (y.0, f)) (r.year, r.fields) r.is in
      let q = bind_some (fields_at p.0.1) (λ f. Some (p.0.0, f)) (r.year, r.fields) p.2 in
      let a = takes text p.0 p.1 in
      let b = fields_consumes p.0.1 q.0 q.1 in
      let pair : (p.0.0, q.0) ≡ (r.year, r.fields) = same_Some _ _ q.2 in
      let y : p.0.0 ≡ r.year = ap (λ (x : ℕ × Fields). x.0) pair in
      let f : fields_of b.0 ≡ r.fields = b.3 ∙ ap (λ (x : ℕ × Fields). x.1) pair in
      record {
        year = r.year;
        rest = b.0;
        below = subst (λ n. n < limit) y a.1;
        spelled = b.1;
        allowed = ap form f ∙ r.allowed;
        is = a.0 ∙ ap (λ k. year_text p.0.0 ++ k) b.2 ∙ ap (λ n. year_text n ++ tail_text b.0) y;
        exists = subst (λ g. IsMoment (shown (pos (year_of r.year)) g)) (sym f) r.exists;
        meant = r.meant ∙ ap (stamp_of (pos (year_of r.year))) (sym f);
      }

  pub one_stamp : (text : List ℕ) (t u : Stamp) → TimeText year_text limit year_of form text t → TimeText year_text limit year_of form text u → t ≡ u
  one_stamp text t u a b =
      let p = read_again text t a in
      let q = read_again text u b in
      let e : (p.year, p.fields) ≡ (q.year, q.fields) = same_Some _ _ (sym p.is ∙ q.is) in
      p.meant ∙ ap (λ (x : ℕ × Fields). stamp_of (pos (year_of x.0)) x.1) e ∙ sym q.meant

pub generalized_again : (form : Fields → Bool) (text : List ℕ) (t : Stamp) → TimeText four 10000 as_given form text t → Found as_given form (long_at text) t
unfolding long_at
generalized_again form = read_again four 10000 four_at four_again four_consumes as_given form

pub generalized_parsed : (form : Fields → Bool) (text : List ℕ) (t : Stamp) → Found as_given form (long_at text) t → TimeText four 10000 as_given form text t
unfolding long_at
generalized_parsed form = found four 10000 four_at four_again four_consumes as_given form

pub utc_again : (form : Fields → Bool) (text : List ℕ) (t : Stamp) → TimeText two 100 century form text t → Found century form (short_at text) t
unfolding short_at
utc_again form = read_again two 100 two_at two_again two_consumes century form

pub utc_parsed : (form : Fields → Bool) (text : List ℕ) (t : Stamp) → Found century form (short_at text) t → TimeText two 100 century form text t
unfolding short_at
utc_parsed form = found two 100 two_at two_again two_consumes century form

-- What the parsers return, by what they read.
pub none_parsed : (year_of : ℕ → ℕ) (form : Fields → Bool) (o : Option (ℕ × Fields)) → o ≡ None → (t : Stamp) → Found year_of form o t → ⊥
none_parsed year_of form o e t r = none-some _ (sym e ∙ r.is)

pub unlike_parsed : (year_of : ℕ → ℕ) (form : Fields → Bool) (o : Option (ℕ × Fields)) (y : ℕ) (f : Fields) → o ≡ Some (y, f) → form f ≡ false → (t : Stamp) → Found year_of form o t → ⊥
unlike_parsed year_of form o y f e n t r =
    let p : (r.year, r.fields) ≡ (y, f) = same_Some _ _ (sym r.is ∙ e) in
    let q : r.fields ≡ f = ap (λ (x : ℕ × Fields). x.1) p in
    let z : true ≡ false = sym r.allowed ∙ ap form q ∙ n in
    absurd (cc)

pub makes_parsed : (year_of : ℕ → ℕ) (form : Fields → Bool) (o : Option (ℕ × Fields)) (y : ℕ) (f : Fields) (r : Option Stamp) → o ≡ Some (y, f) → form f ≡ true → IsSomeExactlyIf r (IsMoment (shown (pos (year_of y)) f)) (stamp_of (pos (year_of y)) f) → IsSomeRelated r (Found year_of form o)
makes_parsed year_of form o y f None e n h = λ t r.
    let p : (r.year, r.fields) ≡ (y, f) = same_Some _ _ (sym r.is ∙ e) in
    h (subst (λ (x : ℕ × Fields). IsMoment (shown (pos (year_of x.0)) x.1)) p r.exists)
makes_parsed year_of form o y f (Some t) e n h = record { year = y; fields = f; is = e; allowed = n; exists = h.0; meant = h.1 }

relates_same : (r : Option Stamp) (P Q : Stamp → Type 0) → ((t : Stamp) → P t → Q t) → ((t : Stamp) → Q t → P t) → IsSomeRelated r P → IsSomeRelated r Q
relates_same None P Q f g h = λ t q. h t (g t q)
relates_same (Some t) P Q f g h = f t h

pub generalized_none : (form : Fields → Bool) (text : List ℕ) → long_at text ≡ None → (t : Stamp) → TimeText four 10000 as_given form text t → ⊥
generalized_none form text e t r = none_parsed as_given form (long_at text) e t (generalized_again form text t r)

pub generalized_unlike : (form : Fields → Bool) (text : List ℕ) (y : ℕ) (f : Fields) → long_at text ≡ Some (y, f) → form f ≡ false → (t : Stamp) → TimeText four 10000 as_given form text t → ⊥
generalized_unlike form text y f e n t r = unlike_parsed as_given form (long_at text) y f e n t (generalized_again form text t r)

pub generalized_made : (form : Fields → Bool) (text : List ℕ) (y : ℕ) (f : Fields) (r : Option Stamp) → long_at text ≡ Some (y, f) → form f ≡ true → IsSomeExactlyIf r (IsMoment (shown (pos y) f)) (stamp_of (pos y) f) → IsSomeRelated r (TimeText four 10000 as_given form text)
generalized_made form text y f r e n h =
    relates_same r (Found as_given form (long_at text)) (TimeText four 10000 as_given form text) (generalized_parsed form text) (generalized_again form text) (makes_parsed as_given form (long_at text) y f r e n h)

pub utc_none : (form : Fields → Bool) (text : List ℕ) → short_at text ≡ None → (t : Stamp) → TimeText two 100 century form text t → ⊥
utc_none form text e t r = none_parsed century form (short_at text) e t (utc_again form text t r)

pub utc_unlike : (form : Fields → Bool) (text : List ℕ) (y : ℕ) (f : Fields) → short_at text ≡ Some (y, f) → form f ≡ false → (t : Stamp) → TimeText two 100 century form text t → ⊥
utc_unlike form text y f e n t r = unlike_parsed century form (short_at text) y f e n t (utc_again form text t r)

pub utc_made : (form : Fields → Bool) (text : List ℕ) (y : ℕ) (f : Fields) (r : Option Stamp) → short_at text ≡ Some (y, f) → form f ≡ true → IsSomeExactlyIf r (IsMoment (shown (pos (century y)) f)) (stamp_of (pos (century y)) f) → IsSomeRelated r (TimeText two 100 century form text)
utc_made form text y f r e n h =
    relates_same r (Found century form (short_at text)) (TimeText two 100 century form text) (utc_parsed form text) (utc_again form text) (makes_parsed century form (short_at text) y f r e n h)

pub both_off : (a b : Bool) → a ≡ false → (a && b) ≡ false
both_off a b e = rw e refl

pub both_on : (a b : Bool) → a ≡ true → b ≡ true → (a && b) ≡ true
both_on a b e f = rw (e, f) refl

-- The moment without its offset.
pub moment_none : (R : Stamp → Type 0) → ((t : Stamp) → R t → ⊥) → (m : Moment) → ((offset : ℤ) × R (record { moment = m; offset = offset })) → ⊥
moment_none R h m r = h (record { moment = m; offset = r.0 }) r.1

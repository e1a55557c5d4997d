-- Departures that are appended.
use Rattle.std.specs.Prelude.{IfOk, MatchOption}
use Rattle.std.proofs.Common.{◌≡◌, inl, inr, ℕ, Bool, true, false, List, [], ◌∷◌, ◌++◌, Option, Some, None, Result, Ok, Err, Vec, Bor, refl, ap, ◌∙◌, append_assoc, append-nil, slice_get, sym, subst}
use Rattle.std.specs.Global.{Global}
use Rattle.rasn_types.specs.declared.error.decode.DecodeError.{DecodeError}
use Rattle.rasn_lint.specs.declared.departure.Aspect.{Aspect}
use Rattle.std.specs.List.{AllByRecursion}
use Rattle.rasn_dynamic.specs.declared.span.Span.{Span}
use Rattle.rasn_lint.specs.declared.departure.Departure.{Departure}
use Rattle.rasn_lint.specs.declared.departure.Aspect.TheVariants.{Header, Contents, Place}
use Rattle.rasn_lint.specs.declared.judge.Faults.{Faults}
use Rattle.rasn_schema.specs.declared.types.«Type».{«Type»}
use Rattle.rasn_lint.specs.declared.by_schema.OpenTypes.{OpenTypes}
use Rattle.rasn_lint.specs.declared.by_schema.OpenTypes.TheVariants.{Unexamined, Examined}
use Rattle.rasn_lint.specs.declared.trail.Step.{Step}
use Rattle.rasn_lint.specs.declared.judge.Site.{Site}
use Rattle.rasn_lint.specs.Judged.{IsCopied, IsSiteAt, IsDepartureAt, AreNoted, AreListed, AreOfUnknown, TypedUnless, OpenIf, AreOfPart}
use Rattle.rasn_types.specs.declared.types.tag.Tag.{Tag}
use Rattle.rasn_lint.specs.Header.{is_constructed, IsTagFault, IsLengthFault}
use Rattle.rasn_lint.specs.Listed.{HasAllIf}
use Rattle.rasn_lint.specs.Open.{IsFoundIn, DepartsThere, IsInside, IsOfUnknown, GrowsInside, GrowsUnknown}
use Rattle.rasn_lint.specs.Refusals.{form_error, IsContentsError}
use Rattle.rasn_lint.specs.Universal.{rule_of}
use Rattle.rasn_lint.specs.Untyped.{HasContents, IsValueIn, LeadsInto, HasNoForm, HasWrongContents, AreUntypedFaults}
use Rattle.rasn_lint.specs.WellFormed.{AreEncodings, AllowsEncoding}

folded : {A : Type 0} (l m z a b : List A) → l ≡ m ++ a → z ≡ l ++ b → z ≡ m ++ (a ++ b)
folded l m z a b p q = q ∙ (ap (λ y. y ++ b) p ∙ append_assoc m a b)

-- What is appended of a part: six times one departure or none.
pub listed : (site : Site) (f : Faults) (l0 l1 l2 l3 l4 l5 l6 : List Departure)
    → ((ds : List Departure) × (l1 ≡ l0 ++ ds) × AreNoted site Place f.order ds)
    → ((ds : List Departure) × (l2 ≡ l1 ++ ds) × AreNoted site Place f.default ds)
    → ((ds : List Departure) × (l3 ≡ l2 ++ ds) × AreNoted site Header f.tag ds)
    → ((ds : List Departure) × (l4 ≡ l3 ++ ds) × AreNoted site Header f.form ds)
    → ((ds : List Departure) × (l5 ≡ l4 ++ ds) × AreNoted site Header f.length ds)
    → ((ds : List Departure) × (l6 ≡ l5 ++ ds) × AreNoted site Contents f.contents ds)
    → (ds : List Departure) × (l6 ≡ l0 ++ ds) × AreListed site f ds
listed site f l0 l1 l2 l3 l4 l5 l6 (a, p, h) (b, q, i) (c, r, j) (d, s, k) (g, t, m) (o, u, n) =
    let x5 = folded l5 l4 l6 g o t u in
    let x4 = folded l4 l3 l6 d (g ++ o) s x5 in
    let x3 = folded l3 l2 l6 c (d ++ (g ++ o)) r x4 in
    let x2 = folded l2 l1 l6 b (c ++ (d ++ (g ++ o))) q x3 in
    let x1 = folded l1 l0 l6 a (b ++ (c ++ (d ++ (g ++ o)))) p x2 in (
      a ++ (b ++ (c ++ (d ++ (g ++ o)))),
      x1,
      record {
        order = a;
        default = b;
        tag = c;
        form = d;
        length = g;
        contents = o;
        are = refl;
        in_order = h;
        by_default = i;
        by_tag = j;
        by_form = k;
        by_length = m;
        in_contents = n;
      },
    )

pub all_append : {A : Type 0} (P : A → Type 0) (xs ys : List A) → AllByRecursion P xs → AllByRecursion P ys → AllByRecursion P (xs ++ ys)
all_append P [] ys h k = k
all_append P (x ∷ xs) ys h k = (h.0, all_append P xs ys h.1 k)

-- Departures at a site inside the part, to which the indices lead.
module _ (len left : ℕ) (e : Span) (path octets : List ℕ) (indices : Bor (List ℕ)) (site : Site) (at : IsSiteAt len left e path (Some indices) site) (found : IsFoundIn e octets left) (inside : List ℕ) where
  copied_some : (o : Option (Bor (List ℕ))) (v : Option (Vec ℕ Global)) → o ≡ Some indices → IsCopied o v → (w : Vec ℕ Global) × (v ≡ Some w) × (w.items ≡ indices.now)
  copied_some None v p h = let q : Some indices ≡ None = sym p in cc
  copied_some (Some x) v p (w, r, is) = let q : x ≡ indices = cc in (w, r, is ∙ ap (λ (z : Bor (List ℕ)). z.now) q)

  inside_at : (aspect : Aspect) (error : DecodeError) (d : Departure) → DepartsThere inside indices.now octets aspect error → IsDepartureAt site aspect error d → IsInside len e path inside d
  inside_at aspect error d w h =
      let v = copied_some site.inner d.inner at.inner_is h.inner in
      record {
        id = h.id ∙ at.id;
        steps = h.steps ∙ at.path_is;
        indices = v.0;
        inner = v.1;
        octets = octets;
        left = left;
        found = found;
        offset = h.offset ∙ at.offset;
        departs = subst (λ z. DepartsThere inside z octets d.aspect d.refusal.error) (sym v.2)
            (subst (λ a. DepartsThere inside indices.now octets a d.refusal.error) (sym h.aspect_is) (subst (λ x. DepartsThere inside indices.now octets aspect x) (sym h.error_is) w));
      }

  noted_inside : (aspect : Aspect) (fault : Option DecodeError) (ds : List Departure) → ((error : DecodeError) → fault ≡ Some error → DepartsThere inside indices.now octets aspect error)
      → AreNoted site aspect fault ds → AllByRecursion (IsInside len e path inside) ds
  noted_inside aspect None ds w h = subst (AllByRecursion (IsInside len e path inside)) (sym h) tt
  noted_inside aspect (Some error) ds w (d, p, h) = subst (AllByRecursion (IsInside len e path inside)) (sym p) (inside_at aspect error d (w error refl) h, tt)

  -- One is appended.
  pub one_inside : (aspect : Aspect) (error : DecodeError) (a b : List Departure) → DepartsThere inside indices.now octets aspect error
      → ((ds : List Departure) × (b ≡ a ++ ds) × AreNoted site aspect (Some error) ds) → (d : Departure) × (b ≡ a ++ d ∷ []) × IsInside len e path inside d
  one_inside aspect error a b w (ds, p, (d, q, h)) = (d, p ∙ ap (λ z. a ++ z) q, inside_at aspect error d w h)

  pub grows_one : (aspect : Aspect) (error : DecodeError) (a b : List Departure) → DepartsThere inside indices.now octets aspect error
      → ((ds : List Departure) × (b ≡ a ++ ds) × AreNoted site aspect (Some error) ds) → GrowsInside len e path inside a b
  grows_one aspect error a b w h = let r = one_inside aspect error a b w h in (r.0 ∷ [], r.1, (r.2, tt))

  -- Those of the encoding there are.
  pub grows_listed : (f : Faults) (tag : Tag) (contents : List ℕ) (a b : List Departure) → LeadsInto indices.now inside octets → HasContents tag octets contents → AreUntypedFaults tag contents octets f
      → ((ds : List Departure) × (b ≡ a ++ ds) × AreListed site f ds) → GrowsInside len e path inside a b
  grows_listed f tag contents a b leads has u (ds, p, h) =
      let I = IsInside len e path inside in
      let by_contents = noted_inside Contents f.contents h.contents
      (λ x q.
      let y = subst (λ o. MatchOption o (HasWrongContents tag (is_constructed octets) contents → ⊥) (λ z. AllowsEncoding false tag (is_constructed octets) contents × IsContentsError (rule_of tag) tag (is_constructed octets) contents z)) q u.in_contents in
      inl (leads, (tag, contents, has, y.0, y.1)))
      h.in_contents in
      let by_length = noted_inside Header f.length h.length (λ x q. inl (leads, inl (inr (subst (IsLengthFault octets) q u.by_length)))) h.by_length in
      let by_form = noted_inside Header f.form h.form
      (λ x q.
      let y = subst (λ o. MatchOption o (HasNoForm (rule_of tag) (is_constructed octets) → ⊥) (λ z. HasNoForm (rule_of tag) (is_constructed octets) × (z ≡ form_error (rule_of tag) (is_constructed octets)))) q u.by_form in
      inl (leads, inr (inl (tag, contents, has, y.0, y.1))))
      h.by_form in
      let by_tag = noted_inside Header f.tag h.tag (λ x q. inl (leads, inl (inl (subst (IsTagFault octets) q u.by_tag)))) h.by_tag in
      let by_default = noted_inside Place f.default h.default (λ x q. let n = u.default in cc) h.by_default in
      let in_order = noted_inside Place f.order h.order (λ x q. let n = u.order in cc) h.in_order in
      let x5 = all_append I h.length h.contents by_length by_contents in
      let x4 = all_append I h.form (h.length ++ h.contents) by_form x5 in
      let x3 = all_append I h.tag (h.form ++ (h.length ++ h.contents)) by_tag x4 in
      let x2 = all_append I h.default (h.tag ++ (h.form ++ (h.length ++ h.contents))) by_default x3 in
      let x1 = all_append I h.order (h.default ++ (h.tag ++ (h.form ++ (h.length ++ h.contents)))) in_order x2 in
      (ds, p, subst (AllByRecursion I) (sym h.are) x1)

-- What follows if a call succeeds.
pub if_so : {T E : Type 0} {P Q : Type 0} (r : Result T E) → (P → Q) → IfOk r (λ v. P) → IfOk r (λ v. Q)
if_so (Ok v) f h = f h
if_so (Err e) f h = tt

-- Some are appended after others.
pub grows_more : (len : ℕ) (e : Span) (path inside : List ℕ) (a b c : List Departure) → GrowsInside len e path inside a b → GrowsInside len e path inside b c → GrowsInside len e path inside a c
grows_more len e path inside a b c (ds, p, h) (es, q, k) = (ds ++ es, folded b a c ds es p q, all_append (IsInside len e path inside) ds es h k)

-- Departures inside one of unknown values are appended after others.
pub unknown_more : (len : ℕ) (e : Span) (path inside : List ℕ) (a b c ds : List Departure) → IsValueIn e.octets.now inside → GrowsUnknown len e path a b → c ≡ b ++ ds → AllByRecursion (IsInside len e path inside) ds → GrowsUnknown len e path a c
unknown_more len e path inside a b c ds v (es, p, h) q k = (es ++ ds, folded b a c es ds p q, all_append (IsOfUnknown len e path) es ds h (go ds k))
  where
    go : (xs : List Departure) → AllByRecursion (IsInside len e path inside) xs → AllByRecursion (IsOfUnknown len e path) xs
    go [] k = tt
    go (x ∷ xs) k = ((inside, inl v, k.0), go xs k.1)

some_last : (xs : List Departure) (d : Departure) → xs ++ d ∷ [] ≡ [] → ⊥
some_last [] d e = cc
some_last (x ∷ xs) d e = cc

-- One of unknown values as a whole.
pub unknown_whole : (len : ℕ) (e : Span) (path : List ℕ) (a b c : List Departure) → (AreEncodings e.octets.now → ⊥) → GrowsUnknown len e path a b → ((d : Departure) × (c ≡ b ++ d ∷ []) × IsInside len e path e.octets.now d)
    → (ds : List Departure) × (c ≡ a ++ ds) × AreOfUnknown len path e ds
unknown_whole len e path a b c n (es, p, h) (d, q, i) = (
  es ++ d ∷ [],
  folded b a c es (d ∷ []) p q,
  ((λ x. absurd (some_last es d x), λ x. absurd (n x)), all_append (IsOfUnknown len e path) es (d ∷ []) h ((e.octets.now, inr refl, i), tt)),
)

-- What is appended of a part by its type, and then inside it.
pub both_parts : (is_read : Bool) (opens : OpenTypes) (types : List «Type») (len : ℕ) (trail : List Step) (path : List ℕ) (e : Span) (o : Option «Type») (l0 l1 l2 : List Departure)
    → o ≡ slice_get types e.id.0
    → ((ds : List Departure) × (l1 ≡ l0 ++ ds) × TypedUnless is_read opens types len trail path e o ds)
    → ((ds : List Departure) × (l2 ≡ l1 ++ ds) × OpenIf opens len path e o ds)
    → ((ds : List Departure) → l2 ≡ l1 ++ ds → HasAllIf opens e o ds)
    → (ds : List Departure) × (l2 ≡ l0 ++ ds) × AreOfPart is_read opens types len trail path e ds
both_parts is_read opens types len trail path e o l0 l1 l2 is (a, p, h) (b, q, k) m = (
  a ++ b,
  folded l1 l0 l2 a b p q,
  record {
    typed = a;
    inside = b;
    are = refl;
    by_type = subst (λ z. TypedUnless is_read opens types len trail path e z a) is h;
    by_octets = subst (λ z. OpenIf opens len path e z b) is k;
    complete = subst (λ z. HasAllIf opens e z b) is (m b q);
  },
)

-- Of no type there are none.
pub no_part : (is_read : Bool) (opens : OpenTypes) (types : List «Type») (len : ℕ) (trail : List Step) (path : List ℕ) (e : Span) (l : List Departure) → slice_get types e.id.0 ≡ None
    → (ds : List Departure) × (l ≡ l ++ ds) × AreOfPart is_read opens types len trail path e ds
no_part is_read opens types len trail path e l is =
    both_parts is_read opens types len trail path e None l l l (sym is) ([], sym (append-nil l), none is_read) ([], sym (append-nil l), none_inside opens) (λ ds q. none_left_out opens ds)
  where
    none : (b : Bool) → TypedUnless b opens types len trail path e None []
    none true = refl
    none false = refl

    none_inside : (o : OpenTypes) → OpenIf o len path e None []
    none_inside Unexamined = refl
    none_inside Examined = refl

    none_left_out : (o : OpenTypes) (ds : List Departure) → HasAllIf o e None ds
    none_left_out Unexamined ds = tt
    none_left_out Examined ds = tt

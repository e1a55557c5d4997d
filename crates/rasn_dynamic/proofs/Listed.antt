-- Lists of the parts of what is read are put together.
use Rattle.std.proofs.Common.{Bool, true, false, ◌≡◌, ◌+◌, ◌-◌, ◌^◌, ◌<◌, ◌≤◌, ℕ, zero, suc, List, [], ◌∷◌, ◌++◌, length, Option, Some, None, Vec, Global, Result, Ok, Err, refl, sym, ap, ◌∙◌, subst, inl, inr, append_assoc, add-one, arith, length-append}
use Rattle.std.proofs.lemmas.List.{append-nil}
use Rattle.std.proofs.lemmas.Option.{slice_get-get_or}
use Rattle.std.proofs.Math.Seq.{get_or-append_seam, set-append_seam}
use Rattle.std.specs.Borrow.{Bor}
use Rattle.std.specs.Prelude.{if◌then◌else◌, slice_get, slice_set, get_or, IfOk}
use Rattle.rasn_types.specs.Shapes.{Shape, Tree}
use Rattle.rasn_types.specs.Framing.{Ended}
use Rattle.rasn_de.specs.State.{State}
use Rattle.rasn_de.specs.declared.ber.de.parser.Contents.{Contents}
use Rattle.rasn_de.specs.declared.ber.de.constructed.ConstructedHeader.{ConstructedHeader}
use Rattle.rasn_de.specs.Constructed.{Keeps, ConsumesOpening, sequence_header, list_header, prefix_header}
use Rattle.rasn_schema.specs.declared.type_id.TypeId.{TypeId}
use Rattle.rasn_schema.specs.declared.types.Component.{Component}
use Rattle.rasn_schema.specs.declared.types.Alternative.{Alternative}
use Rattle.rasn_schema.specs.declared.types.«Type».{«Type»}
use Rattle.rasn_schema.specs.declared.types.«Type».TheVariants.{Leaf, Enumerated, Any, Tagged, Choice, Sequence, Set, SequenceOf, SetOf, Unknown}
use Rattle.rasn_schema.specs.Shapes.{shape_of_type, components_by}
use Rattle.rasn_dynamic.specs.declared.span.Span.{Span}
use Rattle.rasn_dynamic.specs.declared.span.Spans.{Spans}
use Rattle.rasn_dynamic.specs.Inside.{DecodesTree}
use Rattle.rasn_dynamic.specs.Sets.{PassesUnknown}
use Rattle.rasn_dynamic.specs.Calls.{LeavesAllOut}
use Rattle.rasn_dynamic.specs.Faults.{IsNextAlternative, octets_after}
use Rattle.rasn_dynamic.specs.Parts.{IsAbsentHere}
use Rattle.rasn_dynamic.specs.Listed.{is_wanted, wanted_of, capped, depth_at, GoesInside, GoesInto, InTurn, UnknownListed, PartListed, ComponentListed, ComponentAt, ComponentsListed, MemberListed, MembersListed, ElementsListed, AlternativeListed, ContentsListed, InsideListed, ValueListed, PartsInside, Inside, Lists, IsNoted, IsCut, IsFinished, IsInside, IsOutside}

-- Of any value that is returned.
pub if_any : {T E : Type 0} {P : Type 0} (r : Result T E) → P → IfOk r (λ v. P)
if_any (Ok v) p = p
if_any (Err e) p = tt

-- ---- what is wanted

pub wanted_append : (w : Option (Vec Bool Global)) (es fs : List Span) → wanted_of w (es ++ fs) ≡ wanted_of w es ++ wanted_of w fs
wanted_append w [] fs = refl
wanted_append w (e ∷ es) fs =
    elim (is_wanted w e.id.0) as (λ b. (if b then e ∷ wanted_of w (es ++ fs) else wanted_of w (es ++ fs)) ≡ (if b then e ∷ wanted_of w es else wanted_of w es) ++ wanted_of w fs) [
      | true ↦ ap (λ l. e ∷ l) (wanted_append w es fs)
      | false ↦ wanted_append w es fs
    ]

wanted_here : (w : Option (Vec Bool Global)) (e : Span) (es : List Span) → is_wanted w e.id.0 ≡ true → wanted_of w (e ∷ es) ≡ e ∷ wanted_of w es
wanted_here w e es h = ap (λ b. if b then e ∷ wanted_of w es else wanted_of w es) h

unwanted_here : (w : Option (Vec Bool Global)) (e : Span) (es : List Span) → is_wanted w e.id.0 ≡ false → wanted_of w (e ∷ es) ≡ wanted_of w es
unwanted_here w e es h = ap (λ b. if b then e ∷ wanted_of w es else wanted_of w es) h

-- All are, where there is no table.
pub wanted_all : (w : Option (Vec Bool Global)) (es : List Span) → w ≡ None → wanted_of w es ≡ es
wanted_all (Some v) es e = cc
wanted_all None [] e = refl
wanted_all None (x ∷ es) e = ap (λ l. x ∷ l) (wanted_all None es refl)

-- ---- the list

-- Nothing is appended.
pub lists_same : (R : ℕ → List Span → Type 0) (o : Spans) → R o.after [] → Lists R o o
lists_same R o r = record { same_after = refl; same_wanted = refl; parts = []; are = r; more = λ m q. (m, q, sym (append-nil m.items)) }

pub lists_map : (R Q : ℕ → List Span → Type 0) (o n : Spans) → ((b : ℕ) (es : List Span) → R b es → Q b es) → Lists R o n → Lists Q o n
lists_map R Q o n h l = record { same_after = l.same_after; same_wanted = l.same_wanted; parts = l.parts; are = h o.after l.parts l.are; more = l.more }

-- What is appended twice.
pub lists_join : (R Q S : ℕ → List Span → Type 0) (o m n : Spans) → ((b : ℕ) (es fs : List Span) → R b es → Q b fs → S b (es ++ fs)) → Lists R o m → Lists Q m n → Lists S o n
lists_join R Q S o m n h x y = record {
  same_after = y.same_after ∙ x.same_after;
  same_wanted = y.same_wanted ∙ x.same_wanted;
  parts = x.parts ++ y.parts;
  are = h o.after x.parts y.parts x.are (subst (λ b. Q b y.parts) x.same_after y.are);
  more = λ v q.
      let w = y.more v q in
      let u = x.more w.0 w.1 in
      let both : wanted_of o.wanted x.parts ++ wanted_of m.wanted y.parts ≡ wanted_of o.wanted (x.parts ++ y.parts) =
      ap (λ z. wanted_of o.wanted x.parts ++ wanted_of z y.parts) x.same_wanted ∙ sym (wanted_append o.wanted x.parts y.parts) in
      (u.0, u.1, w.2 ∙ (ap (λ l. l ++ wanted_of m.wanted y.parts) u.2 ∙ (append_assoc u.0.items (wanted_of o.wanted x.parts) (wanted_of m.wanted y.parts) ∙ ap (λ l. u.0.items ++ l) both)));
}

-- Inside a value, and out of it again.
pub lists_inside : (R : ℕ → List Span → Type 0) (o i j n : Spans) (k b : ℕ) → IsInside k o b i → Lists R i j → IsOutside b j n → Lists (λ c es. R (capped c k) es) o n
lists_inside R o i j n k b a l z = record {
  same_after = z.0 ∙ a.0;
  same_wanted = z.2 ∙ (l.same_wanted ∙ a.3);
  parts = l.parts;
  are = subst (λ c. R c l.parts) a.1 l.are;
  more = λ v q.
      let w = l.more v (sym z.1 ∙ q) in
      (w.0, sym a.2 ∙ w.1, w.2 ∙ ap (λ x. w.0.items ++ wanted_of x l.parts) a.3);
}

-- ---- one after the other

module _ (step : ℕ → ℕ → State → State → List Span → Type 0) where
  pub lists_start : (n : ℕ) (s : State) (o : Spans) → n ≡ 0 → Lists (λ b es. InTurn (step b) n s s es) o o
  lists_start n s o e = subst (λ k. Lists (λ b es. InTurn (step b) k s s es) o o) (sym e) (lists_same (λ b es. InTurn (step b) zero s s es) o (refl, refl))

  in_turn_more : (b n : ℕ) (s here last : State) (es mine : List Span) → InTurn (step b) n s here es → step b n here last mine → InTurn (step b) (n + 1) s last (es ++ mine)
  in_turn_more b n s here last es mine t m = subst (λ k. InTurn (step b) k s last (es ++ mine)) (sym (add-one n)) (es, mine, here, refl, t, m)

  pub lists_more : (n : ℕ) (s here last : State) (o m v : Spans)
      → Lists (λ b es. InTurn (step b) n s here es) o m → Lists (λ b es. step b n here last es) m v → Lists (λ b es. InTurn (step b) (n + 1) s last es) o v
  lists_more n s here last o m v x y = lists_join (λ b es. InTurn (step b) n s here es) (λ b es. step b n here last es) (λ b es. InTurn (step b) (n + 1) s last es) o m v
      (λ b es mine. in_turn_more b n s here last es mine) x y

pub same_list : {X : Type 0} (a b : X) → Some a ≡ Some b → a ≡ b
same_list a b e = cc

-- One part of the list is ended.
pub is_finished : (place : ℕ) (rest : List ℕ) (list : List Span) (x : Span) (before : Bor (List ℕ)) → x ≡ get_or list place x → IsCut x.octets.now rest before.now
    → (front : List Span) (e : Span) (more : List Span) → list ≡ front ++ e ∷ more → length front ≡ place
    → (f : Span) × (slice_set list place (record { id = x.id; index = x.index; depth = x.depth; left = x.left; octets = before }) ≡ front ++ f ∷ more) × (f.id ≡ e.id) × (f.index ≡ e.index) × (f.depth ≡ e.depth) × (f.left ≡ e.left)
    × IsCut e.octets.now rest f.octets.now
is_finished place rest list x before v h front e more is at =
    let f : Span = record { id = x.id; index = x.index; depth = x.depth; left = x.left; octets = before } in
    let y : x ≡ e = v ∙ ap (λ z. get_or z place x) is ∙ subst (λ k. get_or (front ++ e ∷ more) k x ≡ e) at (get_or-append_seam front e more x) in (
      f,
      ap (λ z. slice_set z place f) is ∙ subst (λ k. slice_set (front ++ e ∷ more) k f ≡ front ++ f ∷ more) at (set-append_seam front e more f),
      ap (λ (z : Span). z.id) y,
      ap (λ (z : Span). z.index) y,
      ap (λ (z : Span). z.depth) y,
      ap (λ (z : Span). z.left) y,
      subst (λ (z : Span). IsCut z.octets.now rest before.now) y h,
    )

-- The component after others has their number as its index.
at_seam : (xs : List Component) (y : Component) (ys : List Component) → Some y ≡ slice_get (xs ++ y ∷ ys) (length xs)
at_seam xs y ys =
    let within : length xs < length (xs ++ y ∷ ys) = omega (arith, length-append xs (y ∷ ys)) in
    sym (slice_get-get_or (xs ++ y ∷ ys) (length xs) y within ∙ ap Some (get_or-append_seam xs y ys y))

-- ---- what is read

-- It has these fields, and these octets.
abbrev IsPart : TypeId → ℕ → ℕ → ℕ → List ℕ → Span → Type 0
IsPart id k levels left octets f = (f.id ≡ id) × (f.index ≡ k) × (f.depth ≡ depth_at levels) × (f.left ≡ left) × (f.octets.now ≡ octets)

-- What was appended, if there is a list.
abbrev Appended : Spans → Spans → List Span → Type 0
Appended o n es = (m : Vec Span Global) → n.list ≡ Some m → (u : Vec Span Global) × (o.list ≡ Some u) × (m.items ≡ u.items ++ wanted_of o.wanted es)

short_list : (v : Vec Span Global) → length v.items ≤ 2 ^ 64 - 1
short_list v = let e = v.ok.0 in let l = v.ok.1 in let s = v.small in omega (arith, e, l, s)

-- A part is noted, those inside are read, and it is finished. It is there, whether it is listed or not.
module _ (id : TypeId) (k levels place : ℕ) (octets front rest : List ℕ) (o a b n : Spans) (noted : IsNoted id k levels octets o place a) (inside : List Span) (between : Appended a b inside)
    (finished : IsFinished place rest b n) (cut : octets ≡ front ++ rest) where
  abbrev Own : Span → Type 0
  Own = IsPart id k levels (capped o.after (length octets)) front

  own : Span
  own = record { id = id; index = k; depth = depth_at levels; left = capped o.after (length octets); octets = record { ref_ptr = (0, 0); now = front } }

  own_is : Own own
  unfolding own
  own_is = (refl, refl, refl, refl, refl)

  abbrev InList : Vec Span Global → Type 0
  InList m = (f : Span) × Own f × (u : Vec Span Global) × (o.list ≡ Some u) × (m.items ≡ u.items ++ wanted_of o.wanted (f ∷ inside))

  own_id : is_wanted o.wanted own.id.0 ≡ is_wanted o.wanted id.0
  own_id = ap (λ (i : TypeId). is_wanted o.wanted i.0) own_is.0

  in_list : (m : Vec Span Global) → n.list ≡ Some m → InList m
  in_list m q =
      let z = finished.2 m q in
      let w = between z.0 z.1 in
      let u = noted.2 w.0 w.1 in
      let later : List Span = wanted_of a.wanted inside in
      elim u.2 [
        | inl (listed, x) ↦
            let e = x.1 in
            let all : z.0.items ≡ u.0.items ++ e ∷ later = w.2 ∙ (ap (λ v. v ++ later) x.2 ∙ append_assoc u.0.items (e ∷ []) later) in
            let f = z.3 u.0.items e later all (sym x.0) in
            let wanted : is_wanted o.wanted f.0.id.0 ≡ true = ap (λ (i : TypeId). is_wanted o.wanted i.0) (f.2 ∙ x.3) ∙ listed in (
              f.0,
              (f.2 ∙ x.3, f.3 ∙ x.4, f.4 ∙ x.5, f.5 ∙ x.6, f.6 front (x.7 ∙ cut)),
              u.0,
              u.1,
              f.1 ∙ ap (λ v. u.0.items ++ v) (ap (λ v. f.0 ∷ wanted_of v inside) noted.1 ∙ sym (wanted_here o.wanted f.0 inside wanted)),
            )
        | inr (unlisted, far, same) ↦ (
          own,
          own_is,
          u.0,
          u.1,
          z.2 (let s = short_list z.0 in omega (arith, s, far)) ∙ (w.2 ∙ (ap (λ v. v ++ later) same ∙ ap (λ v. u.0.items ++ v) (ap (λ v. wanted_of v inside) noted.1 ∙ sym (unwanted_here o.wanted own inside (own_id ∙ unlisted))))),
        )
      ]

  one_part : (x : Option (Vec Span Global)) → n.list ≡ x → (f : Span) × Own f × Appended o n (f ∷ inside)
  one_part None q = (own, own_is, λ m e. let none : None ≡ Some m = sym q ∙ e in cc)
  one_part (Some v) q =
      let i = in_list v q in
      (i.0, i.1, λ m e. let same : v ≡ m = same_list v m (sym q ∙ e) in (i.2, i.3, ap (λ (y : Vec Span Global). y.items) (sym same) ∙ i.4))

  pub the_part : (f : Span) × Own f × Appended o n (f ∷ inside)
  the_part = one_part n.list refl

-- A part is noted, read and finished.
pub part_listed : (types : List «Type») (levels : ℕ) (id : TypeId) (k place : ℕ) (octets rest : List ℕ) (s next : State) (o a b n : Spans) (t : Tree)
    → octets ≡ s.rest → rest ≡ next.rest → IsNoted id k levels octets o place a → Lists (λ c es. PartsInside types levels id.0 c s es) a b → IsFinished place rest b n
    → DecodesTree (shape_of_type types levels id.0) s (Ok t) next → Lists (λ c es. PartListed (shape_of_type types levels) levels (Inside types levels) id.0 k c s next es) o n
part_listed types levels id k place octets rest s next o a b n t p r noted l finished d =
    let cut : octets ≡ d.end.0 ++ rest = p ∙ (d.end.1 ∙ ap (λ x. d.end.0 ++ x) (sym r)) in
    let f = the_part id k levels place octets d.end.0 rest o a b n noted l.parts l.more finished cut in
    record {
      same_after = finished.0 ∙ (l.same_after ∙ noted.0);
      same_wanted = finished.1 ∙ (l.same_wanted ∙ noted.1);
      parts = f.0 ∷ l.parts;
      are = record {
        part = f.0;
        inside = l.parts;
        is = refl;
        id_is = ap (λ (i : TypeId). i.0) f.1.0;
        index = f.1.1;
        deep = f.1.2;
        left = f.1.3 ∙ ap (λ x. capped o.after (length x)) p;
        octets = d.end.1 ∙ ap (λ x. x ++ next.rest) (sym f.1.4);
        tree = t;
        reads = d;
        parts = subst (λ c. PartsInside types levels id.0 c s l.parts) noted.0 l.are;
      };
      more = f.2;
    }

-- So is an unknown component of a SET.
pub unknown_listed : (levels : ℕ) (id : TypeId) (k place : ℕ) (octets rest : List ℕ) (s next : State) (o a n : Spans)
    → octets ≡ s.rest → rest ≡ next.rest → IsNoted id k levels octets o place a → IsFinished place rest a n → Keeps s next → Lists (λ c es. UnknownListed levels id.0 k c s next es) o n
unknown_listed levels id k place octets rest s next o a n p r noted finished kept =
    let cut : octets ≡ kept.end.0 ++ rest = p ∙ (kept.end.1 ∙ ap (λ x. kept.end.0 ++ x) (sym r)) in
    let f = the_part id k levels place octets kept.end.0 rest o a a n noted [] (λ m q. (m, q, sym (append-nil m.items))) finished cut in
    record {
      same_after = finished.0 ∙ noted.0;
      same_wanted = finished.1 ∙ noted.1;
      parts = f.0 ∷ [];
      are = record {
        part = f.0;
        is = refl;
        id_is = ap (λ (i : TypeId). i.0) f.1.0;
        index = f.1.1;
        deep = f.1.2;
        left = f.1.3 ∙ ap (λ x. capped o.after (length x)) p;
        octets = kept.end.1 ∙ ap (λ x. x ++ next.rest) (sym f.1.4);
      };
      more = f.2;
    }

-- The type with the number is found.
pub value_listed : (types : List «Type») (levels below id : ℕ) (ty : «Type») (s : State) (o n : Spans) → levels ≡ below + 1 → slice_get types id ≡ Some ty
    → Lists (λ b es. ValueListed (shape_of_type types below) below (Inside types below) ty b s es) o n → Lists (λ b es. PartsInside types levels id b s es) o n
unfolding PartsInside
value_listed types levels below id ty s o n e at l = subst (λ k. Lists (λ b es. PartsInside types k id b s es) o n) (sym (e ∙ add-one below))
    (lists_map (λ b es. ValueListed (shape_of_type types below) below (Inside types below) ty b s es) (λ b es. PartsInside types (suc below) id b s es) o n (λ b es h. (ty, at, h)) l)

-- Whether values of the type hold no parts; and the header that is before the others'.
abbrev pub HoldsNone : «Type» → Type 0
HoldsNone (Leaf kind tag c names) = Unit {0}
HoldsNone (Enumerated tag ns) = Unit {0}
HoldsNone (Any tag) = Unit {0}
HoldsNone Unknown = Unit {0}
HoldsNone _ = ⊥

abbrev pub HasHeader : «Type» → ConstructedHeader → Type 0
HasHeader (Tagged tag id) d = d ≡ prefix_header tag
HasHeader (Sequence tag ps) d = d ≡ sequence_header tag
HasHeader (Set name tag ps) d = d ≡ sequence_header tag
HasHeader (SequenceOf tag id c) d = d ≡ list_header tag
HasHeader (SetOf tag id c) d = d ≡ list_header tag
HasHeader _ d = ⊥

abbrev pub HoldsAlternatives : «Type» → List Alternative → Type 0
HoldsAlternatives (Choice name ks) l = l ≡ ks.items
HoldsAlternatives _ l = ⊥

abbrev pub HoldsOne : «Type» → ℕ → Type 0
HoldsOne (Tagged tag id) k = k ≡ id.0
HoldsOne _ k = ⊥

module _ (f : ℕ → Shape) (levels : ℕ) (P : ℕ → ℕ → State → List Span → Type 0) where
  none_inside : (ty : «Type») (b : ℕ) (s : State) → HoldsNone ty → ValueListed f levels P ty b s []
  none_inside (Leaf kind tag c names) b s h = (b, s, (refl, refl), refl)
  none_inside (Enumerated tag ns) b s h = (b, s, (refl, refl), refl)
  none_inside (Any tag) b s h = (b, s, (refl, refl), refl)
  none_inside Unknown b s h = (b, s, (refl, refl), refl)
  none_inside (Tagged tag id) b s h = absurd h
  none_inside (Choice name ks) b s h = absurd h
  none_inside (Sequence tag ps) b s h = absurd h
  none_inside (Set name tag ps) b s h = absurd h
  none_inside (SequenceOf tag id c) b s h = absurd h
  none_inside (SetOf tag id c) b s h = absurd h

  pub none_listed : (ty : «Type») (s : State) (o : Spans) → HoldsNone ty → Lists (λ b es. ValueListed f levels P ty b s es) o o
  none_listed ty s o h = lists_same (λ b es. ValueListed f levels P ty b s es) o (none_inside ty o.after s h)

  into : (ty : «Type») (d : ConstructedHeader) (b : ℕ) (s : State) (c : ℕ) (inner : State) → HasHeader ty d → GoesInside d b s c inner → GoesInto ty b s c inner
  into (Leaf kind tag k names) d b s c inner h g = absurd h
  into (Enumerated tag ns) d b s c inner h g = absurd h
  into (Any tag) d b s c inner h g = absurd h
  into Unknown d b s c inner h g = absurd h
  into (Tagged tag id) d b s c inner h g = subst (λ x. GoesInside x b s c inner) h g
  into (Choice name ks) d b s c inner h g = absurd h
  into (Sequence tag ps) d b s c inner h g = subst (λ x. GoesInside x b s c inner) h g
  into (Set name tag ps) d b s c inner h g = subst (λ x. GoesInside x b s c inner) h g
  into (SequenceOf tag id k) d b s c inner h g = subst (λ x. GoesInside x b s c inner) h g
  into (SetOf tag id k) d b s c inner h g = subst (λ x. GoesInside x b s c inner) h g

  pub holder_listed : (ty : «Type») (d : ConstructedHeader) (s : State) (o n : Spans) → HasHeader ty d
      → Lists (λ b es. InsideListed f levels P d ty b s es) o n → Lists (λ b es. ValueListed f levels P ty b s es) o n
  holder_listed ty d s o n h l = lists_map (λ b es. InsideListed f levels P d ty b s es) (λ b es. ValueListed f levels P ty b s es) o n (λ b es q. (q.0, q.1, into ty d b s q.0 q.1 h q.2, q.3)) l

  alternatives_of : (ty : «Type») (l : List Alternative) (b : ℕ) (s : State) (es : List Span) → HoldsAlternatives ty l → AlternativeListed f levels P l b s es → ValueListed f levels P ty b s es
  alternatives_of (Leaf kind tag c names) l b s es h q = absurd h
  alternatives_of (Enumerated tag ns) l b s es h q = absurd h
  alternatives_of (Any tag) l b s es h q = absurd h
  alternatives_of Unknown l b s es h q = absurd h
  alternatives_of (Tagged tag id) l b s es h q = absurd h
  alternatives_of (Choice name ks) l b s es h q = (b, s, (refl, refl), subst (λ z. AlternativeListed f levels P z b s es) h q)
  alternatives_of (Sequence tag ps) l b s es h q = absurd h
  alternatives_of (Set name tag ps) l b s es h q = absurd h
  alternatives_of (SequenceOf tag id c) l b s es h q = absurd h
  alternatives_of (SetOf tag id c) l b s es h q = absurd h

  pub choice_listed : (ty : «Type») (l : List Alternative) (s : State) (o n : Spans) → HoldsAlternatives ty l
      → Lists (λ b es. AlternativeListed f levels P l b s es) o n → Lists (λ b es. ValueListed f levels P ty b s es) o n
  choice_listed ty l s o n h x = lists_map (λ b es. AlternativeListed f levels P l b s es) (λ b es. ValueListed f levels P ty b s es) o n (λ b es q. alternatives_of ty l b s es h q) x

  pub alternative_listed : (ks : List Alternative) (k : ℕ) (a : Alternative) (s last : State) (o n : Spans) → IsNextAlternative f ks s k a
      → Lists (λ b es. PartListed f levels P a.type_id.0 k b s last es) o n → Lists (λ b es. AlternativeListed f levels P ks b s es) o n
  alternative_listed ks k a s last o n at l = lists_map (λ b es. PartListed f levels P a.type_id.0 k b s last es) (λ b es. AlternativeListed f levels P ks b s es) o n (λ b es q. (k, a, at, last, q)) l

  -- The contents are those after the header that was opened.
  pub inside_listed : (ty : «Type») (d : ConstructedHeader) (s opened inner : State) (contents : Contents) (z : ℕ) (o i j n : Spans)
      → ConsumesOpening d s (Ok (inner, contents)) opened → IsInside (octets_after inner.closing (length opened.rest)) o z i → Lists (λ b es. ContentsListed f levels P ty b inner es) i j → IsOutside z j n
      → Lists (λ b es. InsideListed f levels P d ty b s es) o n
  inside_listed ty d s opened inner contents z o i j n h a l out =
      let k = octets_after inner.closing (length opened.rest) in
      lists_map (λ c es. ContentsListed f levels P ty (capped c k) inner es) (λ b es. InsideListed f levels P d ty b s es) o n
      (λ b es q. (capped b k, inner, (h.0, h.1, h.2, ap (λ (v : State). capped b (octets_after inner.closing (length v.rest))) h.4), q))
      (lists_inside (λ c es. ContentsListed f levels P ty c inner es) o i j n k z a l out)

  one_of : (ty : «Type») (id b : ℕ) (s last : State) (es : List Span) → HoldsOne ty id → PartListed f levels P id 0 b s last es → ContentsListed f levels P ty b s es
  one_of (Leaf kind tag c names) id b s last es h q = absurd h
  one_of (Enumerated tag ns) id b s last es h q = absurd h
  one_of (Any tag) id b s last es h q = absurd h
  one_of Unknown id b s last es h q = absurd h
  one_of (Tagged tag k) id b s last es h q = (last, subst (λ z. PartListed f levels P z 0 b s last es) h q)
  one_of (Choice name ks) id b s last es h q = absurd h
  one_of (Sequence tag ps) id b s last es h q = absurd h
  one_of (Set name tag ps) id b s last es h q = absurd h
  one_of (SequenceOf tag k c) id b s last es h q = absurd h
  one_of (SetOf tag k c) id b s last es h q = absurd h

  pub tagged_listed : (ty : «Type») (id : ℕ) (s last : State) (o n : Spans) → HoldsOne ty id
      → Lists (λ b es. PartListed f levels P id 0 b s last es) o n → Lists (λ b es. ContentsListed f levels P ty b s es) o n
  tagged_listed ty id s last o n h l = lists_map (λ b es. PartListed f levels P id 0 b s last es) (λ b es. ContentsListed f levels P ty b s es) o n (λ b es q. one_of ty id b s last es h q) l

  pub components_same : (l k : List Component) (s : State) (o n : Spans) → l ≡ k → Lists (λ b es. ComponentsListed f levels P l b s es) o n → Lists (λ b es. ComponentsListed f levels P k b s es) o n
  components_same l k s o n q x = subst (λ z. Lists (λ b es. ComponentsListed f levels P z b s es) o n) q x

  -- ---- elements

  pub elements_listed : (id n : ℕ) (s last : State) (o v : Spans) → Ended last.closing last.rest
      → Lists (λ b es. InTurn (λ k. PartListed f levels P id k b) n s last es) o v → Lists (λ b es. ElementsListed f levels P id b s es) o v
  elements_listed id n s last o v h l = lists_map (λ b es. InTurn (λ k. PartListed f levels P id k b) n s last es) (λ b es. ElementsListed f levels P id b s es) o v (λ b es q. (n, last, q, h)) l

  -- ---- components

  pub component_present : (p : Component) (k : ℕ) (s next : State) (o n : Spans)
      → Lists (λ b es. PartListed f levels P p.type_id.0 k b s next es) o n → Lists (λ b es. ComponentListed f levels P p k b s next es) o n
  component_present p k s next o n l = lists_map (λ b es. PartListed f levels P p.type_id.0 k b s next es) (λ b es. ComponentListed f levels P p k b s next es) o n (λ b es q. inr q) l

  pub component_absent : (p : Component) (k : ℕ) (s : State) (o : Spans) → IsAbsentHere f p s → Lists (λ b es. ComponentListed f levels P p k b s s es) o o
  component_absent p k s o h = lists_same (λ b es. ComponentListed f levels P p k b s s es) o (inl (h, refl, refl))

  pub component_more : (ps done after : List Component) (p : Component) (index : ℕ) (s here last : State) (o m v : Spans) → ps ≡ done ++ p ∷ after → length done ≡ index
      → Lists (λ b es. InTurn (ComponentAt f levels P ps b) (length done) s here es) o m → Lists (λ b es. ComponentListed f levels P p index b here last es) m v
      → Lists (λ b es. InTurn (ComponentAt f levels P ps b) (length (done ++ p ∷ [])) s last es) o v
  component_more ps done after p index s here last o m v e i x y =
      let at : Some p ≡ slice_get ps (length done) = subst (λ l. Some p ≡ slice_get l (length done)) (sym e) (at_seam done p after) in
      let z : Lists (λ b es. ComponentListed f levels P p (length done) b here last es) m v = subst (λ k. Lists (λ b es. ComponentListed f levels P p k b here last es) m v) (sym i) y in
      let one : Lists (λ b es. ComponentAt f levels P ps b (length done) here last es) m v = lists_map (λ b es. ComponentListed f levels P p (length done) b here last es)
      (λ b es. ComponentAt f levels P ps b (length done) here last es) m v (λ b es q. (p, at, q)) z in
      subst (λ k. Lists (λ b es. InTurn (ComponentAt f levels P ps b) k s last es) o v) (sym (length-append done (p ∷ [])))
      (lists_more (λ b. ComponentAt f levels P ps b) (length done) s here last o m v x one)

  pub components_left_out : (ps : List Component) (s : State) (o : Spans) → LeavesAllOut ps s → Lists (λ b es. ComponentsListed f levels P ps b s es) o o
  components_left_out ps s o h = lists_same (λ b es. ComponentsListed f levels P ps b s es) o (inl (h, refl))

  pub components_listed : (ps done rest : List Component) (s last : State) (o v : Spans) → ps ≡ done ++ rest → rest ≡ []
      → Lists (λ b es. InTurn (ComponentAt f levels P ps b) (length done) s last es) o v → Lists (λ b es. ComponentsListed f levels P ps b s es) o v
  components_listed ps done rest s last o v e r l =
      let same : ps ≡ done = e ∙ ap (λ x. done ++ x) r ∙ append-nil done in
      lists_map (λ b es. InTurn (ComponentAt f levels P ps b) (length done) s last es) (λ b es. ComponentsListed f levels P ps b s es) o v
      (λ b es q. inr (last, subst (λ x. InTurn (ComponentAt f levels P ps b) (length x) s last es) (sym same) q)) l

  pub member_listed : (extensible : Bool) (ps : List Component) (other k : ℕ) (p : Component) (s next : State) (o n : Spans) → Some p ≡ slice_get ps k
      → Lists (λ b es. PartListed f levels P p.type_id.0 k b s next es) o n → Lists (λ b es. MemberListed f levels P extensible ps other b s next es) o n
  member_listed extensible ps other k p s next o n at l =
      lists_map (λ b es. PartListed f levels P p.type_id.0 k b s next es) (λ b es. MemberListed f levels P extensible ps other b s next es) o n (λ b es q. inr (k, p, at, q)) l

  pub unknown_passed : (extensible : Bool) (ps : List Component) (other k : ℕ) (s next : State) (o n : Spans) → PassesUnknown extensible (components_by f ps) s next → k ≡ length ps
      → Lists (λ b es. UnknownListed levels other k b s next es) o n → Lists (λ b es. MemberListed f levels P extensible ps other b s next es) o n
  unknown_passed extensible ps other k s next o n d i l =
      lists_map (λ b es. UnknownListed levels other k b s next es) (λ b es. MemberListed f levels P extensible ps other b s next es) o n
      (λ b es q. inl (d, subst (λ j. UnknownListed levels other j b s next es) i q)) l

  pub members_listed : (extensible : Bool) (ps : List Component) (other n : ℕ) (s last : State) (o v : Spans) → Ended last.closing last.rest
      → Lists (λ b es. InTurn (λ k. MemberListed f levels P extensible ps other b) n s last es) o v → Lists (λ b es. MembersListed f levels P extensible ps other b s es) o v
  members_listed extensible ps other n s last o v h l =
      lists_map (λ b es. InTurn (λ k. MemberListed f levels P extensible ps other b) n s last es) (λ b es. MembersListed f levels P extensible ps other b s es) o v (λ b es q. (n, last, q, h)) l

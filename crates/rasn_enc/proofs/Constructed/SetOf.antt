-- Elements whose octets don't fall.
use Rattle.std.proofs.Common.{◌≡◌, ◌<◌, ◌≤◌, ◌-◌, ◌+◌, ◌⊎◌, ℕ, arith, List, [], ◌∷◌, ◌++◌, length, take, drop, map, refl, sym, ap, ap₂, ◌∙◌, subst, inl, inr, Option, None, false, Result, Ok, Err, OnOk, IfErr}
use Rattle.std.proofs.lemmas.List.{append_assoc, append-nil, length-append}
use Rattle.std.proofs.Math.Seq.{take-append_seam, drop-append_seam}
use Rattle.std.proofs.lemmas.Result.{on_ok_weaker, IfErr-weaker}
use Rattle.std.specs.Fn.{FnOnceReturnsAtMut}
use Rattle.rasn_types.specs.Shapes.{Shape, Tree, items, set_elements, set_of, Admits}
use Rattle.rasn_types.specs.declared.types.constraints.Bound.{Bound}
use Rattle.rasn_types.specs.declared.types.constraints.Constraints.{Constraints}
use Rattle.rasn_types.specs.declared.types.codec.Codec.{Codec}
use Rattle.rasn_types.specs.declared.types.tag.Tag.{Tag}
use Rattle.rasn_types.specs.declared.error.encode.EncodeError.{EncodeError}
use Rattle.rasn_types.specs.Bytes.{Bytes, IsUntaggedOpen, ConstructedEncoding, Each, AreAscending, IsLess}
use Rattle.rasn_types.proofs.SetOf.Same.{items_one}
use Rattle.rasn_types.proofs.SetOf.Ascending.{EndsBy, ends_more, in_order, out_of_order}
use Rattle.rasn_types.proofs.Encoding.SameAsItself.{one_writing}
use Rattle.rasn_enc.specs.View.{View, opened}
use Rattle.rasn_enc.specs.Primitive.{IsAllocError, IsOrderError}
use Rattle.rasn_enc.specs.Closures.{EncodeClosure, AppendsEnclosed, MayFail}
use Rattle.rasn_enc.specs.Encoding.{AppendsEncoding, EncodeFails}
use Rattle.rasn_enc.specs.SequenceOf.{AppendsSetOf, FailsInSetOf, FailsOutOfOrder, FailsAtSetOf}
use Rattle.rasn_enc.proofs.Leaves.Primitive.{cons_begins, encoded_one}
use Rattle.rasn_enc.proofs.Constructed.SequenceOf.{ElementsSoFar, elements_start, elements_more, elements_end, element_refused, each_at}

-- Elements follow the last list and are in order; the last of them begins at this place.
pub record SetOfSoFar (s : Shape) (ts rest : List Tree) (v w : View) (start : ℕ) : Type 0 where
  pub so_far : ElementsSoFar s ts rest v w
  pub order : AreAscending IsLess so_far.encoded
  pub before : List ℕ
  pub piece : List ℕ
  pub ends : EndsBy so_far.encoded piece
  pub is : w.last.octets ≡ before ++ piece
  pub starts : start ≡ length before

-- what is between two places
between_is : (whole a b c : List ℕ) (i j : ℕ) → whole ≡ a ++ (b ++ c) → i ≡ length a → j ≡ length a + length b → take (j - i) (drop i whole) ≡ b
between_is whole a b c i j e p q =
    let n : j - i ≡ length b = omega (arith, p, q) in
    rw (n, p, e) (ap (λ l. take (length b) l) (drop-append_seam a (b ++ c)) ∙ take-append_seam b c)

abbrev pub set_of_start : (s : Shape) (ts : List Tree) (v : View) (start : ℕ) → v.last.tags ≡ None → start ≡ length v.last.octets → SetOfSoFar s ts ts v v start
set_of_start s ts v start n e = record {
  so_far = elements_start s ts v n;
  order = tt;
  before = v.last.octets;
  piece = [];
  ends = refl;
  is = sym (append-nil v.last.octets);
  starts = e;
}

pub set_of_end : (s : Shape) (ts : List Tree) (v u : View) (start : ℕ) → SetOfSoFar s ts [] v u start → AppendsSetOf s ts v u
set_of_end s ts v u start k = record { wrote = elements_end s ts v u k.so_far; order = k.order }

-- One more element is written: its octets, and those before it.
module _ (s : Shape) (ts rest after : List Tree) (t : Tree) (v u w : View) (start middle : ℕ) (k : SetOfSoFar s ts rest v u start) (is : rest ≡ t ∷ after) (a : AppendsEncoding s t u w)
    (e : middle ≡ length u.last.octets) where
  pub more_is : w.last.octets ≡ u.last.octets ++ a.octets
  more_is = ap (λ (x : View). x.last.octets) a.appended

  pub places_rise : start ≤ middle
  places_rise = let l = ap length k.is ∙ length-append k.before k.piece in omega (arith, e, k.starts, l)

  pub place_within : middle ≤ length w.last.octets
  place_within = let l = ap length more_is ∙ length-append u.last.octets a.octets in omega (arith, e, l)

  pub next_is : drop middle w.last.octets ≡ a.octets
  next_is = rw (e, more_is) (drop-append_seam u.last.octets a.octets)

  pub piece_is : take (middle - start) (drop start w.last.octets) ≡ k.piece
  piece_is = between_is w.last.octets k.before k.piece a.octets start middle (more_is ∙ (ap (λ l. l ++ a.octets) k.is ∙ append_assoc k.before k.piece a.octets)) k.starts
      (e ∙ (ap length k.is ∙ length-append k.before k.piece))

  abbrev pub set_of_more : (IsLess (drop middle w.last.octets) (take (middle - start) (drop start w.last.octets)) → ⊥) → SetOfSoFar s ts after v w middle
  set_of_more n = record {
    so_far = elements_more s ts rest after t v u k.so_far is w a;
    order = in_order k.so_far.encoded k.piece a.octets k.order k.ends (λ h. n (rw (next_is, piece_is) h));
    before = u.last.octets;
    piece = a.octets;
    ends = ends_more k.so_far.encoded a.octets;
    is = more_is;
    starts = e;
  }

  pub fall_refused : IsLess (drop middle w.last.octets) (take (middle - start) (drop start w.last.octets)) → (x : EncodeError) → (rule : Codec) → rule ≡ w.rule → IsOrderError rule x → FailsOutOfOrder s ts v.rule x
  fall_refused h x rule i q = record {
    front = k.so_far.front;
    tree = t;
    back = after;
    is = k.so_far.is ∙ ap (λ l. k.so_far.front ++ l) is;
    encoded = k.so_far.encoded;
    before = k.so_far.each;
    order = k.order;
    octets = a.octets;
    defined = subst (λ r. Bytes r s t a.octets) k.so_far.others.rule a.defined;
    falls = out_of_order k.so_far.encoded k.piece a.octets k.ends (rw (next_is, piece_is) at h);
    told = subst (λ r. IsOrderError r x) (i ∙ (ap (λ (y : View). y.rule) a.appended ∙ k.so_far.others.rule)) q;
  }

pub set_of_element_refused : (s : Shape) (ts rest after : List Tree) (t : Tree) (v u : View) (start : ℕ) → SetOfSoFar s ts rest v u start → rest ≡ t ∷ after
    → (e : EncodeError) → EncodeFails s t u e → FailsInSetOf s ts v.rule e
set_of_element_refused s ts rest after t v u start k is e h = record { element = element_refused s ts rest after t v u k.so_far is e h; order = k.order }

pub set_elements_one : (t u : Tree) → set_elements t ≡ set_elements u → t ≡ u
set_elements_one t u e = cc

-- What begins with these octets is written of these trees alone.
pub front_is : (R : Tree → List ℕ → Type 0) → ((t : Tree) (a b : List ℕ) → R t a → R t b → a ≡ b) → (front : List Tree) (t : Tree) (back : List Tree) (encoded bs : List (List ℕ)) (octets : List ℕ)
    → Each R front encoded → R t octets → Each R (front ++ t ∷ back) bs → (more : List (List ℕ)) × (bs ≡ encoded ++ octets ∷ more)
front_is R one [] t back encoded bs octets e r (b, more, f, q, h) = (more, f ∙ (ap (λ x. x ∷ more) (one t b octets q r) ∙ ap (λ l. l ++ octets ∷ more) (sym e)))
front_is R one (u ∷ front) t back encoded bs octets (c, rest, e, p, k) r (b, more, f, q, h) =
    let m = front_is R one front t back rest more octets k r h in
    (m.0, f ∙ (ap₂ ◌∷◌ (one u b c q p) m.1 ∙ ap (λ l. l ++ octets ∷ m.0) (sym e)))

pub order_front : (bs : List (List ℕ)) (b : List ℕ) (more : List (List ℕ)) → AreAscending IsLess (bs ++ b ∷ more) → AreAscending IsLess (bs ++ b ∷ [])
order_front [] b more d = tt
order_front (a ∷ []) b more d = (d.0, tt)
order_front (a ∷ c ∷ bs) b more d = (d.0, order_front (c ∷ bs) b more d.1)

-- Where a SET OF is refused, it has no octets, or memory ran out.
pub set_of_none : (s : Shape) (ts : List Tree) (tag : Tag) (c : Constraints) (v : View) (e : EncodeError)
    → FailsAtSetOf s ts (length ts) c v.rule e → EncodeFails (set_of tag s c.size) (set_elements (items ts)) v e
unfolding Bytes
set_of_none s ts tag c v e (inl r) = record {
  why = inr (inl (record {
    none = λ octets b. r.unmet (subst (λ l. Admits ◌≤◌ c.size (length l)) (sym (items_one ts b.0 (set_elements_one (items ts) (items b.0) b.2))) b.3);
  }));
}
set_of_none s ts tag c v e (inr (m, inl w)) = record { why = inl (ap (λ (x : EncodeError). x.kind) w) }
set_of_none s ts tag c v e (inr (m, inr (inl r))) = record {
  why = elim r.element.why [
    | inl w ↦ inl w
    | inr n ↦ inr (inl (record {
      none = λ octets b.
          let f = each_at (Bytes v.rule s) r.element.front r.element.tree r.element.back b.1 (subst (λ l. Each (Bytes v.rule s) l b.1) (sym (items_one ts b.0 (set_elements_one (items ts) (items b.0) b.2)) ∙ r.element.is) b.4) in
          n.none f.0 f.1;
    }))
  ];
}
set_of_none s ts tag c v e (inr (m, inr (inr r))) = record {
  why = inr (inl (record {
    none = λ octets b.
        let f = front_is (Bytes v.rule s) (one_writing s v.rule) r.front r.tree r.back r.encoded b.1 r.octets r.before r.defined
        (subst (λ l. Each (Bytes v.rule s) l b.1) (sym (items_one ts b.0 (set_elements_one (items ts) (items b.0) b.2)) ∙ r.is) b.4) in
        r.falls (order_front r.encoded r.octets f.0 (subst (AreAscending IsLess) f.1 b.5));
  }));
}

-- For the clause on success.
pub set_of_ok : {F : Type 0} (g : EncodeClosure F (Unit {0})) (f : F) (s : Shape) (ts : List Tree) (tag : Tag) (size : Option (Bound ℕ)) (v w : View) (r : Result (Unit {0}) EncodeError)
    → Admits ◌≤◌ size (length ts) → OnOk r (AppendsEnclosed g f false tag v w)
    → ((u : View) → FnOnceReturnsAtMut g f (opened v false) (Ok tt) u → AppendsSetOf s ts (opened v false) u) → OnOk r (AppendsEncoding (set_of tag s size) (set_elements (items ts)) v w)
unfolding Bytes IsUntaggedOpen
set_of_ok g f s ts tag size v w r m h written = on_ok_weaker r (λ k.
    let a = written k.inner k.ran in
    encoded_one (ConstructedEncoding v.rule tag k.inner.last.octets) tag (set_of tag s size) (set_elements (items ts)) v w k.appends (λ n. n)
    (λ b d. cons_begins v.rule tag k.inner.last.octets b d) (λ b d. (ts, a.wrote.encoded, refl, m, a.wrote.each, a.order, subst (λ l. ConstructedEncoding v.rule tag l b) a.wrote.octets d))) h

-- For the clauses on refusals.
pub set_of_named : {F : Type 0} (g : EncodeClosure F (Unit {0})) (f : F) (s : Shape) (ts : List Tree) (c : Constraints) (size : ℕ) (v : View) (r : Result (Unit {0}) EncodeError)
    → Admits ◌≤◌ c.size size → IfErr r (λ e. IsAllocError v.rule e ⊎ MayFail g f (opened v false) e)
    → ((e : EncodeError) (u : View) → FnOnceReturnsAtMut g f (opened v false) (Err e) u → FailsInSetOf s ts v.rule e ⊎ FailsOutOfOrder s ts v.rule e)
    → IfErr r (FailsAtSetOf s ts size c v.rule)
set_of_named g f s ts c size v r m h refused = IfErr-weaker r _ _ (λ e. elim [
  | inl k ↦ inr (m, inl k)
  | inr k ↦ inr (m, inr (refused e k.0 k.1))
]) h

pub set_of_may_refuse : (s : Shape) (ts : List Tree) (tag : Tag) (c : Constraints) (size : ℕ) (v : View) (r : Result (Unit {0}) EncodeError) → size ≡ length ts
    → IfErr r (FailsAtSetOf s ts size c v.rule) → IfErr r (EncodeFails (set_of tag s c.size) (set_elements (items ts)) v)
set_of_may_refuse s ts tag c size v r n h = IfErr-weaker r _ _ (λ e k. set_of_none s ts tag c v e (subst (λ z. FailsAtSetOf s ts z c v.rule e) n k)) h

pub none_left : {X : Type 0} (f : X → Tree) (l : List X) → length l < 1 → map f l ≡ []
none_left f [] h = refl
none_left f (x ∷ l) h = absurd (omega (arith, h))

-- Elements, one after the other.
use Rattle.std.proofs.Common.{◌≡◌, ◌≢◌, ◌≤◌, ◌-◌, ℕ, List, [], ◌∷◌, ◌++◌, length, map, take, drop, get_or, arith, refl, sym, ap, ◌∙◌, subst, Option, None, option_map, ◌⊎◌, Result, Ok, Err, OnOk, IfErr, false, inl, inr}
use Rattle.std.proofs.lemmas.List.{append_assoc, append-nil, map-append, take_rest}
use Rattle.std.proofs.lemmas.Result.{on_ok_weaker, IfErr-weaker}
use Rattle.std.specs.Fn.{FnOnceReturnsAtMut}
use Rattle.rasn_types.specs.Shapes.{Shape, Tree, items, absent, list, Admits}
use Rattle.rasn_types.specs.Contents.{joined_lists}
use Rattle.rasn_types.specs.Bytes.{Bytes, IsUntaggedOpen, ConstructedEncoding, Each}
use Rattle.rasn_types.specs.declared.types.codec.Codec.{Codec}
use Rattle.rasn_types.specs.declared.types.tag.Tag.{Tag}
use Rattle.rasn_types.specs.declared.types.constraints.Bound.{Bound}
use Rattle.rasn_types.specs.declared.types.constraints.Constraints.{Constraints}
use Rattle.rasn_types.specs.declared.error.encode.EncodeError.{EncodeError}
use Rattle.rasn_types.proofs.SetOf.Same.{items_one}
use Rattle.rasn_enc.specs.View.{View, LeavesOthers, opened}
use Rattle.rasn_enc.specs.Primitive.{IsAllocError}
use Rattle.rasn_enc.specs.Closures.{EncodeClosure, AppendsEnclosed, MayFail}
use Rattle.rasn_enc.specs.Encoding.{AppendsEncoding, EncodeFails, NoEncoding}
use Rattle.rasn_enc.specs.SequenceOf.{AppendsElements, FailsAtElement, FailsAtList}
use Rattle.rasn_enc.specs.ValueErrors.{IsErrorOfElement}
use Rattle.rasn_enc.proofs.Leaves.Primitive.{cons_begins, encoded_one}
use Rattle.rasn_enc.proofs.Leaves.Segments.{each_one, joined_behind, others_more}

pub list_not_absent : (ts : List Tree) → items ts ≢ absent
list_not_absent [] e = cc
list_not_absent (t ∷ ts) e = cc

-- A list that isn't empty is its first element and those after it.
pub split_is : {X : Type 0} (f : X → Tree) (l : List X) (x : X) → 1 ≤ length l → x ≡ get_or l 0 x → map f l ≡ f x ∷ map f (take (length l - 1) (drop 1 l))
split_is f [] x h e = absurd (omega arith)
split_is f (y ∷ l) x h e = rw e (ap (λ m. f y ∷ map f m) (sym (take_rest (y ∷ l) 1)))

pub split_values : {X : Type 0} (l : List X) (x : X) → 1 ≤ length l → x ≡ get_or l 0 x → l ≡ x ∷ take (length l - 1) (drop 1 l)
split_values [] x h e = absurd (omega arith)
split_values (y ∷ l) x h e = rw e (ap (λ m. y ∷ m) (sym (take_rest (y ∷ l) 1)))

-- Elements follow the last list, and the rest of them remains.
pub record ElementsSoFar (s : Shape) (ts rest : List Tree) (v w : View) : Type 0 where
  pub front : List Tree
  pub encoded : List (List ℕ)
  pub is : ts ≡ front ++ rest
  pub each : Each (Bytes v.rule s) front encoded
  pub octets : w.last.octets ≡ v.last.octets ++ joined_lists encoded
  pub others : LeavesOthers v w
  pub no_tags : w.last.tags ≡ None

abbrev pub elements_start : (s : Shape) (ts : List Tree) (v : View) → v.last.tags ≡ None → ElementsSoFar s ts ts v v
elements_start s ts v e = record {
  front = [];
  encoded = [];
  is = refl;
  each = refl;
  octets = sym (append-nil v.last.octets);
  others = record { rule = refl; below = refl };
  no_tags = e;
}

pub each_at : (R : Tree → List ℕ → Type 0) (front : List Tree) (t : Tree) (back : List Tree) (bs : List (List ℕ)) → Each R (front ++ t ∷ back) bs → (b : List ℕ) × R t b
each_at R [] t back bs (b, more, e, r, f) = (b, r)
each_at R (u ∷ front) t back bs (b, more, e, r, f) = each_at R front t back more f

module _ (s : Shape) (ts rest after : List Tree) (t : Tree) (v u : View) (k : ElementsSoFar s ts rest v u) (is : rest ≡ t ∷ after) where
  abbrev pub elements_more : (w : View) → AppendsEncoding s t u w → ElementsSoFar s ts after v w
  elements_more w a = record {
    front = k.front ++ t ∷ [];
    encoded = k.encoded ++ a.octets ∷ [];
    is = k.is ∙ (ap (λ l. k.front ++ l) is ∙ sym (append_assoc k.front (t ∷ []) after));
    each = each_one (Bytes v.rule s) k.front k.encoded t a.octets k.each (subst (λ r. Bytes r s t a.octets) k.others.rule a.defined);
    octets = joined_behind v.last.octets u.last.octets w.last.octets a.octets k.encoded (ap (λ (x : View). x.last.octets) a.appended) k.octets;
    others = others_more v u w a.octets a.tags a.appended k.others;
    no_tags = ap (λ (x : View). x.last.tags) a.appended ∙ ap (λ o. option_map (λ kept. kept ++ a.tags) o) k.no_tags;
  }

  abbrev pub element_refused : (e : EncodeError) → EncodeFails s t u e → FailsAtElement s ts v.rule e
  element_refused e h = record {
    front = k.front;
    tree = t;
    back = after;
    is = k.is ∙ ap (λ l. k.front ++ l) is;
    encoded = k.encoded;
    before = k.each;
    why = elim h.why [
      | inl m ↦ inl m
      | inr (inl n) ↦ inr (subst (λ r. NoEncoding r s t) k.others.rule n)
      | inr (inr n) ↦ absurd (n.keeps k.no_tags)
    ];
  }

-- These are the trees of the values before the rest.
pub record AreTreesBefore {D : Type 0} (tree : D → Tree) (vs rest : List D) (ts : List Tree) : Type 0 where
  pub front : List D
  pub is : vs ≡ front ++ rest
  pub trees : ts ≡ map tree front

module _ {D : Type 0} (tree : D → Tree) (vs : List D) where
  pub none_before : AreTreesBefore tree vs vs []
  none_before = record { front = []; is = refl; trees = refl }

  module _ (rest after : List D) (x : D) (is : rest ≡ x ∷ after) where
    pub one_more_before : (ts : List Tree) → AreTreesBefore tree vs rest ts → AreTreesBefore tree vs after (ts ++ tree x ∷ [])
    one_more_before ts k = record {
      front = k.front ++ x ∷ [];
      is = k.is ∙ (ap (λ l. k.front ++ l) is ∙ sym (append_assoc k.front (x ∷ []) after));
      trees = ap (λ l. l ++ tree x ∷ []) k.trees ∙ sym (map-append tree k.front (x ∷ []));
    }

    pub element_error : (s : Shape) (errors : D → Codec → EncodeError → Type 0) (v u : View) (k : ElementsSoFar s (map tree vs) (map tree rest) v u) → AreTreesBefore tree vs rest k.front
        → (e : EncodeError) → errors x u.rule e → IsErrorOfElement s tree (λ d. errors d v.rule) vs v.rule e
    element_error s errors v u k b e h = record {
      front = b.front;
      value = x;
      back = after;
      is = b.is ∙ ap (λ l. b.front ++ l) is;
      encoded = k.encoded;
      before = subst (λ l. Each (Bytes v.rule s) l k.encoded) b.trees k.each;
      error = subst (λ rule. errors x rule e) k.others.rule h;
    }

abbrev pub elements_end : (s : Shape) (ts : List Tree) (v u : View) → ElementsSoFar s ts [] v u → AppendsElements s ts v u
elements_end s ts v u k = record {
  encoded = k.encoded;
  each = subst (λ l. Each (Bytes v.rule s) l k.encoded) (sym (append-nil k.front) ∙ sym k.is) k.each;
  octets = k.octets;
}

-- For the clause on success.
pub list_ok : {F : Type 0} (g : EncodeClosure F (Unit {0})) (f : F) (s : Shape) (ts : List Tree) (tag : Tag) (size : Option (Bound ℕ)) (v w : View) (r : Result (Unit {0}) EncodeError)
    → Admits ◌≤◌ size (length ts) → OnOk r (AppendsEnclosed g f false tag v w)
    → ((u : View) → FnOnceReturnsAtMut g f (opened v false) (Ok tt) u → AppendsElements s ts (opened v false) u) → OnOk r (AppendsEncoding (list tag s size) (items ts) v w)
unfolding Bytes IsUntaggedOpen
list_ok g f s ts tag size v w r m h written = on_ok_weaker r (λ k.
    let a = written k.inner k.ran in
    encoded_one (ConstructedEncoding v.rule tag k.inner.last.octets) tag (list tag s size) (items ts) v w k.appends (λ n. n)
    (λ b d. cons_begins v.rule tag k.inner.last.octets b d) (λ b d. (ts, a.encoded, refl, m, a.each, subst (λ l. ConstructedEncoding v.rule tag l b) a.octets d))) h

-- For the clauses on refusals.
pub list_named : {F : Type 0} (g : EncodeClosure F (Unit {0})) (f : F) (s : Shape) (ts : List Tree) (c : Constraints) (size : ℕ) (v : View) (r : Result (Unit {0}) EncodeError)
    → Admits ◌≤◌ c.size size → IfErr r (λ e. IsAllocError v.rule e ⊎ MayFail g f (opened v false) e)
    → ((e : EncodeError) (u : View) → FnOnceReturnsAtMut g f (opened v false) (Err e) u → FailsAtElement s ts v.rule e)
    → IfErr r (FailsAtList s ts size c v.rule)
list_named g f s ts c size v r m h refused = IfErr-weaker r _ _ (λ e. elim [
  | inl k ↦ inr (m, inl k)
  | inr k ↦ inr (m, inr (refused e k.0 k.1))
]) h

-- Where a list is refused, it has no octets, or memory ran out.
pub list_refused : (s : Shape) (ts : List Tree) (tag : Tag) (c : Constraints) (v : View) (e : EncodeError)
    → FailsAtList s ts (length ts) c v.rule e → EncodeFails (list tag s c.size) (items ts) v e
unfolding Bytes
list_refused s ts tag c v e (inl r) = record {
  why = inr (inl (record {
    none = λ octets b. r.unmet (subst (λ l. Admits ◌≤◌ c.size (length l)) (sym (items_one ts b.0 b.2)) b.3);
  }));
}
list_refused s ts tag c v e (inr (m, inl w)) = record { why = inl (ap (λ (x : EncodeError). x.kind) w) }
list_refused s ts tag c v e (inr (m, inr r)) = record {
  why = elim r.why [
    | inl w ↦ inl w
    | inr n ↦ inr (inl (record {
      none = λ octets b.
          let f = each_at (Bytes v.rule s) r.front r.tree r.back b.1 (subst (λ l. Each (Bytes v.rule s) l b.1) (sym (items_one ts b.0 b.2) ∙ r.is) b.4) in
          n.none f.0 f.1;
    }))
  ];
}

pub list_may_refuse : (s : Shape) (ts : List Tree) (tag : Tag) (c : Constraints) (size : ℕ) (v : View) (r : Result (Unit {0}) EncodeError) → size ≡ length ts
    → IfErr r (FailsAtList s ts size c v.rule) → IfErr r (EncodeFails (list tag s c.size) (items ts) v)
list_may_refuse s ts tag c size v r n h = IfErr-weaker r _ _ (λ e k. list_refused s ts tag c v e (subst (λ z. FailsAtList s ts z c v.rule e) n k)) h

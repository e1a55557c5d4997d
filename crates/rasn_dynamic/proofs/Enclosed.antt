-- A value that holds others is written if its contents are.
use Rattle.std.proofs.Common.{◌≡◌, ◌⊎◌, inl, inr, ◌<◌, ◌∷◌, [], ℕ, List, Bool, true, false, if◌then◌else◌, length, Result, Ok, Err, OnOk, OnErr, IfErr, refl, sym, ap, ◌∙◌, subst, arith}
use Rattle.std.proofs.lemmas.List.{length-append}
use Rattle.std.proofs.lemmas.Result.{on_ok_weaker, IfErr-weaker}
use Rattle.rasn_types.specs.declared.types.codec.Codec.{Codec}
use Rattle.rasn_types.specs.declared.types.tag.Tag.{Tag}
use Rattle.rasn_types.specs.declared.error.encode.EncodeError.{EncodeError}
use Rattle.rasn_types.specs.Errors.{IsEncodeOutOfMemory}
use Rattle.rasn_types.specs.Shapes.{Tree, Shape, Parts, leaf, any, prefix, choice, open_choice, option, seq, set, sorted_set, list, set_of, unknown}
use Rattle.rasn_types.specs.Contents.{joined_lists}
use Rattle.rasn_types.specs.Bytes.{Bytes, contents_of, IsUntaggedOpen, ConstructedEncoding}
use Rattle.rasn_enc.specs.View.{View, IsBelow, opened}
use Rattle.rasn_enc.specs.Primitive.{Appends, IsAllocError}
use Rattle.rasn_enc.specs.Encoding.{AppendsEncoding, EncodeFails}
use Rattle.rasn_enc.proofs.Leaves.Primitive.{cons_begins, encoded_one}
use Rattle.rasn_schema.specs.declared.types.«Type».{«Type»}
use Rattle.rasn_schema.specs.declared.types.«Type».TheVariants.{Leaf, Enumerated, Any, Tagged, Choice, Sequence, Set, SequenceOf, SetOf, Unknown}
use Rattle.rasn_schema.specs.Shapes.{type_by, tag_of_type, alternatives_by, ends_open, before_last}
use Rattle.rasn_dynamic.specs.Written.{WritesInside, IsEnclosed, HoldsOthers, EncodesIf, EncodesInsideIf}

no_other : (b : Bool) (ps qs : Parts) → HoldsOthers (if b then open_choice qs else choice ps) → ⊥
no_other true ps qs h = h
no_other false ps qs h = h

-- The header of a value that holds others has the tag of its type.
pub enclosed_tag : (f : ℕ → Shape) (ty : «Type») → HoldsOthers (type_by f ty) → IsEnclosed (type_by f ty) (tag_of_type ty)
enclosed_tag f (Leaf kind tag c names) h = absurd h
enclosed_tag f (Enumerated tag ns) h = absurd h
enclosed_tag f (Any tag) h = absurd h
enclosed_tag f (Tagged tag k) h = refl
enclosed_tag f (Choice name ks) h = absurd (no_other (ends_open (alternatives_by f ks.items)) (alternatives_by f ks.items) (before_last (alternatives_by f ks.items)) h)
enclosed_tag f (Sequence tag ps) h = refl
enclosed_tag f (Set name tag ps) h = refl
enclosed_tag f (SequenceOf tag k c) h = refl
enclosed_tag f (SetOf tag k c) h = refl
enclosed_tag f Unknown h = absurd h

module _ (rule : Codec) (t : Tree) (u : Tag) where
  bytes_of : (s : Shape) → IsEnclosed s u → (c o : List ℕ) → WritesInside rule s t c → ConstructedEncoding rule u c o → Bytes rule s t o
  unfolding Bytes WritesInside
  bytes_of (leaf kind tag bounds) i c o w d = absurd i
  bytes_of (any tag) i c o w d = absurd i
  bytes_of (prefix tag s) e c o w d = (c, w, subst (λ z. ConstructedEncoding rule z c o) e d)
  bytes_of (choice ps) i c o w d = absurd i
  bytes_of (open_choice ps) i c o w d = absurd i
  bytes_of (option tag s) i c o w d = absurd i
  bytes_of (seq tag ps) e c o (ts, bs, f, p, j) d = (ts, bs, f, p, subst (λ z. ConstructedEncoding rule z (joined_lists bs) o) e (subst (λ z. ConstructedEncoding rule u z o) j d))
  bytes_of (set tag ps) e c o (ts, bs, tags, f, p, n, h, a, j) d = (ts, bs, tags, f, p, n, h, a, subst (λ z. ConstructedEncoding rule z (joined_lists bs) o) e (subst (λ z. ConstructedEncoding rule u z o) j d))
  bytes_of (sorted_set extensible tag ps) e c o (ts, us, bs, cs, es, ds, f, p, m, n, q, a, j) d =
      (ts, us, bs, cs, es, ds, f, p, m, n, q, a, subst (λ z. ConstructedEncoding rule z (contents_of ds) o) e (subst (λ z. ConstructedEncoding rule u z o) j d))
  bytes_of (list tag s size) e c o (ts, bs, f, m, p, j) d = (ts, bs, f, m, p, subst (λ z. ConstructedEncoding rule z (joined_lists bs) o) e (subst (λ z. ConstructedEncoding rule u z o) j d))
  bytes_of (set_of tag s size) e c o (ts, bs, f, m, p, a, j) d = (ts, bs, f, m, p, a, subst (λ z. ConstructedEncoding rule z (joined_lists bs) o) e (subst (λ z. ConstructedEncoding rule u z o) j d))
  bytes_of unknown i c o w d = absurd i

  inside_of : (s : Shape) → IsEnclosed s u → (o : List ℕ) → Bytes rule s t o → (c : List ℕ) × WritesInside rule s t c
  unfolding Bytes WritesInside
  inside_of (leaf kind tag bounds) i o b = absurd i
  inside_of (any tag) i o b = absurd i
  inside_of (prefix tag s) i o (c, w, d) = (c, w)
  inside_of (choice ps) i o b = absurd i
  inside_of (open_choice ps) i o b = absurd i
  inside_of (option tag s) i o b = absurd i
  inside_of (seq tag ps) i o (ts, bs, f, p, d) = (joined_lists bs, (ts, bs, f, p, refl))
  inside_of (set tag ps) i o (ts, bs, tags, f, p, n, h, a, d) = (joined_lists bs, (ts, bs, tags, f, p, n, h, a, refl))
  inside_of (sorted_set extensible tag ps) i o (ts, us, bs, cs, es, ds, f, p, m, n, q, a, d) = (contents_of ds, (ts, us, bs, cs, es, ds, f, p, m, n, q, a, refl))
  inside_of (list tag s size) i o (ts, bs, f, m, p, d) = (joined_lists bs, (ts, bs, f, m, p, refl))
  inside_of (set_of tag s size) i o (ts, bs, f, m, p, a, d) = (joined_lists bs, (ts, bs, f, m, p, a, refl))
  inside_of unknown i o b = absurd i

  not_untagged : (s : Shape) → IsEnclosed s u → IsUntaggedOpen s t → ⊥
  unfolding IsUntaggedOpen
  not_untagged (leaf kind tag bounds) i b = i
  not_untagged (any tag) i b = i
  not_untagged (prefix tag s) i b = b
  not_untagged (choice ps) i b = i
  not_untagged (open_choice ps) i b = i
  not_untagged (option tag s) i b = i
  not_untagged (seq tag ps) i b = b
  not_untagged (set tag ps) i b = b
  not_untagged (sorted_set extensible tag ps) i b = b
  not_untagged (list tag s size) i b = b
  not_untagged (set_of tag s size) i b = b
  not_untagged unknown i b = i

-- v before the value was opened, w after its contents were written with the result q.
module _ {F : Type 0} (s : Shape) (t : Tree) (tag : Tag) (i : IsEnclosed s tag) (v a w : View) (o : a ≡ opened v false) (q : Result (Unit {0}) EncodeError) (k : EncodesInsideIf F s t a q w) where
  pub is_below : IsBelow v w
  is_below = (k.keeps.rule ∙ ap (λ (x : View). x.rule) o, k.keeps.below ∙ ap (λ (x : View). x.below) o)

  pub some_below : 0 < length w.below
  some_below = let l = ap length is_below.1 in omega (arith, l, length-append v.below (v.last ∷ []))

  rule_is : a.rule ≡ v.rule
  rule_is = ap (λ (x : View). x.rule) o

  enclosed_fits : (r : Result (Unit {0}) EncodeError) → OnOk r (q ≡ Ok tt) → OnOk r F
  enclosed_fits r e = on_ok_weaker r (λ m. subst (λ z. OnOk z F) m k.fits) e

  enclosed_ok : (r : Result (Unit {0}) EncodeError) (x : View) → F → OnOk r (q ≡ Ok tt) → OnOk r ((y : View) → IsBelow y w → Appends (ConstructedEncoding y.rule tag w.last.octets) tag y x)
      → OnOk r (AppendsEncoding s t v x)
  enclosed_ok (Ok tt) x f e h =
      let c = subst (λ z. OnOk z (WritesInside a.rule s t w.last.octets)) e (k.does f).ok in
      let d = subst (λ z. WritesInside z s t w.last.octets) rule_is c in
      encoded_one (ConstructedEncoding v.rule tag w.last.octets) tag s t v x (h v is_below) (not_untagged v.rule t tag s i)
      (λ b g. cons_begins v.rule tag w.last.octets b g) (λ b g. bytes_of v.rule t tag s i w.last.octets b d g)
  enclosed_ok (Err y) x f e h = tt

  enclosed_err : (r : Result (Unit {0}) EncodeError) (x : View) → OnErr r ((y : View) → IsBelow y w → x ≡ y) → OnErr r (x ≡ v)
  enclosed_err (Ok y) x h = tt
  enclosed_err (Err y) x h = h v is_below

  enclosed_refused : (r : Result (Unit {0}) EncodeError) → F → IfErr r (λ e. IsAllocError w.rule e ⊎ (q ≡ Err e)) → IfErr r (EncodeFails s t v)
  enclosed_refused r f h = IfErr-weaker r _ _ (λ e. elim [
    | inl m ↦ record { why = inl (ap (λ (x : EncodeError). x.kind) m) }
    | inr p ↦ elim (subst (λ z. IfErr z (λ x. IsEncodeOutOfMemory x.kind ⊎ ((c : List ℕ) → WritesInside a.rule s t c → ⊥))) p (k.does f).refused) [
      | inl m ↦ record { why = inl m }
      | inr n ↦ record {
        why = inr (inl (record {
          none = λ octets b. let y = inside_of v.rule t tag s i octets b in n y.0 (subst (λ z. WritesInside z s t y.0) (sym rule_is) y.1);
        }));
      }
    ]
  ]) h

  enclosed_rules : (r : Result (Unit {0}) EncodeError) → IfErr r (λ e. IsAllocError w.rule e ⊎ (q ≡ Err e)) → IfErr r (λ e. e.codec ≡ v.rule)
  enclosed_rules r h = IfErr-weaker r _ _ (λ e. elim [
    | inl m ↦ ap (λ (x : EncodeError). x.codec) m ∙ is_below.0
    | inr p ↦ subst (λ z. IfErr z (λ x. x.codec ≡ a.rule)) p k.rules ∙ rule_is
  ]) h

  pub enclosed : (r : Result (Unit {0}) EncodeError) (x : View) → OnOk r (q ≡ Ok tt) → OnOk r ((y : View) → IsBelow y w → Appends (ConstructedEncoding y.rule tag w.last.octets) tag y x)
      → OnErr r ((y : View) → IsBelow y w → x ≡ y) → IfErr r (λ e. IsAllocError w.rule e ⊎ (q ≡ Err e)) → EncodesIf F s t v r x
  enclosed r x e h n m = record {
    fits = enclosed_fits r e;
    does = λ f. record { ok = enclosed_ok r x f e h; refused = enclosed_refused r f m };
    keeps = enclosed_err r x n;
    rules = enclosed_rules r m;
  }

  -- The contents weren't written, and what was opened is dropped.
  pub dropped : (e : EncodeError) (x : View) → q ≡ Err e → ((y : View) → IsBelow y w → x ≡ y) → EncodesIf F s t v (Err e) x
  dropped e x m n = enclosed (Err e) x tt tt n (inr m)

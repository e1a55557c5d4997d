-- Values after an explicit tag.
use Rattle.std.proofs.Common.{◌≡◌, ◌⊎◌, refl, ap, subst, Result, Ok, Err, OnOk, IfErr, false, inl, inr}
use Rattle.std.proofs.lemmas.Result.{on_ok_weaker, IfErr-weaker}
use Rattle.std.specs.Fn.{FnOnceReturnsAtMut}
use Rattle.rasn_types.specs.Shapes.{Shape, Tree, prefix}
use Rattle.rasn_types.specs.Bytes.{Bytes, IsUntaggedOpen, ConstructedEncoding}
use Rattle.rasn_types.specs.declared.types.tag.Tag.{Tag}
use Rattle.rasn_types.specs.declared.error.encode.EncodeError.{EncodeError}
use Rattle.rasn_enc.specs.View.{View, opened}
use Rattle.rasn_enc.specs.Primitive.{IsAllocError}
use Rattle.rasn_enc.specs.Closures.{EncodeClosure, AppendsEnclosed, MayFail}
use Rattle.rasn_enc.specs.Encoding.{AppendsEncoding, EncodeFails}
use Rattle.rasn_enc.proofs.Leaves.Primitive.{cons_begins, encoded_one}

-- For the clause on success.
pub prefix_ok : {F : Type 0} (g : EncodeClosure F (Unit {0})) (f : F) (s : Shape) (t : Tree) (tag : Tag) (v w : View) (r : Result (Unit {0}) EncodeError) → OnOk r (AppendsEnclosed g f false tag v w)
    → ((u : View) → FnOnceReturnsAtMut g f (opened v false) (Ok tt) u → AppendsEncoding s t (opened v false) u) → OnOk r (AppendsEncoding (prefix tag s) t v w)
unfolding Bytes IsUntaggedOpen
prefix_ok g f s t tag v w r h written = on_ok_weaker r (λ k.
    let a = written k.inner k.ran in
    let i : k.inner.last.octets ≡ a.octets = ap (λ (x : View). x.last.octets) a.appended in
    encoded_one (ConstructedEncoding v.rule tag k.inner.last.octets) tag (prefix tag s) t v w k.appends (λ n. n)
    (λ b d. cons_begins v.rule tag k.inner.last.octets b d) (λ b d. (a.octets, a.defined, subst (λ l. ConstructedEncoding v.rule tag l b) i d))) h

-- For the clause on refusals.
pub prefix_refused : {F : Type 0} (g : EncodeClosure F (Unit {0})) (f : F) (s : Shape) (t : Tree) (tag : Tag) (v : View) (r : Result (Unit {0}) EncodeError)
    → IfErr r (λ e. IsAllocError v.rule e ⊎ MayFail g f (opened v false) e)
    → ((e : EncodeError) (u : View) → FnOnceReturnsAtMut g f (opened v false) (Err e) u → EncodeFails s t (opened v false) e)
    → IfErr r (EncodeFails (prefix tag s) t v)
unfolding Bytes
prefix_refused g f s t tag v r h refused = IfErr-weaker r _ _ (λ e. elim [
  | inl m ↦ record { why = inl (ap (λ (x : EncodeError). x.kind) m) }
  | inr k ↦ record {
    why = elim (refused e k.0 k.1).why [
      | inl m ↦ inl m
      | inr (inl y) ↦ inr (inl (record { none = λ octets b. y.none b.0 b.1 }))
      | inr (inr y) ↦ absurd (y.keeps refl)
    ];
  }
]) h

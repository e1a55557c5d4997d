-- The output of an encoder that kept no tags.
use Rattle.std.proofs.Common.{◌≡◌, ◌⊎◌, ℕ, List, sym, ap, ◌∙◌, subst, false, inl, inr, Vec, Result, Ok, IfOk, IfErr}
use Rattle.std.proofs.lemmas.Result.{IfOk-weaker, IfErr-weaker}
use Rattle.std.specs.Fn.{FnOnceReturnsAtMut}
use Rattle.rasn_types.specs.Shapes.{Shape, Tree}
use Rattle.rasn_types.specs.Bytes.{Bytes}
use Rattle.rasn_types.specs.Errors.{IsEncodeOutOfMemory}
use Rattle.rasn_types.specs.declared.types.codec.Codec.{Codec}
use Rattle.rasn_types.specs.declared.types.tag.Tag.{Tag}
use Rattle.rasn_types.specs.declared.error.encode.EncodeError.{EncodeError}
use Rattle.rasn_enc.specs.View.{View, Extends, started, appended, AreTagsInOrder}
use Rattle.rasn_enc.specs.Primitive.{IsAllocError, IsOrderError}
use Rattle.rasn_enc.specs.Encoding.{AppendsEncoding, NoEncoding}
use Rattle.rasn_enc.specs.Closures.{EncodeClosure, OnlyAppends, MayFail, WritesOutput}

module _ (rule : Codec) (u : View) (octets : List ℕ) (tags : List Tag) (e : u ≡ appended (started rule false) octets tags) where
  in_order : AreTagsInOrder u
  in_order = subst AreTagsInOrder (sym e) tt

  memory_alone : {R : Type 0} (r : Result R EncodeError) → IfErr r (λ x. IsAllocError u.rule x ⊎ ((AreTagsInOrder u → ⊥) × IsOrderError u.rule x)) → IfErr r (IsAllocError rule)
  memory_alone r h = IfErr-weaker r _ _ (λ x. elim [
    | inl m ↦ subst (λ (c : Codec). IsAllocError c x) (ap (λ (y : View). y.rule) e) m
    | inr k ↦ absurd (k.0 in_order)
  ]) h

-- A value that is written alone.
module _ (rule : Codec) (s : Shape) (t : Tree) (v u : View) (e : v ≡ started rule false) (a : AppendsEncoding s t v u) where
  is_appended : u ≡ appended (started rule false) a.octets a.tags
  is_appended = a.appended ∙ ap (λ x. appended x a.octets a.tags) e

  pub output_ok : {A : Type 0} (r : Result (Vec ℕ A) EncodeError) → IfOk r (λ w. w.items ≡ u.last.octets) → IfOk r (λ w. Bytes rule s t w.items)
  output_ok r h = IfOk-weaker r _ _ (λ w k.
      let i : w.items ≡ a.octets = k ∙ ap (λ (x : View). x.last.octets) is_appended in
      subst (λ l. Bytes rule s t l) (sym i) (subst (λ c. Bytes c s t a.octets) (ap (λ (x : View). x.rule) e) a.defined)) h

  pub output_refused : {R : Type 0} (r : Result R EncodeError) → IfErr r (λ x. IsAllocError u.rule x ⊎ ((AreTagsInOrder u → ⊥) × IsOrderError u.rule x))
      → IfErr r (λ x. IsEncodeOutOfMemory x.kind ⊎ NoEncoding rule s t)
  output_refused r h = IfErr-weaker r _ _ (λ x m. inl (ap (λ (y : EncodeError). y.kind) m)) (memory_alone rule u a.octets a.tags is_appended r h)

-- What a closure writes.
module _ {F : Type 0} (g : EncodeClosure F (Unit {0})) (f : F) (rule : Codec) (behind : OnlyAppends g f (started rule false)) (v u : View) (e : v ≡ started rule false)
    (q : Result (Unit {0}) EncodeError) (ran : FnOnceReturnsAtMut g f v q u) where
  ran_so : FnOnceReturnsAtMut g f (started rule false) q u
  ran_so = subst (λ x. FnOnceReturnsAtMut g f x q u) e ran

  extends : Extends (started rule false) u
  extends = behind q u ran_so

  pub scope_ok : {A : Type 0} (r : Result (Vec ℕ A) EncodeError) → q ≡ Ok tt → IfOk r (λ w. w.items ≡ u.last.octets) → IfOk r (λ w. WritesOutput g f rule w.items)
  scope_ok r i h = IfOk-weaker r _ _ (λ w k. record {
    inner = u;
    ran = (tt, subst (λ z. FnOnceReturnsAtMut g f (started rule false) z u) i ran_so);
    is = k;
  }) h

  pub scope_refused : {R : Type 0} (r : Result R EncodeError) → IfErr r (λ x. IsAllocError u.rule x ⊎ ((AreTagsInOrder u → ⊥) × IsOrderError u.rule x))
      → IfErr r (λ x. IsAllocError rule x ⊎ MayFail g f (started rule false) x)
  scope_refused r h = IfErr-weaker r _ _ (λ x m. inl m) (memory_alone rule u extends.octets extends.tags extends.appended r h)

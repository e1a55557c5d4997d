-- A closure that has written in an open value, and the value once it is closed or dropped.
use Rattle.std.proofs.Common.{◌≡◌, ◌<◌, ◌∷◌, [], length, Bool, true, Result, Ok, Err, OnOk, OnErr, IfErr, ◌⊎◌, inl, inr, sym, ap, ◌∙◌, subst, arith}
use Rattle.std.proofs.lemmas.List.{length-append}
use Rattle.std.proofs.lemmas.Result.{IfErr-weaker}
use Rattle.std.specs.Fn.{FnOnceReturnsAtMut}
use Rattle.rasn_types.specs.Bytes.{ConstructedEncoding}
use Rattle.rasn_types.specs.declared.types.codec.Codec.{Codec}
use Rattle.rasn_types.specs.declared.types.tag.Tag.{Tag}
use Rattle.rasn_types.specs.declared.error.encode.EncodeError.{EncodeError}
use Rattle.rasn_enc.specs.View.{View, IsBelow, opened, AreTagsInOrder}
use Rattle.rasn_enc.specs.Primitive.{Appends, IsAllocError, IsOrderError}
use Rattle.rasn_enc.specs.Closures.{EncodeClosure, KeepsOtherLists, AppendsEnclosed, AppendsEnclosedInOrder, FailsInside, FailsAtEnclosed, FailsAtTags}

-- v before, a after it was opened; the closure answers r and leaves u.
pub record Inner {F T : Type 0} (g : EncodeClosure F T) (f : F) (keeps : Bool) (v u : View) (r : Result T EncodeError) : Type 0 where
  pub ran : FnOnceReturnsAtMut g f (opened v keeps) r u
  pub below : IsBelow v u
  pub some : 0 < length u.below

pub inner : {F T : Type 0} (g : EncodeClosure F T) (f : F) (keeps : Bool) (x v a u w : View) (r : Result T EncodeError) → x ≡ v → a ≡ opened x keeps
    → FnOnceReturnsAtMut g f a r u → w ≡ u → KeepsOtherLists g f (opened v keeps) → Inner g f keeps v w r
inner g f keeps x v a u w r e o ran i kept =
    let p = subst (λ z. FnOnceReturnsAtMut g f z r u) (o ∙ ap (λ z. opened z keeps) e) ran in
    let k = kept r u p in
    let l = ap length k.below in
    record {
      ran = subst (λ z. FnOnceReturnsAtMut g f (opened v keeps) r z) (sym i) p;
      below = (ap (λ (z : View). z.rule) i ∙ k.rule, ap (λ (z : View). z.below) i ∙ k.below);
      some = rw i (omega (arith, l, length-append v.below (v.last ∷ [])));
    }

pub dropped : (v u w : View) → IsBelow v u → (r : Result (Unit {0}) EncodeError) → OnErr r ((x : View) → IsBelow x u → w ≡ x) → OnErr r (w ≡ v)
dropped v u w b (Ok x) h = tt
dropped v u w b (Err e) h = h v b

module _ {F : Type 0} (g : EncodeClosure F (Unit {0})) (f : F) (keeps : Bool) (v u w : View) (q : Result (Unit {0}) EncodeError) (i : Inner g f keeps v u q) where
  pub enclosed : (r : Result (Unit {0}) EncodeError) (tag : Tag) → OnOk r (q ≡ Ok tt)
      → OnOk r ((x : View) → IsBelow x u → Appends (ConstructedEncoding x.rule tag u.last.octets) tag x w) → OnOk r (AppendsEnclosed g f keeps tag v w)
  enclosed (Ok tt) tag e h = record { inner = u; ran = subst (λ z. FnOnceReturnsAtMut g f (opened v keeps) z u) e i.ran; appends = h v i.below }
  enclosed (Err x) tag e h = tt

  pub enclosing_refused : (r : Result (Unit {0}) EncodeError) → IfErr r (λ e. IsAllocError u.rule e ⊎ (q ≡ Err e))
      → IfErr r (FailsInside g f keeps v)
  enclosing_refused r h = IfErr-weaker r _ _ (λ e. elim [
    | inl m ↦ inl (subst (λ (c : Codec). IsAllocError c e) i.below.0 m)
    | inr p ↦ inr (u, subst (λ z. FnOnceReturnsAtMut g f (opened v keeps) z u) p i.ran)
  ]) h

-- The same, where the order of the tags decides too: o is the outcome of both.
module _ {F : Type 0} (g : EncodeClosure F (Unit {0})) (f : F) (v u w : View) (q : Result (Unit {0}) EncodeError) (i : Inner g f true v u q) (o : Result (Unit {0}) EncodeError) where
  pub enclosed_in_order : (r : Result (Unit {0}) EncodeError) (tag : Tag) → OnOk o ((q ≡ Ok tt) × AreTagsInOrder u) → OnOk r (o ≡ Ok tt)
      → OnOk r ((x : View) → IsBelow x u → Appends (ConstructedEncoding x.rule tag u.last.octets) tag x w) → OnOk r (AppendsEnclosedInOrder g f tag v w)
  enclosed_in_order (Ok tt) tag k e h =
      let j = subst (λ z. OnOk z ((q ≡ Ok tt) × AreTagsInOrder u)) e k in
      record { inner = u; ran = subst (λ z. FnOnceReturnsAtMut g f (opened v true) z u) j.0 i.ran; order = j.1; appends = h v i.below }
  enclosed_in_order (Err x) tag k e h = tt

  pub enclosing_in_order_refused : (r : Result (Unit {0}) EncodeError)
      → IfErr o (λ e. (q ≡ Err e) ⊎ ((q ≡ Ok tt) × FailsAtTags u e)) → IfErr r (λ e. IsAllocError u.rule e ⊎ (o ≡ Err e))
      → IfErr r (FailsAtEnclosed g f v)
  enclosing_in_order_refused r k h = IfErr-weaker r _ _ (λ e. elim [
    | inl m ↦ inl (subst (λ (c : Codec). IsAllocError c e) i.below.0 m)
    | inr p ↦ inr (elim (subst (λ z. IfErr z (λ x. (q ≡ Err x) ⊎ ((q ≡ Ok tt) × FailsAtTags u x))) p k) [
      | inl n ↦ inl (u, subst (λ z. FnOnceReturnsAtMut g f (opened v true) z u) n i.ran)
      | inr n ↦ inr (record {
        inner = u;
        ran = subst (λ z. FnOnceReturnsAtMut g f (opened v true) z u) n.0 i.ran;
        falls = n.1.0;
        told = subst (λ (c : Codec). IsOrderError c e) i.below.0 n.1.1;
      })
    ])
  ]) h

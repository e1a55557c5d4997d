-- Octets of an open type are written round a tag, alone, or not at all.
use Rattle.std.proofs.Common.{◌≡◌, ◌≢◌, ◌⊎◌, ◌<◌, inl, inr, ℕ, List, [], ◌∷◌, length, Option, Some, None, refl, ap, subst, ◌∙◌, false, Result, Ok, Err, OnOk, OnErr, IfErr, Bool, true, arith}
use Rattle.std.proofs.lemmas.List.{length-append}
use Rattle.std.proofs.lemmas.Result.{on_ok_weaker, IfErr-weaker}
use Rattle.rasn_types.specs.Shapes.{any, numbers, looked_for}
use Rattle.rasn_types.specs.Bytes.{Bytes, IsUntaggedOpen, ConstructedEncoding}
use Rattle.rasn_types.specs.Tags.{eoc}
use Rattle.rasn_types.specs.declared.types.codec.Codec.{Codec}
use Rattle.rasn_types.specs.declared.types.codec.Codec.TheVariants.{Der}
use Rattle.rasn_types.specs.declared.types.tag.Tag.{Tag}
use Rattle.rasn_types.specs.declared.error.encode.EncodeError.{EncodeError}
use Rattle.rasn_types.specs.declared.error.encode.EncodeErrorKind.{EncodeErrorKind}
use Rattle.rasn_types.specs.declared.error.encode.EncodeErrorKind.TheVariants.{CodecSpecific}
use Rattle.rasn_types.specs.declared.error.encode.CodecEncodeError.TheVariants.{Ber}
use Rattle.rasn_types.specs.declared.error.encode.BerEncodeErrorKind.TheVariants.{AnyInSet}
use Rattle.rasn_enc.specs.View.{View, IsBelow, opened, started, appended}
use Rattle.rasn_enc.specs.Primitive.{Appends, IsAllocError}
use Rattle.rasn_enc.specs.Encoding.{AppendsEncoding, EncodeFails}
use Rattle.rasn_enc.specs.Any.{FailsAtAny}
use Rattle.rasn_enc.proofs.Leaves.Primitive.{cons_begins, encoded_one}
use Rattle.rasn_enc.proofs.OwnTypes.Sequence.{appended-nil}

-- No octets are written as nothing.
pub none_encoded : (o : Option Tag) (xs : List ℕ) (v : View) → length xs ≡ 0 → AppendsEncoding (any o) (numbers xs) v v
unfolding Bytes IsUntaggedOpen
none_encoded None [] v e = record { octets = []; defined = refl; tags = []; heads = λ k. refl; tagged = λ k b. refl; appended = appended-nil v }
none_encoded (Some tag) [] v e = record { octets = []; defined = ([], refl, inl (refl, refl)); tags = []; heads = λ k. refl; tagged = λ k b. refl; appended = appended-nil v }
none_encoded o (x ∷ xs) v e = absurd (omega (arith, e))

pub untagged_encoded : {R : Type 0} (r : Result R EncodeError) (o : Option Tag) (xs : List ℕ) (v w : View) → o ≡ None → OnOk r (w ≡ appended v xs []) → OnOk r (v.last.tags ≡ None)
    → OnOk r (AppendsEncoding (any o) (numbers xs) v w)
unfolding Bytes IsUntaggedOpen
untagged_encoded (Ok x) o xs v w f e n = rw f (record { octets = xs; defined = refl; tags = []; heads = λ k. absurd (k n); tagged = λ k b. absurd (k n); appended = e })
untagged_encoded (Err x) o xs v w f e n = tt

pub round_encoded : {R : Type 0} (r : Result R EncodeError) (o : Option Tag) (tag : Tag) (xs : List ℕ) (v w : View) → o ≡ Some tag → xs ≢ []
    → OnOk r (Appends (ConstructedEncoding v.rule tag xs) tag v w) → OnOk r (AppendsEncoding (any o) (numbers xs) v w)
unfolding Bytes IsUntaggedOpen
round_encoded r o tag xs v w f some h = rw f (on_ok_weaker r (λ a.
    encoded_one (ConstructedEncoding v.rule tag xs) tag (any (Some tag)) (numbers xs) v w a (λ n. n) (λ b d. cons_begins v.rule tag xs b d) (λ b d. (xs, refl, inr (some, d)))) h)

untagged_refused : (o : Option Tag) (xs : List ℕ) (v : View) (e : EncodeError) → o ≡ None → v.last.tags ≢ None → xs ≢ [] → EncodeFails (any o) (numbers xs) v e
unfolding Bytes IsUntaggedOpen
untagged_refused None xs v e f k some = record {
  why = inr (inr (record {
    bare = tt;
    some = λ octets d n.
        let g : numbers xs ≡ numbers octets = d in
        let i : xs ≡ octets = cc in some (i ∙ n);
    keeps = k;
  }));
}
untagged_refused (Some t) xs v e f k some = cc

-- For the clause on refusals.
pub any_refused : {R : Type 0} (r : Result R EncodeError) (tag : Tag) (xs : List ℕ) (v : View) → IfErr r (FailsAtAny tag xs v)
    → IfErr r (EncodeFails (any (looked_for tag)) (numbers xs) v)
any_refused r tag xs v h = IfErr-weaker r _ _ (λ e k. elim k.1 [
  | inl b ↦ untagged_refused (looked_for tag) xs v e b.0.0 b.0.1 k.0
  | inr m ↦ record { why = inl (ap (λ (x : EncodeError). x.kind) m.1) }
]) h

-- An open value, and octets that were put into it where q accepts: v before it was opened, a after it, u after the octets.
pub record Filled (v u : View) (xs : List ℕ) (q : Result (Unit {0}) EncodeError) : Type 0 where
  pub below : IsBelow v u
  pub some : 0 < length u.below
  pub contents : OnOk q (u.last.octets ≡ xs)
  pub memory : IfErr q (IsAllocError v.rule)

pub filled : (v a u : View) (xs : List ℕ) (q : Result (Unit {0}) EncodeError) → a ≡ opened v false → OnOk q (u ≡ appended a xs []) → OnErr q (u ≡ a)
    → IfErr q (IsAllocError a.rule) → Filled v u xs q
filled v a u xs (Ok tt) o e n m = rw (e, o) (record {
  below = (refl, refl);
  some = omega (arith, length-append v.below (v.last ∷ []));
  contents = refl;
  memory = tt;
})
filled v a u xs (Err x) o e n m = rw (n, o) (record {
  below = (refl, refl);
  some = omega (arith, length-append v.below (v.last ∷ []));
  contents = tt;
  memory = subst (λ (w : View). IsAllocError w.rule x) o m;
})

module _ (v u w : View) (xs : List ℕ) (q : Result (Unit {0}) EncodeError) (i : Filled v u xs q) where
  pub closed_round : (r : Result (Unit {0}) EncodeError) (tag : Tag) → OnOk r (q ≡ Ok tt)
      → OnOk r ((x : View) → IsBelow x u → Appends (ConstructedEncoding x.rule tag u.last.octets) tag x w) → OnOk r (Appends (ConstructedEncoding v.rule tag xs) tag v w)
  closed_round (Ok tt) tag e h =
      let c : u.last.octets ≡ xs = subst (λ z. OnOk z (u.last.octets ≡ xs)) e i.contents in
      subst (λ l. Appends (ConstructedEncoding v.rule tag l) tag v w) c (h v i.below)
  closed_round (Err x) tag e h = tt

  pub round_refused : (r : Result (Unit {0}) EncodeError) → IfErr r (λ e. IsAllocError u.rule e ⊎ (q ≡ Err e)) → IfErr r (IsAllocError v.rule)
  round_refused r h = IfErr-weaker r _ _ (λ e. elim [
    | inl m ↦ subst (λ (c : Codec). IsAllocError c e) i.below.0 m
    | inr p ↦ subst (λ z. IfErr z (IsAllocError v.rule)) p i.memory
  ]) h

-- NULL without a tag is refused in a set alone, and no octets are refused nowhere.
null_in_set : FailsAtAny eoc (5 ∷ 0 ∷ []) (started Der true) (record { kind = CodecSpecific (Ber AnyInSet); codec = Der })
null_in_set = ((λ e. cc), inl ((refl, λ e. cc), refl))

is_specific : EncodeErrorKind → Bool
is_specific (CodecSpecific x) = true
is_specific k = false

null_elsewhere : FailsAtAny eoc (5 ∷ 0 ∷ []) (started Der false) (record { kind = CodecSpecific (Ber AnyInSet); codec = Der }) → ⊥
unfolding is_specific
null_elsewhere h = elim h.1 [
  | inl b ↦ b.0.1 refl
  | inr m ↦ let e : true ≡ false = ap (λ (x : EncodeError). is_specific x.kind) m.1 in cc
]

none_refused : (tag : Tag) (v : View) (e : EncodeError) → FailsAtAny tag [] v e → ⊥
none_refused tag v e h = h.0 refl

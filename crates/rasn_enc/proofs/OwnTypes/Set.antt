-- What a caller of `encode_set` knows, from what its closure ensures.
--
-- A SET writes itself as a SEQUENCE does: by a closure with the one clause `EncodesParts`, that answers `part_refused`, `part_appended`, `last_part` and
-- `parts_end`. The method that hands it over answers two:
--
--     returns-clause-ok g c = set_ok _ _ _ _ _ _ _ _ c.encode_set.ensures.ok (λ u k. search rules)
--     returns-clause-refused g c = set_refused _ _ _ _ _ _ _ c.encode_set.ensures.refused (λ r u k. search rules)
use Rattle.std.proofs.Common.{◌≡◌, ◌≢◌, ◌⊎◌, ◌∷◌, [], ℕ, List, None, sym, ap, ap₂, ◌∙◌, subst, true, inl, inr, Result, Ok, Err, OnOk, IfErr}
use Rattle.std.proofs.lemmas.Result.{on_ok_weaker, IfErr-weaker}
use Rattle.std.specs.Fn.{FnOnceReturnsAtMut}
use Rattle.rasn_types.specs.Tags.{IsTagBelow}
use Rattle.rasn_types.specs.Shapes.{Tree, Parts, set}
use Rattle.rasn_types.specs.Bytes.{Bytes, IsUntaggedOpen, fields_of, PartsWritten, TagsOf, ConstructedEncoding, AreAscending}
use Rattle.rasn_types.specs.Errors.{IsEncodeOutOfMemory}
use Rattle.rasn_types.specs.declared.types.tag.Tag.{Tag}
use Rattle.rasn_types.specs.declared.error.encode.EncodeError.{EncodeError}
use Rattle.rasn_types.proofs.SetOf.Same.{items_one}
use Rattle.rasn_types.proofs.Headers.Frames.{begins_one}
use Rattle.rasn_types.proofs.Encoding.SameAsItself.{parts_one_writing}
use Rattle.rasn_enc.specs.View.{View, opened, kept_of, AreTagsInOrder}
use Rattle.rasn_enc.specs.Closures.{EncodeClosure, AppendsEnclosedInOrder, FailsAtEnclosed}
use Rattle.rasn_enc.specs.Encoding.{AppendsEncoding, NoEncoding, EncodeFails}
use Rattle.rasn_enc.specs.Sequence.{AppendsParts, EncodesParts, NoEncodingOfParts, HasUntaggedInSet}
use Rattle.rasn_enc.specs.Set.{FailsAtSet}
use Rattle.rasn_enc.proofs.Leaves.Primitive.{cons_begins, encoded_one}

keeps_tags : (v : View) → (opened v true).last.tags ≢ None
keeps_tags v e = cc

pub tags_one : (bs : List (List ℕ)) (s t : List Tag) → TagsOf bs s → TagsOf bs t → s ≡ t
tags_one [] s t h k = h ∙ sym k
tags_one ([] ∷ bs) s t h k = tags_one bs s t h k
tags_one ((o ∷ b) ∷ bs) s t (x, xs, e, p, h) (y, ys, f, q, k) = e ∙ (ap₂ ◌∷◌ (begins_one (o ∷ b) x y p q) (tags_one bs xs ys h k) ∙ sym f)

module _ (v : View) (tag : Tag) (parts : Parts) (tree : Tree) (u : View) (p : AppendsParts parts tree (opened v true) u) where
  kept_are : kept_of u.last.tags ≡ p.tags
  kept_are = ap (λ (x : View). kept_of x.last.tags) p.appended

  pub set_encoded : (w : View) → AreTagsInOrder u → (octets : List ℕ) → ConstructedEncoding v.rule tag u.last.octets octets → Bytes v.rule (set tag parts) tree octets
  unfolding Bytes
  set_encoded w order octets d = (
    p.trees,
    p.encoded,
    p.tags,
    p.is,
    p.written,
    p.tagged (keeps_tags v),
    p.heads (keeps_tags v),
    subst (AreAscending IsTagBelow) kept_are order,
    subst (λ l. ConstructedEncoding v.rule tag l octets) (ap (λ (x : View). x.last.octets) p.appended) d,
  )

  pub set_out_of_order : (AreTagsInOrder u → ⊥) → NoEncoding v.rule (set tag parts) tree
  unfolding Bytes
  set_out_of_order falls = record {
    none = λ octets b.
        let i : p.trees ≡ b.0 = items_one p.trees b.0 (sym p.is ∙ b.3) in
        let j : p.encoded ≡ b.1 = parts_one_writing parts v.rule p.trees p.encoded b.1 p.written (subst (λ l. PartsWritten (fields_of v.rule parts) l b.1) (sym i) b.4) in
        let k : b.2 ≡ p.tags = tags_one b.1 b.2 p.tags b.6 (subst (λ l. TagsOf l p.tags) j (p.heads (keeps_tags v))) in
        falls (subst (AreAscending IsTagBelow) (k ∙ sym kept_are) b.7);
  }

-- For the clause on success.
pub set_ok : {F : Type 0} (g : EncodeClosure F (Unit {0})) (f : F) (v w : View) (tag : Tag) (parts : Parts) (tree : Tree) (r : Result (Unit {0}) EncodeError)
    → OnOk r (AppendsEnclosedInOrder g f tag v w)
    → ((u : View) → FnOnceReturnsAtMut g f (opened v true) (Ok tt) u → EncodesParts parts tree (opened v true) (Ok tt) u) → OnOk r (AppendsEncoding (set tag parts) tree v w)
unfolding IsUntaggedOpen
set_ok g f v w tag parts tree r h written = on_ok_weaker r (λ k.
    encoded_one (ConstructedEncoding v.rule tag k.inner.last.octets) tag (set tag parts) tree v w k.appends (λ n. n)
    (λ o d. cons_begins v.rule tag k.inner.last.octets o d)
    (λ o d. set_encoded v tag parts tree k.inner (written k.inner k.ran).ok w k.order o d)) h

pub parts_why : (v : View) (tag : Tag) (parts : Parts) (tree : Tree) (e : EncodeError)
    → IsEncodeOutOfMemory e.kind ⊎ (NoEncodingOfParts v.rule parts tree ⊎ HasUntaggedInSet parts tree (opened v true)) → EncodeFails (set tag parts) tree v e
unfolding Bytes
parts_why v tag parts tree e (inl m) = record { why = inl m }
parts_why v tag parts tree e (inr (inl n)) = record { why = inr (inl (record { none = λ octets b. n.none b.0 b.1 b.3 b.4 })) }
parts_why v tag parts tree e (inr (inr n)) = record { why = inr (inl (record { none = λ octets b. n.bare b.0 b.1 b.3 b.4 b.5 })) }

-- For the clause on refusals.
pub set_refused : {F : Type 0} (g : EncodeClosure F (Unit {0})) (f : F) (v : View) (tag : Tag) (parts : Parts) (tree : Tree) (r : Result (Unit {0}) EncodeError)
    → IfErr r (FailsAtEnclosed g f v)
    → ((q : Result (Unit {0}) EncodeError) (u : View) → FnOnceReturnsAtMut g f (opened v true) q u → EncodesParts parts tree (opened v true) q u)
    → IfErr r (EncodeFails (set tag parts) tree v)
set_refused g f v tag parts tree r h written = IfErr-weaker r _ _ (λ e. elim [
  | inl m ↦ record { why = inl (ap (λ (x : EncodeError). x.kind) m) }
  | inr (inl k) ↦ parts_why v tag parts tree e (written (Err e) k.0 k.1).refused.why
  | inr (inr k) ↦ record { why = inr (inl (set_out_of_order v tag parts tree k.inner (written (Ok tt) k.inner k.ran).ok k.falls)) }
]) h

-- For the clause on the order of tags.
pub set_fails : {F : Type 0} (g : EncodeClosure F (Unit {0})) (f : F) (v : View) (parts : Parts) (tree : Tree) (r : Result (Unit {0}) EncodeError)
    → IfErr r (FailsAtEnclosed g f v)
    → ((q : Result (Unit {0}) EncodeError) (u : View) → FnOnceReturnsAtMut g f (opened v true) q u → EncodesParts parts tree (opened v true) q u)
    → IfErr r (FailsAtSet parts tree v)
set_fails g f v parts tree r h written = IfErr-weaker r _ _ (λ e. elim [
  | inl m ↦ inl m
  | inr (inl k) ↦ inr (inl (written (Err e) k.0 k.1).refused)
  | inr (inr k) ↦ inr (inr (record { inner = k.inner; wrote = (written (Ok tt) k.inner k.ran).ok; falls = k.falls; is = k.told }))
]) h

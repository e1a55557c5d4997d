-- What a caller of `encode_sequence` knows, from what its closure ensures.
--
-- A SEQUENCE of two parts writes itself by a closure with one clause:
--
--     encoder.encode_sequence::<2, 0, Both<A, B>, _>(
--         tag,
--         |inner: &mut Encoder| -> Result<(), EncodeError>
--             ensures { EncodesParts (part required A.shape (part required B.shape none)) (items (A.tree self.entry.now.a ∷ B.tree self.entry.now.b ∷ [])) inner.old result inner.new }
--         {
--             self.a.encode(inner)?;
--             self.b.encode(inner)?;
--             Ok(())
--         },
--         identifier,
--     )
--
-- The closure's proof is a line for each `?` and one for `Ok`. A last call whose result is the closure's uses `last_part` in place of the last `?`:
--
--     returns-in_err-encode g c = part_refused _ _ _ _ _ _ _ _ c.in_err-encode.ensures.refused c.in_err-encode.ensures.err c.from_residual.ensures.1
--     returns-in_err-encode-2 g c = part_appended _ _ _ _ _ _ _ _ c.in_ok-encode.ensures.ok
--         (part_refused _ _ _ _ _ _ _ _ c.in_err-encode-2.ensures.refused c.in_err-encode-2.ensures.err c.from_residual-in_err-encode-2.ensures.1)
--     returns g c = part_appended _ _ _ _ _ _ _ _ c.in_ok-encode.ensures.ok (part_appended _ _ _ _ _ _ _ _ c.in_ok-encode-2.ensures.ok (parts_end _))
--
-- The method that hands it over answers two:
--
--     returns-clause-ok g c = sequence_ok _ _ _ _ _ _ _ _ c.encode_sequence.ensures.ok (λ u k. search rules)
--     returns-clause-refused g c = sequence_refused _ _ _ _ _ _ _ c.encode_sequence.ensures.refused (λ e u k. search rules)
use Rattle.std.proofs.Common.{◌≡◌, ◌≢◌, ◌++◌, [], ◌∷◌, ℕ, refl, List, sym, ap, ap₂, Option, Some, None, Result, Ok, Err, OnOk, OnErr, IfErr, false, ◌⊎◌, inl, inr, ◌∙◌, subst, option_map}
use Rattle.std.proofs.lemmas.List.{append-nil, append_assoc}
use Rattle.std.proofs.lemmas.Result.{on_ok_weaker, IfErr-weaker, err_from_is_err_and}
use Rattle.std.specs.Result.{IsErrAnd}
use Rattle.std.specs.Fn.{FnOnceReturnsAtMut}
use Rattle.rasn_types.specs.Shapes.{Shape, seq, option, Tree, items, done, joined, Parts, part, Presence, optional, Key, optional_by, default_by, addition, default, absent}
use Rattle.rasn_types.specs.Shapes.Parts.{none}
use Rattle.rasn_types.specs.Contents.{joined_lists}
use Rattle.rasn_types.specs.Bytes.{Bytes, fields_of, WritesPart, PartsWritten, NoneUntaggedOpen, TagsOf, IsUntaggedOpen, ConstructedEncoding, Same}
use Rattle.rasn_types.specs.declared.types.codec.Codec.{Codec}
use Rattle.rasn_types.specs.declared.types.tag.Tag.{Tag}
use Rattle.rasn_types.specs.declared.error.encode.EncodeError.{EncodeError}
use Rattle.rasn_enc.specs.View.{View, LeavesOthers, appended, opened}
use Rattle.rasn_enc.specs.Primitive.{IsAllocError}
use Rattle.rasn_types.specs.Errors.{IsEncodeOutOfMemory}
use Rattle.rasn_enc.specs.Encoding.{AppendsEncoding, AppendsPart, EncodeFails, EncodePartFails, NoEncodingOfPart, IsUntaggedPartInSet}
use Rattle.rasn_enc.specs.Sequence.{AppendsParts, EncodesParts, EncodePartsFails, NoEncodingOfParts, HasUntaggedInSet}
use Rattle.rasn_enc.specs.Closures.{EncodeClosure, AppendsEnclosed, MayFail}
use Rattle.rasn_enc.proofs.Leaves.Primitive.{cons_begins, encoded_one}

pub tags-nil : (o : Option (List Tag)) → o ≡ option_map (λ kept. kept ++ []) o
tags-nil None = refl
tags-nil (Some kept) = ap (λ l. Some l) (sym (append-nil kept))

tags-more : (o : Option (List Tag)) (a b : List Tag) → option_map (λ kept. kept ++ b) (option_map (λ kept. kept ++ a) o) ≡ option_map (λ kept. kept ++ (a ++ b)) o
tags-more None a b = refl
tags-more (Some kept) a b = ap (λ l. Some l) (append_assoc kept a b)

view_with : View → List ℕ → Option (List Tag) → View
view_with v octets tags = record { rule = v.rule; below = v.below; last = record { octets = octets; tags = tags } }

pub appended-nil : (v : View) → v ≡ appended v [] []
unfolding view_with
appended-nil v = ap₂ (view_with v) (sym (append-nil v.last.octets)) (tags-nil v.last.tags)

pub appended-more : (v : View) (a b : List ℕ) (s t : List Tag) → appended (appended v a s) b t ≡ appended v (a ++ b) (s ++ t)
unfolding view_with
appended-more v a b s t = ap₂ (view_with v) (append_assoc v.last.octets a b) (tags-more v.last.tags s t)

heads_more : (octets : List ℕ) (encoded : List (List ℕ)) (a b : List Tag) → TagsOf (octets ∷ []) a → TagsOf encoded b → TagsOf (octets ∷ encoded) (a ++ b)
heads_more [] encoded a b h k = rw h k
heads_more (o ∷ l) encoded a b (tag, more, e, begins, n) k = (tag, b, rw (e, n) refl, begins, k)

none_written : (v : View) → AppendsParts none done v v
unfolding fields_of
none_written v = record { trees = []; is = refl; encoded = []; written = (refl, refl); tags = []; heads = λ k. refl; tagged = λ k. tt; appended = appended-nil v }

keeps_after : (v u : View) (octets : List ℕ) (tags : List Tag) → u ≡ appended v octets tags → v.last.tags ≢ None → u.last.tags ≢ None
keeps_after v u octets tags e h k = h (none_before v.last.tags (sym (ap (λ (x : View). x.last.tags) e) ∙ k))
  where
    none_before : (o : Option (List Tag)) → option_map (λ kept. kept ++ tags) o ≡ None → o ≡ None
    none_before None f = refl
    none_before (Some kept) f = cc

-- A part is written, and then the others.
part_written : (p : Presence) (s : Shape) (parts : Parts) (t tree : Tree) (v u w : View) → AppendsPart p s t v u → AppendsParts parts tree u w
    → AppendsParts (part p s parts) (joined t tree) v w
unfolding fields_of
part_written p s parts t tree v u w a q = record {
  trees = t ∷ q.trees;
  is = ap (joined t) q.is;
  encoded = a.octets ∷ q.encoded;
  written = (t, q.trees, a.octets, q.encoded, refl, refl, a.defined, subst (λ r. PartsWritten (fields_of r parts) q.trees q.encoded) (ap (λ (x : View). x.rule) a.appended) q.written);
  tags = a.tags ++ q.tags;
  heads = λ k. heads_more a.octets q.encoded a.tags q.tags (a.heads k) (q.heads (keeps_after v u a.octets a.tags a.appended k));
  tagged = λ k. (a.tagged k, subst (λ r. NoneUntaggedOpen (fields_of r parts) q.trees q.encoded) (ap (λ (x : View). x.rule) a.appended) (q.tagged (keeps_after v u a.octets a.tags a.appended k)));
  appended = q.appended ∙ (ap (λ x. appended x (joined_lists q.encoded) q.tags) a.appended ∙ appended-more v a.octets (joined_lists q.encoded) a.tags q.tags);
}

-- The octets of parts are those of the first, and of the others.
record Divided (p : Presence) (rule : Codec) (s : Shape) (parts : Parts) (t tree : Tree) (trees : List Tree) (encoded : List (List ℕ)) : Type 0 where
  octets : List ℕ
  others : List Tree
  more : List (List ℕ)
  trees_are : trees ≡ t ∷ others
  encoded_are : encoded ≡ octets ∷ more
  tree_is : tree ≡ items others
  first : WritesPart p (Bytes rule s) t octets
  rest : PartsWritten (fields_of rule parts) others more

divided : (p : Presence) (rule : Codec) (s : Shape) (parts : Parts) (t tree : Tree) (trees : List Tree) (encoded : List (List ℕ)) → joined t tree ≡ items trees
    → PartsWritten (fields_of rule (part p s parts)) trees encoded → Divided p rule s parts t tree trees encoded
unfolding fields_of
divided p rule s parts t tree trees encoded is (x, us, b, cs, f, g, h, k) =
    let i : joined t tree ≡ joined x (items us) = is ∙ ap items f in
    let j : x ≡ t = cc in
    record {
      octets = b;
      others = us;
      more = cs;
      trees_are = f ∙ ap (λ y. y ∷ us) j;
      encoded_are = g;
      tree_is = cc;
      first = subst (λ y. WritesPart p (Bytes rule s) y b) j h;
      rest = k;
    }

untagged_first : (p : Presence) (rule : Codec) (s : Shape) (parts : Parts) (t : Tree) (trees others : List Tree) (encoded more : List (List ℕ)) (octets : List ℕ)
    → trees ≡ t ∷ others → encoded ≡ octets ∷ more → NoneUntaggedOpen (fields_of rule (part p s parts)) trees encoded → IsUntaggedOpen s t → octets ≡ []
unfolding fields_of
untagged_first p rule s parts t trees others encoded more octets e f n b = (rw (e, f) at n).0 b

untagged_rest : (p : Presence) (rule : Codec) (s : Shape) (parts : Parts) (t : Tree) (trees others : List Tree) (encoded more : List (List ℕ)) (octets : List ℕ)
    → trees ≡ t ∷ others → encoded ≡ octets ∷ more → NoneUntaggedOpen (fields_of rule (part p s parts)) trees encoded → NoneUntaggedOpen (fields_of rule parts) others more
unfolding fields_of
untagged_rest p rule s parts t trees others encoded more octets e f n = (rw (e, f) at n).1

first_why : (p : Presence) (s : Shape) (parts : Parts) (t tree : Tree) (v : View) (e : EncodeError) → IsEncodeOutOfMemory e.kind ⊎ (NoEncodingOfPart p v.rule s t ⊎ IsUntaggedPartInSet p s t v)
    → IsEncodeOutOfMemory e.kind ⊎ (NoEncodingOfParts v.rule (part p s parts) (joined t tree) ⊎ HasUntaggedInSet (part p s parts) (joined t tree) v)
first_why p s parts t tree v e (inl m) = inl m
first_why p s parts t tree v e (inr (inl n)) = inr (inl (record {
  none = λ trees encoded is w.
      let d = divided p v.rule s parts t tree trees encoded is w in n.none d.octets d.first;
}))
first_why p s parts t tree v e (inr (inr n)) = inr (inr (record {
  bare = λ trees encoded is w nb.
      let d = divided p v.rule s parts t tree trees encoded is w in
      n.some d.octets d.first (untagged_first p v.rule s parts t trees d.others encoded d.more d.octets d.trees_are d.encoded_are nb n.bare);
  keeps = n.keeps;
}))

-- The first part is refused.
first_refused : (p : Presence) (s : Shape) (parts : Parts) (t tree : Tree) (v : View) (e : EncodeError) → EncodePartFails p s t v e
    → EncodePartsFails (part p s parts) (joined t tree) v e
first_refused p s parts t tree v e h = record { why = first_why p s parts t tree v e h.why }

keeps_before : (v u : View) (octets : List ℕ) (tags : List Tag) → u ≡ appended v octets tags → u.last.tags ≢ None → v.last.tags ≢ None
keeps_before v u octets tags e h k = h (ap (λ (x : View). x.last.tags) e ∙ ap (λ o. option_map (λ kept. kept ++ tags) o) k)

later_why : (p : Presence) (s : Shape) (parts : Parts) (t tree : Tree) (v u : View) (e : EncodeError) → AppendsPart p s t v u
    → IsEncodeOutOfMemory e.kind ⊎ (NoEncodingOfParts u.rule parts tree ⊎ HasUntaggedInSet parts tree u)
    → IsEncodeOutOfMemory e.kind ⊎ (NoEncodingOfParts v.rule (part p s parts) (joined t tree) ⊎ HasUntaggedInSet (part p s parts) (joined t tree) v)
later_why p s parts t tree v u e a (inl m) = inl m
later_why p s parts t tree v u e a (inr (inl n)) = inr (inl (record {
  none = λ trees encoded is w.
      let d = divided p v.rule s parts t tree trees encoded is w in
      n.none d.others d.more d.tree_is (subst (λ r. PartsWritten (fields_of r parts) d.others d.more) (sym (ap (λ (x : View). x.rule) a.appended)) d.rest);
}))
later_why p s parts t tree v u e a (inr (inr n)) = inr (inr (record {
  bare = λ trees encoded is w nb.
      let d = divided p v.rule s parts t tree trees encoded is w in
      let r : v.rule ≡ u.rule = sym (ap (λ (x : View). x.rule) a.appended) in
      n.bare d.others d.more d.tree_is (subst (λ r. PartsWritten (fields_of r parts) d.others d.more) r d.rest)
      (subst (λ r. NoneUntaggedOpen (fields_of r parts) d.others d.more) r (untagged_rest p v.rule s parts t trees d.others encoded d.more d.octets d.trees_are d.encoded_are nb));
  keeps = keeps_before v u a.octets a.tags a.appended n.keeps;
}))

-- The first part is written, and a later one is refused.
later_refused : (p : Presence) (s : Shape) (parts : Parts) (t tree : Tree) (v u : View) (e : EncodeError) → AppendsPart p s t v u → EncodePartsFails parts tree u e
    → EncodePartsFails (part p s parts) (joined t tree) v e
later_refused p s parts t tree v u e a h = record { why = later_why p s parts t tree v u e a h.why }

-- No part is left, and the closure accepts.
pub parts_end : (v : View) → EncodesParts none done v (Ok tt) v
parts_end v = record { keeps = record { rule = refl; below = refl }; ok = none_written v; refused = tt }

refused_by : (p : Presence) (s : Shape) (parts : Parts) (t tree : Tree) (v u : View) (r : Result (Unit {0}) EncodeError) (e : EncodeError)
    → EncodePartFails p s t v e → u ≡ v → r ≡ Err e → EncodesParts (part p s parts) (joined t tree) v r u
refused_by p s parts t tree v u r e h k q = rw q (record {
  keeps = record { rule = ap (λ (x : View). x.rule) k; below = ap (λ (x : View). x.below) k };
  ok = tt;
  refused = first_refused p s parts t tree v e h;
})

-- A part is refused, and the closure returns that by `?`.
pub part_refused : {p : Presence} (s : Shape) (parts : Parts) (t tree : Tree) (v u : View) (r : Result (Unit {0}) EncodeError) (e : EncodeError)
    → EncodePartFails p s t v e → u ≡ v → IsErrAnd r (λ y. y ≡ e) → EncodesParts (part p s parts) (joined t tree) v r u
part_refused {p} s parts t tree v u r e h k q =
    let x = err_from_is_err_and r q in
    refused_by p s parts t tree v u r e h k (x.1 ∙ ap (λ (y : EncodeError). (let z : Result (Unit {0}) EncodeError = Err y in z)) x.2)

-- A part is written, and then the others are.
pub part_appended : {p : Presence} (s : Shape) (parts : Parts) (t tree : Tree) (v u w : View) (r : Result (Unit {0}) EncodeError)
    → AppendsPart p s t v u → EncodesParts parts tree u r w → EncodesParts (part p s parts) (joined t tree) v r w
part_appended {p} s parts t tree v u w r a q = record {
  keeps = record { rule = q.keeps.rule ∙ ap (λ (x : View). x.rule) a.appended; below = q.keeps.below ∙ ap (λ (x : View). x.below) a.appended };
  ok = on_ok_weaker r (λ h. part_written p s parts t tree v u w a h) q.ok;
  refused = IfErr-weaker r _ _ (λ e h. later_refused p s parts t tree v u e a h) q.refused;
}

-- The call that writes the last part is the closure's answer.
pub last_part : {p : Presence} (s : Shape) (t : Tree) (v w : View) (r : Result (Unit {0}) EncodeError)
    → OnOk r (AppendsPart p s t v w) → OnErr r (w ≡ v) → IfErr r (EncodePartFails p s t v) → EncodesParts (part p s none) (joined t done) v r w
last_part {p} s t v w (Ok tt) a b c = part_appended s none t done v w w (Ok tt) a (parts_end w)
last_part {p} s t v w (Err e) a b c = refused_by p s none t done v w (Err e) e c b refl

-- For the clause on success.
pub sequence_ok : {F : Type 0} (g : EncodeClosure F (Unit {0})) (f : F) (v w : View) (tag : Tag) (parts : Parts) (tree : Tree) (r : Result (Unit {0}) EncodeError)
    → OnOk r (AppendsEnclosed g f false tag v w)
    → ((u : View) → FnOnceReturnsAtMut g f (opened v false) (Ok tt) u → EncodesParts parts tree (opened v false) (Ok tt) u) → OnOk r (AppendsEncoding (seq tag parts) tree v w)
unfolding Bytes IsUntaggedOpen
sequence_ok g f v w tag parts tree r h written = on_ok_weaker r (λ k.
    let p = (written k.inner k.ran).ok in
    let i : k.inner.last.octets ≡ joined_lists p.encoded = ap (λ (x : View). x.last.octets) p.appended in
    encoded_one (ConstructedEncoding v.rule tag k.inner.last.octets) tag (seq tag parts) tree v w k.appends (λ n. n)
    (λ o d. cons_begins v.rule tag k.inner.last.octets o d)
    (λ o d. (p.trees, p.encoded, p.is, p.written, subst (λ l. ConstructedEncoding v.rule tag l o) i d))) h

-- For the clause on refusals.
pub sequence_refused : {F : Type 0} (g : EncodeClosure F (Unit {0})) (f : F) (v : View) (tag : Tag) (parts : Parts) (tree : Tree) (r : Result (Unit {0}) EncodeError)
    → IfErr r (λ e. IsAllocError v.rule e ⊎ MayFail g f (opened v false) e)
    → ((e : EncodeError) (u : View) → FnOnceReturnsAtMut g f (opened v false) (Err e) u → EncodesParts parts tree (opened v false) (Err e) u)
    → IfErr r (EncodeFails (seq tag parts) tree v)
unfolding Bytes
sequence_refused g f v tag parts tree r h refused = IfErr-weaker r _ _ (λ e. elim [
  | inl m ↦ record { why = inl (ap (λ (x : EncodeError). x.kind) m) }
  | inr k ↦ elim (refused e k.0 k.1).refused.why [
    | inl m ↦ record { why = inl m }
    | inr (inl n) ↦ record { why = inr (inl (record { none = λ octets b. n.none b.0 b.1 b.2 b.3 })) }
    | inr (inr n) ↦ absurd (n.keeps refl)
  ]
]) h

-- What a writing closure has to keep by any calls: each one keeps it, written or refused, and so do two, one after the other.
pub call_keeps : {T : Type 0} (s : Shape) (t : Tree) {v w : View} (r : Result T EncodeError) → OnOk r (AppendsEncoding s t v w) → OnErr r (w ≡ v) → LeavesOthers v w
call_keeps {T} s t {v} {w} (Ok x) a e = record { rule = ap (λ (u : View). u.rule) a.appended; below = ap (λ (u : View). u.below) a.appended }
call_keeps {T} s t {v} {w} (Err x) a e = record { rule = ap (λ (u : View). u.rule) e; below = ap (λ (u : View). u.below) e }

pub keeps_then : {u v w : View} → LeavesOthers u v → LeavesOthers v w → LeavesOthers u w
keeps_then a b = record { rule = b.rule ∙ a.rule; below = b.below ∙ a.below }

-- A part that is absent, or equals its default, is left out.
pub absent_left : (s : Shape) (t : Tree) (v : View) → t ≡ absent → AppendsPart optional s t v v
absent_left s t v e = record { octets = []; defined = inl (e, refl); tags = []; heads = λ k. refl; tagged = λ k b. refl; appended = appended-nil v }

pub default_left : (s : Shape) (t d : Tree) (v : View) → Same t d → AppendsPart (default d) s t v v
default_left s t d v e = record { octets = []; defined = inl (e, refl); tags = []; heads = λ k. refl; tagged = λ k b. refl; appended = appended-nil v }

-- A part that may be left out is written as the value of such a type is.
pub optional_encoded : {g : Option Tag} {key : Key} (s : Shape) (t : Tree) (v w : View) → AppendsEncoding (option g s) t v w → AppendsPart (optional_by key) s t v w
unfolding Bytes IsUntaggedOpen
optional_encoded s t v w a = record { octets = a.octets; defined = a.defined; tags = a.tags; heads = a.heads; tagged = a.tagged; appended = a.appended }

pub optional_refused : {g : Option Tag} {key : Key} (s : Shape) (t : Tree) (v : View) (e : EncodeError) → EncodeFails (option g s) t v e → EncodePartFails (optional_by key) s t v e
unfolding Bytes IsUntaggedOpen
optional_refused s t v e h = record {
  why = elim h.why [
    | inl m ↦ inl m
    | inr (inl n) ↦ inr (inl (record { none = n.none }))
    | inr (inr n) ↦ inr (inr (record { bare = n.bare; some = n.some; keeps = n.keeps }))
  ];
}

-- What a part with a default is recognized by makes no difference to how it is written.
pub default_encoded : {key other : Key} (d : Tree) (s : Shape) (t : Tree) (v w : View) → AppendsPart (default_by key d) s t v w → AppendsPart (default_by other d) s t v w
default_encoded d s t v w a = record { octets = a.octets; defined = a.defined; tags = a.tags; heads = a.heads; tagged = a.tagged; appended = a.appended }

pub default_refused : {key other : Key} (d : Tree) (s : Shape) (t : Tree) (v : View) (e : EncodeError) → EncodePartFails (default_by key d) s t v e → EncodePartFails (default_by other d) s t v e
default_refused d s t v e h = record {
  why = elim h.why [
    | inl m ↦ inl m
    | inr (inl n) ↦ inr (inl (record { none = n.none }))
    | inr (inr n) ↦ inr (inr (record { bare = n.bare; some = n.some; keeps = n.keeps }))
  ];
}

-- An extension addition is written as a part that may be left out is.
pub addition_encoded : {g : Option Tag} (s : Shape) (t : Tree) (v w : View) → AppendsEncoding (option g s) t v w → AppendsPart addition s t v w
unfolding Bytes IsUntaggedOpen
addition_encoded s t v w a = record { octets = a.octets; defined = a.defined; tags = a.tags; heads = a.heads; tagged = a.tagged; appended = a.appended }

pub addition_refused : {g : Option Tag} (s : Shape) (t : Tree) (v : View) (e : EncodeError) → EncodeFails (option g s) t v e → EncodePartFails addition s t v e
unfolding Bytes IsUntaggedOpen
addition_refused s t v e h = record {
  why = elim h.why [
    | inl m ↦ inl m
    | inr (inl n) ↦ inr (inl (record { none = n.none }))
    | inr (inr n) ↦ inr (inr (record { bare = n.bare; some = n.some; keeps = n.keeps }))
  ];
}

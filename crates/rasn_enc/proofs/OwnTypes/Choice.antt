-- What a caller of `encode_choice` knows, from what its closure ensures.
--
-- A CHOICE of two alternatives writes itself by a closure with one clause:
--
--     encoder.encode_choice::<Time, _>(
--         constraints,
--         tag,
--         |encoder: &mut Encoder| -> Result<Tag, EncodeError>
--             ensures { EncodesAlternative time_alternatives (time_tree self.entry.now) encoder.old result encoder.new }
--         {
--             match self {
--                 Time::Utc(time) => {
--                     time.encode(encoder)?;
--                     Ok(UtcTime::TAG)
--                 }
--                 Time::General(time) => {
--                     time.encode(encoder)?;
--                     Ok(GeneralizedTime::TAG)
--                 }
--             }
--         },
--         identifier,
--     )
--
-- The closure answers `alternative_refused` for each `?` and `alternative_appended` for each `Ok`; the method that hands it over answers
-- `choice_ok` and `choice_refused`.
use Rattle.std.proofs.Common.{◌≡◌, ◌<◌, ◌+◌, ℕ, zero, suc, Bool, true, false, None, List, [], refl, sym, ap, ◌∙◌, subst, arith, Result, Ok, Err, OnOk, IfErr, inl, inr}
use Rattle.std.proofs.lemmas.Result.{on_ok_weaker, IfErr-weaker, err_from_is_err_and}
use Rattle.std.specs.Result.{IsErrAnd}
use Rattle.std.specs.Fn.{FnOnceReturnsAtMut}
use Rattle.rasn_types.specs.Shapes.{Shape, Tree, numbers, chosen, any, choice, open_choice, choice_by, Parts, part, count}
use Rattle.rasn_types.specs.Shapes.Parts.{none}
use Rattle.rasn_types.specs.Bytes.{Bytes, fields_of, WritesChoice, IsUntaggedOpen, IsUntaggedOpenIn}
use Rattle.rasn_types.specs.declared.types.codec.Codec.{Codec}
use Rattle.rasn_types.specs.declared.types.tag.Tag.{Tag}
use Rattle.rasn_types.specs.declared.error.encode.EncodeError.{EncodeError}
use Rattle.rasn_types.proofs.Encoding.SameOctets.{other_written, written_below}
use Rattle.rasn_enc.specs.View.{View}
use Rattle.rasn_enc.specs.Encoding.{AppendsEncoding, EncodeFails}
use Rattle.rasn_enc.specs.Closures.{EncodeClosure, MaySucceed, MayFail}
use Rattle.rasn_enc.specs.Choice.{IsAlternative, IsAlternativeBy, EncodesAlternative}
use Rattle.rasn_enc.proofs.OwnTypes.Sequence.{appended-nil}

-- What is written of the alternative is written of the choice, and nothing else is.
written_at : (rule : Codec) (ps : Parts) (j k n : ℕ) (s : Shape) (t : Tree) (b : List ℕ) → n ≡ j + k → IsAlternative ps k s → Bytes rule s t b → WritesChoice j (fields_of rule ps) (chosen n t) b
unfolding fields_of
written_at rule none j k n s t b e a h = absurd a
written_at rule (part presence x ps) j zero n s t b e a h = inl (t, ap (λ i. chosen i t) (omega arith), subst (λ z. Bytes rule z t b) (sym a) h)
written_at rule (part presence x ps) j (suc k) n s t b e a h = inr (written_at rule ps (suc j) k n s t b (omega arith) a h)

alone_at : (rule : Codec) (ps : Parts) (j k n : ℕ) (s : Shape) (t : Tree) (b : List ℕ) → n ≡ j + k → IsAlternative ps k s → WritesChoice j (fields_of rule ps) (chosen n t) b → Bytes rule s t b
unfolding fields_of
alone_at rule none j k n s t b e a h = absurd a
alone_at rule (part presence x ps) j zero n s t b e a (inl (u, f, h)) = let g : u ≡ t = cc in subst (λ z. Bytes rule z t b) a (subst (λ y. Bytes rule x y b) g h)
alone_at rule (part presence x ps) j zero n s t b e a (inr h) = absurd (other_written rule ps (suc j) n (chosen n t) t b (omega arith) refl h)
alone_at rule (part presence x ps) j (suc k) n s t b e a (inl (u, f, h)) = let g : n ≡ j = cc in absurd (omega arith)
alone_at rule (part presence x ps) j (suc k) n s t b e a (inr h) = alone_at rule ps (suc j) k n s t b (omega arith) a h

untagged_at : (ps : Parts) (j k n : ℕ) (s : Shape) (t : Tree) → n ≡ j + k → IsAlternative ps k s → IsUntaggedOpen s t → IsUntaggedOpenIn j ps (chosen n t)
unfolding IsUntaggedOpen
untagged_at none j k n s t e a h = absurd a
untagged_at (part presence x ps) j zero n s t e a h = inl (t, ap (λ i. chosen i t) (omega arith), subst (λ z. IsUntaggedOpen z t) (sym a) h)
untagged_at (part presence x ps) j (suc k) n s t e a h = inr (untagged_at ps (suc j) k n s t (omega arith) a h)

other_untagged : (ps : Parts) (k j : ℕ) (t u : Tree) → j < k → t ≡ chosen j u → IsUntaggedOpenIn k ps t → ⊥
unfolding IsUntaggedOpen
other_untagged none k j t u h e m = m
other_untagged (part presence s ps) k j t u h e (inl m) = let f = m.1 in let g : j ≡ k = cc in omega arith
other_untagged (part presence s ps) k j t u h e (inr m) = other_untagged ps (suc k) j t u (omega arith) e m

untagged_alone : (ps : Parts) (j k n : ℕ) (s : Shape) (t : Tree) → n ≡ j + k → IsAlternative ps k s → IsUntaggedOpenIn j ps (chosen n t) → IsUntaggedOpen s t
unfolding IsUntaggedOpen
untagged_alone none j k n s t e a h = absurd a
untagged_alone (part presence x ps) j zero n s t e a (inl (u, f, h)) = let g : u ≡ t = cc in subst (λ z. IsUntaggedOpen z t) a (subst (IsUntaggedOpen x) g h)
untagged_alone (part presence x ps) j zero n s t e a (inr h) = absurd (other_untagged ps (suc j) n (chosen n t) t (omega arith) refl h)
untagged_alone (part presence x ps) j (suc k) n s t e a (inl (u, f, h)) = let g : n ≡ j = cc in absurd (omega arith)
untagged_alone (part presence x ps) j (suc k) n s t e a (inr h) = untagged_alone ps (suc j) k n s t (omega arith) a h

-- The unknown alternative comes after the others.
alternative_below : (ps : Parts) (k : ℕ) (s : Shape) → IsAlternative ps k s → k < count ps
alternative_below none k s a = absurd a
alternative_below (part presence x ps) zero s a = omega arith
alternative_below (part presence x ps) (suc k) s a = let h = alternative_below ps k s a in omega (arith, h)

not_unknown : (ps : Parts) (k : ℕ) (s : Shape) (t u : Tree) → IsAlternative ps k s → chosen k t ≡ chosen (count ps) u → ⊥
not_unknown ps k s t u a e = let h = alternative_below ps k s a in let f : k ≡ count ps = cc in omega (arith, h, f)

unknown_alone : (rule : Codec) (ps : Parts) (t : Tree) (b : List ℕ) → WritesChoice 0 (fields_of rule ps) (chosen (count ps) t) b → ⊥
unknown_alone rule ps t b h =
    let r = written_below rule ps 0 (chosen (count ps) t) b h in
    let e = r.2 in let n : count ps ≡ r.0 = cc in let l = r.3 in omega (arith, l, n)

module _ (ps : Parts) (k : ℕ) (s : Shape) (t : Tree) (a : IsAlternative ps k s) (v w : View) where
  pub chosen_encoded : AppendsEncoding s t v w → AppendsEncoding (choice ps) (chosen k t) v w
  unfolding Bytes IsUntaggedOpen
  chosen_encoded h = record {
    octets = h.octets;
    defined = written_at v.rule ps 0 k k s t h.octets (omega arith) a h.defined;
    tags = h.tags;
    heads = h.heads;
    tagged = λ m b. h.tagged m (untagged_alone ps 0 k k s t (omega arith) a b);
    appended = h.appended;
  }

  pub chosen_refused : (e : EncodeError) → EncodeFails s t v e → EncodeFails (choice ps) (chosen k t) v e
  unfolding Bytes IsUntaggedOpen
  chosen_refused e h = record {
    why = elim h.why [
      | inl m ↦ inl m
      | inr (inl n) ↦ inr (inl (record { none = λ octets b. n.none octets (alone_at v.rule ps 0 k k s t octets (omega arith) a b) }))
      | inr (inr n) ↦ inr (inr (record {
        bare = untagged_at ps 0 k k s t (omega arith) a n.bare;
        some = λ octets b. n.some octets (alone_at v.rule ps 0 k k s t octets (omega arith) a b);
        keeps = n.keeps;
      }))
    ];
  }

  -- The same of a CHOICE with an extension marker.
  pub known_encoded : AppendsEncoding s t v w → AppendsEncoding (open_choice ps) (chosen k t) v w
  unfolding Bytes IsUntaggedOpen
  known_encoded h =
      let c = chosen_encoded h in
      record {
        octets = c.octets;
        defined = inl c.defined;
        tags = c.tags;
        heads = c.heads;
        tagged = λ m b. elim b [ inl n ↦ c.tagged m n | inr n ↦ absurd (not_unknown ps k s t n.0 a n.1) ];
        appended = c.appended;
      }

  pub known_refused : (e : EncodeError) → EncodeFails s t v e → EncodeFails (open_choice ps) (chosen k t) v e
  unfolding Bytes IsUntaggedOpen
  known_refused e h =
      let c = chosen_refused e h in
      record {
        why = elim c.why [
          | inl m ↦ inl m
          | inr (inl n) ↦ inr (inl (record { none = λ octets b. elim b [ inl i ↦ n.none octets i | inr i ↦ not_unknown ps k s t (numbers octets) a i ] }))
          | inr (inr n) ↦ inr (inr (record {
            bare = inl n.bare;
            some = λ octets b. elim b [ inl i ↦ n.some octets i | inr i ↦ absurd (not_unknown ps k s t (numbers octets) a i) ];
            keeps = n.keeps;
          }))
        ];
      }

  -- The alternative is written, and the closure accepts.
  pub alternative_appended : (tag : Tag) → AppendsEncoding s t v w → EncodesAlternative ps (chosen k t) v (Ok tag) w
  alternative_appended tag h = record { keeps = record { octets = h.octets; tags = h.tags; appended = h.appended }; ok = chosen_encoded h; refused = tt }

  refused_by : (r : Result Tag EncodeError) (e : EncodeError) → EncodeFails s t v e → w ≡ v → r ≡ Err e → EncodesAlternative ps (chosen k t) v r w
  refused_by r e h i q = rw q (record { keeps = record { octets = []; tags = []; appended = i ∙ appended-nil v }; ok = tt; refused = chosen_refused e h })

  -- The alternative is refused, and the closure returns that by `?`.
  pub alternative_refused : (r : Result Tag EncodeError) (e : EncodeError) → EncodeFails s t v e → w ≡ v → IsErrAnd r (λ y. y ≡ e) → EncodesAlternative ps (chosen k t) v r w
  alternative_refused r e h i q =
      let x = err_from_is_err_and r q in
      refused_by r e h i (x.1 ∙ ap (λ (y : EncodeError). (let z : Result Tag EncodeError = Err y in z)) x.2)

-- The octets of an unknown alternative are those of an open type without a tag.
module _ (ps : Parts) (t : Tree) (v w : View) where
  pub unknown_encoded : AppendsEncoding (any None) t v w → AppendsEncoding (open_choice ps) (chosen (count ps) t) v w
  unfolding Bytes IsUntaggedOpen
  unknown_encoded h = record {
    octets = h.octets;
    defined = inr (ap (λ u. chosen (count ps) u) h.defined);
    tags = h.tags;
    heads = h.heads;
    tagged = λ m b. h.tagged m tt;
    appended = h.appended;
  }

  unknown_is : (b : List ℕ) → chosen (count ps) t ≡ chosen (count ps) (numbers b) → t ≡ numbers b
  unknown_is b e = cc

  pub unknown_refused : (e : EncodeError) → EncodeFails (any None) t v e → EncodeFails (open_choice ps) (chosen (count ps) t) v e
  unfolding Bytes IsUntaggedOpen
  unknown_refused e h = record {
    why = elim h.why [
      | inl m ↦ inl m
      | inr (inl n) ↦ inr (inl (record { none = λ octets b. elim b [ inl i ↦ unknown_alone v.rule ps t octets i | inr i ↦ n.none octets (unknown_is octets i) ] }))
      | inr (inr n) ↦ inr (inr (record {
        bare = inr (t, refl);
        some = λ octets b. elim b [ inl i ↦ absurd (unknown_alone v.rule ps t octets i) | inr i ↦ n.some octets (unknown_is octets i) ];
        keeps = n.keeps;
      }))
    ];
  }

-- An alternative of a CHOICE with or without an extension marker.
pub chosen_by_encoded : (extensible : Bool) (ps : Parts) (k : ℕ) (s : Shape) (t : Tree) → IsAlternativeBy extensible ps k s → (v w : View) → AppendsEncoding s t v w → AppendsEncoding (choice_by extensible ps) (chosen k t) v w
chosen_by_encoded false ps k s t (inl a) v w h = chosen_encoded ps k s t a v w h
chosen_by_encoded false ps k s t (inr a) v w h = absurd a
chosen_by_encoded true ps k s t (inl a) v w h = known_encoded ps k s t a v w h
chosen_by_encoded true ps k s t (inr (e, f)) v w h =
    subst (λ n. AppendsEncoding (open_choice ps) (chosen n t) v w) (sym e) (unknown_encoded ps t v w (subst (λ z. AppendsEncoding z t v w) f h))

pub chosen_by_refused : (extensible : Bool) (ps : Parts) (k : ℕ) (s : Shape) (t : Tree) → IsAlternativeBy extensible ps k s → (v : View) (e : EncodeError) → EncodeFails s t v e → EncodeFails (choice_by extensible ps) (chosen k t) v e
chosen_by_refused false ps k s t (inl a) v e h = chosen_refused ps k s t a v v e h
chosen_by_refused false ps k s t (inr a) v e h = absurd a
chosen_by_refused true ps k s t (inl a) v e h = known_refused ps k s t a v v e h
chosen_by_refused true ps k s t (inr (i, f)) v e h =
    subst (λ n. EncodeFails (open_choice ps) (chosen n t) v e) (sym i) (unknown_refused ps t v v e (subst (λ z. EncodeFails z t v e) f h))

-- For the clause on success.
pub choice_ok : {F : Type 0} (g : EncodeClosure F Tag) (f : F) (v w : View) (ps : Parts) (tree : Tree) (r : Result (Unit {0}) EncodeError) → OnOk r (MaySucceed g f v w)
    → ((tag : Tag) → FnOnceReturnsAtMut g f v (Ok tag) w → EncodesAlternative ps tree v (Ok tag) w) → OnOk r (AppendsEncoding (choice ps) tree v w)
choice_ok g f v w ps tree r h written = on_ok_weaker r (λ k. (written k.0 k.1).ok) h

-- For the clause on refusals.
pub choice_refused : {F : Type 0} (g : EncodeClosure F Tag) (f : F) (v : View) (ps : Parts) (tree : Tree) (r : Result (Unit {0}) EncodeError) → IfErr r (MayFail g f v)
    → ((e : EncodeError) (u : View) → FnOnceReturnsAtMut g f v (Err e) u → EncodesAlternative ps tree v (Err e) u) → IfErr r (EncodeFails (choice ps) tree v)
choice_refused g f v ps tree r h refused = IfErr-weaker r _ _ (λ e k. (refused e k.0 k.1).refused) h

-- A CHOICE whose last alternative is unknown values: these are written as their octets are.
use Rattle.std.proofs.Common.{◌≡◌, ◌⊎◌, ◌<◌, ◌+◌, ℕ, zero, suc, true, List, None, refl, sym, ap, ◌∙◌, subst, arith, inl, inr}
use Rattle.rasn_types.specs.declared.types.codec.Codec.{Codec}
use Rattle.rasn_types.specs.declared.error.encode.EncodeError.{EncodeError}
use Rattle.rasn_types.specs.Shapes.{Tree, chosen, numbers, Shape, any, choice, open_choice, Parts, part, count}
use Rattle.rasn_types.specs.Shapes.Parts.{none}
use Rattle.rasn_types.specs.Bytes.{Bytes, fields_of, WritesChoice, IsUntaggedOpen}
use Rattle.rasn_enc.specs.View.{View}
use Rattle.rasn_enc.specs.Choice.{IsAlternative}
use Rattle.rasn_enc.specs.Encoding.{AppendsEncoding, EncodeFails}
use Rattle.rasn_enc.proofs.OwnTypes.Choice.{chosen_encoded, chosen_refused}
use Rattle.rasn_schema.specs.Shapes.{ends_open, before_last, choice_among}
use Rattle.rasn_schema.proofs.OpenEnds.{among}
use Rattle.rasn_dynamic.proofs.OpenChoice.{open_is}

-- ---- which alternative

counted : (ps : Parts) (k : ℕ) (s : Shape) → IsAlternative ps k s → k < count ps
counted none k s a = absurd a
counted (part presence x ps) zero s a = omega arith
counted (part presence x ps) (suc k) s a = omega (arith, counted ps k s a)

-- One of those before the last, or the last.
alternative_of : (ps : Parts) (k : ℕ) (s : Shape) → ends_open ps ≡ true → IsAlternative ps k s → IsAlternative (before_last ps) k s ⊎ ((k ≡ count (before_last ps)) × (s ≡ any None))
alternative_of none k s o a = absurd a
alternative_of (part presence x none) zero s o a = inr (refl, sym a ∙ open_is x o)
alternative_of (part presence x none) (suc k) s o a = absurd a
alternative_of (part presence x (part next u ps)) zero s o a = inl a
alternative_of (part presence x (part next u ps)) (suc k) s o a = elim (alternative_of (part next u ps) k s o a) [
  | inl b ↦ inl b
  | inr (e, b) ↦ inr (ap suc e, b)
]

-- Alternatives that are named have lower numbers.
not_named : (rule : Codec) (ps : Parts) (j n : ℕ) (t : Tree) (b : List ℕ) → n ≡ j + count ps → WritesChoice j (fields_of rule ps) (chosen n t) b → ⊥
unfolding fields_of
not_named rule none j n t b e h = h
not_named rule (part presence s ps) j n t b e (inl (u, f, h)) = let g : n ≡ j = cc in omega (arith, e, g)
not_named rule (part presence s ps) j n t b e (inr h) = not_named rule ps (suc j) n t b (omega (arith, e)) h

-- ---- an alternative that is named

module _ (qs : Parts) (k : ℕ) (t : Tree) (low : k < count qs) (v w : View) where
  not_unknown : (u : Tree) → chosen k t ≡ chosen (count qs) u → ⊥
  not_unknown u e = let g : k ≡ count qs = cc in omega (arith, low, g)

  named_encoded : AppendsEncoding (choice qs) (chosen k t) v w → AppendsEncoding (open_choice qs) (chosen k t) v w
  unfolding Bytes IsUntaggedOpen
  named_encoded h = record {
    octets = h.octets;
    defined = inl h.defined;
    tags = h.tags;
    heads = h.heads;
    tagged = λ m b. elim b [
      | inl x ↦ h.tagged m x
      | inr (u, e) ↦ absurd (not_unknown u e)
    ];
    appended = h.appended;
  }

  named_refused : (e : EncodeError) → EncodeFails (choice qs) (chosen k t) v e → EncodeFails (open_choice qs) (chosen k t) v e
  unfolding Bytes IsUntaggedOpen
  named_refused e h = record {
    why = elim h.why [
      | inl m ↦ inl m
      | inr (inl n) ↦ inr (inl (record {
        none = λ octets b. elim b [
          | inl x ↦ n.none octets x
          | inr g ↦ not_unknown (numbers octets) g
        ];
      }))
      | inr (inr n) ↦ inr (inr (record {
        bare = inl n.bare;
        some = λ octets b. elim b [
          | inl x ↦ n.some octets x
          | inr g ↦ absurd (not_unknown (numbers octets) g)
        ];
        keeps = n.keeps;
      }))
    ];
  }

-- ---- an unknown one

module _ (qs : Parts) (t : Tree) (v w : View) where
  as_its_octets : (rule : Codec) (octets : List ℕ) → Bytes rule (open_choice qs) (chosen (count qs) t) octets → Bytes rule (any None) t octets
  unfolding Bytes
  as_its_octets rule octets (inl h) = absurd (not_named rule qs 0 (count qs) t octets (omega arith) h)
  as_its_octets rule octets (inr e) = cc

  unknown_encoded : AppendsEncoding (any None) t v w → AppendsEncoding (open_choice qs) (chosen (count qs) t) v w
  unfolding Bytes IsUntaggedOpen
  unknown_encoded h = record {
    octets = h.octets;
    defined = inr (ap (λ u. chosen (count qs) u) h.defined);
    tags = h.tags;
    heads = h.heads;
    tagged = λ m b. h.tagged m tt;
    appended = h.appended;
  }

  unknown_refused : (e : EncodeError) → EncodeFails (any None) t v e → EncodeFails (open_choice qs) (chosen (count qs) t) v e
  unfolding Bytes IsUntaggedOpen
  unknown_refused e h = record {
    why = elim h.why [
      | inl m ↦ inl m
      | inr (inl n) ↦ inr (inl (record { none = λ octets b. n.none octets (as_its_octets v.rule octets b) }))
      | inr (inr n) ↦ inr (inr (record {
        bare = inr (t, refl);
        some = λ octets b. n.some octets (as_its_octets v.rule octets b);
        keeps = n.keeps;
      }))
    ];
  }

-- ---- either

module _ (ps : Parts) (k : ℕ) (s : Shape) (t : Tree) (a : IsAlternative ps k s) (v w : View) where
  open_encoded : ends_open ps ≡ true → AppendsEncoding s t v w → AppendsEncoding (open_choice (before_last ps)) (chosen k t) v w
  open_encoded o h = elim (alternative_of ps k s o a) [
    | inl b ↦ named_encoded (before_last ps) k t (counted (before_last ps) k s b) v w (chosen_encoded (before_last ps) k s t b v w h)
    | inr (e, b) ↦ subst (λ i. AppendsEncoding (open_choice (before_last ps)) (chosen i t) v w) (sym e) (unknown_encoded (before_last ps) t v w (subst (λ z. AppendsEncoding z t v w) b h))
  ]

  open_refused : ends_open ps ≡ true → (e : EncodeError) → EncodeFails s t v e → EncodeFails (open_choice (before_last ps)) (chosen k t) v e
  open_refused o x h = elim (alternative_of ps k s o a) [
    | inl b ↦ named_refused (before_last ps) k t (counted (before_last ps) k s b) v w x (chosen_refused (before_last ps) k s t b v w x h)
    | inr (e, b) ↦ subst (λ i. EncodeFails (open_choice (before_last ps)) (chosen i t) v x) (sym e) (unknown_refused (before_last ps) t v w x (subst (λ z. EncodeFails z t v x) b h))
  ]

  -- What the writer does with an alternative it does with the CHOICE.
  pub among_encoded : AppendsEncoding s t v w → AppendsEncoding (choice_among ps) (chosen k t) v w
  among_encoded h = among (λ z. AppendsEncoding z (chosen k t) v w) ps (λ o. open_encoded o h) (λ c. chosen_encoded ps k s t a v w h)

  pub among_refused : (e : EncodeError) → EncodeFails s t v e → EncodeFails (choice_among ps) (chosen k t) v e
  among_refused e h = among (λ z. EncodeFails z (chosen k t) v e) ps (λ o. open_refused o e h) (λ c. chosen_refused ps k s t a v w e h)

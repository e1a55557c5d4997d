-- Values of several parts that were worked out by hand.
use Rattle.std.proofs.Common.{◌≡◌, ℕ, ◌<◌, ◌⊎◌, inl, inr, List, [], ◌∷◌, ◌++◌, length, true, false, pos, rules, refl, sym, subst, arith}
use Rattle.rasn_types.specs.Tags.{form, IsStrict}
use Rattle.rasn_types.specs.declared.types.codec.Codec.{Codec}
use Rattle.rasn_types.specs.declared.types.codec.Codec.TheVariants.{Ber, Cer, Der}
use Rattle.rasn_types.specs.Shapes.{Tree, number, numbers, items, set_elements, default, required, every, boolean, integer, octet_string, ia5, part}
use Rattle.rasn_types.specs.Readings.{definite_form, indefinite_form}
use Rattle.rasn_types.specs.Contents.{IsBool, closed_segments, none, one_more}
use Rattle.rasn_types.specs.Grammar.{Reads, parts_of}
use Rattle.rasn_types.specs.Bytes.{Bytes, fields_of, PartsWritten, Each, AreAscending, IsLess}
use Rattle.rasn_types.specs.Carried.{IsWithinLimits}
use Rattle.rasn_types.proofs.Headers.Frames.{frame_next}
use Rattle.rasn_types.proofs.SetOf.Same.{items_one}
use Rattle.rasn_types.proofs.Encoding.SameOctets.{once}
use Rattle.rasn.specs.Worked.{IsCarriedAs, IsReadAs, plain, seven, octets_in_set_of, named, smith}
use Rattle.rasn.proofs.ReadBack.Taken.{parts_in, none_taken}
use Rattle.rasn.proofs.ReadBack.Headers.{short, without, going, short_written, closed_written, plain_read, octets_read}
use Rattle.rasn_types.specs.Shapes.Parts.{none as no_parts}

none_required : (ts : Tree) → (default ts ≡ required) ⊎ ⊥ → ⊥
none_required ts (inl e) = cc
none_required ts (inr e) = e

pub default_left_out : (rule : Codec) → IsReadAs rule seven (48 ∷ 0 ∷ []) (items (number (pos 7) ∷ [])) []
unfolding Reads parts_of
default_left_out rule = (
  omega arith,
  definite_form [] (short 16 true [] [] (omega arith) (omega arith) (omega arith))
      (number (pos 7) ∷ [], refl, inl ((none_required (number (pos 7)), refl, refl), (number (pos 7), [], refl, refl, refl), refl)),
)

pub default_spelled : (rule : Codec) → (IsStrict rule → ⊥) → IsReadAs rule seven (48 ∷ 3 ∷ 2 ∷ 1 ∷ 7 ∷ []) (items (number (pos 7) ∷ [])) []
unfolding Reads parts_of
default_spelled rule lax = (
  omega arith,
  definite_form (2 ∷ 1 ∷ 7 ∷ []) (short 16 true (2 ∷ 1 ∷ 7 ∷ []) [] (omega arith) (omega arith) (omega arith)) (
    number (pos 7) ∷ [],
    refl,
    inr (
      (λ h. let e : ◌≡◌ {A = List ℕ} (2 ∷ 1 ∷ 7 ∷ []) [] = h.2 in cc),
      (
        number (pos 7),
        [],
        [],
        refl,
        inr (
          (going false 2 _ (omega arith), frame_next (short {spelling = form rule} 2 false (7 ∷ []) [] (omega arith) (omega arith) (omega arith))),
          ((plain_read rule (integer every) 2 (7 ∷ []) [] (number (pos 7)) 127 (omega arith) (omega arith) (omega arith) (refl, (λ e. cc), tt) (λ z. (refl, tt)), tt), λ z. absurd (lax z)),
        ),
        (refl, refl),
      ),
    ),
  ),
)

pub default_not_written : Bytes Der seven (items (number (pos 7) ∷ [])) (48 ∷ 0 ∷ [])
unfolding Bytes fields_of
default_not_written = (
  number (pos 7) ∷ [],
  [] ∷ [],
  refl,
  (number (pos 7), [], [], [], refl, refl, inl (refl, refl), (refl, refl)),
  short_written 16 true [] (omega arith) (omega arith),
)

octets_element : (rule : Codec) (contents rest : List ℕ) → length contents < 128
    → Reads rule (plain octet_string 4) 126 false (4 ∷ length contents ∷ (contents ++ rest)) (numbers contents) rest
unfolding Reads parts_of
octets_element rule contents rest l = ((contents, octets_read rule 4 contents rest 126 (omega arith) (omega arith) l, refl), tt)

pub set_of_out_of_order : (rule : Codec) → (IsStrict rule → ⊥) → IsReadAs rule octets_in_set_of (49 ∷ 6 ∷ 4 ∷ 1 ∷ 2 ∷ 4 ∷ 1 ∷ 1 ∷ []) (set_elements (items (numbers (2 ∷ []) ∷ numbers (1 ∷ []) ∷ []))) []
unfolding Reads parts_of
set_of_out_of_order rule lax = (
  omega arith,
  definite_form (4 ∷ 1 ∷ 2 ∷ 4 ∷ 1 ∷ 1 ∷ []) (short 17 true (4 ∷ 1 ∷ 2 ∷ 4 ∷ 1 ∷ 1 ∷ []) [] (omega arith) (omega arith) (omega arith)) (
    numbers (2 ∷ []) ∷ numbers (1 ∷ []) ∷ [],
    refl,
    tt,
    (
      going false 4 _ (omega arith),
      4 ∷ 1 ∷ 1 ∷ [],
      octets_element rule (2 ∷ []) (4 ∷ 1 ∷ 1 ∷ []) (omega arith),
      (
        going false 4 _ (omega arith),
        [],
        octets_element rule (1 ∷ []) [] (omega arith),
        (inl refl, refl),
      ),
    ),
    λ z. absurd (lax z),
  ),
)

pub octet_written : (rule : Codec) (o : ℕ) → o < 256 → Bytes rule (plain octet_string 4) (numbers (o ∷ [])) (4 ∷ 1 ∷ o ∷ [])
unfolding Bytes fields_of
octet_written rule o h = (tt, (o ∷ [], refl, inl ((λ c. omega arith), o ∷ [], (refl, (h, tt)), short_written 4 false (o ∷ []) (omega arith) (omega arith))))

octets_once : (rule : Codec) (o : ℕ) → o < 256 → (b : List ℕ) → Bytes rule (plain octet_string 4) (numbers (o ∷ [])) b → b ≡ 4 ∷ 1 ∷ o ∷ []
octets_once rule o h b w = once (plain octet_string 4) rule (numbers (o ∷ [])) (numbers (o ∷ [])) b (4 ∷ 1 ∷ o ∷ []) refl w (octet_written rule o h)

-- the two elements' octets fall
two_fall : (rule : Codec) (bs : List (List ℕ)) → Each (Bytes rule (plain octet_string 4)) (numbers (2 ∷ []) ∷ numbers (1 ∷ []) ∷ []) bs → AreAscending IsLess bs → ⊥
two_fall rule bs (x, cs, e, v, (y, ds, f, w, g)) order =
    let p : x ≡ 4 ∷ 1 ∷ 2 ∷ [] = octets_once rule 2 (omega arith) x v in
    let q : y ≡ 4 ∷ 1 ∷ 1 ∷ [] = octets_once rule 1 (omega arith) y w in
    let r : bs ≡ (4 ∷ 1 ∷ 2 ∷ []) ∷ (4 ∷ 1 ∷ 1 ∷ []) ∷ [] = cc in
    (subst (AreAscending IsLess) r order).0 (inr (refl, inr (refl, inl (omega arith))))

pub set_of_not_written : (rule : Codec) (b : List ℕ) → Bytes rule octets_in_set_of (set_elements (items (numbers (2 ∷ []) ∷ numbers (1 ∷ []) ∷ []))) b → ⊥
unfolding Bytes fields_of
set_of_not_written rule b (ts, bs, e, within, each, order, c) =
    two_fall rule bs (subst (λ l. Each (Bytes rule (plain octet_string 4)) l bs) (sym (items_one (numbers (2 ∷ []) ∷ numbers (1 ∷ []) ∷ []) ts (walked _ _ e))) each) order
  where
    walked : (t u : Tree) → set_elements t ≡ set_elements u → t ≡ u
    walked t u e = cc

pub smith_in_segments : IsReadAs Ber named (48 ∷ 128 ∷ 54 ∷ 128 ∷ 4 ∷ 2 ∷ 83 ∷ 109 ∷ 4 ∷ 3 ∷ 105 ∷ 116 ∷ 104 ∷ 0 ∷ 0 ∷ 1 ∷ 1 ∷ 1 ∷ 0 ∷ 0 ∷ []) smith []
unfolding Reads parts_of
smith_in_segments = (
  omega arith,
  indefinite_form _ (without 16 _ tt (omega arith) (omega arith)) (
    numbers (83 ∷ 109 ∷ 105 ∷ 116 ∷ 104 ∷ []) ∷ number (pos 1) ∷ [],
    refl,
    inr (
      (λ b. b.0 (inl refl)),
      (
        numbers (83 ∷ 109 ∷ 105 ∷ 116 ∷ 104 ∷ []),
        number (pos 1) ∷ [],
        1 ∷ 1 ∷ 1 ∷ 0 ∷ 0 ∷ [],
        refl,
        (
          (
            83 ∷ 109 ∷ 105 ∷ 116 ∷ 104 ∷ [],
            closed_segments _ (λ s. s) (without 22 _ tt (omega arith) (omega arith)) (
                one_more (83 ∷ 109 ∷ []) (105 ∷ 116 ∷ 104 ∷ []) _ (going true 4 _ (omega arith)) (octets_read Ber 4 (83 ∷ 109 ∷ []) _ 126 (omega arith) (omega arith) (omega arith)) (
                one_more (105 ∷ 116 ∷ 104 ∷ []) [] _ (going true 4 _ (omega arith)) (octets_read Ber 4 (105 ∷ 116 ∷ 104 ∷ []) _ 126 (omega arith) (omega arith) (omega arith))
                (none (inr (refl, 1 ∷ 1 ∷ 1 ∷ 0 ∷ 0 ∷ [], refl))) refl
                ) refl
                ),
            (refl, search rules),
          ),
          tt,
        ),
        (
          number (pos 1),
          [],
          0 ∷ 0 ∷ [],
          refl,
          (plain_read Ber boolean 1 (1 ∷ []) (0 ∷ 0 ∷ []) (number (pos 1)) 127 (omega arith) (omega arith) (omega arith) (pos 1, refl, (1, refl, inr ((λ e. omega arith), refl))) (λ z. absurd z), tt),
          (refl, refl),
        ),
      ),
    ),
  ),
)

pub full_true : (rule : Codec) → IsBool rule (255 ∷ []) (pos 1)
full_true Ber = (255, refl, inr ((λ e. omega arith), refl))
full_true Cer = inr (refl, refl)
full_true Der = inr (refl, refl)

pub smith_in_one : (rule : Codec) → IsReadAs rule named (48 ∷ 10 ∷ 22 ∷ 5 ∷ 83 ∷ 109 ∷ 105 ∷ 116 ∷ 104 ∷ 1 ∷ 1 ∷ 255 ∷ []) smith []
unfolding Reads parts_of
smith_in_one rule = (
  omega arith,
  definite_form (22 ∷ 5 ∷ 83 ∷ 109 ∷ 105 ∷ 116 ∷ 104 ∷ 1 ∷ 1 ∷ 255 ∷ [])
      (short 16 true (22 ∷ 5 ∷ 83 ∷ 109 ∷ 105 ∷ 116 ∷ 104 ∷ 1 ∷ 1 ∷ 255 ∷ []) [] (omega arith) (omega arith) (omega arith)) (
        numbers (83 ∷ 109 ∷ 105 ∷ 116 ∷ 104 ∷ []) ∷ number (pos 1) ∷ [],
        refl,
        inr (
          (λ b. b.0 (inl refl)),
          (
            numbers (83 ∷ 109 ∷ 105 ∷ 116 ∷ 104 ∷ []),
            number (pos 1) ∷ [],
            1 ∷ 1 ∷ 255 ∷ [],
            refl,
            ((83 ∷ 109 ∷ 105 ∷ 116 ∷ 104 ∷ [], octets_read rule 22 (83 ∷ 109 ∷ 105 ∷ 116 ∷ 104 ∷ []) _ 127 (omega arith) (omega arith) (omega arith), (refl, search rules)), tt),
            (
              number (pos 1),
              [],
              [],
              refl,
              (plain_read rule boolean 1 (255 ∷ []) [] (number (pos 1)) 127 (omega arith) (omega arith) (omega arith) (pos 1, refl, full_true rule) (λ z. (refl, tt)), tt),
              (refl, refl),
            ),
          ),
        ),
      ),
)

smith_parts : (rule : Codec) → PartsWritten (fields_of rule (part required (plain ia5 22) (part required (plain boolean 1) no_parts)))
    (numbers (83 ∷ 109 ∷ 105 ∷ 116 ∷ 104 ∷ []) ∷ number (pos 1) ∷ []) ((22 ∷ 5 ∷ 83 ∷ 109 ∷ 105 ∷ 116 ∷ 104 ∷ []) ∷ (1 ∷ 1 ∷ 255 ∷ []) ∷ [])
unfolding Bytes fields_of
smith_parts rule = (
  numbers (83 ∷ 109 ∷ 105 ∷ 116 ∷ 104 ∷ []),
  number (pos 1) ∷ [],
  22 ∷ 5 ∷ 83 ∷ 109 ∷ 105 ∷ 116 ∷ 104 ∷ [],
  (1 ∷ 1 ∷ 255 ∷ []) ∷ [],
  refl,
  refl,
  (
    tt,
    (
      83 ∷ 109 ∷ 105 ∷ 116 ∷ 104 ∷ [],
      (refl, search rules),
      inl ((λ c. omega arith), 83 ∷ 109 ∷ 105 ∷ 116 ∷ 104 ∷ [], (refl, (omega arith, (omega arith, (omega arith, (omega arith, (omega arith, tt)))))), short_written 22 false _ (omega arith) (omega arith)),
    ),
  ),
  (
    number (pos 1),
    [],
    1 ∷ 1 ∷ 255 ∷ [],
    [],
    refl,
    refl,
    (tt, (255 ∷ [], record { is = (pos 1, refl, inr (refl, refl)); octets = (omega arith, tt); shortest = tt }, short_written 1 false (255 ∷ []) (omega arith) (omega arith))),
    (refl, refl),
  ),
)

smith_meets : (rule : Codec) → IsWithinLimits rule named 128 smith
unfolding IsWithinLimits
smith_meets rule = (
  omega arith,
  numbers (83 ∷ 109 ∷ 105 ∷ 116 ∷ 104 ∷ []) ∷ number (pos 1) ∷ [],
  refl,
  (numbers (83 ∷ 109 ∷ 105 ∷ 116 ∷ 104 ∷ []), number (pos 1) ∷ [], refl, (tt, λ l e z k. omega arith), (number (pos 1), [], refl, tt, refl)),
  none_taken rule (parts_in named) (numbers (83 ∷ 109 ∷ 105 ∷ 116 ∷ 104 ∷ []) ∷ number (pos 1) ∷ []) refl,
)

pub smith_in_ber : IsCarriedAs Ber named smith (48 ∷ 10 ∷ 22 ∷ 5 ∷ 83 ∷ 109 ∷ 105 ∷ 116 ∷ 104 ∷ 1 ∷ 1 ∷ 255 ∷ [])
unfolding Bytes fields_of
smith_in_ber = (
  record {
    octets = 48 ∷ 10 ∷ 22 ∷ 5 ∷ 83 ∷ 109 ∷ 105 ∷ 116 ∷ 104 ∷ 1 ∷ 1 ∷ 255 ∷ [];
    is = (_, _, refl, smith_parts Ber, short_written 16 true (22 ∷ 5 ∷ 83 ∷ 109 ∷ 105 ∷ 116 ∷ 104 ∷ 1 ∷ 1 ∷ 255 ∷ []) (omega arith) (omega arith));
    within_limits = smith_meets Ber;
  },
  refl,
)

pub smith_in_der : IsCarriedAs Der named smith (48 ∷ 10 ∷ 22 ∷ 5 ∷ 83 ∷ 109 ∷ 105 ∷ 116 ∷ 104 ∷ 1 ∷ 1 ∷ 255 ∷ [])
unfolding Bytes fields_of
smith_in_der = (
  record {
    octets = 48 ∷ 10 ∷ 22 ∷ 5 ∷ 83 ∷ 109 ∷ 105 ∷ 116 ∷ 104 ∷ 1 ∷ 1 ∷ 255 ∷ [];
    is = (_, _, refl, smith_parts Der, short_written 16 true (22 ∷ 5 ∷ 83 ∷ 109 ∷ 105 ∷ 116 ∷ 104 ∷ 1 ∷ 1 ∷ 255 ∷ []) (omega arith) (omega arith));
    within_limits = smith_meets Der;
  },
  refl,
)

pub smith_in_cer : IsCarriedAs Cer named smith (48 ∷ 128 ∷ 22 ∷ 5 ∷ 83 ∷ 109 ∷ 105 ∷ 116 ∷ 104 ∷ 1 ∷ 1 ∷ 255 ∷ 0 ∷ 0 ∷ [])
unfolding Bytes fields_of
smith_in_cer = (
  record {
    octets = 48 ∷ 128 ∷ 22 ∷ 5 ∷ 83 ∷ 109 ∷ 105 ∷ 116 ∷ 104 ∷ 1 ∷ 1 ∷ 255 ∷ 0 ∷ 0 ∷ [];
    is = (_, _, refl, smith_parts Cer, closed_written 16 (22 ∷ 5 ∷ 83 ∷ 109 ∷ 105 ∷ 116 ∷ 104 ∷ 1 ∷ 1 ∷ 255 ∷ []) (omega arith));
    within_limits = smith_meets Cer;
  },
  refl,
)

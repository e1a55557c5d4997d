-- Unknown values with their octets.
use Rattle.std.proofs.Common.{◌≡◌, ◌≢◌, ℕ, inl, inr, List, [], ◌∷◌, Some, false, true, pos, refl, sym, ap, subst, arith}
use Rattle.rasn_types.specs.Tags.{Form, der_form, loose_form}
use Rattle.rasn_types.specs.declared.types.codec.Codec.TheVariants.{Der}
use Rattle.rasn_types.specs.declared.types.tag.Tag.{Tag}
use Rattle.rasn_types.specs.Framing.{Frame, definite, plain as whole}
use Rattle.rasn_types.specs.Shapes.{Tree, number, numbers, items, absent, boolean, unknown, part, required, one_tag}
use Rattle.rasn_types.specs.Shapes.Parts.{none}
use Rattle.rasn_types.specs.Readings.{definite_form, IsLeftOut}
use Rattle.rasn_types.specs.Grammar.{Reads, parts_of, ReadsAny}
use Rattle.rasn_types.specs.Bytes.{Bytes, fields_of}
use Rattle.rasn_types.specs.Carried.{BeginsUnknown, NoneTaken, IsWithinLimits, Carried}
use Rattle.rasn_types.proofs.SetOf.Same.{items_one}
use Rattle.rasn_types.proofs.Headers.Frames.{frame_next, next_one}
use Rattle.rasn.specs.Worked.{IsCarriedAs, IsReadAs}
use Rattle.rasn.specs.WorkedShapes.{plain, contextual, extensible}
use Rattle.rasn.specs.WorkedValues.{with_unknown, WorkedUnknown}
use Rattle.rasn.proofs.ReadBack.Taken.{parts_in}
use Rattle.rasn.proofs.ReadBack.Headers.{short, going, plain_read, short_written, context_frame}

-- 01 01 FF
truth_read : (rest : List ℕ) → Reads Der (plain boolean 1) 127 false (1 ∷ 1 ∷ 255 ∷ rest) (number (pos 1)) rest
unfolding Reads parts_of
truth_read rest = (plain_read Der boolean 1 (255 ∷ []) rest (number (pos 1)) 127 (omega arith) (omega arith) (omega arith) (pos 1, refl, inr (refl, refl)) (λ z. (refl, tt)), tt)

true_written : Bytes Der (plain boolean 1) (number (pos 1)) (1 ∷ 1 ∷ 255 ∷ [])
unfolding Bytes fields_of
true_written = (tt, (255 ∷ [], record { is = (pos 1, refl, inr (refl, refl)); octets = (omega arith, tt); shortest = tt }, short_written 1 false (255 ∷ []) (omega arith) (omega arith)))

-- 81 01 07, and 05 00
framed : {spelling : Form} (rest : List ℕ) → Frame spelling (129 ∷ 1 ∷ 7 ∷ rest) (contextual 1) false rest (definite (7 ∷ []))
framed rest = context_frame 1 false (7 ∷ []) rest (omega arith) (omega arith)

first_read : (rest : List ℕ) → ReadsAny Der (129 ∷ 1 ∷ 7 ∷ rest) (numbers (129 ∷ 1 ∷ 7 ∷ [])) rest
first_read rest = (129 ∷ 1 ∷ 7 ∷ [], refl, whole (contextual 1) false (7 ∷ []) (framed []), refl)

second_read : ReadsAny Der (5 ∷ 0 ∷ []) (numbers (5 ∷ 0 ∷ [])) []
second_read = (5 ∷ 0 ∷ [], refl, whole _ false [] (short {spelling = loose_form} 5 false [] [] (omega arith) (omega arith) (omega arith)), refl)

apart : contextual 1 ≢ contextual 0
apart e = omega (arith, ap (λ (t : Tag). t.value) e)

-- The INTEGER isn't there before [1].
number_left_out : (rest : List ℕ) → IsLeftOut der_form (one_tag (Some (contextual 0))) false (129 ∷ 1 ∷ 7 ∷ rest)
number_left_out rest = inr (contextual 1, frame_next (framed rest), apart)

nothing_unknown : IsReadAs Der extensible (48 ∷ 3 ∷ 1 ∷ 1 ∷ 255 ∷ []) (with_unknown []) []
unfolding Reads parts_of
nothing_unknown = (
  omega arith,
  definite_form (1 ∷ 1 ∷ 255 ∷ []) (short 16 true (1 ∷ 1 ∷ 255 ∷ []) [] (omega arith) (omega arith) (omega arith)) (
    number (pos 1) ∷ absent ∷ items [] ∷ [],
    refl,
    inr (
      (λ h. h.0 (inl refl)),
      (_, _, [], refl, truth_read [], (_, _, [], refl, inl (inl (inl refl), refl, refl), (_, _, [], refl, ([], refl, tt, (inl refl, refl)), (refl, refl)))),
    ),
  ),
)

one_unknown : IsReadAs Der extensible (48 ∷ 6 ∷ 1 ∷ 1 ∷ 255 ∷ 129 ∷ 1 ∷ 7 ∷ []) (with_unknown ((129 ∷ 1 ∷ 7 ∷ []) ∷ [])) []
unfolding Reads parts_of
one_unknown = (
  omega arith,
  definite_form (1 ∷ 1 ∷ 255 ∷ 129 ∷ 1 ∷ 7 ∷ []) (short 16 true (1 ∷ 1 ∷ 255 ∷ 129 ∷ 1 ∷ 7 ∷ []) [] (omega arith) (omega arith) (omega arith)) (
    number (pos 1) ∷ absent ∷ items (numbers (129 ∷ 1 ∷ 7 ∷ []) ∷ []) ∷ [],
    refl,
    inr (
      (λ h. h.0 (inl refl)),
      (
        _,
        _,
        129 ∷ 1 ∷ 7 ∷ [],
        refl,
        truth_read (129 ∷ 1 ∷ 7 ∷ []),
        (
          _,
          _,
          129 ∷ 1 ∷ 7 ∷ [],
          refl,
          inl (number_left_out [], refl, refl),
          (_, _, [], refl, (numbers (129 ∷ 1 ∷ 7 ∷ []) ∷ [], refl, tt, (going false 129 (1 ∷ 7 ∷ []) (omega arith), [], first_read [], (inl refl, refl))), (refl, refl)),
        ),
      ),
    ),
  ),
)

two_unknown : IsReadAs Der extensible (48 ∷ 8 ∷ 1 ∷ 1 ∷ 255 ∷ 129 ∷ 1 ∷ 7 ∷ 5 ∷ 0 ∷ []) (with_unknown ((129 ∷ 1 ∷ 7 ∷ []) ∷ (5 ∷ 0 ∷ []) ∷ [])) []
unfolding Reads parts_of
two_unknown = (
  omega arith,
  definite_form (1 ∷ 1 ∷ 255 ∷ 129 ∷ 1 ∷ 7 ∷ 5 ∷ 0 ∷ []) (short 16 true (1 ∷ 1 ∷ 255 ∷ 129 ∷ 1 ∷ 7 ∷ 5 ∷ 0 ∷ []) [] (omega arith) (omega arith) (omega arith)) (
    number (pos 1) ∷ absent ∷ items (numbers (129 ∷ 1 ∷ 7 ∷ []) ∷ numbers (5 ∷ 0 ∷ []) ∷ []) ∷ [],
    refl,
    inr (
      (λ h. h.0 (inl refl)),
      (
        _,
        _,
        129 ∷ 1 ∷ 7 ∷ 5 ∷ 0 ∷ [],
        refl,
        truth_read (129 ∷ 1 ∷ 7 ∷ 5 ∷ 0 ∷ []),
        (
          _,
          _,
          129 ∷ 1 ∷ 7 ∷ 5 ∷ 0 ∷ [],
          refl,
          inl (number_left_out (5 ∷ 0 ∷ []), refl, refl),
          (
            _,
            _,
            [],
            refl,
            (
              numbers (129 ∷ 1 ∷ 7 ∷ []) ∷ numbers (5 ∷ 0 ∷ []) ∷ [],
              refl,
              tt,
              (
                going false 129 (1 ∷ 7 ∷ 5 ∷ 0 ∷ []) (omega arith),
                5 ∷ 0 ∷ [],
                first_read (5 ∷ 0 ∷ []),
                (going false 5 (0 ∷ []) (omega arith), [], second_read, (inl refl, refl)),
              ),
            ),
            (refl, refl),
          ),
        ),
      ),
    ),
  ),
)

-- A value of one octet under a tag of its own is written after the BOOLEAN.
written : (n : ℕ) → Bytes Der extensible (with_unknown ((n ∷ 1 ∷ 7 ∷ []) ∷ [])) (48 ∷ 6 ∷ 1 ∷ 1 ∷ 255 ∷ n ∷ 1 ∷ 7 ∷ [])
unfolding Bytes fields_of
written n = (
  number (pos 1) ∷ absent ∷ items (numbers (n ∷ 1 ∷ 7 ∷ []) ∷ []) ∷ [],
  (1 ∷ 1 ∷ 255 ∷ []) ∷ [] ∷ (n ∷ 1 ∷ 7 ∷ []) ∷ [],
  refl,
  (
    _,
    _,
    _,
    _,
    refl,
    refl,
    true_written,
    (
      _,
      _,
      _,
      _,
      refl,
      refl,
      inl (refl, refl),
      (
        _,
        _,
        _,
        _,
        refl,
        refl,
        (numbers (n ∷ 1 ∷ 7 ∷ []) ∷ [], (n ∷ 1 ∷ 7 ∷ []) ∷ [], refl, (n ∷ 1 ∷ 7 ∷ [], [], refl, refl, refl), refl),
        (refl, refl),
      ),
    ),
  ),
  short_written 16 true (1 ∷ 1 ∷ 255 ∷ n ∷ 1 ∷ 7 ∷ []) (omega arith) (omega arith),
)

first_is : (o : List ℕ) → BeginsUnknown (part required unknown none) (items (numbers (129 ∷ 1 ∷ 7 ∷ []) ∷ []) ∷ []) o → IsLeftOut der_form (one_tag (Some (contextual 0))) false o
first_is o (inl (e, us, f)) =
    let g : numbers (129 ∷ 1 ∷ 7 ∷ []) ≡ numbers o = cc in
    let h : ◌≡◌ {A = List ℕ} (129 ∷ 1 ∷ 7 ∷ []) o = cc in
    subst (IsLeftOut der_form (one_tag (Some (contextual 0))) false) h (number_left_out [])
first_is o (inr (d, b)) = absurd d

one_carried : IsCarriedAs Der extensible (with_unknown ((129 ∷ 1 ∷ 7 ∷ []) ∷ [])) (48 ∷ 6 ∷ 1 ∷ 1 ∷ 255 ∷ 129 ∷ 1 ∷ 7 ∷ [])
unfolding IsWithinLimits
one_carried = (
  record {
    octets = 48 ∷ 6 ∷ 1 ∷ 1 ∷ 255 ∷ 129 ∷ 1 ∷ 7 ∷ [];
    is = written 129;
    within_limits = (
      omega arith,
      number (pos 1) ∷ absent ∷ items (numbers (129 ∷ 1 ∷ 7 ∷ []) ∷ []) ∷ [],
      refl,
      (
        _,
        _,
        refl,
        tt,
        (
          _,
          _,
          refl,
          inl refl,
          (
            _,
            _,
            refl,
            (
              numbers (129 ∷ 1 ∷ 7 ∷ []) ∷ [],
              refl,
              (record { octets = 129 ∷ 1 ∷ 7 ∷ []; is = refl; tag = contextual 1; bit = false; contents = 7 ∷ []; frame = framed [] }, tt),
            ),
            refl,
          ),
        ),
      ),
      ((λ d o b. absurd d), ((λ d o b. first_is o b), ((λ d o b. absurd d), tt))),
    );
  },
  refl,
)

-- [0] is taken for the INTEGER.
taken : IsLeftOut der_form (one_tag (Some (contextual 0))) false (128 ∷ 1 ∷ 7 ∷ []) → ⊥
taken (inl h) = going false 128 (1 ∷ 7 ∷ []) (omega arith) h
taken (inr (n, next, d)) = d (next_one {other = der_form} (128 ∷ 1 ∷ 7 ∷ []) n (contextual 0) next (frame_next (context_frame 0 false (7 ∷ []) [] (omega arith) (omega arith))))

known_not_carried : Carried Der extensible (with_unknown ((128 ∷ 1 ∷ 7 ∷ []) ∷ [])) → ⊥
unfolding IsWithinLimits
known_not_carried c =
    let m = c.within_limits in
    let ts : List Tree = number (pos 1) ∷ absent ∷ items (numbers (128 ∷ 1 ∷ 7 ∷ []) ∷ []) ∷ [] in
    let e : ts ≡ m.1 = items_one ts m.1 m.2 in
    let h : NoneTaken Der (parts_in extensible) ts = subst (NoneTaken Der (parts_in extensible)) (sym e) m.4 in
    taken (h.1.0 refl (128 ∷ 1 ∷ 7 ∷ []) (inl (refl, items [], refl)))

pub worked : WorkedUnknown
worked = record {
  nothing_unknown = nothing_unknown;
  one_unknown = one_unknown;
  two_unknown = two_unknown;
  one_carried = one_carried;
  known_written = written 128;
  known_not_carried = known_not_carried;
}

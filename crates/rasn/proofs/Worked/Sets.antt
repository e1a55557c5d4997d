-- SET and SET OF with their octets.
use Rattle.std.proofs.Common.{◌≡◌, ℕ, ◌<◌, inl, inr, List, [], ◌∷◌, ◌++◌, None, pos, rules, true, false, ◌*◌, ◌+◌, refl, sym, ◌∙◌, subst, ap₂, arith}
use Rattle.rasn_types.specs.Tags.{in_universal, loose_form, IsTagBelow}
use Rattle.rasn_types.specs.declared.types.codec.Codec.{Codec}
use Rattle.rasn_types.specs.declared.types.codec.Codec.TheVariants.{Der}
use Rattle.rasn_types.specs.declared.types.tag.Tag.{Tag}
use Rattle.rasn_types.specs.declared.types.tag.Class.TheVariants.{Universal, Application, Context}
use Rattle.rasn_types.specs.Shapes.{number, numbers, items, set_elements, IsIn, integer, every, object_identifier, any, set, part, required}
use Rattle.rasn_types.specs.Shapes.Parts.{none}
use Rattle.rasn_types.specs.Contents.{signed}
use Rattle.rasn_types.specs.Trees.{unsigned_range}
use Rattle.rasn_types.specs.Bytes.{IsLess, AreAscending, PartsWritten, TagsOf, Bytes, fields_of, IsUntaggedOpen}
use Rattle.rasn_types.specs.Carried.{IsWithinLimits}
use Rattle.rasn_types.proofs.SetOf.Same.{items_one}
use Rattle.rasn_types.proofs.Headers.Frames.{begins_one}
use Rattle.rasn_types.proofs.Encoding.SameOctets.{once}
use Rattle.rasn.specs.WorkedShapes.{plain, contextual, tagged, small, three_of_set, turned_round, octets_in_set_of, relative_name, mixed}
use Rattle.rasn.specs.WorkedValues.{WorkedSets}
use Rattle.rasn.specs.Worked.{IsCarriedAs, one_two_three, three_two_one, rising_octets}
use Rattle.rasn.proofs.ReadBack.Taken.{none_taken}
use Rattle.rasn.proofs.ReadBack.Headers.{short, short_written, tag_begins, tag_written}
use Rattle.rasn.proofs.Worked.Values.{integer_written, octets_written, identifier_written, one_arc, bytes_of, list_of_nine}

small_written : (rule : Codec) (n o : ℕ) → n < 31 → o < 128 → IsIn (unsigned_range 8) (signed (o ∷ [])) → Bytes rule (small n) (number (signed (o ∷ []))) ((64 * 2 + (32 * 0 + n)) ∷ 1 ∷ o ∷ [])
small_written rule n o h k within = integer_written rule Context n (unsigned_range 8) o h k refl within

-- Tags that rise don't fall.
rises : (low high : ℕ) → low < high → IsTagBelow (contextual high) (contextual low) → ⊥
rises low high h (inl k) = omega (arith, k)
rises low high h (inr k) = omega (arith, h, k.1)

pub set_rises : IsCarriedAs Der three_of_set one_two_three rising_octets
unfolding Bytes fields_of IsWithinLimits IsUntaggedOpen
set_rises = (
  record {
    octets = rising_octets;
    is = (
      number (pos 1) ∷ number (pos 2) ∷ number (pos 3) ∷ [],
      (128 ∷ 1 ∷ 1 ∷ []) ∷ (129 ∷ 1 ∷ 2 ∷ []) ∷ (130 ∷ 1 ∷ 3 ∷ []) ∷ [],
      contextual 0 ∷ contextual 1 ∷ contextual 2 ∷ [],
      refl,
      (
        _,
        _,
        _,
        _,
        refl,
        refl,
        small_written Der 0 1 (omega arith) (omega arith) (search rules, search rules),
        (_, _, _, _, refl, refl, small_written Der 1 2 (omega arith) (omega arith) (search rules, search rules), (_, _, _, _, refl, refl, small_written Der 2 3 (omega arith) (omega arith) (search rules, search rules), (refl, refl))),
      ),
      ((λ z. absurd z), ((λ z. absurd z), ((λ z. absurd z), tt))),
      (_, _, refl, tag_begins Context 0 false _ (omega arith), (_, _, refl, tag_begins Context 1 false _ (omega arith), (_, _, refl, tag_begins Context 2 false _ (omega arith), refl))),
      (rises 0 1 (omega arith), (rises 1 2 (omega arith), tt)),
      short_written 17 true (128 ∷ 1 ∷ 1 ∷ 129 ∷ 1 ∷ 2 ∷ 130 ∷ 1 ∷ 3 ∷ []) (omega arith) (omega arith),
    );
    within_limits = (omega arith, number (pos 1) ∷ number (pos 2) ∷ number (pos 3) ∷ [], refl, (_, _, refl, tt, (_, _, refl, tt, (_, _, refl, tt, refl))));
  },
  refl,
)

small_once : (rule : Codec) (n o : ℕ) → n < 31 → o < 128 → IsIn (unsigned_range 8) (signed (o ∷ [])) → (b : List ℕ) → Bytes rule (small n) (number (signed (o ∷ []))) b → b ≡ (64 * 2 + (32 * 0 + n)) ∷ 1 ∷ o ∷ []
small_once rule n o h k within b w = once (small n) rule (number (signed (o ∷ []))) (number (signed (o ∷ []))) b ((64 * 2 + (32 * 0 + n)) ∷ 1 ∷ o ∷ []) refl w (small_written rule n o h k within)

falls : (rule : Codec) (bs : List (List ℕ)) (tags : List Tag) → PartsWritten (fields_of rule (part required (small 2) (part required (small 1) (part required (small 0) none))))
    (number (pos 3) ∷ number (pos 2) ∷ number (pos 1) ∷ []) bs → TagsOf bs tags → AreAscending IsTagBelow tags → ⊥
unfolding Bytes fields_of
falls rule bs tags (t, us, b, cs, e, f, w, (t', us', b', cs', e', f', w', rest)) firsts order =
    let p : number (pos 3) ≡ t = cc in
    let q : number (pos 2) ≡ t' = cc in
    let x = small_once rule 2 3 (omega arith) (omega arith) (search rules, search rules) b (subst (λ y. Bytes rule (small 2) y b) (sym p) w) in
    let z = small_once rule 1 2 (omega arith) (omega arith) (search rules, search rules) b' (subst (λ y. Bytes rule (small 1) y b') (sym q) w') in
    let g = subst (λ l. TagsOf l tags) (f ∙ ap₂ ◌∷◌ x (f' ∙ ap₂ ◌∷◌ z refl)) firsts in
    let k = g.4 in
    let u = begins_one (130 ∷ 1 ∷ 3 ∷ []) g.0 (contextual 2) g.3 (tag_begins Context 2 false (1 ∷ 3 ∷ []) (omega arith)) in
    let v = begins_one (129 ∷ 1 ∷ 2 ∷ []) k.0 (contextual 1) k.3 (tag_begins Context 1 false (1 ∷ 2 ∷ []) (omega arith)) in
    (subst (AreAscending IsTagBelow) (g.2 ∙ ap₂ ◌∷◌ u (k.2 ∙ ap₂ ◌∷◌ v refl)) order).0 (inr (refl, omega arith))

set_never_out_of_order : (rule : Codec) (b : List ℕ) → Bytes rule turned_round three_two_one b → ⊥
unfolding Bytes fields_of
set_never_out_of_order rule b (ts, bs, tags, e, w, bare, firsts, order, c) =
    falls rule bs tags (subst (λ l. PartsWritten (fields_of rule (part required (small 2) (part required (small 1) (part required (small 0) none)))) l bs)
    (sym (items_one (number (pos 3) ∷ number (pos 2) ∷ number (pos 1) ∷ []) ts e)) w) firsts order

-- What is greater in the first octet that differs isn't less.
greater : (front : List ℕ) (a b : ℕ) (x y : List ℕ) → a < b → IsLess (front ++ (b ∷ x)) (front ++ (a ∷ y)) → ⊥
greater [] a b x y h (inl k) = omega (arith, h, k)
greater [] a b x y h (inr k) = omega (arith, h, k.0)
greater (c ∷ front) a b x y h (inl k) = omega (arith, k)
greater (c ∷ front) a b x y h (inr k) = greater front a b x y h k.1

set_of_rises : IsCarriedAs Der octets_in_set_of (set_elements (items (numbers (1 ∷ []) ∷ numbers (2 ∷ []) ∷ numbers (1 ∷ 255 ∷ []) ∷ numbers (2 ∷ 1 ∷ []) ∷ [])))
    (49 ∷ 14 ∷ 4 ∷ 1 ∷ 1 ∷ 4 ∷ 1 ∷ 2 ∷ 4 ∷ 2 ∷ 1 ∷ 255 ∷ 4 ∷ 2 ∷ 2 ∷ 1 ∷ [])
unfolding Bytes fields_of IsWithinLimits
set_of_rises = (
  record {
    octets = 49 ∷ 14 ∷ 4 ∷ 1 ∷ 1 ∷ 4 ∷ 1 ∷ 2 ∷ 4 ∷ 2 ∷ 1 ∷ 255 ∷ 4 ∷ 2 ∷ 2 ∷ 1 ∷ [];
    is = (
      numbers (1 ∷ []) ∷ numbers (2 ∷ []) ∷ numbers (1 ∷ 255 ∷ []) ∷ numbers (2 ∷ 1 ∷ []) ∷ [],
      (4 ∷ 1 ∷ 1 ∷ []) ∷ (4 ∷ 1 ∷ 2 ∷ []) ∷ (4 ∷ 2 ∷ 1 ∷ 255 ∷ []) ∷ (4 ∷ 2 ∷ 2 ∷ 1 ∷ []) ∷ [],
      refl,
      tt,
      (
        _,
        _,
        refl,
        octets_written Der (1 ∷ []) (omega arith, tt) (omega arith),
        (
          _,
          _,
          refl,
          octets_written Der (2 ∷ []) (omega arith, tt) (omega arith),
          (
            _,
            _,
            refl,
            octets_written Der (1 ∷ 255 ∷ []) (omega arith, (omega arith, tt)) (omega arith),
            (_, _, refl, octets_written Der (2 ∷ 1 ∷ []) (omega arith, (omega arith, tt)) (omega arith), refl),
          ),
        ),
      ),
      (
        greater (4 ∷ 1 ∷ []) 1 2 [] [] (omega arith),
        (greater (4 ∷ []) 1 2 (1 ∷ 255 ∷ []) (2 ∷ []) (omega arith), (greater (4 ∷ 2 ∷ []) 1 2 (1 ∷ []) (255 ∷ []) (omega arith), tt)),
      ),
      short_written 17 true (4 ∷ 1 ∷ 1 ∷ 4 ∷ 1 ∷ 2 ∷ 4 ∷ 2 ∷ 1 ∷ 255 ∷ 4 ∷ 2 ∷ 2 ∷ 1 ∷ []) (omega arith) (omega arith),
    );
    within_limits = (
      omega arith,
      numbers (1 ∷ []) ∷ numbers (2 ∷ []) ∷ numbers (1 ∷ 255 ∷ []) ∷ numbers (2 ∷ 1 ∷ []) ∷ [],
      refl,
      ((tt, λ l e z. absurd z), ((tt, λ l e z. absurd z), ((tt, λ l e z. absurd z), ((tt, λ l e z. absurd z), tt)))),
    );
  },
  refl,
)

two_written : Bytes Der (set (in_universal 17) (part required (tagged (integer every) 0) (part required (tagged (integer every) 1) none))) (items (number (pos 1) ∷ number (pos 2) ∷ []))
    (49 ∷ 6 ∷ 128 ∷ 1 ∷ 1 ∷ 129 ∷ 1 ∷ 2 ∷ [])
unfolding Bytes fields_of IsUntaggedOpen
two_written = (
  number (pos 1) ∷ number (pos 2) ∷ [],
  (128 ∷ 1 ∷ 1 ∷ []) ∷ (129 ∷ 1 ∷ 2 ∷ []) ∷ [],
  contextual 0 ∷ contextual 1 ∷ [],
  refl,
  (
    _,
    _,
    _,
    _,
    refl,
    refl,
    integer_written Der Context 0 every 1 (omega arith) (omega arith) refl tt,
    (_, _, _, _, refl, refl, integer_written Der Context 1 every 2 (omega arith) (omega arith) refl tt, (refl, refl)),
  ),
  ((λ z. absurd z), ((λ z. absurd z), tt)),
  (_, _, refl, tag_begins Context 0 false _ (omega arith), (_, _, refl, tag_begins Context 1 false _ (omega arith), refl)),
  (rises 0 1 (omega arith), tt),
  short_written 17 true (128 ∷ 1 ∷ 1 ∷ 129 ∷ 1 ∷ 2 ∷ []) (omega arith) (omega arith),
)

all_in_set : IsCarriedAs Der mixed (items (items (number (pos 1) ∷ number (pos 2) ∷ []) ∷ number (pos 7) ∷ numbers (5 ∷ 0 ∷ []) ∷ items (number (pos 9) ∷ []) ∷ []))
    (49 ∷ 22 ∷ 49 ∷ 6 ∷ 128 ∷ 1 ∷ 1 ∷ 129 ∷ 1 ∷ 2 ∷ 64 ∷ 1 ∷ 7 ∷ 162 ∷ 2 ∷ 5 ∷ 0 ∷ 163 ∷ 5 ∷ 48 ∷ 3 ∷ 2 ∷ 1 ∷ 9 ∷ [])
unfolding Bytes fields_of IsWithinLimits IsUntaggedOpen
all_in_set = (
  record {
    octets = 49 ∷ 22 ∷ 49 ∷ 6 ∷ 128 ∷ 1 ∷ 1 ∷ 129 ∷ 1 ∷ 2 ∷ 64 ∷ 1 ∷ 7 ∷ 162 ∷ 2 ∷ 5 ∷ 0 ∷ 163 ∷ 5 ∷ 48 ∷ 3 ∷ 2 ∷ 1 ∷ 9 ∷ [];
    is = (
      items (number (pos 1) ∷ number (pos 2) ∷ []) ∷ number (pos 7) ∷ numbers (5 ∷ 0 ∷ []) ∷ items (number (pos 9) ∷ []) ∷ [],
      (49 ∷ 6 ∷ 128 ∷ 1 ∷ 1 ∷ 129 ∷ 1 ∷ 2 ∷ []) ∷ (64 ∷ 1 ∷ 7 ∷ []) ∷ (162 ∷ 2 ∷ 5 ∷ 0 ∷ []) ∷ (163 ∷ 5 ∷ 48 ∷ 3 ∷ 2 ∷ 1 ∷ 9 ∷ []) ∷ [],
      in_universal 17 ∷ record { class = Application; value = 0 } ∷ contextual 2 ∷ contextual 3 ∷ [],
      refl,
      (
        _,
        _,
        _,
        _,
        refl,
        refl,
        two_written,
        (
          _,
          _,
          _,
          _,
          refl,
          refl,
          integer_written Der Application 0 every 7 (omega arith) (omega arith) refl tt,
          (
            _,
            _,
            _,
            _,
            refl,
            refl,
            (5 ∷ 0 ∷ [], refl, inr ((λ e. cc), tag_written Context 2 true (5 ∷ 0 ∷ []) (omega arith) (omega arith))),
            (
              _,
              _,
              _,
              _,
              refl,
              refl,
              (48 ∷ 3 ∷ 2 ∷ 1 ∷ 9 ∷ [], bytes_of Der _ _ _ list_of_nine, tag_written Context 3 true (48 ∷ 3 ∷ 2 ∷ 1 ∷ 9 ∷ []) (omega arith) (omega arith)),
              (refl, refl),
            ),
          ),
        ),
      ),
      ((λ z. absurd z), ((λ z. absurd z), ((λ z. absurd z), ((λ z. absurd z), tt)))),
      (
        _,
        _,
        refl,
        tag_begins Universal 17 true _ (omega arith),
        (
          _,
          _,
          refl,
          tag_begins Application 0 false _ (omega arith),
          (_, _, refl, tag_begins Context 2 true _ (omega arith), (_, _, refl, tag_begins Context 3 true _ (omega arith), refl)),
        ),
      ),
      (class_rises, (class_rises_again, (rises 2 3 (omega arith), tt))),
      short_written 17 true (49 ∷ 6 ∷ 128 ∷ 1 ∷ 1 ∷ 129 ∷ 1 ∷ 2 ∷ 64 ∷ 1 ∷ 7 ∷ 162 ∷ 2 ∷ 5 ∷ 0 ∷ 163 ∷ 5 ∷ 48 ∷ 3 ∷ 2 ∷ 1 ∷ 9 ∷ []) (omega arith) (omega arith),
    );
    within_limits = (
      omega arith,
      items (number (pos 1) ∷ number (pos 2) ∷ []) ∷ number (pos 7) ∷ numbers (5 ∷ 0 ∷ []) ∷ items (number (pos 9) ∷ []) ∷ [],
      refl,
      (
        _,
        _,
        refl,
        (omega arith, number (pos 1) ∷ number (pos 2) ∷ [], refl, (_, _, refl, tt, (_, _, refl, tt, refl))),
        (
          _,
          _,
          refl,
          tt,
          (
            _,
            _,
            refl,
            record { octets = 5 ∷ 0 ∷ []; is = refl; tag = in_universal 5; bit = false; contents = []; frame = short {spelling = loose_form} 5 false [] [] (omega arith) (omega arith) (omega arith) },
            (_, _, refl, (omega arith, (omega arith, number (pos 9) ∷ [], refl, (tt, tt))), refl),
          ),
        ),
      ),
    );
  },
  refl,
)
  where
    class_rises : IsTagBelow (record { class = Application; value = 0 }) (in_universal 17) → ⊥
    class_rises (inl k) = omega (arith, k)
    class_rises (inr k) = omega (arith, k.0)

    class_rises_again : IsTagBelow (contextual 2) (record { class = Application; value = 0 }) → ⊥
    class_rises_again (inl k) = omega (arith, k)
    class_rises_again (inr k) = omega (arith, k.0)

one_name : IsCarriedAs Der relative_name (set_elements (items (items (numbers (2 ∷ 5 ∷ 4 ∷ 3 ∷ []) ∷ numbers (12 ∷ 2 ∷ 65 ∷ 66 ∷ []) ∷ []) ∷ [])))
    (49 ∷ 11 ∷ 48 ∷ 9 ∷ 6 ∷ 3 ∷ 85 ∷ 4 ∷ 3 ∷ 12 ∷ 2 ∷ 65 ∷ 66 ∷ [])
unfolding Bytes fields_of IsWithinLimits
one_name = (
  record {
    octets = 49 ∷ 11 ∷ 48 ∷ 9 ∷ 6 ∷ 3 ∷ 85 ∷ 4 ∷ 3 ∷ 12 ∷ 2 ∷ 65 ∷ 66 ∷ [];
    is = (
      items (numbers (2 ∷ 5 ∷ 4 ∷ 3 ∷ []) ∷ numbers (12 ∷ 2 ∷ 65 ∷ 66 ∷ []) ∷ []) ∷ [],
      (48 ∷ 9 ∷ 6 ∷ 3 ∷ 85 ∷ 4 ∷ 3 ∷ 12 ∷ 2 ∷ 65 ∷ 66 ∷ []) ∷ [],
      refl,
      tt,
      (
        48 ∷ 9 ∷ 6 ∷ 3 ∷ 85 ∷ 4 ∷ 3 ∷ 12 ∷ 2 ∷ 65 ∷ 66 ∷ [],
        [],
        refl,
        (
          numbers (2 ∷ 5 ∷ 4 ∷ 3 ∷ []) ∷ numbers (12 ∷ 2 ∷ 65 ∷ 66 ∷ []) ∷ [],
          (6 ∷ 3 ∷ 85 ∷ 4 ∷ 3 ∷ []) ∷ (12 ∷ 2 ∷ 65 ∷ 66 ∷ []) ∷ [],
          refl,
          (_, _, _, _, refl, refl, common_name, (_, _, _, _, refl, refl, refl, (refl, refl))),
          short_written 16 true (6 ∷ 3 ∷ 85 ∷ 4 ∷ 3 ∷ 12 ∷ 2 ∷ 65 ∷ 66 ∷ []) (omega arith) (omega arith),
        ),
        refl,
      ),
      tt,
      short_written 17 true (48 ∷ 9 ∷ 6 ∷ 3 ∷ 85 ∷ 4 ∷ 3 ∷ 12 ∷ 2 ∷ 65 ∷ 66 ∷ []) (omega arith) (omega arith),
    );
    within_limits = (
      omega arith,
      items (numbers (2 ∷ 5 ∷ 4 ∷ 3 ∷ []) ∷ numbers (12 ∷ 2 ∷ 65 ∷ 66 ∷ []) ∷ []) ∷ [],
      refl,
      (
        (
          omega arith,
          numbers (2 ∷ 5 ∷ 4 ∷ 3 ∷ []) ∷ numbers (12 ∷ 2 ∷ 65 ∷ 66 ∷ []) ∷ [],
          refl,
          (
            _,
            _,
            refl,
            tt,
            (
              _,
              _,
              refl,
              record {
                octets = 12 ∷ 2 ∷ 65 ∷ 66 ∷ [];
                is = refl;
                tag = in_universal 12;
                bit = false;
                contents = 65 ∷ 66 ∷ [];
                frame = short {spelling = loose_form} 12 false (65 ∷ 66 ∷ []) [] (omega arith) (omega arith) (omega arith);
              },
              refl,
            ),
          ),
          none_taken Der (part required (plain object_identifier 6) (part required (any None) none)) (numbers (2 ∷ 5 ∷ 4 ∷ 3 ∷ []) ∷ numbers (12 ∷ 2 ∷ 65 ∷ 66 ∷ []) ∷ []) refl,
        ),
        tt,
      ),
    );
  },
  refl,
)
  where
    common_name : Bytes Der (plain object_identifier 6) (numbers (2 ∷ 5 ∷ 4 ∷ 3 ∷ [])) (6 ∷ 3 ∷ 85 ∷ 4 ∷ 3 ∷ [])
    common_name = identifier_written Der ((85 ∷ []) ∷ (4 ∷ []) ∷ (3 ∷ []) ∷ []) 85 (4 ∷ 3 ∷ []) (
      85,
      4 ∷ 3 ∷ [],
      refl,
      one_arc 85 (omega arith),
      (λ e. omega arith),
      (4, 3 ∷ [], refl, one_arc 4 (omega arith), (λ e. omega arith), (3, [], refl, one_arc 3 (omega arith), (λ e. omega arith), refl)),
    )
        (omega arith, (omega arith, (omega arith, tt))) (omega arith)

pub worked : WorkedSets
worked = record { set_rises = set_rises; set_never_out_of_order = set_never_out_of_order; set_of_rises = set_of_rises; all_in_set = all_in_set; one_name = one_name }

-- Values nested as deep as they may be, and one deeper.
use Rattle.std.proofs.Common.{◌≡◌, ℕ, zero, suc, ◌*◌, ◌+◌, ◌-◌, ◌<◌, inl, inr, List, [], ◌∷◌, ◌++◌, length, Bool, true, false, refl, sym, ap, ◌∙◌, subst, arith, append_assoc, append-nil}
use Rattle.rasn_types.specs.Tags.{basic_form, in_universal}
use Rattle.rasn_types.specs.declared.types.codec.Codec.TheVariants.{Ber}
use Rattle.rasn_types.specs.Framing.{Frame, with_length, definite, indefinite, Ended}
use Rattle.rasn_types.specs.Shapes.{Tree, numbers, octet_string}
use Rattle.rasn_types.specs.Readings.{definite_form, indefinite_form, ReadsMany}
use Rattle.rasn_types.specs.Contents.{ReadsString, ReadsSegments, OctetSegment}
use Rattle.rasn_types.specs.Grammar.{Reads, parts_of}
use Rattle.rasn_types.proofs.Headers.Frames.{frame_one}
use Rattle.rasn.specs.Worked.{IsReadAs, IsRefusedBy}
use Rattle.rasn.specs.WorkedShapes.{plain}
use Rattle.rasn.specs.WorkedDepths.{nested_in, segments, lists, nested_lists, empty_in, WorkedDepths}
use Rattle.rasn.proofs.ReadBack.Headers.{short_id, short, without, going}
use Rattle.rasn.proofs.Worked.Nested.{sequences_128, sequences_129, sets_128, sets_129, prefixes_128, prefixes_129}

same_contents : (c d : List ℕ) → definite c ≡ definite d → c ≡ d
same_contents c d e = cc

segments_read : (n depth : ℕ) (rest : List ℕ) → n < depth → ReadsString Ber OctetSegment (in_universal 4) depth (in_universal 4) (segments (suc n) ++ rest) [] rest
unfolding nested_in
segments_read n zero rest h = absurd (omega (arith, h))
segments_read zero (suc depth) rest h = ReadsString.closed_segments (0 ∷ 0 ∷ rest) (λ s. s) (without 4 _ tt (omega arith) (omega arith)) (ReadsSegments.none (inr (refl, rest, refl)))
segments_read (suc n) (suc depth) rest h = ReadsString.closed_segments _ (λ s. s) (without 4 _ tt (omega arith) (omega arith)) (
    subst (λ l. ReadsSegments Ber OctetSegment (in_universal 4) depth true l [] (0 ∷ 0 ∷ rest)) (sym (append_assoc (segments (suc n)) (0 ∷ 0 ∷ []) rest))
    (ReadsSegments.one_more [] [] (0 ∷ 0 ∷ rest) (going true 36 _ (omega arith)) (segments_read n depth (0 ∷ 0 ∷ rest) (omega (arith, h))) (ReadsSegments.none (inr (refl, rest, refl))) refl)
    )

-- The frame of nested segments.
outer : (n : ℕ) (rest : List ℕ) → Frame basic_form (segments (suc n) ++ rest) (in_universal 4) true ((segments n ++ (0 ∷ 0 ∷ [])) ++ rest) indefinite
unfolding nested_in
outer n rest = without 4 _ tt (omega arith) (omega arith)

not_primitive : (n : ℕ) (rest c more : List ℕ) → Frame basic_form (segments (suc n) ++ rest) (in_universal 4) false more (definite c) → ⊥
not_primitive n rest c more f = let e = (frame_one _ (outer n rest) f).bit in cc

-- Segments in such a segment are nested one less deep.
inner_deep : (n depth : ℕ) (input xs rest more : List ℕ)
    → ((m : ℕ) (x l : List ℕ) → n ≡ suc m → ReadsString Ber OctetSegment (in_universal 4) depth (in_universal 4) (segments (suc m) ++ (0 ∷ 0 ∷ rest)) x l → m < depth)
    → ReadsSegments Ber OctetSegment (in_universal 4) depth true input xs more → input ≡ segments n ++ (0 ∷ 0 ∷ rest) → n < suc depth
unfolding nested_in
inner_deep zero depth input xs rest more deep m f = omega arith
inner_deep (suc n) depth input xs rest more deep (ReadsSegments.none e) f = absurd (going true 36 _ (omega arith) (subst (Ended true) f e))
inner_deep (suc n) depth input xs rest more deep (ReadsSegments.one_more first others middle e h m is) f =
    let i = deep n first middle refl (subst (λ l. ReadsString Ber OctetSegment (in_universal 4) depth (in_universal 4) l first middle) f h) in omega (arith, i)

segments_deep : (n depth : ℕ) (xs rest more : List ℕ) → ReadsString Ber OctetSegment (in_universal 4) depth (in_universal 4) (segments (suc n) ++ rest) xs more → n < depth
segments_deep n depth xs rest more (ReadsString.primitive c f g) = absurd (not_primitive n rest c more f)
segments_deep n (suc depth) xs rest more (ReadsString.segments c has f g) = let o = (frame_one _ (outer n rest) f).extent in absurd cc
segments_deep n (suc depth) xs rest more (ReadsString.closed_segments body has f g) =
    let o = (frame_one _ (outer n rest) f).rest in
    inner_deep n depth body xs rest (0 ∷ 0 ∷ more) (λ k x l e h. segments_deep k depth x (0 ∷ 0 ∷ rest) l h) g (sym o ∙ append_assoc (segments n) (0 ∷ 0 ∷ []) rest)

segments_128 : IsReadAs Ber (plain octet_string 4) (segments 128) (numbers []) []
unfolding Reads parts_of
segments_128 = (([], subst (λ l. ReadsString Ber OctetSegment (in_universal 4) 128 (in_universal 4) l [] []) (append-nil (segments 128)) (segments_read 127 128 [] (omega arith)), refl), tt)

segments_129 : IsRefusedBy Ber (plain octet_string 4) (segments 129)
unfolding Reads parts_of
segments_129 t rest ((octets, str, text), w) =
    let h = segments_deep 128 128 octets [] rest (subst (λ l. ReadsString Ber OctetSegment (in_universal 4) 128 (in_universal 4) l octets rest) (sym (append-nil (segments 129))) str) in omega (arith, h)

lists_length : (n : ℕ) → length (nested_lists n) ≡ 2 * n + 2
unfolding nested_lists
lists_length zero = refl
lists_length (suc n) = let i = lists_length n in omega (arith, i)

not_over : (n : ℕ) → Ended false (nested_lists n) → ⊥
unfolding nested_lists
not_over zero e = going false 48 _ (omega arith) e
not_over (suc n) e = going false 48 _ (omega arith) e

lists_read : (n depth : ℕ) (closing : Bool) (rest : List ℕ) → 2 * n < depth → n < 64 → Reads Ber (lists n) depth closing (nested_lists n ++ rest) (empty_in n) rest
unfolding Reads parts_of lists nested_lists empty_in
lists_read zero depth closing rest h k = (omega (arith, h), definite_form [] (short 16 true [] rest (omega arith) (omega arith) (omega arith)) ([], refl, tt, (inl refl, refl)))
lists_read (suc n) depth closing rest h k = (
  omega (arith, h),
  definite_form (nested_lists n) (short 16 true (nested_lists n) rest (omega arith) (omega arith) (omega (arith, lists_length n, k))) (
    empty_in n ∷ [],
    refl,
    tt,
    (
      not_over n,
      [],
      subst (λ l. Reads Ber (lists n) (depth - 2) false l (empty_in n) []) (append-nil (nested_lists n)) (lists_read n (depth - 2) false [] (omega (arith, h)) (omega (arith, k))),
      (inl refl, refl),
    ),
  ),
)

-- Contents that are nested lists are read as lists at the depth that is left.
many_deep : (n depth : ℕ) (c : List ℕ) (ts : List Tree) (rest : List ℕ)
    → ((t : Tree) (more : List ℕ) → Reads Ber (lists n) depth false (nested_lists n ++ []) t more → 2 * n < depth)
    → nested_lists n ≡ c → ReadsMany (Reads Ber (lists n) depth false) false c ts rest → 2 * n < depth
many_deep n depth c [] rest deep e (f, g) = absurd (not_over n (subst (Ended false) (sym e) f))
many_deep n depth c (t ∷ ts) rest deep e (f, middle, h, m) = deep t middle (subst (λ l. Reads Ber (lists n) depth false l t middle) (sym e ∙ sym (append-nil (nested_lists n))) h)

lists_deep : (n depth : ℕ) (closing : Bool) (rest : List ℕ) (t : Tree) (more : List ℕ) → n < 64 → Reads Ber (lists n) depth closing (nested_lists n ++ rest) t more → 2 * n < depth
unfolding Reads parts_of lists nested_lists
lists_deep zero depth closing rest t more k h = h.0
lists_deep (suc n) depth closing rest t more k (deep, definite_form c f (ts, e, a, m)) =
    let p = same_contents (nested_lists n) c (frame_one _ (short {spelling = basic_form} 16 true (nested_lists n) rest (omega arith) (omega arith) (omega (arith, lists_length n, k))) f).extent in
    let i = many_deep n (depth - 2) c ts [] (λ u v w. lists_deep n (depth - 2) false [] u v (omega (arith, k)) w) p m in
    omega (arith, i)
lists_deep (suc n) depth closing rest t more k (deep, indefinite_form body f g) =
    let o = (frame_one _ (short {spelling = basic_form} 16 true (nested_lists n) rest (omega arith) (omega arith) (omega (arith, lists_length n, k))) f).extent in absurd cc

lists_64 : IsReadAs Ber (lists 63) (nested_lists 63) (empty_in 63) []
lists_64 = subst (λ l. Reads Ber (lists 63) 128 true l (empty_in 63) []) (append-nil (nested_lists 63)) (lists_read 63 128 true [] (omega arith) (omega arith))

-- 30 81 80
long_list : Frame basic_form (48 ∷ 129 ∷ 128 ∷ nested_lists 63) (in_universal 16) true [] (definite (nested_lists 63))
long_list = with_length (48 ∷ []) (129 ∷ 128 ∷ []) (nested_lists 63) (short_id 16 true (omega arith) (omega arith))
    (inr (refl, omega arith, omega arith, lists_length 63, omega (arith, lists_length 63))) (λ s. absurd s) (ap (λ l. 48 ∷ 129 ∷ 128 ∷ l) (sym (append-nil (nested_lists 63))))

lists_65 : IsRefusedBy Ber (lists 64) (48 ∷ 129 ∷ 128 ∷ nested_lists 63)
unfolding Reads parts_of lists
lists_65 t rest (deep, definite_form c f (ts, e, a, m)) =
    let p = same_contents (nested_lists 63) c (frame_one _ long_list f).extent in
    let i = many_deep 63 126 c ts [] (λ u v w. lists_deep 63 126 false [] u v (omega arith) w) p m in
    omega (arith, i)
lists_65 t rest (deep, indefinite_form body f g) = let o = (frame_one _ long_list f).extent in cc

pub worked : WorkedDepths
worked = record {
  segments_128 = segments_128;
  segments_129 = segments_129;
  lists_64 = lists_64;
  lists_65 = lists_65;
  sequences_128 = sequences_128;
  sequences_129 = sequences_129;
  sets_128 = sets_128;
  sets_129 = sets_129;
  prefixes_128 = prefixes_128;
  prefixes_129 = prefixes_129;
}

-- Strings in segments that were worked out by hand.
use Rattle.std.proofs.Common.{◌≡◌, ℕ, suc, inl, inr, List, [], ◌∷◌, ◌++◌, map, true, false, refl, sym, ◌∙◌, subst, arith}
use Rattle.rasn_types.specs.Tags.{basic_form, in_universal}
use Rattle.rasn_types.specs.declared.types.codec.Codec.TheVariants.{Ber}
use Rattle.rasn_types.specs.Framing.{Frame, definite, NextTag}
use Rattle.rasn_types.specs.Shapes.{bits, numbers, bit_string, octet_string}
use Rattle.rasn_types.specs.Contents.{bits_of, joined_lists, ReadsString, primitive, segments, closed_segments, ReadsSegments, BitSegment, OctetSegment}
use Rattle.rasn_types.specs.Grammar.{Reads, parts_of}
use Rattle.rasn_types.proofs.Headers.Frames.{frame_one}
use Rattle.rasn.specs.Worked.{IsReadAs, IsRefusedBy, plain}
use Rattle.rasn.proofs.ReadBack.Headers.{short, without, going, no_next, octets_read, bits_read}
use Rattle.rasn.proofs.OneReading.Leaves.{str_one}
use Rattle.rasn.proofs.ReadBack.Begins.{str_next}

pub octets_in_segments : IsReadAs Ber (plain octet_string 4)
    (36 ∷ 128 ∷ 4 ∷ 1 ∷ 161 ∷ 36 ∷ 3 ∷ 4 ∷ 1 ∷ 178 ∷ 36 ∷ 128 ∷ 4 ∷ 1 ∷ 195 ∷ 0 ∷ 0 ∷ 0 ∷ 0 ∷ []) (numbers (161 ∷ 178 ∷ 195 ∷ [])) []
unfolding Reads parts_of
octets_in_segments = (
  (
    (161 ∷ 178 ∷ 195 ∷ []),
    closed_segments _ (λ s. s) (without 4 _ tt (omega arith) (omega arith)) (
        ReadsSegments.one_more (161 ∷ []) (178 ∷ 195 ∷ []) _ (going true 4 _ (omega arith)) (octets_read Ber 4 (161 ∷ []) _ 127 (omega arith) (omega arith) (omega arith)) (
        ReadsSegments.one_more (178 ∷ []) (195 ∷ []) _ (going true 36 _ (omega arith)) (
        segments (4 ∷ 1 ∷ 178 ∷ []) (λ s. s) (short 4 true (4 ∷ 1 ∷ 178 ∷ []) _ (omega arith) (omega arith) (omega arith)) (
        ReadsSegments.one_more (178 ∷ []) [] [] (going false 4 _ (omega arith)) (octets_read Ber 4 (178 ∷ []) [] 126 (omega arith) (omega arith) (omega arith)) (ReadsSegments.none (inl refl)) refl
        )
        ) (
        ReadsSegments.one_more (195 ∷ []) [] _ (going true 36 _ (omega arith)) (
        closed_segments _ (λ s. s) (without 4 _ tt (omega arith) (omega arith)) (
        ReadsSegments.one_more (195 ∷ []) [] (0 ∷ 0 ∷ 0 ∷ 0 ∷ []) (going true 4 _ (omega arith)) (octets_read Ber 4 (195 ∷ []) _ 126 (omega arith) (omega arith) (omega arith))
        (ReadsSegments.none (inr (refl, 0 ∷ 0 ∷ [], refl))) refl
        )
        ) (ReadsSegments.none (inr (refl, [], refl))) refl
        ) refl
        ) refl
        ),
    refl,
  ),
  tt,
)

first_bits : BitSegment (0 ∷ 10 ∷ 59 ∷ []) (joined_lists (map bits_of (10 ∷ 59 ∷ [])))
first_bits = record { octets = 10 ∷ 59 ∷ []; unused = []; is = refl; few = omega arith; all = refl }

last_bits : BitSegment (4 ∷ 95 ∷ 41 ∷ 28 ∷ 208 ∷ []) (joined_lists (map bits_of (95 ∷ 41 ∷ 28 ∷ [])) ++ (true ∷ true ∷ false ∷ true ∷ []))
last_bits = record { octets = 95 ∷ 41 ∷ 28 ∷ 208 ∷ []; unused = false ∷ false ∷ false ∷ false ∷ []; is = refl; few = omega arith; all = refl }

pub bits_in_segments : IsReadAs Ber (plain bit_string 3)
    (35 ∷ 128 ∷ 3 ∷ 3 ∷ 0 ∷ 10 ∷ 59 ∷ 3 ∷ 5 ∷ 4 ∷ 95 ∷ 41 ∷ 28 ∷ 208 ∷ 0 ∷ 0 ∷ [])
    (bits (joined_lists (map bits_of (10 ∷ 59 ∷ 95 ∷ 41 ∷ 28 ∷ [])) ++ (true ∷ true ∷ false ∷ true ∷ []))) []
unfolding Reads parts_of
bits_in_segments = (
  (
    joined_lists (map bits_of (10 ∷ 59 ∷ 95 ∷ 41 ∷ 28 ∷ [])) ++ (true ∷ true ∷ false ∷ true ∷ []),
    refl,
    omega arith,
    closed_segments _ (λ s. s) (without 3 _ tt (omega arith) (omega arith)) (
        ReadsSegments.one_more (joined_lists (map bits_of (10 ∷ 59 ∷ []))) (joined_lists (map bits_of (95 ∷ 41 ∷ 28 ∷ [])) ++ (true ∷ true ∷ false ∷ true ∷ [])) _ (going true 3 _ (omega arith))
        (bits_read Ber 3 (0 ∷ 10 ∷ 59 ∷ []) _ _ 127 (omega arith) (omega arith) (omega arith) (first_bits, λ z. absurd z)) (
        ReadsSegments.one_more (joined_lists (map bits_of (95 ∷ 41 ∷ 28 ∷ [])) ++ (true ∷ true ∷ false ∷ true ∷ [])) [] _ (going true 3 _ (omega arith))
        (bits_read Ber 3 (4 ∷ 95 ∷ 41 ∷ 28 ∷ 208 ∷ []) _ _ 127 (omega arith) (omega arith) (omega arith) (last_bits, λ z. absurd z)) (ReadsSegments.none (inr (refl, [], refl))) refl
        ) refl
        ),
  ),
  tt,
)

pub zeros_in_definite_string : IsRefusedBy Ber (plain octet_string 4) (36 ∷ 5 ∷ 4 ∷ 1 ∷ 161 ∷ 0 ∷ 0 ∷ [])
unfolding Reads parts_of
zeros_in_definite_string t rest ((octets, str, text), w) = no_string 128 octets rest str
  where
    known : Frame basic_form (36 ∷ 5 ∷ 4 ∷ 1 ∷ 161 ∷ 0 ∷ 0 ∷ []) (in_universal 4) true [] (definite (4 ∷ 1 ∷ 161 ∷ 0 ∷ 0 ∷ []))
    known = short 4 true (4 ∷ 1 ∷ 161 ∷ 0 ∷ 0 ∷ []) [] (omega arith) (omega arith) (omega arith)

    -- Two zeros don't end definite contents, and no segment begins with them.
    behind : (depth : ℕ) (input xs rest : List ℕ) → ReadsSegments Ber OctetSegment (in_universal 4) depth false input xs rest → input ≡ 0 ∷ 0 ∷ [] → rest ≡ [] → ⊥
    behind depth input xs rest (ReadsSegments.none e) f g = cc
    behind depth input xs rest (ReadsSegments.one_more first others middle n s more is) f g =
        no_next basic_form (in_universal 4) (subst (λ l. NextTag basic_form l (in_universal 4)) f (str_next Ber OctetSegment (in_universal 4) depth (in_universal 4) input first middle s))

    held : (depth : ℕ) (input xs rest : List ℕ) → ReadsSegments Ber OctetSegment (in_universal 4) depth false input xs rest → input ≡ 4 ∷ 1 ∷ 161 ∷ 0 ∷ 0 ∷ [] → rest ≡ [] → ⊥
    held depth input xs rest (ReadsSegments.none e) f g = cc
    held depth input xs rest (ReadsSegments.one_more x others m n h more is) f g =
        let o = str_one Ber OctetSegment (λ l a b p q. p ∙ sym q) (in_universal 4) depth (in_universal 4) (4 ∷ 1 ∷ 161 ∷ 0 ∷ 0 ∷ []) x (161 ∷ []) m (0 ∷ 0 ∷ [])
        (subst (λ l. ReadsString Ber OctetSegment (in_universal 4) depth (in_universal 4) l x m) f h) (octets_read Ber 4 (161 ∷ []) (0 ∷ 0 ∷ []) depth (omega arith) (omega arith) (omega arith)) in
        behind depth m others rest more o.1 g

    no_string : (depth : ℕ) (xs rest : List ℕ) → ReadsString Ber OctetSegment (in_universal 4) depth (in_universal 4) (36 ∷ 5 ∷ 4 ∷ 1 ∷ 161 ∷ 0 ∷ 0 ∷ []) xs rest → ⊥
    no_string depth xs rest (primitive c f g) = let e = (frame_one _ known f).bit in cc
    no_string (suc depth) xs rest (segments c has f m) =
        let o : definite (4 ∷ 1 ∷ 161 ∷ 0 ∷ 0 ∷ []) ≡ definite c = (frame_one _ known f).extent in
        let p : c ≡ 4 ∷ 1 ∷ 161 ∷ 0 ∷ 0 ∷ [] = cc in
        held depth c xs [] m p refl
    no_string depth xs rest (closed_segments c has f m) = let o = (frame_one _ known f).extent in cc

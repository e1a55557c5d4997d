-- Where CER cuts strings, and which collections are the same, worked out by hand.
use Rattle.std.proofs.Common.{◌≡◌, ℕ, suc, ◌+◌, ◌*◌, ◌<◌, inl, inr, List, [], ◌∷◌, ◌++◌, length, map, Bool, false, refl, sym, ap, ap₂, ◌∙◌, subst, arith, append_assoc, length-append}
use Rattle.std.proofs.lemmas.List.Sorted.{IsPermutation-swap}
use Rattle.rasn_types.specs.Tags.{in_universal}
use Rattle.rasn_types.specs.declared.types.codec.Codec.TheVariants.{Cer}
use Rattle.rasn_types.specs.Shapes.{bits, numbers, items, set_elements, bit_string, octet_string}
use Rattle.rasn_types.specs.Contents.{bits_of, joined_lists}
use Rattle.rasn_types.specs.Bytes.{Same, DefiniteForm, Bytes, fields_of, Each, AreCut, WrittenBits, WritesOctets}
use Rattle.rasn_types.proofs.Encoding.Determined.{definite_one, cons_one, Piece, numbers_one}
use Rattle.rasn_types.proofs.Headers.Frames.{split_one}
use Rattle.rasn.specs.Worked.{plain, octets_each, IsLongPiece, AreTwoPieces}
use Rattle.rasn.proofs.ReadBack.Headers.{short_written, closed_written}

pub sets_of_in_any_order : Same (set_elements (octets_each 2 1)) (set_elements (octets_each 1 2))
sets_of_in_any_order = (
  numbers (2 ∷ []) ∷ numbers (1 ∷ []) ∷ [],
  numbers (1 ∷ []) ∷ numbers (2 ∷ []) ∷ [],
  refl,
  IsPermutation-swap _ _ 0 1 (omega arith) (omega arith) refl,
  (numbers (2 ∷ []), items (numbers (1 ∷ []) ∷ []), refl, refl, (numbers (1 ∷ []), items [], refl, refl, refl)),
)

pub lists_in_order : Same (octets_each 2 1) (octets_each 1 2) → ⊥
lists_in_order (v, vs, e, s, h) =
    let f : numbers (1 ∷ []) ≡ numbers (2 ∷ []) = cc in
    let g : ◌≡◌ {A = List ℕ} (1 ∷ []) (2 ∷ []) = numbers_one (1 ∷ []) (2 ∷ []) f in
    let k : ◌≡◌ {A = ℕ} 1 2 = cc in
    omega arith

-- a header before 1000 octets
pub long_written : (n : ℕ) (contents : List ℕ) → n < 31 → length contents ≡ 1000 → DefiniteForm (in_universal n) false contents (n ∷ 130 ∷ 3 ∷ 232 ∷ contents)
long_written n contents k e = record {
  id = n ∷ [];
  len = 130 ∷ 3 ∷ 232 ∷ [];
  id_spells = record { low = n; leading = omega arith; number = inl (k, refl, refl) };
  id_shortest = tt;
  id_octets = (omega arith, tt);
  len_spells = inr (refl, omega arith, omega arith, e, omega arith);
  len_shortest = (omega arith, λ z. omega arith);
  len_octets = (omega arith, (omega arith, (omega arith, tt)));
  is = refl;
}

one_octet : (l : List ℕ) → length l ≡ 1 → (last : ℕ) × (l ≡ last ∷ [])
one_octet [] e = absurd (omega arith)
one_octet (a ∷ []) e = (a, refl)
one_octet (a ∷ b ∷ l) e = absurd (omega arith)

-- What is more than one piece holds, and less than two hold, is cut in two.
record Two {X : Type 0} (size more : ℕ) (ps : List (List X)) : Type 0 where
  pub first : List X
  pub second : List X
  pub are : ps ≡ first ∷ second ∷ []
  pub full : length first ≡ size
  pub left : length second ≡ more

two_pieces : {X : Type 0} (size more : ℕ) (ps : List (List X)) → 0 < more → more < size → AreCut size ps → length (joined_lists ps) ≡ size + more → Two size more ps
two_pieces size more [] some few h e = absurd h
two_pieces size more (p ∷ []) some few h e = absurd (omega (arith, length-append p [], h.1))
two_pieces size more (p ∷ q ∷ []) some few h e =
    record { first = p; second = q; are = refl; full = h.0; left = omega (arith, length-append p (q ++ []), length-append q [], h.0) }
two_pieces size more (p ∷ q ∷ r ∷ ps) some few h e =
    absurd (omega (arith, length-append p (joined_lists (q ∷ r ∷ ps)), length-append q (joined_lists (r ∷ ps)), h.0, h.1.0))

both : {X : Type 0} (P : List X → List ℕ → Type 0) (p q : List X) (ls : List (List ℕ)) → Each P (p ∷ q ∷ []) ls
    → (a : List ℕ) × (b : List ℕ) × (ls ≡ a ∷ b ∷ []) × P p a × P q b
both P p q ls (a, more, e, x, (b, none, f, y, g)) = (a, b, e ∙ ap (λ l. a ∷ l) (f ∙ ap (λ l. b ∷ l) g), x, y)

bits_length : (l : List ℕ) → length (joined_lists (map bits_of l)) ≡ 8 * length l
bits_length [] = refl
bits_length (a ∷ l) = let i = bits_length l in omega (arith, i)

-- Whole octets of bits have no bits unused.
whole_octets : (p : List Bool) (c : List ℕ) (n : ℕ) → WrittenBits p c → length p ≡ 8 * n → (octets : List ℕ) × (length octets ≡ n) × (c ≡ 0 ∷ octets)
whole_octets p c n w e =
    let s = w.is in
    let few = s.few in
    let f : length p + length s.unused ≡ 8 * length s.octets = sym (length-append p s.unused) ∙ (ap length s.all ∙ bits_length s.octets) in
    let z : length s.unused ≡ 0 = omega arith in
    (s.octets, omega arith, s.is ∙ ap (λ u. u ∷ s.octets) z)

long_piece : (p : List Bool) (b : List ℕ) → length p ≡ 7992 → Piece WrittenBits (in_universal 3) p b → IsLongPiece b
long_piece p b e (c, w, d) =
    let s = whole_octets p c 999 w e in
    (s.0, s.1, definite_one (in_universal 3) false c (0 ∷ s.0) b (3 ∷ 130 ∷ 3 ∷ 232 ∷ 0 ∷ s.0) d (long_written 3 (0 ∷ s.0) (omega arith) (ap suc s.1)) s.2)

last_piece : (p : List Bool) (b : List ℕ) → length p ≡ 8 → Piece WrittenBits (in_universal 3) p b → (last : ℕ) × (b ≡ 3 ∷ 2 ∷ 0 ∷ last ∷ [])
last_piece p b e (c, w, d) =
    let s = whole_octets p c 1 w e in
    let o = one_octet s.0 s.1 in
    (o.0, definite_one (in_universal 3) false c (0 ∷ o.0 ∷ []) b (3 ∷ 2 ∷ 0 ∷ o.0 ∷ []) d (short_written 3 false (0 ∷ o.0 ∷ []) (omega arith) (omega arith)) (s.2 ∙ ap (λ l. 0 ∷ l) o.1))

bits_same : (k l : List Bool) → bits k ≡ bits l → k ≡ l
bits_same k l e = cc

pub bits_in_one : (bs : List Bool) (b : List ℕ) → length bs ≡ 7992 → Bytes Cer (plain bit_string 3) (bits bs) b → IsLongPiece b
unfolding Bytes fields_of
bits_in_one bs b n (bounded, (cs, e, inl (short, k, w, d))) = long_piece cs b (ap length (sym (bits_same bs cs e)) ∙ n) (k, w, d)
bits_in_one bs b n (bounded, (cs, e, inr h)) = let m = ap length (bits_same bs cs e) in absurd (omega (arith, h.1))

pub bits_in_two : (bs : List Bool) (b : List ℕ) → length bs ≡ 8000 → Bytes Cer (plain bit_string 3) (bits bs) b → AreTwoPieces b
unfolding Bytes fields_of
bits_in_two bs b n (bounded, (cs, e, inl (short, k, w, d))) = let m = ap length (bits_same bs cs e) in absurd (omega (arith, short tt))
bits_in_two bs b n (bounded, (cs, e, inr (cut, long, ps, ls, g, sizes, each, c))) =
    let t = two_pieces 7992 8 ps (omega arith) (omega arith) sizes (ap length (sym g ∙ sym (bits_same bs cs e)) ∙ n) in
    let r = both (Piece WrittenBits (in_universal 3)) t.first t.second ls (subst (λ z. Each (Piece WrittenBits (in_universal 3)) z ls) t.are each) in
    let x = long_piece t.first r.0 t.full r.3 in
    let y = last_piece t.second r.1 t.left r.4 in
    let j : joined_lists ls ≡ (3 ∷ 130 ∷ 3 ∷ 232 ∷ 0 ∷ x.0) ++ (3 ∷ 2 ∷ 0 ∷ y.0 ∷ []) = ap joined_lists r.2 ∙ ap₂ (λ k l. k ++ (l ++ [])) x.2 y.1 in (
      x.0,
      y.0,
      x.1,
      cons_one Cer (in_universal 3) (joined_lists ls) ((3 ∷ 130 ∷ 3 ∷ 232 ∷ 0 ∷ x.0) ++ (3 ∷ 2 ∷ 0 ∷ y.0 ∷ [])) b _ c (closed_written 3 _ (omega arith)) j
          ∙ ap (λ l. 35 ∷ 128 ∷ 3 ∷ 130 ∷ 3 ∷ 232 ∷ 0 ∷ l) (append_assoc x.0 (3 ∷ 2 ∷ 0 ∷ y.0 ∷ []) (0 ∷ 0 ∷ [])),
    )

octets_piece : (p b : List ℕ) → length p ≡ 1000 → Piece WritesOctets (in_universal 4) p b → b ≡ 4 ∷ 130 ∷ 3 ∷ 232 ∷ p
octets_piece p b e (c, w, d) = definite_one (in_universal 4) false c p b (4 ∷ 130 ∷ 3 ∷ 232 ∷ p) d (long_written 4 p (omega arith) e) w.0

octet_piece : (p b : List ℕ) → length p ≡ 1 → Piece WritesOctets (in_universal 4) p b → b ≡ 4 ∷ 1 ∷ p
octet_piece p b e (c, w, d) =
    definite_one (in_universal 4) false c p b (4 ∷ length p ∷ p) d (short_written 4 false p (omega arith) (omega arith)) w.0 ∙ ap (λ n. 4 ∷ n ∷ p) e

pub octets_in_one : (front b : List ℕ) → length front ≡ 1000 → Bytes Cer (plain octet_string 4) (numbers front) b → b ≡ 4 ∷ 130 ∷ 3 ∷ 232 ∷ front
unfolding Bytes fields_of
octets_in_one front b n (bounded, (l, e, inl (short, k, w, d))) =
    let f = numbers_one front l e in octets_piece l b (ap length (sym f) ∙ n) (k, w, d) ∙ ap (λ l. 4 ∷ 130 ∷ 3 ∷ 232 ∷ l) (sym f)
octets_in_one front b n (bounded, (l, e, inr h)) = let m = ap length (numbers_one front l e) in absurd (omega (arith, h.1))

pub octets_in_two : (front : List ℕ) (last : ℕ) (b : List ℕ) → length front ≡ 1000 → Bytes Cer (plain octet_string 4) (numbers (front ++ (last ∷ []))) b
    → b ≡ 36 ∷ 128 ∷ 4 ∷ 130 ∷ 3 ∷ 232 ∷ (front ++ (4 ∷ 1 ∷ last ∷ 0 ∷ 0 ∷ []))
unfolding Bytes fields_of
octets_in_two front last b n (bounded, (l, e, inl (short, k, w, d))) =
    let m = ap length (numbers_one (front ++ (last ∷ [])) l e) in absurd (omega (arith, length-append front (last ∷ []), short tt))
octets_in_two front last b n (bounded, (l, e, inr (cut, long, ps, ls, g, sizes, each, c))) =
    let f = numbers_one (front ++ (last ∷ [])) l e in
    let t = two_pieces 1000 1 ps (omega arith) (omega arith) sizes (ap length (sym g ∙ sym f) ∙ (length-append front (last ∷ []) ∙ ap (λ k. k + 1) n)) in
    let r = both (Piece WritesOctets (in_universal 4)) t.first t.second ls (subst (λ z. Each (Piece WritesOctets (in_universal 4)) z ls) t.are each) in
    let x = octets_piece t.first r.0 t.full r.3 in
    let y = octet_piece t.second r.1 t.left r.4 in
    let s = split_one t.first front (t.second ++ []) (last ∷ []) (t.full ∙ sym n) (ap joined_lists (sym t.are) ∙ (sym g ∙ sym f)) in
    let z : joined_lists ls ≡ (4 ∷ 130 ∷ 3 ∷ 232 ∷ front) ++ (4 ∷ 1 ∷ last ∷ []) =
    ap joined_lists r.2 ∙ (ap₂ (λ k l. k ++ (l ++ [])) x y ∙ ap₂ (λ k l. (4 ∷ 130 ∷ 3 ∷ 232 ∷ k) ++ (4 ∷ 1 ∷ l)) s.0 s.1) in
    cons_one Cer (in_universal 4) (joined_lists ls) ((4 ∷ 130 ∷ 3 ∷ 232 ∷ front) ++ (4 ∷ 1 ∷ last ∷ [])) b _ c (closed_written 4 _ (omega arith)) z
    ∙ ap (λ l. 36 ∷ 128 ∷ 4 ∷ 130 ∷ 3 ∷ 232 ∷ l) (append_assoc front (4 ∷ 1 ∷ last ∷ []) (0 ∷ 0 ∷ []))

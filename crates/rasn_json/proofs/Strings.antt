-- Each JSON string and each number is read in one way.
use Rattle.std.proofs.Common.{◌≡◌, ◌≢◌, ℕ, zero, suc, ◌/◌, ◌%◌, ◌^◌, ◌<◌, ℤ, pos, neg_ℤ, List, [], ◌∷◌, ◌++◌, Bool, true, ◌&&◌, ◌==◌, length, get_or, All, Some, Ok, inl, inr, refl, sym, ap, ap₂, ◌∙◌, subst, arith, decimal}
use Rattle.std.specs.Prelude.{encode_utf8_all, slice_index}
use Rattle.std.specs.List.{flat_map}
use Rattle.std.specs.Char.Escape.{encode_utf16}
use Rattle.std.specs.Str.Parse.{IsNumeral, digits_value}
use Rattle.std.proofs.lemmas.Bool.{and_parts, cases_lt, eqb-true}
use Rattle.std.proofs.lemmas.Int.{ints}
use Rattle.std.proofs.lemmas.List.Elements.{All-head, All-tail}
use Rattle.std.proofs.lemmas.Str.{encodes_same}
use Rattle.std.proofs.lemmas.Str.Parse.{not_in_digits}
use Rattle.std.proofs.lemmas.Fmt.{digits_decimal, digits_value-decimal, decimal_injective, decimal_nonempty}
use Rattle.json.specs.Json.{Json, string}
use Rattle.json.specs.Find.{as_str}
use Rattle.hex.specs.Hex.{decode_of, encode_upper, encode_with, upper_digits}
use Rattle.hex.proofs.HexLemmas.{decode_of-encode_upper}
use Rattle.std.specs.Fmt.{digit_glyph}
use Rattle.rasn_types.specs.Framing.{AreOctets}
use Rattle.rasn_types.specs.CharacterString.{units_of}
use Rattle.rasn_types.specs.declared.ber.time.text.Fields.{Fields}
use Rattle.rasn_types.specs.Calendar.{Moment, Stamp}
use Rattle.rasn_types.specs.Time.{TimeText, GeneralUtc, GeneralGeneralized, at_utc, both, fields_of, written_generalized, written_utc}
use Rattle.rasn_types.specs.Text.{dotted, hexadecimal, point_and_arc, IsSmall}
use Rattle.rasn_schema.specs.Relative.{held_arcs}
use Rattle.rasn_types.proofs.Dotted.{own, wide}
use Rattle.rasn.proofs.LawsHold.Grammar.{one_meaning}
use Rattle.rasn.proofs.ReadBack.Written.{generalized_read_back, utc_read_back}
use Rattle.rasn_schema.specs.declared.types.LeafKind.{LeafKind}
use Rattle.rasn_schema.specs.declared.types.LeafKind.TheVariants.{UtcTime}
use Rattle.rasn_json.specs.Decimal.{IsWhole}
use Rattle.rasn_json.specs.Json.{HexadecimalJson}
use Rattle.rasn_json.specs.Reading.{HexadecimalRead}
use Rattle.rasn_json.specs.Texts.{InstantText, WrittenInstant, UnitsText, ArcsText, RelativeText}
use Rattle.rasn_json.proofs.LowFirst.{digits_of_octets}

pub one_string : (s t : List ℕ) (j : Json) → j ≡ string s → as_str j ≡ Some t → s ≡ t
one_string s t j e f = let g : Some s ≡ Some t = sym (ap as_str e) ∙ f in cc

-- ---- hexadecimal digits

abbrev same_below : ℕ → Bool
same_below zero = true
same_below (suc n) = (digit_glyph true n == slice_index upper_digits n) && same_below n

same_digit : (n k : ℕ) → same_below n ≡ true → k < n → digit_glyph true k ≡ slice_index upper_digits k
same_digit zero k h lt = absurd (omega arith)
same_digit (suc n) k h lt =
    let parts = and_parts (digit_glyph true n == slice_index upper_digits n) (same_below n) h in
    elim (cases_lt k n) [
      | inl below ↦ same_digit n k parts.1 below
      | inr top ↦
          let e : k ≡ n = omega arith in
          rw e (eqb-true (digit_glyph true n) (slice_index upper_digits n) parts.0)
    ]

-- The two ways to say which digits octets have are the same.
pub in_capitals : (o : List ℕ) → AreOctets o → hexadecimal o ≡ encode_upper o
unfolding encode_with
in_capitals [] h = refl
in_capitals (b ∷ o) h =
    let small = h.0 in
    let high = same_digit 16 (b / 16) refl (omega arith) in
    let low = same_digit 16 (b % 16) refl (omega arith) in
    ap (λ x. x ∷ digit_glyph true (b % 16) ∷ hexadecimal o) high ∙ (ap (λ x. slice_index upper_digits (b / 16) ∷ x ∷ hexadecimal o) low ∙ ap (λ l. slice_index upper_digits (b / 16) ∷ slice_index upper_digits (b % 16) ∷ l) (in_capitals o h.1))

pub digits_again : (o : List ℕ) → AreOctets o → decode_of (hexadecimal o) ≡ Ok o
digits_again o h = ap decode_of (in_capitals o h) ∙ decode_of-encode_upper o (digits_of_octets o h)

pub octets_once : (o p : List ℕ) (j : Json) → HexadecimalJson o j → HexadecimalRead j p → o ≡ p
octets_once o p j (h, e) (s, f, d) =
    let g : Ok o ≡ decode_of s = sym (digits_again o h) ∙ ap decode_of (one_string (hexadecimal o) s j e f) in
    let k = g ∙ d in cc

-- ---- characters

pub characters_once : (o p : List ℕ) (j : Json) → j ≡ string (encode_utf8_all o) → as_str j ≡ Some (encode_utf8_all p) → o ≡ p
characters_once o p j e f = encodes_same o p (one_string (encode_utf8_all o) (encode_utf8_all p) j e f)

pub units_once : (s o p : List ℕ) → UnitsText s o → UnitsText s p → units_of o ≡ units_of p
units_once s o p (u, (cs, a, e)) (v, (ds, b, f)) = a ∙ (ap (flat_map encode_utf16) (encodes_same cs ds (sym e ∙ f)) ∙ sym b)

-- ---- whole numbers

no_sign : (ds : List ℕ) → IsNumeral 10 (45 ∷ ds) → ⊥
no_sign ds h = let d = h.1.0 in absurd (omega (arith, d))

pub whole_once : (s : List ℕ) (n m : ℤ) → IsWhole s n → IsWhole s m → n ≡ m
whole_once s n m (inl a) (inl b) = a.1 ∙ sym b.1
whole_once s n m (inl a) (inr (ds, e, b)) = absurd (no_sign ds (subst (IsNumeral 10) e a.0))
whole_once s n m (inr (ds, e, a)) (inl b) = absurd (no_sign ds (subst (IsNumeral 10) e b.0))
whole_once s n m (inr (ds, e, a)) (inr (es, f, b)) =
    let g : ds ≡ es = cc in
    a.1 ∙ (ap (λ l. neg_ℤ (pos (digits_value 10 l))) g ∙ sym b.1)

pub count_once : (n k : ℕ) → n < 2 ^ 64 → IsWhole (decimal n) (pos k) → k ≡ n
count_once n k h (inl a) = omega (arith, ints, a.1, digits_value-decimal own n h)
count_once n k h (inr (ds, e, a)) = absurd (no_sign ds (subst (IsNumeral 10) e (decimal_nonempty n h, own.to (decimal n) (digits_decimal own n h))))

-- ---- arcs

abbrev Lacks : List ℕ → Type 0
Lacks l = (i : ℕ) → i < length l → get_or l i 0 ≢ 46

-- Nothing follows, or a point.
abbrev Ends : List ℕ → Type 0
Ends [] = Unit {0}
Ends (x ∷ l) = x ≡ 46

cut_once : (p q r s : List ℕ) → Lacks p → Lacks q → Ends r → Ends s → p ++ r ≡ q ++ s → (p ≡ q) × (r ≡ s)
cut_once [] [] r s l m a b e = (refl, e)
cut_once [] (y ∷ q) [] s l m a b e = absurd cc
cut_once [] (y ∷ q) (x ∷ r) s l m a b e = let f : x ≡ y = cc in absurd (m 0 (omega arith) (sym f ∙ a))
cut_once (x ∷ p) [] r [] l m a b e = absurd cc
cut_once (x ∷ p) [] r (y ∷ s) l m a b e = let f : x ≡ y = cc in absurd (l 0 (omega arith) (f ∙ b))
cut_once (x ∷ p) (y ∷ q) r s l m a b e =
    let f : x ≡ y = cc in
    let g : p ++ r ≡ q ++ s = cc in
    let h = cut_once p q r s (λ i k. l (suc i) (omega arith)) (λ i k. m (suc i) (omega arith)) a b g in
    let t = h.0 in (cc, h.1)

no_point : (n : ℕ) → IsSmall n → Lacks (decimal n)
no_point n h = not_in_digits own (decimal n) 46 (digits_decimal own n (wide n h)) (λ k. omega arith)

others_end : (l : List ℕ) → Ends (flat_map point_and_arc l)
others_end [] = tt
others_end (x ∷ l) = refl

one_arc : (x y : ℕ) (l m : List ℕ) → IsSmall x → IsSmall y → decimal x ++ flat_map point_and_arc l ≡ decimal y ++ flat_map point_and_arc m → (x ≡ y) × (flat_map point_and_arc l ≡ flat_map point_and_arc m)
one_arc x y l m a b e =
    let c = cut_once (decimal x) (decimal y) (flat_map point_and_arc l) (flat_map point_and_arc m) (no_point x a) (no_point y b) (others_end l) (others_end m) e in
    (decimal_injective x y (wide x a) (wide y b) c.0, c.1)

others_once : (l m : List ℕ) → All IsSmall l → All IsSmall m → flat_map point_and_arc l ≡ flat_map point_and_arc m → l ≡ m
others_once [] [] a b e = refl
others_once [] (y ∷ m) a b e = absurd cc
others_once (x ∷ l) [] a b e = absurd cc
others_once (x ∷ l) (y ∷ m) a b e =
    let f : decimal x ++ flat_map point_and_arc l ≡ decimal y ++ flat_map point_and_arc m = cc in
    let c = one_arc x y l m (All-head IsSmall x l a) (All-head IsSmall y m b) f in
    let h = c.0 in
    let t = others_once l m (All-tail IsSmall x l a) (All-tail IsSmall y m b) c.1 in cc

pub arcs_once : (s l m : List ℕ) → ArcsText s l → ArcsText s m → l ≡ m
arcs_once s [] m a b = absurd a.1
arcs_once s (x ∷ l) [] a b = absurd b.1
arcs_once s (x ∷ l) (y ∷ m) ((p, a, e), g) ((q, b, f), h) =
    let c = one_arc x y l m (All-head IsSmall x l a) (All-head IsSmall y m b) (sym e ∙ f) in
    let i = c.0 in
    let t = others_once l m (All-tail IsSmall x l a) (All-tail IsSmall y m b) c.1 in cc

dotted_once : (l m : List ℕ) → l ≢ [] → m ≢ [] → All IsSmall l → All IsSmall m → dotted l ≡ dotted m → l ≡ m
dotted_once [] m n o a b e = absurd (n refl)
dotted_once (x ∷ l) [] n o a b e = absurd (o refl)
dotted_once (x ∷ l) (y ∷ m) n o a b e =
    let c = one_arc x y l m (All-head IsSmall x l a) (All-head IsSmall y m b) e in
    ap₂ ◌∷◌ c.0 (others_once l m (All-tail IsSmall x l a) (All-tail IsSmall y m b) c.1)

pub relative_once : (s l m : List ℕ) → RelativeText s l → RelativeText s m → l ≡ m
relative_once s l m (k, n, a, e, f) (t, o, b, g, h) = f ∙ (ap held_arcs (dotted_once k t n o a b (sym e ∙ g)) ∙ sym h)

-- ---- times

pub instant_once : (kind : LeafKind) (s : List ℕ) (m n : Moment) → InstantText kind s m → InstantText kind s n → m ≡ n
instant_once UtcTime s m n (o, a) (p, b) = ap (λ t. t.moment) (one_meaning.utc s (record { moment = m; offset = o }) (record { moment = n; offset = p }) a b)
instant_once kind s m n (o, a) (p, b) = ap (λ t. t.moment) (one_meaning.generalized s (record { moment = m; offset = o }) (record { moment = n; offset = p }) a b)

weaker : (year_text : ℕ → List ℕ) (limit : ℕ) (year_of : ℕ → ℕ) (f g : Fields → Bool) (l : List ℕ) (t : Stamp) → TimeText year_text limit year_of (both f g) l t → TimeText year_text limit year_of f l t
weaker year_text limit year_of f g l t x = record {
  year = x.year;
  rest = x.rest;
  below = x.below;
  spelled = x.spelled;
  allowed = (and_parts (f (fields_of x.rest)) (g (fields_of x.rest)) x.allowed).0;
  is = x.is;
  exists = x.exists;
  meant = x.meant;
}

-- The text that is written of an instant is a text of it.
pub written_told : (kind : LeafKind) (s : List ℕ) (m : Moment) → WrittenInstant kind s m → InstantText kind s m
written_told UtcTime s m (h, c, u, e) = (pos 0, subst (λ l. GeneralUtc l (at_utc m)) (sym e) (weaker _ _ _ _ _ (written_utc m) (at_utc m) (utc_read_back m h c)))
written_told kind s m (h, c, u, e) = (pos 0, subst (λ l. GeneralGeneralized l (at_utc m)) (sym e) (weaker _ _ _ _ _ (written_generalized m) (at_utc m) (generalized_read_back m h c).is))

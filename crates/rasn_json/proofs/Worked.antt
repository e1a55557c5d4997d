-- JSON that was worked out by hand.
use Rattle.std.proofs.Common.{◌≡◌, ◌+◌, ◌-◌, ◌/◌, ◌%◌, ◌<◌, ◌≤◌, ℕ, zero, suc, pos, List, replicate, [], ◌∷◌, ◌++◌, Bool, true, false, length, Some, None, All, inl, inr, refl, sym, ap, ◌∙◌, subst, arith, codes, decimal, cond}
use Rattle.std.specs.Prelude.{nat_lt}
use Rattle.std.specs.List.{flat_map}
use Rattle.std.specs.Str.{all_scalars}
use Rattle.std.specs.Char.Escape.{encode_utf16}
use Rattle.std.proofs.lemmas.Int.{ints}
use Rattle.std.proofs.lemmas.List.{length-replicate}
use Rattle.std.proofs.lemmas.List.Elements.{All-from_recursion}
use Rattle.std.proofs.lemmas.Fmt.{decimal_digit}
use Rattle.std.proofs.lemmas.Str.{encodes_same}
use Rattle.json.specs.Json.{Json, string}
use Rattle.json.specs.Print.{IsNumber}
use Rattle.json.specs.Word.{after_number}
use Rattle.rasn_types.specs.Contents.{IsShortestInteger, RepeatsSign, signed}
use Rattle.rasn_types.specs.Framing.{AreOctets}
use Rattle.rasn_types.proofs.Integer.Shortest.{same_shortest}
use Rattle.rasn_types.specs.Text.{IsSmall, dotted, shown_day}
use Rattle.rasn_schema.specs.declared.types.LeafKind.TheVariants.{BitString}
use Rattle.rasn_json.specs.Decimal.{IsLong, IsWhole}
use Rattle.rasn_json.specs.Json.{BitsJson, DigitsJson, counted}
use Rattle.rasn_json.specs.Reading.{AllBitsRead}
use Rattle.rasn_json.specs.Texts.{ArcsText, DayText, UnitsText}
use Rattle.rasn_json.proofs.WorkedReals.{minus_zero_json, no_minus_zero, fifteen_json, zero_is_read, even_mantissa_read, string_not_read}
use Rattle.rasn_json.proofs.Strings.{digits_again}
use Rattle.rasn_json.specs.Worked.{day, four_bits, WorkedJson}

a0 : DigitsJson four_bits (string (codes "A0"))
a0 = (160 ∷ [], record { unused = 4; few = omega arith; all = refl }, ((omega arith, tt), refl))

eighty : DigitsJson (true ∷ false ∷ false ∷ false ∷ false ∷ false ∷ false ∷ false ∷ []) (string (codes "80"))
eighty = (128 ∷ [], record { unused = 0; few = omega arith; all = refl }, ((omega arith, tt), refl))

abbrev head : List ℕ → ℕ
head [] = 0
head (x ∷ l) = x

no_digits_alone : BitsJson BitString None four_bits (string (codes "A0")) → ⊥
no_digits_alone (few, (x, d, e)) = cc

without_number : BitsJson BitString (Some 4) four_bits (counted (string (codes "A0")) 4) → ⊥
without_number (all, f, (o, p, (h, e))) = cc

other_number : BitsJson BitString None four_bits (counted (string (codes "A0")) 5) → ⊥
other_number (few, (x, d, e)) =
    let f : decimal 5 ≡ decimal 4 = cc in
    omega (arith, ap head (sym (decimal_digit 5 (omega arith)) ∙ (f ∙ decimal_digit 4 (omega arith))))

not_filled : (j : Json) → BitsJson BitString (Some 8) (true ∷ []) j → ⊥
not_filled j (all, (e, n), d) = omega (arith, ap length e, n)

read_alone : AllBitsRead (Some 4) (string (codes "A0")) four_bits
read_alone = (160 ∷ [], (codes "A0", refl, digits_again (160 ∷ []) (omega arith, tt)), (refl, refl))

letter : UnitsText (codes "A") (0 ∷ 0x41 ∷ [])
unfolding lib.Utf8.encode
letter = ((65 ∷ [], (refl, refl)), (65 ∷ [], refl, refl))

pair : UnitsText (0xF0 ∷ 0x9F ∷ 0x98 ∷ 0x80 ∷ []) (0xD8 ∷ 0x3D ∷ 0xDE ∷ 0 ∷ [])
unfolding lib.Utf8.encode
pair = ((0x1F600 ∷ [], (refl, refl)), (0x1F600 ∷ [], refl, refl))

turned : UnitsText (codes "A") (0x41 ∷ 0 ∷ []) → ⊥
unfolding lib.Utf8.encode
turned (u, (cs, e, f)) =
    let same : 65 ∷ [] ≡ cs = encodes_same (65 ∷ []) cs f in
    let wrong : 0x4100 ∷ [] ≡ 65 ∷ [] = e ∙ ap (flat_map encode_utf16) (sym same) in
    omega (arith, ap head wrong)

-- A surrogate is the only unit of no character.
only_unit : (c : ℕ) (cs : List ℕ) (b : Bool) → nat_lt c 65536 ≡ b → all_scalars (c ∷ cs) ≡ true → 0xD83D ∷ [] ≡ encode_utf16 c ++ flat_map encode_utf16 cs → ⊥
only_unit c cs true h are e =
    let f : 0xD83D ∷ [] ≡ c ∷ flat_map encode_utf16 cs = subst (λ t. 0xD83D ∷ [] ≡ cond t (c ∷ []) ((0xD800 + (c - 0x10000) / 0x400) ∷ (0xDC00 + (c - 0x10000) % 0x400) ∷ []) ++ flat_map encode_utf16 cs) h e in
    let g : c ≡ 0xD83D = cc in
    let no : false ≡ true = subst (λ x. all_scalars (x ∷ cs) ≡ true) g are in cc
only_unit c cs false h are e =
    let f : 0xD83D ∷ [] ≡ (0xD800 + (c - 0x10000) / 0x400) ∷ (0xDC00 + (c - 0x10000) % 0x400) ∷ flat_map encode_utf16 cs = subst (λ t. 0xD83D ∷ [] ≡ cond t (c ∷ []) ((0xD800 + (c - 0x10000) / 0x400) ∷ (0xDC00 + (c - 0x10000) % 0x400) ∷ []) ++ flat_map encode_utf16 cs) h e in cc

half : (s : List ℕ) → UnitsText s (0xD8 ∷ 0x3D ∷ []) → ⊥
half s ((ds, (are, d)), (cs, e, f)) = go cs (subst (λ l. all_scalars l ≡ true) (encodes_same ds cs (d ∙ f)) are) e
  where
    go : (cs : List ℕ) → all_scalars cs ≡ true → 0xD83D ∷ [] ≡ flat_map encode_utf16 cs → ⊥
    go [] are e = cc
    go (c ∷ cs) are e = only_unit c cs (nat_lt c 65536) refl are e

arcs : ArcsText (codes "1.9") (1 ∷ 9 ∷ [])
arcs = ((omega arith, small, text), inr (omega arith))
  where
    small : All IsSmall (1 ∷ 9 ∷ [])
    small = All-from_recursion IsSmall (1 ∷ 9 ∷ []) (omega arith, (omega arith, tt))

    text : codes "1.9" ≡ dotted (1 ∷ 9 ∷ [])
    text = sym (ap (λ l. l ++ (46 ∷ (decimal 9 ++ []))) (decimal_digit 1 (omega arith)) ∙ ap (λ l. 49 ∷ 46 ∷ (l ++ [])) (decimal_digit 9 (omega arith)))

no_subidentifier : (s : List ℕ) → ArcsText s (1 ∷ 40 ∷ []) → ⊥
no_subidentifier s (d, inl e) = omega (arith, e)
no_subidentifier s (d, inr l) = omega (arith, l)

a_day : DayText (codes "1985-11-14") (day 1985)
unfolding shown_day
a_day = (record { year = 1985; same = refl; below = omega arith }, refl)

no_day : (s : List ℕ) → DayText s (day 12345) → ⊥
no_day s (c, e) = let b = c.below in omega (arith, ints, c.same)

few_octets : IsLong (pos 5) → ⊥
few_octets (l, s, n) =
    let e : l ≡ 5 ∷ [] = same_shortest l (5 ∷ []) s.octets (omega arith, tt) s.shortest tt s.is in
    omega (arith, n, ap length e)

noughts : (k : ℕ) → AreOctets (replicate k 0)
noughts zero = tt
noughts (suc k) = (omega arith, noughts k)

fewest : (k : ℕ) → 0 < k → IsShortestInteger (1 ∷ replicate k 0)
fewest zero h = absurd (omega arith)
fewest (suc k) h = λ r. go r
  where
    go : RepeatsSign 1 0 → ⊥
    go (inl e) = omega (arith, e.0)
    go (inr e) = omega (arith, e.0)

many_octets : (k : ℕ) → 16384 ≤ k → IsLong (signed (1 ∷ replicate k 0))
many_octets k le =
    let n = length-replicate {A = ℕ} k 0 in
    (1 ∷ replicate k 0, record { is = refl; shortest = fewest k (omega (arith, le)); octets = (omega arith, noughts k) }, omega (arith, le, n))

five_is_number : IsNumber (codes "5")
unfolding after_number
five_is_number = refl

five_is_whole : IsWhole (codes "5") (pos 5)
five_is_whole = inl ((omega arith, (omega arith, tt)), refl)

pub worked_json : WorkedJson
worked_json = record {
  digits_alone = (four_bits, (refl, refl), a0);
  no_digits_alone = no_digits_alone;
  with_their_number = (omega arith, (string (codes "A0"), a0, refl));
  without_their_number = without_number;
  no_other_number = other_number;
  filled = (true ∷ false ∷ false ∷ false ∷ false ∷ false ∷ false ∷ false ∷ [], (7, refl, refl), eighty);
  not_filled = not_filled;
  read_alone = read_alone;
  not_read_alone = λ bs r. not_read bs r;
  a_letter = letter;
  no_turned_letter = turned;
  a_pair = pair;
  no_text_of_half_a_pair = half;
  arcs = arcs;
  no_subidentifier = no_subidentifier;
  a_day = a_day;
  no_day_of_five_digits = no_day;
  five = (few_octets, (codes "5", refl, five_is_number, five_is_whole));
  five_is_not_long = few_octets;
  too_many_octets = many_octets;
  no_number_of_too_many = λ k j le h. h.0 (many_octets k le);
  minus_zero = minus_zero_json;
  minus_zero_is_no_number = no_minus_zero;
  fifteen_tenths = fifteen_json;
  zero_is_read = zero_is_read;
  an_even_mantissa_is_read = even_mantissa_read;
  no_number_in_a_string = string_not_read;
}
  where
    not_read : (bs : List Bool) → AllBitsRead None (string (codes "A0")) bs → ⊥
    not_read bs r = let v = r.1 in cc

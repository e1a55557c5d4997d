-- JSON of a value that holds no others is read as this value.
use Rattle.std.proofs.Common.{◌≡◌, ℕ, ℤ, pos, List, ◌++◌, Bool, length, take, Option, Some, None, inl, inr, refl, sym, ap, ◌∙◌, subst, decimal}
use Rattle.std.specs.Prelude.{slice_get, chars, codes}
use Rattle.std.specs.Cow.{cow_slice_items, cow_str_bytes}
use Rattle.std.specs.String.{string_bytes}
use Rattle.std.proofs.Math.Seq.{take-append_seam}
use Rattle.json.specs.Json.{Json, number, string}
use Rattle.json.specs.Find.{as_str, as_number, get}
use Rattle.rasn_types.specs.Shapes.{numbers, bits, instant, on_day}
use Rattle.rasn_types.specs.Shapes as shapes
use Rattle.rasn_types.specs.Trees.{bool_tree}
use Rattle.rasn_types.specs.BitString.{bits_from, significant, zeros}
use Rattle.rasn_types.specs.CowBits.{cow_bits}
use Rattle.rasn_types.specs.declared.types.constraints.Constraints.{Constraints}
use Rattle.rasn_types.proofs.BitString.Significant.{significant_zeros}
use Rattle.rasn_schema.specs.declared.types.LeafKind.{LeafKind}
use Rattle.rasn_schema.specs.declared.types.LeafKind.TheVariants.{Boolean as BooleanKind, Null as NullKind, ObjectIdentifier, BitString, NamedBits, OctetString, FixedOctetString, Integer as IntegerKind, Signed32, Signed64, Unsigned32, Unsigned64, Numeric, Printable, Visible, Ia5, AnyOctets, Bmp, Utf8, UtcTime, GeneralizedTime, Date, RelativeOid, Universal, Time, Duration, TimeOfDay, DateTime, Real as RealKind}
use Rattle.rasn_schema.specs.declared.types.NamedNumber.{NamedNumber}
use Rattle.rasn_schema.specs.declared.value.Value.{Value, Boolean, Null, Integer, Bits, Octets, Text, Units, Arcs, Instant, Day, Absent, Items', Elements', Chosen'}
use Rattle.rasn_schema.specs.Trees.{tree_of}
use Rattle.rasn_schema.specs.Fitting.{FitsLeaf, NumberFits, OctetsFit, BitsFit}
use Rattle.rasn_schema.proofs.Lists.{some_is}
use Rattle.rasn_json.specs.Decimal.{IsWhole}
use Rattle.std.specs.Prelude.{All}
use Rattle.std.specs.List.{filter}
use Rattle.std.specs.Char.{is_ascii_digit}
use Rattle.rasn_types.specs.Contents.{IsDigit}
use Rattle.rasn_schema.specs.TimeTexts.{shown_digits}
use Rattle.rasn_schema.proofs.LeafTexts.{shown_kept}
use Rattle.rasn_json.specs.Json.{ArcsJson, NameJson, NumberJson, IntegerJson, OctetsJson, DigitsJson, BitsJson, LeafJson, one_size, counted}
use Rattle.rasn_json.specs.Names.{HaveOwnNames, name_of_number}
use Rattle.rasn_json.specs.Reading.{ArcsReadBy, NameRead, WholeRead, IntegerRead, OctetsRead, DigitsRead, AllBitsRead, BitsRead, LeafRead}
use Rattle.rasn_json.specs.Texts.{InstantText, UnitsText, ArcsText, RelativeText, DayText}
use Rattle.rasn_json.proofs.DayTexts.{one_day_text}
use Rattle.rasn_json.proofs.RealsOnce.{real_once}
use Rattle.rasn_json.proofs.Strings.{one_string, octets_once, characters_once, units_once, whole_once, count_once, arcs_once, relative_once, instant_once, written_told}

-- ---- names and numbers

-- Of elements with their own names, those with the same name are one.
pub one_named : {X : Type 0} (name : X → List ℕ) (l : List X) (i k : ℕ) (x y : X) → HaveOwnNames name l → Some x ≡ slice_get l i → Some y ≡ slice_get l k → name x ≡ name y → x ≡ y
one_named name l i k x y own a b e = some_is x y (a ∙ (ap (slice_get l) (own i k x y a b e) ∙ sym b))

pub name_once : (names : List NamedNumber) (n m : ℤ) (j : Json) → HaveOwnNames name_of_number names → NameJson names n j → NameRead names j m → n ≡ m
name_once names n m j own (i, x, at, is, e) (s, f, k, y, here, named, that) =
    let same : string_bytes x.name ≡ string_bytes y.name = one_string (string_bytes x.name) s j e f ∙ sym named in
    sym is ∙ (ap (λ (z : NamedNumber). z.number) (one_named name_of_number names i k x y own at here same) ∙ that)

number_once : (n m : ℤ) (j : Json) → NumberJson n j → WholeRead j m → n ≡ m
number_once n m j (few, (s, e, d, a)) (t, f, b) =
    let g : Some s ≡ Some t = sym (ap as_number e) ∙ f in
    let h : s ≡ t = cc in
    whole_once t n m (subst (λ l. IsWhole l n) h a) b

integer_once : (kind : LeafKind) (names : List NamedNumber) (n m : ℤ) (j : Json) → HaveOwnNames name_of_number names → IntegerJson kind names n j → IntegerRead kind names j m → n ≡ m
integer_once kind names n m j own (inl (x, a)) (inl (y, b)) = name_once names n m j own a b
integer_once kind names n m j own (inl (x, (i, q, at, is, e))) (inr (inl (t, f, b))) = let g : None ≡ Some t = sym (ap as_number e) ∙ f in absurd cc
integer_once kind names n m j own (inl (x, a)) (inr (inr (closed, b))) = absurd (closed x)
integer_once kind names n m j own (inr (x, (few, (s, e, d, a)))) (inl (y, b)) = let g : None ≡ Some b.0 = sym (ap as_str e) ∙ b.1 in absurd cc
integer_once kind names n m j own (inr (x, a)) (inr (inl b)) = number_once n m j a b
integer_once kind names n m j own (inr (x, (few, (s, e, d, a)))) (inr (inr (closed, (t, f, b)))) = let g : None ≡ Some t = sym (ap as_str e) ∙ f in absurd cc

-- ---- strings

shown_once : (o p : List ℕ) (j : Json) → All IsDigit o → All IsDigit p → j ≡ string (shown_digits o) → as_str j ≡ Some (shown_digits p) → o ≡ p
shown_once o p j f g a b = sym (shown_kept o f) ∙ (ap (filter is_ascii_digit) (one_string (shown_digits o) (shown_digits p) j a b) ∙ shown_kept p g)

octets_kinds : (kind : LeafKind) (o p : List ℕ) (j : Json) → OctetsFit kind o → OctetsFit kind p → OctetsJson kind o j → OctetsRead kind j p → o ≡ p
octets_kinds OctetString o p j f g a b = octets_once o p j a b
octets_kinds (FixedOctetString n) o p j f g a b = octets_once o p j a b
octets_kinds RealKind o p j f g a b = real_once o p j a b
octets_kinds TimeOfDay o p j f g a b = shown_once o p j f.1 g.1 a b
octets_kinds DateTime o p j f g a b = shown_once o p j f.1 g.1 a b
octets_kinds kind o p j f g a b = characters_once o p j a b

arcs_kinds : (kind : LeafKind) (l m : List ℕ) (j : Json) → ArcsJson kind l j → ArcsReadBy kind j m → l ≡ m
arcs_kinds RelativeOid l m j (s, a, h) (t, b, k) = relative_once t l m (subst (λ x. RelativeText x l) (one_string s t j a b) h) k
arcs_kinds kind l m j (s, a, h) (t, b, k) = arcs_once t l m (subst (λ x. ArcsText x l) (one_string s t j a b) h) k

digits_once : (n : ℕ) (all bs : List Bool) (j : Json) → length all ≡ n → DigitsJson all j → DigitsRead j n bs → bs ≡ all
digits_once n all bs j e (o, packs, a) (p, b, (size, is)) =
    is ∙ (ap (bits_from 0 n) (sym (octets_once o p j a b)) ∙ (ap (take n) packs.all ∙ (ap (λ k. take k (all ++ zeros packs.unused)) (sym e) ∙ take-append_seam all (zeros packs.unused))))

counted_value : (x : Json) (n : ℕ) → get (codes "value") (counted x n) ≡ Some x
counted_value x n = refl

counted_length : (x : Json) (n : ℕ) → get (codes "length") (counted x n) ≡ Some (number (decimal n))
counted_length x n = refl

all_bits_once : (size : Option ℕ) (bs cs : List Bool) (j : Json) → BitsJson BitString size bs j → AllBitsRead size j cs → bs ≡ cs
all_bits_once (Some n) bs cs j (all, (same, len), a) b = sym same ∙ sym (digits_once n all cs j len a b)
all_bits_once None bs cs j (few, (x, a, e)) (ms, o, own, (y, z, n, v, l, (s, f, w), d)) =
    let p : Some x ≡ Some y = sym (counted_value x (length bs)) ∙ (sym (ap (get (codes "value")) e) ∙ v) in
    let q : Some (number (decimal (length bs))) ≡ Some z = sym (counted_length x (length bs)) ∙ (sym (ap (get (codes "length")) e) ∙ l) in
    let g : Some (decimal (length bs)) ≡ Some s = ap as_number (some_is (number (decimal (length bs))) z q) ∙ f in
    let k : n ≡ length bs = count_once (length bs) n few (subst (λ t. IsWhole t (pos n)) (sym (some_is (decimal (length bs)) s g)) w) in
    sym (digits_once n bs cs x (sym k) a (subst (λ t. DigitsRead t n cs) (sym (some_is x y p)) d))

named_bits_once : (size : Option ℕ) (bs cs : List Bool) (j : Json) → significant bs ≡ bs → BitsJson NamedBits size bs j → BitsRead NamedBits size j cs → bs ≡ cs
named_bits_once (Some n) bs cs j fits (all, (k, same, len), a) (full, b, is) =
    sym (is ∙ (ap significant (digits_once n all full j len a b ∙ same) ∙ (significant_zeros bs k ∙ fits)))
named_bits_once None bs cs j fits a (full, b, is) = sym (is ∙ (ap significant (sym (all_bits_once None bs full j a b)) ∙ fits))

bits_once : (kind : LeafKind) (size : Option ℕ) (bs cs : List Bool) (j : Json) → BitsFit kind bs → BitsJson kind size bs j → BitsRead kind size j cs → bs ≡ cs
bits_once NamedBits size bs cs j fits a b = named_bits_once size bs cs j fits a b
bits_once BitString size bs cs j fits a b = all_bits_once size bs cs j a b
bits_once kind size bs cs j fits a b = absurd fits

-- ---- all kinds

-- Values of a kind are of one form.
abbrev form : Value → ℕ
form (Boolean b) = 0
form Null = 1
form (Integer n) = 2
form (Bits b) = 3
form (Octets o) = 4
form (Text s) = 5
form (Units u) = 6
form (Arcs a) = 7
form (Instant t) = 8
form (Day d) = 9
form _ = 10

abbrev form_of : LeafKind → ℕ
form_of BooleanKind = 0
form_of NullKind = 1
form_of IntegerKind = 2
form_of Signed32 = 2
form_of Signed64 = 2
form_of Unsigned32 = 2
form_of Unsigned64 = 2
form_of BitString = 3
form_of NamedBits = 3
form_of Utf8 = 5
form_of Universal = 5
form_of Bmp = 6
form_of ObjectIdentifier = 7
form_of RelativeOid = 7
form_of UtcTime = 8
form_of GeneralizedTime = 8
form_of Date = 9
form_of _ = 4

number_form : (kind : LeafKind) (n : ℤ) → NumberFits kind n → form_of kind ≡ 2
number_form IntegerKind n f = refl
number_form Signed32 n f = refl
number_form Signed64 n f = refl
number_form Unsigned32 n f = refl
number_form Unsigned64 n f = refl
number_form kind n f = absurd f

bits_form : (kind : LeafKind) (bs : List Bool) → BitsFit kind bs → form_of kind ≡ 3
bits_form BitString bs f = refl
bits_form NamedBits bs f = refl
bits_form kind bs f = absurd f

octets_form : (kind : LeafKind) (o : List ℕ) → OctetsFit kind o → form_of kind ≡ 4
octets_form OctetString o f = refl
octets_form (FixedOctetString n) o f = refl
octets_form RealKind o f = refl
octets_form Time o f = refl
octets_form Duration o f = refl
octets_form TimeOfDay o f = refl
octets_form DateTime o f = refl
octets_form Numeric o f = refl
octets_form Printable o f = refl
octets_form Visible o f = refl
octets_form Ia5 o f = refl
octets_form AnyOctets o f = refl
octets_form kind o f = absurd f

fits_form : (kind : LeafKind) (v : Value) → FitsLeaf kind v → form_of kind ≡ form v
fits_form kind (Boolean b) f = ap form_of f
fits_form kind Null f = ap form_of f
fits_form kind (Integer n) f = number_form kind n f
fits_form kind (Bits b) f = bits_form kind (cow_bits b) f
fits_form kind (Octets o) f = octets_form kind (cow_slice_items o) f
fits_form kind (Text s) (inl f) = ap form_of f
fits_form kind (Text s) (inr f) = ap form_of f
fits_form kind (Units u) f = ap form_of f
fits_form kind (Arcs a) (inl f) = ap form_of f
fits_form kind (Arcs a) (inr f) = ap form_of f
fits_form kind (Instant t) (inl f) = ap form_of f
fits_form kind (Instant t) (inr f) = ap form_of f
fits_form kind (Day d) f = ap form_of f
fits_form kind v f = absurd f

module _ (kind : LeafKind) (c : Constraints) (names : List NamedNumber) (j : Json) (own : HaveOwnNames name_of_number names) where
  formed_once : (v w : Value) → form v ≡ form w → FitsLeaf kind v → FitsLeaf kind w → LeafJson kind c names v j → LeafRead kind c names j w → tree_of v ≡ tree_of w
  formed_once (Boolean b) (Boolean d) e f o a r = let g : b ≡ d = cc in ap bool_tree g
  formed_once Null Null e f o a r = refl
  formed_once (Integer n) (Integer m) e f o a r = ap shapes.number (integer_once kind names n m j own a r)
  formed_once (Bits b) (Bits d) e f o a r = ap bits (bits_once kind (one_size c) (cow_bits b) (cow_bits d) j f a r)
  formed_once (Octets x) (Octets y) e f o a r = ap numbers (octets_kinds kind (cow_slice_items x) (cow_slice_items y) j f o a r)
  formed_once (Text s) (Text t) e f o a r = ap (λ l. numbers (chars l)) (one_string (cow_str_bytes s) (cow_str_bytes t) j a r)
  formed_once (Units u) (Units x) e f o (s, a, h) (t, b, k) = ap numbers (units_once t u x (subst (λ l. UnitsText l u) (one_string s t j a b) h) k)
  formed_once (Arcs l) (Arcs m) e f o a r = ap numbers (arcs_kinds kind l m j a r)
  formed_once (Instant x) (Instant y) e f o (s, a, h) (t, b, k) = ap instant (instant_once kind t x.moment y.moment (subst (λ l. InstantText kind l x.moment) (one_string s t j a b) (written_told kind s x.moment h)) k)
  formed_once (Day x) (Day y) e f o (s, a, h) (t, b, k) = ap on_day (one_day_text t x y (subst (λ l. DayText l x) (one_string s t j a b) h) k)
  formed_once (Items' _ row) w e f o a r = absurd f
  formed_once (Elements' _ row) w e f o a r = absurd f
  formed_once (Chosen' i _ x) w e f o a r = absurd f
  formed_once Absent w e f o a r = absurd f
  formed_once v w e f o a r = absurd cc

  pub leaf_once : (v w : Value) → FitsLeaf kind v → FitsLeaf kind w → LeafJson kind c names v j → LeafRead kind c names j w → tree_of v ≡ tree_of w
  leaf_once v w f g a r = formed_once v w (sym (fits_form kind v f) ∙ fits_form kind w g) f g a r

-- Contents octets of leaves (X.690 8.2 to 8.8, 8.19, 8.23, 8.26, 11.1, 11.3).
use Rattle.std.specs.Prelude.{◌≡◌, ℕ, zero, suc, ◌+◌, ◌*◌, ◌^◌, ◌%◌, ◌/◌, ◌-◌, ◌<◌, ◌≤◌, ◌⊎◌, ◌≢◌, List, [], ◌∷◌, ◌++◌, length, Bool, true, false, ℤ, pos, neg_ℤ, ◌+ℤ◌, ◌-ℤ◌, ◌*ℤ◌, All, Contains, min, map}
use Rattle.rasn_types.specs.Tags.{form, IsStrict, IsCanonical, Codec, Ber, Cer, Der, Tag}
use Rattle.rasn_types.specs.Framing.{bit_of, AreOctets, Frame, definite, indefinite, Ended, Spells128, number_in}
use Rattle.rasn_types.specs.Shapes.{Tree, number, numbers, Kind, boolean, null, object_identifier, integer, real, time_text, time_digits, IsIn, enumerated}

-- The whole number that octets represent in two's complement (8.3.3).
abbrev pub signed : List ℕ → ℤ
signed [] = pos 0
signed (b ∷ l) = pos (number_in 256 (b ∷ l)) -ℤ pos (b / 128 * 256 ^ length (b ∷ l))

-- The contents octets of a BOOLEAN. Canonical rules have one octet for true (8.2, 11.1).
abbrev pub IsBool : Codec → List ℕ → ℤ → Type 0
IsBool Ber l z = (b : ℕ) × (l ≡ b ∷ []) × (((b ≡ 0) × (z ≡ pos 0)) ⊎ ((b ≢ 0) × (z ≡ pos 1)))
IsBool Cer l z = ((l ≡ 0 ∷ []) × (z ≡ pos 0)) ⊎ ((l ≡ 255 ∷ []) × (z ≡ pos 1))
IsBool Der l z = ((l ≡ 0 ∷ []) × (z ≡ pos 0)) ⊎ ((l ≡ 255 ∷ []) × (z ≡ pos 1))

-- Subidentifiers, one after another (8.19.2).
abbrev pub Arcs : List ℕ → List ℕ → Type 0
Arcs l [] = l ≡ []
Arcs l (n ∷ ns) = (front : List ℕ) × (back : List ℕ) × Spells128 front n × (l ≡ front ++ back) × Arcs back ns

-- The arcs of an object identifier. The first subidentifier holds the first two arcs (8.19.4).
abbrev pub IsObjectIdentifier : List ℕ → List ℕ → Type 0
IsObjectIdentifier l arcs = (s : ℕ) × (ns : List ℕ) × Arcs l (s ∷ ns) × (arcs ≡ min 2 (s / 40) ∷ (s - 40 * min 2 (s / 40)) ∷ ns)

-- An octet only repeats the sign of the octet after it: the first nine bits are equal.
abbrev pub RepeatsSign : ℕ → ℕ → Type 0
RepeatsSign a b = ((a ≡ 0) × (b < 128)) ⊎ ((a ≡ 255) × (128 ≤ b))

-- An integer in its fewest octets (8.3.2).
abbrev pub IsShortestInteger : List ℕ → Type 0
IsShortestInteger [] = ⊥
IsShortestInteger (a ∷ []) = Unit {0}
IsShortestInteger (a ∷ b ∷ l) = RepeatsSign a b → ⊥

-- ---- REAL (8.5, 11.3)

-- A value. A number is a mantissa times a power of its base, 2 or 10: `binary` and `decimal` have whether it is below 0, the
-- mantissa without its sign, and the exponent. Each number has one such mantissa that isn't a multiple of the base.
pub data Real : Type 0 where
  plus_zero minus_zero plus_infinity minus_infinity not_a_number : Real
  binary decimal : Bool → ℕ → ℤ → Real

-- Bits 6 and 5 of the first octet say which base is used: 2, 8 or 16, of which each is a power of 2 (8.5.7.2).
abbrev pub IsBase : ℕ → ℕ → Type 0
IsBase bits power = ((bits ≡ 0) × (power ≡ 1)) ⊎ (((bits ≡ 1) × (power ≡ 3)) ⊎ ((bits ≡ 2) × (power ≡ 4)))

-- Bits 2 and 1 of the first octet say how many octets the exponent has; above three their number is before them, and they
-- are as few as possible (8.5.7.4).
abbrev pub HoldsExponent : ℕ → List ℕ → List ℕ → Type 0
HoldsExponent bits field exponent =
    ((bits < 3) × (length exponent ≡ bits + 1) × (field ≡ exponent))
    ⊎ ((bits ≡ 3) × (field ≡ length exponent ∷ exponent) × (length exponent < 256) × IsShortestInteger exponent)

-- A number with base 2: sign, base, scaling factor, exponent and mantissa (8.5.7).
pub record IsBinary (l : List ℕ) (negative : Bool) (m : ℕ) (e : ℤ) : Type 0 where
  pub base : ℕ
  pub power : ℕ
  pub factor : ℕ
  pub form : ℕ
  pub field : List ℕ
  pub exponent : List ℕ
  pub mantissa : List ℕ
  pub shift : ℕ
  pub is : l ≡ (128 + 64 * bit_of negative + 16 * base + 4 * factor + form) ∷ (field ++ mantissa)
  pub has_base : IsBase base power
  pub has_factor : factor < 4
  pub has_exponent : HoldsExponent form field exponent
  pub odd : m % 2 ≡ 1
  pub value : number_in 256 mantissa * 2 ^ factor ≡ m * 2 ^ shift
  pub scale : e ≡ signed exponent *ℤ pos power +ℤ pos shift

abbrev pub IsDigit : ℕ → Type 0
IsDigit c = (48 ≤ c) × (c < 58)

-- A sign, which a number that isn't below 0 may have.
abbrev pub IsSign : Bool → List ℕ → Type 0
IsSign true sign = sign ≡ 45 ∷ []
IsSign false sign = (sign ≡ []) ⊎ (sign ≡ 43 ∷ [])

-- The number of decimal digits, and that of digits after a sign.
abbrev pub number_of_digits : List ℕ → ℕ
number_of_digits digits = number_in 10 (map (λ c. c - 48) digits)

abbrev pub with_sign : Bool → ℕ → ℤ
with_sign true n = neg_ℤ (pos n)
with_sign false n = pos n

-- A point or a comma, and digits after it; or nothing.
abbrev pub IsFraction : List ℕ → List ℕ → Type 0
IsFraction text digits = ((text ≡ []) × (digits ≡ [])) ⊎ ((mark : ℕ) × ((mark ≡ 46) ⊎ (mark ≡ 44)) × (text ≡ mark ∷ digits))

-- An exponent: E, a sign or none, and digits.
abbrev pub IsExponent : List ℕ → ℤ → Type 0
IsExponent text x = (mark : ℕ) × (negative : Bool) × (sign : List ℕ) × (digits : List ℕ) × ((mark ≡ 69) ⊎ (mark ≡ 101)) × (text ≡ mark ∷ (sign ++ digits))
    × IsSign negative sign × (digits ≢ []) × All IsDigit digits × (x ≡ with_sign negative (number_of_digits digits))

-- The forms NR1, NR2 and NR3 of ISO 6093: without a fraction, with one, and with an exponent (8.5.8).
abbrev pub IsOfForm : ℕ → List ℕ → List ℕ → ℤ → Type 0
IsOfForm form fraction exponent x =
    ((form ≡ 1) × (fraction ≡ []) × (exponent ≡ []) × (x ≡ pos 0))
    ⊎ (((form ≡ 2) × (fraction ≢ []) × (exponent ≡ []) × (x ≡ pos 0))
    ⊎ ((form ≡ 3) × IsExponent exponent x))

-- A number with base 10: its form, spaces, a sign, digits, a fraction and an exponent (8.5.8).
pub record IsDecimal (l : List ℕ) (negative : Bool) (m : ℕ) (e : ℤ) : Type 0 where
  pub form : ℕ
  pub spaces : List ℕ
  pub sign : List ℕ
  pub whole : List ℕ
  pub fraction : List ℕ
  pub after : List ℕ
  pub exponent : List ℕ
  pub x : ℤ
  pub shift : ℕ
  pub is : l ≡ form ∷ (spaces ++ (sign ++ (whole ++ (fraction ++ exponent))))
  pub has_spaces : All (λ c. c ≡ 32) spaces
  pub has_sign : IsSign negative sign
  pub has_fraction : IsFraction fraction after
  pub has_form : IsOfForm form fraction exponent x
  pub whole_digits : All IsDigit whole
  pub after_digits : All IsDigit after
  pub some : whole ++ after ≢ []
  pub last : m % 10 ≢ 0
  pub value : number_of_digits (whole ++ after) ≡ m * 10 ^ shift
  pub scale : e ≡ x -ℤ pos (length after) +ℤ pos shift

-- The contents octets of a value (8.5.2, 8.5.6, 8.5.9). A zero isn't a number here.
abbrev pub RealContents : List ℕ → Real → Type 0
RealContents l plus_zero = l ≡ []
RealContents l plus_infinity = l ≡ 64 ∷ []
RealContents l minus_infinity = l ≡ 65 ∷ []
RealContents l not_a_number = l ≡ 66 ∷ []
RealContents l minus_zero = l ≡ 67 ∷ []
RealContents l (binary negative m e) = IsBinary l negative m e
RealContents l (decimal negative m e) = IsDecimal l negative m e

abbrev pub IsShortestMantissa : List ℕ → Type 0
IsShortestMantissa [] = ⊥
IsShortestMantissa (b ∷ l) = b ≢ 0

-- Base 2, an odd mantissa and no scaling factor; exponent and mantissa in the fewest octets (11.3.1).
pub record IsCanonicalBinary (l : List ℕ) (negative : Bool) (m : ℕ) (e : ℤ) : Type 0 where
  pub form : ℕ
  pub field : List ℕ
  pub exponent : List ℕ
  pub mantissa : List ℕ
  pub is : l ≡ (128 + 64 * bit_of negative + form) ∷ (field ++ mantissa)
  pub has_exponent : HoldsExponent form field exponent
  pub few : form ≡ 3 → 3 < length exponent
  pub exponent_is : signed exponent ≡ e
  pub exponent_shortest : IsShortestInteger exponent
  pub octets : AreOctets l
  pub mantissa_is : number_in 256 mantissa ≡ m
  pub mantissa_shortest : IsShortestMantissa mantissa
  pub odd : m % 2 ≡ 1

-- Decimal digits of a number, of which the first isn't 0.
abbrev pub SpellsDigits : List ℕ → ℕ → Type 0
SpellsDigits [] n = ⊥
SpellsDigits (c ∷ l) n = (c ≢ 48) × All IsDigit (c ∷ l) × (n ≡ number_of_digits (c ∷ l))

abbrev pub sign_text : Bool → List ℕ
sign_text true = 45 ∷ []
sign_text false = []

-- An exponent as NR3 has it: no sign is + except that of 0 (11.3.2.6).
abbrev pub IsShortestExponent : List ℕ → ℤ → Type 0
IsShortestExponent text e =
    ((text ≡ 43 ∷ 48 ∷ []) × (e ≡ pos 0))
    ⊎ ((negative : Bool) × (digits : List ℕ) × (n : ℕ) × SpellsDigits digits n × (text ≡ sign_text negative ++ digits) × (e ≡ with_sign negative n))

-- NR3 with the mantissa as a whole number, a point and E; the first and the last digit of the mantissa aren't 0 (11.3.2).
pub record IsCanonicalDecimal (l : List ℕ) (negative : Bool) (m : ℕ) (e : ℤ) : Type 0 where
  pub mantissa : List ℕ
  pub exponent : List ℕ
  pub is : l ≡ 3 ∷ (sign_text negative ++ (mantissa ++ 46 ∷ 69 ∷ exponent))
  pub mantissa_is : SpellsDigits mantissa m
  pub last : m % 10 ≢ 0
  pub exponent_is : IsShortestExponent exponent e

abbrev pub CanonicalReal : List ℕ → Real → Type 0
CanonicalReal l (binary negative m e) = IsCanonicalBinary l negative m e
CanonicalReal l (decimal negative m e) = IsCanonicalDecimal l negative m e
CanonicalReal l r = RealContents l r

-- Octets encode a value that canonical rules encode as these ones; canonical rules have no others.
abbrev pub IsReal : Codec → List ℕ → List ℕ → Type 0
IsReal rule l octets = (r : Real) × RealContents l r × CanonicalReal octets r × (IsCanonical rule → l ≡ octets)

-- The characters of the text of a time: digits and + , - . / : C D H M P R S T W Y Z (X.680 12.16).
abbrev pub time_marks : List ℕ
time_marks = 43 ∷ 44 ∷ 45 ∷ 46 ∷ 47 ∷ 58 ∷ 67 ∷ 68 ∷ 72 ∷ 77 ∷ 80 ∷ 82 ∷ 83 ∷ 84 ∷ 87 ∷ 89 ∷ 90 ∷ []

abbrev pub IsTimeCharacter : ℕ → Type 0
IsTimeCharacter c = IsDigit c ⊎ Contains time_marks c

-- The text of a TIME or a DURATION: such characters, at least one. That of a TIME-OF-DAY or a DATE-TIME is so many digits
-- (8.26).
abbrev pub IsTimeText : List ℕ → Type 0
IsTimeText l = (l ≢ []) × All IsTimeCharacter l

abbrev pub AreTimeDigits : ℕ → List ℕ → Type 0
AreTimeDigits n l = (length l ≡ n) × All IsDigit l

-- The contents octets of a primitive encoding, and the tree that they mean. A REAL means its octets under canonical rules.
abbrev pub Contents : Codec → Kind → List ℕ → Tree → Type 0
Contents rule boolean l t = (z : ℤ) × (t ≡ number z) × IsBool rule l z
Contents rule (integer range) l t = (t ≡ number (signed l)) × (l ≢ []) × IsIn range (signed l)
Contents rule (enumerated known) l t = (t ≡ number (signed l)) × (l ≢ []) × Contains known (signed l)
Contents rule null l t = (t ≡ number (pos 0)) × (l ≡ [])
Contents rule object_identifier l t = (arcs : List ℕ) × (t ≡ numbers arcs) × IsObjectIdentifier l arcs
Contents rule real l t = (octets : List ℕ) × (t ≡ numbers octets) × IsReal rule l octets
Contents rule time_text l t = (t ≡ numbers l) × IsTimeText l
Contents rule (time_digits n) l t = (t ≡ numbers l) × AreTimeDigits n l
Contents rule kind l t = ⊥

abbrev pub IsShortest128 : List ℕ → Type 0
IsShortest128 [] = ⊥
IsShortest128 (b ∷ l) = b ≢ 128

-- Subidentifiers, each in its fewest octets.
abbrev pub ShortArcs : List ℕ → List ℕ → Type 0
ShortArcs l [] = l ≡ []
ShortArcs l (n ∷ ns) = (front : List ℕ) × (back : List ℕ) × Spells128 front n × IsShortest128 front × (l ≡ front ++ back) × ShortArcs back ns

abbrev pub IsShortest : Kind → List ℕ → Type 0
IsShortest (integer range) l = IsShortestInteger l
IsShortest (enumerated known) l = IsShortestInteger l
IsShortest object_identifier l = (ns : List ℕ) × ShortArcs l ns
IsShortest kind l = Unit {0}

-- The bits of an octet, the highest first.
abbrev pub is_set : ℕ → Bool
is_set zero = false
is_set (suc n) = true

abbrev pub bits_of : ℕ → List Bool
bits_of b = is_set (b / 128 % 2) ∷ is_set (b / 64 % 2) ∷ is_set (b / 32 % 2) ∷ is_set (b / 16 % 2)
    ∷ is_set (b / 8 % 2) ∷ is_set (b / 4 % 2) ∷ is_set (b / 2 % 2) ∷ is_set (b % 2) ∷ []

abbrev pub joined_lists : {X : Type 0} → List (List X) → List X
joined_lists [] = []
joined_lists (x ∷ xs) = x ++ joined_lists xs

-- A segment of bits: the number of unused bits, and octets (8.6.2). `unused` are the unused bits.
pub record BitSegment (l : List ℕ) (bs : List Bool) : Type 0 where
  pub octets : List ℕ
  pub unused : List Bool
  pub is : l ≡ length unused ∷ octets
  pub few : length unused < 8
  pub all : bs ++ unused ≡ joined_lists (map bits_of octets)

abbrev pub AllFalse : List Bool → Type 0
AllFalse [] = Unit {0}
AllFalse (x ∷ xs) = (x ≡ false) × AllFalse xs

-- A segment of bits as it is read. Under DER its unused bits are 0 (11.2).
abbrev pub ReadsBitSegment : Codec → List ℕ → List Bool → Type 0
ReadsBitSegment rule l bs = (s : BitSegment l bs) × (IsStrict rule → AllFalse s.unused)

abbrev pub OctetSegment : List ℕ → List ℕ → Type 0
OctetSegment l octets = octets ≡ l

mutual
  -- A string: a primitive encoding, whose contents `segment` reads, or segments, which are strings nested one level
  -- deeper (8.6.4, 8.7.3, 8.23).
  pub data ReadsString {X : Type 0} (rule : Codec) (segment : List ℕ → List X → Type 0) (inner : Tag) : ℕ → Tag → List ℕ → List X → List ℕ → Type 0 where
    primitive : {depth : ℕ} {tag : Tag} {input : List ℕ} {xs : List X} {rest : List ℕ} (contents : List ℕ)
        → Frame (form rule) input tag false rest (definite contents) → segment contents xs → ReadsString rule segment inner depth tag input xs rest
    segments : {depth : ℕ} {tag : Tag} {input : List ℕ} {xs : List X} {rest : List ℕ} (contents : List ℕ) → (IsStrict rule → ⊥)
        → Frame (form rule) input tag true rest (definite contents) → ReadsSegments rule segment inner depth false contents xs [] → ReadsString rule segment inner (suc depth) tag input xs rest
    closed_segments : {depth : ℕ} {tag : Tag} {input : List ℕ} {xs : List X} {rest : List ℕ} (body : List ℕ) → (IsStrict rule → ⊥)
        → Frame (form rule) input tag true body indefinite → ReadsSegments rule segment inner depth true body xs (0 ∷ 0 ∷ rest) → ReadsString rule segment inner (suc depth) tag input xs rest

  -- Segments, one after another, up to the end of the contents.
  pub data ReadsSegments {X : Type 0} (rule : Codec) (segment : List ℕ → List X → Type 0) (inner : Tag) : ℕ → Bool → List ℕ → List X → List ℕ → Type 0 where
    none : {depth : ℕ} {closing : Bool} {input : List ℕ} → Ended closing input → ReadsSegments rule segment inner depth closing input [] input
    one_more : {depth : ℕ} {closing : Bool} {input rest : List ℕ} {xs : List X} (first others : List X) (middle : List ℕ) → (Ended closing input → ⊥)
        → ReadsString rule segment inner depth inner input first middle → ReadsSegments rule segment inner depth closing middle others rest → xs ≡ first ++ others
        → ReadsSegments rule segment inner depth closing input xs rest

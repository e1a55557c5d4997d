-- A header is read exactly if there is a frame.
use Rattle.std.proofs.Common.{◌≡◌, ◌≢◌, ℕ, ◌+◌, ◌-◌, ◌*◌, ◌^◌, ◌<◌, ◌≤◌, ◌⊎◌, inl, inr, Bool, true, false, ◌&&◌, cond, List, [], ◌∷◌, ◌++◌, length, take, drop, Option, Some, None, Result, Ok, Err, refl, sym, ap, ap₂, ◌∙◌, subst, arith, length-take, length-append}
use Rattle.std.specs.Prelude.{nat_lt, nat_eq}
use Rattle.std.specs.Bool.{beq}
use Rattle.std.proofs.lemmas.Bool.Decides.{nat_tests}
use Rattle.std.proofs.lemmas.List.{take-append-drop}
use Rattle.rasn_types.specs.declared.types.tag.Tag.{Tag}
use Rattle.rasn_types.specs.declared.types.tag.Class.{Class}
use Rattle.rasn_types.specs.declared.types.tag.Class.TheVariants.{Universal, Application, Context, Private}
use Rattle.rasn_types.specs.declared.types.codec.Codec.{Codec}
use Rattle.rasn_types.specs.declared.types.codec.Codec.TheVariants.{Ber, Cer, Der as der_rule}
use Rattle.rasn_de.specs.declared.ber.de.parser.headers.Spelling.{Spelling}
use Rattle.rasn_types.specs.Tags.{Form, basic_form, der_form, loose_form, HasStrictForm, IsStrict}
use Rattle.rasn_de.specs.declared.ber.de.parser.ParseError.{ParseError}
use Rattle.rasn_de.specs.declared.ber.de.parser.ParseError.TheVariants.{IndefiniteLengthNotAllowed, ReservedLengthOctet, MismatchedTag, Der}
use Rattle.rasn_types.specs.declared.error.decode.DerDecodeErrorKind.TheVariants.{ConstructedBitMismatch, NonMinimalLength}
use Rattle.rasn_de.specs.declared.ber.de.parser.headers.Expected.{Expected}
use Rattle.rasn_de.specs.declared.ber.de.parser.headers.Expected.TheVariants.{AnyTag, Tagged, Exactly}
use Rattle.rasn_types.specs.Framing.{number_in, SpellsIdentifier, SpellsLength, IsShortestIdentifier, IsShortestLength, Extent, definite, indefinite, Frame, with_length, without_length, HasIndefinite}
use Rattle.rasn_de.specs.Headers.{◌>>=◌, number256_at, spelled, Identified, identifier_at, first_octets, has_spare, long_at, length_at, Header, contents_at, same_class, same_tag, tagged_at, expected_at, as_written, header_by, header_at}
use Rattle.rasn_types.proofs.Time.Spellings.{both_true}
use Rattle.rasn_de.proofs.Headers.Results.{bind_ok, chosen, guarded, AreOctets, octets_back, octets_front}
use Rattle.rasn_de.proofs.Headers.Numbers.{number256_parsed, number256_spelled}
use Rattle.rasn_de.proofs.Headers.Identifiers.{strict_shortest, shortest_strict, expected_false, false_expected, neither_true, identifier_parsed, identifier_spelled, tag_is}

-- what a length read there says of the octets
abbrev pub SpelledLength : Form → Bool → List ℕ → Option ℕ → List ℕ → Type 0
SpelledLength spelling bit l None rest = (bit && (spelled spelling).indefinite ≡ true) × (l ≡ 128 ∷ rest)
SpelledLength spelling bit l (Some n) rest = (front : List ℕ) × SpellsLength front n × (l ≡ front ++ rest) × (HasStrictForm spelling → IsShortestLength front n)

pub octets_parsed : (k : ℕ) (l : List ℕ) (p : List ℕ × List ℕ) → first_octets k l ≡ Ok p → (l ≡ p.0 ++ p.1) × (length p.0 ≡ k)
octets_parsed k l p e =
    let g = guarded (nat_lt (length l) k) _ _ p e in
    let f = g.1 in
    let t = g.0 in
    let h : k ≤ length l = grind (arith, nat_tests) in
    let m : (take k l, drop k l) ≡ p = cc in
    let m0 : take k l ≡ p.0 = ap (λ (z : List ℕ × List ℕ). z.0) m in
    let m1 : drop k l ≡ p.1 = ap (λ (z : List ℕ × List ℕ). z.1) m in
    (sym (take-append-drop k l) ∙ ap₂ ◌++◌ m0 m1, ap length (sym m0) ∙ simp length-take (omega arith))

take_all : (a b : List ℕ) → (take (length a) (a ++ b) ≡ a) × (drop (length a) (a ++ b) ≡ b)
take_all [] b = (refl, refl)
take_all (x ∷ a) b = let r = take_all a b in (ap (λ z. x ∷ z) r.0, r.1)

pub octets_spelled : (a b : List ℕ) (k : ℕ) → length a ≡ k → first_octets k (a ++ b) ≡ Ok (a, b)
octets_spelled a b k e =
    let h : length a ≤ length (a ++ b) = simp length-append (omega arith) in
    let t : nat_lt (length (a ++ b)) (length a) ≡ false = grind (arith, nat_tests) in
    let r = take_all a b in
    rw (← e) (rw (t, r.0, r.1) refl)

-- A length in the long form that has no octets to spare is in the fewest.
spare_parsed : (first : ℕ) (more : List ℕ) (n : ℕ) → has_spare more n ≡ false → IsShortestLength (first ∷ more) n
spare_parsed first [] n e = tt
spare_parsed first (b ∷ l) n e =
    let g = neither_true (nat_eq b 0) (nat_lt n 128) e in
    let g0 = g.0 in
    let g1 = g.1 in
    let k : 128 ≤ n = grind (arith, nat_tests) in
    let m : b ≢ 0 = grind (arith, nat_tests) in
    (k, m)

spare_spelled : (first : ℕ) (more : List ℕ) (n : ℕ) → 0 < length more → IsShortestLength (first ∷ more) n → has_spare more n ≡ false
spare_spelled first [] n h s = absurd (omega arith)
spare_spelled first (b ∷ l) n h s =
    let s0 = s.0 in
    let s1 = s.1 in
    let t : nat_eq b 0 ≡ false = grind (arith, nat_tests) in
    let u : nat_lt n 128 ≡ false = grind (arith, nat_tests) in
    rw (t, u) refl

long_parsed : (shortest : Bool) (k : ℕ) (l : List ℕ) (q : Option ℕ × List ℕ) → AreOctets l → long_at shortest k l ≡ Ok q
    → (more : List ℕ) × (n : ℕ) × (q.0 ≡ Some n) × (l ≡ more ++ q.1) × (length more ≡ k) × (n ≡ number_in 256 more) × (n < 2 ^ 64) × (shortest ≡ true → has_spare more n ≡ false)
unfolding long_at
long_parsed shortest k l q o e = go (bind_ok (first_octets k l) _ q e)
  where
    go : (p : List ℕ × List ℕ) × (first_octets k l ≡ Ok p) × ((number256_at 0 p.0 >>= λ n. cond (shortest && has_spare p.0 n) (Err (Der NonMinimalLength)) (Ok (Some n, p.1))) ≡ Ok q)
        → (more : List ℕ) × (n : ℕ) × (q.0 ≡ Some n) × (l ≡ more ++ q.1) × (length more ≡ k) × (n ≡ number_in 256 more) × (n < 2 ^ 64) × (shortest ≡ true → has_spare more n ≡ false)
    go (p, f, g) =
        let a = octets_parsed k l p f in
        let b = bind_ok (number256_at 0 p.0) _ q g in
        let s = guarded (shortest && has_spare p.0 b.0) _ _ q b.2 in
        let c = number256_parsed 0 p.0 b.0 (octets_front p.0 p.1 (subst AreOctets a.0 o)) (omega arith) b.1 in
        let d = s.1 in
        let m : (Some b.0, p.1) ≡ q = cc in
        let m0 : Some b.0 ≡ q.0 = ap (λ (z : Option ℕ × List ℕ). z.0) m in
        let m1 : p.1 ≡ q.1 = ap (λ (z : Option ℕ × List ℕ). z.1) m in
        (p.0, b.0, sym m0, a.0 ∙ ap (λ z. p.0 ++ z) m1, a.1, c.0 ∙ omega arith, c.1, false_expected shortest (has_spare p.0 b.0) s.0)

long_spelled : (shortest : Bool) (more rest : List ℕ) (k n : ℕ) → AreOctets more → length more ≡ k → n ≡ number_in 256 more → n < 2 ^ 64 → shortest && has_spare more n ≡ false
    → long_at shortest k (more ++ rest) ≡ Ok (Some n, rest)
unfolding long_at
long_spelled shortest more rest k n o e f h s =
    let z : 0 * 256 ^ length more + number_in 256 more ≡ n = sym (f ∙ omega arith) in
    let a = octets_spelled more rest k e in
    let b = number256_spelled 0 more o (subst (λ w. w < 2 ^ 64) (sym z) h) in
    let c : number256_at 0 more ≡ Ok n = b ∙ ap Ok z in
    rw a (rw (c, s) refl)

length_parsed_more : (spelling : Form) (bit : Bool) (b : ℕ) (l : List ℕ) (q : Option ℕ × List ℕ) → b < 256 → AreOctets l → length_at (spelled spelling) bit (b ∷ l) ≡ Ok q → SpelledLength spelling bit (b ∷ l) q.0 q.1
unfolding length_at
length_parsed_more spelling bit b l q o p e = go (chosen (nat_lt b 128) _ _ _ e)
  where
    pairs : (x : Option ℕ) (y : List ℕ) → ◌≡◌ {A = Result (Option ℕ × List ℕ) ParseError} (Ok (x, y)) (Ok q) → SpelledLength spelling bit (b ∷ l) x y → SpelledLength spelling bit (b ∷ l) q.0 q.1
    pairs x y e h = let m : (x, y) ≡ q = cc in subst (λ (z : Option ℕ × List ℕ). SpelledLength spelling bit (b ∷ l) z.0 z.1) m h

    open_form : (nat_eq b 128 ≡ true) → (a : Bool) → bit && (spelled spelling).indefinite ≡ a → ◌≡◌ {A = Result (Option ℕ × List ℕ) ParseError} (cond a (Ok (None, l)) (Err IndefiniteLengthNotAllowed)) (Ok q) → SpelledLength spelling bit (b ∷ l) q.0 q.1
    open_form t true a f = let k : b ≡ 128 = grind (arith, nat_tests) in pairs None l f (a, ap (λ z. z ∷ l) k)
    open_form t false a f = cc

    long_form : (nat_lt b 128 ≡ false) → (nat_eq b 128 ≡ false) → (nat_eq b 255 ≡ false) → long_at (spelled spelling).shortest (b - 128) l ≡ Ok q → SpelledLength spelling bit (b ∷ l) q.0 q.1
    long_form t u v f =
        let r = long_parsed (spelled spelling).shortest (b - 128) l q p f in
        let k : 128 ≤ b = grind (arith, nat_tests) in
        let k1 : b ≢ 128 = grind (arith, nat_tests) in
        let k2 : b ≢ 255 = grind (arith, nat_tests) in
        let e4 = r.4 in
        let s : SpelledLength spelling bit (b ∷ l) (Some r.1) q.1 =
        (b ∷ r.0, inr (omega arith, omega arith, omega arith, r.5, r.6), ap (λ z. b ∷ z) r.3, λ h. spare_parsed b r.0 r.1 (r.7 (shortest_strict spelling h))) in
        subst (λ (z : Option ℕ). SpelledLength spelling bit (b ∷ l) z q.1) (sym r.2) s

    rest3 : (nat_lt b 128 ≡ false) → (nat_eq b 128 ≡ false) → (nat_eq b 255 ≡ false) × (long_at (spelled spelling).shortest (b - 128) l ≡ Ok q) → SpelledLength spelling bit (b ∷ l) q.0 q.1
    rest3 t u (v, f) = long_form t u v f

    rest2 : (nat_lt b 128 ≡ false) → ((nat_eq b 128 ≡ true) × (◌≡◌ {A = Result (Option ℕ × List ℕ) ParseError} (cond (bit && (spelled spelling).indefinite) (Ok (None, l)) (Err IndefiniteLengthNotAllowed)) (Ok q)))
        ⊎ ((nat_eq b 128 ≡ false) × (cond (nat_eq b 255) (Err ReservedLengthOctet) (long_at (spelled spelling).shortest (b - 128) l) ≡ Ok q)) → SpelledLength spelling bit (b ∷ l) q.0 q.1
    rest2 t (inl (u, f)) = open_form u (bit && (spelled spelling).indefinite) refl f
    rest2 t (inr (u, f)) = rest3 t u (guarded (nat_eq b 255) _ _ q f)

    go : ((nat_lt b 128 ≡ true) × (◌≡◌ {A = Result (Option ℕ × List ℕ) ParseError} (Ok (Some b, l)) (Ok q)))
        ⊎ ((nat_lt b 128 ≡ false) × (cond (nat_eq b 128) (cond (bit && (spelled spelling).indefinite) (Ok (None, l)) (Err IndefiniteLengthNotAllowed)) (cond (nat_eq b 255) (Err ReservedLengthOctet) (long_at (spelled spelling).shortest (b - 128) l)) ≡ Ok q)) → SpelledLength spelling bit (b ∷ l) q.0 q.1
    go (inl (t, f)) = let k : b < 128 = grind (arith, nat_tests) in pairs (Some b) l f (b ∷ [], inl (k, refl, refl), refl, λ h. tt)
    go (inr (t, f)) = rest2 t (chosen (nat_eq b 128) _ _ _ f)

pub length_parsed : (spelling : Form) (bit : Bool) (l : List ℕ) (q : Option ℕ × List ℕ) → AreOctets l → length_at (spelled spelling) bit l ≡ Ok q → SpelledLength spelling bit l q.0 q.1
unfolding length_at
length_parsed spelling bit [] q o e = cc
length_parsed spelling bit (b ∷ l) q o e = length_parsed_more spelling bit b l q o.0 o.1 e

pub length_spelled : (spelling : Form) (bit : Bool) (l : List ℕ) (n : Option ℕ) (rest : List ℕ) → AreOctets l → SpelledLength spelling bit l n rest → length_at (spelled spelling) bit l ≡ Ok (n, rest)
unfolding length_at
length_spelled spelling bit l None rest o (a, e) = rw e (rw a refl)
length_spelled spelling bit l (Some n) rest o ([], s, e, short) = absurd s
length_spelled spelling bit l (Some n) rest o (b ∷ more, inl (h, f, g), e, short) =
    let t : nat_lt b 128 ≡ true = grind (arith, nat_tests) in
    rw (e, f, t, g) refl
length_spelled spelling bit l (Some n) rest o (b ∷ more, inr (f, h, k, g, w), e, short) =
    let t : nat_lt b 128 ≡ false = grind (arith, nat_tests) in
    let u : nat_eq b 128 ≡ false = grind (arith, nat_tests) in
    let v : nat_eq b 255 ≡ false = grind (arith, nat_tests) in
    let q = subst AreOctets e o in
    let s = expected_false (spelled spelling).shortest (has_spare more n) (λ i. spare_spelled b more n h (short (strict_shortest spelling i))) in
    let r = long_spelled (spelled spelling).shortest more rest (b - 128) n (octets_front more rest q.1) (omega arith) g w s in
    rw e (rw (t, u, v) r)

indefinite_allowed : (spelling : Form) (bit : Bool) → bit && (spelled spelling).indefinite ≡ true → (bit ≡ true) × HasIndefinite spelling
indefinite_allowed basic_form true e = (refl, tt)
indefinite_allowed der_form true e = cc
indefinite_allowed loose_form true e = cc
indefinite_allowed spelling false e = cc

allowed_indefinite : (spelling : Form) (bit : Bool) → bit ≡ true → HasIndefinite spelling → bit && (spelled spelling).indefinite ≡ true
allowed_indefinite basic_form bit e h = rw e refl
allowed_indefinite der_form bit e h = absurd h
allowed_indefinite loose_form bit e h = absurd h

-- the tag is the one that is expected, and the constructed bit where one is
abbrev pub IsExpected : Expected → Tag → Bool → Type 0
IsExpected AnyTag tag bit = Unit {0}
IsExpected (Tagged wanted) tag bit = tag ≡ wanted
IsExpected (Exactly wanted) tag bit = (tag ≡ wanted.tag) × (bit ≡ wanted.bit)

same_class_is : (c d : Class) → same_class c d ≡ true → c ≡ d
same_class_is Universal Universal e = refl
same_class_is Application Application e = refl
same_class_is Context Context e = refl
same_class_is Private Private e = refl
same_class_is c d e = cc

same_class_self : (c : Class) → same_class c c ≡ true
same_class_self Universal = refl
same_class_self Application = refl
same_class_self Context = refl
same_class_self Private = refl

pub same_tag_is : (s t : Tag) → same_tag s t ≡ true → s ≡ t
same_tag_is s t e =
    let r = both_true (same_class s.class t.class) (nat_eq s.value t.value) e in
    let q = r.1 in
    tag_is s t (same_class_is s.class t.class r.0) (grind (arith, nat_tests))

pub same_tag_self : (s t : Tag) → s ≡ t → same_tag s t ≡ true
same_tag_self s t e =
    let h : nat_eq t.value t.value ≡ true = grind (arith, nat_tests) in
    rw e (rw (same_class_self t.class, h) refl)

tagged_parsed : (wanted tag : Tag) (u : Unit {0}) → tagged_at wanted tag ≡ Ok u → tag ≡ wanted
tagged_parsed wanted tag u e = go (chosen (same_tag tag wanted) _ _ _ e)
  where
    go : ((same_tag tag wanted ≡ true) × (◌≡◌ {A = Result (Unit {0}) ParseError} (Ok tt) (Ok u))) ⊎ ((same_tag tag wanted ≡ false) × (◌≡◌ {A = Result (Unit {0}) ParseError} (Err (MismatchedTag wanted tag)) (Ok u))) → tag ≡ wanted
    go (inl (t, f)) = same_tag_is tag wanted t
    go (inr (t, f)) = cc

bit_parsed : (b c : Bool) (u : Unit {0}) → ◌≡◌ {A = Result (Unit {0}) ParseError} (cond (beq b c) (Ok tt) (Err (Der ConstructedBitMismatch))) (Ok u) → b ≡ c
bit_parsed true true u e = refl
bit_parsed false false u e = refl
bit_parsed true false u e = cc
bit_parsed false true u e = cc

bit_self : (b : Bool) → beq b b ≡ true
bit_self true = refl
bit_self false = refl

expected_parsed : (expected : Expected) (tag : Tag) (bit : Bool) (u : Unit {0}) → expected_at expected tag bit ≡ Ok u → IsExpected expected tag bit
expected_parsed AnyTag tag bit u e = tt
expected_parsed (Tagged wanted) tag bit u e = tagged_parsed wanted tag u e
expected_parsed (Exactly wanted) tag bit u e =
    let t = bind_ok (tagged_at wanted.tag tag) _ u e in
    (tagged_parsed wanted.tag tag t.0 t.1, bit_parsed bit wanted.bit u t.2)

pub expected_spelled : (expected : Expected) (tag : Tag) (bit : Bool) → IsExpected expected tag bit → expected_at expected tag bit ≡ Ok tt
expected_spelled AnyTag tag bit h = refl
expected_spelled (Tagged wanted) tag bit h = rw (same_tag_self tag wanted h) refl
expected_spelled (Exactly wanted) tag bit (h, k) = rw (same_tag_self tag wanted.tag h, k, bit_self wanted.bit) refl

-- what a header that is read has of its identifier
abbrev pub Framed : Form → List ℕ → Tag → Bool → Header → Type 0
Framed spelling input tag bit h = Frame spelling input h.tag h.bit h.rest h.extent × (h.tag ≡ tag) × (h.bit ≡ bit)

contents_parsed : (spelling : Form) (input id : List ℕ) (tag : Tag) (bit : Bool) (n : Option ℕ) (l m : List ℕ) (h : Header) → SpellsIdentifier id tag bit → (HasStrictForm spelling → IsShortestIdentifier id tag) → input ≡ id ++ l
    → SpelledLength spelling bit l n m → contents_at tag bit n m ≡ Ok h → Framed spelling input tag bit h
contents_parsed spelling input id tag bit None l m h s short e (a, f) g =
    let r : record { tag = tag; bit = bit; extent = indefinite; rest = m } ≡ h = cc in
    let t = indefinite_allowed spelling bit a in
    subst (Framed spelling input tag bit) r (without_length id s t.0 t.1 (e ∙ ap (λ z. id ++ z) f), refl, refl)
contents_parsed spelling input id tag bit (Some n) l m h s short e (len, a, f, w) g = go (bind_ok (first_octets n m) _ h g)
  where
    go : (p : List ℕ × List ℕ) × (first_octets n m ≡ Ok p) × (◌≡◌ {A = Result Header ParseError} (Ok (record { tag = tag; bit = bit; extent = definite p.0; rest = p.1 })) (Ok h)) → Framed spelling input tag bit h
    go (p, b, c) =
        let r : record { tag = tag; bit = bit; extent = definite p.0; rest = p.1 } ≡ h = cc in
        let t = octets_parsed n m p b in
        subst (Framed spelling input tag bit) r
        (with_length id len p.0 s (subst (SpellsLength len) (sym t.1) a) (λ k. (short k, subst (IsShortestLength len) (sym t.1) (w k))) (e ∙ ap (λ z. id ++ z) (f ∙ ap (λ z. len ++ z) t.0)), refl, refl)

-- No form has both shortest spellings and an indefinite one.
strict_closed : (spelling : Form) → HasStrictForm spelling → HasIndefinite spelling → ⊥
strict_closed basic_form s i = s
strict_closed der_form s i = i
strict_closed loose_form s i = i

-- What is read is a frame.
pub header_parsed : (spelling : Form) (expected : Expected) (input : List ℕ) (h : Header) → AreOctets input → header_at spelling expected input ≡ Ok h
    → Frame spelling input h.tag h.bit h.rest h.extent × IsExpected expected h.tag h.bit
unfolding header_by
header_parsed spelling expected input h o e = go (bind_ok (identifier_at spelling input) _ h e)
  where
    lengths : (i : Identified) → identifier_at spelling input ≡ Ok i → (q : Option ℕ × List ℕ) × (length_at (spelled spelling) i.bit i.rest ≡ Ok q) × (contents_at i.tag i.bit q.0 q.1 ≡ Ok h)
        → IsExpected expected i.tag i.bit → Frame spelling input h.tag h.bit h.rest h.extent × IsExpected expected h.tag h.bit
    lengths i t (q, f, g) x =
        let s = identifier_parsed spelling input i o t in
        let k = length_parsed spelling i.bit i.rest q (octets_back s.front i.rest (subst AreOctets s.is o)) f in
        let r = contents_parsed spelling input s.front i.tag i.bit q.0 i.rest q.1 h s.spells s.shortest s.is k g in
        (r.0, subst (λ z. IsExpected expected h.tag z) (sym r.2) (subst (λ z. IsExpected expected z i.bit) (sym r.1) x))

    expects : (i : Identified) → identifier_at spelling input ≡ Ok i → (u : Unit {0}) × (expected_at expected i.tag i.bit ≡ Ok u) × ((length_at (spelled spelling) i.bit i.rest >>= λ n. contents_at i.tag i.bit n.0 n.1) ≡ Ok h)
        → Frame spelling input h.tag h.bit h.rest h.extent × IsExpected expected h.tag h.bit
    expects i t (u, x, f) = lengths i t (bind_ok (length_at (spelled spelling) i.bit i.rest) _ h f) (expected_parsed expected i.tag i.bit u x)

    go : (i : Identified) × (identifier_at spelling input ≡ Ok i) × ((expected_at expected i.tag i.bit >>= λ u. length_at (spelled spelling) i.bit i.rest >>= λ n. contents_at i.tag i.bit n.0 n.1) ≡ Ok h)
        → Frame spelling input h.tag h.bit h.rest h.extent × IsExpected expected h.tag h.bit
    go (i, t, f) = expects i t (bind_ok (expected_at expected i.tag i.bit) _ h f)

-- A frame is read.
pub header_spelled : (spelling : Form) (expected : Expected) (input : List ℕ) (tag : Tag) (bit : Bool) (rest : List ℕ) (extent : Extent) → AreOctets input
    → IsExpected expected tag bit → Frame spelling input tag bit rest extent → header_at spelling expected input ≡ Ok (record { tag = tag; bit = bit; extent = extent; rest = rest })
unfolding header_by
header_spelled spelling expected input tag bit rest extent o x (with_length id len contents s a strict e) =
    let i = identifier_spelled spelling id (len ++ (contents ++ rest)) tag bit s (λ h. (strict h).0) in
    let q = length_spelled spelling bit (len ++ (contents ++ rest)) (Some (length contents)) (contents ++ rest)
    (octets_back id (len ++ (contents ++ rest)) (subst AreOctets e o)) (len, a, refl, λ h. (strict h).1) in
    let c = octets_spelled contents rest (length contents) refl in
    rw e (rw i (rw (expected_spelled expected tag bit x) (rw q (rw c refl))))
header_spelled spelling expected input tag bit rest extent o x (without_length id s b h e) =
    let i = identifier_spelled spelling id (128 ∷ rest) tag bit s (λ k. absurd (strict_closed spelling k h)) in
    let q = length_spelled spelling bit (128 ∷ rest) None rest
    (octets_back id (128 ∷ rest) (subst AreOctets e o)) (allowed_indefinite spelling bit b h, refl) in
    rw e (rw i (rw (expected_spelled expected tag bit x) (rw q refl)))

-- the same header by the spelling that the code has
pub spelled_by : (spelling : Form) (s : Spelling) → s ≡ spelled spelling → (expected : Expected) (l : List ℕ) (r : Result Header ParseError) → header_by s expected l ≡ r → header_at spelling expected l ≡ r
spelled_by spelling s e expected l r f = subst (λ z. header_by z expected l ≡ r) e f

-- A tag that is expected as it is written: under DER the bit is the written one.
pub written_tag : (rule : Codec) (wanted tag : Tag) (bit found : Bool) → IsExpected (as_written rule wanted bit) tag found → tag ≡ wanted
written_tag Ber wanted tag bit found e = e
written_tag Cer wanted tag bit found e = e
written_tag der_rule wanted tag bit found e = e.0

pub written_bit : (rule : Codec) (wanted tag : Tag) (bit found : Bool) → IsExpected (as_written rule wanted bit) tag found → IsStrict rule → found ≡ bit
written_bit Ber wanted tag bit found e s = absurd s
written_bit Cer wanted tag bit found e s = absurd s
written_bit der_rule wanted tag bit found e s = e.1

pub as_it_is : (rule : Codec) (tag : Tag) (bit found : Bool) → (IsStrict rule → found ≡ bit) → IsExpected (as_written rule tag bit) tag found
as_it_is Ber tag bit found h = refl
as_it_is Cer tag bit found h = refl
as_it_is der_rule tag bit found h = (refl, h tt)

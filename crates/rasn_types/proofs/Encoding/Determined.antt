-- Octets of contents, headers and strings that are written are determined.
use Rattle.std.proofs.Common.{◌≡◌, ℕ, zero, suc, ◌+◌, ◌-◌, ◌*◌, ◌/◌, ◌%◌, ◌<◌, inl, inr, List, [], ◌∷◌, ◌++◌, length, min, map, Bool, true, ℤ, refl, sym, ap, ap₂, ◌∙◌, subst, arith, append-nil, length-append, chars}
use lib.Utf8.{encodes}
use Rattle.std.proofs.lemmas.Str.{encodes-chars}
use Rattle.rasn_types.specs.Tags.{Codec, Ber, Cer, Der, Tag, in_universal}
use Rattle.rasn_types.specs.Framing.{AreOctets}
use Rattle.rasn_types.specs.Calendar.{Day, Moment}
use Rattle.rasn_types.specs.Time.{written_date, written_generalized, written_utc}
use Rattle.rasn_types.specs.Shapes.{Tree, number, bits, numbers, instant, on_day, Kind, boolean, null, object_identifier, integer, enumerated, octet_string, fixed, numeric, printable, visible, ia5, any_octets, bmp, universal, utf8, real, time_text, time_digits, utc_time, generalized_time, date}
use Rattle.rasn_types.specs.Contents.{ShortArcs, signed, IsBool, IsObjectIdentifier, joined_lists, bits_of, is_set}
use Rattle.rasn_types.specs.Grammar.{Family, plain_family, bit_family, named_family, text_family, units, quads}
use Rattle.rasn_types.specs.Bytes.{Writing, Each, DefiniteForm, IndefiniteForm, PrimitiveEncoding, ConstructedEncoding, AreCut, AllFalse, WritesString, WrittenBits, WritesText, WritesOctets, Written, WritesIn}
use Rattle.rasn_types.proofs.Headers.Frames.{split_one}
use Rattle.rasn_types.proofs.Headers.Digits.{id_shortest_one, length_shortest_one, short_arcs_one, arcs_of, arcs_one}
use Rattle.rasn_types.proofs.Integer.Unique.{signed_one}

pub definite_one : (tag : Tag) (bit : Bool) (k l a b : List ℕ) → DefiniteForm tag bit k a → DefiniteForm tag bit l b → k ≡ l → a ≡ b
definite_one tag bit k l a b h i e =
    let p = id_shortest_one h.id i.id tag bit h.id_spells i.id_spells h.id_shortest i.id_shortest h.id_octets i.id_octets in
    let j : DefiniteForm tag bit k b = subst (λ z. DefiniteForm tag bit z b) (sym e) i in
    let q = length_shortest_one h.len j.len (length k) h.len_spells j.len_spells h.len_shortest j.len_shortest h.len_octets j.len_octets in
    let r = id_shortest_one h.id j.id tag bit h.id_spells j.id_spells h.id_shortest j.id_shortest h.id_octets j.id_octets in
    h.is ∙ (ap₂ (λ x y. x ++ (y ++ k)) r q ∙ sym j.is)

closed_one : (tag : Tag) (k l a b : List ℕ) → IndefiniteForm tag k a → IndefiniteForm tag l b → k ≡ l → a ≡ b
closed_one tag k l a b h i e =
    let p = id_shortest_one h.id i.id tag true h.id_spells i.id_spells h.id_shortest i.id_shortest h.id_octets i.id_octets in
    h.is ∙ (ap₂ (λ x y. x ++ (128 ∷ (y ++ (0 ∷ 0 ∷ [])))) p e ∙ sym i.is)

pub cons_one : (rule : Codec) (tag : Tag) (k l a b : List ℕ) → ConstructedEncoding rule tag k a → ConstructedEncoding rule tag l b → k ≡ l → a ≡ b
cons_one Ber tag k l a b h i e = definite_one tag true k l a b h i e
cons_one Cer tag k l a b h i e = closed_one tag k l a b h i e
cons_one Der tag k l a b h i e = definite_one tag true k l a b h i e

-- The value determines the octets that are written.
abbrev pub IsWrittenOnce : {X : Type 0} → Writing X → Type 0
IsWrittenOnce {X} writes = (x : X) (a b : List ℕ) → writes x a → writes x b → a ≡ b

each_once : {X : Type 0} (writes : Writing X) → IsWrittenOnce writes → (xs : List X) (ls bs : List (List ℕ)) → Each writes xs ls → Each writes xs bs → ls ≡ bs
each_once writes one [] ls bs h k = h ∙ sym k
each_once writes one (x ∷ xs) ls bs (a, c, e, h, hs) (b, d, f, k, ks) = e ∙ (ap₂ ◌∷◌ (one x a b h k) (each_once writes one xs c d hs ks) ∙ sym f)

cut_length : {X : Type 0} (size : ℕ) (q : List X) (qs : List (List X)) → AreCut size (q ∷ qs) → 0 < length (joined_lists (q ∷ qs))
cut_length size q [] h = omega (arith, length-append q [], h.0)
cut_length size q (r ∷ qs) h = omega (arith, length-append q (joined_lists (r ∷ qs)), cut_length size r qs h.1)

pieces_one : {X : Type 0} (size : ℕ) (ps qs : List (List X)) → AreCut size ps → AreCut size qs → joined_lists ps ≡ joined_lists qs → ps ≡ qs
pieces_one size [] qs h k e = absurd h
pieces_one size (p ∷ ps) [] h k e = absurd k
pieces_one size (p ∷ []) (q ∷ []) h k e = ap (λ z. z ∷ []) (sym (append-nil p) ∙ (e ∙ append-nil q))
pieces_one size (p ∷ []) (q ∷ r ∷ qs) h k e =
    let n : length (p ++ []) ≡ length (q ++ joined_lists (r ∷ qs)) = ap length e in
    absurd (omega (arith, length-append p [], length-append q (joined_lists (r ∷ qs)), cut_length size r qs k.1, h.1, k.0))
pieces_one size (p ∷ o ∷ ps) (q ∷ []) h k e =
    let n : length (p ++ joined_lists (o ∷ ps)) ≡ length (q ++ []) = ap length e in
    absurd (omega (arith, length-append q [], length-append p (joined_lists (o ∷ ps)), cut_length size o ps h.1, k.1, h.0))
pieces_one size (p ∷ o ∷ ps) (q ∷ r ∷ qs) h k e =
    let s = split_one p q (joined_lists (o ∷ ps)) (joined_lists (r ∷ qs)) (h.0 ∙ sym k.0) e in
    ap₂ ◌∷◌ s.0 (pieces_one size (o ∷ ps) (r ∷ qs) h.1 k.1 s.1)

abbrev pub Piece : {X : Type 0} → Writing (List X) → Tag → Writing (List X)
Piece writes tag p c = (contents : List ℕ) × writes p contents × PrimitiveEncoding tag contents c

segment_once : {X : Type 0} (writes : Writing (List X)) → IsWrittenOnce writes → (tag : Tag) → IsWrittenOnce (Piece writes tag)
segment_once writes one tag x a b (k, h, i) (l, j, m) = definite_one tag _ k l a b i m (one x k l h j)

str_once : {X : Type 0} (rule : Codec) (writes : Writing (List X)) → IsWrittenOnce writes → (size : ℕ) (inner tag : Tag) → IsWrittenOnce (WritesString rule writes size inner tag)
str_once rule writes one size inner tag x a b (inl (s, c, h, d)) (inl (t, e, k, f)) = segment_once writes one tag x a b (c, h, d) (e, k, f)
str_once rule writes one size inner tag x a b (inl (s, h, i, j)) (inr (c, n, ps, bs, f, cut, each, k)) = absurd (omega (arith, s c))
str_once rule writes one size inner tag x a b (inr (c, n, ps, ls, e, cut, each, k)) (inl (s, h, i, j)) = absurd (omega (arith, s c))
str_once rule writes one size inner tag x a b (inr (c, n, ps, ls, e, cut, each, h)) (inr (d, m, qs, bs, f, cut', each', k)) =
    let p : ps ≡ qs = pieces_one size ps qs cut cut' (sym e ∙ f) in
    let q : ls ≡ bs = each_once (Piece writes inner) (segment_once writes one inner) qs ls bs (subst (λ z. Each (Piece writes inner) z ls) p each) each' in
    cons_one rule tag (joined_lists ls) (joined_lists bs) a b h k (ap joined_lists q)

number_one : (y z : ℤ) → number y ≡ number z → y ≡ z
number_one y z e = cc

pub numbers_one : (k l : List ℕ) → numbers k ≡ numbers l → k ≡ l
numbers_one k l e = cc

bits_one : (k l : List Bool) → bits k ≡ bits l → k ≡ l
bits_one k l e = cc

bool_once : (k l : List ℕ) (z : ℤ) → IsBool Der k z → IsBool Der l z → k ≡ l
bool_once k l z (inl h) (inl i) = h.0 ∙ sym i.0
bool_once k l z (inl h) (inr i) = let e = h.1 in let f = i.1 in cc
bool_once k l z (inr h) (inl i) = let e = h.1 in let f = i.1 in cc
bool_once k l z (inr h) (inr i) = h.0 ∙ sym i.0

first_arcs : (s r x y : ℕ) → x ≡ min 2 (s / 40) → y ≡ s - 40 * min 2 (s / 40) → x ≡ min 2 (r / 40) → y ≡ r - 40 * min 2 (r / 40) → s ≡ r
first_arcs s r x y h i j k = omega arith

identifier_once : (k l a : List ℕ) → IsObjectIdentifier k a → IsObjectIdentifier l a → (m : List ℕ) → ShortArcs k m → (n : List ℕ) → ShortArcs l n → AreOctets k → AreOctets l → k ≡ l
identifier_once k l a (s, ns, h, e) (r, ms, i, f) m p n q o u =
    let g : min 2 (s / 40) ∷ (s - 40 * min 2 (s / 40)) ∷ ns ≡ min 2 (r / 40) ∷ (r - 40 * min 2 (r / 40)) ∷ ms = sym e ∙ f in
    let g0 : min 2 (s / 40) ≡ min 2 (r / 40) = cc in
    let g1 : s - 40 * min 2 (s / 40) ≡ r - 40 * min 2 (r / 40) = cc in
    let g2 : ns ≡ ms = cc in
    let w : s ≡ r = first_arcs s r (min 2 (s / 40)) (s - 40 * min 2 (s / 40)) refl refl g0 g1 in
    let x : m ≡ s ∷ ns = arcs_one m (s ∷ ns) k (arcs_of k m p) h in
    let y : n ≡ r ∷ ms = arcs_one n (r ∷ ms) l (arcs_of l n q) i in
    let z : m ≡ n = x ∙ (ap₂ ◌∷◌ w g2 ∙ sym y) in
    short_arcs_one n k l (subst (ShortArcs k) z p) q o u

contents_once : (kind : Kind) → IsWrittenOnce (Written kind)
contents_once boolean t k l h i =
    let z : h.is.0 ≡ i.is.0 = number_one h.is.0 i.is.0 (sym h.is.1 ∙ i.is.1) in
    bool_once k l i.is.0 (subst (IsBool Der k) z h.is.2) i.is.2
contents_once (integer range) t k l h i = signed_one k l h.shortest i.shortest h.octets i.octets (number_one (signed k) (signed l) (sym h.is.0 ∙ i.is.0))
contents_once (enumerated known) t k l h i = signed_one k l h.shortest i.shortest h.octets i.octets (number_one (signed k) (signed l) (sym h.is.0 ∙ i.is.0))
contents_once null t k l h i = h.is.1 ∙ sym i.is.1
contents_once object_identifier t k l h i =
    let z : h.is.0 ≡ i.is.0 = numbers_one h.is.0 i.is.0 (sym h.is.1 ∙ i.is.1) in
    identifier_once k l i.is.0 (subst (IsObjectIdentifier k) z h.is.2) i.is.2 h.shortest.0 h.shortest.1 i.shortest.0 i.shortest.1 h.octets i.octets
contents_once real t k l h i = (h.is.2.3 tt) ∙ (numbers_one h.is.0 i.is.0 (sym h.is.1 ∙ i.is.1) ∙ sym (i.is.2.3 tt))
contents_once time_text t k l h i = numbers_one k l (sym h.is.0 ∙ i.is.0)
contents_once (time_digits n) t k l h i = numbers_one k l (sym h.is.0 ∙ i.is.0)
contents_once kind t k l h i = absurd h.is

unit_one : (a b c d : ℕ) → b < 256 → d < 256 → 256 * a + b ≡ 256 * c + d → (a ≡ c) × (b ≡ d)
unit_one a b c d h k e = (omega arith, omega arith)

pub units_once : (k l us : List ℕ) → AreOctets k → AreOctets l → units k us → units l us → k ≡ l
units_once [] [] us o u h i = refl
units_once [] (b ∷ []) us o u h i = absurd i
units_once [] (b ∷ d ∷ l) us o u h i = let e = i.1 in cc
units_once (a ∷ []) l us o u h i = absurd h
units_once (a ∷ c ∷ k) [] us o u h i = let e = h.1 in cc
units_once (a ∷ c ∷ k) (b ∷ []) us o u h i = absurd i
units_once (a ∷ c ∷ k) (b ∷ d ∷ l) us o u h i =
    let e : (256 * a + c) ∷ h.0 ≡ (256 * b + d) ∷ i.0 = sym h.1 ∙ i.1 in
    let f : 256 * a + c ≡ 256 * b + d = cc in
    let g : h.0 ≡ i.0 = cc in
    let r = unit_one a c b d o.1.0 u.1.0 f in
    ap₂ ◌∷◌ r.0 (ap₂ ◌∷◌ r.1 (units_once k l i.0 o.1.1 u.1.1 (subst (units k) g h.2) i.2))

quad_one : (a b c d e f g h : ℕ) → b < 256 → c < 256 → d < 256 → f < 256 → g < 256 → h < 256
    → 256 * (256 * (256 * a + b) + c) + d ≡ 256 * (256 * (256 * e + f) + g) + h → (a ≡ e) × (b ≡ f) × (c ≡ g) × (d ≡ h)
quad_one a b c d e f g h p q r s t u w = (omega arith, omega arith, omega arith, omega arith)

quads_once : (k l ns : List ℕ) → AreOctets k → AreOctets l → quads k ns → quads l ns → k ≡ l
quads_once [] [] ns o u h i = refl
quads_once [] (b ∷ []) ns o u h i = absurd i
quads_once [] (b ∷ d ∷ []) ns o u h i = absurd i
quads_once [] (b ∷ d ∷ f ∷ []) ns o u h i = absurd i
quads_once [] (b ∷ d ∷ f ∷ g ∷ l) ns o u h i = let e = i.4 in cc
quads_once (a ∷ []) l ns o u h i = absurd h
quads_once (a ∷ b ∷ []) l ns o u h i = absurd h
quads_once (a ∷ b ∷ c ∷ []) l ns o u h i = absurd h
quads_once (a ∷ b ∷ c ∷ d ∷ k) [] ns o u h i = let e = h.4 in cc
quads_once (a ∷ b ∷ c ∷ d ∷ k) (e ∷ []) ns o u h i = absurd i
quads_once (a ∷ b ∷ c ∷ d ∷ k) (e ∷ f ∷ []) ns o u h i = absurd i
quads_once (a ∷ b ∷ c ∷ d ∷ k) (e ∷ f ∷ g ∷ []) ns o u h i = absurd i
quads_once (a ∷ b ∷ c ∷ d ∷ k) (e ∷ f ∷ g ∷ j ∷ l) ns o u h i =
    let m : h.0 ∷ h.1 ≡ i.0 ∷ i.1 = sym h.4 ∙ i.4 in
    let n : h.0 ≡ i.0 = cc in
    let p : h.1 ≡ i.1 = cc in
    let r = quad_one a b c d e f g j o.1.0 o.1.1.0 o.1.1.1.0 u.1.0 u.1.1.0 u.1.1.1.0 (sym h.2 ∙ (n ∙ i.2)) in
    ap₂ ◌∷◌ r.0 (ap₂ ◌∷◌ r.1 (ap₂ ◌∷◌ r.2 (ap₂ ◌∷◌ r.3 (quads_once k l i.1 o.1.1.1.1 u.1.1.1.1 (subst (quads k) p h.5) i.5))))

moment_one : (m n : Moment) → instant m ≡ instant n → m ≡ n
moment_one m n e = cc

day_one : (c d : Day) → on_day c ≡ on_day d → c ≡ d
day_one c d e = cc

text_once : (kind : Kind) (t : Tree) (k l : List ℕ) → WritesText kind k t → WritesText kind l t → AreOctets k → AreOctets l → k ≡ l
text_once octet_string t k l h i o u = numbers_one k l (sym h ∙ i)
text_once (fixed n) t k l h i o u = numbers_one k l (sym h.0 ∙ i.0)
text_once numeric t k l h i o u = numbers_one k l (sym h.0 ∙ i.0)
text_once printable t k l h i o u = numbers_one k l (sym h.0 ∙ i.0)
text_once visible t k l h i o u = numbers_one k l (sym h.0 ∙ i.0)
text_once ia5 t k l h i o u = numbers_one k l (sym h.0 ∙ i.0)
text_once any_octets t k l h i o u = numbers_one k l (sym h ∙ i)
text_once bmp t k l h i o u =
    let z : h.0 ≡ i.0 = numbers_one h.0 i.0 (sym h.1 ∙ i.1) in units_once k l i.0 o u (subst (units k) z h.2) i.2
text_once universal t k l h i o u =
    let z : h.0 ≡ i.0 = numbers_one h.0 i.0 (sym h.1 ∙ i.1) in quads_once k l i.0 o u (subst (quads k) z h.2) i.2
text_once utf8 t k l h i o u =
    let z : chars k ≡ chars l = numbers_one (chars k) (chars l) (sym h.0 ∙ i.0) in
    sym (encodes-chars k h.1) ∙ (ap encodes z ∙ encodes-chars l i.1)
text_once utc_time t k l h i o u = h.3 ∙ (ap written_utc (moment_one h.0 i.0 (sym h.1 ∙ i.1)) ∙ sym i.3)
text_once generalized_time t k l h i o u = h.3 ∙ (ap written_generalized (moment_one h.0 i.0 (sym h.1 ∙ i.1)) ∙ sym i.3)
text_once date t k l h i o u = h.3 ∙ (ap written_date (day_one h.0 i.0 (sym h.1 ∙ i.1)) ∙ sym i.3)
text_once kind t k l h i o u = absurd h

set_one : (x y : ℕ) → x < 2 → y < 2 → is_set x ≡ is_set y → x ≡ y
set_one zero zero h k e = refl
set_one zero (suc y) h k e = cc
set_one (suc x) zero h k e = cc
set_one (suc x) (suc y) h k e = omega arith

mod_two : (x : ℕ) → x % 2 < 2
mod_two x = omega arith

octet_bits : (a b : ℕ) → a < 256 → b < 256 → a / 128 % 2 ≡ b / 128 % 2 → a / 64 % 2 ≡ b / 64 % 2 → a / 32 % 2 ≡ b / 32 % 2 → a / 16 % 2 ≡ b / 16 % 2
    → a / 8 % 2 ≡ b / 8 % 2 → a / 4 % 2 ≡ b / 4 % 2 → a / 2 % 2 ≡ b / 2 % 2 → a % 2 ≡ b % 2 → a ≡ b
octet_bits a b h k e7 e6 e5 e4 e3 e2 e1 e0 =
    let f7 = top a b h k e7 in
    let f6 = next64 a b f7 e6 in let f5 = next32 a b f6 e5 in let f4 = next16 a b f5 e4 in let f3 = next8 a b f4 e3 in
    let f2 = next4 a b f3 e2 in let f1 = next2 a b f2 e1 in next1 a b f1 e0
  where
    top : (a b : ℕ) → a < 256 → b < 256 → a / 128 % 2 ≡ b / 128 % 2 → a / 128 ≡ b / 128
    top a b h k e = omega arith

    next64 : (a b : ℕ) → a / 128 ≡ b / 128 → a / 64 % 2 ≡ b / 64 % 2 → a / 64 ≡ b / 64
    next64 a b h e = omega arith

    next32 : (a b : ℕ) → a / 64 ≡ b / 64 → a / 32 % 2 ≡ b / 32 % 2 → a / 32 ≡ b / 32
    next32 a b h e = omega arith

    next16 : (a b : ℕ) → a / 32 ≡ b / 32 → a / 16 % 2 ≡ b / 16 % 2 → a / 16 ≡ b / 16
    next16 a b h e = omega arith

    next8 : (a b : ℕ) → a / 16 ≡ b / 16 → a / 8 % 2 ≡ b / 8 % 2 → a / 8 ≡ b / 8
    next8 a b h e = omega arith

    next4 : (a b : ℕ) → a / 8 ≡ b / 8 → a / 4 % 2 ≡ b / 4 % 2 → a / 4 ≡ b / 4
    next4 a b h e = omega arith

    next2 : (a b : ℕ) → a / 4 ≡ b / 4 → a / 2 % 2 ≡ b / 2 % 2 → a / 2 ≡ b / 2
    next2 a b h e = omega arith

    next1 : (a b : ℕ) → a / 2 ≡ b / 2 → a % 2 ≡ b % 2 → a ≡ b
    next1 a b h e = omega arith

all_bits : List ℕ → List Bool
all_bits l = joined_lists (map bits_of l)

all_bits_cons : (a : ℕ) (l : List ℕ) → all_bits (a ∷ l) ≡ bits_of a ++ all_bits l
unfolding all_bits
all_bits_cons a l = refl

all_bits_length : (l : List ℕ) → length (all_bits l) ≡ 8 * length l
unfolding all_bits
all_bits_length [] = refl
all_bits_length (a ∷ l) = let i = all_bits_length l in omega (arith, i)

octets_of_bits : (k l : List ℕ) → AreOctets k → AreOctets l → length k ≡ length l → all_bits k ≡ all_bits l → k ≡ l
unfolding all_bits
octets_of_bits [] [] o u n e = refl
octets_of_bits [] (b ∷ l) o u n e = absurd (omega arith)
octets_of_bits (a ∷ k) [] o u n e = absurd (omega arith)
octets_of_bits (a ∷ k) (b ∷ l) o u n e =
    let p7 : is_set (a / 128 % 2) ≡ is_set (b / 128 % 2) = cc in
    let p6 : is_set (a / 64 % 2) ≡ is_set (b / 64 % 2) = cc in
    let p5 : is_set (a / 32 % 2) ≡ is_set (b / 32 % 2) = cc in
    let p4 : is_set (a / 16 % 2) ≡ is_set (b / 16 % 2) = cc in
    let p3 : is_set (a / 8 % 2) ≡ is_set (b / 8 % 2) = cc in
    let p2 : is_set (a / 4 % 2) ≡ is_set (b / 4 % 2) = cc in
    let p1 : is_set (a / 2 % 2) ≡ is_set (b / 2 % 2) = cc in
    let p0 : is_set (a % 2) ≡ is_set (b % 2) = cc in
    let t : joined_lists (map bits_of k) ≡ joined_lists (map bits_of l) = cc in
    ap₂ ◌∷◌ (octet_bits a b o.0 u.0
    (set_one _ _ (mod_two (a / 128)) (mod_two (b / 128)) p7) (set_one _ _ (mod_two (a / 64)) (mod_two (b / 64)) p6)
    (set_one _ _ (mod_two (a / 32)) (mod_two (b / 32)) p5) (set_one _ _ (mod_two (a / 16)) (mod_two (b / 16)) p4)
    (set_one _ _ (mod_two (a / 8)) (mod_two (b / 8)) p3) (set_one _ _ (mod_two (a / 4)) (mod_two (b / 4)) p2)
    (set_one _ _ (mod_two (a / 2)) (mod_two (b / 2)) p1) (set_one _ _ (mod_two a) (mod_two b) p0))
    (octets_of_bits k l o.1 u.1 (omega arith) t)

false_one : (x y : List Bool) → AllFalse x → AllFalse y → length x ≡ length y → x ≡ y
false_one [] [] h k n = refl
false_one [] (b ∷ y) h k n = absurd (omega arith)
false_one (a ∷ x) [] h k n = absurd (omega arith)
false_one (a ∷ x) (b ∷ y) h k n = ap₂ ◌∷◌ (h.0 ∙ sym k.0) (false_one x y h.1 k.1 (omega arith))

counts : (n u v a b : ℕ) → n + u ≡ 8 * a → n + v ≡ 8 * b → u < 8 → v < 8 → (u ≡ v) × (a ≡ b)
counts n u v a b h k i j = (omega arith, omega arith)

bits_once : IsWrittenOnce WrittenBits
unfolding all_bits
bits_once bs k l h i =
    let p : length bs + length h.is.unused ≡ 8 * length h.is.octets = sym (length-append bs h.is.unused) ∙ (ap length h.is.all ∙ all_bits_length h.is.octets) in
    let q : length bs + length i.is.unused ≡ 8 * length i.is.octets = sym (length-append bs i.is.unused) ∙ (ap length i.is.all ∙ all_bits_length i.is.octets) in
    let c = counts (length bs) (length h.is.unused) (length i.is.unused) (length h.is.octets) (length i.is.octets) p q h.is.few i.is.few in
    let u : h.is.unused ≡ i.is.unused = false_one h.is.unused i.is.unused h.zeros i.zeros c.0 in
    let e : all_bits h.is.octets ≡ all_bits i.is.octets = sym h.is.all ∙ (ap (λ z. bs ++ z) u ∙ i.is.all) in
    let o = subst AreOctets h.is.is h.octets in
    let w = subst AreOctets i.is.is i.octets in
    h.is.is ∙ (ap₂ ◌∷◌ c.0 (octets_of_bits h.is.octets i.is.octets o.1 w.1 c.1 e) ∙ sym i.is.is)

octets_once : IsWrittenOnce WritesOctets
octets_once x k l h i = h.0 ∙ sym i.0

join_octets : (k l : List ℕ) → AreOctets k → AreOctets l → AreOctets (k ++ l)
join_octets [] l h i = i
join_octets (x ∷ k) l h i = (h.0, join_octets k l h.1 i)

pieces_octets : (tag : Tag) (ps bs : List (List ℕ)) → Each (λ p c. (contents : List ℕ) × WritesOctets p contents × PrimitiveEncoding tag contents c) ps bs → AreOctets (joined_lists ps)
pieces_octets tag [] bs h = tt
pieces_octets tag (p ∷ ps) bs (b, cs, e, (c, (f, o), d), h) = join_octets p (joined_lists ps) (subst AreOctets f o) (pieces_octets tag ps cs h)

str_octets : (rule : Codec) (size : ℕ) (inner tag : Tag) (xs b : List ℕ) → WritesString rule WritesOctets size inner tag xs b → AreOctets xs
str_octets rule size inner tag xs b (inl (s, c, (e, o), d)) = subst AreOctets e o
str_octets rule size inner tag xs b (inr (c, n, ps, bs, e, cut, each, d)) = subst AreOctets (sym e) (pieces_octets inner ps bs each)

bits_in_once : (rule : Codec) (tag : Tag) (t : Tree) (a b : List ℕ) (k l : List Bool) → t ≡ bits k → WritesString rule WrittenBits 7992 (in_universal 3) tag k a
    → t ≡ bits l → WritesString rule WrittenBits 7992 (in_universal 3) tag l b → a ≡ b
bits_in_once rule tag t a b k l e h f i =
    str_once rule WrittenBits bits_once 7992 (in_universal 3) tag l a b (subst (λ z. WritesString rule WrittenBits 7992 (in_universal 3) tag z a) (bits_one k l (sym e ∙ f)) h) i

pub in_once : (which : Family) (rule : Codec) (kind : Kind) (tag : Tag) → IsWrittenOnce (WritesIn which rule kind tag)
in_once plain_family rule kind tag t a b (k, h, i) (l, j, m) = definite_one tag _ k l a b i m (contents_once kind t k l h j)
in_once bit_family rule kind tag t a b (k, e, h) (l, f, i) = bits_in_once rule tag t a b k l e h f i
in_once named_family rule kind tag t a b (k, e, m, h) (l, f, n, i) = bits_in_once rule tag t a b k l e h f i
in_once text_family rule kind tag t a b (k, x, h) (l, y, i) =
    let e : k ≡ l = text_once kind t k l x y (str_octets rule 1000 (in_universal 4) tag k a h) (str_octets rule 1000 (in_universal 4) tag l b i) in
    str_once rule WritesOctets octets_once 1000 (in_universal 4) tag l a b (subst (λ z. WritesString rule WritesOctets 1000 (in_universal 4) tag z a) e h) i

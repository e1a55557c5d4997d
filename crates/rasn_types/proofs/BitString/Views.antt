-- Parts of the bits that octets hold.
use Rattle.std.proofs.Common.{◌≡◌, ℕ, zero, suc, ◌+◌, ◌-◌, ◌*◌, ◌/◌, ◌%◌, ◌^◌, ◌<◌, ◌≤◌, ◌≢◌, inl, inr, Bool, true, false, not, Result, Ok, Err, List, [], ◌∷◌, ◌++◌, length, take, drop, get_or, refl, sym, ap, ap₂, ◌∙◌, subst, arith, nat_eq}
use Rattle.std.proofs.lemmas.List.{append_assoc, append-nil, length-append, length-take-le, length-drop, length-replicate, take-take, take-append-le, drop-append-le, drop-drop, take_all, drop-take, take_rest, get_or-take, get_or-drop, get_or_append_left, drop_more}
use Rattle.std.specs.Bool.{Decides, beq}
use Rattle.std.specs.Result.{OnOk}
use Rattle.std.specs.Cmp.{booleans_Decides}
use Rattle.std.specs.Cmp.Lexicographic.{pointwise, pointwise_decides, bytes_decides}
use Rattle.std.proofs.lemmas.Bool.Decides.{Decides-eqb, same_from_decides}
use Rattle.rasn_types.specs.Framing.{AreOctets}
use Rattle.rasn_types.specs.Contents.{bits_of, is_set}
use Rattle.rasn_types.specs.BitPacking.{Shifts, Clears, ClearsOne, Joins}
use Rattle.rasn_types.specs.BitString.{bits_in, zeros, bits_from, Pushes, HoldsBits, but_last}
use Rattle.rasn_types.proofs.BitString.Bits.{length-bits_in, bits_in-append, bits_in-drop, bits_in-take, consume_behind, value, value_octet}

pub length-bits_from : (start len : ℕ) (octets : List ℕ) → start + len ≤ 8 * length octets → length (bits_from start len octets) ≡ len
length-bits_from start len octets h =
    length-take-le len (drop start (bits_in octets)) (omega (arith, length-drop start (bits_in octets), length-bits_in octets))

pub bits_from_part : (k s start len : ℕ) (octets : List ℕ) → start ≡ 8 * k + s → bits_from s len (take (length octets - k) (drop k octets)) ≡ bits_from start len octets
bits_from_part k s start len octets e =
    ap (λ z. bits_from s len z) (take_rest octets k)
    ∙ (ap (λ z. take len (drop s z)) (bits_in-drop k octets)
    ∙ (ap (take len) (drop-drop s (8 * k) (bits_in octets)) ∙ ap (λ z. bits_from z len octets) (sym e)))

pub bits_from_front : (held start len : ℕ) (octets : List ℕ) → start + len ≤ 8 * held → bits_from start len (take held octets) ≡ bits_from start len octets
bits_from_front held start len octets h =
    let m = 8 * held - start in
    let e : 8 * held ≡ start + m = omega arith in
    ap (λ z. take len (drop start z)) (bits_in-take held octets)
    ∙ (ap (λ z. take len (drop start (take z (bits_in octets)))) e
    ∙ (ap (take len) (drop-take start m (bits_in octets)) ∙ take-take len m (drop start (bits_in octets)) (omega arith)))

-- The bits before a position, and those from it on.
pub front_bits : (place start len : ℕ) (octets : List ℕ) → place ≤ len → bits_from start place octets ≡ take place (bits_from start len octets)
front_bits place start len octets h = sym (take-take place len (drop start (bits_in octets)) h)

pub back_bits : (place start len : ℕ) (octets : List ℕ) → place ≤ len → bits_from (start + place) (len - place) octets ≡ drop place (bits_from start len octets)
back_bits place start len octets h =
    let e : len ≡ place + (len - place) = omega arith in
    sym (ap (λ z. drop place (take z (drop start (bits_in octets)))) e
    ∙ (drop-take place (len - place) (drop start (bits_in octets)) ∙ ap (take (len - place)) (drop-drop place start (bits_in octets))))

-- ---- one bit
set_one : (n : ℕ) → n < 2 → nat_eq n 1 ≡ is_set n
set_one zero h = refl
set_one (suc zero) h = refl
set_one (suc (suc n)) h = absurd (omega arith)

by_one : (n : ℕ) → n / 1 ≡ n
by_one n = omega arith

mod_two : (n : ℕ) → n % 2 < 2
mod_two n = omega arith

octet_bit : (x j : ℕ) (d : Bool) → j < 8 → nat_eq (x / 2 ^ (7 - j) % 2) 1 ≡ get_or (bits_of x) j d
octet_bit x zero d h = set_one (x / 128 % 2) (mod_two (x / 128))
octet_bit x (suc zero) d h = set_one (x / 64 % 2) (mod_two (x / 64))
octet_bit x (suc (suc zero)) d h = set_one (x / 32 % 2) (mod_two (x / 32))
octet_bit x (suc (suc (suc zero))) d h = set_one (x / 16 % 2) (mod_two (x / 16))
octet_bit x (suc (suc (suc (suc zero)))) d h = set_one (x / 8 % 2) (mod_two (x / 8))
octet_bit x (suc (suc (suc (suc (suc zero))))) d h = set_one (x / 4 % 2) (mod_two (x / 4))
octet_bit x (suc (suc (suc (suc (suc (suc zero)))))) d h = set_one (x / 2 % 2) (mod_two (x / 2))
octet_bit x (suc (suc (suc (suc (suc (suc (suc zero))))))) d h = ap (λ z. nat_eq (z % 2) 1) (by_one x) ∙ set_one (x % 2) (mod_two x)
octet_bit x (suc (suc (suc (suc (suc (suc (suc (suc j)))))))) d h = absurd (omega arith)

pub bit_in : (l : List ℕ) (k j i : ℕ) (d : Bool) → j < 8 → k < length l → i ≡ 8 * k + j → nat_eq (get_or l k 0 / 2 ^ (7 - j) % 2) 1 ≡ get_or (bits_in l) i d
bit_in l k j i d h n e =
    let x = get_or l k 0 in
    let r = bits_in (drop (k + 1) l) in
    octet_bit x j d h
    ∙ (sym (get_or_append_left (bits_of x) r d j h)
    ∙ (ap (λ z. get_or (bits_in z) j d) (sym (drop_more l k 0 n))
    ∙ (ap (λ z. get_or z j d) (bits_in-drop k l)
    ∙ (get_or-drop (8 * k) (bits_in l) j d ∙ ap (λ z. get_or (bits_in l) z d) (sym e)))))

pub bit_from : (l : List ℕ) (k j start len i : ℕ) (d : Bool) → j < 8 → k < length l → start + i ≡ 8 * k + j → i < len → nat_eq (get_or l k 0 / 2 ^ (7 - j) % 2) 1 ≡ get_or (bits_from start len l) i d
bit_from l k j start len i d h n e b =
    bit_in l k j (start + i) d h n e ∙ (sym (get_or-drop start (bits_in l) i d) ∙ sym (get_or-take len (drop start (bits_in l)) i d b))

-- ---- packed bits
last_split : (old k front : List ℕ) (last : ℕ) → 0 < length k → old ++ k ≡ front ++ last ∷ [] → (f : List ℕ) × (front ≡ old ++ f) × (k ≡ f ++ last ∷ [])
last_split [] k front last h e = (front, refl, e)
last_split (x ∷ old) k [] last h e =
    let n : length (x ∷ (old ++ k)) ≡ 1 = ap length e in absurd (omega (arith, n, length-append old k))
last_split (x ∷ old) k (y ∷ front) last h e =
    let xy : x ≡ y = cc in
    let m : old ++ k ≡ front ++ last ∷ [] = cc in
    let r = last_split old k front last h m in
    (r.0, ap₂ (λ a b. a ∷ b) (sym xy) r.1, r.2)

-- The last bits of octets that are appended to others are cleared.
pub cleared_end : (u len : ℕ) (old k new : List ℕ) → u < 8 → len + u ≡ 8 * length k → 0 < length k → ClearsOne u (old ++ k) new → Pushes (take len (bits_in k)) old new
cleared_end u len old k new h n some c =
    let s = last_split old k c.front c.last some c.was in
    let f = s.0 in
    let e : bits_in k ≡ bits_in f ++ bits_of c.last = ap bits_in s.2 ∙ bits_in-append f (c.last ∷ []) in
    let m : length k ≡ length f + 1 = ap length s.2 ∙ length-append f (c.last ∷ []) in
    let t : take len (bits_in k) ≡ bits_in f ++ take (8 - u) (bits_of c.last) =
    ap (take len) e ∙ consume_behind (bits_in f) (bits_of c.last) (8 - u) len (omega (arith, length-bits_in f, m, n)) in
    record {
      octets = f ++ c.clear ∷ [];
      is = c.is ∙ (ap (λ z. z ++ c.clear ∷ []) s.1 ∙ append_assoc old f (c.clear ∷ []));
      packs = record {
        unused = u;
        few = h;
        all = bits_in-append f (c.clear ∷ []) ∙ (ap (λ z. bits_in f ++ z) c.cleared ∙ (sym (append_assoc (bits_in f) (take (8 - u) (bits_of c.last)) (zeros u)) ∙ ap (λ z. z ++ zeros u) (sym t)));
      };
    }

length-zeros : (n : ℕ) → length (zeros n) ≡ n
length-zeros n = length-replicate n false

-- The octets that are kept of bits that are appended to others, shifted and cut.
cut_kept : (shift held n : ℕ) (octets old mid cut : List ℕ) → shift ≤ 8 * held → n ≤ held → held ≤ length octets → (s : Shifts shift (take held octets) old mid) → cut ≡ take (length old + n) mid
    → (length (take n s.added) ≡ n) × (cut ≡ old ++ take n s.added)
cut_kept shift held n octets old mid cut f h there s c =
    (length-take-le n s.added (omega (arith, long)), c ∙ (ap (take (length old + n)) s.is ∙ consume_behind old s.added n (length old + n) refl))
  where
    long : 8 * length s.added ≡ 8 * held
    long =
        let a = ap length s.all in
        let b = length-append (drop shift (bits_in (take held octets))) (zeros shift) in
        omega (
          arith,
          a,
          b,
          length-bits_in s.added,
          length-drop shift (bits_in (take held octets)),
          length-bits_in (take held octets),
          length-take-le held octets there,
          length-zeros shift,
        )

-- Bits that are appended to others, shifted, cut and cleared, are packed.
pub packed : (shift len held n u : ℕ) (octets old mid cut new : List ℕ) → shift < 8 → 0 < len → shift + len ≤ 8 * held → held ≤ length octets → len + u ≡ 8 * n → u < 8
    → Shifts shift (take held octets) old mid → cut ≡ take (length old + n) mid → Clears u cut new → Pushes (bits_from shift len octets) old new
packed shift len held n u octets old mid cut new h some fits there e few s c (inl (x, y)) =
    let k = cut_kept shift held n octets old mid cut (omega arith) (omega arith) there s c in
    absurd (omega (arith, ap length (sym x ∙ k.1), length-append old (take n s.added), k.0))
packed shift len held n u octets old mid cut new h some fits there e few s c (inr x) =
    let k = cut_kept shift held n octets old mid cut (omega arith) (omega arith) there s c in
    subst (λ z. Pushes z old new) same
    (cleared_end u len old (take n s.added) new few (omega (arith, k.0)) (omega (arith, k.0)) (subst (λ z. ClearsOne u z new) k.1 x))
  where
    same : take len (bits_in (take n s.added)) ≡ bits_from shift len octets
    same =
        ap (take len) (bits_in-take n s.added)
        ∙ (take-take len (8 * n) (bits_in s.added) (omega arith)
        ∙ (ap (take len) s.all
        ∙ (take-append-le len (drop shift (bits_in (take held octets))) (zeros shift) (omega (arith, length-drop shift (bits_in (take held octets)), length-bits_in (take held octets), length-take-le held octets there))
        ∙ bits_from_front held shift len octets fits)))

-- ---- strings and collected bits
-- Bits are kept in as few octets as possible.
pub kept : (len n u : ℕ) (octets cut new : List ℕ) → len + u ≡ 8 * n → u < 8 → n ≤ length octets → cut ≡ take n octets → Clears u cut new → AreOctets new
    → HoldsBits len new × (bits_from 0 len new ≡ bits_from 0 len octets)
kept len n u octets cut new e few there c (inl (x, y)) o =
    let m = ap length (sym c ∙ x) in
    let z : len ≡ 0 = omega (arith, m, length-take-le n octets there) in
    rw (y, z) (record { held = omega arith; packs = record { unused = 0; few = omega arith; all = refl }; are = tt }, refl)
kept len n u octets cut new e few there c (inr x) o =
    let m : length cut ≡ n = ap length c ∙ length-take-le n octets there in
    let w = ap length x.was ∙ length-append x.front (x.last ∷ []) in
    let p = cleared_end u len [] cut new few (omega (arith, m)) (omega (arith, w)) x in
    let d : take len (bits_in cut) ≡ bits_from 0 len octets = ap (λ z. take len (bits_in z)) c ∙ bits_from_front n 0 len octets (omega (arith)) in
    let a : bits_in new ≡ take len (bits_in cut) ++ zeros p.packs.unused = ap bits_in p.is ∙ p.packs.all in
    let b : length (take len (bits_in cut)) ≡ len = length-take-le len (bits_in cut) (omega (arith, length-bits_in cut, m)) in
    let f : take len (bits_in new) ≡ take len (bits_in cut) =
    ap (take len) a ∙ (consume_behind (take len (bits_in cut)) (zeros p.packs.unused) 0 len (omega (arith, b)) ∙ append-nil (take len (bits_in cut))) in
    let g = ap length a in (
      record {
        held = omega (arith, g, length-append (take len (bits_in cut)) (zeros p.packs.unused), b, length-bits_in new);
        packs = record { unused = p.packs.unused; few = p.packs.few; all = a ∙ ap (λ z. z ++ zeros p.packs.unused) (sym f) };
        are = o;
      },
      f ∙ d,
    )

-- Octets into which only these bits were put hold them.
pub pushed : (bs : List Bool) (n : ℕ) (new : List ℕ) → n ≡ length bs → Pushes bs [] new → AreOctets new → HoldsBits n new × (bits_from 0 n new ≡ bs)
pushed bs n new l p o =
    let e : bits_in new ≡ bs ++ zeros p.packs.unused = ap bits_in p.is ∙ p.packs.all in
    let f : take n (bits_in new) ≡ bs = ap (take n) e ∙ (consume_behind bs (zeros p.packs.unused) 0 n (omega (arith, l)) ∙ append-nil bs) in
    let g = ap length e in (
      record {
        held = omega (arith, g, length-append bs (zeros p.packs.unused), l, length-bits_in new);
        packs = record { unused = p.packs.unused; few = p.packs.few; all = e ∙ ap (λ z. z ++ zeros p.packs.unused) (sym f) };
        are = o;
      },
      f,
    )

-- Octets that are appended to whole octets.
pub collects_whole : (unused : ℕ) (octets more new : List ℕ) → unused ≤ 8 * length more → new ≡ octets ++ more → but_last unused new ≡ but_last 0 octets ++ but_last unused more
collects_whole unused octets more new h e =
    let n : length new ≡ length octets + length more = ap length e ∙ length-append octets more in
    let a : bits_in new ≡ bits_in octets ++ bits_in more = ap bits_in e ∙ bits_in-append octets more in
    ap (take (8 * length new - unused)) a
    ∙ (consume_behind (bits_in octets) (bits_in more) (8 * length more - unused) (8 * length new - unused) (omega (arith, length-bits_in octets))
    ∙ ap (λ z. z ++ but_last unused more) (sym (take_all (8 * length octets - 0) (bits_in octets) (omega (arith, length-bits_in octets)))))

pub length-but_last : (u : ℕ) (octets : List ℕ) → length (but_last u octets) ≡ 8 * length octets - u
length-but_last u octets = length-take-le (8 * length octets - u) (bits_in octets) (omega (arith, length-bits_in octets))

-- Octets of which some bits are used.
pub some_bits : (u : ℕ) (octets : List ℕ) → u < 8 → 0 < length octets → but_last u octets ≢ []
some_bits u octets few h e = let n : length (but_last u octets) ≡ 0 = ap length e in omega (arith, length-but_last u octets, n, few, h)

-- Octets that are appended to others, whose last octet has unused bits.
pub joins : (u last moved : ℕ) (octets front more new : List ℕ) → drop u (bits_of moved) ≡ take (8 - u) (bits_of last) → u < 8 → octets ≡ front ++ last ∷ [] → Shifts u (moved ∷ more) front new → Joins u octets more new
joins u last moved octets front more new down few e s = record { long = long; all = all }
  where
    n : length octets ≡ length front + 1
    n = ap length e ∙ length-append front (last ∷ [])

    behind : bits_in s.added ≡ take (8 - u) (bits_of last) ++ (bits_in more ++ zeros u)
    behind =
        let d : drop u (bits_of moved ++ bits_in more) ≡ take (8 - u) (bits_of last) ++ bits_in more =
        drop-append-le u (bits_of moved) (bits_in more) (omega arith) ∙ ap (λ z. z ++ bits_in more) down in
        s.all ∙ (ap (λ z. z ++ zeros u) d ∙ append_assoc (take (8 - u) (bits_of last)) (bits_in more) (zeros u))

    held : but_last u octets ≡ bits_in front ++ take (8 - u) (bits_of last)
    held =
        ap (take (8 * length octets - u)) (ap bits_in e ∙ bits_in-append front (last ∷ []))
        ∙ consume_behind (bits_in front) (bits_of last) (8 - u) (8 * length octets - u) (omega (arith, length-bits_in front, n))

    all : bits_in new ≡ but_last u octets ++ (bits_in more ++ zeros u)
    all =
        ap bits_in s.is ∙ (bits_in-append front s.added ∙ (ap (λ z. bits_in front ++ z) behind
        ∙ (sym (append_assoc (bits_in front) (take (8 - u) (bits_of last)) (bits_in more ++ zeros u)) ∙ ap (λ z. z ++ (bits_in more ++ zeros u)) (sym held))))

    long : length new ≡ length octets + length more
    long =
        let a = ap length all in
        omega (arith, a, length-append (but_last u octets) (bits_in more ++ zeros u), length-append (bits_in more) (zeros u), length-bits_in new, length-bits_in more, length-zeros u, length-but_last u octets, n)

pub joined_bits : (u unused : ℕ) (octets more new : List ℕ) → u ≤ 8 * length octets → unused ≤ 8 * length more → Joins u octets more new → but_last (u + unused) new ≡ but_last u octets ++ but_last unused more
joined_bits u unused octets more new k h j =
    ap (take (8 * length new - (u + unused))) j.all
    ∙ (consume_behind (but_last u octets) (bits_in more ++ zeros u) (8 * length more - unused) (8 * length new - (u + unused)) (omega (arith, length-but_last u octets, j.long))
    ∙ ap (λ z. but_last u octets ++ z) (take-append-le (8 * length more - unused) (bits_in more) (zeros u) (omega (arith, length-bits_in more))))

-- If eight or more last bits are left out, the bits are those of one octet less.
pub but_last_popped : (v : ℕ) (octets : List ℕ) → 8 ≤ v → v ≤ 8 * length octets → but_last (v - 8) (take (length octets - 1) octets) ≡ take (8 * length octets - v) (bits_in octets)
but_last_popped v octets h k =
    let n : length (take (length octets - 1) octets) ≡ length octets - 1 = length-take-le (length octets - 1) octets (omega arith) in
    let e : 8 * length (take (length octets - 1) octets) - (v - 8) ≡ 8 * length octets - v = omega (arith, n) in
    ap (λ z. take z (bits_in (take (length octets - 1) octets))) e
    ∙ (ap (take (8 * length octets - v)) (bits_in-take (length octets - 1) octets) ∙ take-take (8 * length octets - v) (8 * (length octets - 1)) (bits_in octets) (omega arith))

pub first_more : (l : List ℕ) → 1 ≤ length l → get_or l 0 0 ∷ take (length l - 1) (drop 1 l) ≡ l
first_more [] h = absurd (omega arith)
first_more (x ∷ l) h = ap (λ z. x ∷ z) (take_all (length (x ∷ l) - 1) l (omega arith))

-- ---- equality
-- What a type says of its octets.
pub octets_by : (l : List ℕ) → ((i d : ℕ) → i < length l → get_or l i d < 256) → AreOctets l
octets_by [] h = tt
octets_by (x ∷ l) h = (h 0 0 (omega arith), octets_by l (λ i d n. h (suc i) d (omega (arith, n))))

octet_one : (a b : ℕ) → a < 256 → b < 256 → bits_of a ≡ bits_of b → a ≡ b
octet_one a b h k e = sym (value_octet a h) ∙ (ap value e ∙ value_octet b k)

pub octets_one : (k l : List ℕ) → AreOctets k → AreOctets l → bits_in k ≡ bits_in l → k ≡ l
octets_one [] [] o u e = refl
octets_one [] (b ∷ l) o u e = let n = ap length e in absurd (omega (arith, n, length-bits_in l))
octets_one (a ∷ k) [] o u e = let n = ap length e in absurd (omega (arith, n, length-bits_in k))
octets_one (a ∷ k) (b ∷ l) o u e = ap₂ (λ x y. x ∷ y) (octet_one a b o.0 u.0 (ap (take 8) e)) (octets_one k l o.1 u.1 (ap (drop 8) e))

same_count : (n u v a b : ℕ) → n + u ≡ 8 * a → n + v ≡ 8 * b → u < 8 → v < 8 → u ≡ v
same_count n u v a b h k i j = omega arith

-- Octets that are as few as possible for their bits are determined by the bits.
pub kept_one : (len : ℕ) (k l : List ℕ) → HoldsBits len k → HoldsBits len l → bits_from 0 len k ≡ bits_from 0 len l → k ≡ l
kept_one len k l p q e =
    let a = ap length p.packs.all in
    let b = ap length q.packs.all in
    let c : p.packs.unused ≡ q.packs.unused = same_count len p.packs.unused q.packs.unused (length k) (length l)
    (omega (arith, a, length-append (bits_from 0 len k) (zeros p.packs.unused), length-take-le len (bits_in k) (omega (arith, p.held, length-bits_in k)), length-zeros p.packs.unused, length-bits_in k))
    (omega (arith, b, length-append (bits_from 0 len l) (zeros q.packs.unused), length-take-le len (bits_in l) (omega (arith, q.held, length-bits_in l)), length-zeros q.packs.unused, length-bits_in l))
    p.packs.few q.packs.few in
    octets_one k l p.are q.are (p.packs.all ∙ (ap₂ (λ x y. x ++ zeros y) e c ∙ sym q.packs.all))

pub equal_bits : (m n : ℕ) (k l : List ℕ) (r : Bool) → HoldsBits m k → HoldsBits n l → m ≡ n → r ≡ pointwise nat_eq k l → r ≡ pointwise beq (bits_from 0 m k) (bits_from 0 n l)
equal_bits m n k l r p q e f = same_from_decides r (pointwise beq (bits_from 0 m k) (bits_from 0 n l)) (there, back) (pointwise_decides booleans_Decides (bits_from 0 m k) (bits_from 0 n l))
  where
    told : Decides (pointwise nat_eq k l) (k ≡ l)
    told = bytes_decides k l

    there : r ≡ true → bits_from 0 m k ≡ bits_from 0 n l
    there h = ap₂ (λ x y. bits_from 0 x y) e (told.0 (sym f ∙ h))

    back : bits_from 0 m k ≡ bits_from 0 n l → r ≡ true
    back h = f ∙ told.1 (kept_one m k l p (subst (λ z. HoldsBits z l) (sym e) q) (h ∙ ap (λ z. bits_from 0 z l) (sym e)))

pub unequal_bits : (m n : ℕ) (k l : List ℕ) → HoldsBits m k → HoldsBits n l → m ≢ n → nat_eq m n ≡ pointwise beq (bits_from 0 m k) (bits_from 0 n l)
unequal_bits m n k l p q e = same_from_decides (nat_eq m n) (pointwise beq (bits_from 0 m k) (bits_from 0 n l)) (there, back) (pointwise_decides booleans_Decides (bits_from 0 m k) (bits_from 0 n l))
  where
    there : nat_eq m n ≡ true → bits_from 0 m k ≡ bits_from 0 n l
    there h = absurd (e ((Decides-eqb m n).0 h))

    back : bits_from 0 m k ≡ bits_from 0 n l → nat_eq m n ≡ true
    back h =
        let a = ap length h in
        absurd (e (omega (arith, a, length-take-le m (bits_in k) (omega (arith, p.held, length-bits_in k)), length-take-le n (bits_in l) (omega (arith, q.held, length-bits_in l)))))

-- Two lists of bits that differ at a position, and two whose bits are equal so far.
pub one_bit : (x y : Bool) → not (beq x y) ≡ false → x ≡ y
one_bit true true e = refl
one_bit true false e = cc
one_bit false true e = cc
one_bit false false e = refl

other_bit : (x y : Bool) → not (beq x y) ≡ true → x ≢ y
other_bit true true e f = cc
other_bit true false e f = cc
other_bit false true e f = cc
other_bit false false e f = cc

pub bits_apart : (k l : List Bool) (i : ℕ) (x y : Bool) → x ≡ get_or k i false → y ≡ get_or l i false → not (beq x y) ≡ true → false ≡ pointwise beq k l
bits_apart k l i x y p q e =
    same_from_decides false (pointwise beq k l) (λ f. cc, λ f. absurd (other_bit x y e (p ∙ (ap (λ z. get_or z i false) f ∙ sym q))))
    (pointwise_decides booleans_Decides k l)

pub bits_alike : (k l : List Bool) (i : ℕ) → take i k ≡ take i l → length k ≤ i → length l ≤ i → true ≡ pointwise beq k l
bits_alike k l i e h n =
    same_from_decides true (pointwise beq k l) (λ f. sym (take_all i k h) ∙ (e ∙ take_all i l n), λ f. refl)
    (pointwise_decides booleans_Decides k l)

-- Bits that begin with the first bit of an octet are packed once their octets are appended, and the last one is cleared.
pub aligned : (len n u : ℕ) (octets old new : List ℕ) → 0 < len → n ≤ length octets → len + u ≡ 8 * n → u < 8 → Clears u (old ++ take n octets) new → Pushes (bits_from 0 len octets) old new
aligned len n u octets old new some there e few c =
    let k : length (old ++ take n octets) ≤ length old + n = omega (arith, length-append old (take n octets), length-take-le n octets there) in
    packed 0 len n n u octets old _ _ new (omega arith) some (omega arith) there e few
    (record { added = take n octets; is = refl; all = sym (append-nil (bits_in (take n octets))) }) (sym (take_all (length old + n) (old ++ take n octets) k)) c

pub on_ok : {X E : Type 0} {P Q : Type 0} (r : Result X E) → (P → Q) → OnOk r P → OnOk r Q
on_ok (Ok x) f p = f p
on_ok (Err e) f p = tt

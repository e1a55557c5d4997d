-- Named numbers, NULL and object identifiers in a header are their octets.
use Rattle.std.proofs.Common.{◌≡◌, subst, Bool, true, false, cond, ℕ, zero, suc, ◌+◌, ◌*◌, ◌^◌, ◌-◌, ◌/◌, ◌<◌, ◌≤◌, ◌⊎◌, inl, inr, List, [], ◌∷◌, ◌++◌, length, take, drop, get_or, refl, sym, ap, ap₂, ◌∙◌, Result, OnOk, IfErr, pos, ℤ, arith}
use Rattle.std.specs.Prelude.{Contains, min, ltb}
use Rattle.std.proofs.lemmas.Result.{on_ok_weaker, IfErr-weaker}
use Rattle.std.proofs.lemmas.List.{append_assoc, append-nil, length-append, take_rest}
use Rattle.std.specs.List.{AllByRecursion}
use Rattle.rasn_types.specs.Tags.{tag_bit}
use Rattle.rasn_types.specs.Framing.{AreOctets}
use Rattle.rasn_types.specs.Shapes.{number, numbers, leaf, null, object_identifier, integer, enumerated, Interval}
use Rattle.rasn_types.specs.Contents.{signed, ShortArcs, IsObjectIdentifier}
use Rattle.rasn_types.specs.Trees.{unconstrained}
use Rattle.rasn_types.specs.Bytes.{IsUntaggedOpen, PrimitiveEncoding, Written, Bytes}
use Rattle.rasn_types.specs.declared.types.tag.Tag.{Tag}
use Rattle.rasn_types.specs.declared.types.constraints.Constraints.{Constraints}
use Rattle.rasn_types.specs.declared.error.encode.EncodeError.{EncodeError}
use Rattle.rasn_types.proofs.Headers.Digits.{arcs_of}
use Rattle.rasn_enc.specs.Headers.{digits, chained, group_count}
use Rattle.rasn_enc.specs.View.{View}
use Rattle.rasn_enc.specs.Primitive.{Appends, IsAllocError}
use Rattle.rasn_enc.specs.Buffer.Contents.{AppendsOctets}
use Rattle.rasn_enc.specs.Encoding.{AppendsEncoding, EncodeFails}
use Rattle.rasn_enc.specs.ObjectIdentifier.{AreEncodable, AreSubidentifiers, subidentifier_octets, AppendsContents, FailsAtArcs}
use Rattle.rasn_enc.proofs.Leaves.Primitive.{encoded_one, definite_begins}
use Rattle.rasn_enc.proofs.Headers.Spellings.{groups_spell, length-chained, length-digits}
use Rattle.rasn_enc.proofs.Buffer.Octets.{joined_octets}

-- A number that a type names is written as a named one.
pub named_encoded : {R E : Type 0} (result : Result R E) (range : Interval) (known : List ℤ) (tag : Tag) (n z : ℤ) (v w : View) → n ≡ z → Contains known n
    → OnOk result (AppendsEncoding (leaf (integer range) tag unconstrained) (number z) v w) → (c : Constraints) → OnOk result (AppendsEncoding (leaf (enumerated known) tag c) (number n) v w)
unfolding Bytes IsUntaggedOpen
named_encoded result range known tag n z v w e k h c = on_ok_weaker result (λ a. record {
  octets = a.octets;
  defined = (tt, (a.defined.1.0, named a.defined.1.0 a.defined.1.1, a.defined.1.2));
  tags = a.tags;
  heads = a.heads;
  tagged = a.tagged;
  appended = a.appended;
}) h
  where
    named : (l : List ℕ) → Written (integer range) (number z) l → Written (enumerated known) (number n) l
    named l r =
        let f = r.is.0 in
        let g : z ≡ signed l = cc in
        record { is = (ap number (e ∙ g), r.is.1, subst (Contains known) (e ∙ g) k); octets = r.octets; shortest = r.shortest }

pub null_encoded : {R E : Type 0} (result : Result R E) (tag : Tag) (v w : View) → OnOk result (Appends (PrimitiveEncoding tag []) tag v w) → (c : Constraints) → OnOk result (AppendsEncoding (leaf null tag c) (number (pos 0)) v w)
unfolding Bytes IsUntaggedOpen
null_encoded result tag v w h c = on_ok_weaker result (λ a.
    encoded_one (PrimitiveEncoding tag []) tag (leaf null tag c) (number (pos 0)) v w a (λ n. n) (λ o d. definite_begins tag (tag_bit tag) [] o d)
    (λ o d. (tt, ([], record { is = (refl, refl); octets = tt; shortest = tt }, d)))) h

pub object_encoded : {R E : Type 0} (result : Result R E) (tag : Tag) (arcs l : List ℕ) (v w : View) → Written object_identifier (numbers arcs) l → OnOk result (Appends (PrimitiveEncoding tag l) tag v w)
    → (c : Constraints) → OnOk result (AppendsEncoding (leaf object_identifier tag c) (numbers arcs) v w)
unfolding Bytes IsUntaggedOpen
object_encoded result tag arcs l v w r h c = on_ok_weaker result (λ a.
    encoded_one (PrimitiveEncoding tag l) tag (leaf object_identifier tag c) (numbers arcs) v w a (λ n. n) (λ o d. definite_begins tag (tag_bit tag) l o d)
    (λ o d. (tt, (l, r, d)))) h

-- The first subidentifier gives back the arcs that it holds.
first_low : (x y s : ℕ) → x < 2 → y < 40 → s ≡ 40 * x + y → (min 2 (s / 40) ≡ x) × (s - 40 * min 2 (s / 40) ≡ y)
first_low x y s h k e =
    let d : s / 40 ≡ x = omega arith in
    let m : min 2 (s / 40) ≡ x = omega arith in
    (m, rw m (omega arith))

first_high : (y s : ℕ) → s ≡ 40 * 2 + y → (min 2 (s / 40) ≡ 2) × (s - 40 * min 2 (s / 40) ≡ y)
first_high y s e =
    let d : 2 ≤ s / 40 = omega arith in
    let m : min 2 (s / 40) ≡ 2 = omega arith in
    (m, rw m (omega arith))

-- Subidentifiers below 2 ^ 32 are written in their fewest octets.
subidentifiers_short : (ns : List ℕ) → AllByRecursion (λ n. n < 0x1_0000_0000) ns → ShortArcs (subidentifier_octets ns) ns × AreOctets (subidentifier_octets ns)
subidentifiers_short [] h = (refl, tt)
subidentifiers_short (n ∷ ns) h =
    let s = groups_spell n h.0 in
    let k = subidentifiers_short ns h.1 in
    ((chained (digits 128 (group_count n) n), subidentifier_octets ns, s.spells, s.shortest, refl, k.0), joined_octets (chained (digits 128 (group_count n) n)) (subidentifier_octets ns) s.octets k.1)

all_small : (l : List ℕ) → ((i : ℕ) → get_or l i 0 < 0x1_0000_0000) → AllByRecursion (λ n. n < 0x1_0000_0000) l
all_small [] h = tt
all_small (x ∷ l) h = (h 0, all_small l (λ i. h (suc i)))

-- The contents of arcs are their subidentifiers.
contents_of : (x y s : ℕ) (l : List ℕ) → AreEncodable (x ∷ y ∷ l) → s ≡ 40 * x + y → AllByRecursion (λ n. n < 0x1_0000_0000) (s ∷ l) → Written object_identifier (numbers (x ∷ y ∷ l)) (subidentifier_octets (s ∷ l))
contents_of x y s l h f small =
    let k = subidentifiers_short (s ∷ l) small in
    record {
      is = (x ∷ y ∷ l, refl, (s, l, arcs_of (subidentifier_octets (s ∷ l)) (s ∷ l) k.0, go h));
      octets = k.1;
      shortest = (s ∷ l, k.0);
    }
  where
    both : (min 2 (s / 40) ≡ x) × (s - 40 * min 2 (s / 40) ≡ y) → x ∷ y ∷ l ≡ min 2 (s / 40) ∷ (s - 40 * min 2 (s / 40)) ∷ l
    both e = ap₂ (λ a b. a ∷ b ∷ l) (sym e.0) (sym e.1)

    go : ((x < 2) × (y < 40)) ⊎ ((x ≡ 2) × (y ≤ 4294967215)) → x ∷ y ∷ l ≡ min 2 (s / 40) ∷ (s - 40 * min 2 (s / 40)) ∷ l
    go (inl (m, n)) = both (first_low x y s m n f)
    go (inr (m, n)) = let e = first_high y s (f ∙ ap (λ z. 40 * z + y) m) in both (e.0 ∙ sym m, e.1)

first_below : (x y s : ℕ) → ((x < 2) × (y < 40)) ⊎ ((x ≡ 2) × (y ≤ 4294967215)) → s ≡ 40 * x + y → s < 0x1_0000_0000
first_below x y s (inl (m, n)) e = omega arith
first_below x y s (inr (m, n)) e = omega arith

pub contents_written : (arcs ns : List ℕ) → ((i : ℕ) → get_or arcs i 0 < 0x1_0000_0000) → AreEncodable arcs × AreSubidentifiers ns arcs → Written object_identifier (numbers arcs) (subidentifier_octets ns)
contents_written [] ns small h = absurd h.0
contents_written (x ∷ []) ns small h = absurd h.0
contents_written (x ∷ y ∷ l) ns small h = rw h.1 (contents_of x y (40 * x + y) l h.0 refl (first_below x y (40 * x + y) h.0 refl, all_small l (λ i. small (suc (suc i)))))

pub contents_appended : (arcs ns old new : List ℕ) → ((i : ℕ) → get_or arcs i 0 < 0x1_0000_0000) → AreEncodable arcs × AreSubidentifiers ns arcs → AppendsOctets (λ l. l ≡ subidentifier_octets ns) old new
    → AppendsContents arcs old new
contents_appended arcs ns old new small h p = record {
  octets = subidentifier_octets ns;
  written = contents_written arcs ns small h;
  appended = p.is ∙ ap (λ l. old ++ l) p.written;
}

-- Arcs that contents hold have octets.
held_arcs : (s : ℕ) (ns : List ℕ) → s < 2 ^ 32 → AreEncodable (min 2 (s / 40) ∷ (s - 40 * min 2 (s / 40)) ∷ ns)
held_arcs s ns h = elim (small_or (s / 40)) [
  | inl k ↦ let m : min 2 (s / 40) ≡ s / 40 = omega arith in rw m (inl (k, left s))
  | inr k ↦ let m : min 2 (s / 40) ≡ 2 = omega arith in rw m (inr (refl, omega arith))
]
  where
    small_or : (n : ℕ) → (n < 2) ⊎ (2 ≤ n)
    small_or zero = inl (omega arith)
    small_or (suc zero) = inl (omega arith)
    small_or (suc (suc n)) = inr (omega arith)

    left : (s : ℕ) → s - 40 * (s / 40) < 40
    left s = omega arith

pub has_octets : (l arcs : List ℕ) → IsObjectIdentifier l arcs → AreEncodable arcs
has_octets l arcs (s, ns, (front, back, t, e, a), f) = rw f (held_arcs s ns t.below)

-- Arcs that have no octets are undefined.
pub object_refused : {R : Type 0} (result : Result R EncodeError) (tag : Tag) (c : Constraints) (arcs : List ℕ) (v : View)
    → IfErr result (λ e. FailsAtArcs arcs v.rule e ⊎ IsAllocError v.rule e) → IfErr result (EncodeFails (leaf object_identifier tag c) (numbers arcs) v)
unfolding Bytes
object_refused result tag c arcs v h = IfErr-weaker result _ _ (λ e. elim [
  | inl r ↦ record { why = inr (inl (record { none = λ octets b. r.unmet (written b.1.0 b.1.1) })) }
  | inr m ↦ record { why = inl (ap (λ (x : EncodeError). x.kind) m) }
]) h
  where
    written : (l : List ℕ) → Written object_identifier (numbers arcs) l → AreEncodable arcs
    written l w =
        let e = w.is.1 in
        let f : arcs ≡ w.is.0 = cc in
        subst AreEncodable (sym f) (has_octets l w.is.0 w.is.2)

-- How many octets one more subidentifier has.
pub length-subidentifier : (n : ℕ) (ns : List ℕ) → length (subidentifier_octets (n ∷ ns)) ≡ group_count n + length (subidentifier_octets ns)
length-subidentifier n ns =
    let g : length (chained (digits 128 (group_count n) n)) ≡ group_count n = length-chained (digits 128 (group_count n) n) ∙ length-digits 128 (group_count n) n in
    length-append (chained (digits 128 (group_count n) n)) (subidentifier_octets ns) ∙ ap (λ z. z + length (subidentifier_octets ns)) g

group_few : (n : ℕ) → group_count n ≤ 5
group_few n = go (ltb n 128) (ltb n 16384) (ltb n 2097152) (ltb n 268435456)
  where
    go : (a b c d : Bool) → cond a 1 (cond b 2 (cond c 3 (cond d 4 5))) ≤ 5
    go true b c d = omega arith
    go false true c d = omega arith
    go false false true d = omega arith
    go false false false true = omega arith
    go false false false false = omega arith

-- The first of the subidentifiers that are left, and the others.
pub rest_is : (l : List ℕ) → 1 ≤ length l → l ≡ get_or l 0 0 ∷ take (length l - 1) (drop 1 l)
rest_is [] h = absurd (omega arith)
rest_is (x ∷ l) h = ap (λ m. x ∷ m) (sym (take_rest (x ∷ l) 1))

none_left : (l : List ℕ) → length l < 1 → l ≡ []
none_left [] h = refl
none_left (x ∷ l) h = absurd (omega arith)

-- They are counted one by one.
pub record CountedSoFar (all rest : List ℕ) (count : ℕ) : Type 0 where
  pub counted : count + length (subidentifier_octets rest) ≡ length (subidentifier_octets all)
  pub few : count + 5 * length rest ≤ 5 * length all

pub count_first : (n : ℕ) (others : List ℕ) (count : ℕ) → count ≡ group_count n → CountedSoFar (n ∷ others) others count
count_first n others count e = record {
  counted = ap (λ z. z + length (subidentifier_octets others)) e ∙ sym (length-subidentifier n others);
  few = omega (arith, e, group_few n);
}

pub count_next : (all rest after : List ℕ) (n count more : ℕ) → CountedSoFar all rest count → rest ≡ n ∷ after → more ≡ group_count n → CountedSoFar all after (count + more)
count_next all rest after n count more k e g =
    let s = ap (λ l. length (subidentifier_octets l)) e ∙ length-subidentifier n after in
    record {
      counted = omega (arith, k.counted, s, g);
      few = omega (arith, k.few, ap length e, g, group_few n);
    }

pub count_all : (all rest : List ℕ) (count : ℕ) → CountedSoFar all rest count → length rest < 1 → (l : List ℕ) → l ≡ subidentifier_octets all → length l ≡ count
count_all all rest count k h l e =
    let z : length (subidentifier_octets rest) ≡ 0 = ap (λ x. length (subidentifier_octets x)) (none_left rest h) in
    let m = ap length e in
    omega (arith, k.counted, z, m)

-- They are written one by one.
pub write_next : (rest after old new all : List ℕ) (n : ℕ) → rest ≡ n ∷ after → old ++ subidentifier_octets rest ≡ all → new ≡ old ++ chained (digits 128 (group_count n) n) → new ++ subidentifier_octets after ≡ all
write_next rest after old new all n e w p =
    ap (λ l. l ++ subidentifier_octets after) p ∙ (append_assoc old (chained (digits 128 (group_count n) n)) (subidentifier_octets after) ∙ (ap (λ l. old ++ subidentifier_octets l) (sym e) ∙ w))

pub write_room : (rest after old start l : List ℕ) (n room : ℕ) → rest ≡ n ∷ after → old ++ subidentifier_octets rest ≡ start ++ l → length start + length l ≤ room → length old + group_count n ≤ room
write_room rest after old start l n room e w h =
    let s = ap (λ l. length (subidentifier_octets l)) e ∙ length-subidentifier n after in
    let m = ap length w in
    omega (arith, s, m, h, length-append old (subidentifier_octets rest), length-append start l)

pub write_all : (rest old new l : List ℕ) → new ++ subidentifier_octets rest ≡ old ++ l → length rest < 1 → AppendsOctets (λ m. m ≡ l) old new
write_all rest old new l w h = record { octets = l; written = refl; is = sym (append-nil new) ∙ (ap (λ x. new ++ subidentifier_octets x) (sym (none_left rest h)) ∙ w) }

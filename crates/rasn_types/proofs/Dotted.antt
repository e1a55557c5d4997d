-- The text of an object identifier is read from its front.
use Rattle.std.proofs.Common.{◌≡◌, ◌≢◌, ℕ, zero, suc, Result, Ok, Err, ◌^◌, ◌<◌, List, [], ◌∷◌, ◌++◌, length, get_or, All, Option, Some, None, decimal, refl, sym, ap, ◌∙◌, subst, arith, append_assoc, append-nil, length-append, true}
use denote.Bor.{Bor}
use Rattle.std.specs.Str.{all_ascii_digits}
use Rattle.std.specs.Str.Parse.{digits_value, ParsesUnsigned}
use Rattle.std.specs.Int.{IsInRange}
use Rattle.std.specs.Result.{result_ok}
use Rattle.std.proofs.lemmas.List.Elements.{All-head, All-tail, All-push, All-nil}
use Rattle.std.proofs.lemmas.Str.Parse.{IsNumeralModel, numerals_by_value, tells_all_ascii_digits, not_in_digits, digit_at, parse_plain}
use Rattle.std.proofs.lemmas.Str.Pattern.{IsSplitOnceResult, split_parts, split_after}
use Rattle.std.proofs.lemmas.Fmt.{digits_decimal, digits_value-decimal, decimal-digits_value, decimal_injective, decimal_nonempty, decimal_digit, first_decimal}
use Rattle.rasn_types.specs.Numbered.{AreArcs}
use Rattle.rasn_types.specs.Options.{IsSomeExactlyIf, IsSomeRelated}
use Rattle.rasn_types.specs.Text.{dotted, IsSmall, IsPlain, IsArcText, IsDotted}

pub own : IsNumeralModel (λ ds. all_ascii_digits ds ≡ true) (digits_value 10)
own = numerals_by_value (λ ds. all_ascii_digits ds ≡ true) tells_all_ascii_digits

pub wide : (n : ℕ) → IsSmall n → n < 2 ^ 64
wide n h = omega arith

-- The text of an arc is plain.
pub arc_plain : (text : List ℕ) (n : ℕ) → IsArcText text n → IsPlain text
arc_plain text n h = rw h.1 (plain n h.0)
  where
    first : (m : ℕ) → IsSmall m → IsInRange 48 57 (get_or (decimal m) 0 0)
    first m b = digit_at (decimal m) 0 (own.to (decimal m) (digits_decimal own m (wide m b))) (decimal_nonempty m (wide m b))

    alone : (m : ℕ) → IsSmall m → get_or (decimal m) 0 0 ≡ 48 → length (decimal m) ≡ 1
    alone zero b e = ap length (decimal_digit 0 (omega arith))
    alone (suc m) b e = let d = first_decimal (suc m) (omega arith) (wide (suc m) b) in absurd (omega arith)

    plain : (m : ℕ) → IsSmall m → IsPlain (decimal m)
    plain m b = let r = first m b in record {
      some = decimal_nonempty m (wide m b);
      from = r.0;
      to = omega arith;
      alone = λ e. alone m b e;
    }

-- A plain text is that of an arc if it is read as a number.
pub arc_read : {E : Type 0} (text : List ℕ) (r : Result ℕ E) → IsPlain text → ParsesUnsigned 32 10 text r → IsSomeRelated (result_ok r) (IsArcText text)
arc_read {E = E} text (Ok n) p h =
    let k = parse_plain own {E = E} 32 text (Ok n) h (λ e. omega (arith, p.from)) in
    let d = k.0 in
    let v : n ≡ digits_value 10 text = k.1 in
    (rw v d.2, rw v (sym (decimal-digits_value own text d.0 p.some p.alone (omega (arith, d.2)))))
arc_read {E = E} text (Err e) p h = λ n s.
    let k = parse_plain own {E = E} 32 text (Err e) h (λ e. omega (arith, p.from)) in
    k (rw s.1 (digits_decimal own n (wide n s.0)), p.some, rw (s.1, digits_value-decimal own n (wide n s.0)) s.0)

abbrev Lacks : List ℕ → Type 0
Lacks l = (i : ℕ) → i < length l → get_or l i 0 ≢ 46

no_point : (n : ℕ) → IsSmall n → Lacks (decimal n)
no_point n h = not_in_digits own (decimal n) 46 (digits_decimal own n (wide n h)) (λ k. omega arith)

has_point : (p q : List ℕ) → Lacks (p ++ 46 ∷ q) → ⊥
has_point [] q h = h 0 (omega arith) refl
has_point (x ∷ p) q h = has_point p q (λ i k. h (suc i) (omega arith))

dotted_more : (x : ℕ) (l : List ℕ) → l ≢ [] → dotted (x ∷ l) ≡ decimal x ++ 46 ∷ dotted l
dotted_more x [] h = absurd (h refl)
dotted_more x (y ∷ l) h = refl

abbrev Cut : Type 0
Cut = Option (Bor (List ℕ) × Bor (List ℕ))

-- The first arc of a text that is split at its first point.
record First (m : List ℕ) (front behind : List ℕ) : Type 0 where
  arc : ℕ
  others : List ℕ
  is : m ≡ arc ∷ others
  some : others ≢ []
  small : IsSmall arc
  smalls : All IsSmall others
  at : front ≡ decimal arc
  then : behind ≡ dotted others

first_cut : (rest : List ℕ) (r : Cut) (front behind : Bor (List ℕ)) → IsSplitOnceResult 46 rest r → r ≡ Some (front, behind) → (m : List ℕ) → m ≢ [] → All IsSmall m → rest ≡ dotted m
    → First m front.now behind.now
first_cut rest r front behind s is [] h b e = absurd (h refl)
first_cut rest r front behind s is (z ∷ []) h b e =
    let parts = rw is at (split_parts 46 rest r s (omega arith)) in
    absurd (has_point front.now behind.now (subst Lacks (sym (append-nil (decimal z)) ∙ (sym e ∙ parts.0)) (no_point z (All-head IsSmall z [] b))))
first_cut rest r front behind s is (z ∷ y ∷ l) h b e =
    let parts = rw is at (split_after 46 rest (decimal z) (dotted (y ∷ l)) r s (omega arith) e (no_point z (All-head IsSmall z (y ∷ l) b))) in
    record { arc = z; others = y ∷ l; is = refl; some = λ k. cc; small = All-head IsSmall z (y ∷ l) b; smalls = All-tail IsSmall z (y ∷ l) b; at = parts.0; then = parts.1 }

-- No arc follows if a text has no point.
last_only : (rest : List ℕ) (r : Cut) → IsSplitOnceResult 46 rest r → r ≡ None → (m : List ℕ) → m ≢ [] → All IsSmall m → rest ≡ dotted m → (z : ℕ) × (m ≡ z ∷ []) × IsSmall z × (rest ≡ decimal z)
last_only rest r s is [] h b e = absurd (h refl)
last_only rest r s is (z ∷ []) h b e = (z, refl, All-head IsSmall z [] b, e ∙ append-nil (decimal z))
last_only rest r s is (z ∷ y ∷ l) h b e = absurd (rw is at (split_after 46 rest (decimal z) (dotted (y ∷ l)) r s (omega arith) e (no_point z (All-head IsSmall z (y ∷ l) b))))

-- The rest of a text after the arcs that were read.
pub record Parsing (text arcs rest : List ℕ) : Type 0 where
  pub below : All IsSmall arcs
  pub sound : (m : List ℕ) → m ≢ [] → rest ≡ dotted m → text ≡ dotted (arcs ++ m)
  pub full : (k : List ℕ) → k ≢ [] → All IsSmall k → text ≡ dotted k → (m : List ℕ) × (m ≢ []) × All IsSmall m × (k ≡ arcs ++ m) × (rest ≡ dotted m)

pub parsing_start : (text : List ℕ) → Parsing text [] text
parsing_start text = record {
  below = All-nil IsSmall;
  sound = λ m h e. e;
  full = λ k h s e. (k, h, s, refl, e);
}

same_arc : (x z : ℕ) (l : List ℕ) → IsSmall x → IsSmall z → l ≡ decimal x → l ≡ decimal z → x ≡ z
same_arc x z l a b e f = decimal_injective x z (wide x a) (wide z b) (sym e ∙ f)

pub parsing_more : (text arcs rest : List ℕ) (r : Cut) (front behind : Bor (List ℕ)) (x : ℕ) → Parsing text arcs rest → IsSplitOnceResult 46 rest r → r ≡ Some (front, behind)
    → IsSmall x → front.now ≡ decimal x → Parsing text (arcs ++ x ∷ []) behind.now
parsing_more text arcs rest r front behind x p s is b e =
    let parts = rw is at (split_parts 46 rest r s (omega arith)) in
    record {
      below = All-push IsSmall arcs x p.below b;
      sound = λ m h f.
          let g : rest ≡ dotted (x ∷ m) = parts.0 ∙ (rw (e, f) (sym (dotted_more x m h))) in
          let n : (x ∷ m) ≢ [] = λ k. cc in
          p.sound (x ∷ m) n g ∙ ap dotted (sym (append_assoc arcs (x ∷ []) m));
      full = λ k h t f.
          let (m, n, u, g, v) = p.full k h t f in
          let c = first_cut rest r front behind s is m n u v in
          let same : x ≡ c.arc = same_arc x c.arc front.now b c.small e c.at in
          (c.others, c.some, c.smalls, g ∙ (ap (λ q. arcs ++ q) (c.is ∙ ap (λ a. a ∷ c.others) (sym same)) ∙ sym (append_assoc arcs (x ∷ []) c.others)), c.then);
    }

pub parsing_shorter : (rest : List ℕ) (r : Cut) (front behind : Bor (List ℕ)) → IsSplitOnceResult 46 rest r → r ≡ Some (front, behind) → length behind.now < length rest
parsing_shorter rest r front behind s is =
    let parts = rw is at (split_parts 46 rest r s (omega arith)) in
    omega (arith, ap length parts.0, length-append front.now (46 ∷ behind.now))

-- The front isn't the text of an arc.
pub parsing_stopped : (text arcs rest : List ℕ) (r : Cut) (front behind : Bor (List ℕ)) → Parsing text arcs rest → IsSplitOnceResult 46 rest r → r ≡ Some (front, behind)
    → ((n : ℕ) → IsSmall n × (front.now ≡ decimal n) → ⊥) → (k : List ℕ) → k ≢ [] → All IsSmall k → text ≡ dotted k → ⊥
parsing_stopped text arcs rest r front behind p s is bad k h t f =
    let (m, n, u, g, v) = p.full k h t f in
    let c = first_cut rest r front behind s is m n u v in
    bad c.arc (c.small, c.at)

-- The last part isn't the text of an arc.
pub parsing_failed : (text arcs rest : List ℕ) (r : Cut) → Parsing text arcs rest → IsSplitOnceResult 46 rest r → r ≡ None
    → ((n : ℕ) → IsSmall n × (rest ≡ decimal n) → ⊥) → (k : List ℕ) → k ≢ [] → All IsSmall k → text ≡ dotted k → ⊥
parsing_failed text arcs rest r p s is bad k h t f =
    let (m, n, u, g, v) = p.full k h t f in
    let (z, o, b, e) = last_only rest r s is m n u v in
    bad z (b, e)

-- The last part is the text of an arc.
pub parsing_ended : (text arcs rest : List ℕ) (x : ℕ) → Parsing text arcs rest → IsSmall x → rest ≡ decimal x → All IsSmall (arcs ++ x ∷ []) × (text ≡ dotted (arcs ++ x ∷ []))
parsing_ended text arcs rest x p b e = (All-push IsSmall arcs x p.below b, p.sound (x ∷ []) (λ k. cc) (e ∙ sym (append-nil (decimal x))))

pub parsing_only : (text arcs rest : List ℕ) (r : Cut) (x : ℕ) → Parsing text arcs rest → IsSplitOnceResult 46 rest r → r ≡ None → IsSmall x → rest ≡ decimal x
    → (k : List ℕ) → k ≢ [] → All IsSmall k → text ≡ dotted k → k ≡ arcs ++ x ∷ []
parsing_only text arcs rest r x p s is b e k h t f =
    let (m, n, u, g, v) = p.full k h t f in
    let (z, o, c, d) = last_only rest r s is m n u v in
    let same : x ≡ z = same_arc x z rest b c e d in
    g ∙ (rw (o, same) refl)

arcs_some : (l : List ℕ) → AreArcs l → l ≢ []
arcs_some [] h e = h
arcs_some (x ∷ l) h e = cc

-- The arcs that are read are an object identifier if they are those of one.
pub parsed : (text arcs : List ℕ) (v : Option (List ℕ)) → IsSomeExactlyIf v (AreArcs arcs) arcs → All IsSmall arcs → text ≡ dotted arcs
    → ((k : List ℕ) → k ≢ [] → All IsSmall k → text ≡ dotted k → k ≡ arcs) → IsSomeRelated v (IsDotted text)
parsed text arcs (Some o) h b t only = rw h.1 (h.0, b, t)
parsed text arcs None h b t only = λ k d. h (subst AreArcs (only k (arcs_some k d.0) d.1 d.2) d.0)

-- If no arcs have the text, nothing is read.
pub unparsed : (text : List ℕ) → ((k : List ℕ) → k ≢ [] → All IsSmall k → text ≡ dotted k → ⊥) → (k : List ℕ) → IsDotted text k → ⊥
unparsed text none k d = none k (arcs_some k d.0) d.1 d.2

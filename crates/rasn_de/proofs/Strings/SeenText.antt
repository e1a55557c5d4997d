-- UTF8Strings whose segments are seen.
use Rattle.std.proofs.Common.{◌≡◌, ◌≢◌, ◌≤◌, ◌<◌, ◌+◌, ◌-◌, ◌^◌, ℕ, zero, suc, ◌⊎◌, inl, inr, Bool, true, false, List, [], ◌∷◌, ◌++◌, length, take, drop, Result, Ok, Err, refl, sym, ap, ◌∙◌, subst, arith, append_assoc, append-nil, chars, IsUtf8}
use Rattle.std.specs.Char.{len_utf8}
use Rattle.std.specs.Str.{encode_utf8_all}
use Rattle.std.proofs.lemmas.List.{length-append, take-append-le, take_all}
use Rattle.std.proofs.Math.Seq.{take-append_seam, drop-append_seam}
use Rattle.std.proofs.lemmas.Str.{IsUtf8-append, IsUtf8-nil, IsUtf8-take, IsUtf8-drop, IsCharBoundary-from_take, IsCharBoundary-past_char, len_utf8_bounds, length-le-encodes, encodes-chars, chars-append, chars-nil}
use Rattle.rasn_types.specs.declared.types.constraints.Constraints.{Constraints}
use Rattle.rasn_de.specs.declared.ber.de.parser.ParseError.{ParseError}
use Rattle.rasn_de.specs.declared.ber.de.parser.ParseError.TheVariants.{StringConversionFailed}
use Rattle.rasn_de.specs.declared.ber.de.parser.text_scan.Held.{Held}
use Rattle.rasn_de.specs.declared.ber.de.parser.text_scan.Held.TheVariants.{Nothing, One, Two, Three, Unfit}
use Rattle.rasn_de.specs.CharacterString.{ByUtf8, AreUtf8, ChecksString, IsWithinSize}
use Rattle.rasn_de.specs.TextScan.{BeginsNoText, HasText, ScansText, CountsMore, SettlesText, TakesText}
use Rattle.rasn_de.proofs.Strings.Checks.{characters_checked}

below_or : (k n : ℕ) → (k < n) ⊎ (n ≤ k)
below_or k zero = inr (omega arith)
below_or zero (suc n) = inl (omega arith)
below_or (suc k) (suc n) = go (below_or k n)
  where
    go : (k < n) ⊎ (n ≤ k) → (suc k < suc n) ⊎ (suc n ≤ suc k)
    go (inl h) = inl (omega arith)
    go (inr h) = inr (omega arith)

-- What follows a text in a text is one.
text_after : (front more : List ℕ) → IsUtf8 front → IsUtf8 (front ++ more) → IsUtf8 more
text_after front more f u =
    let b = IsCharBoundary-from_take (front ++ more) (length front) u (omega (arith, length-append front more)) (subst IsUtf8 (sym (take-append_seam front more)) f) in
    subst IsUtf8 (drop-append_seam front more) (IsUtf8-drop (front ++ more) (length front) u b)

-- Four octets that no text begins, begin none, whatever follows.
four_begin_none : (held more : List ℕ) → 4 ≤ length held → BeginsNoText held → IsUtf8 (held ++ more) → ⊥
four_begin_none held more n h u = go u.0 u.1.1
  where
    go : (cs : List ℕ) → encode_utf8_all cs ≡ held ++ more → ⊥
    go [] e = let k : 0 ≡ length (held ++ more) = ap length e in omega (arith, k, length-append held more)
    go (c ∷ cs) e =
        let b = IsCharBoundary-past_char (held ++ more) (encode_utf8_all cs) 0 c (omega arith) u (sym e) in
        let t = IsUtf8-take (held ++ more) (0 + len_utf8 c) u b in
        let l = len_utf8_bounds c in
        h (0 + len_utf8 c) (omega (arith, l.0)) (omega (arith, l.1, n)) (subst IsUtf8 (take-append-le (0 + len_utf8 c) held more (omega (arith, l.1, n))) t)

chars_le : (bs : List ℕ) → IsUtf8 bs → length (chars bs) ≤ length bs
chars_le bs u = omega (arith, length-le-encodes (chars bs), ap length (encodes-chars bs u))

module _ (count : ℕ) (held seen : List ℕ) (h : HasText count held seen) where
  -- further octets that end a character
  pub text_more : (xs : List ℕ) (total : ℕ) → IsUtf8 (held ++ xs) → CountsMore (held ++ xs) count total → HasText total [] (seen ++ xs)
  text_more xs total u n = record {
    front = h.front ++ (held ++ xs);
    is = ap (λ z. z ++ xs) h.is ∙ (append_assoc h.front held xs ∙ sym (append-nil (h.front ++ (held ++ xs))));
    text = IsUtf8-append h.front (held ++ xs) h.text u;
    counted = counted;
    none = λ m l k t. omega arith;
  }
    where
      counted : length (h.front ++ (held ++ xs)) < 2 ^ 64 → total ≡ length (chars (h.front ++ (held ++ xs)))
      counted b =
          let a = length-append h.front (held ++ xs) in
          let e = ap length (chars-append h.front (held ++ xs) h.text) in
          let k = length-append (chars h.front) (chars (held ++ xs)) in
          let s = h.counted (omega (arith, a, b)) in
          omega (arith, a, b, e, k, s, n, chars_le (h.front ++ (held ++ xs)) (IsUtf8-append h.front (held ++ xs) h.text u))

  -- one that doesn't
  pub text_held : (x : ℕ) → (IsUtf8 (held ++ x ∷ []) → ⊥) → HasText count (held ++ x ∷ []) (seen ++ x ∷ [])
  text_held x n = record {
    front = h.front;
    is = ap (λ z. z ++ x ∷ []) h.is ∙ append_assoc h.front held (x ∷ []);
    text = h.text;
    counted = h.counted;
    none = none;
  }
    where
      none : BeginsNoText (held ++ x ∷ [])
      none m l k t = go (below_or m (suc (length held)))
        where
          go : (m < suc (length held)) ⊎ (suc (length held) ≤ m) → ⊥
          go (inl b) = h.none m l (omega arith) (subst IsUtf8 (take-append-le m held (x ∷ []) (omega arith)) t)
          go (inr b) = n (subst IsUtf8 (take_all m (held ++ x ∷ []) (omega (arith, length-append held (x ∷ []), b))) t)

  pub text_unfit : 4 ≤ length held → ScansText count Unfit seen
  text_unfit n more u = four_begin_none held more n h.none (text_after h.front (held ++ more) h.text (subst IsUtf8 (ap (λ z. z ++ more) h.is ∙ append_assoc h.front held more) u))

  -- a text that is cut
  pub text_cut : 0 < length held → IsUtf8 seen → ⊥
  text_cut n u = h.none (length held) n (omega arith) (subst IsUtf8 (sym (take_all (length held) held (omega arith))) (text_after h.front held h.text (subst IsUtf8 h.is u)))

pub text_whole : (count : ℕ) (seen : List ℕ) → HasText count [] seen → length seen < 2 ^ 64 → IsUtf8 seen × (count ≡ length (chars seen))
text_whole count seen h b =
    let e : seen ≡ h.front = h.is ∙ append-nil h.front in
    (subst IsUtf8 (sym e) h.text, subst (λ (l : List ℕ). count ≡ length (chars l)) (sym e) (h.counted (subst (λ (l : List ℕ). length l < 2 ^ 64) e b)))

pub no_text : ScansText 0 Nothing []
no_text = record { front = []; is = refl; text = IsUtf8-nil; counted = λ b. ap length (sym chars-nil); none = λ m l k t. omega arith }

-- An octet more, after octets that are held.
pub settled : (count : ℕ) (held seen : List ℕ) → HasText count held seen → (x : ℕ) (next : Held) (total : ℕ) (kept : Held) → SettlesText (held ++ x ∷ []) next count total kept
    → (HasText count (held ++ x ∷ []) (seen ++ x ∷ []) → ScansText count next (seen ++ x ∷ [])) → ScansText total kept (seen ++ x ∷ [])
settled count held seen h x next total kept (inl (u, e, n)) f = subst (λ (k : Held). ScansText total k (seen ++ x ∷ [])) (sym e) (text_more count held seen h (x ∷ []) total u n)
settled count held seen h x next total kept (inr (n, e, k)) f =
    subst (λ (k : Held). ScansText total k (seen ++ x ∷ [])) (sym e) (subst (λ (t : ℕ). ScansText t next (seen ++ x ∷ [])) (sym k) (f (text_held count held seen h x n)))

-- Unfit octets stay so.
pub still_unfit : (count total : ℕ) (seen xs : List ℕ) → ScansText count Unfit seen → ScansText total Unfit (seen ++ xs)
still_unfit count total seen xs h more u = h (xs ++ more) (subst IsUtf8 (append_assoc seen xs more) u)

-- What is held is no text.
pub not_text : (count : ℕ) (held : Held) (seen : List ℕ) → held ≢ Nothing → ScansText count held seen → IsUtf8 seen → ⊥
not_text count Nothing seen n h u = n refl
not_text count (One a) seen n h u = text_cut count (a ∷ []) seen h (omega arith) u
not_text count (Two a b) seen n h u = text_cut count (a ∷ b ∷ []) seen h (omega arith) u
not_text count (Three a b c) seen n h u = text_cut count (a ∷ b ∷ c ∷ []) seen h (omega arith) u
not_text count Unfit seen n h u = h [] (subst IsUtf8 (sym (append-nil seen)) u)

pub unfit_held : (held : Held) → held ≡ Unfit → (count : ℕ) (seen xs : List ℕ) → ScansText count held seen → ScansText count held (seen ++ xs)
unfit_held held e count seen xs h =
    subst (λ (k : Held). ScansText count k (seen ++ xs)) (sym e) (still_unfit count count seen xs (subst (λ (k : Held). ScansText count k seen) e h))

-- Octets that are taken as a whole.
pub taken : (xs : List ℕ) (old : ℕ) (held : Held) (new : ℕ) (kept : Held) (b : Bool) → TakesText xs old held new kept b → b ≡ true → (seen : List ℕ) → ScansText old held seen → ScansText new kept (seen ++ xs)
taken xs old held new kept true (e, f, u, n) t seen h =
    subst (λ (k : Held). ScansText new k (seen ++ xs)) (sym f) (text_more old [] seen (subst (λ (k : Held). ScansText old k seen) e h) xs new u n)
taken xs old held new kept false h t seen k = cc

-- The number of characters is within its bound or not.
pub text_checked : (bounds : Constraints) (count : ℕ) (held : Held) → held ≡ Nothing → (seen : List ℕ) → length seen < 2 ^ 64 → ScansText count held seen → (r : Result (Unit {0}) ParseError) → IsWithinSize bounds count r
    → ChecksString (ByUtf8 bounds.size) seen (chars seen) r
text_checked bounds count held e seen b h r w =
    let t = text_whole count seen (subst (λ (k : Held). ScansText count k seen) e h) b in
    characters_checked bounds seen count r t.0 t.1 w

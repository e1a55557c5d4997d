-- Named bits whose segments are seen.
use Rattle.std.proofs.Common.{◌≡◌, ◌≢◌, ◌≤◌, ◌<◌, ◌+◌, ◌^◌, ◌*◌, ℕ, zero, suc, ◌⊎◌, inl, inr, Bool, true, false, List, [], ◌∷◌, ◌++◌, length, Result, Ok, Err, refl, sym, ap, ◌∙◌, subst, arith}
use Rattle.std.specs.Prelude.{IfErr}
use Rattle.std.proofs.lemmas.List.{length-append}
use Rattle.rasn_types.specs.declared.types.tag.Tag.{Tag}
use Rattle.rasn_types.specs.declared.types.constraints.Constraints.{Constraints}
use Rattle.rasn_types.specs.declared.error.decode.DecodeError.{DecodeError}
use Rattle.rasn_types.specs.Errors.{IsOutOfMemory}
use Rattle.rasn_types.specs.Framing.{AreOctets}
use Rattle.rasn_types.specs.Tags.{in_universal}
use Rattle.rasn_types.specs.Shapes.{leaf, bits, named_bits, bit_string}
use Rattle.rasn_types.specs.BitString.{significant, bit_before}
use Rattle.rasn_types.specs.Trees.{unconstrained}
use Rattle.rasn_types.proofs.BitString.Significant.{significant_le}
use Rattle.rasn_de.specs.declared.ber.de.parser.ParseError.{ParseError}
use Rattle.rasn_de.specs.declared.ber.de.parser.ParseError.TheVariants.{LengthExceedsPlatformWidth}
use Rattle.rasn_de.specs.BitString.{segment_bits, bit_string_at, bits_tree, DecodesBitString}
use Rattle.rasn_de.specs.NamedBits.{AreNamedBits, DecodesNamedBits}
use Rattle.rasn_de.specs.Checks.{SeesString, Counts, CountsNamed, Checks, ChecksBy}
use Rattle.rasn_de.specs.State.{State, at}
use Rattle.rasn_de.specs.Steps.{IsErrorOf}
use Rattle.rasn_de.proofs.Headers.NextTag.{kind_memory}
use Rattle.rasn_de.proofs.Strings.BitString.{bits_decodes, collects_wide, collects_admitted}
use Rattle.rasn_de.proofs.Strings.NamedBits.{Says, named_unread, named_found, named_refused, named_memory}
use Rattle.rasn_de.proofs.Strings.SeenBits.{bits_fit, bits_unseen}

-- ---- the bits up to the last that is 1, of two lists
longer : (b : Bool) (bs : List Bool) → bs ≢ [] → bit_before b bs ≡ b ∷ bs
longer true bs n = refl
longer false [] n = absurd (n refl)
longer false (c ∷ bs) n = refl

-- 0 bits at the end change nothing.
significant_before : (a b : List Bool) → significant b ≡ [] → significant (a ++ b) ≡ significant a
significant_before [] b e = e
significant_before (x ∷ a) b e = ap (bit_before x) (significant_before a b e)

-- A 1 bit makes all before it count.
significant_after : (a b : List Bool) → significant b ≢ [] → significant (a ++ b) ≡ a ++ significant b
significant_after [] b n = refl
significant_after (x ∷ a) b n = ap (bit_before x) (significant_after a b n) ∙ longer x (a ++ significant b) (some a)
  where
    some : (a : List Bool) → a ++ significant b ≢ []
    some [] e = n e
    some (y ∷ ys) e = cc

none_long : (bs : List Bool) → length bs ≡ 0 → bs ≡ []
none_long [] e = refl
none_long (b ∷ bs) e = absurd (omega arith)

-- ---- a segment more
module _ (seen xs : List Bool) (len size total : ℕ) (h : CountsNamed len size seen) (t : Counts (2 ^ 128) len seen → Counts (2 ^ 128) total (seen ++ xs)) where
  -- one that has no 1 bit, or has 2 ^ 64 bits or more
  pub counted_zeros : (length xs < 2 ^ 64 → length (significant xs) ≡ 0) → CountsNamed total size (seen ++ xs)
  counted_zeros z = (
    t h.0,
    λ b.
        let k = length-append seen xs in
        let e = none_long (significant xs) (z (omega (arith, k, b))) in
        h.1 (omega (arith, k, b)) ∙ ap length (sym (significant_before seen xs e)),
  )

  -- one that has a 1 bit
  pub counted_ones : (more : ℕ) → length (significant xs) ≢ 0 → (length (seen ++ xs) < 2 ^ 64 → len ≡ length seen → more ≡ length seen + length (significant xs)) → CountsNamed total more (seen ++ xs)
  counted_ones more n m = (
    t h.0,
    λ b.
        let k = length-append seen xs in
        let e = significant_after seen xs (λ f. n (ap length f)) in
        let l : len ≡ length seen = h.0 (omega (arith, k, b)) in
        m b l ∙ (sym (length-append seen (significant xs)) ∙ ap length (sym e)),
  )

below_or : (k n : ℕ) → (k < n) ⊎ (n ≤ k)
below_or k zero = inr (omega arith)
below_or zero (suc n) = inl (omega arith)
below_or (suc k) (suc n) = go (below_or k n)
  where
    go : (k < n) ⊎ (n ≤ k) → (suc k < suc n) ⊎ (suc n ≤ suc k)
    go (inl h) = inl (omega arith)
    go (inr h) = inr (omega arith)

-- The numbers that were counted are right.
pub named_counted : (old new : State) (tag : Tag) (first low len size : ℕ) → AreOctets old.rest → length old.rest < 2 ^ 64
    → (t : SeesString segment_bits (in_universal 3) tag (CountsNamed first low) (CountsNamed len size) old (Ok tt) new) → first ≡ 0 → low ≡ 0 → (len ≡ length t.0) × (length t.0 < 2 ^ 64 → size ≡ length (significant t.0))
named_counted old new tag first low len size o b t z w =
    let k = bits_fit old.rule old.depth tag old.rest o t.0 new.rest t.1 in
    let h = t.3 [] ((λ m. z), (λ m. w)) in
    (h.0 (omega (arith, k, b)), h.1)

pub too_long : (bs : List Bool) (len size : ℕ) → len ≡ length bs → (length bs < 2 ^ 64 → size ≡ length (significant bs)) → (2 ^ 64 ≤ len) ⊎ (2 ^ 64 ≤ size) → 2 ^ 64 ≤ length bs
too_long bs len size e s (inl h) = omega arith
too_long bs len size e s (inr h) = go (below_or (length bs) (2 ^ 64))
  where
    go : (length bs < 2 ^ 64) ⊎ (2 ^ 64 ≤ length bs) → 2 ^ 64 ≤ length bs
    go (inl l) = let k = s l in absurd (omega (arith, k, significant_le bs))
    go (inr l) = l

-- ---- what a call ensures that checks named bits
module _ (tag : Tag) (bounds : Constraints) (old new : State) (o : AreOctets old.rest) where
  abbrev pub CheckedNamed : Result (Unit {0}) DecodeError → Type 0
  CheckedNamed result = record {
    reads : Checks (leaf named_bits tag bounds) old result new;
    exact : ChecksBy (DecodesNamedBits tag bounds) old result new;
    memory : IfErr result (λ e. IsOutOfMemory e.kind → ⊥);
    rules : IfErr result (λ e. e.codec ≡ old.rule);
  }

  unread : (e : DecodeError) → (IsOutOfMemory e.kind → ⊥) → DecodesBitString tag unconstrained old (Err e) new → CheckedNamed (Err e)
  unread e n g =
      let h = named_unread tag bounds old new e (bits_decodes tag unconstrained old new (Err e) o g) g in
      record { reads = h.reads; exact = h.exact; memory = n; rules = h.rules }

  -- a string that can't be read
  pub named_unseen : (e : DecodeError) → SeesString segment_bits (in_universal 3) tag (λ (l : List Bool). Unit {0}) (λ (l : List Bool). Unit {0}) old (Err e) new → (IsOutOfMemory e.kind → ⊥) → CheckedNamed (Err e)
  named_unseen e t n = unread e n (bits_unseen tag unconstrained old new o e t n).exact

  module _ (bs : List Bool) (h : bit_string_at old.rule old.depth tag old.rest ≡ Ok (bs, new.rest)) (s : new ≡ at old new.rest) where
    -- 2 ^ 64 bits or more
    pub named_wide : (e : DecodeError) → 2 ^ 64 ≤ length bs → IsErrorOf LengthExceedsPlatformWidth new e → CheckedNamed (Err e)
    named_wide e w x = unread e (λ m. kind_memory LengthExceedsPlatformWidth (λ g. cc) (sym (ap (λ (y : DecodeError). y.kind) x) ∙ m)) (collects_wide tag unconstrained old new bs e (h, s) w x)

    module _ (w : length bs < 2 ^ 64) where
      collected : DecodesBitString tag unconstrained old (Ok bs) new
      collected = collects_admitted tag unconstrained old new bs (h, s) w tt

      -- bits that may be named bits
      pub named_passed : AreNamedBits old.rule bounds bs (Ok tt) → CheckedNamed (Ok tt)
      named_passed a =
          let g = named_found tag bounds old new bs (bits_decodes tag unconstrained old new (Ok bs) o collected) collected a.0 a.1 (significant bs) refl in
          record { reads = (bits (significant (significant bs)), g.reads); exact = (significant bs, g.exact); memory = tt; rules = tt }

      -- bits that may not
      pub named_failed : (f : ParseError) (e : DecodeError) → AreNamedBits old.rule bounds bs (Err f) → IsErrorOf f new e → CheckedNamed (Err e)
      named_failed f e a x =
          let g = named_refused tag bounds old new bs (bits_decodes tag unconstrained old new (Ok bs) o collected) collected f e a x in
          record { reads = g.reads; exact = g.exact; memory = named_memory old.rule bounds bs f new e a x; rules = g.rules }

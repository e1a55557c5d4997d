-- Strings and times, whose octets may be in segments, are refused in one way.
use Rattle.std.proofs.Common.{◌≡◌, ℕ, ◌<◌, inl, inr, List, Bool, length, Option, Result, Ok, Err, sym, ap, ap₂, ◌∙◌, subst, arith}
use Rattle.std.specs.Prelude.{slice_index}
use Rattle.rasn_types.specs.declared.types.codec.Codec.{Codec}
use Rattle.rasn_types.specs.declared.types.tag.Tag.{Tag}
use Rattle.rasn_types.specs.declared.types.constraints.Constraints.{Constraints}
use Rattle.rasn_types.specs.declared.types.constraints.Bound.{Bound}
use Rattle.rasn_types.specs.declared.types.strings.alphabet.Alphabet.{Alphabet}
use Rattle.rasn_types.specs.declared.error.decode.DecodeError.{DecodeError}
use Rattle.rasn_types.specs.Errors.{IsOutOfMemory}
use Rattle.rasn_types.specs.Framing.{AreOctets}
use Rattle.rasn_types.specs.Time.{DateText}
use Rattle.rasn_types.specs.Grammar.{UtcText, GeneralizedText}
use Rattle.rasn_types.specs.Shapes.{leaf, bit_string, named_bits, utc_time, generalized_time, date, Kind}
use Rattle.rasn_types.specs.Trees.{unconstrained}
use Rattle.rasn_de.specs.declared.ber.de.parser.ParseError.{ParseError}
use Rattle.rasn_de.specs.declared.ber.de.parser.ParseError.TheVariants as parse
use Rattle.rasn_de.specs.Causes.{Cause, fault}
use Rattle.rasn_de.specs.State.{State, at}
use Rattle.rasn_de.specs.Steps.{IsErrorOf}
use Rattle.rasn_de.specs.Outcomes.{refusal}
use Rattle.rasn_de.specs.Decodes.{Decodes, DecodesExactly}
use Rattle.rasn_de.specs.ValueErrors.{errors_of}
use Rattle.rasn_de.specs.CharacterString.{StringCheck, IsOutOfSize, IsOutsideAlphabet, ByAlphabet, ByCharacters, ByLength, AreUtf8, BySize, ByUtf8, ByUnits, StringAt, DecodesString}
use Rattle.rasn_de.specs.BitString.{bits_tree, IsOversized, BitsAt, DecodesBitString}
use Rattle.rasn_de.specs.NamedBits.{AreNamedBits, DecodesNamedBits}
use Rattle.rasn_de.specs.Time.{AtAnyOffset, DecodesTime}
use Rattle.rasn_de.proofs.Strings.CharacterString.{Fits, string_decodes}
use Rattle.rasn_de.proofs.Strings.BitString.{bits_decodes}
use Rattle.rasn_de.proofs.Strings.NamedBits.{named_unread, named_refused}
use Rattle.rasn_de.proofs.Strings.Time.{utc_decodes, generalized_decodes, date_decodes}
use Rattle.rasn.specs.OneRefusal.{same_text, IsSameError, ReadsShape, IsRefusedOnce, AreApart}
use Rattle.rasn.proofs.OneReading.Leaves.{units_one}
use Rattle.rasn.proofs.OneRefusal.Calls.{same_fault, no_memory, exactly_apart, one_value, not_both}
use Rattle.rasn.proofs.OneRefusal.Leaves.{FailsOnce, fails_once}

-- Octets that a check refuses have one fault.
abbrev pub OneFaultOf : StringCheck → Type 0
OneFaultOf Told = (l : List ℕ) (f g : ParseError) → Told l (Err f) → Told l (Err g) → f ≡ g

size_once : (size : Option (Bound ℕ)) (n : ℕ) (f g : ParseError) → IsOutOfSize size n f → IsOutOfSize size n g → f ≡ g
size_once size n f g (a, p) (b, q) = p ∙ sym q

pub by_size_once : (size : Option (Bound ℕ)) → OneFaultOf (BySize size)
by_size_once size l f g h k = size_once size (length l) f g h k

pub by_length_once : (n : ℕ) (size : Option (Bound ℕ)) → OneFaultOf (ByLength n size)
by_length_once n size l f g (inl h) (inl k) = h.1 ∙ sym k.1
by_length_once n size l f g (inl h) (inr k) = absurd (h.0 k.0)
by_length_once n size l f g (inr h) (inl k) = absurd (k.0 h.0)
by_length_once n size l f g (inr h) (inr k) = size_once size (length l) f g h.1 k.1

-- The first octet outside the alphabet is at one place.
first_once : (a : Alphabet) (l : List ℕ) (f g : ParseError) → IsOutsideAlphabet a l f → IsOutsideAlphabet a l g → f ≡ g
first_once a l f g (i, m, w, n, e) (j, o, x, k, d) = e ∙ (ap (λ p. parse.PermittedAlphabetError (slice_index l p) p) same ∙ sym d)
  where
    not_below : i < j → ⊥
    not_below h = n (x i 0 (omega arith) h)

    not_above : j < i → ⊥
    not_above h = k (w j 0 (omega arith) h)

    same : i ≡ j
    same = omega (arith, not_below, not_above)

pub by_alphabet_once : (a : Alphabet) (size : Option (Bound ℕ)) → OneFaultOf (ByAlphabet a size)
by_alphabet_once a size l f g (inl h) (inl k) = size_once size (length l) f g h k
by_alphabet_once a size l f g (inl h) (inr k) = absurd (h.0 k.0)
by_alphabet_once a size l f g (inr h) (inl k) = absurd (k.0 h.0)
by_alphabet_once a size l f g (inr h) (inr k) = first_once a l f g h.1 k.1

by_characters_once : (Mean : List ℕ → List ℕ → Type 0) (tag : Tag) (size : Option (Bound ℕ)) → ((l ns ms : List ℕ) → Mean l ns → Mean l ms → ns ≡ ms) → OneFaultOf (ByCharacters Mean tag size)
by_characters_once Mean tag size one l f g (inl h) (inl k) = h.1 ∙ sym k.1
by_characters_once Mean tag size one l f g (inl h) (inr k) = absurd (h.0 k.0 k.1)
by_characters_once Mean tag size one l f g (inr h) (inl k) = absurd (k.0 h.0 h.1)
by_characters_once Mean tag size one l f g (inr h) (inr k) = size_once size (length k.0) f g (subst (λ ns. IsOutOfSize size (length ns) f) (one l h.0 k.0 h.1 k.1) h.2) k.2

pub by_utf8_once : (size : Option (Bound ℕ)) → OneFaultOf (ByUtf8 size)
by_utf8_once size = by_characters_once AreUtf8 _ size (λ l ns ms h k. h.1 ∙ sym k.1)

pub by_units_once : (size : Option (Bound ℕ)) → OneFaultOf (ByUnits size)
by_units_once size = by_characters_once _ _ size (λ l ns ms h k. units_one l ns ms h k)

string_at_once : (Told : StringCheck) → OneFaultOf Told → (rule : Codec) (depth : ℕ) (tag : Tag) (l : List ℕ) → FailsOnce (StringAt Told rule depth tag l)
string_at_once Told one rule depth tag l p q (inl (f, h, e)) (inl (g, k, d)) =
    let x : f ≡ g = cc in e ∙ (ap (λ z. (fault z, l)) x ∙ sym d)
string_at_once Told one rule depth tag l p q (inl (f, h, e)) (inr (ys, g, k, b, d)) = cc
string_at_once Told one rule depth tag l p q (inr (xs, f, h, a, e)) (inl (g, k, d)) = cc
string_at_once Told one rule depth tag l p q (inr (xs, f, h, a, e)) (inr (ys, g, k, b, d)) =
    let z : (xs, p.1) ≡ (ys, q.1) = cc in
    let x : f ≡ g = one ys f g (subst (λ l. Told l (Err f)) (ap (λ (i : List ℕ × List ℕ). i.0) z) a) b in
    ap₂ (λ (u : Cause) (v : List ℕ). (u, v)) (e ∙ (ap fault x ∙ sym d)) (ap (λ (i : List ℕ × List ℕ). i.1) z)

-- A string of octets or characters.
pub string_apart : {kind : Kind} {bounds : Constraints} {Told : StringCheck} → Fits kind bounds Told → OneFaultOf Told → (tag : Tag)
    → AreApart (errors_of (DecodesString (λ (l : List ℕ). l) Told tag)) (ReadsShape (leaf kind tag bounds))
string_apart {kind} {bounds} {Told} fits one tag = exactly_apart _ (ReadsShape (leaf kind tag bounds)) (λ old o e new a. string_decodes fits (λ (l : List ℕ). l) tag old new (Err e) o a) once
  where
    once : IsRefusedOnce (errors_of (DecodesString (λ (l : List ℕ). l) Told tag))
    once old o e f new other (inl a, m) b = absurd (m a.0)
    once old o e f new other (inr (inl a), m) b = absurd (m a.0)
    once old o e f new other (inr (inr a), m) (inl b, n) = absurd (n b.0)
    once old o e f new other (inr (inr a), m) (inr (inl b), n) = absurd (n b.0)
    once old o e f new other (inr (inr a), m) (inr (inr b), n) =
        fails_once (StringAt Told old.rule old.depth tag old.rest) (string_at_once Told one old.rule old.depth tag old.rest) old e f new other m n a.1 b.1

-- BIT STRING.
over_once : (bounds : Constraints) (bs : List Bool) (c d : Cause) → IsOversized bounds bs c → IsOversized bounds bs d → c ≡ d
over_once bounds bs c d (inl h) (inl k) = h.1 ∙ sym k.1
over_once bounds bs c d (inl h) (inr k) = absurd (omega (arith, h.0, k.0))
over_once bounds bs c d (inr h) (inl k) = absurd (omega (arith, h.0, k.0))
over_once bounds bs c d (inr h) (inr k) = h.2 ∙ sym k.2

bits_at_once : (bounds : Constraints) (rule : Codec) (depth : ℕ) (tag : Tag) (l : List ℕ) → FailsOnce (BitsAt bounds rule depth tag l)
bits_at_once bounds rule depth tag l p q (inl (f, h, e)) (inl (g, k, d)) = let x : f ≡ g = cc in e ∙ (ap (λ z. (fault z, l)) x ∙ sym d)
bits_at_once bounds rule depth tag l p q (inl (f, h, e)) (inr (ys, k, b)) = cc
bits_at_once bounds rule depth tag l p q (inr (xs, h, a)) (inl (g, k, d)) = cc
bits_at_once bounds rule depth tag l p q (inr (xs, h, a)) (inr (ys, k, b)) =
    let z : (xs, p.1) ≡ (ys, q.1) = cc in
    ap₂ (λ (u : Cause) (v : List ℕ). (u, v)) (over_once bounds ys p.0 q.0 (subst (λ l. IsOversized bounds l p.0) (ap (λ (i : List Bool × List ℕ). i.0) z) a) b) (ap (λ (i : List Bool × List ℕ). i.1) z)

bit_string_once : (tag : Tag) (bounds : Constraints) → IsRefusedOnce (errors_of (DecodesBitString tag bounds))
bit_string_once tag bounds old o e f new other (inl a, m) b = absurd (m a.0)
bit_string_once tag bounds old o e f new other (inr (inl a), m) b = absurd (m a.0)
bit_string_once tag bounds old o e f new other (inr (inr a), m) (inl b, n) = absurd (n b.0)
bit_string_once tag bounds old o e f new other (inr (inr a), m) (inr (inl b), n) = absurd (n b.0)
bit_string_once tag bounds old o e f new other (inr (inr a), m) (inr (inr b), n) =
    fails_once (BitsAt bounds old.rule old.depth tag old.rest) (bits_at_once bounds old.rule old.depth tag old.rest) old e f new other m n a.1 b.1

pub bit_string_apart : (tag : Tag) (bounds : Constraints) → AreApart (errors_of (DecodesBitString tag bounds)) (ReadsShape (leaf bit_string tag bounds))
bit_string_apart tag bounds = exactly_apart _ (ReadsShape (leaf bit_string tag bounds)) (λ old o e new a. bits_decodes tag bounds old new (Err e) o a) (bit_string_once tag bounds)

-- Named bits.
named_once : (rule : Codec) (bounds : Constraints) (read : List Bool) (f g : ParseError) → AreNamedBits rule bounds read (Err f) → AreNamedBits rule bounds read (Err g) → f ≡ g
named_once rule bounds read f g (inl h) (inl k) = h.2 ∙ sym k.2
named_once rule bounds read f g (inl h) (inr k) = absurd (h.1 (k.0 h.0))
named_once rule bounds read f g (inr h) (inl k) = absurd (k.1 (h.0 k.0))
named_once rule bounds read f g (inr h) (inr k) = h.2 ∙ sym k.2

module _ (tag : Tag) (bounds : Constraints) where
  bits_exact : (old : State) → AreOctets old.rest → (r : Result (List Bool) DecodeError) (new : State) → DecodesBitString tag unconstrained old r new → Decodes (leaf bit_string tag unconstrained) bits_tree old r new
  bits_exact old o r new a = bits_decodes tag unconstrained old new r o a

  named_unread_by : (old : State) → AreOctets old.rest → (e : DecodeError) (new : State) → DecodesNamedBits tag bounds old (Err e) new → DecodesExactly (ReadsShape (leaf named_bits tag bounds)) old (refusal e.kind) new
  named_unread_by old o e new (inl h) = (named_unread tag bounds old new e (bits_exact old o (Err e) new h) h).reads
  named_unread_by old o e new (inr (read, f, h, a, k)) = (named_refused tag bounds old new read (bits_exact old o (Ok read) new h) h f e a k).reads

  named_bits_once : IsRefusedOnce (errors_of (DecodesNamedBits tag bounds))
  named_bits_once old o e f new other (inl a, m) (inl b, n) = bit_string_once tag unconstrained old o e f new other (a, m) (b, n)
  named_bits_once old o e f new other (inl a, m) (inr (ys, g, b, k, d), n) =
      absurd (not_both (DecodesBitString tag unconstrained) (ReadsShape (leaf bit_string tag unconstrained)) bits_tree bits_exact old o ys e other new b a m)
  named_bits_once old o e f new other (inr (xs, x, a, h, c), m) (inl b, n) =
      absurd (not_both (DecodesBitString tag unconstrained) (ReadsShape (leaf bit_string tag unconstrained)) bits_tree bits_exact old o xs f new other a b n)
  named_bits_once old o e f new other (inr (xs, x, a, h, c), m) (inr (ys, y, b, k, d), n) =
      let p = one_value (DecodesBitString tag unconstrained) (ReadsShape (leaf bit_string tag unconstrained)) bits_tree bits_exact old o xs ys new other a b in
      let t = p.0 in
      let q : xs ≡ ys = cc in
      let z : x ≡ y = named_once old.rule bounds ys x y (subst (λ l. AreNamedBits old.rule bounds l (Err x)) q h) k in
      (same_fault z (subst (λ (s : State). IsErrorOf x s e) p.1 c) d, p.1)

  pub named_bits_apart : AreApart (errors_of (DecodesNamedBits tag bounds)) (ReadsShape (leaf named_bits tag bounds))
  named_bits_apart = exactly_apart _ (ReadsShape (leaf named_bits tag bounds)) named_unread_by named_bits_once

-- Times and dates.
time_once : {X : Type 0} (Means : List ℕ → X → Type 0) (tag : Tag) (old : State) (e f : DecodeError) (new other : State) → (IsOutOfMemory e.kind → ⊥) → (IsOutOfMemory f.kind → ⊥)
    → DecodesTime Means tag old (Err e) new → DecodesTime Means tag old (Err f) other → IsSameError e f × (new ≡ other)
time_once Means tag old e f new other m n (inl (x, a, s, h, i)) (inl (y, b, t, k, j)) =
    let p = h (no_memory a m) in
    let q = k (no_memory b n) in
    let z : x ≡ y = cc in
    (same_fault z a b, s ∙ sym t)
time_once Means tag old e f new other m n (inl (x, a, s, h, i)) (inr (ys, q, t, k, d)) = let p = h (no_memory a m) in cc
time_once Means tag old e f new other m n (inr (xs, p, s, h, c)) (inl (y, b, t, k, j)) = let q = k (no_memory b n) in cc
time_once Means tag old e f new other m n (inr (xs, p, s, h, inr c)) (inr d) = absurd (m (ap (λ (x : DecodeError). x.kind) c.0))
time_once Means tag old e f new other m n (inr (xs, p, s, h, inl c)) (inr (ys, q, t, k, inr d)) = absurd (n (ap (λ (x : DecodeError). x.kind) d.0))
time_once Means tag old e f new other m n (inr (xs, p, s, h, inl c)) (inr (ys, q, t, k, inl d)) =
    let z : (xs, new.rest) ≡ (ys, other.rest) = cc in (
      (
        same_text ys (c.octets, c.items ∙ ap (λ (i : List ℕ × List ℕ). i.0) z, ap (λ (x : DecodeError). x.kind) c.is) (d.octets, d.items, ap (λ (x : DecodeError). x.kind) d.is),
        ap (λ (x : DecodeError). x.codec) c.is ∙ sym (ap (λ (x : DecodeError). x.codec) d.is),
      ),
      s ∙ (ap (at old) (ap (λ (i : List ℕ × List ℕ). i.1) z) ∙ sym t),
    )

pub utc_time_apart : (tag : Tag) (bounds : Constraints) → AreApart (λ old. errors_of (DecodesTime (AtAnyOffset (UtcText old.rule)) tag) old) (ReadsShape (leaf utc_time tag bounds))
utc_time_apart tag bounds = exactly_apart _ (ReadsShape (leaf utc_time tag bounds)) (λ old o e new a. utc_decodes tag old new (Err e) o a bounds)
    (λ old o e f new other a b. time_once (AtAnyOffset (UtcText old.rule)) tag old e f new other a.1 b.1 a.0 b.0)

pub generalized_time_apart : (tag : Tag) (bounds : Constraints) → AreApart (λ old. errors_of (DecodesTime (GeneralizedText old.rule) tag) old) (ReadsShape (leaf generalized_time tag bounds))
generalized_time_apart tag bounds = exactly_apart _ (ReadsShape (leaf generalized_time tag bounds)) (λ old o e new a. generalized_decodes tag old new (Err e) o a bounds)
    (λ old o e f new other a b. time_once (GeneralizedText old.rule) tag old e f new other a.1 b.1 a.0 b.0)

pub date_apart : (tag : Tag) (bounds : Constraints) → AreApart (errors_of (DecodesTime DateText tag)) (ReadsShape (leaf date tag bounds))
date_apart tag bounds = exactly_apart _ (ReadsShape (leaf date tag bounds)) (λ old o e new a. date_decodes tag old new (Err e) o a bounds)
    (λ old o e f new other a b. time_once DateText tag old e f new other a.1 b.1 a.0 b.0)

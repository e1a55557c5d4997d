-- What is reported of a string's octets is what its kind says of them.
use Rattle.std.proofs.Common.{◌≡◌, ◌≢◌, ◌≤◌, ℕ, ◌/◌, inl, inr, List, length, Option, Result, Ok, Err, refl, sym, ap, ◌∙◌, subst, chars, IsUtf8}
use Rattle.rasn_types.specs.declared.types.codec.Codec.{Codec}
use Rattle.rasn_types.specs.declared.types.constraints.Bound.{Bound}
use Rattle.rasn_types.specs.declared.types.constraints.Constraints.{Constraints}
use Rattle.rasn_types.specs.declared.types.strings.alphabet.Alphabet.{Alphabet}
use Rattle.rasn_types.specs.Shapes.{Tree, numbers, Admits, octet_string, bmp, utf8, fixed}
use Rattle.rasn_types.specs.Grammar.{Text, IsBounded, Fulfils, units}
use Rattle.rasn_types.specs.CharacterString as characters
use Rattle.rasn_types.proofs.CharacterString.Texts.{alphabet_family, alphabet_measure, alphabet_text, alphabet_only, units_only, units_there, length-units_of}
use Rattle.rasn_de.specs.declared.ber.de.parser.ParseError.{ParseError}
use Rattle.rasn_de.specs.declared.ber.de.parser.ParseError.TheVariants as fault_is
use Rattle.rasn_de.specs.CharacterString.{ByAlphabet, BySize, ByUnits, ByUtf8, ByLength, IsOutOfSize, IsWithinSize, ChecksString}
use Rattle.rasn_de.proofs.Strings.CharacterString.{Fits}

pub size_plain : (size : Option (Bound ℕ)) (n : ℕ) (f : ParseError) → IsOutOfSize size n f → f ≢ fault_is.OutOfMemory
size_plain size n f (a, e) m = cc

pub by_alphabet : (a : Alphabet) (bounds : Constraints) → Fits (characters.string_kind a) bounds (ByAlphabet a bounds.size)
by_alphabet a bounds = record {
  is_text = alphabet_family a;
  found = λ rule xs ns h. (
    subst (λ z. Text rule (characters.string_kind a) xs (numbers z)) (sym h.0) (alphabet_text a rule xs h.2),
    subst (λ m. Fulfils m bounds (numbers ns)) (sym (alphabet_measure a)) (subst (λ z. Admits ◌≤◌ bounds.size (length z)) (sym h.0) h.1),
  );
  only = λ rule xs ns t h k. (alphabet_only a rule xs t k).0 ∙ ap numbers (sym h.0);
  none = none;
  plain = plain;
}
  where
    size_of : (xs : List ℕ) (t : Tree) → t ≡ numbers xs → IsBounded (characters.string_kind a) bounds t → Admits ◌≤◌ bounds.size (length xs)
    size_of xs t e b = subst (λ m. Fulfils m bounds (numbers xs)) (alphabet_measure a) (subst (λ z. IsBounded (characters.string_kind a) bounds z) e b)

    none : (rule : Codec) (xs : List ℕ) (f : ParseError) (t : Tree) → ByAlphabet a bounds.size xs (Err f) → Text rule (characters.string_kind a) xs t → IsBounded (characters.string_kind a) bounds t → ⊥
    none rule xs f t (inl (n, e)) k b = n (size_of xs t (alphabet_only a rule xs t k).0 b)
    none rule xs f t (inr (m, (i, lt, w, n, e))) k b = n ((alphabet_only a rule xs t k).1 i 0 lt)

    plain : (xs : List ℕ) (f : ParseError) → ByAlphabet a bounds.size xs (Err f) → f ≢ fault_is.OutOfMemory
    plain xs f (inl h) = size_plain bounds.size (length xs) f h
    plain xs f (inr (m, (i, lt, w, n, e))) = λ k. cc

pub by_utf8 : (bounds : Constraints) → Fits utf8 bounds (ByUtf8 bounds.size)
by_utf8 bounds = record {
  is_text = refl;
  found = λ rule xs ns h. ((ap numbers h.0.1, h.0.0), h.1);
  only = λ rule xs ns t h k. k.0 ∙ ap numbers (sym h.0.1);
  none = none;
  plain = plain;
}
  where
    none : (rule : Codec) (xs : List ℕ) (f : ParseError) (t : Tree) → ByUtf8 bounds.size xs (Err f) → Text rule utf8 xs t → IsBounded utf8 bounds t → ⊥
    none rule xs f t (inl (n, e)) k b = n (chars xs) (k.1, refl)
    none rule xs f t (inr (ns, m, (n, e))) k b =
        n (subst (λ z. Admits ◌≤◌ bounds.size (length z)) (sym m.1) (subst (λ z. IsBounded utf8 bounds z) k.0 b))

    plain : (xs : List ℕ) (f : ParseError) → ByUtf8 bounds.size xs (Err f) → f ≢ fault_is.OutOfMemory
    plain xs f (inl (n, e)) = λ k. cc
    plain xs f (inr (ns, m, h)) = size_plain bounds.size (length ns) f h

units_same : (xs us vs : List ℕ) → units xs us → units xs vs → us ≡ vs
units_same xs us vs h k = (units_only xs us h).1 ∙ sym (units_only xs vs k).1

pub by_units : (bounds : Constraints) → Fits bmp bounds (ByUnits bounds.size)
by_units bounds = record {
  is_text = refl;
  found = λ rule xs ns h. ((ns, refl, h.0), h.1);
  only = only;
  none = none;
  plain = plain;
}
  where
    only : (rule : Codec) (xs ns : List ℕ) (t : Tree) → ByUnits bounds.size xs (Ok ns) → Text rule bmp xs t → t ≡ numbers ns
    only rule xs ns t h (us, e, k) = e ∙ ap numbers (units_same xs us ns k h.0)

    none : (rule : Codec) (xs : List ℕ) (f : ParseError) (t : Tree) → ByUnits bounds.size xs (Err f) → Text rule bmp xs t → IsBounded bmp bounds t → ⊥
    none rule xs f t (inl (n, e)) (us, d, k) b = n us k
    none rule xs f t (inr (ns, m, (n, e))) (us, d, k) b =
        n (subst (λ z. Admits ◌≤◌ bounds.size (length z)) (units_same xs us ns k m) (subst (λ z. IsBounded bmp bounds z) d b))

    plain : (xs : List ℕ) (f : ParseError) → ByUnits bounds.size xs (Err f) → f ≢ fault_is.OutOfMemory
    plain xs f (inl (n, e)) = λ k. cc
    plain xs f (inr (ns, m, h)) = size_plain bounds.size (length ns) f h

pub by_length : (n : ℕ) (bounds : Constraints) → Fits (fixed n) bounds (ByLength n bounds.size)
by_length n bounds = record {
  is_text = refl;
  found = λ rule xs ns h. ((ap numbers h.0, h.1), subst (λ z. Admits ◌≤◌ bounds.size (length z)) (sym h.0) h.2);
  only = λ rule xs ns t h k. k.0 ∙ ap numbers (sym h.0);
  none = none;
  plain = plain;
}
  where
    none : (rule : Codec) (xs : List ℕ) (f : ParseError) (t : Tree) → ByLength n bounds.size xs (Err f) → Text rule (fixed n) xs t → IsBounded (fixed n) bounds t → ⊥
    none rule xs f t (inl (m, e)) k b = m k.1
    none rule xs f t (inr (m, (h, e))) k b = h (subst (λ z. IsBounded (fixed n) bounds z) k.0 b)

    plain : (xs : List ℕ) (f : ParseError) → ByLength n bounds.size xs (Err f) → f ≢ fault_is.OutOfMemory
    plain xs f (inl (m, e)) = λ k. cc
    plain xs f (inr (m, h)) = size_plain bounds.size (length xs) f h

pub by_size : (bounds : Constraints) → Fits octet_string bounds (BySize bounds.size)
by_size bounds = record {
  is_text = refl;
  found = λ rule xs ns h. (ap numbers h.0, subst (λ z. Admits ◌≤◌ bounds.size (length z)) (sym h.0) h.1);
  only = λ rule xs ns t h k. k ∙ ap numbers (sym h.0);
  none = λ rule xs f t h k b. h.0 (subst (λ z. IsBounded octet_string bounds z) k b);
  plain = λ xs f h. size_plain bounds.size (length xs) f h;
}

-- Sizes that were checked.
pub units_checked : (bounds : Constraints) (l : List ℕ) (r : Result (Unit {0}) ParseError) → characters.ArePaired l → IsWithinSize bounds (length l / 2) r
    → ChecksString (ByUnits bounds.size) l (characters.units_of l) r
units_checked bounds l (Ok u) p h = (units_there l p, subst (λ n. Admits ◌≤◌ bounds.size n) (sym (length-units_of l)) h)
units_checked bounds l (Err f) p h = inr (characters.units_of l, units_there l p, subst (λ n. IsOutOfSize bounds.size n f) (sym (length-units_of l)) h)

pub characters_checked : (bounds : Constraints) (l : List ℕ) (n : ℕ) (r : Result (Unit {0}) ParseError) → IsUtf8 l → n ≡ length (chars l) → IsWithinSize bounds n r
    → ChecksString (ByUtf8 bounds.size) l (chars l) r
characters_checked bounds l n (Ok u) p e h = ((p, refl), subst (λ n. Admits ◌≤◌ bounds.size n) e h)
characters_checked bounds l n (Err f) p e h = inr (chars l, (p, refl), subst (λ n. IsOutOfSize bounds.size n f) e h)

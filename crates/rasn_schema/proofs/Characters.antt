-- Characters of four octets each.
use Rattle.std.proofs.Common.{◌≡◌, ℕ, ◌+◌, ◌*◌, ◌-◌, ◌<◌, ◌≤◌, inl, inr, Bool, true, false, nat_eq, List, [], ◌∷◌, ◌++◌, length, get_or, take, drop, refl, sym, ap, ap₂, ◌∙◌, subst, arith, append_assoc, append-nil}
use Rattle.std.specs.Prelude.{◌/◌, ◌%◌, chars, IsUtf8, encode_utf8}
use Rattle.std.proofs.lemmas.Bool.{and_parts}
use Rattle.std.specs.Char.{IsScalar, InScalarRange, OutOfScalarRange}
use Rattle.std.proofs.lemmas.List.{take_all}
use Rattle.std.proofs.lemmas.Str.{chars-nil, chars-append, chars_past_char, IsUtf8-encode, IsUtf8-past_char, scalars-chars}
use lib.Utf8.{scalar, scalars, scalar_cases}
use Rattle.rasn_types.specs.Grammar.{quads, IsCharacter}

pub quads_snoc : (l ns : List ℕ) (a b c d n : ℕ) → quads l ns → n ≡ 256 * (256 * (256 * a + b) + c) + d → IsCharacter n → quads (l ++ a ∷ b ∷ c ∷ d ∷ []) (ns ++ n ∷ [])
quads_snoc [] ns a b c d n h e k = (n, [], e, k, ap (λ z. z ++ n ∷ []) h, refl)
quads_snoc (w ∷ []) ns a b c d n h e k = absurd h
quads_snoc (w ∷ x ∷ []) ns a b c d n h e k = absurd h
quads_snoc (w ∷ x ∷ y ∷ []) ns a b c d n h e k = absurd h
quads_snoc (w ∷ x ∷ y ∷ z ∷ l) ns a b c d n (m, ms, f, j, g, r) e k = (m, ms ++ n ∷ [], f, j, ap (λ v. v ++ n ∷ []) g, quads_snoc l ms a b c d n r e k)

pub quads_rest : (l r ms ns : List ℕ) → quads l ms → quads (l ++ r) ns → (ks : List ℕ) × (ns ≡ ms ++ ks) × quads r ks
quads_rest [] r ms ns h k = (ns, ap (λ z. z ++ ns) (sym h), k)
quads_rest (w ∷ []) r ms ns h k = absurd h
quads_rest (w ∷ x ∷ []) r ms ns h k = absurd h
quads_rest (w ∷ x ∷ y ∷ []) r ms ns h k = absurd h
quads_rest (w ∷ x ∷ y ∷ z ∷ l) r ms ns (m, js, e, i, g, q) (n, is, f, o, p, s) =
    let (ks, u, v) = quads_rest l r js is q s in
    (ks, p ∙ (ap₂ ◌∷◌ (f ∙ sym e) u ∙ ap (λ t. t ++ ks) (sym g)), v)

-- The characters of the octets so far.
pub record ReadSoFar (octets rest characters : List ℕ) : Type 0 where
  pub front : List ℕ
  pub is : octets ≡ front ++ rest
  pub read : quads front characters

pub read_start : (octets : List ℕ) → ReadSoFar octets octets []
read_start octets = record { front = []; is = refl; read = refl }

pub read_more : (octets rest more characters next : List ℕ) (a b c d n : ℕ) → ReadSoFar octets rest characters → rest ≡ a ∷ b ∷ c ∷ d ∷ more → n ≡ 256 * (256 * (256 * a + b) + c) + d → IsCharacter n
    → next ≡ characters ++ n ∷ [] → ReadSoFar octets more next
read_more octets rest more characters next a b c d n h e f k g = record {
  front = h.front ++ a ∷ b ∷ c ∷ d ∷ [];
  is = h.is ∙ (ap (λ z. h.front ++ z) e ∙ sym (append_assoc h.front (a ∷ b ∷ c ∷ d ∷ []) more));
  read = subst (quads (h.front ++ a ∷ b ∷ c ∷ d ∷ [])) (sym g) (quads_snoc h.front characters a b c d n h.read f k);
}

pub read_all : (octets rest characters : List ℕ) → ReadSoFar octets rest characters → rest ≡ [] → quads octets characters
read_all octets rest characters h e = subst (λ l. quads l characters) (sym (h.is ∙ (ap (λ z. h.front ++ z) e ∙ append-nil h.front))) h.read

pub not_read : (octets rest characters : List ℕ) → ReadSoFar octets rest characters → ((ks : List ℕ) → quads rest ks → ⊥) → (ns : List ℕ) → quads octets ns → ⊥
not_read octets rest characters h bad ns k = let r = quads_rest h.front rest characters ns h.read (subst (λ l. quads l ns) h.is k) in bad r.0 r.2

pub no_character : (rest more : List ℕ) (a b c d n : ℕ) → rest ≡ a ∷ b ∷ c ∷ d ∷ more → n ≡ 256 * (256 * (256 * a + b) + c) + d → (IsCharacter n → ⊥) → (ks : List ℕ) → quads rest ks → ⊥
no_character rest more a b c d n e f bad ks h = let k = subst (λ l. quads l ks) e h in bad (subst IsCharacter (k.2 ∙ sym f) k.3)

pub too_few : (rest : List ℕ) → 0 < length rest → length rest < 4 → (ks : List ℕ) → quads rest ks → ⊥
too_few [] h k ks q = omega arith
too_few (a ∷ []) h k ks q = q
too_few (a ∷ b ∷ []) h k ks q = q
too_few (a ∷ b ∷ c ∷ []) h k ks q = q
too_few (a ∷ b ∷ c ∷ d ∷ l) h k ks q = omega arith

pub some_length : (b : Bool) (l : List ℕ) → b ≡ nat_eq (length l) 0 → b ≡ false → 0 < length l
some_length b [] e f = let g : true ≡ false = sym e ∙ f in cc
some_length b (c ∷ l) e f = omega arith

quad_split : (l : List ℕ) → 4 ≤ length l → l ≡ get_or l 0 0 ∷ get_or l 1 0 ∷ get_or l 2 0 ∷ get_or l 3 0 ∷ take (length l - 4) (drop 4 l)
quad_split [] h = absurd (omega arith)
quad_split (a ∷ []) h = absurd (omega arith)
quad_split (a ∷ b ∷ []) h = absurd (omega arith)
quad_split (a ∷ b ∷ c ∷ []) h = absurd (omega arith)
quad_split (a ∷ b ∷ c ∷ d ∷ l) h = ap (λ z. a ∷ b ∷ c ∷ d ∷ z) (sym (take_all (length (a ∷ b ∷ c ∷ d ∷ l) - 4) l (omega arith)))

inside : (n : ℕ) → InScalarRange n → IsCharacter n
inside n (inl h) = inl h
inside n (inr h) = inr (omega arith, omega arith)

outside : (n : ℕ) → OutOfScalarRange n → IsCharacter n → ⊥
outside n (inl h) (inl k) = omega arith
outside n (inl h) (inr k) = omega arith
outside n (inr h) (inl k) = omega arith
outside n (inr h) (inr k) = omega arith

pub pushed : (old new : List ℕ) (c : ℕ) → IsUtf8 old → IsScalar c → new ≡ old ++ encode_utf8 c → chars new ≡ chars old ++ c ∷ []
pushed old new c u s e =
    let one : chars (encode_utf8 c) ≡ c ∷ [] = chars_past_char (encode_utf8 c) [] c (IsUtf8-encode c s) (sym (append-nil (encode_utf8 c))) ∙ ap (λ z. c ∷ z) chars-nil in
    ap chars e ∙ (chars-append old (encode_utf8 c) u ∙ ap (λ z. chars old ++ z) one)

-- The number of the first four octets.
abbrev IsFirst : List ℕ → ℕ → Type 0
IsFirst rest n = n ≡ 256 * (256 * (256 * get_or rest 0 0 + get_or rest 1 0) + get_or rest 2 0) + get_or rest 3 0

pub read_four : (octets rest characters next : List ℕ) (n c : ℕ) → ReadSoFar octets rest characters → 4 ≤ length rest → IsFirst rest n → InScalarRange n → c ≡ n
    → next ≡ characters ++ c ∷ [] → ReadSoFar octets (take (length rest - 4) (drop 4 rest)) next
read_four octets rest characters next n c h k f r e g =
    read_more octets rest (take (length rest - 4) (drop 4 rest)) characters next (get_or rest 0 0) (get_or rest 1 0) (get_or rest 2 0) (get_or rest 3 0) c h (quad_split rest k) (e ∙ f)
    (inside c (subst InScalarRange (sym e) r)) g

pub not_four : (octets rest characters : List ℕ) (n : ℕ) → ReadSoFar octets rest characters → 4 ≤ length rest → IsFirst rest n → OutOfScalarRange n → (ns : List ℕ) → quads octets ns → ⊥
not_four octets rest characters n h k f r =
    not_read octets rest characters h
    (no_character rest (take (length rest - 4) (drop 4 rest)) (get_or rest 0 0) (get_or rest 1 0) (get_or rest 2 0) (get_or rest 3 0) n (quad_split rest k) f (outside n r))

-- ---- the octets of characters

-- A character with which a text begins is no surrogate.
pub is_character : (rest after : List ℕ) (c : ℕ) → IsUtf8 rest → rest ≡ encode_utf8 c ++ after → IsCharacter c
is_character rest after c u e =
    let s : scalars (c ∷ chars after) ≡ true = subst (λ l. scalars l ≡ true) (chars_past_char rest after c u e) (scalars-chars rest u) in
    scalar_cases c (and_parts (scalar c) (scalars (chars after)) s).0

-- The octets of the characters so far.
pub record WrittenSoFar (text octets rest : List ℕ) : Type 0 where
  pub front : List ℕ
  pub is : chars text ≡ front ++ chars rest
  pub utf8 : IsUtf8 rest
  pub written : quads octets front

pub written_start : (text octets rest : List ℕ) → IsUtf8 text → rest ≡ text → octets ≡ [] → WrittenSoFar text octets rest
written_start text octets rest u e f = record {
  front = [];
  is = ap chars (sym e);
  utf8 = subst IsUtf8 (sym e) u;
  written = subst (λ l. quads l []) (sym f) refl;
}

pub written_more : (text octets next rest after : List ℕ) (c : ℕ) → WrittenSoFar text octets rest → rest ≡ encode_utf8 c ++ after
    → next ≡ octets ++ 0 ∷ c / 65536 ∷ c / 256 % 256 ∷ c % 256 ∷ [] → WrittenSoFar text next after
written_more text octets next rest after c h e f = record {
  front = h.front ++ c ∷ [];
  is = h.is ∙ (ap (λ z. h.front ++ z) (chars_past_char rest after c h.utf8 e) ∙ sym (append_assoc h.front (c ∷ []) (chars after)));
  utf8 = IsUtf8-past_char rest after c h.utf8 e;
  written = subst (λ l. quads l (h.front ++ c ∷ [])) (sym f) (quads_snoc octets h.front 0 (c / 65536) (c / 256 % 256) (c % 256) c h.written (is_number c) (is_character rest after c h.utf8 e));
}
  where
    is_number : (c : ℕ) → c ≡ 256 * (256 * (256 * 0 + c / 65536) + c / 256 % 256) + c % 256
    is_number c = omega arith

pub written_all : (text octets rest : List ℕ) → WrittenSoFar text octets rest → length rest ≡ 0 → quads octets (chars text)
written_all text octets [] h e = subst (quads octets) (sym (h.is ∙ (ap (λ z. h.front ++ z) chars-nil ∙ append-nil h.front))) h.written
written_all text octets (b ∷ rest) h e = absurd (omega arith)

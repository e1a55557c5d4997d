-- Characters as 16-bit units, one after the other.
use Rattle.std.proofs.Common.{◌≡◌, ℕ, ◌+◌, ◌*◌, ◌/◌, ◌%◌, ◌-◌, ◌<◌, ◌≤◌, Bool, true, false, cond, List, [], ◌∷◌, ◌++◌, length, length-append, Option, Some, None, inl, inr, refl, sym, ap, ◌∙◌, subst, append_assoc, arith}
use Rattle.std.proofs.Math.Nat.{div-add-mod}
use Rattle.std.proofs.lemmas.List.{append-nil, flat_map_more}
use Rattle.std.specs.Prelude.{encode_utf8, encode_utf8_all, ◌⊎◌, MatchOption, IfSome, IsSomeAnd, IsUtf8, nat_le, nat_lt}
use Rattle.std.specs.List.{flat_map}
use Rattle.std.specs.Char.Escape.{encode_utf16}
use Rattle.std.specs.Str.{all_scalars}
use Rattle.std.specs.Char.Utf16.{DecodesTo, IsUnpaired, is_low_surrogate}
use Rattle.std.proofs.Math.Utf8.{scalar, scalar_cases}
use Rattle.std.proofs.lemmas.Bool.{and_from, and_parts, le-leb, lt-ltb, ltb-false, ltb-true}
use Rattle.std.proofs.lemmas.Str.{encodes_same}
use Rattle.std.specs.Iterator.{YieldsFirst}
use Rattle.std.specs.Iterator.Adapters.{peekable_steps, peekable_peeked, peekable_source}
use Rattle.std.specs.declared.iter.Ahead.{Ahead}
use Rattle.rasn_types.specs.CharacterString.{units_of, ArePaired}
use Rattle.rasn_json.specs.Texts.{UnitsText}
use Rattle.rasn_json.proofs.Spelled.{one_more_character}

one_more_of : (cs : List ℕ) (c : ℕ) → flat_map encode_utf16 cs ++ encode_utf16 c ≡ flat_map encode_utf16 (cs ++ c ∷ [])
one_more_of cs c = flat_map_more encode_utf16 [] cs c

-- ---- units that are read

abbrev pub Source : Type 0
Source = Ahead (List ℕ) ℕ

abbrev pub gives : List ℕ → Option ℕ → List ℕ → Type 0
gives = YieldsFirst (λ units. units)

-- A unit that was looked at, and those after it.
abbrev pub after_peeked : Option (Option ℕ) → List ℕ → List ℕ
after_peeked None l = l
after_peeked (Some None) l = []
after_peeked (Some (Some u)) l = u ∷ l

abbrev pub units_left : Source → List ℕ
units_left s = after_peeked (peekable_peeked s) (peekable_source s)

first_unit : (o : Option (Option ℕ)) (l m : List ℕ) (u : ℕ) → MatchOption o (gives l (Some u) m) (λ p. (Some u ≡ p) × (m ≡ l)) → after_peeked o l ≡ u ∷ m
first_unit None l m u h = h
first_unit (Some None) l m u h = absurd cc
first_unit (Some (Some v)) l m u h = cc

no_unit : (o : Option (Option ℕ)) (l m : List ℕ) → MatchOption o (gives l None m) (λ p. (None ≡ p) × (m ≡ l)) → after_peeked o l ≡ []
no_unit None l m h = h.0
no_unit (Some None) l m h = refl
no_unit (Some (Some v)) l m h = absurd cc

taken : (s t : Source) (u : ℕ) → peekable_steps gives s (Some u) t → units_left s ≡ u ∷ units_left t
taken s t u h = first_unit (peekable_peeked s) (peekable_source s) (peekable_source t) u h.1 ∙ ap (λ p. u ∷ after_peeked p (peekable_source t)) (sym h.0)

pub all_taken : (s t : Source) → peekable_steps gives s None t → units_left s ≡ []
all_taken s t h = no_unit (peekable_peeked s) (peekable_source s) (peekable_source t) h.1

-- A character is of one unit, or of two.
pub character_taken : (s m t : Source) (u c : ℕ) → peekable_steps gives s (Some u) m → DecodesTo gives u m c t → units_left s ≡ encode_utf16 c ++ units_left t
character_taken s m t u c h (inl (e, f)) = taken s m u h ∙ (ap (λ x. u ∷ units_left x) (sym f) ∙ ap (λ l. l ++ units_left t) (sym e))
character_taken s m t u c h (inr (v, k, e)) = taken s m u h ∙ (ap (λ l. u ∷ l) (taken m t v k) ∙ ap (λ l. l ++ units_left t) (sym e))

-- Some of the units are read as this text, and others are left.
abbrev pub ReadAsText : List ℕ → List ℕ → List ℕ → Type 0
ReadAsText octets text left = (cs : List ℕ) × (text ≡ encode_utf8_all cs) × (units_of octets ≡ flat_map encode_utf16 cs ++ left)

pub text_more : (octets text new left after : List ℕ) (c : ℕ) → ReadAsText octets text left → new ≡ text ++ encode_utf8 c → left ≡ encode_utf16 c ++ after → ReadAsText octets new after
text_more octets text new left after c (cs, e, f) n l = (
  cs ++ c ∷ [],
  n ∙ (ap (λ x. x ++ encode_utf8 c) e ∙ sym (one_more_character cs c)),
  f ∙ (ap (λ x. flat_map encode_utf16 cs ++ x) l ∙ (sym (append_assoc (flat_map encode_utf16 cs) (encode_utf16 c) after) ∙ ap (λ x. x ++ after) (one_more_of cs c))),
)

pub text_end : (octets text left : List ℕ) → ReadAsText octets text left → left ≡ [] → IsUtf8 text → UnitsText text octets
text_end octets text left (cs, e, f) n u = (u, (cs, f ∙ (ap (λ x. flat_map encode_utf16 cs ++ x) n ∙ append-nil (flat_map encode_utf16 cs)), e))

-- ---- units that are written

units_push : (l : List ℕ) (x : ℕ) → ArePaired l → units_of (l ++ (x / 256) ∷ (x % 256) ∷ []) ≡ units_of l ++ x ∷ []
units_push [] x p = ap (λ n. n ∷ []) (div-add-mod x 256)
units_push (a ∷ []) x p = absurd (omega arith)
units_push (a ∷ b ∷ l) x p = ap (λ r. (256 * a + b) ∷ r) (units_push l x (omega arith))

-- Octets are written of the characters before the rest, except the second unit of a pair.
abbrev pub WrittenOf : List ℕ → List ℕ → List ℕ → List ℕ → Type 0
WrittenOf text octets rest pending = (cs : List ℕ) × (encode_utf8_all cs ++ rest ≡ text) × (units_of octets ++ pending ≡ flat_map encode_utf16 cs) × ArePaired octets

abbrev pub TakesUnit : List ℕ → List ℕ → ℕ → List ℕ → List ℕ → Type 0
TakesUnit rest pending x after next = ((pending ≡ x ∷ []) × (next ≡ []) × (after ≡ rest)) ⊎ ((pending ≡ []) × ((c : ℕ) × (rest ≡ encode_utf8 c ++ after) × (encode_utf16 c ≡ x ∷ next)))

pub written_more : (text octets new rest pending after next : List ℕ) (x : ℕ) → WrittenOf text octets rest pending → TakesUnit rest pending x after next → new ≡ octets ++ (x / 256) ∷ (x % 256) ∷ [] → WrittenOf text new after next
written_more text octets new rest pending after next x (cs, e, f, p) t n = go t
  where
    one : units_of new ≡ units_of octets ++ x ∷ []
    one = ap units_of n ∙ units_push octets x p

    even : ArePaired new
    even = omega (arith, p, ap length n ∙ length-append octets ((x / 256) ∷ (x % 256) ∷ []))

    joined : units_of new ++ next ≡ units_of octets ++ (x ∷ next)
    joined = ap (λ l. l ++ next) one ∙ append_assoc (units_of octets) (x ∷ []) next

    go : TakesUnit rest pending x after next → WrittenOf text new after next
    go (inl (a, b, c)) = (cs, ap (λ l. encode_utf8_all cs ++ l) c ∙ e, joined ∙ (ap (λ l. units_of octets ++ (x ∷ l)) b ∙ (ap (λ l. units_of octets ++ l) (sym a) ∙ f)), even)
    go (inr (a, (c, b, d))) = (
      cs ++ c ∷ [],
      ap (λ l. l ++ after) (one_more_character cs c) ∙ (append_assoc (encode_utf8_all cs) (encode_utf8 c) after ∙ (ap (λ l. encode_utf8_all cs ++ l) (sym b) ∙ e)),
      joined ∙ (ap (λ l. units_of octets ++ l) (sym d) ∙ (ap (λ l. l ++ encode_utf16 c) (sym (append-nil (units_of octets)) ∙ (ap (λ l. units_of octets ++ l) (sym a) ∙ f)) ∙ one_more_of cs c)),
      even,
    )

-- ---- unpaired surrogates

-- A character has one unit, or the two of a pair.
abbrev IsForm : ℕ → List ℕ → Type 0
IsForm c l = ((c < 0x10000) × (l ≡ c ∷ [])) ⊎ ((0x10000 ≤ c) × (l ≡ (0xD800 + (c - 0x10000) / 0x400) ∷ (0xDC00 + (c - 0x10000) % 0x400) ∷ []))

form_of : (c : ℕ) → IsForm c (encode_utf16 c)
form_of c = go (nat_lt c 0x10000) refl
  where
    go : (b : Bool) → nat_lt c 0x10000 ≡ b → IsForm c (encode_utf16 c)
    go true h = inl (ltb-true c 0x10000 h, ap (λ b. cond b (c ∷ []) ((0xD800 + (c - 0x10000) / 0x400) ∷ (0xDC00 + (c - 0x10000) % 0x400) ∷ [])) h)
    go false h = inr (ltb-false c 0x10000 h, ap (λ b. cond b (c ∷ []) ((0xD800 + (c - 0x10000) / 0x400) ∷ (0xDC00 + (c - 0x10000) % 0x400) ∷ [])) h)

abbrev IsCharacter : ℕ → Type 0
IsCharacter c = (c < 55296) ⊎ ((57344 ≤ c) × (c < 1114112))

same_form : (c d : ℕ) (x y l m : List ℕ) → IsCharacter c → IsCharacter d → IsForm c l → IsForm d m → l ++ x ≡ m ++ y → (c ≡ d) × (x ≡ y)
same_form c d x y l m a b (inl (p, u)) (inl (q, v)) e =
    let f : c ∷ x ≡ d ∷ y = sym (ap (λ k. k ++ x) u) ∙ (e ∙ ap (λ k. k ++ y) v) in (cc, cc)
same_form c d x y l m a b (inl (p, u)) (inr (q, v)) e =
    let f : c ∷ x ≡ (0xD800 + (d - 0x10000) / 0x400) ∷ (0xDC00 + (d - 0x10000) % 0x400) ∷ y = sym (ap (λ k. k ++ x) u) ∙ (e ∙ ap (λ k. k ++ y) v) in
    let g : c ≡ 0xD800 + (d - 0x10000) / 0x400 = cc in absurd (omega (arith, g, a, b))
same_form c d x y l m a b (inr (p, u)) (inl (q, v)) e =
    let f : (0xD800 + (c - 0x10000) / 0x400) ∷ (0xDC00 + (c - 0x10000) % 0x400) ∷ x ≡ d ∷ y = sym (ap (λ k. k ++ x) u) ∙ (e ∙ ap (λ k. k ++ y) v) in
    let g : 0xD800 + (c - 0x10000) / 0x400 ≡ d = cc in absurd (omega (arith, g, a, b))
same_form c d x y l m a b (inr (p, u)) (inr (q, v)) e =
    let f : (0xD800 + (c - 0x10000) / 0x400) ∷ (0xDC00 + (c - 0x10000) % 0x400) ∷ x ≡ (0xD800 + (d - 0x10000) / 0x400) ∷ (0xDC00 + (d - 0x10000) % 0x400) ∷ y = sym (ap (λ k. k ++ x) u) ∙ (e ∙ ap (λ k. k ++ y) v) in
    let g : 0xD800 + (c - 0x10000) / 0x400 ≡ 0xD800 + (d - 0x10000) / 0x400 = cc in
    let h : 0xDC00 + (c - 0x10000) % 0x400 ≡ 0xDC00 + (d - 0x10000) % 0x400 = cc in (omega arith, cc)

first_scalar : (c : ℕ) (cs : List ℕ) → all_scalars (c ∷ cs) ≡ true → IsCharacter c × (all_scalars cs ≡ true)
first_scalar c cs h = let p = and_parts (scalar c) (all_scalars cs) h in (scalar_cases c p.0, p.1)

no_units : (c : ℕ) (x l : List ℕ) → IsForm c l → l ++ x ≡ [] → ⊥
no_units c x l (inl (p, u)) e = let f : c ∷ x ≡ [] = sym (ap (λ k. k ++ x) u) ∙ e in cc
no_units c x l (inr (p, u)) e = let f : (0xD800 + (c - 0x10000) / 0x400) ∷ (0xDC00 + (c - 0x10000) % 0x400) ∷ x ≡ [] = sym (ap (λ k. k ++ x) u) ∙ e in cc

-- Characters whose units begin with those of others are these and more.
rest_of : (cs ds r : List ℕ) → all_scalars cs ≡ true → all_scalars ds ≡ true → flat_map encode_utf16 cs ++ r ≡ flat_map encode_utf16 ds → (es : List ℕ) × (all_scalars es ≡ true) × (r ≡ flat_map encode_utf16 es)
rest_of [] ds r a b e = (ds, b, e)
rest_of (c ∷ cs) [] r a b e = absurd (no_units c (flat_map encode_utf16 cs ++ r) (encode_utf16 c) (form_of c) (sym (append_assoc (encode_utf16 c) (flat_map encode_utf16 cs) r) ∙ e))
rest_of (c ∷ cs) (d ∷ ds) r a b e =
    let p = first_scalar c cs a in
    let q = first_scalar d ds b in
    let s = same_form c d (flat_map encode_utf16 cs ++ r) (flat_map encode_utf16 ds) (encode_utf16 c) (encode_utf16 d) p.0 q.0 (form_of c) (form_of d) (sym (append_assoc (encode_utf16 c) (flat_map encode_utf16 cs) r) ∙ e) in
    rest_of cs ds r p.1 q.1 s.1

abbrev Peeks : Source → Option ℕ → Source → Type 0
Peeks s r t = MatchOption (peekable_peeked s) (gives (peekable_source s) r (peekable_source t)) (λ o. (r ≡ o) × (peekable_source t ≡ peekable_source s))

-- The next unit isn't the second of a pair.
not_second : (m t : Source) (o : Option ℕ) (v : ℕ) (rest : List ℕ) → Peeks m o t → IfSome o (λ x. is_low_surrogate x ≡ false) → units_left m ≡ v ∷ rest → 0xDC00 ≤ v → v < 0xE000 → ⊥
not_second m t None v rest h n e low high = let f : [] ≡ v ∷ rest = sym (no_unit (peekable_peeked m) (peekable_source m) (peekable_source t) h) ∙ e in cc
not_second m t (Some x) v rest h n e low high =
    let f : x ∷ peekable_source t ≡ v ∷ rest = sym (first_unit (peekable_peeked m) (peekable_source m) (peekable_source t) x h) ∙ e in
    let g : x ≡ v = cc in
    let second : is_low_surrogate v ≡ true = and_from (nat_le 0xDC00 v) (nat_lt v 0xE000) (le-leb 0xDC00 v low) (lt-ltb v 0xE000 high) in
    let no : false ≡ true = sym (subst (λ y. is_low_surrogate y ≡ false) g n) ∙ second in cc

not_low : (p : Option (Option ℕ)) (o : Option ℕ) → p ≡ Some o → IsSomeAnd p (λ x. IfSome x (λ v. is_low_surrogate v ≡ false)) → IfSome o (λ v. is_low_surrogate v ≡ false)
not_low p o e h = subst (λ q. IsSomeAnd q (λ x. IfSome x (λ v. is_low_surrogate v ≡ false))) e h

no_character : (m t : Source) (u : ℕ) (es : List ℕ) → IsUnpaired gives u m t → all_scalars es ≡ true → u ∷ units_left m ≡ flat_map encode_utf16 es → ⊥
no_character m t u [] n a e = cc
no_character m t u (d ∷ es) n a e = go (form_of d)
  where
    go : IsForm d (encode_utf16 d) → ⊥
    go (inl (p, l)) =
        let f : u ∷ units_left m ≡ d ∷ flat_map encode_utf16 es = e ∙ ap (λ k. k ++ flat_map encode_utf16 es) l in
        let g : u ≡ d = cc in
        let c = (first_scalar d es a).0 in omega (arith, g, c, n.0, n.1)
    go (inr (p, l)) =
        let f : u ∷ units_left m ≡ (0xD800 + (d - 0x10000) / 0x400) ∷ (0xDC00 + (d - 0x10000) % 0x400) ∷ flat_map encode_utf16 es = e ∙ ap (λ k. k ++ flat_map encode_utf16 es) l in
        let g : u ≡ 0xD800 + (d - 0x10000) / 0x400 = cc in
        let h : units_left m ≡ (0xDC00 + (d - 0x10000) % 0x400) ∷ flat_map encode_utf16 es = cc in
        let c = (first_scalar d es a).0 in
        let first : u < 0xDC00 = omega (arith, g, c) in
        let after = n.3 first in
        not_second m t after.0.0 (0xDC00 + (d - 0x10000) % 0x400) (flat_map encode_utf16 es) after.0.1 (not_low (peekable_peeked t) after.0.0 after.0.2 after.1) h (omega arith) (omega arith)

pub no_text : (octets text : List ℕ) (s m t : Source) (u : ℕ) → ReadAsText octets text (units_left s) → IsUtf8 text → peekable_steps gives s (Some u) m → IsUnpaired gives u m t → (z : List ℕ) → UnitsText z octets → ⊥
no_text octets text s m t u (cs, e, f) (ks, (are, k)) step n z ((ws, (there, w)), (ds, g, h)) =
    let a = subst (λ l. all_scalars l ≡ true) (encodes_same ks cs (k ∙ e)) are in
    let b = subst (λ l. all_scalars l ≡ true) (encodes_same ws ds (w ∙ h)) there in
    let r = rest_of cs ds (units_left s) a b (sym f ∙ g) in
    no_character m t u r.0 n r.1 (sym (taken s m u step) ∙ r.2)

-- No complete encoding is a proper prefix of another, and its steps are determined.
use Rattle.std.proofs.Common.{◌≡◌, ℕ, ◌+◌, ◌*◌, ◌<◌, ◌≤◌, inr, List, [], ◌∷◌, ◌++◌, length, Bool, true, refl, sym, ap, ap₂, ◌∙◌, subst, arith, append_assoc, length-append}
use Rattle.std.proofs.lemmas.List.{append_cancel_right}
use Rattle.rasn_types.specs.Tags.{Form, loose, Codec, Tag}
use Rattle.rasn_types.specs.Framing.{Extent, definite, indefinite, Frame, with_length, without_length, SpellsLength, SpellsAnyIdentifier, NextTag, CompleteEncoding, plain, closed, CompleteEncodings, none, one_more, steps_in, steps_of}
use Rattle.rasn_types.proofs.Headers.Frames.{frame_one, not_ended, frame_next}

-- If octets are appended to the input, they are appended to the rest.
pub frame_more : {rule : Form} {input rest : List ℕ} {s : Tag} {b : Bool} {m : Extent} (x : List ℕ)
    → Frame rule input s b rest m → Frame rule (input ++ x) s b (rest ++ x) m
frame_more {rest = rest} x (with_length id len c p q z e) =
    with_length id len c p q z (ap (λ l. l ++ x) e ∙ simp append_assoc)
frame_more {rest = rest} x (without_length id p q r e) = without_length id p q r (ap (λ l. l ++ x) e ∙ simp append_assoc)

pub whole_next : {rule : Codec} {text : List ℕ} (x : List ℕ) → CompleteEncoding rule text → (n : Tag) × NextTag (loose rule) (text ++ x) n
whole_next x (plain tag bit contents frame) = (tag, frame_next (frame_more x frame))
whole_next x (closed tag bit body nested frame inside is) = (tag, frame_next (frame_more x frame))

some_whole : {rule : Codec} {text : List ℕ} (front back x y : List ℕ) → CompleteEncoding rule front → text ≡ front ++ back → text ++ x ≡ 0 ∷ 0 ∷ y → ⊥
some_whole {text = text} front back x y h e f =
    let n = whole_next (back ++ x) h in
    let g : front ++ (back ++ x) ≡ 0 ∷ 0 ∷ y = sym (append_assoc front back x) ∙ (sym (ap (λ l. l ++ x) e) ∙ f) in
    not_ended true (front ++ (back ++ x)) n.0 n.1 (inr (refl, y, g))

-- The octets after it are the same, and so are the steps.
abbrev pub IsSameEnd : List ℕ → List ℕ → ℕ → ℕ → Type 0
IsSameEnd x y m n = (x ≡ y) × (m ≡ n)

mutual
  pub whole_one : {rule other : Codec} {a b : List ℕ} (x y : List ℕ) (v : CompleteEncoding rule a) (w : CompleteEncoding other b) → a ++ x ≡ b ++ y → IsSameEnd x y (steps_in v) (steps_in w)
  whole_one {other = other} x y (plain s c l f) (plain t d m g) e =
      ((frame_one _ (frame_more x f) (subst (λ i. Frame (loose other) i t d y (definite m)) (sym e) (frame_more y g))).rest, refl)
  whole_one {other = other} x y (plain s c l f) (closed t d body nested g inside is) e =
      let o = (frame_one _ (frame_more x f) (subst (λ i. Frame (loose other) i t d (body ++ y) indefinite) (sym e) (frame_more y g))).extent in cc
  whole_one {other = other} x y (closed s c body nested f inside is) (plain t d m g) e =
      let o = (frame_one _ (frame_more x f) (subst (λ i. Frame (loose other) i t d y (definite m)) (sym e) (frame_more y g))).extent in cc
  whole_one {other = other} x y (closed s c body nested f inside is) (closed t d body' nested' g inside' is') e =
      let o = (frame_one _ (frame_more x f) (subst (λ i. Frame (loose other) i t d (body' ++ y) indefinite) (sym e) (frame_more y g))).rest in
      let r = wholes_one x y inside inside'
      (sym (append_assoc nested (0 ∷ 0 ∷ []) x) ∙ (ap (λ l. l ++ x) (sym is) ∙ (o ∙ (ap (λ l. l ++ y) is' ∙ append_assoc nested' (0 ∷ 0 ∷ []) y)))) in
      (r.0, ap (λ n. 1 + n) r.1)

  pub wholes_one : {rule other : Codec} {a b : List ℕ} (x y : List ℕ) (v : CompleteEncodings rule a) (w : CompleteEncodings other b) → a ++ (0 ∷ 0 ∷ x) ≡ b ++ (0 ∷ 0 ∷ y)
      → IsSameEnd x y (steps_of v) (steps_of w)
  wholes_one x y none none e = (cc, refl)
  wholes_one x y none (one_more front back first others is) e = absurd (some_whole front back (0 ∷ 0 ∷ y) x first is (sym e))
  wholes_one x y (one_more front back first others is) none e = absurd (some_whole front back (0 ∷ 0 ∷ x) y first is e)
  wholes_one x y (one_more front back first others is) (one_more front' back' first' others' is') e =
      let r = whole_one (back ++ (0 ∷ 0 ∷ x)) (back' ++ (0 ∷ 0 ∷ y)) first first'
      (sym (append_assoc front back (0 ∷ 0 ∷ x)) ∙ (ap (λ l. l ++ (0 ∷ 0 ∷ x)) (sym is) ∙ (e ∙ (ap (λ l. l ++ (0 ∷ 0 ∷ y)) is' ∙ append_assoc front' back' (0 ∷ 0 ∷ y))))) in
      let q = wholes_one x y others others' r.0 in
      (q.0, ap₂ (λ m n. (1 + m) + n) r.1 q.1)

spelled_some : (l : List ℕ) (tag : Tag) (bit : Bool) → SpellsAnyIdentifier l tag bit → 0 < length l
spelled_some [] tag bit h = absurd h
spelled_some (b ∷ l) tag bit h = omega arith

length_some : (l : List ℕ) (n : ℕ) → SpellsLength l n → 0 < length l
length_some [] n h = absurd h
length_some (b ∷ l) n h = omega arith

definite_long : {rule : Form} {text rest contents : List ℕ} {tag : Tag} {bit : Bool} → Frame rule text tag bit rest (definite contents) → 2 ≤ length text
definite_long {rest = rest} {contents = contents} {tag = tag} {bit = bit} (with_length id len c p q z e) =
    let f = ap length e in
    omega (arith, spelled_some id tag bit p.spells, length_some len (length contents) q, length-append id (len ++ (contents ++ rest)), length-append len (contents ++ rest))

indefinite_long : {rule : Form} {text rest : List ℕ} {tag : Tag} {bit : Bool} → Frame rule text tag bit rest indefinite → 2 + length rest ≤ length text
indefinite_long {rest = rest} {tag = tag} {bit = bit} (without_length id p q r e) =
    let f = ap length e in
    omega (arith, spelled_some id tag bit p.spells, length-append id (128 ∷ rest))

-- Each step skips at least two octets, and the first header takes two more.
mutual
  pub steps_twice : {rule : Codec} {text : List ℕ} (w : CompleteEncoding rule text) → 2 + 2 * steps_in w ≤ length text
  steps_twice (plain tag bit contents f) = definite_long f
  steps_twice (closed tag bit body nested f inside is) =
      let l = ap length is in
      omega (arith, indefinite_long f, all_steps_twice inside, length-append nested (0 ∷ 0 ∷ []))

  pub all_steps_twice : {rule : Codec} {text : List ℕ} (w : CompleteEncodings rule text) → 2 * steps_of w ≤ length text
  all_steps_twice none = omega arith
  all_steps_twice (one_more front back first others is) =
      let l = ap length is in
      omega (arith, steps_twice first, all_steps_twice others, length-append front back)

pub whole_text_one : {rule other : Codec} {a b : List ℕ} (x y : List ℕ) (v : CompleteEncoding rule a) (w : CompleteEncoding other b) → a ++ x ≡ b ++ y → a ≡ b
whole_text_one {a = a} {b = b} x y v w e = append_cancel_right a b x (e ∙ ap (λ l. b ++ l) (sym (whole_one x y v w e).0))

-- Encodings, one after the other: the first one, and those after it.
use Rattle.std.specs.Prelude.{IfOk, Result, Ok, Err}
use Rattle.std.proofs.Common.{◌≡◌, ◌≢◌, ℕ, ◌+◌, ◌≤◌, List, [], ◌∷◌, ◌++◌, length, Bool, true, false, refl, sym, ap, ◌∙◌, subst, arith, append_assoc, append-nil, length-append}
use Rattle.rasn_types.specs.declared.types.tag.Tag.{Tag}
use Rattle.rasn_types.specs.Tags.{der_form}
use Rattle.rasn_types.specs.Framing.{Frame, with_length, definite, SpellsAnyIdentifier, SpellsLength}
use Rattle.rasn_types.specs.Contents.{joined_lists}
use Rattle.rasn_types.specs.Truth.{IsWhether}
use Rattle.rasn_types.proofs.Headers.Frames.{frame_one}
use Rattle.rasn_types.proofs.Encoding.Complete.{frame_more}
use Rattle.rasn_de.proofs.Headers.Fronts.{frame_shorter}
use Rattle.rasn_lint.specs.Contents.{AllowsContents}
use Rattle.rasn_lint.specs.Universal.{rule_of}
use Rattle.rasn_lint.specs.WellFormed.{AllowsParts, AllowsEncoding, IsWellFormed, primitive, constructed, AreWellFormed, none, one_more, AreEncodings}

pub there : {l : List ℕ} {tag : Tag} {bit : Bool} {c rest : List ℕ} → Frame der_form l tag bit rest (definite c) → l ≢ []
there {rest = rest} f e = let n = frame_shorter f in let m = ap length e in omega (arith, n, m)

id_some : (l : List ℕ) (tag : Tag) (bit : Bool) → SpellsAnyIdentifier l tag bit → 1 ≤ length l
id_some [] tag bit h = absurd h
id_some (b ∷ l) tag bit h = omega arith

len_some : (l : List ℕ) (n : ℕ) → SpellsLength l n → 1 ≤ length l
len_some [] n h = absurd h
len_some (b ∷ l) n h = omega arith

-- The header takes at least two octets.
pub frame_parts : {l : List ℕ} {tag : Tag} {bit : Bool} {c rest : List ℕ} → Frame der_form l tag bit rest (definite c) → length c + length rest + 2 ≤ length l
frame_parts {l} {tag = tag} {bit = bit} {rest = rest} (with_length id len c p q z e) =
    let k : length l ≡ length id + (length len + (length c + length rest)) = ap length e ∙ simp length-append in
    let m = id_some id tag bit p.spells in
    let n = len_some len (length c) q in
    omega (arith, k, m, n)

-- The header of a well-formed encoding.
pub record Header (l : List ℕ) : Type 0 where
  pub tag : Tag
  pub bit : Bool
  pub contents : List ℕ
  pub frame : Frame der_form l tag bit [] (definite contents)

pub header : {l : List ℕ} → IsWellFormed l → Header l
header (primitive tag c f a) = record { tag = tag; bit = false; contents = c; frame = f }
header (constructed tag parts f a w) = record { tag = tag; bit = true; contents = joined_lists parts; frame = f }

-- The frame of the first encoding is one of all octets.
pub first_frame : {l p more : List ℕ} {tag : Tag} {bit : Bool} {c : List ℕ} → l ≡ p ++ more → Frame der_form p tag bit [] (definite c) → Frame der_form l tag bit more (definite c)
first_frame {more = more} {tag = tag} {bit = bit} {c = c} e f = subst (λ x. Frame der_form x tag bit more (definite c)) (sym e) (frame_more more f)

-- The first of the encodings, and what follows it.
pub record Front (l : List ℕ) : Type 0 where
  pub part : List ℕ
  pub more : List ℕ
  pub is : l ≡ part ++ more
  pub formed : IsWellFormed part
  pub others : AreEncodings more

pub front : (l : List ℕ) → AreEncodings l → l ≢ [] → Front l
front l (parts, e, w) n = go parts e w
  where
    go : (ps : List (List ℕ)) → l ≡ joined_lists ps → AreWellFormed ps → Front l
    go [] e w = absurd (n e)
    go (p ∷ ps) e (one_more h w) = record { part = p; more = joined_lists ps; is = e; formed = h; others = (ps, refl, w) }

-- All the octets of the encoding at the front.
pub record Whole (l : List ℕ) (tag : Tag) (bit : Bool) (c rest : List ℕ) : Type 0 where
  pub text : List ℕ
  pub frame : Frame der_form text tag bit [] (definite c)
  pub is : l ≡ text ++ rest

pub whole : {l : List ℕ} {tag : Tag} {bit : Bool} {c rest : List ℕ} → Frame der_form l tag bit rest (definite c) → Whole l tag bit c rest
whole {rest = rest} (with_length id len c p q z e) = record {
  text = id ++ (len ++ c);
  frame = with_length id len c p q z (ap (λ x. id ++ (len ++ x)) (sym (append-nil c)));
  is = e ∙ (ap (λ x. id ++ x) (sym (append_assoc len c rest)) ∙ sym (append_assoc id (len ++ c) rest));
}

added : (l text rest : List ℕ) → l ≡ text ++ rest → IsWellFormed text → AreEncodings rest → AreEncodings l
added l text rest e h (ps, f, w) = (text ∷ ps, e ∙ ap (λ x. text ++ x) f, one_more h w)

pub no_encodings : AreEncodings []
no_encodings = ([], refl, none)

-- The encodings in the contents of the first one, and what follows it.
pub record Parts (tag : Tag) (c rest : List ℕ) : Type 0 where
  pub parts : List (List ℕ)
  pub are : c ≡ joined_lists parts
  pub formed : AreWellFormed parts
  pub allowed : AllowsParts (rule_of tag) parts
  pub others : AreEncodings rest

module _ {l : List ℕ} {tag : Tag} {c rest : List ℕ} where
  pub primitive_first : Frame der_form l tag false rest (definite c) → AreEncodings l → AllowsContents (rule_of tag) c × AreEncodings rest
  primitive_first f w = go v.formed
    where
      v : Front l
      v = front l w (there f)

      go : IsWellFormed v.part → AllowsContents (rule_of tag) c × AreEncodings rest
      go (primitive t d g a) =
          let o = frame_one l f (first_frame v.is g) in
          let s : t ≡ tag = sym o.tag in
          let x = o.extent in
          let k : d ≡ c = cc in
          (subst (λ y. AllowsContents (rule_of tag) y) k (subst (λ y. AllowsContents (rule_of y) d) s a), subst AreEncodings (sym o.rest) v.others)
      go (constructed t ps g a h) = let o = (frame_one l f (first_frame v.is g)).bit in cc

  pub constructed_first : Frame der_form l tag true rest (definite c) → AreEncodings l → Parts tag c rest
  constructed_first f w = go v.formed
    where
      v : Front l
      v = front l w (there f)

      go : IsWellFormed v.part → Parts tag c rest
      go (primitive t d g a) = let o = (frame_one l f (first_frame v.is g)).bit in cc
      go (constructed t ps g a h) =
          let o = frame_one l f (first_frame v.is g) in
          let x = o.extent in
          let k : c ≡ joined_lists ps = cc in
          record { parts = ps; are = k; formed = h; allowed = subst (λ y. AllowsParts (rule_of y) ps) (sym o.tag) a; others = subst AreEncodings (sym o.rest) v.others }

  pub with_primitive : Frame der_form l tag false rest (definite c) → AllowsContents (rule_of tag) c → AreEncodings rest → AreEncodings l
  with_primitive f a w = let t = whole f in added l t.text rest t.is (primitive tag c t.frame a) w

  pub with_constructed : Frame der_form l tag true rest (definite c) → (parts : List (List ℕ)) → c ≡ joined_lists parts → AreWellFormed parts
      → AllowsParts (rule_of tag) parts → AreEncodings rest → AreEncodings l
  with_constructed f parts e h a w =
      let t = whole f in
      added l t.text rest t.is (constructed tag parts (subst (λ x. Frame der_form t.text tag true [] (definite x)) e t.frame) a h) w

-- All of the octets are one encoding.
module _ (l : List ℕ) (tag : Tag) (bit : Bool) (c rest : List ℕ) (f : Frame der_form l tag bit rest (definite c)) where
  pub nothing_follows : IsWellFormed l → rest ≡ []
  nothing_follows h = (frame_one l f (header h).frame).rest

  pub disallowed : AllowsEncoding false tag bit c → IsWellFormed l → ⊥
  disallowed a (primitive t d g b) =
      let o = frame_one l f g in
      let s : t ≡ tag = sym o.tag in
      let x = o.extent in
      let k : d ≡ c = cc in
      let n : AllowsContents (rule_of tag) c → ⊥ = subst (λ y. AllowsEncoding false tag y c) o.bit a in
      n (subst (λ y. AllowsContents (rule_of tag) y) k (subst (λ y. AllowsContents (rule_of y) d) s b))
  disallowed a (constructed t ps g b w) =
      let o = frame_one l f g in
      let x = o.extent in
      let k : c ≡ joined_lists ps = cc in
      let n : AllowsEncoding false tag true c = subst (λ y. AllowsEncoding false tag y c) o.bit a in
      n ps k w (subst (λ y. AllowsParts (rule_of y) ps) (sym o.tag) b)

  framed_as : (b : Bool) → bit ≡ b → rest ≡ [] → Frame der_form l tag b [] (definite c)
  framed_as b e r = subst (λ y. Frame der_form l tag b y (definite c)) r (subst (λ y. Frame der_form l tag y rest (definite c)) e f)

  pub plain : bit ≡ false → rest ≡ [] → AllowsEncoding true tag bit c → IsWellFormed l
  plain e r a = primitive tag c (framed_as false e r) (subst (λ y. AllowsEncoding true tag y c) e a)

  pub nested : (b : Bool) → bit ≡ true → rest ≡ [] → AllowsEncoding true tag bit c → IsWhether b (AreEncodings c) → IsWhether b (IsWellFormed l)
  nested true e r a (parts, q, w) =
      let n : AllowsEncoding true tag true c = subst (λ y. AllowsEncoding true tag y c) e a in
      constructed tag parts (subst (λ y. Frame der_form l tag true [] (definite y)) q (framed_as true e r)) (n parts q w) w
  nested false e r a n = λ h. go h
    where
      go : IsWellFormed l → ⊥
      go (primitive t d g b) = let o = (frame_one l f g).bit in cc
      go (constructed t ps g b w) = let x = (frame_one l f g).extent in let k : c ≡ joined_lists ps = cc in n (ps, k, w)

  pub nested_result : {E : Type 0} (r : Result Bool E) → bit ≡ true → rest ≡ [] → AllowsEncoding true tag bit c
      → IfOk r (λ b. IsWhether b (AreEncodings c)) → IfOk r (λ b. IsWhether b (IsWellFormed l))
  nested_result (Ok b) e r a h = nested b e r a h
  nested_result (Err x) e r a h = tt

  pub not_plain : bit ≡ true → (t : Tag) (r d : List ℕ) → Frame der_form l t false r (definite d) → ⊥
  not_plain e t r d g = let o = (frame_one l f g).bit in cc

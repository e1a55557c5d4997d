-- Components of a SET that are read one after the other, and compared with the one before them.
use Rattle.std.proofs.Common.{◌≡◌, ◌≢◌, ℕ, zero, suc, ◌<◌, inl, inr, List, [], ◌∷◌, ◌++◌, Bool, false, refl, sym, ap, ◌∙◌, subst, arith}
use Rattle.std.proofs.lemmas.List.{append_cancel_right}
use Rattle.rasn_types.specs.declared.types.tag.Tag.{Tag}
use Rattle.rasn_types.specs.declared.types.tag.Class.{Class}
use Rattle.rasn_types.specs.declared.types.tag.Class.TheVariants.{Universal, Application, Context, Private}
use Rattle.rasn_types.specs.Tags.{der_form, eoc, rank, IsTagBelow}
use Rattle.rasn_types.specs.Framing.{Frame, definite, Begins}
use Rattle.rasn_types.specs.Contents.{joined_lists}
use Rattle.rasn_types.specs.Order.{IsLess, AreAscending}
use Rattle.rasn_types.proofs.Headers.Frames.{frame_one, frame_next, begins_one}
use Rattle.rasn_types.proofs.SetOf.Ascending.{nothing_less}
use Rattle.rasn_de.proofs.Headers.Identifiers.{tag_is}
use Rattle.rasn_lint.specs.Encoding.{HasNoFrame}
use Rattle.rasn_lint.specs.Order.{HasNoHigherTag}
use Rattle.rasn_lint.specs.WellFormed.{IsWellFormed, AreWellFormed, one_more}
use Rattle.rasn_lint.proofs.Steps.{there, header, first_frame, whole}

-- Components that are left. The components of the contents ascend exactly if those that are left do after the last one.
pub record Left (R : List ℕ → List ℕ → Type 0) (last rest : List ℕ) (parts : List (List ℕ)) : Type 0 where
  pub left : List (List ℕ)
  pub is : rest ≡ joined_lists left
  pub formed : AreWellFormed left
  pub sound : AreAscending R (last ∷ left) → AreAscending R parts
  pub complete : AreAscending R parts → AreAscending R (last ∷ left)

abbrev pub SoFar : (List ℕ → List ℕ → Type 0) → List ℕ → List ℕ → List ℕ → Type 0
SoFar R contents last rest = (parts : List (List ℕ)) → contents ≡ joined_lists parts → AreWellFormed parts → Left R last rest parts

module _ (R : List ℕ → List ℕ → Type 0) where
  -- At the end.
  pub all_ascend : (contents last rest : List ℕ) → SoFar R contents last rest → HasNoFrame rest → (parts : List (List ℕ)) → contents ≡ joined_lists parts → AreWellFormed parts → AreAscending R parts
  all_ascend contents last rest s h parts e w = let v = s parts e w in v.sound (go v.left v.is v.formed)
    where
      go : (left : List (List ℕ)) → rest ≡ joined_lists left → AreWellFormed left → AreAscending R (last ∷ left)
      go [] e w = tt
      go (p ∷ ps) e (one_more k w) = let g = header k in absurd (h g.tag g.bit g.contents (joined_lists ps) (first_frame e g.frame))

  module _ (contents last rest : List ℕ) (s : SoFar R contents last rest) (tag : Tag) (bit : Bool) (c octets after : List ℕ)
      (f : Frame der_form rest tag bit after (definite c)) (is : rest ≡ octets ++ after) where
    -- The next component.
    record Next (left : List (List ℕ)) : Type 0 where
      pub others : List (List ℕ)
      pub are : left ≡ octets ∷ others
      pub follows : after ≡ joined_lists others
      pub formed : AreWellFormed others

    next : (left : List (List ℕ)) → rest ≡ joined_lists left → AreWellFormed left → Next left
    next [] e w = absurd (there f e)
    next (p ∷ ps) e (one_more k w) =
        let g = header k in
        let o = frame_one rest f (first_frame e g.frame) in
        let same : p ≡ octets = append_cancel_right p octets after (ap (λ x. p ++ x) o.rest ∙ (sym e ∙ is)) in
        record {
          others = ps;
          are = ap (λ x. x ∷ ps) same;
          follows = o.rest;
          formed = w;
        }

    -- Its octets or its tag fall.
    pub falls : R octets last → (parts : List (List ℕ)) → contents ≡ joined_lists parts → AreWellFormed parts → AreAscending R parts → ⊥
    falls r parts e w a =
        let v = s parts e w in
        let n = next v.left v.is v.formed in
        (subst (λ l. AreAscending R (last ∷ l)) n.are (v.complete a)).0 r

    -- They don't.
    pub rises : (R octets last → ⊥) → SoFar R contents octets after
    rises r parts e w =
        let v = s parts e w in
        let n = next v.left v.is v.formed in
        record {
          left = n.others;
          is = n.follows;
          formed = n.formed;
          sound = λ a. v.sound (subst (λ l. AreAscending R (last ∷ l)) (sym n.are) (r, a));
          complete = λ a. (subst (λ l. AreAscending R (last ∷ l)) n.are (v.complete a)).1;
        }

-- No octets are less than none.
pub octets_start : (contents : List ℕ) → SoFar IsLess contents [] contents
octets_start contents parts e w = record { left = parts; is = e; formed = w; sound = λ a. tail parts a; complete = λ a. all parts a }
  where
    tail : (ps : List (List ℕ)) → AreAscending IsLess ([] ∷ ps) → AreAscending IsLess ps
    tail [] a = tt
    tail (p ∷ ps) a = a.1

    all : (ps : List (List ℕ)) → AreAscending IsLess ps → AreAscending IsLess ([] ∷ ps)
    all [] a = tt
    all (p ∷ ps) a = (nothing_less p, a)

above_zero : (n : ℕ) → n ≢ 0 → 0 < n
above_zero zero h = absurd (h refl)
above_zero (suc n) h = omega arith

-- Universal 0 is below the tag of each value.
eoc_below : (t : Tag) → t ≢ eoc → IsTagBelow eoc t
eoc_below t h = go t.class refl
  where
    go : (k : Class) → t.class ≡ k → IsTagBelow eoc t
    go Universal e = inr (ap rank (sym e), above_zero t.value (λ z. h (tag_is t eoc e z)))
    go Application e = inl (subst (λ n. 0 < n) (sym (ap rank e)) (omega arith))
    go Context e = inl (subst (λ n. 0 < n) (sym (ap rank e)) (omega arith))
    go Private e = inl (subst (λ n. 0 < n) (sym (ap rank e)) (omega arith))

-- Octets that begin with the identifier of universal 0.
abbrev pub closing : List ℕ
closing = 0 ∷ []

pub closing_begins : Begins closing eoc
closing_begins = record { id = 0 ∷ []; bit = false; more = []; spells = record { low = 0; leading = refl; number = inl (omega arith, refl, refl) }; is = refl }

-- The tag that these octets begin with.
abbrev pub RiseSoFar : List ℕ → Tag → List ℕ → Type 0
RiseSoFar contents tag rest = (last : List ℕ) × Begins last tag × SoFar HasNoHigherTag contents last rest

pub tags_start : (contents : List ℕ) → RiseSoFar contents eoc contents
tags_start contents = (closing, closing_begins, λ parts e w. record { left = parts; is = e; formed = w; sound = λ a. tail parts a; complete = λ a. all parts w a })
  where
    tail : (ps : List (List ℕ)) → AreAscending HasNoHigherTag (closing ∷ ps) → AreAscending HasNoHigherTag ps
    tail [] a = tt
    tail (p ∷ ps) a = a.1

    first : (p : List ℕ) → IsWellFormed p → HasNoHigherTag p closing → ⊥
    first p k (t, u, b, d, n) =
        let v = frame_next (header k).frame in
        let x : u ≡ eoc = begins_one closing u eoc d closing_begins in
        let y : t ≡ (header k).tag = begins_one p t (header k).tag b v.begins in
        n (subst (λ z. IsTagBelow z t) (sym x) (subst (λ z. IsTagBelow eoc z) (sym y) (eoc_below (header k).tag v.is_one)))

    all : (ps : List (List ℕ)) → AreWellFormed ps → AreAscending HasNoHigherTag ps → AreAscending HasNoHigherTag (closing ∷ ps)
    all [] w a = tt
    all (p ∷ ps) (one_more k w) a = (first p k, a)

-- The octets of an encoding begin with its tag.
pub first_begins : (rest octets after : List ℕ) {tag : Tag} {bit : Bool} {c : List ℕ} → Frame der_form rest tag bit after (definite c) → rest ≡ octets ++ after → Begins octets tag
first_begins rest octets after {tag = tag} f is =
    let t = whole f in
    let e : t.text ≡ octets = append_cancel_right t.text octets after (sym t.is ∙ is) in
    subst (λ x. Begins x tag) e (frame_next t.frame).begins

module _ (octets last : List ℕ) (tag before : Tag) (b : Begins last before) (c : Begins octets tag) where
  pub not_higher : (IsTagBelow before tag → ⊥) → HasNoHigherTag octets last
  not_higher n = (tag, before, c, b, n)

  pub higher : IsTagBelow before tag → HasNoHigherTag octets last → ⊥
  higher h (t, u, d, e, n) =
      let x : u ≡ before = begins_one last u before e b in
      let y : t ≡ tag = begins_one octets t tag d c in
      n (subst (λ z. IsTagBelow z t) (sym x) (subst (λ z. IsTagBelow before z) (sym y) h))

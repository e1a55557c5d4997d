-- The octets that are still to be read: those inside the innermost open value, and those after each open value.
use Rattle.std.proofs.Common.{◌≡◌, ◌≢◌, ℕ, ◌+◌, ◌<◌, Bool, List, [], ◌∷◌, ◌++◌, length, true, false, refl, sym, ap, ◌∙◌, subst, arith, Bor}
use Rattle.rasn_types.specs.declared.types.tag.Tag.{Tag}
use Rattle.rasn_types.specs.Tags.{der_form}
use Rattle.rasn_types.specs.Framing.{Frame, definite}
use Rattle.rasn_lint.specs.Contents.{AllowsContents}
use Rattle.rasn_lint.specs.Encoding.{HasNoFrame}
use Rattle.rasn_lint.specs.Pending.{AllEncodings, octets_in, Keeps}
use Rattle.rasn_lint.specs.Universal.{rule_of}
use Rattle.rasn_lint.specs.WellFormed.{AreEncodings, AllowsEncoding}
use Rattle.rasn_lint.proofs.Steps.{no_encodings, front, frame_parts, header, first_frame, primitive_first, constructed_first, with_primitive, with_constructed}

pub all_snoc : (xs : List (Bor (List ℕ))) (x : Bor (List ℕ)) → AllEncodings xs → AreEncodings x.now → AllEncodings (xs ++ x ∷ [])
all_snoc [] x h w = (w, tt)
all_snoc (y ∷ ys) x h w = (h.0, all_snoc ys x h.1 w)

pub all_front : (xs : List (Bor (List ℕ))) (x : Bor (List ℕ)) → AllEncodings (xs ++ x ∷ []) → AllEncodings xs × AreEncodings x.now
all_front [] x h = (tt, h.0)
all_front (y ∷ ys) x h = let r = all_front ys x h.1 in ((h.0, r.0), r.1)

pub in_snoc : (xs : List (Bor (List ℕ))) (x : Bor (List ℕ)) → octets_in (xs ++ x ∷ []) ≡ octets_in xs + (1 + length x.now)
in_snoc [] x = omega arith
in_snoc (y ∷ ys) x = ap (λ n. (1 + length y.now) + n) (in_snoc ys x) ∙ omega arith

pub keeps_none : (octets : List ℕ) (xs : List (Bor (List ℕ))) → octets ≡ [] → Keeps octets xs xs
keeps_none octets xs e = record { sound = λ w h. h; complete = λ h. (h, subst AreEncodings (sym e) no_encodings); size = omega arith }

pub keeps_last : (x : Bor (List ℕ)) (xs ys : List (Bor (List ℕ))) → ys ≡ xs ++ x ∷ [] → Keeps x.now xs ys
keeps_last x xs ys e = record {
  sound = λ w h. subst AllEncodings (sym e) (all_snoc xs x h w);
  complete = λ h. all_front xs x (subst AllEncodings e h);
  size = let n = in_snoc xs x in let m = ap octets_in e in omega (arith, n, m);
}

-- The contents are encodings exactly if what is still to be read is.
pub record IsPending (contents rest : List ℕ) (outer : List (Bor (List ℕ))) : Type 0 where
  pub sound : AreEncodings rest → AllEncodings outer → AreEncodings contents
  pub complete : AreEncodings contents → AreEncodings rest × AllEncodings outer

pub starts : (contents : List ℕ) → IsPending contents contents []
starts contents = record { sound = λ w h. w; complete = λ w. (w, tt) }

module _ {contents rest : List ℕ} {outer : List (Bor (List ℕ))} (p : IsPending contents rest outer) where
  -- An open value is closed.
  pub closes : (after : Bor (List ℕ)) (left : List (Bor (List ℕ))) → rest ≡ [] → outer ≡ left ++ after ∷ [] → IsPending contents after.now left
  closes after left e f = record {
    sound = λ w h. p.sound (subst AreEncodings (sym e) no_encodings) (subst AllEncodings (sym f) (all_snoc left after h w));
    complete = λ w. let r = all_front left after (subst AllEncodings f (p.complete w).1) in (r.1, r.0);
  }

  -- Nothing is left.
  pub ends : rest ≡ [] → outer ≡ [] → AreEncodings contents
  ends e f = p.sound (subst AreEncodings (sym e) no_encodings) (subst AllEncodings (sym f) tt)

  pub none_begins : HasNoFrame rest → rest ≢ [] → AreEncodings contents → ⊥
  none_begins h n w = let v = front rest (p.complete w).0 n in let g = header v.formed in h g.tag g.bit g.contents v.more (first_frame v.is g.frame)

  module _ (tag : Tag) (bit : Bool) (c after : List ℕ) (f : Frame der_form rest tag bit after (definite c)) where
    framed : (b : Bool) → bit ≡ b → Frame der_form rest tag b after (definite c)
    framed b e = subst (λ x. Frame der_form rest tag x after (definite c)) e f

    -- A primitive encoding.
    pub passes : bit ≡ false → AllowsEncoding true tag bit c → IsPending contents after outer
    passes e a =
        let n : AllowsContents (rule_of tag) c = subst (λ x. AllowsEncoding true tag x c) e a in
        record { sound = λ w h. p.sound (with_primitive (framed false e) n w) h; complete = λ w. ((primitive_first (framed false e) (p.complete w).0).1, (p.complete w).1) }

    -- The contents of a constructed one are read next, and what follows it is kept.
    opened_sound : bit ≡ true → AllowsEncoding true tag bit c → AreEncodings c → AreEncodings after → AllEncodings outer → AreEncodings contents
    opened_sound e a (parts, q, h) w k =
        let n : AllowsEncoding true tag true c = subst (λ x. AllowsEncoding true tag x c) e a in
        p.sound (with_constructed (framed true e) parts q h (n parts q h) w) k

    opened_complete : bit ≡ true → AreEncodings contents → (AreEncodings c × AreEncodings after) × AllEncodings outer
    opened_complete e w = let v = constructed_first (framed true e) (p.complete w).0 in (((v.parts, v.are, v.formed), v.others), (p.complete w).1)

    pub opens : (left : List (Bor (List ℕ))) → bit ≡ true → AllowsEncoding true tag bit c → Keeps after outer left → IsPending contents c left
    opens left e a k = record {
      sound = λ w h. let r = k.complete h in opened_sound e a w r.1 r.0;
      complete = λ w. let r = opened_complete e w in (r.0.0, k.sound r.0.1 r.1);
    }

    pub refuses : AllowsEncoding false tag bit c → AreEncodings contents → ⊥
    refuses a w = go bit refl
      where
        go : (b : Bool) → bit ≡ b → ⊥
        go false e =
            let n : AllowsContents (rule_of tag) c → ⊥ = subst (λ x. AllowsEncoding false tag x c) e a in
            n (primitive_first (framed false e) (p.complete w).0).0
        go true e =
            let n : AllowsEncoding false tag true c = subst (λ x. AllowsEncoding false tag x c) e a in
            let v = constructed_first (framed true e) (p.complete w).0 in
            n v.parts v.are v.formed v.allowed

-- Each turn leaves less.
pub smaller_closed : (rest : List ℕ) (outer left : List (Bor (List ℕ))) (after : Bor (List ℕ)) → outer ≡ left ++ after ∷ [] → length after.now + octets_in left < length rest + octets_in outer
smaller_closed rest outer left after f = let n = in_snoc left after in let m = ap octets_in f in omega (arith, n, m)

module _ (rest : List ℕ) (tag : Tag) (bit : Bool) (c after : List ℕ) (outer : List (Bor (List ℕ))) (f : Frame der_form rest tag bit after (definite c)) where
  pub smaller_passed : length after + octets_in outer < length rest + octets_in outer
  smaller_passed = let n = frame_parts f in omega (arith, n)

  pub smaller_opened : (left : List (Bor (List ℕ))) → Keeps after outer left → length c + octets_in left < length rest + octets_in outer
  smaller_opened left k = let n = frame_parts f in let m = k.size in omega (arith, n, m)

-- The components of a SET that DER reads are in the order of its parts.
use Rattle.std.proofs.Common.{◌≡◌, ℕ, suc, ◌<◌, ◌≢◌, inl, inr, List, [], ◌∷◌, ◌++◌, Bool, sym, ap, ◌∙◌, subst, arith}
use Rattle.rasn_types.specs.Tags.{der_form, IsTagBelow}
use Rattle.rasn_types.specs.declared.types.codec.Codec.TheVariants.{Der}
use Rattle.rasn_types.specs.declared.types.tag.Tag.{Tag}
use Rattle.rasn_types.specs.Framing.{Begins, NextTag}
use Rattle.rasn_types.specs.Shapes.{Tree, chosen, Parts, part, IsFirst, IsFirstOf, Shape, Presence}
use Rattle.rasn_types.specs.Shapes.Parts.{none}
use Rattle.rasn_types.specs.Readings.{ReadsFrom, ReadsChoice, NoneOf, OneOf, ByPart}
use Rattle.rasn_types.specs.Order.{Each, AreAscending}
use Rattle.rasn_types.specs.Grammar.{Reads, parts_of}
use Rattle.rasn_types.proofs.Headers.Frames.{begins_one}
use Rattle.rasn_de.proofs.Headers.Begins.{begins_more}
use Rattle.rasn.proofs.StrictDer.Parts.{other_read}

-- The components of these parts.
abbrev pub Components : Parts → ℕ → ℕ → Bool → List ℕ → Tree → List ℕ → Type 0
Components ps depth k c = ReadsChoice Der k (parts_of Der ps depth c)

-- A component's first tag.
first_of : (ps : Parts) (depth k : ℕ) (c : Bool) (input : List ℕ) (t : Tree) (rest : List ℕ) → ReadsChoice Der k (parts_of Der ps depth c) input t rest
    → (n : Tag) × NextTag der_form input n × IsFirstOf ps n
unfolding Reads parts_of
first_of none depth k c input t rest h = absurd h
first_of (part presence s ps) depth k c input t rest (inl h) = (h.2, h.3, inl h.4)
first_of (part presence s ps) depth k c input t rest (inr h) = let r = first_of ps depth (suc k) c input t rest h in (r.0, r.1, inr r.2)

-- the tag of a piece is the next tag
same_first : (input b rest : List ℕ) (t n : Tag) → input ≡ b ++ rest → Begins b t → NextTag der_form input n → t ≡ n
same_first input b rest t n e h next = begins_one input t n (subst (λ i. Begins i t) (sym e) (begins_more b rest t h)) next.begins

pub fewer : (m : Tag) (ms : List Tag) → AreAscending IsTagBelow (m ∷ ms) → AreAscending IsTagBelow ms
fewer m [] d = tt
fewer m (n ∷ ms) d = d.1

module _ (presence : Presence) (s : Shape) (ps : Parts) (depth k : ℕ) (c : Bool) (below : (m n : Tag) → IsFirst s m → IsFirstOf ps n → IsTagBelow m n) where
  -- A component of a later part isn't just before one of part k.
  neither : (input : List ℕ) (x y : Tree) (a d middle rest : List ℕ) (t : Tree) (m n : Tag) → ((u : Tree) → x ≢ chosen k u) → y ≡ chosen k t
      → input ≡ a ++ middle → Components (part presence s ps) depth k c input x middle → middle ≡ d ++ rest → Components (part presence s ps) depth k c middle y rest
      → Begins a m → Begins d n → IsTagBelow n m
  unfolding Reads parts_of
  neither input x y a d middle rest t m n f e i (inl h) j g p q = absurd (f h.0 h.1)
  neither input x y a d middle rest t m n f e i (inr h) j (inr g) p q = absurd (other_read ps depth (suc k) k c middle y t rest (omega arith) e g)
  neither input x y a d middle rest t m n f e i (inr h) j (inl (u, v, o, next, first, g, differs)) p q =
      let r = first_of ps depth (suc k) c input x middle h in
      let w : m ≡ r.0 = same_first input a middle m r.0 i p r.1 in
      let z : n ≡ o = same_first middle d rest n o j q next in
      subst (λ l. IsTagBelow l m) (sym z) (subst (IsTagBelow o) (sym w) (below o r.0 first r.2))

  -- So that of part k is the first.
  pub first_is_next : (input : List ℕ) (rs : List Tree) (rest : List ℕ) (os : List (List ℕ)) (tags : List Tag) (x : Tree) (before after : List Tree) (t : Tree)
      → ReadsFrom (Components (part presence s ps) depth k c) input rs rest os → Each Begins os tags → AreAscending IsTagBelow tags
      → rs ≡ x ∷ (before ++ (chosen k t ∷ after)) → NoneOf k (x ∷ before) → ⊥
  first_is_next input [] rest os tags x before after t h b d e f = cc
  first_is_next input (p ∷ []) rest os tags x [] after t h b d e f = cc
  first_is_next input (p ∷ []) rest os tags x (y ∷ before) after t h b d e f = cc
  first_is_next input (p ∷ q ∷ rs) rest os tags x [] after t (a, az, middle, g, i, h, (l, ls, next, g', i', h', hs)) b d e f =
      let z : Each Begins (a ∷ l ∷ ls) tags = subst (λ n. Each Begins n tags) (g ∙ ap (λ n. a ∷ n) g') b in
      let o : AreAscending IsTagBelow (z.0 ∷ z.4.0 ∷ z.4.1) = subst (AreAscending IsTagBelow) (z.2 ∙ ap (λ n. z.0 ∷ n) z.4.2) d in
      let v : p ≡ x = cc in
      let w : q ≡ chosen k t = cc in
      o.0 (neither input p q a l middle next t z.0 z.4.0 (λ u y. f.0 u (sym v ∙ y)) w i h i' h' z.3 z.4.3)
  first_is_next input (p ∷ q ∷ rs) rest os tags x (y ∷ before) after t (a, az, middle, g, i, h, hs) b d e f =
      let z : Each Begins (a ∷ az) tags = subst (λ n. Each Begins n tags) g b in
      let l : q ∷ rs ≡ y ∷ (before ++ (chosen k t ∷ after)) = cc in
      first_is_next middle (q ∷ rs) rest az z.1 y before after t hs z.4 (fewer z.0 z.1 (subst (AreAscending IsTagBelow) z.2 d)) l f.1

  -- Components none of which is of part k are of the parts after it.
  pub behind : (input : List ℕ) (rs : List Tree) (rest : List ℕ) (os : List (List ℕ)) → ReadsFrom (Components (part presence s ps) depth k c) input rs rest os → NoneOf k rs
      → ReadsFrom (Components ps depth (suc k) c) input rs rest os
  unfolding Reads parts_of
  behind input [] rest os h f = h
  behind input (x ∷ rs) rest os (a, az, middle, g, i, inl h, hs) f = absurd (f.0 h.0 h.1)
  behind input (x ∷ rs) rest os (a, az, middle, g, i, inr h, hs) f = (a, az, middle, g, i, h, behind middle rs rest az hs f.1)

-- The reading of part k says nothing of later parts.
pub by_part_less : (ps : List Presence) (j k : ℕ) (u : Tree) (rs us : List Tree) → k < j → ByPart j ps (chosen k u ∷ rs) us → ByPart j ps rs us
by_part_less [] j k u rs us h b = b
by_part_less (presence ∷ ps) j k u rs us h (t, vs, e, inr (f, m), b) = (t, vs, e, inr (f.1, m), by_part_less ps (suc j) k u rs vs (omega arith) b)
by_part_less (presence ∷ ps) j k u rs us h (t, vs, e, inl o, b) = (t, vs, e, inl (less o.before o.is o.none_before), by_part_less ps (suc j) k u rs vs (omega arith) b)
  where
    less : (before : List Tree) → chosen k u ∷ rs ≡ before ++ (chosen j t ∷ o.after) → NoneOf j before → OneOf j t rs
    less [] i f = let w : k ≡ j = cc in absurd (omega arith)
    less (x ∷ before) i f = record { before = before; after = o.after; is = cc; none_before = f.1; none_after = o.none_after }

-- Which reading is of which part doesn't depend on the order of the readings.
use Rattle.std.proofs.Common.{◌≡◌, ℕ, suc, ◌<◌, ◌⊎◌, ◌≢◌, inl, inr, List, [], ◌∷◌, ◌++◌, sym, ap, subst, arith}
use Rattle.rasn_types.specs.Order.{IsReordered}
use Rattle.rasn_types.specs.Shapes.{Tree, chosen, Presence}
use Rattle.rasn_types.specs.Readings.{NoneOf, OneOf, ByPart}

-- The reading isn't of part k.
abbrev pub IsOther : ℕ → Tree → Type 0
IsOther k r = (u : Tree) → r ≢ chosen k u

pub other_part : (j k : ℕ) (u : Tree) → (j ≡ k → ⊥) → IsOther j (chosen k u)
other_part j k u h v e = h cc

none_split : (k : ℕ) (before after : List Tree) → NoneOf k (before ++ after) → NoneOf k before × NoneOf k after
none_split k [] after h = (tt, h)
none_split k (x ∷ before) after h = let o = none_split k before after h.1 in ((h.0, o.0), o.1)

none_insert : (k : ℕ) (r : Tree) (before after : List Tree) → IsOther k r → NoneOf k (before ++ after) → NoneOf k (before ++ (r ∷ after))
none_insert k r [] after d h = (d, h)
none_insert k r (x ∷ before) after d h = (h.0, none_insert k r before after d h.1)

none_remove : (k : ℕ) (r : Tree) (before after : List Tree) → NoneOf k (before ++ (r ∷ after)) → NoneOf k (before ++ after)
none_remove k r [] after h = h.1
none_remove k r (x ∷ before) after h = (h.0, none_remove k r before after h.1)

pub none_join : (k : ℕ) (before after : List Tree) → NoneOf k before → NoneOf k after → NoneOf k (before ++ after)
none_join k [] after h m = m
none_join k (x ∷ before) after h m = (h.0, none_join k before after h.1 m)

none_reordered : (k : ℕ) (rs ss : List Tree) → IsReordered rs ss → NoneOf k rs → NoneOf k ss
none_reordered k [] ss p h = subst (NoneOf k) (sym p) tt
none_reordered k (r ∷ rs) ss (before, after, e, p) h = subst (NoneOf k) (sym e) (none_insert k r before after h.0 (none_reordered k rs (before ++ after) p h.1))

-- A reading of another part, put in or taken out.
one_more : (k : ℕ) (t x : Tree) (rs : List Tree) → IsOther k x → OneOf k t rs → OneOf k t (x ∷ rs)
one_more k t x rs d o = record { before = x ∷ o.before; after = o.after; is = ap (λ l. x ∷ l) o.is; none_before = (d, o.none_before); none_after = o.none_after }

one_fewer : (k : ℕ) (t x : Tree) (rs : List Tree) → IsOther k x → OneOf k t (x ∷ rs) → OneOf k t rs
one_fewer k t x rs d o = go o.before o.is o.none_before
  where
    go : (before : List Tree) → x ∷ rs ≡ before ++ (chosen k t ∷ o.after) → NoneOf k before → OneOf k t rs
    go [] e n = let f : x ≡ chosen k t = cc in absurd (d t f)
    go (y ∷ before) e n = record { before = before; after = o.after; is = cc; none_before = n.1; none_after = o.none_after }

-- The first reading is of part k, and no other is; or it isn't.
one_first : (k : ℕ) (t x : Tree) (rs : List Tree) → OneOf k t (x ∷ rs) → ((x ≡ chosen k t) × NoneOf k rs) ⊎ (IsOther k x × OneOf k t rs)
one_first k t x rs o = go o.before o.is o.none_before
  where
    go : (before : List Tree) → x ∷ rs ≡ before ++ (chosen k t ∷ o.after) → NoneOf k before → ((x ≡ chosen k t) × NoneOf k rs) ⊎ (IsOther k x × OneOf k t rs)
    go [] e n = let f : rs ≡ o.after = cc in inl (cc, subst (NoneOf k) (sym f) o.none_after)
    go (y ∷ before) e n =
        let f : x ≡ y = cc in
        inr (subst (IsOther k) (sym f) n.0, record { before = before; after = o.after; is = cc; none_before = n.1; none_after = o.none_after })

one_here : (k : ℕ) (t x : Tree) (rs : List Tree) → x ≡ chosen k t → NoneOf k rs → OneOf k t (x ∷ rs)
one_here k t x rs e n = record { before = []; after = rs; is = ap (λ y. y ∷ rs) e; none_before = tt; none_after = n }

one_insert : (k : ℕ) (t x : Tree) (before after : List Tree) → IsOther k x → OneOf k t (before ++ after) → OneOf k t (before ++ (x ∷ after))
one_insert k t x [] after d o = one_more k t x after d o
one_insert k t x (y ∷ before) after d o = elim (one_first k t y (before ++ after) o) [
  | inl h ↦ one_here k t y (before ++ (x ∷ after)) h.0 (none_insert k x before after d h.1)
  | inr h ↦ one_more k t y (before ++ (x ∷ after)) h.0 (one_insert k t x before after d h.1)
]

one_remove : (k : ℕ) (t x : Tree) (before after : List Tree) → IsOther k x → OneOf k t (before ++ (x ∷ after)) → OneOf k t (before ++ after)
one_remove k t x [] after d o = one_fewer k t x after d o
one_remove k t x (y ∷ before) after d o = elim (one_first k t y (before ++ (x ∷ after)) o) [
  | inl h ↦ one_here k t y (before ++ after) h.0 (none_remove k x before after h.1)
  | inr h ↦ one_more k t y (before ++ after) h.0 (one_remove k t x before after d h.1)
]

one_reordered : (k : ℕ) (t : Tree) (rs ss : List Tree) → IsReordered rs ss → OneOf k t rs → OneOf k t ss
one_reordered k t [] ss p o = absurd (go o.before o.is)
  where
    go : (before : List Tree) → [] ≡ before ++ (chosen k t ∷ o.after) → ⊥
    go [] e = cc
    go (x ∷ before) e = cc
one_reordered k t (r ∷ rs) ss (before, after, e, p) o = subst (OneOf k t) (sym e) (elim (one_first k t r rs o) [
  | inl h ↦ let n = none_split k before after (none_reordered k rs (before ++ after) p h.1) in
      record { before = before; after = after; is = ap (λ y. before ++ (y ∷ after)) h.0; none_before = n.0; none_after = n.1 }
  | inr h ↦ one_insert k t r before after h.0 (one_reordered k t rs (before ++ after) p h.1)
])

pub by_part_reordered : (ps : List Presence) (k : ℕ) (rs ss ts : List Tree) → IsReordered rs ss → ByPart k ps rs ts → ByPart k ps ss ts
by_part_reordered [] k rs ss ts p h = h
by_part_reordered (presence ∷ ps) k rs ss ts p (t, us, e, inl o, b) = (t, us, e, inl (one_reordered k t rs ss p o), by_part_reordered ps (suc k) rs ss us p b)
by_part_reordered (presence ∷ ps) k rs ss ts p (t, us, e, inr h, b) = (t, us, e, inr (none_reordered k rs ss p h.0, h.1), by_part_reordered ps (suc k) rs ss us p b)

-- A reading of an earlier part says nothing of these parts.
pub by_part_more : (ps : List Presence) (j k : ℕ) (u : Tree) (rs ts : List Tree) → k < j → ByPart j ps rs ts → ByPart j ps (chosen k u ∷ rs) ts
by_part_more [] j k u rs ts h b = b
by_part_more (presence ∷ ps) j k u rs ts h (t, us, e, inl o, b) =
    (t, us, e, inl (one_more j t (chosen k u) rs (other_part j k u (λ f. omega arith)) o), by_part_more ps (suc j) k u rs us (omega arith) b)
by_part_more (presence ∷ ps) j k u rs ts h (t, us, e, inr o, b) =
    (t, us, e, inr ((other_part j k u (λ f. omega arith), o.0), o.1), by_part_more ps (suc j) k u rs us (omega arith) b)

pub by_part_less : (ps : List Presence) (j k : ℕ) (u : Tree) (before after ts : List Tree) → k < j → ByPart j ps (before ++ (chosen k u ∷ after)) ts → ByPart j ps (before ++ after) ts
by_part_less [] j k u before after ts h b = b
by_part_less (presence ∷ ps) j k u before after ts h (t, us, e, inl o, b) =
    (t, us, e, inl (one_remove j t (chosen k u) before after (other_part j k u (λ f. omega arith)) o), by_part_less ps (suc j) k u before after us (omega arith) b)
by_part_less (presence ∷ ps) j k u before after ts h (t, us, e, inr o, b) =
    (t, us, e, inr (none_remove j (chosen k u) before after o.0, o.1), by_part_less ps (suc j) k u before after us (omega arith) b)

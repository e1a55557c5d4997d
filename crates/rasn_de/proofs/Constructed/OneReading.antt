-- Parts that are missing, and parts of readings, are so in one way.
use Rattle.std.proofs.Common.{◌≡◌, ◌⊎◌, inl, inr, ℕ, suc, List, [], ◌∷◌, ◌++◌, refl, sym, ap₂, ◌∙◌, subst}
use Rattle.rasn_types.specs.Shapes.{Tree, chosen, Presence, required, addition, optional_by, default_by}
use Rattle.rasn_types.specs.Readings.{Part, IsMissing, AllMissing, presences_in, NoneOf, OneOf, ByPart}

missing_one : (p : Presence) (t u : Tree) → IsMissing p t → IsMissing p u → t ≡ u
missing_one required t u a b = absurd a
missing_one (optional_by key) t u a b = a ∙ sym b
missing_one addition t u a b = a ∙ sym b
missing_one (default_by key d) t u a b = a ∙ sym b

pub all_missing_one : (ps : List Part) (ts us : List Tree) → AllMissing (presences_in ps) ts → AllMissing (presences_in ps) us → ts ≡ us
all_missing_one [] ts us a b = a ∙ sym b
all_missing_one (p ∷ ps) ts us (t, r, e, m, a) (u, q, f, n, b) =
    e ∙ ap₂ (λ x y. x ∷ y) (missing_one p.presence t u m n) (all_missing_one ps r q a b) ∙ sym f

-- Readings are these parts in one way.
none_here : (k : ℕ) (t : Tree) (before after : List Tree) → NoneOf k (before ++ (chosen k t ∷ after)) → ⊥
none_here k t [] after h = h.0 t refl
none_here k t (b ∷ before) after h = none_here k t before after h.1

pub one_of_one : (k : ℕ) (t u : Tree) (a b c d : List Tree) → NoneOf k a → NoneOf k c → a ++ (chosen k t ∷ b) ≡ c ++ (chosen k u ∷ d) → t ≡ u
one_of_one k t u [] b [] d h l e = cc
one_of_one k t u [] b (y ∷ c) d h l e = let f : chosen k t ≡ y = cc in absurd (l.0 t (sym f))
one_of_one k t u (x ∷ a) b [] d h l e = let f : x ≡ chosen k u = cc in absurd (h.0 u f)
one_of_one k t u (x ∷ a) b (y ∷ c) d h l e = one_of_one k t u a b c d h.1 l.1 cc

pub by_part_one : (ps : List Presence) (k : ℕ) (readings ts us : List Tree) → ByPart k ps readings ts → ByPart k ps readings us → ts ≡ us
by_part_one [] k readings ts us h l = h ∙ sym l
by_part_one (p ∷ ps) k readings ts us h l = h.2 ∙ (ap₂ ◌∷◌ (go h.3 l.3) (by_part_one ps (suc k) readings h.1 l.1 h.4 l.4) ∙ sym l.2)
  where
    go : OneOf k h.0 readings ⊎ (NoneOf k readings × IsMissing p h.0) → OneOf k l.0 readings ⊎ (NoneOf k readings × IsMissing p l.0) → h.0 ≡ l.0
    go (inl a) (inl b) = one_of_one k h.0 l.0 a.before a.after b.before b.after a.none_before b.none_before (sym a.is ∙ b.is)
    go (inl a) (inr (b, c)) = absurd (none_here k h.0 a.before a.after (subst (NoneOf k) a.is b))
    go (inr (b, c)) (inl a) = absurd (none_here k l.0 a.before a.after (subst (NoneOf k) a.is b))
    go (inr (b, c)) (inr (d, e)) = missing_one p h.0 l.0 c e

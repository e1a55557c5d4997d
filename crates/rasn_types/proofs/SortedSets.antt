-- A SET whose parts are listed in the order of their tags is read as one without an extension marker that is put in
-- this order, and the other way round.
use Rattle.std.proofs.Common.{◌≡◌, ℕ, suc, ◌+◌, ◌-◌, ◌<◌, inl, inr, List, [], ◌∷◌, Bool, true, false, refl, sym, ◌∙◌, subst, arith}
use Rattle.rasn_types.specs.Tags.{Codec, Tag}
use Rattle.rasn_types.specs.Shapes.{Tree, chosen, set, sorted_set, Parts, part, count, IsFirstOf, presences}
use Rattle.rasn_types.specs.Shapes.Parts.{none}
use Rattle.rasn_types.specs.Readings.{Reading, definite_form, indefinite_form, ReadsMany, ReadsFrom, ReadsChoice, AllOf, ReadsSet, ReadsSortedSet}
use Rattle.rasn_types.specs.Grammar.{Reads, parts_of, ReadsOpenChoice}

-- A component that is read as one of the parts has the number of one, and not the next.
part_number : (rule : Codec) (ps : Parts) (depth k : ℕ) (c : Bool) (input : List ℕ) (t : Tree) (rest : List ℕ) → ReadsChoice rule k (parts_of rule ps depth c) input t rest → (j : ℕ) × (u : Tree) × (t ≡ chosen j u) × (j < k + count ps)
unfolding Reads parts_of
part_number rule none depth k c input t rest h = absurd h
part_number rule (part presence s ps) depth k c input t rest (inl h) = (k, h.0, h.1, omega arith)
part_number rule (part presence s ps) depth k c input t rest (inr h) = let r = part_number rule ps depth (suc k) c input t rest h in (r.0, r.1, r.2, omega (arith, r.3))

-- The components by the parts alone.
abbrev pub Known : Codec → Parts → ℕ → Bool → Reading Tree
Known rule ps depth c = ReadsChoice rule 0 (parts_of rule ps depth c)

-- The components by the parts, or as unknown ones.
abbrev pub KnownOrNot : Codec → Parts → ℕ → Bool → Reading Tree
KnownOrNot rule ps depth c = ReadsOpenChoice rule (IsFirstOf ps) (count ps) (Known rule ps depth c)

module _ (rule : Codec) (ps : Parts) (depth : ℕ) (c : Bool) where
  many_wider : (closing : Bool) (input : List ℕ) (rs : List Tree) (rest : List ℕ) → ReadsMany (Known rule ps depth c) closing input rs rest → ReadsMany (KnownOrNot rule ps depth c) closing input rs rest
  many_wider closing input [] rest h = h
  many_wider closing input (r ∷ rs) rest (n, middle, h, hs) = (n, middle, inl h, many_wider closing middle rs rest hs)

  from_wider : (input : List ℕ) (rs : List Tree) (rest : List ℕ) (bs : List (List ℕ)) → ReadsFrom (Known rule ps depth c) input rs rest bs → ReadsFrom (KnownOrNot rule ps depth c) input rs rest bs
  from_wider input [] rest bs h = h
  from_wider input (r ∷ rs) rest bs (b, more, middle, e, f, h, hs) = (b, more, middle, e, f, inl h, from_wider middle rs rest more hs)

  none_unknown : (closing : Bool) (input : List ℕ) (rs : List Tree) (rest : List ℕ) → ReadsMany (Known rule ps depth c) closing input rs rest → AllOf (count ps) rs []
  none_unknown closing input [] rest h = refl
  none_unknown closing input (r ∷ rs) rest (n, middle, h, hs) = inr (differs (part_number rule ps depth 0 c input r middle h), none_unknown closing middle rs rest hs)
    where
      differs : (j : ℕ) × (u : Tree) × (r ≡ chosen j u) × (j < 0 + count ps) → (v : Tree) → r ≡ chosen (count ps) v → ⊥
      differs (j, u, e, l) v f =
          let g : chosen j u ≡ chosen (count ps) v = sym e ∙ f in
          let i : j ≡ count ps = cc in
          omega (arith, l, i)

  pub contents_sorted : (closing : Bool) (input : List ℕ) (t : Tree) (rest : List ℕ) → ReadsSet rule (presences ps) (Known rule ps depth c) closing input t rest
      → ReadsSortedSet rule false (presences ps) (count ps) (KnownOrNot rule ps depth c) closing input t rest
  contents_sorted closing input t rest (rs, ts, e, m, by, z) =
      (rs, ts, [], (refl, e), many_wider closing input rs rest m, by, none_unknown closing input rs rest m, λ s. let r = z s in (r.0, from_wider input rs rest r.0 r.1, r.2))

  known : (input : List ℕ) (r : Tree) (rest : List ℕ) → ((u : Tree) → r ≡ chosen (count ps) u → ⊥) → KnownOrNot rule ps depth c input r rest → Known rule ps depth c input r rest
  known input r rest d (inl h) = h
  known input r rest d (inr (u, e, n, next, other, h)) = absurd (d u e)

  many_known : (closing : Bool) (input : List ℕ) (rs : List Tree) (rest : List ℕ) → AllOf (count ps) rs [] → ReadsMany (KnownOrNot rule ps depth c) closing input rs rest → ReadsMany (Known rule ps depth c) closing input rs rest
  many_known closing input [] rest a h = h
  many_known closing input (r ∷ rs) rest (inl (u, more, e, f, a)) h = cc
  many_known closing input (r ∷ rs) rest (inr (d, a)) (n, middle, h, hs) = (n, middle, known input r middle d h, many_known closing middle rs rest a hs)

  from_known : (input : List ℕ) (rs : List Tree) (rest : List ℕ) (bs : List (List ℕ)) → AllOf (count ps) rs [] → ReadsFrom (KnownOrNot rule ps depth c) input rs rest bs → ReadsFrom (Known rule ps depth c) input rs rest bs
  from_known input [] rest bs a h = h
  from_known input (r ∷ rs) rest bs (inl (u, more, e, f, a)) h = cc
  from_known input (r ∷ rs) rest bs (inr (d, a)) (b, more, middle, e, f, h, hs) = (b, more, middle, e, f, known input r middle d h, from_known middle rs rest more a hs)

  pub contents_listed : (closing : Bool) (input : List ℕ) (t : Tree) (rest : List ℕ) → ReadsSortedSet rule false (presences ps) (count ps) (KnownOrNot rule ps depth c) closing input t rest
      → ReadsSet rule (presences ps) (Known rule ps depth c) closing input t rest
  contents_listed closing input t rest (rs, ts, us, (none_left, e), m, by, all, z) =
      let a = subst (AllOf (count ps) rs) none_left all in
      (rs, ts, e, many_known closing input rs rest a m, by, λ s. let r = z s in (r.0, from_known input rs rest r.0 a r.1, r.2))

pub set_sorted : (rule : Codec) (tag : Tag) (ps : Parts) (depth : ℕ) (closing : Bool) (input : List ℕ) (t : Tree) (rest : List ℕ) → Reads rule (set tag ps) depth closing input t rest → Reads rule (sorted_set false tag ps) depth closing input t rest
unfolding Reads
set_sorted rule tag ps depth closing input t rest (deep, definite_form contents f h) = (deep, definite_form contents f (contents_sorted rule ps (depth - 1) false false contents t [] h))
set_sorted rule tag ps depth closing input t rest (deep, indefinite_form body f h) = (deep, indefinite_form body f (contents_sorted rule ps (depth - 1) true true body t (0 ∷ 0 ∷ rest) h))

pub sorted_listed : (rule : Codec) (tag : Tag) (ps : Parts) (depth : ℕ) (closing : Bool) (input : List ℕ) (t : Tree) (rest : List ℕ) → Reads rule (sorted_set false tag ps) depth closing input t rest → Reads rule (set tag ps) depth closing input t rest
unfolding Reads
sorted_listed rule tag ps depth closing input t rest (deep, definite_form contents f h) = (deep, definite_form contents f (contents_listed rule ps (depth - 1) false false contents t [] h))
sorted_listed rule tag ps depth closing input t rest (deep, indefinite_form body f h) = (deep, indefinite_form body f (contents_listed rule ps (depth - 1) true true body t (0 ∷ 0 ∷ rest) h))

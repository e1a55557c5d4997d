-- The components of a SET are read one by one, and by part, with the unknown ones in the order in which they are read,
-- they are the SET's contents.
use Rattle.std.proofs.Common.{◌≡◌, inl, inr, ℕ, suc, ◌+◌, ◌<◌, arith, Bool, true, false, List, [], ◌∷◌, map, Result, refl, sym, ap, ◌∙◌, subst}
use Rattle.rasn_types.specs.declared.types.codec.Codec.{Codec}
use Rattle.rasn_types.specs.declared.error.decode.DecodeError.{DecodeError}
use Rattle.rasn_types.specs.Shapes.{Tree, chosen, choice_by, IsSetTree, Parts, part, count, presences, IsFirstOf}
use Rattle.rasn_types.specs.Shapes.Parts.{none}
use Rattle.rasn_types.specs.Readings.{Reading, ReadsMany, ReadsChoice, AllOf, ReadsSortedSet}
use Rattle.rasn_types.specs.Grammar.{Reads, ReadsOpenChoice, parts_of}
use Rattle.rasn_types.proofs.SortedSets.{contents_sorted, contents_listed}
use Rattle.rasn_de.specs.State.{State}
use Rattle.rasn_de.specs.Decodes.{Decodes, DecodesBy}
use Rattle.rasn_de.specs.Set.{DecodesComponents, DecodesSetContents, AreMembers}
use Rattle.rasn_de.specs.Outcomes.{outcome}
use Rattle.rasn_de.proofs.Constructed.Choice.{choice_by_next}
use Rattle.rasn_de.proofs.Constructed.OneReading.{by_part_one}
use Rattle.rasn_de.proofs.Constructed.Reads.{Exact-same}
use Rattle.rasn_de.proofs.Constructed.SetContents.{ReadsComponents, MakesBy, HasNextTag, components_collect}

-- The contents of a SET of these parts.
abbrev pub SortedSetReads : Bool → Parts → Codec → ℕ → Bool → Reading Tree
SortedSetReads extensible ps rule depth closing =
    ReadsSortedSet rule extensible (presences ps) (count ps) (ReadsOpenChoice rule (IsFirstOf ps) (count ps) (ReadsChoice rule 0 (parts_of rule ps depth closing))) closing

chosen_one : (k : ℕ) (r u v : Tree) → r ≡ chosen k u → r ≡ chosen k v → u ≡ v
chosen_one k r u v e f = let g : chosen k u ≡ chosen k v = sym e ∙ f in cc

-- The readings with one number are one list.
all_one : (k : ℕ) (readings us vs : List Tree) → AllOf k readings us → AllOf k readings vs → us ≡ vs
all_one k [] us vs a b = a ∙ sym b
all_one k (r ∷ rs) us vs (inl (u, more, e, f, a)) (inl (v, others, g, h, b)) =
    f ∙ ap (λ z. u ∷ z) (all_one k rs more others a b) ∙ ap (λ z. z ∷ others) (chosen_one k r u v e g) ∙ sym h
all_one k (r ∷ rs) us vs (inl (u, more, e, f, a)) (inr (n, b)) = absurd (n u e)
all_one k (r ∷ rs) us vs (inr (n, a)) (inl (v, others, g, h, b)) = absurd (n v g)
all_one k (r ∷ rs) us vs (inr (n, a)) (inr (m, b)) = all_one k rs us vs a b

tree_of_both : (extensible : Bool) (ts us : List Tree) (t u : Tree) → IsSetTree extensible ts us t → IsSetTree extensible ts us u → t ≡ u
tree_of_both true ts us t u e f = e ∙ sym f
tree_of_both false ts us t u (n, e) (m, f) = e ∙ sym f

one_tree : (extensible : Bool) (ps : Parts) (readings : List Tree) (t u : Tree) → AreMembers extensible ps readings t → AreMembers extensible ps readings u → t ≡ u
one_tree extensible ps readings t u (ts, us, e, by, all) (vs, ws, f, other, more) =
    let g : ts ≡ vs = by_part_one (presences ps) 0 readings ts vs by other in
    let h : us ≡ ws = all_one (count ps) readings us ws all more in
    tree_of_both extensible vs ws t u (subst (λ z. IsSetTree extensible vs z t) h (subst (λ z. IsSetTree extensible z us t) g e)) f

choice_tagged : (extensible : Bool) (ps : Parts) → HasNextTag (choice_by extensible ps)
choice_tagged extensible ps rule depth closing input t r w = choice_by_next extensible rule ps depth closing input t r w

-- Without an extension marker no component has the number after those of the parts.
part_number : (rule : Codec) (ps : Parts) (depth k : ℕ) (c : Bool) (input : List ℕ) (t : Tree) (rest : List ℕ) → ReadsChoice rule k (parts_of rule ps depth c) input t rest → (j : ℕ) × (u : Tree) × (t ≡ chosen j u) × (j < k + count ps)
unfolding Reads parts_of
part_number rule none depth k c input t rest h = absurd h
part_number rule (part presence s ps) depth k c input t rest (inl h) = (k, h.0, h.1, omega arith)
part_number rule (part presence s ps) depth k c input t rest (inr h) = let r = part_number rule ps depth (suc k) c input t rest h in (r.0, r.1, r.2, omega (arith, r.3))

none_unknown : (rule : Codec) (ps : Parts) (depth : ℕ) (c closing : Bool) (input : List ℕ) (rs : List Tree) (rest : List ℕ) → ReadsMany (ReadsChoice rule 0 (parts_of rule ps depth c)) closing input rs rest → AllOf (count ps) rs []
none_unknown rule ps depth c closing input [] rest h = refl
none_unknown rule ps depth c closing input (r ∷ rs) rest (n, middle, h, hs) = inr (differs (part_number rule ps depth 0 c input r middle h), none_unknown rule ps depth c closing middle rs rest hs)
  where
    differs : (j : ℕ) × (u : Tree) × (r ≡ chosen j u) × (j < 0 + count ps) → (v : Tree) → r ≡ chosen (count ps) v → ⊥
    differs (j, u, e, l) v f =
        let g : chosen j u ≡ chosen (count ps) v = sym e ∙ f in
        let i : j ≡ count ps = cc in
        omega (arith, l, i)

module _ (ps : Parts) (old : State) where
  to_set : (extensible : Bool) (t : Tree) (r : List ℕ) → ReadsComponents (choice_by extensible ps) (AreMembers extensible ps) old.rule old.depth old.closing old.rest t r
      → SortedSetReads extensible ps old.rule old.depth old.closing old.rest t r
  unfolding Reads
  to_set true t r (rs, (ts, us, e, by, all), many, z) = (rs, ts, us, e, many, by, all, z)
  to_set false t r (rs, (ts, us, (n, e), by, all), many, z) = contents_sorted old.rule ps old.depth old.closing old.closing old.rest t r (rs, ts, e, many, by, z)

  from_set : (extensible : Bool) (t : Tree) (r : List ℕ) → SortedSetReads extensible ps old.rule old.depth old.closing old.rest t r
      → ReadsComponents (choice_by extensible ps) (AreMembers extensible ps) old.rule old.depth old.closing old.rest t r
  unfolding Reads
  from_set true t r (rs, ts, us, e, many, by, all, z) = (rs, (ts, us, e, by, all), many, z)
  from_set false t r (rs, ts, us, (n, e), many, by, all, z) =
      let l = contents_listed old.rule ps old.depth old.closing old.closing old.rest t r (rs, ts, us, (n, e), many, by, all, z) in
      (l.0, (l.1, [], (refl, l.2), l.4, none_unknown old.rule ps old.depth old.closing old.closing old.rest l.0 r l.3), l.3, l.5)

module _ {F S : Type 0} (extensible : Bool) (ps : Parts) (piece : F → Tree) (tree : S → Tree) (old : State) where
  pub sorted_collects : {L : Type 0} (elements : L → List F) (by : L → Result S DecodeError → Type 0)
      → ((fs : L) (r : Result S DecodeError) → by fs r → MakesBy (AreMembers extensible ps) tree (map piece (elements fs)) r)
      → (result : Result S DecodeError) (new : State) → DecodesSetContents (DecodesComponents (Decodes (choice_by extensible ps) piece) elements) by old result new → DecodesBy (SortedSetReads extensible ps) tree old result new
  sorted_collects elements by H result new k =
      let d = components_collect (choice_by extensible ps) (AreMembers extensible ps) (one_tree extensible ps) (choice_tagged extensible ps) piece tree old elements by H result new k in
      record {
        stays = d.stays;
        end = d.end;
        exact = Exact-same (ReadsComponents (choice_by extensible ps) (AreMembers extensible ps) old.rule old.depth old.closing) (SortedSetReads extensible ps old.rule old.depth old.closing) old.rest (outcome tree result new.rest) (to_set ps old extensible) (from_set ps old extensible) d.exact;
      }

-- The components of a SEQUENCE, all of which are absent, or read in their order.
use Rattle.std.proofs.Common.{◌≡◌, ℕ, inl, inr, ◌||◌, Bool, true, false, List, [], ◌∷◌, Vec, Global, Result, Ok, Err, refl, sym, ◌∙◌, subst}
use Rattle.std.specs.Prelude.{IfOk, IfErr}
use Rattle.rasn_types.specs.declared.types.codec.Codec.{Codec}
use Rattle.rasn_types.specs.Errors.{IsOutOfMemory}
use Rattle.rasn_types.specs.declared.error.decode.DecodeError.{DecodeError}
use Rattle.rasn_types.specs.Shapes.{Tree, items, absent, Shape, Key, own_tag, Parts, part}
use Rattle.rasn_types.specs.Readings.{IsMissing, AllMissing}
use Rattle.rasn_types.specs.Readings.{presences_in as presences_of_parts}
use Rattle.rasn_types.specs.Grammar.{parts_of}
use Rattle.rasn_types.specs.Described.{has_required}
use Rattle.rasn_types.specs.Lawful.{IsLawful, AreLawfulInOrder}
use Rattle.rasn_de.specs.State.{State}
use Rattle.rasn_de.specs.Outcomes.{Exact, Outcome, Got}
use Rattle.rasn_de.specs.Decodes.{DecodesBy, DecodesExactly, ReadsParts}
use Rattle.rasn_de.proofs.Leaves.Outcomes.{alloc_failed_before}
use Rattle.rasn_de.proofs.Headers.Ends.{IsEnd-refl}
use Rattle.rasn_de.proofs.Constructed.SequenceContents.{no_required, not_required, untagged_exact, parts_exact}
use Rattle.rasn_schema.specs.declared.types.Component.{Component}
use Rattle.rasn_schema.specs.declared.types.Presence.TheVariants.{Required, Optional, Addition, Default}
use Rattle.rasn_schema.specs.declared.types.Presence.{Presence as PartPresence}
use Rattle.rasn_schema.specs.declared.value.Value.{Value}
use Rattle.rasn_schema.specs.Trees.{tree_of}
use Rattle.rasn_schema.specs.Shapes.{components_by, key_of, presence_by, presence_of, presences_in, AreReadable}
use Rattle.rasn_schema.proofs.Presences.{missing_by}
use Rattle.rasn_dynamic.specs.Inside.{ReadsSequence}
use Rattle.rasn_dynamic.specs.Making.{Making, trees_of}
use Rattle.rasn_dynamic.specs.Calls.{nones, is_required, any_required, LeavesAllOut, AreSettled}
use Rattle.rasn_dynamic.proofs.Pieces.{none_of, settled_missing}

-- the trees of components none of which is required
one_missing : (p : PartPresence) → is_required p ≡ false → (t : Tree) × IsMissing (presence_of p) t
one_missing Required e = absurd cc
one_missing Optional e = (absent, refl)
one_missing Addition e = (absent, refl)
one_missing (Default d) e = (tree_of d, refl)

pub all_missing : (ps : List Component) → any_required ps ≡ false → (ts : List Tree) × AllMissing (presences_in ps) ts
all_missing [] e = ([], refl)
all_missing (p ∷ ps) e =
    let n = none_of (is_required p.presence) (any_required ps) e in
    let t = one_missing p.presence n.0 in
    let ts = all_missing ps n.1 in
    (t.0 ∷ ts.0, (t.0, ts.0, refl, t.1, ts.1))

module _ (f : ℕ → Shape) where
  one_required : (key : Key) (p : PartPresence) (s : Shape) (ps : Parts) → has_required (part (presence_by key p) s ps) ≡ is_required p || has_required ps
  one_required key Required s ps = refl
  one_required key Optional s ps = refl
  one_required key Addition s ps = refl
  one_required key (Default c) s ps = refl

  required_same : (ps : List Component) → has_required (components_by f ps) ≡ any_required ps
  required_same [] = refl
  required_same (p ∷ ps) = rw (← required_same ps) (one_required (key_of (f p.type_id.0)) p.presence (f p.type_id.0) (components_by f ps))

  missing_same : (rule : Codec) (ps : List Component) (depth : ℕ) (closing : Bool) (ts : List Tree) → AllMissing (presences_in ps) ts → AllMissing (presences_of_parts (parts_of rule (components_by f ps) depth closing)) ts
  unfolding parts_of
  missing_same rule [] depth closing ts e = e
  missing_same rule (p ∷ ps) depth closing ts (t, us, e, m, h) = (t, us, e, missing_by own_tag (key_of (f p.type_id.0)) p.presence t m, missing_same rule ps depth closing us h)

  pub lawful_parts : (ps : List Component) → AreLawfulInOrder (components_by f ps) → AreReadable (components_by f ps)
  unfolding IsLawful
  lawful_parts [] h = tt
  lawful_parts (p ∷ ps) (inl (r, e, n)) = (inr e, subst AreReadable (sym n) tt)
  lawful_parts (p ∷ ps) (inr (a, l, m, h)) = (inl (a, l), lawful_parts ps h)

  module _ (ps : List Component) (old : State) where
    left_exact : (t : Tree) (ts : List Tree) → any_required ps ≡ false → t ≡ items ts → AllMissing (presences_in ps) ts → (c : Bool) (i : List ℕ) → c ≡ false → i ≡ []
        → Exact (ReadsSequence (components_by f ps) old.rule old.depth c) i (Got t i)
    left_exact t ts n e m c i h g =
        subst (λ b. Exact (ReadsSequence (components_by f ps) old.rule old.depth b) i (Got t i)) (sym h)
        (subst (λ l. Exact (ReadsSequence (components_by f ps) old.rule old.depth false) l (Got t l)) (sym g)
        (untagged_exact old.rule (parts_of old.rule (components_by f ps) old.depth false) t ts
        (no_required old.rule (components_by f ps) old.depth false (required_same ps ∙ n)) e (missing_same old.rule ps old.depth false ts m)))

    -- All parts are left out.
    pub all_left : LeavesAllOut ps old → (ts : List Tree) → AllMissing (presences_in ps) ts → DecodesExactly (ReadsSequence (components_by f ps)) old (Got (items ts) old.rest) old
    all_left (n, h, g) ts m = record {
      stays = refl;
      end = IsEnd-refl old.rest;
      exact = left_exact (items ts) ts n refl m old.closing old.rest h g;
    }

    all_left_made : (keep : Bool) → LeavesAllOut ps old → (vs : Vec Value Global) → (keep ≡ true → AreSettled ps (nones ps) vs.items) → (ts : List Tree) × (keep ≡ true → trees_of vs ≡ ts) × AllMissing (presences_in ps) ts
    all_left_made true l vs h = (trees_of vs, (λ k. refl), settled_missing ps vs.items (h refl))
    all_left_made false l vs h = let t = all_missing ps l.0 in (t.0, (λ k. cc), t.1)

    pub all_left_read : (keep : Bool) → LeavesAllOut ps old → (r : Result (Vec Value Global) DecodeError) → (keep ≡ true → IfOk r (λ vs. AreSettled ps (nones ps) vs.items)) → IfErr r (λ e. IsOutOfMemory e.kind)
        → Making keep trees_of (DecodesBy (ReadsSequence (components_by f ps)) items) old r old
    all_left_read keep l (Ok vs) h m = let t = all_left_made keep l vs h in (t.0, t.1, all_left l t.0 t.2)
    all_left_read keep l (Err x) h m = alloc_failed_before (ReadsSequence (components_by f ps)) items old old x m refl

    -- Else they are read in their order.
    pub in_turn : (LeavesAllOut ps old → ⊥) → (o : Outcome) (new : State) → DecodesExactly (ReadsParts (components_by f ps)) old o new → DecodesExactly (ReadsSequence (components_by f ps)) old o new
    unfolding ReadsParts
    in_turn n o new a = record {
      stays = a.stays;
      end = a.end;
      exact = parts_exact old.rule (parts_of old.rule (components_by f ps) old.depth old.closing) old.closing old.rest o
          (λ h. n (sym (required_same ps) ∙ not_required old.rule (components_by f ps) old.depth old.closing h.0, h.1, h.2)) a.exact;
    }

-- A CHOICE is read if a tag follows.
use Rattle.std.proofs.Common.{◌≡◌, inl, inr, ℕ, Bool, true, false, suc, List, [], ◌∷◌, Result, Ok, Err, refl, sym, subst}
use Rattle.rasn_types.specs.declared.types.codec.Codec.{Codec}
use Rattle.rasn_types.specs.declared.types.tag.Tag.{Tag}
use Rattle.rasn_types.specs.declared.error.decode.DecodeError.{DecodeError}
use Rattle.rasn_types.specs.Tags.{form}
use Rattle.rasn_types.specs.Framing.{NextTag}
use Rattle.rasn_types.specs.Shapes.{Tree, Shape, choice, choice_by, Parts}
use Rattle.rasn_types.specs.Readings.{Part, ReadsChoice}
use Rattle.rasn_types.specs.Grammar.{Reads, parts_of}
use Rattle.rasn_de.specs.State.{State}
use Rattle.rasn_de.specs.Decodes.{Decodes}
use Rattle.rasn_de.specs.Choice.{DecodesChosen}
use Rattle.rasn_de.proofs.Leaves.Outcomes.{Exact-none}
use Rattle.rasn_de.proofs.Headers.Ends.{IsEnd-refl}
use Rattle.rasn_de.proofs.Constructed.Optional.{peeks_none}

pub choice_next : (rule : Codec) (k : ℕ) (ps : List Part) (input : List ℕ) (t : Tree) (rest : List ℕ) → ReadsChoice rule k ps input t rest → (next : Tag) × NextTag (form rule) input next
choice_next rule k [] input t rest h = absurd h
choice_next rule k (p ∷ ps) input t rest (inl (u, e, next, n, f, r, z)) = (next, n)
choice_next rule k (p ∷ ps) input t rest (inr h) = choice_next rule (suc k) ps input t rest h

pub choice_by_next : (extensible : Bool) (rule : Codec) (ps : Parts) (depth : ℕ) (closing : Bool) (input : List ℕ) (t : Tree) (rest : List ℕ) → Reads rule (choice_by extensible ps) depth closing input t rest
    → (next : Tag) × NextTag (form rule) input next
unfolding Reads
choice_by_next false rule ps depth closing input t rest h = choice_next rule 0 (parts_of rule ps depth closing) input t rest h
choice_by_next true rule ps depth closing input t rest (inl h) = choice_next rule 0 (parts_of rule ps depth closing) input t rest h
choice_by_next true rule ps depth closing input t rest (inr (u, e, next, n, others, r)) = (next, n)

choice_none : (extensible : Bool) (rule : Codec) (s : Shape) (ps : Parts) → s ≡ choice_by extensible ps → (depth : ℕ) (closing : Bool) (input : List ℕ) → ((next : Tag) → NextTag (form rule) input next → ⊥)
    → (t : Tree) (rest : List ℕ) → Reads rule s depth closing input t rest → ⊥
choice_none extensible rule s ps e depth closing input n t rest h =
    let c = choice_by_next extensible rule ps depth closing input t rest (subst (λ z. Reads rule z depth closing input t rest) e h) in
    n c.0 c.1

pub choice_by_decodes : {D : Type 0} (extensible : Bool) (s : Shape) (ps : Parts) → s ≡ choice_by extensible ps → (tree : D → Tree) (old : State) (result : Result D DecodeError) (new : State)
    → DecodesChosen (Decodes s tree) old result new → Decodes s tree old result new
choice_by_decodes extensible s ps c tree old (Ok v) new (tag, n, k) = k
choice_by_decodes extensible s ps c tree old (Err e) new (inl (p, q)) = subst (λ n. Decodes s tree old (Err e) n) (sym q) (record {
  stays = refl;
  end = IsEnd-refl old.rest;
  exact = Exact-none e.kind (Reads old.rule s old.depth old.closing) old.rest
      (choice_none extensible old.rule s ps c old.depth old.closing old.rest (peeks_none old e p));
})
choice_by_decodes extensible s ps c tree old (Err e) new (inr (tag, n, k)) = k

pub choice_decodes : {D : Type 0} (s : Shape) (ps : Parts) → s ≡ choice ps → (tree : D → Tree) (old : State) (result : Result D DecodeError) (new : State) → DecodesChosen (Decodes s tree) old result new → Decodes s tree old result new
choice_decodes s ps c tree old result new k = choice_by_decodes false s ps c tree old result new k

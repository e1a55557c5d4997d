-- How the read of an alternative is a read of its CHOICE. The proof of `from_tag` has a line for each `?`, one for each `Ok`, and one if no
-- alternative begins with the tag:
--
--     returns-in_err-time c = refused _ _ _ c.from_residual.ensures.1 (alternative_refused _ 0 _ _ c.args.tag c.requires ONLY _ c.in_err-time.ensures)
--     returns c = alternative_got _ 0 _ _ c.args.tag c.requires ONLY c.in_ok-time.ensures
--     returns-in_default c = no_alternative _ c.args.tag c.requires NONE _
--
-- ONLY is `(only _ 0 TAG refl refl (search rules))` of `Tags`, with the alternative's number and tag, and NONE `(nowhere _ _ (search rules, (.., tt)))`.
-- A part of a SET that has a default is read by a default form, whose clause `reads` is asked of the default's tree:
--
--     returns c = alternative_got _ 0 _ _ c.args.tag c.requires ONLY (c.in_ok-level.ensures.reads DEFAULT (λ v h. ..))
use Rattle.std.proofs.Common.{◌≡◌, ◌+◌, ℕ, zero, suc, Bool, List, Option, Some, None, refl, sym, ap, ◌∙◌, subst, arith, inl, inr}
use Rattle.rasn_types.specs.declared.types.codec.Codec.{Codec}
use Rattle.rasn_types.specs.declared.types.tag.Tag.{Tag}
use Rattle.rasn_types.specs.declared.error.decode.DecodeErrorKind.{DecodeErrorKind}
use Rattle.rasn_types.specs.Tags.{form, IsStrict}
use Rattle.rasn_types.specs.Framing.{NextTag}
use Rattle.rasn_types.specs.Shapes.{Tree, chosen, Shape, leaf, any, prefix, choice, open_choice, option, seq, set, sorted_set, list, set_of, unknown, Parts, part, Presence, required, addition, Key, own_tag, first_tags, optional_by, default_by, own, IsTagOf, IsFirst, IsFirstOf, one_tag, sought_by}
use Rattle.rasn_types.specs.Shapes.Parts.{none}
use Rattle.rasn_types.specs.Readings.{Reading, IsPresent, IsNoDefault, ReadsChoice}
use Rattle.rasn_types.specs.Grammar.{Reads, parts_of}
use Rattle.rasn_types.proofs.Headers.Frames.{next_one, not_ended}
use Rattle.rasn_de.specs.State.{State}
use Rattle.rasn_de.specs.Outcomes.{Got, refusal}
use Rattle.rasn_de.specs.Decodes.{DecodesExactly}
use Rattle.rasn_de.specs.Choice.{IsOnlyAlternative}
use Rattle.rasn_de.proofs.Leaves.Outcomes.{Exact-none, Exact-refusal}
use Rattle.rasn_de.proofs.Headers.Ends.{IsEnd-refl}
use Rattle.rasn_de.proofs.OwnTypes.Parts.{OnePart}
use Rattle.rasn_de.proofs.Constructed.Optional.{apart}

-- How an alternative is read: a part of a SET that has a default by a default form, and any other as its shape.
abbrev pub OneAlternative : Presence → Shape → Codec → ℕ → Bool → Reading Tree
OneAlternative (default_by key d) s = OnePart (default_by key d) s
OneAlternative p s = λ rule. Reads rule s

-- a value of the shape that isn't its default, where that may not be there
abbrev pub ReadsNoDefault : Presence → Shape → Codec → ℕ → Bool → Reading Tree
ReadsNoDefault p s rule depth closing input t rest = Reads rule s depth closing input t rest × (IsStrict rule → IsNoDefault p t)

-- A first tag is the own one, where there is one.
first_own : (s : Shape) (n : Tag) → IsFirst s n → IsTagOf (own s) n
first_own (leaf kind tag bounds) n h = h
first_own (any tag) n h = h
first_own (prefix tag s) n h = h
first_own (choice ps) n h = tt
first_own (open_choice ps) n h = tt
first_own (option tag s) n h = first_own s n h
first_own (seq tag ps) n h = h
first_own (set tag ps) n h = h
first_own (sorted_set extensible tag ps) n h = h
first_own (list tag s size) n h = h
first_own (set_of tag s size) n h = h
first_own unknown n h = tt

module _ (rule : Codec) (depth : ℕ) (closing : Bool) (input : List ℕ) (tag : Tag) (n : NextTag (form rule) input tag) where
  -- So a value of the shape is there.
  own_is_there : (o : Option Tag) → IsTagOf o tag → IsPresent (form rule) (one_tag o) closing input
  own_is_there None h = not_ended closing input tag n
  own_is_there (Some t) h = (not_ended closing input tag n, subst (NextTag (form rule) input) h n)

  is_there : (key : Key) (s : Shape) → IsFirst s tag → IsPresent (form rule) (sought_by key s) closing input
  is_there own_tag s f = own_is_there (own s) (first_own s tag f)
  is_there first_tags s f = (not_ended closing input tag n, tag, n, f)

  pub no_default : (p : Presence) (s : Shape) → IsFirst s tag → (t : Tree) (rest : List ℕ) → OneAlternative p s rule depth closing input t rest → ReadsNoDefault p s rule depth closing input t rest
  no_default required s f t rest h = (h, λ z. tt)
  no_default (optional_by key) s f t rest h = (h, λ z. tt)
  no_default addition s f t rest h = (h, λ z. tt)
  no_default (default_by key d) s f t rest (inl (l, e, r)) = absurd (apart (form rule) (sought_by key s) closing input l (is_there key s f))
  no_default (default_by key d) s f t rest (inr (l, h)) = h

  pub as_read : (p : Presence) (s : Shape) → IsFirst s tag → (t : Tree) (rest : List ℕ) → ReadsNoDefault p s rule depth closing input t rest → OneAlternative p s rule depth closing input t rest
  as_read required s f t rest h = h.0
  as_read (optional_by key) s f t rest h = h.0
  as_read addition s f t rest h = h.0
  as_read (default_by key d) s f t rest h = inr (is_there key s f, h)

  -- What is read as a choice begins with the tag of an alternative.
  is_first : (ps : Parts) (j : ℕ) (t : Tree) (rest : List ℕ) → ReadsChoice rule j (parts_of rule ps depth closing) input t rest → IsFirstOf ps tag
  unfolding parts_of
  is_first none j t rest h = absurd h
  is_first (part presence s ps) j t rest (inl (u, e, next, m, f, r, z)) = inl (subst (λ x. IsFirst s x) (next_one input next tag m n) f)
  is_first (part presence s ps) j t rest (inr h) = inr (is_first ps (suc j) t rest h)

  -- The alternative is read as the choice.
  pub read_at : (ps : Parts) (j k i : ℕ) (p : Presence) (s : Shape) → i ≡ j + k → IsOnlyAlternative ps k p s tag → (t : Tree) (rest : List ℕ) → ReadsNoDefault p s rule depth closing input t rest
      → ReadsChoice rule j (parts_of rule ps depth closing) input (chosen i t) rest
  unfolding parts_of
  read_at none j k i p s e o t rest r = absurd o
  read_at (part presence x ps) j zero i p s e (here, same, first, others) t rest r = inl (
    t,
    ap (λ m. chosen m t) (omega arith),
    tag,
    n,
    subst (λ z. IsFirst z tag) (sym same) first,
    subst (λ z. Reads rule z depth closing input t rest) (sym same) r.0,
    subst (λ z. IsStrict rule → IsNoDefault z t) (sym here) r.1,
  )
  read_at (part presence x ps) j (suc k) i p s e (not, o) t rest r = inr (read_at ps (suc j) k i p s (omega arith) o t rest r)

  -- Nothing else is.
  pub alone : (ps : Parts) (j k i : ℕ) (p : Presence) (s : Shape) → i ≡ j + k → IsOnlyAlternative ps k p s tag → (v : Tree) (rest : List ℕ) → ReadsChoice rule j (parts_of rule ps depth closing) input v rest
      → (t : Tree) × (v ≡ chosen i t) × ReadsNoDefault p s rule depth closing input t rest
  unfolding parts_of
  alone none j k i p s e o v rest h = absurd o
  alone (part presence x ps) j zero i p s e (here, same, first, others) v rest (inl (u, f, next, m, g, r, z)) =
      (u, f ∙ ap (λ m. chosen m u) (omega arith), (subst (λ z. Reads rule z depth closing input u rest) same r, subst (λ z. IsStrict rule → IsNoDefault z u) here z))
  alone (part presence x ps) j zero i p s e (here, same, first, others) v rest (inr h) = absurd (others (is_first ps (suc j) v rest h))
  alone (part presence x ps) j (suc k) i p s e (not, o) v rest (inl (u, f, next, m, g, r, z)) = absurd (not (subst (λ z. IsFirst x z) (next_one input next tag m n) g))
  alone (part presence x ps) j (suc k) i p s e (not, o) v rest (inr h) = alone ps (suc j) k i p s (omega arith) o v rest h

only_first : (ps : Parts) (k : ℕ) (p : Presence) (s : Shape) (tag : Tag) → IsOnlyAlternative ps k p s tag → IsFirst s tag
only_first none k p s tag o = absurd o
only_first (part presence x ps) zero p s tag o = o.2
only_first (part presence x ps) (suc k) p s tag o = only_first ps k p s tag o.1

-- What is read as the choice is read as the alternative.
as_alternative : (ps : Parts) (k : ℕ) (p : Presence) (s : Shape) (tag : Tag) (old : State) → NextTag (form old.rule) old.rest tag → IsOnlyAlternative ps k p s tag → (v : Tree) (r : List ℕ)
    → Reads old.rule (choice ps) old.depth old.closing old.rest v r → (t : Tree) × (v ≡ chosen k t) × OneAlternative p s old.rule old.depth old.closing old.rest t r
unfolding Reads
as_alternative ps k p s tag old n o v r h =
    let q = alone old.rule old.depth old.closing old.rest tag n ps 0 k k p s (omega arith) o v r h in
    (q.0, q.1, as_read old.rule old.depth old.closing old.rest tag n p s (only_first ps k p s tag o) q.0 r q.2)

module _ (ps : Parts) (k : ℕ) (p : Presence) (s : Shape) (tag : Tag) {old : State} (n : NextTag (form old.rule) old.rest tag) (o : IsOnlyAlternative ps k p s tag) where
  -- The alternative is read.
  pub alternative_got : {t : Tree} {new : State} → DecodesExactly (OneAlternative p s) old (Got t new.rest) new → DecodesExactly (λ rule. Reads rule (choice ps)) old (Got (chosen k t) new.rest) new
  unfolding Reads
  alternative_got {t} {new} a = record {
    stays = a.stays;
    end = a.end;
    exact = (
      read_at old.rule old.depth old.closing old.rest tag n ps 0 k k p s (omega arith) o t new.rest
          (no_default old.rule old.depth old.closing old.rest tag n p s (only_first ps k p s tag o) t new.rest a.exact.0),
      λ v r h. let q = as_alternative ps k p s tag old n o v r h in let e = a.exact.1 q.0 r q.2 in (q.1 ∙ ap (λ u. chosen k u) e.0, e.1),
    );
  }

  -- The alternative is refused.
  pub alternative_refused : (kind : DecodeErrorKind) {new : State} → DecodesExactly (OneAlternative p s) old (refusal kind) new → DecodesExactly (λ rule. Reads rule (choice ps)) old (refusal kind) new
  alternative_refused kind {new} a = record {
    stays = a.stays;
    end = a.end;
    exact = Exact-refusal kind (OneAlternative p s old.rule old.depth old.closing) (Reads old.rule (choice ps) old.depth old.closing) old.rest old.rest
        (λ nothing v r h. let q = as_alternative ps k p s tag old n o v r h in nothing q.0 r q.2) a.exact;
  }

-- No alternative begins with the tag, and the decoder stays as it is.
pub no_alternative : (ps : Parts) (tag : Tag) {old : State} → NextTag (form old.rule) old.rest tag → (IsFirstOf ps tag → ⊥) → (kind : DecodeErrorKind) → DecodesExactly (λ rule. Reads rule (choice ps)) old (refusal kind) old
unfolding Reads
no_alternative ps tag {old} n others kind = record {
  stays = refl;
  end = IsEnd-refl old.rest;
  exact = Exact-none kind (Reads old.rule (choice ps) old.depth old.closing) old.rest (λ t r h. others (is_first old.rule old.depth old.closing old.rest tag n ps 0 t r h));
}

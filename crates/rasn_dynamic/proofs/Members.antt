-- A component of a SET is read as one of those that its type names or, if there may be unknown ones, as one of these.
use Rattle.std.proofs.Common.{◌≡◌, ◌+◌, ◌<◌, ℕ, suc, Bool, true, false, List, None, Result, Ok, Err, refl, sym, ap, ◌∙◌, subst, arith, inl, inr}
use Rattle.rasn_types.specs.declared.types.codec.Codec.{Codec}
use Rattle.rasn_types.specs.declared.types.tag.Tag.{Tag}
use Rattle.rasn_types.specs.declared.error.decode.DecodeError.{DecodeError}
use Rattle.rasn_types.specs.declared.error.decode.DecodeErrorKind.{DecodeErrorKind}
use Rattle.rasn_types.specs.Tags.{form, IsStrict}
use Rattle.rasn_types.specs.Framing.{NextTag}
use Rattle.rasn_types.specs.Shapes.{Tree, chosen, Shape, any, choice, open_choice, choice_by, Parts, part, count, Presence, required, addition, optional_by, default_by, IsFirst, IsFirstOf}
use Rattle.rasn_types.specs.Shapes.Parts.{none}
use Rattle.rasn_types.specs.Readings.{ReadsChoice, IsNoDefault}
use Rattle.rasn_types.specs.Grammar.{Reads, parts_of}
use Rattle.rasn_de.specs.State.{State}
use Rattle.rasn_de.specs.Outcomes.{Outcome, Got, refusal, outcome}
use Rattle.rasn_de.specs.Decodes.{DecodesExactly}
use Rattle.rasn_de.specs.Choice.{IsOnlyAlternative}
use Rattle.rasn_de.proofs.Leaves.Outcomes.{Exact-none, Exact-refusal}
use Rattle.rasn_de.proofs.Constructed.Reads.{Exact-same}
use Rattle.rasn_de.proofs.OwnTypes.Alternatives.{OneAlternative, no_default, as_read, alternative_got, alternative_refused}
use Rattle.rasn_schema.specs.declared.types.Component.{Component}
use Rattle.rasn_schema.specs.Shapes.{components_by, presence_in}
use Rattle.rasn_dynamic.specs.Inside.{DecodesTree}
use Rattle.rasn_dynamic.specs.Sets.{AreLawfulMembers, PassesUnknown}
use Rattle.rasn_dynamic.specs.Calls.{IsComponentFor, IsDefaultOf, DecodesPresent}
use Rattle.rasn_dynamic.proofs.OpenChoice.{as_named, of_named, as_unknown, of_unknown}
use Rattle.rasn_dynamic.proofs.Pieces.{first_of_part, only_part}

-- The parts are counted from j.
number_below : (rule : Codec) (depth : ℕ) (closing : Bool) (input : List ℕ) (ps : Parts) (j k : ℕ) (u : Tree) (rest : List ℕ) → ReadsChoice rule j (parts_of rule ps depth closing) input (chosen k u) rest → k < j + count ps
unfolding parts_of
number_below rule depth closing input none j k u rest h = absurd h
number_below rule depth closing input (part p s ps) j k u rest (inl (v, e, next, m, f, r, z)) = let same : k ≡ j = cc in omega (arith, same)
number_below rule depth closing input (part p s ps) j k u rest (inr h) = omega (arith, number_below rule depth closing input ps (suc j) k u rest h)

same_chosen : (k : ℕ) (u v : Tree) → chosen k u ≡ chosen k v → u ≡ v
same_chosen k u v e = cc

module _ (ps : Parts) (old new : State) where
  -- It has the tag of a part.
  pub known_by : (extensible : Bool) (o : Outcome) (tag : Tag) → NextTag (form old.rule) old.rest tag → IsFirstOf ps tag → DecodesExactly (λ rule. Reads rule (choice ps)) old o new
      → DecodesExactly (λ rule. Reads rule (choice_by extensible ps)) old o new
  known_by false o tag n f d = d
  known_by true o tag n f d = record {
    stays = d.stays;
    end = d.end;
    exact = Exact-same (Reads old.rule (choice ps) old.depth old.closing) (Reads old.rule (open_choice ps) old.depth old.closing) old.rest o
        (as_named old.rule old.depth old.closing old.rest tag n ps) (of_named old.rule old.depth old.closing old.rest tag n ps f) d.exact;
  }

  -- It has another tag.
  module _ (tag : Tag) (n : NextTag (form old.rule) old.rest tag) (others : IsFirstOf ps tag → ⊥) where
    pub unknown_got : (u : Tree) → DecodesTree (any None) old (Ok u) new → DecodesTree (choice_by true ps) old (Ok (chosen (count ps) u)) new
    unknown_got u d = record {
      stays = d.stays;
      end = d.end;
      exact = (
        as_unknown old.rule old.depth old.closing old.rest tag n ps others u new.rest d.exact.0,
        λ v r h. let q = of_unknown old.rule old.depth old.closing old.rest tag n ps others v r h in let e = d.exact.1 q.0 r q.2 in (q.1 ∙ ap (chosen (count ps)) e.0, e.1),
      );
    }

    pub unknown_refused : (kind : DecodeErrorKind) → DecodesExactly (λ rule. Reads rule (any None)) old (refusal kind) new → DecodesExactly (λ rule. Reads rule (choice_by true ps)) old (refusal kind) new
    unknown_refused kind d = record {
      stays = d.stays;
      end = d.end;
      exact = Exact-refusal kind (Reads old.rule (any None) old.depth old.closing) (Reads old.rule (open_choice ps) old.depth old.closing) old.rest old.rest
          (λ nothing v r h. let q = of_unknown old.rule old.depth old.closing old.rest tag n ps others v r h in nothing q.0 r q.2) d.exact;
    }

  -- What is read as an unknown value has another tag, and is read as an open type.
  pub record UnknownRead (u : Tree) : Type 0 where
    pub other : (tag : Tag) × NextTag (form old.rule) old.rest tag × (IsFirstOf ps tag → ⊥)
    pub open_type : DecodesTree (any None) old (Ok u) new

  pub unknown_is : (extensible : Bool) (u : Tree) → DecodesTree (choice_by extensible ps) old (Ok (chosen (count ps) u)) new → UnknownRead u
  unfolding Reads
  unknown_is false u d = absurd (omega (arith, number_below old.rule old.depth old.closing old.rest ps 0 (count ps) u new.rest d.exact.0))
  unknown_is true u d = go d.exact.0
    where
      go : Reads old.rule (open_choice ps) old.depth old.closing old.rest (chosen (count ps) u) new.rest → UnknownRead u
      go (inl h) = absurd (omega (arith, number_below old.rule old.depth old.closing old.rest ps 0 (count ps) u new.rest h))
      go (inr (v, e, next, n, others, r)) = record {
        other = (next, n, others);
        open_type = record {
          stays = d.stays;
          end = d.end;
          exact = (
            subst (λ t. Reads old.rule (any None) old.depth old.closing old.rest t new.rest) (sym (same_chosen (count ps) u v e)) r,
            λ t l h. let q = d.exact.1 (chosen (count ps) t) l (inr (t, refl, next, n, others, h)) in (same_chosen (count ps) t u q.0, q.1),
          );
        };
      }

-- An unknown value is passed, if there may be one; none is, if there may not or if none is read.
pub passed_unknown : (extensible : Bool) (ps : Parts) (old new : State) (tag : Tag) → NextTag (form old.rule) old.rest tag → (IsFirstOf ps tag → ⊥) → extensible ≡ true → (u : Tree) → DecodesTree (any None) old (Ok u) new
    → PassesUnknown extensible ps old new
passed_unknown extensible ps old new tag n others e u d = subst (λ b. PassesUnknown b ps old new) (sym e) (u, unknown_got ps old new tag n others u d)

pub none_passed : (extensible : Bool) (ps : Parts) (old new : State) → extensible ≡ false → (X : Type 0) → PassesUnknown extensible ps old new → X
unfolding Reads
none_passed false ps old new e X (u, d) = absurd (omega (arith, number_below old.rule old.depth old.closing old.rest ps 0 (count ps) u new.rest d.exact.0))
none_passed true ps old new e X d = absurd cc

abbrev itself : Tree → Tree
itself t = t

is_default : (p : Presence) (t : Tree) → IsDefaultOf p t → IsNoDefault p t → ⊥
is_default required t h n = h
is_default (optional_by key) t h n = h
is_default addition t h n = h
is_default (default_by key d) t h n = n h

-- A component that is present is read, and isn't its default if that must not be written.
module _ (p : Presence) (s : Shape) (tag : Tag) (first : IsFirst s tag) (old : State) (n : NextTag (form old.rule) old.rest tag) where
  only_read : (t : Tree) (r : List ℕ) → OneAlternative p s old.rule old.depth old.closing old.rest t r → Reads old.rule s old.depth old.closing old.rest t r × (IsStrict old.rule → IsNoDefault p t)
  only_read t r h = no_default old.rule old.depth old.closing old.rest tag n p s first t r h

  one_refused : (kind : DecodeErrorKind) (new : State) → DecodesExactly (λ rule. Reads rule s) old (refusal kind) new → DecodesExactly (OneAlternative p s) old (refusal kind) new
  one_refused kind new k = record {
    stays = k.stays;
    end = k.end;
    exact = Exact-refusal kind (Reads old.rule s old.depth old.closing) (OneAlternative p s old.rule old.depth old.closing) old.rest old.rest
        (λ none t r h. none t r (only_read t r h).0) k.exact;
  }

  one_present : (r : Result Tree DecodeError) (new : State) → DecodesPresent p s old r new → DecodesExactly (OneAlternative p s) old (outcome itself r new.rest) new
  one_present (Ok v) new (k, c) = record {
    stays = k.stays;
    end = k.end;
    exact = (as_read old.rule old.depth old.closing old.rest tag n p s first v new.rest (k.exact.0, c), λ u r h. k.exact.1 u r (only_read u r h).0);
  }
  one_present (Err e) new (inl k) = one_refused e.kind new k
  one_present (Err e) new (inr (v, k, strict, d, w)) = record {
    stays = k.stays;
    end = k.end;
    exact = Exact-none e.kind (OneAlternative p s old.rule old.depth old.closing) old.rest (λ u r h.
        let q = only_read u r h in
        is_default p u (subst (IsDefaultOf p) (sym (k.exact.1 u r q.0).0) d) (q.1 strict));
  }

-- It is the only one with its first tags.
module _ (f : ℕ → Shape) (ps : List Component) (k : ℕ) (p : Component) (tag : Tag) (h : AreLawfulMembers (components_by f ps)) (b : IsComponentFor f ps tag k p) (old new : State) (n : NextTag (form old.rule) old.rest tag) (extensible : Bool) where
  only : IsOnlyAlternative (components_by f ps) k (presence_in f p) (f p.type_id.0) tag
  only = only_part f tag ps k p h.1 b

  there : IsFirstOf (components_by f ps) tag
  there = first_of_part f tag ps k p b.0 b.1

  pub member_got : (t : Tree) → DecodesPresent (presence_in f p) (f p.type_id.0) old (Ok t) new → DecodesTree (choice_by extensible (components_by f ps)) old (Ok (chosen k t)) new
  member_got t d = known_by (components_by f ps) old new extensible (Got (chosen k t) new.rest) tag n there
      (alternative_got (components_by f ps) k (presence_in f p) (f p.type_id.0) tag n only (one_present (presence_in f p) (f p.type_id.0) tag b.1 old n (Ok t) new d))

  pub member_refused : (e : DecodeError) → DecodesPresent (presence_in f p) (f p.type_id.0) old (Err e) new → DecodesTree (choice_by extensible (components_by f ps)) old (Err e) new
  member_refused e d = known_by (components_by f ps) old new extensible (refusal e.kind) tag n there
      (alternative_refused (components_by f ps) k (presence_in f p) (f p.type_id.0) tag n only e.kind (one_present (presence_in f p) (f p.type_id.0) tag b.1 old n (Err e) new d))

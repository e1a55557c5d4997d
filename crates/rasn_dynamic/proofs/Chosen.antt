-- A CHOICE is read as the alternative to which the next tag belongs.
use Rattle.std.proofs.Common.{◌≡◌, ℕ, List, Some, Err, refl, ap, ◌∙◌, subst}
use Rattle.std.specs.Prelude.{slice_get}
use Rattle.rasn_types.specs.declared.types.tag.Tag.{Tag}
use Rattle.rasn_types.specs.declared.error.decode.DecodeError.{DecodeError}
use Rattle.rasn_types.specs.declared.error.decode.DecodeErrorKind.{DecodeErrorKind}
use Rattle.rasn_types.specs.Tags.{form}
use Rattle.rasn_types.specs.Framing.{NextTag}
use Rattle.rasn_types.specs.Shapes.{Tree, chosen, Shape, IsFirstOf}
use Rattle.rasn_types.specs.Grammar.{Reads}
use Rattle.rasn_types.specs.Lawful.{IsLawful}
use Rattle.rasn_de.specs.State.{State}
use Rattle.rasn_de.specs.Steps.{PeeksTag}
use Rattle.rasn_de.specs.Outcomes.{Got, refusal}
use Rattle.rasn_de.specs.Decodes.{DecodesExactly}
use Rattle.rasn_de.proofs.Constructed.Optional.{peeks_none}
use Rattle.rasn_de.proofs.Headers.Ends.{IsEnd-refl}
use Rattle.rasn_de.proofs.Leaves.Outcomes.{Exact-none, Exact-refusal}
use Rattle.rasn_de.proofs.OwnTypes.Alternatives.{no_alternative}
use Rattle.rasn_schema.specs.declared.types.Alternative.{Alternative}
use Rattle.rasn_schema.specs.FirstTags.{IsAlternativeFor}
use Rattle.rasn_schema.specs.Shapes.{alternatives_by, choice_among, IsReadable}
use Rattle.rasn_schema.proofs.OpenEnds.{among}
use Rattle.rasn_dynamic.proofs.OpenChoice.{first_alternative, open_begins, among_lawful, tag_of_among, as_among, of_among}

module _ (f : ℕ → Shape) (ks : List Alternative) where
  abbrev All : Shape
  All = choice_among (alternatives_by f ks)

  -- There is no tag.
  pub no_tag : (old : State) (e : DecodeError) → PeeksTag old (Err e) → DecodesExactly (λ rule. Reads rule All) old (refusal e.kind) old
  no_tag old e p = record {
    stays = refl;
    end = IsEnd-refl old.rest;
    exact = Exact-none e.kind (Reads old.rule All old.depth old.closing) old.rest
        (λ t rest r. let n = tag_of_among (alternatives_by f ks) old.rule old.depth old.closing old.rest t rest r in peeks_none old e p n.0 n.1);
  }

  -- No alternative begins with the tag.
  pub none_for : (tag : Tag) (old : State) → NextTag (form old.rule) old.rest tag → (IsFirstOf (alternatives_by f ks) tag → ⊥) → (kind : DecodeErrorKind) → DecodesExactly (λ rule. Reads rule All) old (refusal kind) old
  none_for tag old n others kind = among (λ s. DecodesExactly (λ rule. Reads rule s) old (refusal kind) old) (alternatives_by f ks)
      (λ o. absurd (others (open_begins (alternatives_by f ks) tag o)))
      (λ c. no_alternative (alternatives_by f ks) tag n others kind)

  -- Alternative k is both.
  pub for_both : (k : ℕ) (a b : Alternative) (tag : Tag) → IsAlternativeFor f ks tag k a → Some b ≡ slice_get ks k → IsAlternativeFor f ks tag k b
  for_both k a b tag h g = let e = h.0 in let same : a ≡ b = cc in subst (IsAlternativeFor f ks tag k) same h

  module _ (k : ℕ) (a : Alternative) (tag : Tag) (h : IsReadable All) (first : IsAlternativeFor f ks tag k a) (old new : State) (n : NextTag (form old.rule) old.rest tag) where
    lawful : IsLawful All
    lawful = among_lawful (alternatives_by f ks) h

    pub chosen_got : (t : Tree) → DecodesExactly (λ rule. Reads rule (f a.type_id.0)) old (Got t new.rest) new → DecodesExactly (λ rule. Reads rule All) old (Got (chosen k t) new.rest) new
    chosen_got t d =
        let g = first_alternative f ks tag k a first in
        record {
          stays = d.stays;
          end = d.end;
          exact = (
            as_among old.rule old.depth old.closing old.rest tag n (alternatives_by f ks) k (f a.type_id.0) lawful g t new.rest d.exact.0,
            λ v r x. let q = of_among old.rule old.depth old.closing old.rest tag n (alternatives_by f ks) k (f a.type_id.0) lawful g v r x in
                let e = d.exact.1 q.0 r q.2 in (q.1 ∙ ap (λ u. chosen k u) e.0, e.1),
          );
        }

    pub chosen_refused : (kind : DecodeErrorKind) → DecodesExactly (λ rule. Reads rule (f a.type_id.0)) old (refusal kind) new → DecodesExactly (λ rule. Reads rule All) old (refusal kind) new
    chosen_refused kind d = record {
      stays = d.stays;
      end = d.end;
      exact = Exact-refusal kind (Reads old.rule (f a.type_id.0) old.depth old.closing) (Reads old.rule All old.depth old.closing) old.rest old.rest
          (λ nothing v r x. let q = of_among old.rule old.depth old.closing old.rest tag n (alternatives_by f ks) k (f a.type_id.0) lawful (first_alternative f ks tag k a first) v r x in nothing q.0 r q.2) d.exact;
    }

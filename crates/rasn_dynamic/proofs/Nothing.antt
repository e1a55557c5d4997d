-- Nothing is read of a type that isn't there, or is too deep.
use Rattle.std.proofs.Common.{◌≡◌, ℕ, zero, suc, Bool, List, Option, Some, None, Result, Ok, Err, sym, ◌∙◌, subst}
use Rattle.std.specs.Prelude.{slice_get, IfErr}
use Rattle.rasn_types.specs.declared.error.decode.DecodeError.{DecodeError}
use Rattle.rasn_schema.specs.declared.value.Value.{Value}
use Rattle.rasn_types.specs.declared.types.codec.Codec.{Codec}
use Rattle.rasn_types.specs.declared.types.tag.Tag.{Tag}
use Rattle.rasn_types.specs.declared.error.decode.DecodeErrorKind.{DecodeErrorKind}
use Rattle.rasn_types.specs.Shapes.{Tree, Shape, looked_for}
use Rattle.rasn_types.specs.Readings.{definite_form, indefinite_form}
use Rattle.rasn_types.specs.Grammar.{Reads, parts_of}
use Rattle.rasn_de.specs.State.{State}
use Rattle.rasn_de.specs.Outcomes.{refusal}
use Rattle.rasn_de.specs.Decodes.{DecodesExactly}
use Rattle.rasn_schema.specs.declared.types.«Type».{«Type»}
use Rattle.rasn_schema.specs.Shapes.{nothing, found_by, tag_at, shape_of_type}
use Rattle.rasn_dynamic.proofs.Contents.{refused_none}

abbrev IsUnread : Shape → Type 0
IsUnread s = (rule : Codec) (depth : ℕ) (closing : Bool) (input : List ℕ) (t : Tree) (r : List ℕ) → Reads rule s depth closing input t r → ⊥

nothing_unread : (tag : Option Tag) → IsUnread (nothing tag)
unfolding Reads parts_of
nothing_unread None rule depth closing input t r h = h
nothing_unread (Some tag) rule depth closing input t r (n, bit, w, definite_form c f h) = h
nothing_unread (Some tag) rule depth closing input t r (n, bit, w, indefinite_form b f h) = h

too_far : (types : List «Type») (levels k : ℕ) → levels ≡ 0 → IsUnread (shape_of_type types levels k)
unfolding shape_of_type
too_far types zero k e = nothing_unread (looked_for (tag_at types k))
too_far types (suc m) k e = cc

none_found : (types : List «Type») (levels k : ℕ) → None ≡ slice_get types k → IsUnread (shape_of_type types levels k)
unfolding shape_of_type
none_found types zero k e = nothing_unread (looked_for (tag_at types k))
none_found types (suc m) k e = subst (λ o. IsUnread (found_by (shape_of_type types m) o)) e (nothing_unread None)

-- There is a type.
not_both : (o : Option «Type») (ty : «Type») → Some ty ≡ o → None ≡ o → ⊥
not_both o ty e f = let g : Some ty ≡ None = e ∙ sym f in cc

pub found_here : (o : Option «Type») (ty : «Type») → Some ty ≡ o → (P : DecodeError → Type 0) (r : Result Value DecodeError) → IfErr r (λ e. None ≡ o → P e)
found_here o ty i P (Ok v) = tt
found_here o ty i P (Err e) = λ f. absurd (not_both o ty i f)

module _ (types : List «Type») (levels k : ℕ) (old : State) (kind : DecodeErrorKind) where
  pub refused_at_zero : levels ≡ 0 → DecodesExactly (λ rule. Reads rule (shape_of_type types levels k)) old (refusal kind) old
  refused_at_zero e = refused_none (shape_of_type types levels k) old kind (too_far types levels k e old.rule old.depth old.closing old.rest)

  pub refused_not_there : None ≡ slice_get types k → DecodesExactly (λ rule. Reads rule (shape_of_type types levels k)) old (refusal kind) old
  refused_not_there e = refused_none (shape_of_type types levels k) old kind (none_found types levels k e old.rule old.depth old.closing old.rest)

-- Parts of a BOOLEAN that are asked for, worked out by hand.
use Rattle.std.proofs.Common.{◌≡◌, inl, inr, ℕ, zero, suc, List, [], ◌∷◌, Bool, true, Some, Vec, Global, refl, sym, ap, ◌∙◌, subst, rules}
use Rattle.std.specs.Prelude.{slice_get, codes}
use Rattle.rasn_types.specs.declared.types.tag.Tag.{Tag}
use Rattle.rasn_types.specs.Tags.{in_universal}
use Rattle.rasn_types.specs.Trees.{unconstrained}
use Rattle.rasn_dynamic.specs.PathText.{AreStepsOf, steps_text}
use Rattle.rasn_dynamic.specs.declared.steps.Step.{Step}
use Rattle.rasn_dynamic.specs.declared.steps.Step.TheVariants.{Name, Index}
use Rattle.rasn_schema.specs.declared.type_id.TypeId.{TypeId}
use Rattle.rasn_schema.specs.declared.types.NamedNumber.{NamedNumber}
use Rattle.rasn_schema.specs.declared.types.LeafKind.TheVariants.{Boolean as BooleanKind}
use Rattle.rasn_schema.specs.declared.types.«Type».{«Type»}
use Rattle.rasn_schema.specs.declared.types.«Type».TheVariants.{Leaf}
use Rattle.rasn_schema.specs.declared.value.Value.{Value, Boolean, Absent}
use Rattle.rasn_schema.specs.declared.view.View.{View}
use Rattle.rasn_schema.specs.Held.{IsInside, IsPartNamed}
use Rattle.rasn_lint.specs.WorkedMessages.{a_boolean}
use Rattle.rasn_print.specs.Queries.{IsStepTo, LeadTo, Holds, IsHeldIn, IsAskedFor}
use Rattle.rasn_print.specs.WorkedQueries.{IsBooleanView, WorkedQueries}
use Rattle.rasn_print.proofs.Queries.{within_itself, leads_nowhere}

module _ (names : Vec NamedNumber Global) (bit : Bool) where
  holds_none : (id : TypeId) (part : Value) → Holds (a_boolean names) 0 (Boolean bit) id part → ⊥
  holds_none id part (inl (inl (tag, e, f))) = cc
  holds_none id part (inl (inr (ty, e, chosen))) = chosen
  holds_none id part (inr (i, (at, e))) = cc

  no_step : (step : Step) (id : TypeId) (part : Value) → IsStepTo (a_boolean names) step 0 (Boolean bit) id part → ⊥
  unfolding IsInside
  no_step (Index index) id part (at, e) = cc
  no_step (Name name) id part (ty, (zero, e), named) =
      let g : Some ty ≡ Some (Leaf BooleanKind (in_universal 1) unconstrained names) = e.0 in
      let f : ty ≡ Leaf BooleanKind (in_universal 1) unconstrained names = cc in
      subst (λ t. IsPartNamed t name.now (Boolean bit) id part) f named
  no_step (Name name) id part (ty, (suc n, (tag, inner, e, more)), named) = cc

  only_itself : (n m : ℕ) (w : Value) → IsHeldIn (a_boolean names) n 0 (Boolean bit) m w → (0 ≡ m) × (Boolean bit ≡ w)
  unfolding IsHeldIn
  only_itself zero m w h = h
  only_itself (suc n) m w (id, u, held, more) = absurd (holds_none id u held)

  no_way : (steps : List Step) (m : ℕ) (w : Value) (k : ℕ) (part : Value) → (steps ≡ [] → ⊥) → (0 ≡ m) × (Boolean bit ≡ w) → LeadTo (a_boolean names) steps m w k part → ⊥
  unfolding LeadTo
  no_way [] m w k part some same leads = some refl
  no_way (step ∷ steps) m w k part some (e, f) (id, u, here, more) =
      no_step step id u (subst (λ z. IsStepTo (a_boolean names) step z (Boolean bit) id u) (sym e) (subst (λ z. IsStepTo (a_boolean names) step m z id u) (sym f) here))

some_steps : (steps : List Step) → AreStepsOf (codes "[0]") steps → steps ≡ [] → ⊥
some_steps [] are e = let f = are.text_is in cc
some_steps (step ∷ steps) are e = cc

pub worked_queries : (view : View) → IsBooleanView view → WorkedQueries view
worked_queries view b = record {
  itself = record {
    steps = [];
    are_steps = record { utf8 = search rules; plain = tt; text_is = refl };
    holder = view;
    within = within_itself view view refl refl refl;
    schema = refl;
    leads = leads_nowhere view.schema.now.types.items view.type_id.0 view.value.now;
    present = λ e. let f = sym b.value ∙ e in cc;
  };
  no_element = λ part a.
      let held = subst (λ z. IsHeldIn z a.within.levels view.type_id.0 view.value.now a.holder.type_id.0 a.holder.value.now) b.types a.within.held in
      let of_boolean = subst (λ z. IsHeldIn (a_boolean b.names) a.within.levels z (Boolean b.bit) a.holder.type_id.0 a.holder.value.now) b.id
      (subst (λ z. IsHeldIn (a_boolean b.names) a.within.levels view.type_id.0 z a.holder.type_id.0 a.holder.value.now) b.value held) in
      no_way b.names b.bit a.steps a.holder.type_id.0 a.holder.value.now part.type_id.0 part.value.now (some_steps a.steps a.are_steps)
      (only_itself b.names b.bit a.within.levels a.holder.type_id.0 a.holder.value.now of_boolean)
      (subst (λ z. LeadTo z a.steps a.holder.type_id.0 a.holder.value.now part.type_id.0 part.value.now) b.types a.leads);
  not_absent = λ path part e a. a.present e;
}

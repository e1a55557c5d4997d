-- Parts that are asked for by their paths.
use Rattle.std.proofs.Common.{◌≡◌, ◌≢◌, ◌⊎◌, ◌<◌, ◌+◌, inl, inr, ℕ, zero, suc, List, [], ◌∷◌, ◌++◌, Some, length, refl, sym, ap, ◌∙◌, subst, take, get_or}
use Rattle.std.specs.Prelude.{slice_get}
use Rattle.std.proofs.lemmas.List.{take_more}
use Rattle.rasn_dynamic.specs.PathText.{AreStepsOf}
use Rattle.rasn_dynamic.specs.declared.steps.Step.{Step}
use Rattle.rasn_schema.specs.declared.type_id.TypeId.{TypeId}
use Rattle.rasn_schema.specs.declared.types.«Type».{«Type»}
use Rattle.rasn_schema.specs.declared.value.Value.{Value, Absent}
use Rattle.rasn_schema.specs.declared.view.View.{View}
use Rattle.rasn_schema.proofs.Lists.{some_is}
use Rattle.rasn_print.specs.Queries.{IsStepTo, LeadTo, Holds, IsHeldIn, IsWithin, IsAskedFor, IsAmong}

-- One more step.
pub leads_on : (types : List «Type») (steps : List Step) (step : Step) (k : ℕ) (v : Value) (m : ℕ) (w : Value) (id : TypeId) (part : Value)
    → LeadTo types steps k v m w → IsStepTo types step m w id part → LeadTo types (steps ++ step ∷ []) k v id.0 part
unfolding LeadTo
leads_on types [] step k v m w id part (e, f) s =
    (id, part, subst (λ z. IsStepTo types step z v id part) (sym e) (subst (λ z. IsStepTo types step m z id part) (sym f) s), (refl, refl))
leads_on types (first ∷ steps) step k v m w id part (next, x, here, more) s = (next, x, here, leads_on types steps step next.0 x m w id part more s)

pub leads_here : (types : List «Type») (k : ℕ) (v : Value) (m : ℕ) (w : Value) → k ≡ m → v ≡ w → LeadTo types [] k v m w
unfolding LeadTo
leads_here types k v m w e f = (e, f)

pub leads_nowhere : (types : List «Type») (k : ℕ) (v : Value) → LeadTo types [] k v k v
unfolding LeadTo
leads_nowhere types k v = (refl, refl)

-- The step with this index, after those before it.
pub step_on : (view part next : View) (steps : List Step) (i : ℕ) (d : Step) → i < length steps → part.schema.now ≡ view.schema.now
    → LeadTo view.schema.now.types.items (take i steps) view.type_id.0 view.value.now part.type_id.0 part.value.now
    → IsStepTo part.schema.now.types.items (get_or steps i d) part.type_id.0 part.value.now next.type_id next.value.now
    → LeadTo view.schema.now.types.items (take (i + 1) steps) view.type_id.0 view.value.now next.type_id.0 next.value.now
step_on view part next steps i d within s leads step =
    let types = view.schema.now.types.items in
    let here = subst (λ z. IsStepTo z.types.items (get_or steps i d) part.type_id.0 part.value.now next.type_id next.value.now) s step in
    subst (λ l. LeadTo types l view.type_id.0 view.value.now next.type_id.0 next.value.now) (sym (take_more steps i d within))
    (leads_on types (take i steps) (get_or steps i d) view.type_id.0 view.value.now part.type_id.0 part.value.now next.type_id next.value.now leads here)

-- One more level.
holds_on : (types : List «Type») (n k : ℕ) (v : Value) (m : ℕ) (w : Value) (id : TypeId) (part : Value)
    → IsHeldIn types n k v m w → Holds types m w id part → IsHeldIn types (suc n) k v id.0 part
unfolding IsHeldIn
holds_on types zero k v m w id part (e, f) h =
    (id, part, subst (λ z. Holds types z v id part) (sym e) (subst (λ z. Holds types m z id part) (sym f) h), (refl, refl))
holds_on types (suc n) k v m w id part (next, x, here, more) h = (next, x, here, holds_on types n next.0 x m w id part more h)

pub within_itself : (view part : View) → part.schema.now ≡ view.schema.now → part.type_id ≡ view.type_id → part.value.now ≡ view.value.now → IsWithin view part
unfolding IsHeldIn
within_itself view part s e f = record { schema = s; levels = 0; held = (sym (ap (λ (x : TypeId). x.0) e), sym f) }

pub within_more : (view holder part : View) → IsWithin view holder → part.schema.now ≡ holder.schema.now
    → Holds holder.schema.now.types.items holder.type_id.0 holder.value.now part.type_id part.value.now → IsWithin view part
within_more view holder part within s h =
    let types = view.schema.now.types.items in
    let g = subst (λ z. Holds z.types.items holder.type_id.0 holder.value.now part.type_id part.value.now) within.schema h in
    record {
      schema = s ∙ within.schema;
      levels = suc within.levels;
      held = holds_on types within.levels view.type_id.0 view.value.now holder.type_id.0 holder.value.now part.type_id part.value.now within.held g;
    }

-- ---- lists

pub among_more : (views : List View) (last view : View) → IsAmong (views ++ last ∷ []) view → IsAmong views view ⊎ (view ≡ last)
among_more [] last view (zero, e) = inr (some_is view last e)
among_more [] last view (suc i, e) = cc
among_more (x ∷ views) last view (zero, e) = inl (0, e)
among_more (x ∷ views) last view (suc i, e) = up (among_more views last view (i, e))
  where
    up : IsAmong views view ⊎ (view ≡ last) → IsAmong (x ∷ views) view ⊎ (view ≡ last)
    up (inl (j, f)) = inl (suc j, f)
    up (inr f) = inr f

pub none_among : (view : View) → IsAmong [] view → ⊥
none_among view (i, e) = cc

-- ---- what was found so far

-- The first of the views is the value itself.
pub only_one : (view first x : View) (list new : List View) → list ≡ [] → new ≡ list ++ first ∷ [] → first.schema.now ≡ view.schema.now → first.type_id ≡ view.type_id
    → first.value.now ≡ view.value.now → IsAmong new x → IsWithin view x
only_one view first x list new e f s t v a = go (among_more [] first x (subst (λ l. IsAmong l x) (f ∙ ap (λ l. l ++ first ∷ []) e) a))
  where
    go : IsAmong [] x ⊎ (x ≡ first) → IsWithin view x
    go (inl h) = absurd (none_among x h)
    go (inr h) = subst (λ z. IsWithin view z) (sym h) (within_itself view first s t v)

copied : (view holder copy : View) → IsWithin view holder → copy.schema.now ≡ holder.schema.now → copy.type_id ≡ holder.type_id → copy.value.now ≡ holder.value.now → IsWithin view copy
copied view holder copy within s t v =
    let types = view.schema.now.types.items in
    record {
      schema = s ∙ within.schema;
      levels = within.levels;
      held = subst (λ z. IsHeldIn types within.levels view.type_id.0 view.value.now z.0 copy.value.now) (sym t)
          (subst (λ z. IsHeldIn types within.levels view.type_id.0 view.value.now holder.type_id.0 z) (sym v) within.held);
    }

-- The parts of one of the views follow the others.
pub more_within : (view holder copy x : View) (old : List View) → IsWithin view holder → copy.schema.now ≡ holder.schema.now → copy.type_id ≡ holder.type_id
    → copy.value.now ≡ holder.value.now → (IsAmong old x → IsWithin view x)
    → IsAmong old x ⊎ ((x.schema.now ≡ copy.schema.now) × Holds copy.schema.now.types.items copy.type_id.0 copy.value.now x.type_id x.value.now) → IsWithin view x
more_within view holder copy x old within s t v before (inl h) = before h
more_within view holder copy x old within s t v before (inr (e, h)) = within_more view copy x (copied view holder copy within s t v) e h

-- Steps lead on from one of the views.
pub asked : (view holder part : View) (path : List ℕ) (steps slice : List Step) → AreStepsOf path steps → slice ≡ steps → IsWithin view holder
    → part.schema.now ≡ holder.schema.now → LeadTo holder.schema.now.types.items slice holder.type_id.0 holder.value.now part.type_id.0 part.value.now
    → part.value.now ≢ Absent → IsAskedFor view path part
asked view holder part path steps slice are e within s leads present = record {
  steps = steps;
  are_steps = are;
  holder = holder;
  within = within;
  schema = s ∙ within.schema;
  leads = subst (λ z. LeadTo z.types.items steps holder.type_id.0 holder.value.now part.type_id.0 part.value.now) within.schema
      (subst (λ l. LeadTo holder.schema.now.types.items l holder.type_id.0 holder.value.now part.type_id.0 part.value.now) e leads);
  present = present;
}

-- A part of the value was appended to the views.
pub part_more : (view part x : View) (old list new : List View)
    → (IsAmong list x → IsAmong old x ⊎ ((x.schema.now ≡ view.schema.now) × Holds view.schema.now.types.items view.type_id.0 view.value.now x.type_id x.value.now))
    → (IsAmong new x → IsAmong list x ⊎ (x ≡ part)) → part.schema.now ≡ view.schema.now
    → Holds view.schema.now.types.items view.type_id.0 view.value.now part.type_id part.value.now → IsAmong new x
    → IsAmong old x ⊎ ((x.schema.now ≡ view.schema.now) × Holds view.schema.now.types.items view.type_id.0 view.value.now x.type_id x.value.now)
part_more view part x old list new before added s h a = go (added a)
  where
    go : IsAmong list x ⊎ (x ≡ part) → IsAmong old x ⊎ ((x.schema.now ≡ view.schema.now) × Holds view.schema.now.types.items view.type_id.0 view.value.now x.type_id x.value.now)
    go (inl m) = before m
    go (inr e) = inr (subst (λ z. (z.schema.now ≡ view.schema.now) × Holds view.schema.now.types.items view.type_id.0 view.value.now z.type_id z.value.now) (sym e) (s, h))

-- The names on the way to a part, as they are written.
use Rattle.std.proofs.Common.{◌≡◌, ℕ, ◌+◌, ◌<◌, ◌≤◌, Bool, List, [], ◌∷◌, ◌++◌, length, get_or, drop, Option, Some, None, Result, refl, sym, ap, ◌∙◌, append_assoc, add-one}
use Rattle.std.proofs.Math.Seq.{drop-cons}
use Rattle.std.proofs.lemmas.List.{drop_all}
use Rattle.std.proofs.lemmas.Grind.{put_two}
use Rattle.std.specs.Prelude.{slice_get}
use Rattle.std.specs.Fmt.{HasWritten, IsPlainFormatter, DisplaysOnOk, ◌++?◌}
use Rattle.std.specs.declared.fmt.Error.{Error}
use Rattle.std.specs.declared.fmt.Formatter.{Formatter}
use Rattle.rasn_schema.specs.declared.type_id.TypeId.{TypeId}
use Rattle.rasn_schema.specs.declared.types.«Type».{«Type»}
use Rattle.rasn_dynamic.specs.Shown.{part_text, stays_first, step_from, end_text, after_step, way_text}

module _ (types : List «Type») (inner : List ℕ) (first : Bool) (id : ℕ) where
  goes_on : (k : ℕ) (steps : List ℕ) (ty : «Type») (next : TypeId) → step_from types id k ≡ Some (ty, next)
      → way_text types inner first id (k ∷ steps) ≡ part_text first ty k (slice_get types next.0) ++ way_text types inner (stays_first first ty) next.0 steps
  unfolding way_text
  goes_on k steps ty next e = ap (after_step types inner first k (λ f n. way_text types inner f n steps)) e

  stops : (k : ℕ) (steps : List ℕ) → step_from types id k ≡ None → way_text types inner first id (k ∷ steps) ≡ end_text inner first
  unfolding way_text
  stops k steps e = ap (after_step types inner first k (λ f n. way_text types inner f n steps)) e

  ended : way_text types inner first id [] ≡ end_text inner first
  unfolding way_text
  ended = refl

-- What was written so far, with what is left, is the whole text.
abbrev pub SoFar : {W : Type 0} → (W → List ℕ → W → Type 0) → List «Type» → List ℕ → List ℕ → List ℕ → ℕ → Formatter W → Bool → ℕ → Formatter W → Type 0
SoFar took types inner steps whole i before first id f = (written : List ℕ) × HasWritten took before written f × (written ++ way_text types inner first id (drop i steps) ≡ whole)

module _ {W : Type 0} (took : W → List ℕ → W → Type 0) (types : List «Type») (inner steps whole : List ℕ) (i : ℕ) (before : Formatter W) (first : Bool) (id : ℕ) (f g : Formatter W) (so_far : SoFar took types inner steps whole i before first id f) where
  module _ (d : ℕ) (l : i < length steps) where
    left : drop i steps ≡ get_or steps i d ∷ drop (i + 1) steps
    left = drop-cons steps i d l ∙ ap (λ n. get_or steps i d ∷ drop n steps) (sym (add-one i))

    pub step_more : (ty : «Type») (next : TypeId) → step_from types id (get_or steps i d) ≡ Some (ty, next) → HasWritten took f (part_text first ty (get_or steps i d) (slice_get types next.0)) g
        → SoFar took types inner steps whole (i + 1) before (stays_first first ty) next.0 g
    step_more ty next s h = (
      so_far.0 ++ part_text first ty (get_or steps i d) (slice_get types next.0),
      put_two took before f g so_far.0 (part_text first ty (get_or steps i d) (slice_get types next.0)) _ so_far.1 h refl,
      append_assoc so_far.0 (part_text first ty (get_or steps i d) (slice_get types next.0)) _ ∙ ap (λ x. so_far.0 ++ x) (sym (ap (way_text types inner first id) left ∙ goes_on types inner first id (get_or steps i d) (drop (i + 1) steps) ty next s)) ∙ so_far.2,
    )

  finished : way_text types inner first id (drop i steps) ≡ end_text inner first → HasWritten took f (end_text inner first) g → HasWritten took before whole g
  finished e h = put_two took before f g so_far.0 (end_text inner first) whole so_far.1 h (ap (λ x. so_far.0 ++ x) (sym e) ∙ so_far.2)

  pub no_step_more : (d : ℕ) → i < length steps → step_from types id (get_or steps i d) ≡ None → HasWritten took f (end_text inner first) g → HasWritten took before whole g
  no_step_more d l s h = finished (ap (way_text types inner first id) (left d l) ∙ stops types inner first id (get_or steps i d) (drop (i + 1) steps) s) h

  pub no_step_left : length steps ≤ i → HasWritten took f (end_text inner first) g → HasWritten took before whole g
  no_step_left l h = finished (ap (way_text types inner first id) (drop_all i steps l) ∙ ended types inner first id) h

-- What follows a text that was written.
pub then_shown : {W : Type 0} (took : W → List ℕ → W → Type 0) (f g h : Formatter W) (a : List ℕ) (o : Option (List ℕ)) (r : Result (Unit {0}) Error) → (IsPlainFormatter f → HasWritten took f a g) → DisplaysOnOk took g r o h
    → DisplaysOnOk took f r (Some a ++? o) h
then_shown took f g h a None r w d = tt
then_shown took f g h a (Some b) r w d = λ plain ok. let x = w plain in put_two took f g h a b (a ++ b) x (d x.plain ok) refl

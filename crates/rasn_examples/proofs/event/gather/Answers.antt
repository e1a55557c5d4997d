use Rattle.std.proofs.Common.{rules, ◌≡◌, ◌∷◌, [], ◌++◌, List, length, sym, ap, ◌∙◌, append_assoc, append-nil, arith, refl, subst}
use Rattle.std.specs.Prelude.{Contains}
use Rattle.std.proofs.lemmas.List.Elements.{Contains-push}
use Rattle.std.specs.Vec.Iter.{into_iter_items}
use Rattle.rasn_types.specs.Trees.{bool_tree}
use Rattle.rasn_de.proofs.OwnTypes.Components.{component_twice}
use Rattle.rasn_examples.specs.Times.{time_tree}
use Rattle.rasn_examples.specs.Event.{event_parts, level_tree, component_tree}
use Rattle.rasn_examples.specs.declared.event.Component.TheVariants.{At}
use Rattle.rasn_examples.proofs.EventComponents.{appended_time, appended_level, appended_confirmed, no_time, all_there, IsThere, there_still, slots_once, named_twice, named_missing}
use Rattle.rasn_examples.proofs.event.gather.Goals as goal

nothing_left : {X : Type 0} (l : List X) → length l ≡ 0 → l ≡ []
nothing_left [] h = refl
nothing_left (x ∷ xs) h = absurd (omega arith)

pub returns-then-is_some-clause-makes : goal.returns-then-is_some-clause-makes
returns-then-is_some-clause-makes c =
    let at = c.loop-component in
    let steps : into_iter_items at.component-iterator ≡ c.in-Some.component ∷ into_iter_items c.next.new.self = c.in-Some.ensures.steps.0 in
    let all = sym c.into_iter-component-iterator.ensures.into_iter_gives.0 ∙ (sym at.invariant.0 ∙ ap (λ l. at.yielded ++ l) steps) in
    component_twice component_tree event_parts 0 tt c.args.components.items at.yielded (into_iter_items c.next.new.self) c.in-Some.component (time_tree c.in-At.moment) (ap component_tree c.in-At.is) all time_tree at.time (search rules) at.invariant.2.0 c.duplicate_field.result.kind

pub loop-component-preserved-else-is_some : goal.loop-component-preserved-else-is_some
loop-component-preserved-else-is_some c =
    let at = c.loop-component in
    let steps : into_iter_items at.component-iterator ≡ c.in-Some.component ∷ into_iter_items c.next.new.self = c.in-Some.ensures.steps.0 in (
      append_assoc at.yielded (c.in-Some.component ∷ []) _ ∙ rw (← steps) at.invariant.0,
      let was = at.invariant.1 in
          let gone = c.in-Some.ensures.steps.1 in
          let short = ap length steps in
          omega arith,
      rw (c.replace.ensures.after, c.in-At.is) (appended_time at.yielded at.time at.level at.confirmed at.invariant.2 c.in-At.moment (search rules)),
      rw (c.replace.ensures.after, c.in-At.is) (Contains-push at.yielded (At c.in-At.moment)),
    )

pub returns-then-is_some-2-clause-makes : goal.returns-then-is_some-2-clause-makes
returns-then-is_some-2-clause-makes c =
    let at = c.loop-component in
    let steps : into_iter_items at.component-iterator ≡ c.in-Some.component ∷ into_iter_items c.next.new.self = c.in-Some.ensures.steps.0 in
    let all = sym c.into_iter-component-iterator.ensures.into_iter_gives.0 ∙ (sym at.invariant.0 ∙ ap (λ l. at.yielded ++ l) steps) in
    component_twice component_tree event_parts 1 tt c.args.components.items at.yielded (into_iter_items c.next.new.self) c.in-Some.component (level_tree c.in-Level.number) (ap component_tree c.in-Level.is) all level_tree at.level (search rules) at.invariant.2.1 c.duplicate_field-then-is_some-2.result.kind

pub loop-component-preserved-else-is_some-2 : goal.loop-component-preserved-else-is_some-2
loop-component-preserved-else-is_some-2 c =
    let at = c.loop-component in
    let steps : into_iter_items at.component-iterator ≡ c.in-Some.component ∷ into_iter_items c.next.new.self = c.in-Some.ensures.steps.0 in (
      append_assoc at.yielded (c.in-Some.component ∷ []) _ ∙ rw (← steps) at.invariant.0,
      let was = at.invariant.1 in
          let gone = c.in-Some.ensures.steps.1 in
          let short = ap length steps in
          omega arith,
      rw (c.replace-in-Level.ensures.after, c.in-Level.is) (appended_level at.yielded at.time at.level at.confirmed at.invariant.2 c.in-Level.number (search rules)),
      there_still at.time at.yielded c.in-Some.component at.invariant.3,
    )

pub returns-then-is_some-3-clause-makes : goal.returns-then-is_some-3-clause-makes
returns-then-is_some-3-clause-makes c =
    let at = c.loop-component in
    let steps : into_iter_items at.component-iterator ≡ c.in-Some.component ∷ into_iter_items c.next.new.self = c.in-Some.ensures.steps.0 in
    let all = sym c.into_iter-component-iterator.ensures.into_iter_gives.0 ∙ (sym at.invariant.0 ∙ ap (λ l. at.yielded ++ l) steps) in
    component_twice component_tree event_parts 2 tt c.args.components.items at.yielded (into_iter_items c.next.new.self) c.in-Some.component (bool_tree c.in-Confirmed.truth) (ap component_tree c.in-Confirmed.is) all bool_tree at.confirmed (search rules) at.invariant.2.2 c.duplicate_field-then-is_some-3.result.kind

pub loop-component-preserved : goal.loop-component-preserved
loop-component-preserved c =
    let at = c.loop-component in
    let steps : into_iter_items at.component-iterator ≡ c.in-Some.component ∷ into_iter_items c.next.new.self = c.in-Some.ensures.steps.0 in (
      append_assoc at.yielded (c.in-Some.component ∷ []) _ ∙ rw (← steps) at.invariant.0,
      let was = at.invariant.1 in
          let gone = c.in-Some.ensures.steps.1 in
          let short = ap length steps in
          omega arith,
      rw (c.replace-in-Confirmed.ensures.after, c.in-Confirmed.is) (appended_confirmed at.yielded at.time at.level at.confirmed at.invariant.2 c.in-Confirmed.truth (search rules)),
      there_still at.time at.yielded c.in-Some.component at.invariant.3,
    )

pub returns-in_default-clause-makes : goal.returns-in_default-clause-makes
returns-in_default-clause-makes c =
    let at = c.loop-component in
    let gone : into_iter_items at.component-iterator ≡ [] = nothing_left _ (sym at.invariant.1 ∙ c.in-None.ensures.steps.0) in
    let all = sym (append-nil at.yielded) ∙ (rw gone at at.invariant.0 ∙ c.into_iter-component-iterator.ensures.into_iter_gives.0) in
    no_time c.args.components.items at.yielded all at.time (search rules) at.invariant.2.0 c.missing_field.result.kind

pub returns-clause-makes : goal.returns-clause-makes
returns-clause-makes c =
    let at = c.loop-component in
    let gone : into_iter_items at.component-iterator ≡ [] = nothing_left _ (sym at.invariant.1 ∙ c.in-None.ensures.steps.0) in
    let all = sym (append-nil at.yielded) ∙ (rw gone at at.invariant.0 ∙ c.into_iter-component-iterator.ensures.into_iter_gives.0) in
    all_there c.args.components.items at.yielded all c.in-Some-time.time _ at.time at.level at.confirmed c.in-Some-time.is (search rules) at.invariant.2

pub returns-clause-beyond : goal.returns-clause-beyond
returns-clause-beyond c =
    let at = c.loop-component in
    let gone : into_iter_items at.component-iterator ≡ [] = nothing_left _ (sym at.invariant.1 ∙ c.in-None.ensures.steps.0) in
    let all = sym (append-nil at.yielded) ∙ (rw gone at at.invariant.0 ∙ c.into_iter-component-iterator.ensures.into_iter_gives.0) in
    subst (λ l. Contains l (At c.in-Some-time.time)) all (subst (λ h. IsThere h at.yielded) c.in-Some-time.is at.invariant.3)

pub returns-then-is_some-clause-named : goal.returns-then-is_some-clause-named
returns-then-is_some-clause-named c =
    let at = c.loop-component in
    let steps : into_iter_items at.component-iterator ≡ c.in-Some.component ∷ into_iter_items c.next.new.self = c.in-Some.ensures.steps.0 in
    let all = sym c.into_iter-component-iterator.ensures.into_iter_gives.0 ∙ (sym at.invariant.0 ∙ ap (λ l. at.yielded ++ l) steps) in
    named_twice 0 tt c.args.components.items at.yielded (into_iter_items c.next.new.self) c.in-Some.component (time_tree c.in-At.moment) (ap component_tree c.in-At.is) all time_tree at.time (search rules) at.invariant.2.0
    (slots_once at.yielded at.time at.level at.confirmed at.invariant.2) c.args.codec _ c.duplicate_field.ensures

pub returns-then-is_some-2-clause-named : goal.returns-then-is_some-2-clause-named
returns-then-is_some-2-clause-named c =
    let at = c.loop-component in
    let steps : into_iter_items at.component-iterator ≡ c.in-Some.component ∷ into_iter_items c.next.new.self = c.in-Some.ensures.steps.0 in
    let all = sym c.into_iter-component-iterator.ensures.into_iter_gives.0 ∙ (sym at.invariant.0 ∙ ap (λ l. at.yielded ++ l) steps) in
    named_twice 1 tt c.args.components.items at.yielded (into_iter_items c.next.new.self) c.in-Some.component (level_tree c.in-Level.number) (ap component_tree c.in-Level.is) all level_tree at.level (search rules) at.invariant.2.1
    (slots_once at.yielded at.time at.level at.confirmed at.invariant.2) c.args.codec _ c.duplicate_field-then-is_some-2.ensures

pub returns-then-is_some-3-clause-named : goal.returns-then-is_some-3-clause-named
returns-then-is_some-3-clause-named c =
    let at = c.loop-component in
    let steps : into_iter_items at.component-iterator ≡ c.in-Some.component ∷ into_iter_items c.next.new.self = c.in-Some.ensures.steps.0 in
    let all = sym c.into_iter-component-iterator.ensures.into_iter_gives.0 ∙ (sym at.invariant.0 ∙ ap (λ l. at.yielded ++ l) steps) in
    named_twice 2 tt c.args.components.items at.yielded (into_iter_items c.next.new.self) c.in-Some.component (bool_tree c.in-Confirmed.truth) (ap component_tree c.in-Confirmed.is) all bool_tree at.confirmed (search rules) at.invariant.2.2
    (slots_once at.yielded at.time at.level at.confirmed at.invariant.2) c.args.codec _ c.duplicate_field-then-is_some-3.ensures

pub returns-in_default-clause-named : goal.returns-in_default-clause-named
returns-in_default-clause-named c =
    let at = c.loop-component in
    let gone : into_iter_items at.component-iterator ≡ [] = nothing_left _ (sym at.invariant.1 ∙ c.in-None.ensures.steps.0) in
    let all = sym (append-nil at.yielded) ∙ (rw gone at at.invariant.0 ∙ c.into_iter-component-iterator.ensures.into_iter_gives.0) in
    named_missing c.args.components.items at.yielded all at.time (search rules) at.level at.confirmed at.invariant.2 c.args.codec _ c.missing_field.ensures

use Rattle.std.proofs.Common.{rules, ◌≡◌}
use Rattle.std.proofs.lemmas.List.Sorted.{answers_always}
use Rattle.rasn_enc.specs.declared.ber.enc.set_parts.SetComponent.{SetComponent}
use Rattle.rasn_enc.proofs.Sorting.{sorted_alike, stable_alike}
use Rattle.rasn_enc.proofs.TagOrder.{same_order}
use Rattle.rasn_enc.proofs.OwnTypes.SortedSet.{is_below_in, held_sorted}
use Rattle.rasn_enc.proofs.ber.enc.set_parts.unknown_components.Goals as goal

pub returns-in-Ok-clause-ok : goal.returns-in-Ok-clause-ok
returns-in-Ok-clause-ok c =
    held_sorted c.args.values.now _ _ c.in_ok-components.ensures.ok
    (sorted_alike _ is_below_in (λ x y. same_order x.tag y.tag) _ (c.in-Ok.ensures.sorted (λ (x : SetComponent). x.tag) (answers_always _ (λ a r. r ≡ a.0.now.tag) _ (λ f a r h k. search rules))))
    (stable_alike _ is_below_in (λ x y. same_order x.tag y.tag) _ _ (c.sort_by_key.ensures.stable (λ (x : SetComponent). x.tag) (answers_always _ (λ a r. r ≡ a.0.now.tag) _ (λ f a r h k. search rules))))

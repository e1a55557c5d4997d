use Rattle.std.proofs.Common.{◌≡◌, ◌++◌, length, map}
use Rattle.std.specs.Vec.Iter.{into_iter_items, into_iter_len}
use Rattle.rasn_examples.specs.Event.{component_tree}
use Rattle.rasn_examples.proofs.EventComponents.{Slots, IsThere}
use Rattle.rasn_examples.proofs.event.gather.Given as goal

abbrev pub invariant-loop-component : goal.invariant-loop-component
invariant-loop-component l = (l.yielded ++ into_iter_items l.component-iterator ≡ into_iter_items l.initial.component-iterator)
    × (into_iter_len l.component-iterator ≡ length (into_iter_items l.component-iterator))
    × Slots l.time l.level l.confirmed (map component_tree l.yielded)
    × IsThere l.time l.yielded

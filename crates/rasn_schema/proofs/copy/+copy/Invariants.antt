use Rattle.std.proofs.Common.{take, ◌≤◌}
use Rattle.rasn_types.specs.Order.{Each}
use Rattle.rasn_schema.specs.declared.value.Value.{size-Value}
use Rattle.rasn_schema.specs.Copies.{IsCopy}
use Rattle.rasn_schema.proofs.Copies.{CopiesInside}
use Rattle.rasn_schema.proofs.copy.+copy.Given as goal

abbrev pub invariant-copies_of-loop-value : goal.invariant-copies_of-loop-value
invariant-copies_of-loop-value l = Each IsCopy (take l.value-index l.values) l.copies.items

abbrev pub invariant-copy_of-loop-inner : goal.invariant-copy_of-loop-inner
invariant-copy_of-loop-inner l = record {
  copies : CopiesInside l.indices.items l.inner l.value;
  deep : size-Value l.inner ≤ size-Value l.value;
}

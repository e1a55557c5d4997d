use Rattle.std.proofs.Common.{◌≡◌, ◌≤◌, take, Some}
use Rattle.std.specs.Prelude.{slice_get, count_by}
use Rattle.rasn_types.specs.Bytes.{Same}
use Rattle.rasn_schema.specs.declared.value.Value.{Value, size-Value}
use Rattle.rasn_schema.specs.Trees.{tree_of}
use Rattle.rasn_schema.specs.Equal.{value_eq}
use Rattle.rasn_schema.proofs.EqualLists.{TellsWhole}
use Rattle.rasn_schema.proofs.Lists.{SoFar}
use Rattle.rasn_schema.proofs.equal.+same.Given as goal

abbrev pub invariant-are_same-loop-index : goal.invariant-are_same-loop-index
invariant-are_same-loop-index l = SoFar (λ j v. (w : Value) → Some w ≡ slice_get l.others j → Same (tree_of v) (tree_of w)) l.values l.index

abbrev pub invariant-hold_same-loop-value : goal.invariant-hold_same-loop-value
invariant-hold_same-loop-value l = SoFar (λ j v. count_by (value_eq v) l.values ≡ count_by (value_eq v) l.others) l.values l.value-index

abbrev pub invariant-count-loop-other : goal.invariant-count-loop-other
invariant-count-loop-other l = l.count ≡ count_by (value_eq l.value) (take l.other-index l.these)

abbrev pub invariant-is_same-loop-own : goal.invariant-is_same-loop-own
invariant-is_same-loop-own l = record {
  tells : TellsWhole l.own l.its l.value l.other;
  deep : size-Value l.own ≤ size-Value l.value;
}

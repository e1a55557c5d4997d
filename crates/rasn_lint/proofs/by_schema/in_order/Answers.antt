use Rattle.std.proofs.Common.{rules}
use Rattle.std.proofs.lemmas.List.Sorted.{IsNonDecreasingBy-from_sort_by_key}
use Rattle.rasn_lint.specs.Lint.{offset_of}
use Rattle.rasn_lint.proofs.by_schema.in_order.Goals as goal

pub returns : goal.returns
returns c = (c.sort_by_key.ensures.permutation, IsNonDecreasingBy-from_sort_by_key offset_of _ c.in_ok-sort_by_key.ensures.sorted (λ a r q k. search rules))

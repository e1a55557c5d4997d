use Rattle.std.proofs.Common.{◌≡◌, ◌≤◌, ◌+◌, ◌++◌, ℕ, List, length}
use Rattle.rasn_lint.specs.Listed.{IsListedUpTo}
use Rattle.rasn_lint.specs.Open.{GrowsUnknown}
use Rattle.rasn_lint.specs.Untyped.{FollowsAfter}
use Rattle.rasn_lint.specs.declared.open.Wanted.TheVariants.{All}
use Rattle.rasn_lint.proofs.open.note_each.Given as goal

abbrev pub invariant-values : goal.invariant-values
invariant-values l = record {
  split : (front : List ℕ) × (l.octets ≡ front ++ l.rest);
  grows : GrowsUnknown l.way.len l.way.part.now l.way.path.now l.fn.list.items l.list.items;
  reached : (k : ℕ) × FollowsAfter k l.octets l.rest;
  left : length l.rest + l.index ≤ length l.octets;
  listed : l.wanted ≡ All → IsListedUpTo l.octets l.rest l.fn.list.items l.list.items;
}

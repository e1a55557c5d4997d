use Rattle.std.proofs.Common.{◌≡◌, ◌≤◌, ◌+◌, [], length}
use Rattle.rasn_lint.specs.Listed.{AreSome, octets_left}
use Rattle.rasn_lint.specs.Open.{GrowsInside, AllPending}
use Rattle.rasn_lint.proofs.Listed.{IsOwed}
use Rattle.rasn_lint.proofs.open.look_along.Given as goal

abbrev pub invariant-encodings : goal.invariant-encodings
invariant-encodings l = record {
  grows : GrowsInside l.way.len l.way.part.now l.way.path.now l.encodings.octets.now l.fn.list.items l.list.items;
  all : AllPending l.way.part.now l.encodings.octets.now l.path.items l.pending.items;
  some : (l.encodings.octets.now ≡ [] → ⊥) → AreSome l.pending.items;
  left : octets_left l.pending.items + l.index ≤ length l.encodings.octets.now;
  owed : IsOwed l.encodings.octets.now l.path.items l.pending.items l.fn.list.items l.list.items;
}

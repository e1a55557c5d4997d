use Rattle.std.proofs.Common.{◌≡◌, ◌-◌, length}
use Rattle.rasn_c.proofs.Rows.{Completes}
use Rattle.rasn_c.proofs.listing.listing_of.Given as goal

abbrev pub invariant-walk : goal.invariant-walk
invariant-walk l = record {
  same_list : l.parts.list ≡ l.fn.parts.list;
  same_input : l.parts.input.now ≡ l.fn.parts.input.now;
  rows : Completes l.schema.types.items l.root.0 l.parts.input.now l.parts.list.items l.parts.next l.parts.path.items l.listing.parts.items l.listing.names.items;
}

abbrev pub decreases-walk : goal.decreases-walk
decreases-walk l = length l.parts.list.items - l.parts.next

-- The octets of a number, inline or on the heap.
use Rattle.std.specs.Prelude.{ℕ, List, take}
use Rattle.rasn_types.specs.declared.types.integer.small_octets.InlineOctets.{InlineOctets}
use Rattle.rasn_types.specs.declared.types.integer.small_octets.Storage.{Storage}
use Rattle.rasn_types.specs.declared.types.integer.small_octets.Storage.TheVariants.{Inline, Allocated}

abbrev pub inline_octets : InlineOctets → List ℕ
inline_octets few = take few.count few.octets

abbrev pub stored_octets : Storage → List ℕ
stored_octets (Inline few) = inline_octets few
stored_octets (Allocated octets) = octets.items

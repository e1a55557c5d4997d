use Rattle.std.proofs.Common.{◌+◌, ◌-◌, ◌≤◌, length, vec_len, vec_capacity}
use Rattle.rasn_types.proofs.BitString.Bits.{Shifting}
use Rattle.rasn_types.proofs.types.bits.packing.push_shifted.Given as goal

abbrev pub invariant-loop-octet : goal.invariant-loop-octet
invariant-loop-octet l = record {
  room : vec_len l.out + (1 + (length l.more - l.octet-index)) ≤ vec_capacity l.out;
  shifting : Shifting l.bits l.first l.more l.fn.out.items l.octet-index l.previous l.out.items;
}

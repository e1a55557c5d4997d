use Rattle.std.proofs.Common.{◌≡◌, ◌+◌, ◌<◌, ◌≤◌, ◌++◌, vec_len, vec_capacity}
use Rattle.rasn_enc.specs.Headers.{digits, chained, group_count}
use Rattle.rasn_enc.proofs.ber.enc.writer.base_128.write_groups.Given as goal

abbrev pub invariant-loop-left : goal.invariant-loop-left
invariant-loop-left l = record {
  some : 0 < l.left;
  few : l.left < 6;
  room : vec_len l.out + l.left ≤ vec_capacity l.out;
  capacity : vec_capacity l.out ≡ vec_capacity l.fn.out;
  written : l.out.items ++ chained (digits 128 l.left l.number) ≡ l.fn.out.items ++ chained (digits 128 (group_count l.number) l.number);
}

abbrev pub decreases-loop-left : goal.decreases-loop-left
decreases-loop-left l = l.left

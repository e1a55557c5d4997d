use Rattle.std.proofs.Common.{◌≡◌, ◌+◌, ◌<◌, ◌≤◌, ◌++◌, vec_len, vec_capacity}
use Rattle.rasn_enc.specs.Headers.{digits, octet_count}
use Rattle.rasn_enc.proofs.ber.enc.writer.headers.write_octets.Given as goal

abbrev pub invariant-loop-left : goal.invariant-loop-left
invariant-loop-left l = record {
  few : l.left < 9;
  room : vec_len l.out + l.left ≤ vec_capacity l.out;
  capacity : vec_capacity l.out ≡ vec_capacity l.fn.out;
  written : l.out.items ++ digits 256 l.left l.number ≡ l.fn.out.items ++ digits 256 (octet_count l.number) l.number;
}

abbrev pub decreases-loop-left : goal.decreases-loop-left
decreases-loop-left l = l.left

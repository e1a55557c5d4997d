use Rattle.std.proofs.Common.{◌≡◌, ◌≤◌, length, take}
use Rattle.rasn_types.specs.BitString.{significant}
use Rattle.rasn_types.proofs.types.bits.bit_str.BitStr.significant_len.Given as goal

abbrev pub invariant-loop-len : goal.invariant-loop-len
invariant-loop-len l = record {
  within : l.len ≤ length l.self;
  same : significant (take l.len l.self) ≡ significant l.self;
}

abbrev pub decreases-loop-len : goal.decreases-loop-len
decreases-loop-len l = l.len

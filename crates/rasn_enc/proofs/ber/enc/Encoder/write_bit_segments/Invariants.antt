use Rattle.std.proofs.Common.{◌<◌, length}
use Rattle.rasn_types.specs.Tags.{in_universal}
use Rattle.rasn_types.specs.Bytes.{WrittenBits}
use Rattle.rasn_enc.proofs.Leaves.Segments.{SegmentsSoFar}
use Rattle.rasn_enc.proofs.ber.enc.Encoder.write_bit_segments.Given as goal

abbrev pub invariant-loop-rest : goal.invariant-loop-rest
invariant-loop-rest l = record {
  some : 0 < length l.rest;
  so_far : SegmentsSoFar WrittenBits 7992 (in_universal 3) l.value l.rest l.fn.self l.self;
}

abbrev pub decreases-loop-rest : goal.decreases-loop-rest
decreases-loop-rest l = length l.rest

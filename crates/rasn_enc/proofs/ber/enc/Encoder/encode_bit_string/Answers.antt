use Rattle.std.proofs.lemmas.Result.{on_ok_weaker}
use Rattle.rasn_types.specs.Tags.{in_universal}
use Rattle.rasn_types.specs.Bytes.{WrittenBits}
use Rattle.rasn_enc.proofs.Leaves.Segments.{in_one, in_segments}
use Rattle.rasn_enc.proofs.Leaves.BitString.{bits_encoded}
use Rattle.rasn_enc.proofs.ber.enc.Encoder.encode_bit_string.Goals as goal

pub returns-then-is_cut-clause-ok : goal.returns-then-is_cut-clause-ok
returns-then-is_cut-clause-ok c = bits_encoded _ c.args.tag c.args.constraints.now c.args.value.now _ _ (rw c.len.ensures at c.in_ok-check_size.ensures.ok)
    (on_ok_weaker c.append_bit_segments.result (λ p. in_segments WrittenBits 7992 (in_universal 3) _ _ _ _ c.if-is_cut.ensures.0 (rw c.len-2.ensures at c.if-is_cut.ensures.1) p) c.append_bit_segments.ensures.ok)

pub returns-clause-ok : goal.returns-clause-ok
returns-clause-ok c = bits_encoded _ c.args.tag c.args.constraints.now c.args.value.now _ _ (rw c.len.ensures at c.in_ok-check_size.ensures.ok)
    (on_ok_weaker c.append_bits.result (λ a. in_one WrittenBits 7992 (in_universal 3) _ _ _ _ (rw c.len-2.ensures at c.if-is_cut.ensures) a) c.append_bits.ensures.ok)

use Rattle.std.proofs.Common.{◌∙◌, ap, length, arith, refl}
use Rattle.std.proofs.lemmas.List.{length-take-le, length-drop}
use Rattle.std.proofs.lemmas.Result.{on_ok_weaker}
use Rattle.rasn_types.specs.Tags.{in_universal}
use Rattle.rasn_types.specs.Bytes.{WrittenBits}
use Rattle.rasn_enc.proofs.Leaves.Segments.{segments_more, segments_done, cut_at}
use Rattle.rasn_enc.proofs.ber.enc.Encoder.write_bit_segments.Goals as goal

pub loop-rest-preserved : goal.loop-rest-preserved
loop-rest-preserved c =
    let s = c.split_at-segment in
    let n = ap length s.ensures.back ∙ length-drop 7992 c.loop-rest.rest in
    record {
      some = omega (arith, c.len.ensures, n);
      so_far = segments_more WrittenBits 7992 (in_universal 3) _ _ _ _ _ c.loop-rest.invariant.so_far s.result.0 c.in_ok-append_bits.ensures.ok s.result.1
          (cut_at 7992 c.loop-rest.rest s.result.0 s.result.1 s.ensures.front s.ensures.back)
          (ap length s.ensures.front ∙ length-take-le 7992 c.loop-rest.rest (omega (arith, c.len.ensures)));
    }

pub loop-rest-smaller : goal.loop-rest-smaller
loop-rest-smaller c = omega (arith, c.len.ensures, ap length c.split_at-segment.ensures.back ∙ length-drop 7992 c.loop-rest.rest)

pub returns-clause-ok : goal.returns-clause-ok
returns-clause-ok c = on_ok_weaker c.append_bits-2.result (λ a. segments_done WrittenBits 7992 (in_universal 3) _ _ _ _ _ c.loop-rest.invariant.so_far c.loop-rest.rest a refl
    c.loop-rest.invariant.some (omega (arith, c.len.ensures))) c.append_bits-2.ensures.ok

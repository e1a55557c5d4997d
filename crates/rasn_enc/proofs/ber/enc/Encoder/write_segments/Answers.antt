use Rattle.std.proofs.Common.{ℕ, ◌<◌, List, get_or, arith, refl, subst, Ok}
use Rattle.std.proofs.lemmas.Result.{on_ok_weaker}
use Rattle.rasn_types.specs.Tags.{in_universal}
use Rattle.rasn_types.specs.Framing.{AreOctets}
use Rattle.rasn_types.specs.Contents.{joined_lists}
use Rattle.rasn_types.specs.Bytes.{WritesOctets}
use Rattle.rasn_types.proofs.Headers.Digits.{front_octets}
use Rattle.rasn_enc.specs.View.{View}
use Rattle.rasn_enc.proofs.Buffer.Octets.{octets_all}
use Rattle.rasn_enc.proofs.Leaves.Primitive.{exactly}
use Rattle.rasn_enc.proofs.Leaves.Segments.{SegmentsSoFar, appends_piece, segments_more, segments_done, cut_at}
use Rattle.rasn_enc.proofs.ber.enc.Encoder.write_segments.Goals as goal

rest_octets : (xs rest : List ℕ) (v w : View) → SegmentsSoFar WritesOctets 1000 (in_universal 4) xs rest v w → ((i : ℕ) → get_or xs i 0 < 256) → AreOctets rest
rest_octets xs rest v w k h = (front_octets (joined_lists k.pieces) rest (subst AreOctets k.is (octets_all xs h))).1

pub loop-rest-preserved : goal.loop-rest-preserved
loop-rest-preserved c =
    let k = c.loop-rest.invariant.so_far in
    let piece = c.split_at.result.0.now in
    let e = cut_at 1000 c.loop-rest.rest.now piece c.split_at.result.1.now c.split_at.ensures.front c.split_at.ensures.back in
    let o = (front_octets piece c.split_at.result.1.now (subst AreOctets e (rest_octets _ _ _ _ k (λ i. omega (arith, c.type_inv.value i))))).0 in
    record {
      some = omega arith;
      so_far = segments_more WritesOctets 1000 (in_universal 4) _ _ _ _ _ k piece (appends_piece WritesOctets (in_universal 4) piece piece _ _ (refl, o) (exactly {R = Unit {0}} {E = Unit {0}} (Ok tt) piece (in_universal 4) _ _ c.in_ok-leaf.ensures.ok))
          c.split_at.result.1.now e (omega arith);
    }

pub returns-clause-ok : goal.returns-clause-ok
returns-clause-ok c =
    let k = c.loop-rest.invariant.so_far in
    let piece = c.loop-rest.rest.now in
    let o = rest_octets _ _ _ _ k (λ i. omega (arith, c.type_inv.value i)) in
    on_ok_weaker c.leaf-2.result (λ a. segments_done WritesOctets 1000 (in_universal 4) _ _ _ _ _ k piece (appends_piece WritesOctets (in_universal 4) piece piece _ _ (refl, o) a)
    refl c.loop-rest.invariant.some (omega arith)) (exactly c.leaf-2.result piece (in_universal 4) _ _ c.leaf-2.ensures.ok)

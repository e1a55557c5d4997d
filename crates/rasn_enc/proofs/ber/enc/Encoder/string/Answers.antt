use Rattle.std.proofs.Common.{arith}
use Rattle.std.proofs.lemmas.Result.{on_ok_weaker}
use Rattle.rasn_types.specs.Tags.{in_universal}
use Rattle.rasn_types.specs.Bytes.{WritesOctets}
use Rattle.rasn_enc.proofs.Buffer.Octets.{octets_all}
use Rattle.rasn_enc.proofs.Leaves.Primitive.{exactly}
use Rattle.rasn_enc.proofs.Leaves.Segments.{in_segments}
use Rattle.rasn_enc.proofs.Leaves.CharacterString.{octets_in_one}
use Rattle.rasn_enc.proofs.ber.enc.Encoder.string.Goals as goal

pub returns-then-is_cut-clause-ok : goal.returns-then-is_cut-clause-ok
returns-then-is_cut-clause-ok c = on_ok_weaker c.append_segments.result (λ p. record {
  admitted = c.in_ok-check_size.ensures.ok;
  appends = in_segments WritesOctets 1000 (in_universal 4) c.args.tag c.args.octets.now _ _ c.if-is_cut.ensures.0 c.if-is_cut.ensures.1 p;
}) c.append_segments.ensures.ok

pub returns-clause-ok : goal.returns-clause-ok
returns-clause-ok c = on_ok_weaker c.leaf.result (λ a. record {
  admitted = c.in_ok-check_size.ensures.ok;
  appends = octets_in_one c.args.tag c.args.octets.now _ _ (octets_all c.args.octets.now (λ i. omega (arith, c.type_inv.octets i))) c.if-is_cut.ensures a;
}) (exactly c.leaf.result c.args.octets.now c.args.tag _ _ c.leaf.ensures.ok)
